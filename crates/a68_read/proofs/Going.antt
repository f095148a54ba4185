-- Goals one after another, and how much is to be done for them.
use Rattle.std.proofs.Common.{◌≡◌, ℕ, ◌+◌, ◌<◌, Bool, true, false, Option, Some, List, [], ◌∷◌, ◌++◌, reverse, refl, sym, ap, subst, ◌∙◌, arith, nat_lt, not, ◌&&◌, ◌||◌, if◌then◌else◌}
use Rattle.std.proofs.lemmas.Bool.{false≢true, ltb-true}
use Rattle.std.proofs.lemmas.List.{reverse-append}
use Rattle.a68_symbols.specs.declared.sym.Sym.{Sym}
use Rattle.a68_nodes.specs.Views.{DraftState}
use Rattle.a68_unit_productions.specs.declared.goal.Goal.{Goal}
use Rattle.a68_unit_productions.specs.declared.goal.Goal.TheVariants as g
use Rattle.a68_productions.specs.Expand.{expand}
use Rattle.a68_read.specs.Fits.{Shape, fits, all_fit}
use Rattle.a68_read.specs.Awaits.{Awaited, awaits, all_await}
use Rattle.a68_read.specs.Weights.{weight, weights, is_sure, has_sure, is_lighter}
use Rattle.a68_read.proofs.Steps.{OnGoals, fits_on, awaits_on}
use Rattle.a68_read.proofs.Lighter.{lighter_on}
use Rattle.a68_read.specs.Acts.{is_acting}
use Rattle.a68_read.specs.Readings.{IsWhole, IsEnd, Reading}

fit_same : (K : Shape) (xs ys : List Goal) → all_fit xs (all_fit ys K) ≡ all_fit (xs ++ ys) K
fit_same K [] ys = refl
fit_same K (x ∷ xs) ys = ap (fits x) (fit_same K xs ys)

await_same : (K : Awaited) (xs ys : List Goal) → all_await xs (all_await ys K) ≡ all_await (xs ++ ys) K
await_same K [] ys = refl
await_same K (x ∷ xs) ys = ap (awaits x) (await_same K xs ys)

-- a form is what it is made of
pub expanded : (goal : Goal) (more goals : List Goal) (rest whole : List Sym) (s : DraftState) → expand goal rest ≡ Some more → Reading whole (goal ∷ goals) rest s → Reading whole (more ++ goals) rest s
expanded goal more goals rest whole s e r =
    let on : OnGoals (Some more) (λ xs. all_fit xs (all_fit goals IsWhole) r.stack) =
    subst (λ (o : Option (List Goal)). OnGoals o (λ xs. all_fit xs (all_fit goals IsWhole) r.stack)) e (fits_on (all_fit goals IsWhole) goal r.stack rest r.fits) in
    record {
      stack = r.stack;
      built = r.built;
      fits = subst (λ (F : Shape). F r.stack) (fit_same IsWhole more goals) on;
      awaits = λ j u p q.
          let go : OnGoals (Some more) (λ xs. all_await xs (all_await goals (IsEnd j u)) r.stack rest) =
          subst (λ (o : Option (List Goal)). OnGoals o (λ xs. all_await xs (all_await goals (IsEnd j u)) r.stack rest)) e
          (awaits_on (all_fit goals IsWhole) (all_await goals (IsEnd j u)) goal r.stack rest r.fits (r.awaits j u p q)) in
          subst (λ (F : Awaited). F r.stack rest) (await_same (IsEnd j u) more goals) go;
    }

-- ---- how much is to be done

abbrev behind : Bool → ℕ → ℕ
behind sure n = if sure then 0 else n

weights_append : (xs ys : List Goal) → weights (xs ++ ys) ≡ weights xs + behind (has_sure xs) (weights ys)
weights_append [] ys = omega (arith)
weights_append (x ∷ xs) ys = by (is_sure x) (weights_append xs ys)
  where
    by : (b : Bool) → weights (xs ++ ys) ≡ weights xs + behind (has_sure xs) (weights ys)
        → weight x + behind b (weights (xs ++ ys)) ≡ weight x + behind b (weights xs) + behind (b || has_sure xs) (weights ys)
    by true h = omega (arith)
    by false h = omega (arith, h)

lighter_by : (a b c n : ℕ) (sure has l : Bool) → (l && (has || not sure)) ≡ true → l ≡ nat_lt a b → c ≡ a + behind has n → c < b + behind sure n
lighter_by a b c n sure has false e f h = absurd (false≢true e)
lighter_by a b c n true true true e f h = let d = ltb-true a b (sym f) in omega (arith, d, h)
lighter_by a b c n true false true e f h = absurd (false≢true e)
lighter_by a b c n false true true e f h = let d = ltb-true a b (sym f) in omega (arith, d, h)
lighter_by a b c n false false true e f h = let d = ltb-true a b (sym f) in omega (arith, d, h)

pub lighter : (goal : Goal) (more goals : List Goal) (rest : List Sym) → expand goal rest ≡ Some more → weights (more ++ goals) < weights (goal ∷ goals)
lighter goal more goals rest e =
    let on : OnGoals (Some more) (λ xs. is_lighter goal xs ≡ true) = subst (λ (o : Option (List Goal)). OnGoals o (λ xs. is_lighter goal xs ≡ true)) e (lighter_on goal rest) in
    lighter_by (weights more) (weight goal) (weights (more ++ goals)) (weights goals) (is_sure goal) (has_sure more) (nat_lt (weights more) (weight goal)) on refl (weights_append more goals)

pub act_lighter : (goal : Goal) (goals : List Goal) → is_acting goal ≡ true → weights goals < weights (goal ∷ goals)
act_lighter g.Begin goals e = omega (arith)
act_lighter g.Leave goals e = omega (arith)
act_lighter (g.Wrap x) goals e = omega (arith)
act_lighter g.Relate goals e = omega (arith)
act_lighter g.WrapLong goals e = omega (arith)
act_lighter g.Leap goals e = omega (arith)
act_lighter (g.Close x) goals e = omega (arith)
act_lighter (g.SetAside x) goals e = omega (arith)
act_lighter g.Share goals e = omega (arith)
act_lighter g.Forget goals e = omega (arith)
act_lighter g.Join goals e = omega (arith)
act_lighter goal goals e = absurd (false≢true e)

-- the last goal of the list is the first one of the stack
pub popped : (old new : List Goal) (goal : Goal) → old ≡ new ++ goal ∷ [] → reverse old ≡ goal ∷ reverse new
popped old new goal e = ap reverse e ∙ reverse-append new (goal ∷ [])
