-- No turn lends a strand.
use Rattle.std.proofs.Common.{◌≡◌, ◌∙◌, ◌<◌, ◌≤◌, ◌⊎◌, inl, inr, ℕ, zero, suc, true, List, [], ◌∷◌, None, Some, IsTrue, refl, sym, ap, subst, arith, slice_get}
use Rattle.std.proofs.lemmas.Bool.{cases_lt, false≢true}
use Rattle.std.specs.declared.option.Option.{Option}
use Rattle.a68_code.specs.declared.code.Code.{Code}
use Rattle.a68_values.specs.declared.kept.End.{End}
use Rattle.a68_workers.specs.Runs.{IsAtRest, none_lent}
use Rattle.a68_world.specs.Alone.{GoneAlone}
use Rattle.a68_world.specs.Run.{Run, IsNumber, RunBegins}
use Rattle.a68_world.specs.Turns.{Acts, EndsHere, HadEnded, FindsNoMemory, IsLeftUndone, IsSpentBy, TurnOf}
use Rattle.a68_world.specs.declared.status.StrandState.{StrandState}
use Rattle.a68_world.specs.declared.status.StrandState.TheVariants as status
use Rattle.a68_world.specs.declared.turned.Turned.{Turned}
use Rattle.a68_world.specs.declared.turned.Turned.TheVariants as turned

-- where the strands are is the same
same-status : (old new : Run) → new.status ≡ old.status → IsAtRest old → IsAtRest new
same-status old new same rest k lent = rest k (ap (λ (l : List StrandState). slice_get l k) (sym same) ∙ lent)

same_run : (old new : Run) → new ≡ old → IsAtRest old → IsAtRest new
same_run old new same rest = same-status old new (ap (λ (r : Run). r.status) same) rest

module _ (old new : Run) (n : ℕ) (rest : IsAtRest old) (own : IsNumber new n status.Lent → ⊥)
    (fresh : (k : ℕ) (s : StrandState) → slice_get old.status k ≡ None → IsNumber new k s → s ≡ status.Home)
    (stays : (k : ℕ) → IsNumber old k status.Home ⊎ IsNumber old k status.Spent → (k ≡ n → ⊥) → IsNumber new k status.Lent → ⊥) where
  other : (k : ℕ) (o : Option StrandState) → slice_get old.status k ≡ o → (k ≡ n → ⊥) → IsNumber new k status.Lent → ⊥
  other k None e apart lent = let is = fresh k status.Lent e lent in absurd (cc)
  other k (Some status.Home) e apart lent = stays k (inl e) apart lent
  other k (Some status.Lent) e apart lent = rest k e
  other k (Some status.Spent) e apart lent = stays k (inr e) apart lent

  each-rests : IsAtRest new
  each-rests k lent = by (cases_lt k n) (cases_lt n k) where
    by : (k < n) ⊎ (n ≤ k) → (n < k) ⊎ (k ≤ n) → ⊥
    by (inl p) q = other k (slice_get old.status k) refl (λ e. omega (arith, e, p)) lent
    by (inr p) (inl q) = other k (slice_get old.status k) refl (λ e. omega (arith, e, q)) lent
    by (inr p) (inr q) = let same : k ≡ n = omega (arith, p, q) in own (subst (λ j. IsNumber new j status.Lent) same lent)

not-lent : (o : Option StrandState) (s : StrandState) → o ≡ Some s → (s ≡ status.Lent → ⊥) → o ≡ Some status.Lent → ⊥
not-lent o s is ne lent = let same : Some s ≡ Some status.Lent = sym is ∙ lent in let it : s ≡ status.Lent = cc in ne it

not_home : {o : Option StrandState} → o ≡ Some status.Home → o ≡ Some status.Lent → ⊥
not_home {o} is lent = not-lent o status.Home is (λ e. cc) lent

not_spent : {o : Option StrandState} → o ≡ Some status.Spent → o ≡ Some status.Lent → ⊥
not_spent {o} is lent = not-lent o status.Spent is (λ e. cc) lent

-- an act lends none
pub acts_rests : (old new : Run) (n : ℕ) → Acts old n new → IsAtRest old → IsAtRest new
acts_rests old new n a rest = each-rests old new n rest own a.seated.fresh stays
  where
    own : IsNumber new n status.Lent → ⊥
    own lent = elim a.stays [
      | inl home ↦ not_home home lent
      | inr spent ↦ not_spent spent.0 lent
    ]

    kept : (k : ℕ) (s : StrandState) → (s ≡ status.Lent → ⊥) → IsNumber old k s → (k ≡ n → ⊥) → IsNumber new k status.Lent → ⊥
    kept k s ne at apart lent = elim (a.seated.stays k s at apart) [
      | inl same ↦ not-lent (slice_get new.status k) s same ne lent
      | inr lost ↦ not_spent lost.1 lent
    ]

    stays : (k : ℕ) → IsNumber old k status.Home ⊎ IsNumber old k status.Spent → (k ≡ n → ⊥) → IsNumber new k status.Lent → ⊥
    stays k (inl at) apart lent = kept k status.Home (λ e. cc) at apart lent
    stays k (inr at) apart lent = kept k status.Spent (λ e. cc) at apart lent

spent-rests : (old new : Run) (n : ℕ) → IsSpentBy old n new → IsAtRest old → IsAtRest new
spent-rests old new n s rest = each-rests old new n rest (λ lent. not_spent s.spent lent) s.fresh stays
  where
    stays : (k : ℕ) → IsNumber old k status.Home ⊎ IsNumber old k status.Spent → (k ≡ n → ⊥) → IsNumber new k status.Lent → ⊥
    stays k (inl at) apart lent = not_home (s.stays k status.Home at apart) lent
    stays k (inr at) apart lent = not_spent (s.stays k status.Spent at apart) lent

-- nor does what else a turn comes to
pub over_rests : (old new : Run) (n : ℕ) (e : End) → HadEnded old e new ⊎ EndsHere old n e new → IsAtRest old → IsAtRest new
over_rests old new n e (inl h) rest = same_run old new h.after rest
over_rests old new n e (inr h) rest = same-status old new (ap (λ (r : Run). r.status) h.after) rest

memory-rests : (old new : Run) (n : ℕ) → IsLeftUndone old n new ⊎ IsSpentBy old n new → IsAtRest old → IsAtRest new
memory-rests old new n (inl left) rest = same-status old new (ap (λ (r : Run). r.status) left.after) rest
memory-rests old new n (inr spent) rest = spent-rests old new n spent rest

pub turn_rests : (old new : Run) (n : ℕ) (t : Turned) → TurnOf old n t new → IsAtRest old → IsAtRest new
turn_rests old new n turned.Acted a rest = acts_rests old new n a rest
turn_rests old new n (turned.Over e) h rest = over_rests old new n e h rest
turn_rests old new n turned.NotReady h rest = same_run old new h.after rest
turn_rests old new n turned.NoMemory f rest = memory-rests old new n f.after rest

sole-home : (k : ℕ) → slice_get (status.Home ∷ []) k ≡ Some status.Lent → ⊥
sole-home zero e = cc
sole-home (suc k) e = cc

one-home : (run : Run) → run.status ≡ status.Home ∷ [] → IsAtRest run
one-home run is k lent = sole-home k (ap (λ (l : List StrandState). slice_get l k) (sym is) ∙ lent)

-- nor do the acts of a strand that is alone
pub alone_rests : (old new : Run) → GoneAlone old new → IsAtRest old → IsAtRest new
alone_rests old new (inl same) rest = same_run old new same rest
alone_rests old new (inr a) rest = λ k lent. rest k (sym (ap (λ (l : List StrandState). slice_get l k) a.stays) ∙ lent)

-- at the beginning none is lent
pub begins_rests : (code : Code) (fuel : ℕ) (run : Run) → RunBegins code fuel run → IsAtRest run
begins_rests code fuel run b = one-home run (ap (λ (r : Run). r.status) b.is)

-- ---- a test that computes

none-at : (l : List StrandState) → IsTrue (none_lent l) → (k : ℕ) → slice_get l k ≡ Some status.Lent → ⊥
none-at [] t k e = cc
none-at (status.Lent ∷ l) t k e = absurd (false≢true t)
none-at (status.Home ∷ l) t zero e = cc
none-at (status.Spent ∷ l) t zero e = cc
none-at (status.Home ∷ l) t (suc k) e = none-at l t k e
none-at (status.Spent ∷ l) t (suc k) e = none-at l t k e

is-none : (l : List StrandState) → ((k : ℕ) → slice_get l k ≡ Some status.Lent → ⊥) → IsTrue (none_lent l)
is-none [] rest = refl
is-none (status.Lent ∷ l) rest = absurd (rest 0 refl)
is-none (status.Home ∷ l) rest = is-none l (λ k e. rest (suc k) e)
is-none (status.Spent ∷ l) rest = is-none l (λ k e. rest (suc k) e)

pub at_rest : (run : Run) → IsTrue (none_lent run.status) → IsAtRest run
at_rest run t = none-at run.status t

pub none_is_lent : (run : Run) → IsAtRest run → IsTrue (none_lent run.status)
none_is_lent run rest = is-none run.status rest
