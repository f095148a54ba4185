-- A way comes to no more values than the code has instructions: each step adds one at most, so that there is a place for each
-- height below, and places of different heights differ.
use Rattle.std.proofs.Common.{◌≡◌, ◌<◌, ◌≤◌, ◌+◌, ℕ, zero, suc, arith, Bool, true, false, eqb, List, [], ◌∷◌, length, refl, ap, sym, subst, ⊎_elim}
use Rattle.std.specs.Prelude.{⊤, if◌then◌else◌, ◌||◌, nat_eq}
use Rattle.std.specs.List.{AllByRecursion, IsDistinct, list_any}
use Rattle.std.proofs.lemmas.Bool.{cases_Bool, cases_lt, eqb-true}
use Rattle.std.proofs.lemmas.Map.Steps.{length-le_from_distinct_below}
use Rattle.a68_code.specs.Flow.{Reaches, last_place, leaves_to, takes}
use Rattle.a68_code.specs.Flow.Reaches.{begins, goes_on, lands}
use Rattle.a68_code.specs.Valid.{IsValid}
use Rattle.a68_code.specs.declared.code.Code.{Code}
use Rattle.a68_code.specs.declared.does.Does.{Does}
use Rattle.a68_code.specs.declared.does.Does.TheVariants as does
use Rattle.a68_code.specs.declared.owner.Owner.{Owner}
use Rattle.a68_modes.specs.Nodes.{is_void, shape_at}
use Rattle.a68_modes.specs.declared.shape.Shape.{Shape}

none_or_one : (b : Bool) → (if b then 0 else 1) ≤ 1
none_or_one true = omega arith
none_or_one false = omega arith

-- an instruction leaves at most one value more than it takes
leaves_few : (modes : List Shape) (d : Does) (to : ℕ) → leaves_to modes d to ≤ takes d + 1
leaves_few modes (does.Skip mode) to = none_or_one (is_void (shape_at modes mode))
leaves_few modes (does.Apply row) to = let few = none_or_one (nat_eq row 35 || nat_eq row 36) in omega (arith, few)
leaves_few modes (does.Call count true) to = omega arith
leaves_few modes (does.Call count false) to = omega arith
leaves_few modes (does.Goto place frames height true) to = omega arith
leaves_few modes (does.Goto place frames height false) to = omega arith
leaves_few modes (does.Member mode places whole) to = let few = none_or_one (nat_eq to (last_place places)) in omega (arith, few)
leaves_few modes _ to = omega arith

-- where a way comes to a height, it has come to each lower one somewhere
lower : {code : Code} {whose : Owner} {at h : ℕ} → Reaches code whose at h → (k : ℕ) → k ≤ h → (p : ℕ) × Reaches code whose p k
lower {code = code} {whose = whose} (begins {at = at} i) k few = (at, subst (λ (n : ℕ). Reaches code whose at n) (omega arith) (begins i))
lower {code = code} {whose = whose} (goes_on {to = to} {does = d} below r is i) k few = ⊎_elim
    (λ new. let one = leaves_few code.modes d to in (to, subst (λ (n : ℕ). Reaches code whose to n) (omega (arith, one, few, new)) (goes_on below r is i)))
    (λ old. lower r k old)
    (cases_lt (below + takes d) k)
lower (lands below r is) k few = lower r k (omega (arith, few))

module _ (code : Code) (whose : Owner) (valid : IsValid code) where
  -- places of all heights below the length, the highest one first
  abbrev Rises : List ℕ → Type 0
  Rises [] = ⊤
  Rises (p ∷ ps) = Reaches code whose p (length ps) × Rises ps

  rising : (n : ℕ) → ((k : ℕ) → k < n → (p : ℕ) × Reaches code whose p k) → (ps : List ℕ) × (length ps ≡ n) × Rises ps
  rising zero some = ([], refl, tt)
  rising (suc n) some =
      let rest = rising n (λ k few. some k (omega (arith, few))) in
      let top = some n (omega arith) in
      (top.0 ∷ rest.0, ap (λ (m : ℕ). suc m) rest.1, (subst (λ (m : ℕ). Reaches code whose top.0 m) (sym rest.1) top.1, rest.2))

  -- a place of another height is another one
  differ : (p q h k : ℕ) → Reaches code whose p h → Reaches code whose q k → k < h → eqb p q ≡ false
  differ p q h k r s few = ⊎_elim
      (λ same. let e = valid.agreed whose whose q h k (subst (λ (x : ℕ). Reaches code whose x h) (eqb-true p q same) r) s in absurd (omega (arith, e, few)))
      (λ other. other)
      (cases_Bool (eqb p q))

  apart : (p h : ℕ) → Reaches code whose p h → (ps : List ℕ) → length ps ≤ h → Rises ps → AllByRecursion (λ y. eqb p y ≡ false) ps
  apart p h r [] few rises = tt
  apart p h r (q ∷ ps) few rises = (differ p q h (length ps) r rises.0 few, apart p h r ps (omega (arith, few)) rises.1)

  distinct : (ps : List ℕ) → Rises ps → IsDistinct eqb ps
  unfolding IsDistinct
  distinct [] rises = tt
  distinct (p ∷ ps) rises = (apart p (length ps) rises.0 ps (omega arith) rises.1, distinct ps rises.1)

  inside : (ps : List ℕ) → Rises ps → (q : ℕ) → list_any (eqb q) ps ≡ true → q < length code.list
  inside [] rises q is = absurd (cc)
  inside (p ∷ ps) rises q is = by_test (eqb q p) refl (inside ps rises.1 q) is
    where
      by_test : (b : Bool) → eqb q p ≡ b → (list_any (eqb q) ps ≡ true → q < length code.list) → (b || list_any (eqb q) ps) ≡ true → q < length code.list
      by_test true e later is = subst (λ (x : ℕ). x < length code.list) (sym (eqb-true q p e)) (valid.within whose p (length ps) rises.0)
      by_test false e later is = later is

  -- a way comes to fewer values than there are instructions
  pub few_values : (at h : ℕ) → Reaches code whose at h → h < length code.list
  few_values at h r =
      let t = rising (suc h) (λ k few. lower r k (omega (arith, few))) in
      let most = length-le_from_distinct_below t.0 (length code.list) (distinct t.0 t.2) (inside t.0 t.2) in
      let long = t.1 in
      omega (arith, most, long)
