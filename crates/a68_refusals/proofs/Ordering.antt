-- The order in which broken rules are told: one that is before another is before all that the other is before.
use Rattle.std.proofs.Common.{◌≡◌, ℕ, ◌<◌, ◌⊎◌, ◌||◌, ◌&&◌, inl, inr, Bool, true, false, nat_eq, nat_lt, Option, Some, None, if◌then◌else◌, refl, sym, ap, subst, ◌∙◌, arith}
use Rattle.std.proofs.lemmas.Bool.Decides.{nat_tests}
use Rattle.std.proofs.lemmas.Bool.{false≢true}
use Rattle.a68_refusals.specs.Order.{IsFirstOf, earlier, is_before, less, rank}
use Rattle.a68_refusals.specs.declared.turn.Broken.{Broken}

pub three : (a b : ℕ) → (a < b) ⊎ ((a ≡ b) ⊎ (b < a))
three a b = grind arith

pub less_below : (a b : ℕ) (r : Bool) → a < b → less a b r ≡ true
less_below a b r lt = let e : nat_lt a b ≡ true = grind (arith, nat_tests) in ap (λ x. x || (nat_eq a b && r)) e

pub less_equal : (a b : ℕ) (r : Bool) → a ≡ b → less a b r ≡ r
less_equal a b r eq =
    let e : nat_lt a b ≡ false = grind (arith, nat_tests) in
    let f : nat_eq a b ≡ true = grind (arith, nat_tests) in
    ap (λ x. x || (nat_eq a b && r)) e ∙ ap (λ x. x && r) f

pub less_above : (a b : ℕ) (r : Bool) → b < a → less a b r ≡ false
less_above a b r gt =
    let e : nat_lt a b ≡ false = grind (arith, nat_tests) in
    let f : nat_eq a b ≡ false = grind (arith, nat_tests) in
    ap (λ x. x || (nat_eq a b && r)) e ∙ ap (λ x. x && r) f

less_joins : (a b c : ℕ) (r s t : Bool) → (r ≡ true → s ≡ true → t ≡ true) → less a b r ≡ true → less b c s ≡ true → less a c t ≡ true
less_joins a b c r s t rest p q = elim (three a b) [
  | inl lt ↦ elim (three b c) [
    | inl also ↦ less_below a c t (omega arith)
    | inr (inl eq) ↦ less_below a c t (omega arith)
    | inr (inr gt) ↦ absurd (false≢true (sym (less_above b c s gt) ∙ q))
  ]
  | inr (inl e) ↦ elim (three b c) [
    | inl also ↦ less_below a c t (omega arith)
    | inr (inl f) ↦ less_equal a c t (e ∙ f) ∙ rest (sym (less_equal a b r e) ∙ p) (sym (less_equal b c s f) ∙ q)
    | inr (inr gt) ↦ absurd (false≢true (sym (less_above b c s gt) ∙ q))
  ]
  | inr (inr gt) ↦ absurd (false≢true (sym (less_above a b r gt) ∙ p))
]

place_joins : (a b c : ℕ) → nat_lt a b ≡ true → nat_lt b c ≡ true → nat_lt a c ≡ true
place_joins a b c p q = grind (arith, nat_tests)

before_joins : (x g f : Broken) → is_before x g ≡ true → is_before g f ≡ true → is_before x f ≡ true
before_joins x g f p q =
    less_joins f.operand g.operand x.operand _ _ _
    (λ p1 q1. less_joins f.node g.node x.node _ _ _
    (λ p2 q2. less_joins (rank x.rule) (rank g.rule) (rank f.rule) _ _ _ (λ p3 q3. place_joins x.place g.place f.place p3 q3) q2 p2)
    p1 q1)
    q p

-- none is before itself
alone : (g : Broken) → is_before g g ≡ false
alone g =
    let e : nat_lt g.place g.place ≡ false = grind (arith, nat_tests) in
    less_equal g.operand g.operand _ refl ∙ less_equal g.node g.node _ refl ∙ less_equal (rank g.rule) (rank g.rule) _ refl ∙ e

same : (g b : Broken) → Some g ≡ Some b → g ≡ b
same g b e = cc

not_so : (x g f : Broken) → is_before g f ≡ true → is_before x f ≡ false → (b : Bool) → is_before x g ≡ b → is_before x g ≡ false
not_so x g f before not false e = e
not_so x g f before not true e = absurd (false≢true (sym not ∙ before_joins x g f e before))

not_before : (x g f : Broken) → is_before g f ≡ true → is_before x f ≡ false → is_before x g ≡ false
not_before x g f before not = not_so x g f before not (is_before x g) refl

-- one more
abbrev pub OneMore : (Broken → Type 0) → Option Broken → Broken → Type 0
OneMore Holds other b = Holds b ⊎ (other ≡ Some b)

module _ (Holds : Broken → Type 0) where
  only : (g b : Broken) → Some g ≡ Some b → is_before b g ≡ false
  only g b e = subst (λ x. is_before x g ≡ false) (same g b e) (alone g)

  chosen : (f g : Broken) → IsFirstOf Holds (Some f) → (t : Bool) → is_before g f ≡ t → IsFirstOf (OneMore Holds (Some g)) (if t then Some g else Some f)
  chosen f g first true e = (inr refl, λ b h. elim h [ inl old ↦ not_before b g f e (first.1 b old) | inr it ↦ only g b it ])
  chosen f g first false e = (inl first.0, λ b h. elim h [ inl old ↦ first.1 b old | inr it ↦ subst (λ x. is_before x f ≡ false) (same g b it) e ])

  pub one_more : (found other : Option Broken) → IsFirstOf Holds found → IsFirstOf (OneMore Holds other) (earlier found other)
  one_more None None none = λ b h. elim h [ inl old ↦ none b old | inr it ↦ absurd (cc) ]
  one_more None (Some g) none = (inr refl, λ b h. elim h [ inl old ↦ absurd (none b old) | inr it ↦ only g b it ])
  one_more (Some f) None first = (inl first.0, λ b h. elim h [ inl old ↦ first.1 b old | inr it ↦ absurd (cc) ])
  one_more (Some f) (Some g) first = chosen f g first (is_before g f) refl

-- what holds of the same is the same
pub first_of_same : (One Other : Broken → Type 0) (found : Option Broken) → ((b : Broken) → One b → Other b) → ((b : Broken) → Other b → One b)
    → IsFirstOf One found → IsFirstOf Other found
first_of_same One Other None to from none = λ b h. none b (from b h)
first_of_same One Other (Some f) to from first = (to f first.0, λ b h. first.1 b (from b h))
