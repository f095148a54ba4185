-- The first in the text, as nodes are looked at one by one.
use Rattle.std.proofs.Common.{◌≡◌, ◌<◌, ◌+◌, ◌⊎◌, ℕ, Bool, true, false, refl, sym, ap, arith, subst, inl, inr, ⊎_elim, Some, None, Option}
use Rattle.std.proofs.lemmas.Bool.Decides.{eqb_tells, nat_tests}
use Rattle.std.specs.Prelude.{nat_le, if◌then◌else◌}
use Rattle.a68_declarers.specs.Bounds.{IsFirstOfPlace}
use Rattle.a68_ranges.proofs.Indexing.{least_one}
use Rattle.a68_ranges.specs.Indexed.{IsLeast, earlier_of}
use Rattle.a68_ranges.specs.Nodes.{place_at}
use Rattle.a68_tree.specs.Trees.{Built}

-- one of the nodes before a number
abbrev pub Before : (ℕ → Type 0) → (count : ℕ) → ℕ → Type 0
Before P count x = (x < count) × P x

pub least_none : (tree : Built) (P : ℕ → Type 0) → IsLeast tree (Before P 0) None
least_none tree P = λ x b. let l = b.0 in absurd (omega arith)

last_or : (i x : ℕ) → x < i + 1 → (x < i) ⊎ (x ≡ i)
last_or i x h = ⊎_elim (λ s. inr s.1) (λ s. let d = s.1 in inl (omega arith)) (eqb_tells x i)

pub least_found : (tree : Built) (P : ℕ → Type 0) (i : ℕ) (found : Option ℕ) → IsLeast tree (Before P i) found → P i → IsLeast tree (Before P (i + 1)) (earlier_of tree found (Some i))
least_found tree P i found before is =
    least_one tree (Before P i) (λ x. x ≡ i) (Before P (i + 1)) found (Some i)
    (λ x b. ⊎_elim (λ h. inl (h, b.1)) inr (last_or i x b.0))
    (λ x b. let l = b.0 in (omega arith, b.1))
    (λ x e. (omega arith, subst P (sym e) is))
    before (refl, λ other e. let same = ap (place_at tree) e in omega arith)

pub least_passed : (tree : Built) (P : ℕ → Type 0) (i : ℕ) (found : Option ℕ) → IsLeast tree (Before P i) found → (P i → ⊥) → IsLeast tree (Before P (i + 1)) found
least_passed tree P i None before no' = λ x b. ⊎_elim (λ h. before x (h, b.1)) (λ e. no' (subst P e b.1)) (last_or i x b.0)
least_passed tree P i (Some y) before no' = (
  (let l = before.0.0 in omega arith, before.0.1),
  λ other b. ⊎_elim (λ h. before.1 other (h, b.1)) (λ e. absurd (no' (subst P e b.1))) (last_or i other b.0),
)

-- all nodes
pub least_all : (tree : Built) (P : ℕ → Type 0) (count : ℕ) (found : Option ℕ) → IsLeast tree (Before P count) found → ((x : ℕ) → P x → x < count) → IsLeast tree P found
least_all tree P count None before there = λ x p. before x (there x p, p)
least_all tree P count (Some y) before there = (before.0.1, λ other p. before.1 other (there other p, p))

-- ---- of several that begin at one byte, the first one

pub outer_found : (tree : Built) (P : ℕ → Type 0) (i : ℕ) (found : Option ℕ) → IsLeast tree (Before P i) found → IsFirstOfPlace tree (Before P i) found
    → IsFirstOfPlace tree (Before P (i + 1)) (earlier_of tree found (Some i))
outer_found tree P i None least outer = λ x b e. ⊎_elim (λ h. absurd (least x (h, b.1))) (λ s. omega arith) (last_or i x b.0)
outer_found tree P i (Some y) least outer = go (nat_le (place_at tree y) (place_at tree i)) refl
  where
    go : (t : Bool) → nat_le (place_at tree y) (place_at tree i) ≡ t → IsFirstOfPlace tree (Before P (i + 1)) (if t then Some y else Some i)
    go true e = λ x b same. ⊎_elim (λ h. outer x (h, b.1) same) (λ s. let l = least.0.0 in omega arith) (last_or i x b.0)
    go false e = λ x b same.
        ⊎_elim
        (λ h.
        let le = least.1 x (h, b.1) in
        let lt : place_at tree i < place_at tree y = grind (arith, nat_tests, e) in
        absurd (omega arith))
        (λ s. omega arith) (last_or i x b.0)

pub outer_passed : (tree : Built) (P : ℕ → Type 0) (i : ℕ) (found : Option ℕ) → IsFirstOfPlace tree (Before P i) found → (P i → ⊥) → IsFirstOfPlace tree (Before P (i + 1)) found
outer_passed tree P i None outer not = tt
outer_passed tree P i (Some y) outer not = λ x b same. ⊎_elim (λ h. outer x (h, b.1) same) (λ e. absurd (not (subst P e b.1))) (last_or i x b.0)

pub outer_all : (tree : Built) (P : ℕ → Type 0) (count : ℕ) (found : Option ℕ) → IsFirstOfPlace tree (Before P count) found → ((x : ℕ) → P x → x < count) → IsFirstOfPlace tree P found
outer_all tree P count None outer there = tt
outer_all tree P count (Some y) outer there = λ x p same. outer x (there x p, p) same
