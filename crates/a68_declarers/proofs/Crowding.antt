-- How many declarers begin before a byte.
use Rattle.std.proofs.Common.{◌≡◌, ◌<◌, ◌+◌, ℕ, zero, suc, Bool, true, false, refl, ap, ◌∙◌, arith, add-one}
use Rattle.std.specs.Prelude.{◌&&◌, nat_lt}
use Rattle.std.proofs.lemmas.Bool.Decides.{nat_tests}
use Rattle.a68_declarers.specs.Declarers.{is_declarer}
use Rattle.a68_declarers.specs.Numbers.{one_if, declarers}
use Rattle.a68_declarers.specs.Words.{declarers_before}
use Rattle.a68_ranges.specs.Nodes.{kind_at, place_at}
use Rattle.a68_tree.specs.Trees.{Built}

pub declarers_next : (tree : Built) (i : ℕ) (b : Bool) → is_declarer (kind_at tree i) ≡ b → declarers tree (i + 1) ≡ declarers tree i + one_if b
declarers_next tree i b e = ap (declarers tree) (add-one i) ∙ ap (λ b. declarers tree i + one_if b) e

pub before_next : (tree : Built) (byte i : ℕ) (b : Bool) → (is_declarer (kind_at tree i) && nat_lt (place_at tree i) byte) ≡ b
    → declarers_before tree byte (i + 1) ≡ declarers_before tree byte i + one_if b
before_next tree byte i b e = ap (declarers_before tree byte) (add-one i) ∙ ap (λ b. declarers_before tree byte i + one_if b) e

never : (b : Bool) (p : ℕ) → (b && nat_lt p 0) ≡ false
never false p = refl
never true p = below (nat_lt p 0) refl
  where
    below : (t : Bool) → nat_lt p 0 ≡ t → t ≡ false
    below false e = refl
    below true e = let h : p < 0 = grind (arith, nat_tests, e) in absurd (omega arith)

pub none_before : (tree : Built) (n : ℕ) → declarers_before tree 0 n ≡ 0
none_before tree zero = refl
none_before tree (suc n) = ap (λ b. declarers_before tree 0 n + one_if b) (never (is_declarer (kind_at tree n)) (place_at tree n)) ∙ (let e = none_before tree n in omega arith)
