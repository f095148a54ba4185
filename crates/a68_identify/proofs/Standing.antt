-- The parameters of standard operators are standard modes.
use Rattle.std.proofs.Common.{◌≡◌, ◌<◌, ℕ, zero, suc, List, [], ◌∷◌, refl, arith, Bool, true, false, length, Some}
use Rattle.std.specs.Prelude.{◌&&◌, nat_lt, if◌then◌else◌}
use Rattle.std.specs.List.{All}
use Rattle.std.specs.Option.{option_map_or}
use Rattle.std.proofs.lemmas.Bool.{false≢true}
use Rattle.std.proofs.lemmas.Bool.Decides.{nat_tests}
use Rattle.std.proofs.lemmas.List.Elements.{All-cons, All-nil}
use Rattle.a68_base.specs.Tables.{is_listed}
use Rattle.a68_coerce.specs.declared.leaf.Leaf.{Leaf}
use Rattle.a68_declare.specs.Outcome.{ByNode}
use Rattle.a68_identify.specs.Identified.{FirstThatHolds, IsLow, IsOperator, StandardFits, by_standard, first_here, first_later}
use Rattle.a68_identify.specs.declared.identified.Identified.TheVariants.{Standard}
use Rattle.a68_modes.specs.declared.shape.Shape.{Shape}
use Rattle.a68_tree.specs.Trees.{Built}
use Rattle.a68_signs.specs.Signs.{SignGroup, entry_of, candidates, dyadic_entries, monadic_entries}
use Rattle.a68_signs.specs.declared.signs.Operator.{Operator}

abbrev are_low : List Operator → Bool
are_low [] = true
are_low (o ∷ os) = nat_lt o.left 15 && (nat_lt o.right 15 && (nat_lt o.result 15 && are_low os))

abbrev entries_low : List SignGroup → Bool
entries_low [] = true
entries_low (e ∷ es) = are_low e.operators && entries_low es

both : (a b : Bool) → (a && b) ≡ true → (a ≡ true) × (b ≡ true)
both true b e = (refl, e)
both false b e = absurd (false≢true e)

below : (m n : ℕ) → nat_lt m n ≡ true → m < n
below m n e = grind (arith, nat_tests)

low_all : (os : List Operator) → are_low os ≡ true → All IsLow os
low_all [] e = All-nil IsLow
low_all (o ∷ os) e =
    let p = both (nat_lt o.left 15) (nat_lt o.right 15 && (nat_lt o.result 15 && are_low os)) e in
    let q = both (nat_lt o.right 15) (nat_lt o.result 15 && are_low os) p.1 in
    let r = both (nat_lt o.result 15) (are_low os) q.1 in
    All-cons IsLow o os (below o.left 15 p.0, below o.right 15 q.0, below o.result 15 r.0) (low_all os r.1)

entry_low : (entries : List SignGroup) (sign : List ℕ) → entries_low entries ≡ true → All IsLow (option_map_or (λ (e : SignGroup). e.operators) (entry_of entries sign) [])
entry_low [] sign low = All-nil IsLow
entry_low (e ∷ es) sign low =
    let p = both (are_low e.operators) (entries_low es) low in
    go (is_listed e.signs sign) (low_all e.operators p.0) (entry_low es sign p.1)
  where
    go : (b : Bool) → All IsLow e.operators → All IsLow (option_map_or (λ (e : SignGroup). e.operators) (entry_of es sign) [])
        → All IsLow (option_map_or (λ (e : SignGroup). e.operators) (if b then Some e else entry_of es sign) [])
    go true here later = here
    go false here later = later

pub candidates_low : (sign : List ℕ) (operands : ℕ) → All IsLow (candidates sign operands)
unfolding candidates
candidates_low sign zero = All-nil IsLow
candidates_low sign (suc zero) = entry_low monadic_entries sign refl
candidates_low sign (suc (suc zero)) = entry_low dyadic_entries sign refl
candidates_low sign (suc (suc (suc n))) = All-nil IsLow

first_low : (Holds : Operator → Type 0) (os : List Operator) (o : Operator) → FirstThatHolds Holds os o → All IsLow os → IsLow o
first_low Holds [] o none all = elim none [ ]
first_low Holds (x ∷ xs) o (first_here holds) all = all 0 x (omega arith)
first_low Holds (x ∷ xs) o (first_later not rest) all = first_low Holds xs o rest (λ k d h. all (suc k) d (omega arith))

-- a standard operator that is found has standard modes
pub operator_low : (tree : Built) (nodes : List Shape) (of : ByNode) (at sign : ℕ) (operands : List (List Leaf)) (o : Operator) → IsOperator tree nodes of at sign operands (Standard o) → IsLow o
operator_low tree nodes of at sign operands o (by_standard ranges spelling lies none spelled first) =
    first_low (StandardFits nodes operands) (candidates spelling (length operands)) o first (candidates_low spelling (length operands))
