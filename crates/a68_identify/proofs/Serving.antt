-- The modes of parameters are there.
use Rattle.std.proofs.Common.{◌≡◌, ◌<◌, ◌≤◌, ℕ, zero, suc, List, [], ◌∷◌, length, refl, arith, ⊎_elim, true}
use Rattle.std.specs.Prelude.{slice_get, slice_index_or}
use Rattle.std.specs.List.{All}
use Rattle.std.proofs.lemmas.List.Elements.{All-map}
use Rattle.a68_declare.specs.Outcome.{AreModesOf, ByNode}
use Rattle.a68_identify.specs.Operators.{NumbersAreThere, mode_at, operand_modes, declarers_at}
use Rattle.a68_modes.proofs.Holding.{fifteen}
use Rattle.a68_modes.specs.Nodes.{HoldsNodes}
use Rattle.a68_modes.specs.declared.shape.Shape.{Shape}
use Rattle.a68_ranges.proofs.Taking.{below_or}
use Rattle.a68_ranges.specs.Nodes.{parts_at}
use Rattle.a68_tree.specs.Trees.{Built}

default_past : (xs : List ℕ) (k d : ℕ) → length xs ≤ k → slice_index_or xs k d ≡ d
default_past [] k d h = refl
default_past (x ∷ xs) zero d h = absurd (omega arith)
default_past (x ∷ xs) (suc k) d h = default_past xs k d (omega arith)

module _ (tree : Built) (nodes : List Shape) (of : ByNode) (holds : HoldsNodes nodes) (are : NumbersAreThere tree nodes of) where
  mode_there : (d : ℕ) → mode_at of d < length nodes
  mode_there d =
      let some = fifteen nodes holds in
      ⊎_elim (λ h. are.there d 0 h)
      (λ h. let e = default_past of.without_flex d 0 h in omega arith)
      (below_or d (length of.without_flex))

  pub operands_there : (definition : ℕ) (modes : List ℕ) → modes ≡ operand_modes tree of definition → All (λ m. m < length nodes) modes
  operands_there definition modes is =
      rw is (All-map (λ m. m < length nodes) (mode_at of) (declarers_at tree (slice_get (parts_at tree definition) 0)) (λ k d h. mode_there (slice_index_or (declarers_at tree (slice_get (parts_at tree definition) 0)) k d)))

-- the modes that are found of declarers are there
pub modes_are_there : (tree : Built) (nodes : List Shape) (of : ByNode) → AreModesOf tree nodes of → NumbersAreThere tree nodes of
modes_are_there tree nodes of are = record {
  long = are.at.long;
  fixed_long = are.fixed.long;
  there = λ d z h.
      let long = are.fixed.long in
      let within = are.cleans.there (are.number d true) (are.raw_are.declared.there d true) in
      let same = are.fixed.each d (omega arith) in
      let either = elements of.without_flex d z 0 h in
      omega arith;
}
  where
    elements : (xs : List ℕ) (k a b : ℕ) → k < length xs → slice_index_or xs k a ≡ slice_index_or xs k b
    elements [] k a b h = absurd (omega arith)
    elements (x ∷ xs) zero a b h = refl
    elements (x ∷ xs) (suc k) a b h = elements xs k a b (omega arith)

-- where nodes are added they stay there
pub stay_there : (tree : Built) (nodes new : List Shape) (of : ByNode) → length nodes ≤ length new → NumbersAreThere tree nodes of → NumbersAreThere tree new of
stay_there tree nodes new of more are = record { long = are.long; fixed_long = are.fixed_long; there = λ d z h. let l = are.there d z h in omega arith }
