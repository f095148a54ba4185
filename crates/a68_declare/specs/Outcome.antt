-- What is found of the declarers of a tree: their modes, or the rule that they break first (Report, 4.6 to 4.8 and 7.4; the order
-- of the rules is own).
use Rattle.std.specs.Prelude.{◌≡◌, ◌<◌, ◌≤◌, ℕ, List, Bool, true, false, None, Some, length, slice_index_or}
use Rattle.a68_base.specs.declared.refusal.Refusal.{Refusal}
use Rattle.a68_base.specs.declared.refusal.Rule.TheVariants as rules
use Rattle.a68_declare.specs.Broken.{IsIllFormed, IsWrongUnion}
use Rattle.a68_declare.specs.Clean.{CleansTo}
use Rattle.a68_declarers.specs.Bounds.{bracket_at, HasWrongBounds, IsFirstOfPlace}
use Rattle.a68_declarers.specs.Declarers.{IsDeclarerAt}
use Rattle.a68_declarers.specs.Modes.{ModesAreDeclared}
use Rattle.a68_declarers.specs.Numbers.{declarers, mode_number}
use Rattle.a68_declarers.specs.Words.{IsUndefinedWord, IsTooMany}
use Rattle.a68_modes.specs.Nodes.{HoldsNodes}
use Rattle.a68_modes.specs.declared.shape.Shape.{Shape}
use Rattle.a68_ranges.specs.Indexed.{IsLeast}
use Rattle.a68_ranges.specs.Nodes.{place_at}
use Rattle.a68_tree.specs.Trees.{Built}
use Rattle.a68_modes.specs.declared.standard.TheConstants.{STANDARD}

-- The modes of a tree's declarers as they are declared: behind the standard ones two for each declarer, in the order of the
-- tree, and no others.
pub record AreRaw (tree : Built) (raw : List Shape) (number : ℕ → Bool → ℕ) : Type 0 where
  pub defined : (d : ℕ) → IsUndefinedWord tree d → ⊥
  pub few : declarers tree (length tree.nodes) ≤ 4096
  pub declared : ModesAreDeclared tree raw number
  pub numbered : (d : ℕ) (fixed : Bool) → number d fixed ≡ mode_number tree d fixed
  pub holds : HoldsNodes raw
  pub onto : (m : ℕ) → STANDARD ≤ m → m < length raw → (d : ℕ) × (fixed : Bool) × IsDeclarerAt tree d × (number d fixed ≡ m)

-- the rule that is broken first, in the order N2, L4, M1, M2, C4, at the first such place in the text
pub data IsFirstBroken (tree : Built) : Refusal → Type 0 where
  undefined : (d : ℕ) → IsLeast tree (IsUndefinedWord tree) (Some d) → IsFirstBroken tree (record { rule = rules.N2; place = place_at tree d })
  too_many : (byte : ℕ) → ((d : ℕ) → IsUndefinedWord tree d → ⊥) → 4096 < declarers tree (length tree.nodes) → IsTooMany tree byte
      → IsFirstBroken tree (record { rule = rules.L4; place = byte })
  ill_formed : (raw : List Shape) (number : ℕ → Bool → ℕ) (definition : ℕ) → AreRaw tree raw number → IsLeast tree (IsIllFormed tree raw number) (Some definition)
      → IsFirstBroken tree (record { rule = rules.M1; place = place_at tree definition })
  wrong_union : (raw : List Shape) (number : ℕ → Bool → ℕ) (d : ℕ) → AreRaw tree raw number → IsLeast tree (IsIllFormed tree raw number) None
      → IsLeast tree (IsWrongUnion tree raw number) (Some d) → IsFirstBroken tree (record { rule = rules.M2; place = place_at tree d })
  wrong_bounds : (raw : List Shape) (number : ℕ → Bool → ℕ) (d : ℕ) → AreRaw tree raw number → IsLeast tree (IsIllFormed tree raw number) None
      → IsLeast tree (IsWrongUnion tree raw number) None → IsLeast tree (HasWrongBounds tree) (Some d) → IsFirstOfPlace tree (HasWrongBounds tree) (Some d)
      → IsFirstBroken tree (record { rule = rules.C4; place = bracket_at tree tree.starts d })

-- none of the rules that ask for the modes is broken
pub record IsNotBroken (tree : Built) (raw : List Shape) (number : ℕ → Bool → ℕ) : Type 0 where
  pub formed_all : (definition : ℕ) → IsIllFormed tree raw number definition → ⊥
  pub unions : (d : ℕ) → IsWrongUnion tree raw number d → ⊥
  pub bounds : (d : ℕ) → HasWrongBounds tree d → ⊥

-- the numbers of the modes of nodes, as they stand and without FLEX
pub record ByNode : Type 0 where
  pub as_they_stand : List ℕ
  pub without_flex : List ℕ

-- the list has what a function tells of each node of the tree
pub record AreByNode (tree : Built) (of : ℕ → ℕ) (list : List ℕ) : Type 0 where
  pub long : length list ≡ length tree.nodes
  pub each : (d : ℕ) → d < length tree.nodes → slice_index_or list d 0 ≡ of d

-- the clean modes of a tree's declarers; none of the five rules is broken
pub record AreModesOf (tree : Built) (modes : List Shape) (of : ByNode) : Type 0 where
  pub raw : List Shape
  pub number : ℕ → Bool → ℕ
  pub to : ℕ → ℕ
  pub raw_are : AreRaw tree raw number
  pub fine : IsNotBroken tree raw number
  pub cleans : CleansTo raw to modes
  pub at : AreByNode tree (λ d. to (number d false)) of.as_they_stand
  pub fixed : AreByNode tree (λ d. to (number d true)) of.without_flex
