-- The modes of all declarers of a tree, as a list of shapes (Report, 4.6; the order of the nodes is own).
use Rattle.std.specs.Prelude.{◌≡◌, ◌<◌, ◌≤◌, ℕ, List, length, Bool}
use Rattle.a68_declarers.specs.Declarers.{form_at, IsDeclarerAt, IsVoidWord}
use Rattle.a68_declarers.specs.Shapes.{IsShapeOf}
use Rattle.a68_modes.specs.Nodes.{shape_at}
use Rattle.a68_modes.specs.declared.shape.Shape.{Shape}
use Rattle.a68_tree.specs.Trees.{Built}
use Rattle.a68_modes.specs.declared.standard.TheConstants.{STANDARD}

-- each declarer has two nodes, one for its mode as it stands, one for its mode without FLEX; VOID has the standard one
pub record ModesAreDeclared (tree : Built) (nodes : List Shape) (number : ℕ → Bool → ℕ) : Type 0 where
  pub there : (d : ℕ) (fixed : Bool) → number d fixed < length nodes
  pub void : (d : ℕ) (fixed : Bool) → IsVoidWord tree d → number d fixed ≡ 0
  pub shapes : (d : ℕ) (fixed : Bool) → IsDeclarerAt tree d → IsShapeOf tree number d fixed (form_at tree d) (shape_at nodes (number d fixed))

-- each node behind the standard ones is that of a declarer, and those within a declarer have greater numbers
pub record AreOrdered (tree : Built) (nodes : List Shape) (number : ℕ → Bool → ℕ) : Type 0 where
  pub standard : STANDARD ≤ length nodes
  pub low : (d : ℕ) (fixed : Bool) → IsDeclarerAt tree d → STANDARD ≤ number d fixed
  pub onto : (m : ℕ) → STANDARD ≤ m → m < length nodes → (d : ℕ) × (fixed : Bool) × IsDeclarerAt tree d × (number d fixed ≡ m)
  pub grows : (d e : ℕ) (fixed other : Bool) → IsDeclarerAt tree d → IsDeclarerAt tree e → d < e → number d fixed < number e other
  pub none : (d : ℕ) (fixed : Bool) → (IsDeclarerAt tree d → ⊥) → number d fixed ≡ 0
