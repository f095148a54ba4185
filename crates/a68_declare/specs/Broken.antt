-- Modes that are not well formed, and unions with related members (Report, 4.7 and 7.4).
use Rattle.std.specs.Prelude.{◌≡◌, ◌⊎◌, ℕ, List, Bool, true, false}
use Rattle.std.specs.List.{Contains}
use Rattle.a68_declarers.specs.Declarers.{form_at, is_mode_definition, is_united, IsDeclarerAt}
use Rattle.a68_declarers.specs.Shapes.{last_mode}
use Rattle.a68_equiv.specs.Related.{as_it_stands, AreMeeklyRelated}
use Rattle.a68_equiv.specs.Unfolding.{Equivalent, IsMember}
use Rattle.a68_equiv.specs.Ways.{IsWellFormed}
use Rattle.a68_modes.specs.declared.shape.Shape.{Shape}
use Rattle.a68_ranges.specs.Nodes.{kind_at, parts_at}
use Rattle.a68_tree.specs.Trees.{Built}

-- the node of the mode of a definition, as it stands or without its FLEX
abbrev pub root_of : Built → (number : ℕ → Bool → ℕ) → (definition : ℕ) → (fixed : Bool) → ℕ
root_of tree number definition fixed = last_mode (λ e. number e fixed) (parts_at tree definition)

-- A mode definition whose mode is not well formed: on a way back to it, its FLEX may stand or be taken away.
pub record IsIllFormed (tree : Built) (nodes : List Shape) (number : ℕ → Bool → ℕ) (definition : ℕ) : Type 0 where
  pub is_definition : is_mode_definition (kind_at tree definition) ≡ true
  pub ill : (IsWellFormed nodes (root_of tree number definition false) → ⊥) ⊎ (IsWellFormed nodes (root_of tree number definition true) → ⊥)

-- two modes are different and firmly related
abbrev pub IsClash : List Shape → (x y : ℕ) → Type 0
IsClash nodes x y = (Equivalent nodes (as_it_stands x) (as_it_stands y) → ⊥) × AreMeeklyRelated nodes x y

-- two of these modes are different and firmly related
abbrev pub AreClashing : List Shape → List ℕ → Type 0
AreClashing nodes members = (x : ℕ) × (y : ℕ) × Contains members x × Contains members y × IsClash nodes x y

-- two of these modes are different
abbrev pub AreDifferent : List Shape → List ℕ → Type 0
AreDifferent nodes members = (x : ℕ) × (y : ℕ) × Contains members x × Contains members y × (Equivalent nodes (as_it_stands x) (as_it_stands y) → ⊥)

-- two members of the union are different and firmly related
pub record HasRelated (nodes : List Shape) (m : ℕ) : Type 0 where
  pub one : ℕ
  pub other : ℕ
  pub one_is : IsMember nodes m one
  pub other_is : IsMember nodes m other
  pub clash : IsClash nodes one other

-- no two members of the union are different
abbrev pub HasNoTwo : List Shape → ℕ → Type 0
HasNoTwo nodes m = (x y : ℕ) → IsMember nodes m x → IsMember nodes m y → Equivalent nodes (as_it_stands x) (as_it_stands y)

-- a union with two different members that are firmly related, or with no two different members
pub record IsWrongUnion (tree : Built) (nodes : List Shape) (number : ℕ → Bool → ℕ) (d : ℕ) : Type 0 where
  pub declarer : IsDeclarerAt tree d
  pub union : is_united (form_at tree d) ≡ true
  pub wrong : HasRelated nodes (number d false) ⊎ HasNoTwo nodes (number d false)
