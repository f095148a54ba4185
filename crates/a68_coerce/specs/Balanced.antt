-- Balancing (Report, 3.2.1 e to g): one of the units that a choice may yield is coerced by the sort of the position, the others strongly to its mode.
use Rattle.std.specs.Prelude.{◌≡◌, ◌≢◌, ◌<◌, ℕ, List, slice_get, Option, Some, None}
use Rattle.a68_coerce.specs.declared.leaf.Balanced.{Balanced}
use Rattle.a68_coerce.specs.declared.form.ModeForm.{ModeForm}
use Rattle.a68_coerce.specs.declared.form.ModeForm.TheVariants as form
use Rattle.a68_coerce.specs.declared.leaf.Leaf.{Leaf}
use Rattle.a68_coerce.specs.declared.leaf.Leaf.TheVariants as leaf
use Rattle.a68_coerce.specs.Forms.{IsOfForm}
use Rattle.a68_coerce.specs.Paths.{CanLead, IsFirstOnWay}
use Rattle.a68_equiv.specs.declared.mode.Mode.{Mode}
use Rattle.a68_equiv.specs.Related.{as_it_stands}
use Rattle.a68_modes.specs.declared.coercion.Coercion.{Coercion}
use Rattle.a68_modes.specs.declared.coercion.Sort.{Sort}
use Rattle.a68_modes.specs.declared.coercion.Sort.TheVariants as by
use Rattle.a68_modes.specs.declared.shape.Shape.{Shape}

-- the leaf leads by the sort; one that may stand in strong positions only does not
abbrev pub LeafLeads : List Shape → Sort → Mode → Leaf → Type 0
LeafLeads nodes s to (leaf.Mode m) = CanLead nodes s (as_it_stands m) to
LeafLeads nodes s to leaf.StrongOnly = ⊥

-- the leaf leads strongly; of one that may stand in strong positions only it is asked elsewhere
abbrev pub LeafSuits : List Shape → Mode → Leaf → Type 0
LeafSuits nodes to (leaf.Mode m) = CanLead nodes by.Strong (as_it_stands m) to
LeafSuits nodes to leaf.StrongOnly = Unit {0}

-- each leaf but that at one place leads strongly to the mode
abbrev pub OthersSuit : List Shape → Mode → List Leaf → ℕ → Type 0
OthersSuit nodes to leaves i = (k : ℕ) (other : Leaf) → slice_get leaves k ≡ Some other → k ≢ i → LeafSuits nodes to other

-- the leaf at this place leads in that sense, and each other one strongly to the mode
pub record LeafStandsAt (nodes : List Shape) (Leads : Leaf → Type 0) (to : Mode) (leaves : List Leaf) (i : ℕ) : Type 0 where
  pub leaf : Leaf
  pub there : slice_get leaves i ≡ Some leaf
  pub leads : Leads leaf
  pub others : OthersSuit nodes to leaves i

-- ---- where the mode is known

abbrev pub BalancesAt : List Shape → Sort → Mode → List Leaf → ℕ → Type 0
BalancesAt nodes sort to leaves i = LeafStandsAt nodes (LeafLeads nodes sort to) to leaves i

-- the first leaf that leads by the sort where each other one leads strongly, or none
abbrev pub IsBalanced : List Shape → Sort → Mode → List Leaf → Option ℕ → Type 0
IsBalanced nodes sort to leaves (Some i) = BalancesAt nodes sort to leaves i × ((k : ℕ) → k < i → BalancesAt nodes sort to leaves k → ⊥)
IsBalanced nodes sort to leaves None = (k : ℕ) → BalancesAt nodes sort to leaves k → ⊥

-- ---- where no mode is known, but its form (which of several leaves is taken is own)

-- the mode is the first of the form on the way of the leaf by the sort
abbrev pub LeafForms : List Shape → Sort → ModeForm → Mode → Leaf → Type 0
LeafForms nodes s form to (leaf.Mode m) = (path : List Coercion) × IsFirstOnWay nodes s (IsOfForm nodes form) (as_it_stands m) path to
LeafForms nodes s form to leaf.StrongOnly = ⊥

abbrev pub FormsAt : List Shape → Sort → ModeForm → Mode → List Leaf → ℕ → Type 0
FormsAt nodes sort form to leaves i = LeafStandsAt nodes (LeafForms nodes sort form to) to leaves i

-- the first leaf with a mode of the form to which each other one leads strongly, and that mode; or none
abbrev pub IsFormed : List Shape → Sort → ModeForm → List Leaf → Option Balanced → Type 0
IsFormed nodes sort form leaves (Some b) = FormsAt nodes sort form b.mode leaves b.leaf × ((k : ℕ) (to : Mode) → k < b.leaf → FormsAt nodes sort form to leaves k → ⊥)
IsFormed nodes sort form leaves None = (k : ℕ) (to : Mode) → FormsAt nodes sort form to leaves k → ⊥

-- ---- the two sides of an identity relation (5.2.2)

abbrev pub AllSuit : List Shape → Mode → List Leaf → Type 0
AllSuit nodes to leaves = (k : ℕ) (l : Leaf) → slice_get leaves k ≡ Some l → LeafSuits nodes to l

-- a leaf of the one side leads softly to a name, and each other one of both sides strongly
abbrev pub SidesAt : List Shape → Mode → (soft strong : List Leaf) → ℕ → Type 0
SidesAt nodes to soft strong i = FormsAt nodes by.Soft form.Name to soft i × AllSuit nodes to strong

-- the first such leaf of the one side, and that name; or none
abbrev pub IsSided : List Shape → (soft strong : List Leaf) → Option Balanced → Type 0
IsSided nodes soft strong (Some b) = SidesAt nodes b.mode soft strong b.leaf × ((k : ℕ) (to : Mode) → k < b.leaf → SidesAt nodes to soft strong k → ⊥)
IsSided nodes soft strong None = (k : ℕ) (to : Mode) → SidesAt nodes to soft strong k → ⊥
