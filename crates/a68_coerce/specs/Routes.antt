-- Inner: the headline does not rest on this file.
-- Paths in short, as they are looked for before any memory is taken.
use Rattle.std.specs.Prelude.{◌≡◌, ◌<◌, ◌↔◌, ℕ, zero, suc, List, [], ◌∷◌, ◌++◌, length, Bool, true, false, Option, Some, None, slice_get}
use Rattle.std.specs.List.{All, Contains}
use Rattle.a68_coerce.specs.declared.goal.CoercionGoal.{CoercionGoal}
use Rattle.a68_coerce.specs.declared.leaf.Leaf.{Leaf}
use Rattle.a68_coerce.specs.declared.route.Route.{Route}
use Rattle.a68_coerce.specs.declared.route.RowRoute.{RowRoute}
use Rattle.a68_coerce.specs.declared.walk.Target.{Target}
use Rattle.a68_coerce.specs.declared.walk.Target.TheVariants as want
use Rattle.a68_coerce.specs.Balanced.{LeafLeads}
use Rattle.a68_coerce.specs.Forms.{IsOfForm}
use Rattle.a68_coerce.specs.Goals.{ReachesGoal, IsVoidGoal, is_multiple}
use Rattle.a68_coerce.specs.Paths.{No, FirmTo, WidenedTo, StrongTo}
use Rattle.a68_equiv.specs.declared.mode.Mode.{Mode}
use Rattle.a68_equiv.specs.Related.{as_it_stands, without_flex}
use Rattle.a68_equiv.specs.Unfolding.{unfolded, IsMember}
use Rattle.a68_modes.specs.declared.coercion.Coercion.{Coercion}
use Rattle.a68_modes.specs.declared.coercion.Coercion.TheVariants.{Deproc, Deref, RowUp}
use Rattle.a68_modes.specs.declared.coercion.Sort.{Sort}
use Rattle.a68_modes.specs.declared.coercion.Sort.TheVariants as by
use Rattle.a68_modes.specs.declared.shape.Shape.{Shape}
use Rattle.a68_modes.specs.declared.shape.Shape.TheVariants.{Ref, Union, Proc}

-- the coercion that a step is
abbrev pub coercion_of : (dereferences : Bool) → Coercion
coercion_of true = Deref
coercion_of false = Deproc

-- the meek coercion of a mode of this shape, and then more
abbrev pub then_meekly : (Mode → List Coercion) → Shape → List Coercion
then_meekly more (Ref a) = Deref ∷ more (without_flex a)
then_meekly more (Proc [] a) = Deproc ∷ more (as_it_stands a)
then_meekly more shape = []

-- the first n meek coercions of a mode
abbrev pub meek_way : List Shape → ℕ → Mode → List Coercion
meek_way nodes zero m = []
meek_way nodes (suc n) m = then_meekly (meek_way nodes n) (unfolded nodes m.id)

-- a way, and the coercion behind it, if any
abbrev pub with_last : List Coercion → Option Coercion → List Coercion
with_last way None = way
with_last way (Some c) = way ++ c ∷ []

-- a way, and a dimension added so often
abbrev pub with_rows : List Coercion → ℕ → List Coercion
with_rows way zero = way
with_rows way (suc n) = with_rows way n ++ RowUp ∷ []

-- the coercions of a route from a mode, and those with rows added
abbrev pub way_of : List Shape → Mode → Route → List Coercion
way_of nodes m route = with_last (meek_way nodes route.meekly m) route.last

abbrev pub path_of : List Shape → Mode → RowRoute → List Coercion
path_of nodes m rowed = with_rows (way_of nodes m rowed.route) rowed.rows

-- a number of meek coercions, a route, or a route with rows, that leads; or none where none leads
abbrev pub FindsMeekly : List Shape → Mode → (List Coercion → Type 0) → Option ℕ → Type 0
FindsMeekly nodes m Leading (Some n) = Leading (meek_way nodes n m)
FindsMeekly nodes m Leading None = No Leading

abbrev pub FindsRoute : List Shape → Mode → (List Coercion → Type 0) → Option Route → Type 0
FindsRoute nodes m Leading (Some route) = Leading (way_of nodes m route)
FindsRoute nodes m Leading None = No Leading

abbrev pub FindsRowed : List Shape → Mode → (List Coercion → Type 0) → Option RowRoute → Type 0
FindsRowed nodes m Leading (Some rowed) = Leading (path_of nodes m rowed)
FindsRowed nodes m Leading None = No Leading

-- the route is the strong one to VOID
abbrev pub LeadsToVoid : List Shape → Mode → Route → Type 0
LeadsToVoid nodes m route = (g : CoercionGoal) → IsVoidGoal nodes g → StrongTo nodes m g (way_of nodes m route)

-- a strong route by the rules before rowing; or none where none of them leads
abbrev pub FindsUnrowed : List Shape → Mode → CoercionGoal → Option Route → Type 0
FindsUnrowed nodes m g (Some route) = StrongTo nodes m g (way_of nodes m route)
FindsUnrowed nodes m g None = (IsVoidGoal nodes g → ⊥) × No (FirmTo nodes m g) × No (WidenedTo nodes m g)

-- a way may end at a mode of this shape, by its last step: a weak one that dereferences not at a row or a structure
abbrev pub MayEnd : Sort → (dereferenced : Bool) → Shape → Type 0
MayEnd by.Weak true shape = is_multiple shape ≡ false
MayEnd _ dereferenced shape = Unit {0}

-- the mode of the goal, or one of the form
abbrev pub IsWanted : List Shape → Target → Mode → Type 0
IsWanted nodes (want.CoercionGoal g) k = ReachesGoal nodes k g
IsWanted nodes (want.ModeForm f) k = IsOfForm nodes f k

-- the list of the members of a union
pub record AreMembers (nodes : List Shape) (to : Mode) (xs : List ℕ) : Type 0 where
  pub members : List ℕ
  pub union : unfolded nodes to.id ≡ Union members
  pub listed : (x : ℕ) → Contains xs x ↔ IsMember nodes to.id x
  pub below : All (λ x. x < length nodes) xs

-- the leaf at this place leads by the sort, and none before it
pub record LeadsFirst (nodes : List Shape) (sort : Sort) (to : Mode) (leaves : List Leaf) (f : ℕ) : Type 0 where
  pub leaf : Leaf
  pub there : slice_get leaves f ≡ Some leaf
  pub leads : LeafLeads nodes sort to leaf
  pub none : (k : ℕ) (other : Leaf) → k < f → slice_get leaves k ≡ Some other → LeafLeads nodes sort to other → ⊥

-- the first leaf that leads by the sort, or none
abbrev pub IsFirstThatLeads : List Shape → Sort → Mode → List Leaf → Option ℕ → Type 0
IsFirstThatLeads nodes s to leaves (Some f) = LeadsFirst nodes s to leaves f
IsFirstThatLeads nodes s to leaves None = (k : ℕ) (other : Leaf) → slice_get leaves k ≡ Some other → LeafLeads nodes s to other → ⊥
