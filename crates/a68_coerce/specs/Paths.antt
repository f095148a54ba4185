-- Paths: the coercions from one mode to another (Report, 6.1 to 6.7). In which order the rules are tried is own.
use Rattle.std.specs.Prelude.{◌≡◌, ◌<◌, ℕ, List, [], ◌∷◌, ◌++◌, length, false, Option, Some, None}
use Rattle.std.specs.List.{All}
use Rattle.a68_modes.specs.declared.standard.TheConstants as standard
use Rattle.a68_coerce.specs.declared.goal.CoercionGoal.{CoercionGoal}
use Rattle.a68_coerce.specs.declared.goal.CoercionGoal.TheVariants as goal
use Rattle.a68_coerce.specs.Goals.{ReachesGoal, within, IsRowOver, IsNameOver, IsVoid, IsVoidGoal, is_multiple}
use Rattle.a68_equiv.specs.declared.mode.Mode.{Mode}
use Rattle.a68_equiv.specs.Related.{Meek, as_it_stands}
use Rattle.a68_equiv.specs.Unfolding.{unfolded, Equivalent, IsMember}
use Rattle.a68_modes.specs.declared.coercion.Coercion.{Coercion}
use Rattle.a68_modes.specs.declared.coercion.Coercion.TheVariants.{Deproc, Deref, Unite, Widen, RowUp, RowUpName, Drop}
use Rattle.a68_modes.specs.declared.coercion.Sort.{Sort}
use Rattle.a68_modes.specs.declared.coercion.Sort.TheVariants as by
use Rattle.a68_modes.specs.declared.shape.Shape.{Shape}
use Rattle.a68_modes.specs.declared.shape.Shape.TheVariants.{Union}

-- nothing leads
abbrev pub No : (List Coercion → Type 0) → Type 0
No Leading = (path : List Coercion) → Leading path → ⊥

-- a path, and one coercion more
abbrev pub ThenCoerces : (List Coercion → Type 0) → Coercion → List Coercion → Type 0
ThenCoerces Leading c path = (q : List Coercion) × Leading q × (path ≡ q ++ c ∷ [])

-- ---- meek (6.1.1 e, 6.2, 6.3): calls of procedures without parameters and dereferencing, any number

abbrev pub MeekTo : List Shape → Mode → CoercionGoal → List Coercion → Type 0
MeekTo nodes m g path = (k : Mode) × Meek nodes m path k × ReachesGoal nodes k g

-- ---- soft, weak: the sort allows some of the meek ways

abbrev pub EndsInDeref : List Coercion → Type 0
EndsInDeref path = (q : List Coercion) × (path ≡ q ++ Deref ∷ [])

-- soft: procedures are called, and nothing is dereferenced (6.1.1 b, 6.3); weak: the last dereferencing does not lead to a row or
-- a structure (6.1.1 d, 6.2.1); the other sorts allow all
abbrev pub Allows : List Shape → Sort → List Coercion → Mode → Type 0
Allows nodes by.Soft path k = All (λ c. c ≡ Deproc) path
Allows nodes by.Weak path k = EndsInDeref path → is_multiple (unfolded nodes k.id) ≡ false
Allows nodes _ path k = Unit {0}

-- a meek way that the sort allows
abbrev pub Goes : List Shape → Sort → Mode → List Coercion → Mode → Type 0
Goes nodes sort m path k = Meek nodes m path k × Allows nodes sort path k

abbrev pub GoesToEquivalent : List Shape → Sort → (from to : Mode) → List Coercion → Type 0
GoesToEquivalent nodes sort m n path = (k : Mode) × Goes nodes sort m path k × Equivalent nodes k n

-- the first mode on such a way for which that holds
pub record IsFirstOnWay (nodes : List Shape) (sort : Sort) (Holds : Mode → Type 0) (m : Mode) (path : List Coercion) (k : Mode) : Type 0 where
  pub goes : Goes nodes sort m path k
  pub holds : Holds k
  pub first : (q more : List Coercion) (j : Mode) → path ≡ q ++ more → Goes nodes sort m q j → Holds j → q ≡ path

-- ---- firm (6.1.1 c, 6.4): meek; else meek to a member of a union, or to a union of some of its members, and uniting

-- the mode is a member of the union
abbrev pub IsMemberOf : List Shape → Mode → Mode → Type 0
IsMemberOf nodes n k = (x : ℕ) × IsMember nodes n.id x × Equivalent nodes k (within n x)

-- it is a member, or a union each of whose members is one
pub data UnitesTo (nodes : List Shape) (n k : Mode) : Type 0 where
  a_member : {members : List ℕ} → unfolded nodes n.id ≡ Union members → IsMemberOf nodes n k → UnitesTo nodes n k
  a_union : {members some : List ℕ} → unfolded nodes n.id ≡ Union members → unfolded nodes k.id ≡ Union some → ((x : ℕ) → IsMember nodes k.id x → IsMemberOf nodes n (within k x)) → UnitesTo nodes n k

-- the first node of a mode
pub record IsFirstNode (nodes : List Shape) (k : Mode) (id : ℕ) : Type 0 where
  pub there : id < length nodes
  pub equivalent : Equivalent nodes (as_it_stands id) k
  pub first : (a : ℕ) → a < id → Equivalent nodes (as_it_stands a) k → ⊥

-- united by the first mode on the meek way that can be; the coercion names the first node of that mode
pub record UnitedTo (nodes : List Shape) (m n : Mode) (path : List Coercion) : Type 0 where
  pub mode : Mode
  pub meekly : List Coercion
  pub way : Meek nodes m meekly mode
  pub unites : UnitesTo nodes n mode
  pub first : (q more : List Coercion) (k : Mode) → meekly ≡ q ++ more → Meek nodes m q k → UnitesTo nodes n k → q ≡ meekly
  pub node : ℕ
  pub node_is : IsFirstNode nodes mode node
  pub whole : path ≡ meekly ++ Unite node ∷ []

pub data FirmTo (nodes : List Shape) (m : Mode) : CoercionGoal → List Coercion → Type 0 where
  meekly : {g : CoercionGoal} {path : List Coercion} → MeekTo nodes m g path → FirmTo nodes m g path
  uniting : {n : Mode} {path : List Coercion} → No (MeekTo nodes m (goal.Mode n)) → UnitedTo nodes m n path → FirmTo nodes m (goal.Mode n) path

-- ---- strong (6.1.1 a, 6.5, 6.6, 6.7)

-- the goal is [] BOOL, or the row of BOOL of one dimension that a row of two is a row of
abbrev pub IsBools : List Shape → CoercionGoal → Type 0
IsBools nodes (goal.Mode n) = Equivalent nodes n (as_it_stands standard.ROW_OF_BOOL)
IsBools nodes (goal.Row dims flex of) = (dims ≡ 1) × (flex ≡ false) × Equivalent nodes of (as_it_stands standard.BOOL)
IsBools nodes g = ⊥

-- firm to BITS, and widened
abbrev pub WidenedTo : List Shape → Mode → CoercionGoal → List Coercion → Type 0
WidenedTo nodes m g path = IsBools nodes g × ThenCoerces (FirmTo nodes m (goal.Mode (as_it_stands standard.BITS))) Widen path

-- meek to the name of an element or of a row with one dimension fewer, and rowed
abbrev pub NamedTo : List Shape → Mode → CoercionGoal → List Coercion → Type 0
NamedTo nodes m g path = (h : CoercionGoal) × IsNameOver nodes g h × ThenCoerces (MeekTo nodes m h) RowUpName path

-- the first rule that leads; a goal that is a row is no name of a row
pub data StrongTo (nodes : List Shape) (m : Mode) : CoercionGoal → List Coercion → Type 0 where
  -- to VOID: nothing from VOID, else the value is dropped
  nothing : {g : CoercionGoal} → IsVoidGoal nodes g → IsVoid nodes m → StrongTo nodes m g []
  dropping : {g : CoercionGoal} → IsVoidGoal nodes g → (IsVoid nodes m → ⊥) → StrongTo nodes m g (Drop ∷ [])
  firmly : {g : CoercionGoal} {path : List Coercion} → (IsVoidGoal nodes g → ⊥) → FirmTo nodes m g path → StrongTo nodes m g path
  widening : {g : CoercionGoal} {path : List Coercion} → No (FirmTo nodes m g) → WidenedTo nodes m g path → StrongTo nodes m g path
  rowing : {g h : CoercionGoal} {path q : List Coercion} → No (FirmTo nodes m g) → No (WidenedTo nodes m g) → IsRowOver nodes g h → StrongTo nodes m h q → path ≡ q ++ RowUp ∷ [] → StrongTo nodes m g path
  naming : {g : CoercionGoal} {path : List Coercion} → No (FirmTo nodes m g) → NamedTo nodes m g path → StrongTo nodes m g path

-- ---- a path from a mode to another by a sort

abbrev pub Leads : List Shape → Sort → (from to : Mode) → List Coercion → Type 0
Leads nodes by.Soft m n path = GoesToEquivalent nodes by.Soft m n path
Leads nodes by.Weak m n path = GoesToEquivalent nodes by.Weak m n path
Leads nodes by.Meek m n path = GoesToEquivalent nodes by.Meek m n path
Leads nodes by.Firm m n path = FirmTo nodes m (goal.Mode n) path
Leads nodes by.Strong m n path = StrongTo nodes m (goal.Mode n) path

-- some path leads
abbrev pub CanLead : List Shape → Sort → (from to : Mode) → Type 0
CanLead nodes sort m n = (path : List Coercion) × Leads nodes sort m n path

-- a path, or none where none leads
abbrev pub Finds : (List Coercion → Type 0) → Option (List Coercion) → Type 0
Finds Leading (Some path) = Leading path
Finds Leading None = No Leading
