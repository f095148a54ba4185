-- Where bounds must stand and where they must not (Report, 4.6.1; what may not stand within those of a mode definition is own).
use Rattle.std.specs.Prelude.{◌≡◌, ◌≢◌, ◌≤◌, ◌↔◌, ◌&&◌, ℕ, List, [], ◌∷◌, Bool, true, false, Option, Some, None, length, slice_index_or, nat_lt, if◌then◌else◌}
use Rattle.a68_declarers.specs.declared.actual.Holders.TheVariants as holders
use Rattle.a68_declarers.specs.declared.form.DeclarerForm.{DeclarerForm}
use Rattle.a68_declarers.specs.declared.form.DeclarerForm.TheVariants as forms
use Rattle.a68_declarers.specs.Actual.{IsActual, AreActual}
use Rattle.a68_declarers.specs.Declarers.{form_at, is_word, IsDeclarerAt}
use Rattle.a68_ranges.specs.Nodes.{kind_at, parts_at, place_at, IsPart, StandsWithin}
use Rattle.a68_tree.specs.Trees.{Built}
use Rattle.a68_tree.specs.declared.kind.NodeKind.{NodeKind}
use Rattle.a68_tree.specs.declared.kind.NodeKind.TheVariants as kind

-- what may not stand within the bounds of a mode definition
pub data IsBarred (tree : Built) (x : ℕ) : Type 0 where
  a_routine : kind_at tree x ≡ kind.RoutineText → IsBarred tree x
  a_parallel : kind_at tree x ≡ kind.Parallel → IsBarred tree x
  an_actual_word : IsDeclarerAt tree x → is_word (form_at tree x) ≡ true → IsActual tree holders.All x → IsBarred tree x

-- the node is barred, or has a barred one within it
pub record HoldsBarred (tree : Built) (a : ℕ) : Type 0 where
  pub barred : ℕ
  pub within : StandsWithin tree a barred
  pub is : IsBarred tree barred

abbrev pub is_bound : NodeKind → Bool
is_bound kind.Bound = true
is_bound _ = false

-- a bound of a declarer
abbrev pub IsBoundOf : Built → (d b : ℕ) → Type 0
IsBoundOf tree d b = IsPart tree d b × (is_bound (kind_at tree b) ≡ true)

-- one of the declarer's bounds is not as it must be
pub data HasWrongBound (tree : Built) (d b : ℕ) : Type 0 where
  lacks : IsActual tree holders.All d → parts_at tree b ≡ [] → HasWrongBound tree d b
  has : (IsActual tree holders.All d → ⊥) → parts_at tree b ≢ [] → HasWrongBound tree d b
  barred : IsActual tree holders.ModeDefinitions d → HoldsBarred tree b → HasWrongBound tree d b

pub record HasWrongBounds (tree : Built) (d : ℕ) : Type 0 where
  pub declarer : IsDeclarerAt tree d
  pub bound : ℕ
  pub of : IsBoundOf tree d bound
  pub wrong : HasWrongBound tree d bound

-- of those for which that holds and which begin at its byte, the node has the least number
abbrev pub IsFirstOfPlace : Built → (ℕ → Type 0) → Option ℕ → Type 0
IsFirstOfPlace tree Holds None = Unit {0}
IsFirstOfPlace tree Holds (Some d) = (other : ℕ) → Holds other → place_at tree other ≡ place_at tree d → d ≤ other

-- the nodes from a number on are marked where they are barred, or have a barred one within them
pub record AreBarred (tree : Built) (from : ℕ) (marks : List Bool) : Type 0 where
  pub long : length marks ≡ length tree.nodes
  pub exact : (x : ℕ) → (slice_index_or marks x false ≡ true) ↔ ((from ≤ x) × HoldsBarred tree x)

-- The `[` of a row: the first symbol of its declarer, or the next one behind FLEX. `starts` are the first bytes of all
-- symbols, in order.
abbrev pub next_start : (starts : List ℕ) → (byte : ℕ) → ℕ
next_start [] byte = byte
next_start (s ∷ ss) byte = if nat_lt byte s then s else next_start ss byte

abbrev pub bracket_of : DeclarerForm → (starts : List ℕ) → (byte : ℕ) → ℕ
bracket_of (forms.Row true) starts byte = next_start starts byte
bracket_of _ starts byte = byte

abbrev pub bracket_at : Built → (starts : List ℕ) → (d : ℕ) → ℕ
bracket_at tree starts d = bracket_of (form_at tree d) starts (place_at tree d)

-- a bound with these parts is wrong in a declarer: by its parts, or by what it holds
abbrev pub is_wrong : (actual modal held : Bool) → List ℕ → Bool
is_wrong true modal held [] = true
is_wrong true modal held (p ∷ ps) = modal && held
is_wrong false modal held [] = modal && held
is_wrong false modal held (p ∷ ps) = true

-- the tables by which bounds are judged
pub record AreMarks (tree : Built) (actual modal barred : List Bool) : Type 0 where
  pub actual_are : AreActual tree holders.All actual
  pub modal_are : AreActual tree holders.ModeDefinitions modal
  pub barred_are : AreBarred tree 0 barred

-- a node of that kind is barred; a declarer, where it is an actual mode word
abbrev pub barred_by : NodeKind → (actual_word : Bool) → Bool
barred_by kind.RoutineText actual_word = true
barred_by kind.Parallel actual_word = true
barred_by kind.Declarer actual_word = actual_word
barred_by _ actual_word = false
