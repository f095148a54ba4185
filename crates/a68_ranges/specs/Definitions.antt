-- What a range declares, and the definition of an applied word (Report, 4.8 and 7.2.1).
use Rattle.std.specs.Prelude.{◌≡◌, ◌<◌, ℕ, Bool, true, false, List, [], ◌∷◌, ◌++◌, length, slice_get, Option, Some, None, if◌then◌else◌}
use Rattle.std.specs.List.{Contains}
use Rattle.a68_ranges.specs.Nodes.{parts_at, kind_at, name_at}
use Rattle.a68_ranges.specs.Surroundings.{Lies}
use Rattle.a68_ranges.specs.declared.sort.IndicatorKind.{IndicatorKind}
use Rattle.a68_ranges.specs.declared.sort.IndicatorKind.TheVariants as sorts
use Rattle.a68_tree.specs.Trees.{Built}
use Rattle.a68_tree.specs.declared.kind.NodeKind.{NodeKind}
use Rattle.a68_tree.specs.declared.kind.NodeKind.TheVariants as kind

-- what a node of that kind defines
unfoldable pub defines : NodeKind → Option IndicatorKind
defines kind.Variable = Some sorts.Tag
defines kind.IdentityDefinition = Some sorts.Tag
defines kind.Parameter = Some sorts.Tag
defines kind.For = Some sorts.Tag
defines kind.Label = Some sorts.Tag
defines kind.ModeDefinition = Some sorts.ModeWord
defines kind.Priority = Some sorts.Priority
defines kind.OpDefinition = Some sorts.Operator
defines kind.Field = Some sorts.Field
defines _ = None

-- the node, where it defines something
abbrev pub if_defines : (id : ℕ) → Option IndicatorKind → List ℕ
if_defines id (Some sort) = id ∷ []
if_defines id None = []

-- those of these nodes that define something
abbrev pub defining : Built → List ℕ → List ℕ
defining tree [] = []
defining tree (p ∷ ps) = if_defines p (defines (kind_at tree p)) ++ defining tree ps

abbrev pub is_joined : NodeKind → Bool
is_joined kind.Joined = true
is_joined _ = false

-- the parts of a Joined in its place
abbrev pub if_joined : Built → ℕ → NodeKind → List ℕ
if_joined tree p form = if is_joined form then parts_at tree p else p ∷ []

-- the phrases of a Serial, with the definitions of a Joined in its place
abbrev pub unjoined : Built → List ℕ → List ℕ
unjoined tree [] = []
unjoined tree (p ∷ ps) = if_joined tree p (kind_at tree p) ++ unjoined tree ps

-- What a node of that kind declares, in order of text: a Serial what its phrases define, a RoutineText and a Spec their
-- Parameters, a Loop its For; and a Declarer its Fields.
abbrev pub declared_by : Built → NodeKind → List ℕ → List ℕ
declared_by tree kind.Serial parts = defining tree (unjoined tree parts)
declared_by tree kind.RoutineText parts = defining tree parts
declared_by tree kind.Spec parts = defining tree parts
declared_by tree kind.Loop parts = defining tree parts
declared_by tree kind.Declarer parts = defining tree parts
declared_by tree _ parts = []

unfoldable pub declared_in : Built → (range : ℕ) → List ℕ
declared_in tree range = declared_by tree (kind_at tree range) (parts_at tree range)

-- what each of the nodes before one declares
pub record AreDeclared (tree : Built) (count : ℕ) (declared : List (List ℕ)) : Type 0 where
  pub long : length declared ≡ count
  pub each : (range : ℕ) → range < count → slice_get declared range ≡ Some (declared_in tree range)

-- the range declares the word, by that definition
pub record Declares (tree : Built) (range : ℕ) (sort : IndicatorKind) (name definition : ℕ) : Type 0 where
  pub among : Contains (declared_in tree range) definition
  pub sort_is : defines (kind_at tree definition) ≡ Some sort
  pub name_is : name_at tree definition ≡ name

-- the definition in the innermost of these ranges that has one
pub data FirstDefinition (tree : Built) (sort : IndicatorKind) (name : ℕ) : List ℕ → ℕ → Type 0 where
  here : {range definition : ℕ} {more : List ℕ} → Declares tree range sort name definition → FirstDefinition tree sort name (range ∷ more) definition
  further : {range definition : ℕ} {more : List ℕ} → ((d : ℕ) → Declares tree range sort name d → ⊥) → FirstDefinition tree sort name more definition → FirstDefinition tree sort name (range ∷ more) definition

-- the definition of a word that is applied at a node, in a surrounding range
pub record IsWordDefinition (tree : Built) (at : ℕ) (sort : IndicatorKind) (name definition : ℕ) : Type 0 where
  pub ranges : List ℕ
  pub lies : Lies tree at ranges
  pub first : FirstDefinition tree sort name ranges definition

-- no surrounding range has one
abbrev pub Undefined : Built → (at : ℕ) → IndicatorKind → (name : ℕ) → Type 0
Undefined tree at sort name = (definition : ℕ) → IsWordDefinition tree at sort name definition → ⊥
