-- The modes of what a tree defines, and of its routine texts, plans, generators and casts (Report, 3.4.1, 3.5.1, 4.4.1, 4.5.1, 5.2.3, 5.4.1
-- and 5.5.1). In which order modes join the others is own.
use Rattle.std.specs.Prelude.{◌≡◌, ◌<◌, ◌-◌, ℕ, suc, Bool, true, false, List, [], ◌∷◌, length, map, replicate, slice_index_or, slice_set, Option, Some, None, if◌then◌else◌}
use Rattle.std.specs.List.{All}
use Rattle.a68_declare.specs.Outcome.{ByNode}
use Rattle.a68_definitions.specs.declared.requests.Request.{Request}
use Rattle.a68_definitions.specs.declared.requests.Request.TheVariants as request
use Rattle.a68_declarers.specs.Shapes.{front}
use Rattle.a68_mode_table.specs.Growing.{IsInterned}
use Rattle.a68_modes.specs.declared.shape.Shape.{Shape}
use Rattle.a68_modes.specs.declared.shape.Shape.TheVariants.{Ref, Proc}
use Rattle.a68_ranges.specs.Nodes.{kind_at, parts_at}
use Rattle.a68_tree.specs.Trees.{Built}
use Rattle.a68_tree.specs.declared.kind.NodeKind.{NodeKind}
use Rattle.a68_tree.specs.declared.kind.NodeKind.TheVariants as kind

-- the mode of a declarer as it stands, and without its FLEX
abbrev pub mode_at : ByNode → (declarer : ℕ) → ℕ
mode_at of d = slice_index_or of.as_they_stand d 0

abbrev pub fixed_mode_at : ByNode → (declarer : ℕ) → ℕ
fixed_mode_at of d = slice_index_or of.without_flex d 0

-- a part by its place, from the front and from the end; node 0, which is no part, where there is none
abbrev pub part_number : List ℕ → (k : ℕ) → ℕ
part_number parts k = slice_index_or parts k 0

abbrev pub part_from_end : List ℕ → (k : ℕ) → ℕ
part_from_end parts k = slice_index_or parts (length parts - k) 0

abbrev pub is_declarer : NodeKind → Bool
is_declarer kind.Declarer = true
is_declarer _ = false

abbrev pub is_parameter : NodeKind → Bool
is_parameter kind.Parameter = true
is_parameter _ = false

-- the declarers of the Parameters among these parts, in order: each that of the nearest part before it that is none
abbrev pub parameters : Built → (before : ℕ) → List ℕ → List ℕ
parameters tree before [] = []
parameters tree before (p ∷ ps) = if is_parameter (kind_at tree p) then before ∷ parameters tree before ps else parameters tree p ps

-- the first declarer among these parts
abbrev pub first_declarer : Built → List ℕ → Option ℕ
first_declarer tree [] = None
first_declarer tree (p ∷ ps) = if is_declarer (kind_at tree p) then Some p else first_declarer tree ps

-- a variable is a name of the mode of its declarer as it stands, or of that of its routine text
abbrev pub variable : ByNode → (table : List ℕ) → List ℕ → Option ℕ → Request
variable of table parts (Some d) = request.Name (mode_at of d)
variable of table parts None = request.Name (part_number table (part_number parts 0))

-- an identity has the mode of its declarer without FLEX, or that of its routine text
abbrev pub identity : ByNode → (table : List ℕ) → List ℕ → Request
identity of table [] = request.Nothing
identity of table (r ∷ []) = request.There (part_number table r)
identity of table (d ∷ u ∷ more) = request.There (fixed_mode_at of d)

-- What the mode of a node of that kind is, by the modes of those behind it (`table`). Modes of parameters and results are without FLEX.
abbrev pub requested : Built → ByNode → (table : List ℕ) → NodeKind → List ℕ → Request
requested tree of table kind.For parts = request.There 1
requested tree of table kind.RoutineText parts = request.Routine (map (fixed_mode_at of) (parameters tree 0 parts)) (fixed_mode_at of (part_from_end parts 2))
requested tree of table kind.Plan parts = request.Routine (map (fixed_mode_at of) (front parts)) (fixed_mode_at of (part_from_end parts 1))
requested tree of table kind.IdentityDefinition parts = identity of table parts
requested tree of table kind.OpDefinition parts = request.There (part_number table (part_number parts 0))
requested tree of table kind.Variable parts = variable of table parts (first_declarer tree parts)
requested tree of table kind.Generator parts = request.Name (mode_at of (part_from_end parts 1))
requested tree of table kind.Cast parts = request.There (fixed_mode_at of (part_number parts 0))
requested tree of table _ parts = request.Nothing

-- the mode that is requested, among modes that may grow by it
abbrev pub IsGranted : List Shape → Request → List Shape → ℕ → Type 0
IsGranted nodes request.Nothing after m = (after ≡ nodes) × (m ≡ 0)
IsGranted nodes (request.There mode) after m = (after ≡ nodes) × (m ≡ mode)
IsGranted nodes (request.Name of) after m = IsInterned nodes (Ref of) after m
IsGranted nodes (request.Routine params result) after m = IsInterned nodes (Proc params result) after m

-- the modes of a request are among the first n
abbrev pub IsRequestBelow : ℕ → Request → Type 0
IsRequestBelow n request.Nothing = 0 < n
IsRequestBelow n (request.There mode) = mode < n
IsRequestBelow n (request.Name of) = of < n
IsRequestBelow n (request.Routine params result) = All (λ m. m < n) params × (result < n)

-- the modes of the Parameters among these parts: those of their declarers without FLEX
abbrev pub with_parameters : Built → ByNode → (before : ℕ) → List ℕ → List ℕ → List ℕ
with_parameters tree of before [] table = table
with_parameters tree of before (p ∷ ps) table =
    if is_parameter (kind_at tree p) then with_parameters tree of before ps (slice_set table p (fixed_mode_at of before)) else with_parameters tree of p ps table

abbrev pub has_parameters : NodeKind → Bool
has_parameters kind.RoutineText = true
has_parameters kind.Spec = true
has_parameters _ = false

-- the modes with that of one node more, and of its parameters
abbrev pub with_mode : Built → ByNode → (n m : ℕ) → List ℕ → List ℕ
with_mode tree of n m table =
    if has_parameters (kind_at tree n) then with_parameters tree of 0 (parts_at tree n) (slice_set table n m) else slice_set table n m

-- The modes of the nodes from one on, and all modes once these are known, which began as `start`. Nodes are looked at from the
-- last to the first, so that a node's parts come before it.
pub data AreDefinedFrom (tree : Built) (of : ByNode) (start : List Shape) : (from : ℕ) → (nodes : List Shape) → (table : List ℕ) → Type 0 where
  none_yet : {from : ℕ} {nodes : List Shape} {table : List ℕ} → from ≡ length tree.nodes → nodes ≡ start → table ≡ replicate (length tree.nodes) 0
      → AreDefinedFrom tree of start from nodes table
  one_more : {from : ℕ} {nodes : List Shape} {table : List ℕ} (m : ℕ) (before : List Shape) (known : List ℕ) → AreDefinedFrom tree of start (suc from) before known
      → IsGranted before (requested tree of known (kind_at tree from) (parts_at tree from)) nodes m → table ≡ with_mode tree of from m known
      → AreDefinedFrom tree of start from nodes table

-- the modes of all nodes
abbrev pub AreDefined : Built → ByNode → (start nodes : List Shape) → (table : List ℕ) → Type 0
AreDefined tree of start nodes table = AreDefinedFrom tree of start 0 nodes table

-- the modes of declarers are among the first n
pub record AreBelow (n : ℕ) (of : ByNode) : Type 0 where
  pub as_they_stand : (d : ℕ) → mode_at of d < n
  pub without_flex : (d : ℕ) → fixed_mode_at of d < n

-- so are those of all nodes
abbrev pub AllBelow : (n : ℕ) → (table : List ℕ) → Type 0
AllBelow n table = (k : ℕ) → part_number table k < n
