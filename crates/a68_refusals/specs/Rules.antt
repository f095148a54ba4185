-- The rules that a node breaks by itself (Report, 3.3.1, 4.5, 5.2.2, 5.3, 5.4.2, 5.4.3, 5.4.4, 7.2; P1, P2 and J2 are own).
use Rattle.std.specs.Prelude.{◌+◌, ◌||◌, ℕ, List, [], ◌∷◌, length, nat_eq, nat_lt, slice_get, slice_index_or, Option, Some, None, Bool, true, false, if◌then◌else◌}
use Rattle.a68_ranges.specs.declared.tags.TheConstants as tags
use Rattle.std.specs.Option.{option_map_or}
use Rattle.a68_definitions.specs.Tags.{called_by, called_tag, is_label_at}
use Rattle.a68_modes.specs.Nodes.{shape_at}
use Rattle.a68_modes.specs.declared.shape.Shape.{Shape}
use Rattle.a68_modes.specs.declared.shape.Shape.TheVariants.{Proc, Struct}
use Rattle.a68_positions.specs.declared.position.Position.{Position}
use Rattle.a68_positions.specs.declared.position.Position.TheVariants as position
use Rattle.a68_ranges.specs.Nodes.{name_at, parts_at, place_at}
use Rattle.a68_refusals.specs.declared.rule.NodeRule.{NodeRule}
use Rattle.a68_refusals.specs.Jumps.{jump_rule}
use Rattle.a68_refusals.specs.declared.rule.NodeRule.TheVariants.{N1, N4, O1, C2, C3, P1, P2, J1, J2}
use Rattle.a68_tree.specs.Trees.{Built}
use Rattle.a68_tree.specs.declared.kind.NodeKind.{NodeKind}
use Rattle.a68_tree.specs.declared.kind.NodeKind.TheVariants as kind
use Rattle.a68_tree.specs.declared.node.Node.{Node}
use Rattle.a68_yields.specs.Leaves.{yield_at}
use Rattle.a68_yields.specs.Parts.{field_mode, fields_of, rowed, structured}
use Rattle.a68_yields.specs.Yields.{is_unknown}
use Rattle.a68_yields.specs.declared.parts.Rowed.{Rowed}
use Rattle.a68_yields.specs.declared.parts.Structured.{Structured}
use Rattle.a68_yields.specs.declared.yielding.Finding.{Finding}
use Rattle.a68_yields.specs.declared.yielding.Finding.TheVariants as finding
use Rattle.a68_yields.specs.declared.yielding.Yielding.{Yielding}

-- a tag that no range about it declares; one of a label, which is no value; print, write or whole of the standard environ where it is not called
abbrev pub is_called : Position → Bool
is_called position.Called = true
is_called _ = false

abbrev pub uncalled : Option ℕ → Position → Option NodeRule
uncalled None own = None
uncalled (Some place) own = if is_called own then None else Some P2

abbrev pub tag_rule : Built → (definition called : Option ℕ) → Position → Option NodeRule
tag_rule tree None called own = Some N1
tag_rule tree (Some d) called own = if is_label_at tree d then Some J2 else uncalled called own

-- a field that the structure does not have
abbrev pub no_field : Option ℕ → Option NodeRule
no_field None = Some N4
no_field (Some m) = None

abbrev pub field_rule : List Shape → (field : ℕ) → Option Structured → Option NodeRule
field_rule nodes field None = None
field_rule nodes field (Some s) = no_field (field_mode field (fields_of (shape_at nodes s.node)))

abbrev pub selection_rule : List Shape → (field : ℕ) → Finding → Option NodeRule
selection_rule nodes field (finding.Mode (Some m)) = field_rule nodes field (structured nodes m)
selection_rule nodes field _ = None

-- of one of these parts it is not known what it yields
abbrev pub is_one_unknown : List Yielding → List ℕ → Bool
is_one_unknown ys [] = false
is_one_unknown ys (p ∷ ps) = is_unknown (yield_at ys p) || is_one_unknown ys ps

abbrev pub known_break : List Yielding → List ℕ → NodeRule → Option NodeRule
known_break ys parts rule = if is_one_unknown ys parts then None else Some rule

-- a formula without an operator; sides without a name in common
abbrev pub formula_rule : List Yielding → List ℕ → Finding → Option NodeRule
formula_rule ys parts (finding.Operator None) = known_break ys parts O1
formula_rule ys parts _ = None

abbrev pub identity_rule : List Yielding → List ℕ → Finding → Option NodeRule
identity_rule ys parts (finding.Mode None) = known_break ys parts C2
identity_rule ys parts _ = None

-- ---- wrong counts

abbrev pub counted : (count due : ℕ) → Option NodeRule
counted count due = if nat_eq count due then None else Some C3

-- the row, and an index for each of its dimensions
abbrev pub index_rule : (count : ℕ) → Option Rowed → Option NodeRule
index_rule count None = None
index_rule count (Some r) = counted count (r.dims + 1)

abbrev pub slice_rule : List Shape → (count : ℕ) → Finding → Option NodeRule
slice_rule nodes count (finding.Mode (Some m)) = index_rule count (rowed nodes m)
slice_rule nodes count _ = None

-- the primary, and a unit for each parameter
abbrev pub parameter_rule : (count : ℕ) → Shape → Option NodeRule
parameter_rule count (Proc params m) = counted count (length params + 1)
parameter_rule count _ = None

abbrev pub routine_rule : List Shape → (count : ℕ) → Finding → Option NodeRule
routine_rule nodes count (finding.Mode (Some m)) = parameter_rule count (shape_at nodes m)
routine_rule nodes count _ = None

-- whole takes two units, print and write one
abbrev pub call_rule : List Shape → (count : ℕ) → (called : Option ℕ) → Finding → Option NodeRule
call_rule nodes count (Some place) found = if nat_eq place tags.WHOLE then counted count 3 else counted count 2
call_rule nodes count None found = routine_rule nodes count found

abbrev pub unit_rule : (count : ℕ) → Shape → Option NodeRule
unit_rule count (Struct fields) = counted count (length fields)
unit_rule count _ = None

abbrev pub display_rule : List Shape → (count : ℕ) → Position → Option NodeRule
display_rule nodes count (position.Goal m setter) = unit_rule count (shape_at nodes m)
display_rule nodes count _ = None

-- an operator has one parameter or two
abbrev pub operator_rule : Shape → Option NodeRule
operator_rule (Proc params m) = if nat_eq (length params) 1 then None else counted (length params) 2
operator_rule _ = None

abbrev pub parallel_rule : (count : ℕ) → Option NodeRule
parallel_rule count = if nat_eq count 1 then Some P1 else None

-- the rule that a node breaks by itself: a row for each kind
abbrev pub own_rule : Built → (tags : List (Option ℕ)) → (defined : List ℕ) → List Shape → List Yielding → (n : ℕ) → Finding → Position → NodeKind → Option NodeRule
own_rule tree tags defined nodes ys n found own kind.Tag = tag_rule tree (slice_index_or tags n None) (called_tag tree tags n) own
own_rule tree tags defined nodes ys n found own kind.GoTo = jump_rule tree nodes n (slice_index_or tags n None) own
own_rule tree tags defined nodes ys n found own kind.Selection = selection_rule nodes (name_at tree n) found
own_rule tree tags defined nodes ys n found own kind.Monadic = formula_rule ys (parts_at tree n) found
own_rule tree tags defined nodes ys n found own kind.Dyadic = formula_rule ys (parts_at tree n) found
own_rule tree tags defined nodes ys n found own kind.Identity = identity_rule ys (parts_at tree n) found
own_rule tree tags defined nodes ys n found own kind.Slice = slice_rule nodes (length (parts_at tree n)) found
own_rule tree tags defined nodes ys n found own kind.Call = call_rule nodes (length (parts_at tree n)) (called_by tree tags n) found
own_rule tree tags defined nodes ys n found own kind.Collateral = display_rule nodes (length (parts_at tree n)) own
own_rule tree tags defined nodes ys n found own kind.OpDefinition = operator_rule (shape_at nodes (slice_index_or defined n 0))
own_rule tree tags defined nodes ys n found own kind.Parallel = parallel_rule (length (parts_at tree n))
own_rule tree tags defined nodes ys n found own _ = None

-- ---- where it is told: at the node; or at the sign of a formula of two operands, the last symbol before the right one; or at the tag of a jump
-- that may not be made, its last symbol

abbrev pub last_start : (starts : List ℕ) → (byte found : ℕ) → ℕ
last_start [] byte found = found
last_start (s ∷ ss) byte found = if nat_lt s byte then last_start ss byte s else found

abbrev pub sign_of : Built → (n : ℕ) → List ℕ → ℕ
sign_of tree n (l ∷ r ∷ []) = last_start tree.starts (place_at tree r) 0
sign_of tree n _ = place_at tree n

abbrev pub is_operator_lacking : NodeRule → Bool
is_operator_lacking O1 = true
is_operator_lacking _ = false

-- the byte behind a node, and that of its last symbol
abbrev pub end_at : Built → (n : ℕ) → ℕ
end_at tree n = option_map_or (λ (node : Node). node.span.to) (slice_get tree.nodes n) 0

abbrev pub last_symbol : Built → (n : ℕ) → ℕ
last_symbol tree n = last_start tree.starts (end_at tree n) 0

abbrev pub is_jump_astray : NodeRule → Bool
is_jump_astray J1 = true
is_jump_astray _ = false

abbrev pub place_behind : Built → (n : ℕ) → NodeRule → ℕ
place_behind tree n rule = if is_jump_astray rule then last_symbol tree n else place_at tree n

abbrev pub place_of : Built → (n : ℕ) → NodeRule → ℕ
place_of tree n rule = if is_operator_lacking rule then sign_of tree n (parts_at tree n) else place_behind tree n rule
