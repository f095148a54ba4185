-- What is asked for is among the modes that are there.
use Rattle.std.proofs.Common.{◌≡◌, ◌<◌, ◌-◌, ◌+◌, ◌++◌, ◌∷◌, [], ℕ, zero, suc, List, drop, Bool, true, false, Option, None, Some, length, map, nat_eq, replicate, refl, arith, if◌then◌else◌}
use Rattle.std.proofs.lemmas.Bool.{ltb-true}
use Rattle.std.specs.List.{All}
use Rattle.std.specs.Prelude.{◌&&◌, nat_lt, slice_index_or, slice_set}
use Rattle.a68_declare.specs.Outcome.{ByNode}
use Rattle.a68_definitions.specs.Defined.{AllBelow, first_declarer, fixed_mode_at, is_declarer, part_from_end, part_number}
use Rattle.a68_definitions.specs.Tags.{called_by}
use Rattle.a68_identify.specs.Operators.{NumbersAreThere}
use Rattle.a68_identify.specs.declared.identified.Identified.{Identified}
use Rattle.a68_identify.specs.declared.identified.Identified.TheVariants.{Declared, Standard}
use Rattle.a68_modes.specs.Nodes.{HoldsNodes, ShapeIsWithin, shape_at}
use Rattle.a68_modes.specs.declared.coercion.Sort.{Sort}
use Rattle.a68_modes.specs.declared.coercion.Sort.TheVariants as by
use Rattle.a68_modes.specs.declared.shape.Shape.{Shape}
use Rattle.a68_modes.specs.declared.shape.Shape.TheVariants.{Void, Ref, Rows, Struct, Proc}
use Rattle.a68_positions.specs.Aside.{aside_by, of_call, of_display, of_formula, of_operator, of_source, referred, row_within}
use Rattle.a68_positions.specs.Given as specs
use Rattle.a68_positions.specs.Given.{given, position_at}
use Rattle.a68_positions.specs.Positions.{at_start, with_parts}
use Rattle.a68_positions.specs.Below.{ArePositionsBelow, IsAsideBelow, IsPositionBelow}
use Rattle.a68_positions.specs.declared.aside.Aside.TheVariants as aside
use Rattle.a68_positions.specs.declared.asker.Asker.{Asker}
use Rattle.a68_positions.specs.declared.position.Position.{Position}
use Rattle.a68_positions.specs.declared.position.Position.TheVariants as position
use Rattle.a68_ranges.specs.Nodes.{kind_at, parts_at}
use Rattle.a68_tree.specs.Trees.{Built}
use Rattle.a68_tree.specs.declared.kind.NodeKind.{NodeKind}
use Rattle.a68_tree.specs.declared.kind.NodeKind.TheVariants as kind
use Rattle.a68_yields.specs.Below.{IsFindingBelow, IsOperatorBelow}
use Rattle.a68_yields.specs.Leaves.{has_exit, is_exit, is_serial, is_spec}
use Rattle.a68_yields.specs.Parts.{parameters_of}
use Rattle.a68_yields.specs.Sought.{is_subscript}
use Rattle.a68_yields.specs.Yields.{Known}
use Rattle.a68_yields.specs.declared.yielding.Finding.{Finding}
use Rattle.a68_yields.specs.declared.yielding.Finding.TheVariants as finding

-- ---- lists of modes

entry_below : (n : ℕ) (xs : List ℕ) (k : ℕ) → 0 < n → All (λ x. x < n) xs → slice_index_or xs k 0 < n
entry_below n [] k some all = some
entry_below n (x ∷ xs) zero some all = all 0 0 (omega arith)
entry_below n (x ∷ xs) (suc k) some all = entry_below n xs k some (λ i d h. all (suc i) d (omega (arith, h)))

-- the modes of declarers without FLEX
abbrev pub AreFixedBelow : ℕ → ByNode → Type 0
AreFixedBelow n of = (d : ℕ) → fixed_mode_at of d < n

pub fixed_below : (tree : Built) (nodes : List Shape) (of : ByNode) → 0 < length nodes → NumbersAreThere tree nodes of → AreFixedBelow (length nodes) of
fixed_below tree nodes of some there d = entry_below (length nodes) of.without_flex d some there.there

-- a parameter by its place; VOID where there is none
front_below : (n m : ℕ) (params : List ℕ) (k : ℕ) → 0 < n → All (λ x. x < n) (params ++ m ∷ []) → slice_index_or params k 0 < n
front_below n m [] k some all = some
front_below n m (x ∷ xs) zero some all = all 0 0 (omega arith)
front_below n m (x ∷ xs) (suc k) some all = front_below n m xs k some (λ i d h. all (suc i) d (omega (arith, h)))

parameters_below : (n : ℕ) (s : Shape) (k : ℕ) → 0 < n → ShapeIsWithin n s → slice_index_or (parameters_of s) k 0 < n
parameters_below n (Proc params m) k some within = front_below n m params k some within
parameters_below n _ k some within = some

field_below : (n : ℕ) (fields : List (ℕ × ℕ)) (k : ℕ) → 0 < n → All (λ x. x < n) (map (λ (field : ℕ × ℕ). field.1) fields) → (slice_index_or fields k (0, 0)).1 < n
field_below n [] k some all = some
field_below n (f ∷ fs) zero some all = all 0 0 (omega arith)
field_below n (f ∷ fs) (suc k) some all = field_below n fs k some (λ i d h. all (suc i) d (omega (arith, h)))

module _ (n : ℕ) (some : 8 < n) where
  -- ---- what is one of two

  either : (t : Bool) (x y : Position) → IsPositionBelow n x → IsPositionBelow n y → IsPositionBelow n (if t then x else y)
  either true x y first second = first
  either false x y first second = second

  either_mode : (t : Bool) (x y : ℕ) → x < n → y < n → (if t then x else y) < n
  either_mode true x y first second = first
  either_mode false x y first second = second

  asked_within : (sort : Sort) (f : Finding) → IsFindingBelow n f → IsPositionBelow n (specs.asked sort f)
  asked_within s (finding.Mode (Some m)) within = within
  asked_within s (finding.Mode None) within = tt
  asked_within s (finding.Operator o) within = tt
  asked_within s finding.Nothing within = tt

  -- the first part is asked for a mode or a form, the others that
  first_asked : (place : ℕ) (sort : Sort) (f : Finding) (other : Position) → IsFindingBelow n f → IsPositionBelow n other
      → IsPositionBelow n (specs.at_first place (specs.asked sort f) other)
  first_asked place s f other within rest = either (nat_eq place 0) (specs.asked s f) other (asked_within s f within) rest

  last_given : (count place : ℕ) (x y : Position) → IsPositionBelow n x → IsPositionBelow n y → IsPositionBelow n (specs.at_last count place x y)
  last_given count place x y = either (nat_eq (place + 1) count) x y

  -- ---- by the kind of the node

  choice_within : (node : ℕ) (own : Position) → IsPositionBelow n own → IsPositionBelow n (specs.of_choice node own)
  choice_within node (position.Goal m setter) within = within
  choice_within node (position.Asks s (Some m)) within = within
  choice_within node (position.Asks s None) within = tt
  choice_within node position.Unlooked within = tt
  choice_within node _ within = tt

  chosen_within : (node : ℕ) (own : Position) (k : NodeKind) → IsPositionBelow n own → IsPositionBelow n (specs.chosen_part node own k)
  chosen_within node own k within = either (is_spec k) position.Nowhere (specs.of_choice node own) tt (choice_within node own within)

  last_within : (tree : Built) (node : ℕ) (own : Position) → IsPositionBelow n own → IsPositionBelow n (specs.last_unit tree node own)
  last_within tree node own within = either (has_exit tree (parts_at tree node)) (specs.of_choice node own) own (choice_within node own within) within

  phrase_within : (tree : Built) (node : ℕ) (own : Position) (behind : List ℕ) → IsPositionBelow n own → IsPositionBelow n (specs.phrase tree node own behind)
  phrase_within tree node own [] within = last_within tree node own within
  phrase_within tree node own (p ∷ ps) within = either (is_exit (kind_at tree p)) (specs.of_choice node own) (specs.goal node 0) (choice_within node own within) (omega arith)

  serial_within : (tree : Built) (node place p : ℕ) (own : Position) → IsPositionBelow n own → IsPositionBelow n (specs.serial_part tree node place p own)
  serial_within tree node place p own within =
      either (specs.is_marker (kind_at tree p)) position.Nowhere (specs.phrase tree node own (drop (place + 1) (parts_at tree node))) tt
      (phrase_within tree node own (drop (place + 1) (parts_at tree node)) within)

  looped_within : (node : ℕ) (k : NodeKind) → IsPositionBelow n (specs.looped node k)
  looped_within node k = either (is_serial k) (specs.goal node 0) position.Nowhere (omega arith) tt

  variable_mode_within : (of : ByNode) (defined : List ℕ) (p : ℕ) (d : Option ℕ) → AreFixedBelow n of → AllBelow n defined → specs.variable_mode of defined p d < n
  variable_mode_within of defined p (Some d) below all = below d
  variable_mode_within of defined p None below all = all p

  variable_within : (tree : Built) (of : ByNode) (defined : List ℕ) (node p : ℕ) → AreFixedBelow n of → AllBelow n defined → IsPositionBelow n (specs.variable_part tree of defined node p)
  variable_within tree of defined node p below all =
      either (is_declarer (kind_at tree p)) position.Nowhere (specs.goal node (specs.variable_mode of defined p (first_declarer tree (parts_at tree node)))) tt
      (variable_mode_within of defined p (first_declarer tree (parts_at tree node)) below all)

  source_within : (node x : ℕ) (f : Finding) → x < n → IsPositionBelow n (specs.source node x f)
  source_within node x (finding.Mode (Some name)) h = h
  source_within node x _ h = tt

  side_within : (node : ℕ) (f : Finding) → IsFindingBelow n f → IsPositionBelow n (specs.side node f)
  side_within node (finding.Mode (Some name)) within = within
  side_within node _ within = tt

  field_within : (node count place : ℕ) (fields : List (ℕ × ℕ)) → All (λ x. x < n) (map (λ (field : ℕ × ℕ). field.1) fields) → IsPositionBelow n (specs.field_of node count place fields)
  field_within node count place fields all =
      either (nat_eq (length fields) count) (specs.goal node (slice_index_or fields place (0, 0)).1) position.Unlooked (field_below n fields place (omega arith) all) tt

  unit_within : (node count place x : ℕ) (s : Shape) → x < n → ShapeIsWithin n s → IsPositionBelow n (specs.unit_of node count place x s)
  unit_within node count place x Void h within = omega arith
  unit_within node count place x (Rows dims flex of) h within = either_mode (nat_lt 1 dims) x of h (within 0 0 (omega arith))
  unit_within node count place x (Struct fields) h within = field_within node count place fields within
  unit_within node count place x _ h within = tt

  -- ---- what a write to a table changes

  pub set_within : (ps : List Position) (i : ℕ) (p : Position) → ArePositionsBelow n ps → IsPositionBelow n p → ArePositionsBelow n (slice_set ps i p)
  set_within [] i p all new node = all node
  set_within (x ∷ xs) zero p all new zero = new
  set_within (x ∷ xs) zero p all new (suc node) = all (suc node)
  set_within (x ∷ xs) (suc i) p all new zero = all zero
  set_within (x ∷ xs) (suc i) p all new (suc node) = set_within xs i p (λ k. all (suc k)) new node

  nowhere_within : (count node : ℕ) → IsPositionBelow n (slice_index_or (replicate count position.Nowhere) node position.Nowhere)
  nowhere_within zero node = tt
  nowhere_within (suc count) zero = tt
  nowhere_within (suc count) (suc node) = nowhere_within count node

  pub start_within : (count : ℕ) → ArePositionsBelow n (at_start count)
  start_within count = set_within (replicate count position.Nowhere) 0 (position.Goal 0 None) (nowhere_within count) (omega arith)

module _ (nodes : List Shape) (holds : HoldsNodes nodes) (some : 8 < length nodes) where
  found_shape : (m : ℕ) → m < length nodes → ShapeIsWithin (length nodes) (shape_at nodes m)
  found_shape m h = holds.within m h

  -- the k-th parameter of the procedure at a node
  parameter_there : (m k : ℕ) → m < length nodes → slice_index_or (parameters_of (shape_at nodes m)) k 0 < length nodes
  parameter_there m k h = parameters_below (length nodes) (shape_at nodes m) k (omega arith) (found_shape m h)

  parameter_within : (node count place : ℕ) (f : Finding) → IsFindingBelow (length nodes) f → IsPositionBelow (length nodes) (specs.parameter nodes node count place f)
  parameter_within node count place (finding.Mode (Some m)) within =
      either (length nodes) some (nat_eq (length (parameters_of (shape_at nodes m)) + 1) count) (specs.goal node (slice_index_or (parameters_of (shape_at nodes m)) (place - 1) 0)) position.Unlooked
      (parameter_there m (place - 1) within) tt
  parameter_within node count place _ within = tt

  item_within : (node count : ℕ) (k : NodeKind) → IsPositionBelow (length nodes) (specs.item node count k)
  item_within node count k =
      either (length nodes) some (nat_eq count 2) (if specs.is_collateral k then position.Items node else specs.goal node 8) position.Unlooked
      (either (length nodes) some (specs.is_collateral k) (position.Items node) (specs.goal node 8) tt some) tt

  whole_within : (node count place x : ℕ) → x < length nodes → IsPositionBelow (length nodes) (specs.whole node count place x)
  whole_within node count place x h =
      either (length nodes) some (nat_eq count 3) (specs.goal node (if nat_eq place 1 then x else 1)) position.Unlooked (either_mode (length nodes) some (nat_eq place 1) x 1 h (omega arith)) tt

  primary_within : (called : Option ℕ) (f : Finding) → IsFindingBelow (length nodes) f → IsPositionBelow (length nodes) (specs.primary called f)
  primary_within (Some c) f within = tt
  primary_within None f within = asked_within (length nodes) some by.Meek f within

  argument_within : (node count place x : ℕ) (called : Option ℕ) (f : Finding) (k : NodeKind) → x < length nodes → IsFindingBelow (length nodes) f
      → IsPositionBelow (length nodes) (specs.argument nodes node count place x called f k)
  argument_within node count place x (Some c) f k h within =
      either (length nodes) some (nat_eq c 8) (specs.whole node count place x) (specs.item node count k) (whole_within node count place x h) (item_within node count k)
  argument_within node count place x None f k h within = parameter_within node count place f within

  parameter_by_within : (defined : List ℕ) (count place : ℕ) (o : Identified) → AllBelow (length nodes) defined → IsOperatorBelow (length nodes) o
      → specs.parameter_by nodes defined count place o < length nodes
  parameter_by_within defined count place (Declared d) all within = parameter_there (part_number defined d) place (all d)
  parameter_by_within defined count place (Standard o) all within = either_mode (length nodes) some (nat_eq (place + 1) count) o.right o.left within.1 within.0

  operand_within : (defined : List ℕ) (node count place x : ℕ) (f : Finding) → AllBelow (length nodes) defined → x < length nodes → IsFindingBelow (length nodes) f
      → IsPositionBelow (length nodes) (specs.operand nodes defined node count place x f)
  operand_within defined node count place x (finding.Operator (Some o)) all h within =
      either_mode (length nodes) some (nat_eq (specs.parameter_by nodes defined count place o) 0) x (specs.parameter_by nodes defined count place o) h (parameter_by_within defined count place o all within)
  operand_within defined node count place x _ all h within = tt

  display_within : (node count place x : ℕ) (own : Position) → x < length nodes → IsPositionBelow (length nodes) own
      → IsPositionBelow (length nodes) (specs.display_unit nodes node count place x own)
  display_within node count place x (position.Goal m setter) h within = unit_within (length nodes) some node count place x (shape_at nodes m) h (found_shape m within)
  display_within node count place x (position.Items call) h within = some
  display_within node count place x position.Nowhere h within = tt
  display_within node count place x position.Called h within = tt
  display_within node count place x _ h within = tt

  -- what a node asks of a part is there, as what is asked of itself is
  pub given_within : (k : Known) (a : Asker) (place p : ℕ) (of_kind : NodeKind) → AreFixedBelow (length nodes) k.of → AllBelow (length nodes) k.defined
      → IsPositionBelow (length nodes) a.own → IsFindingBelow (length nodes) a.found → a.aside < length nodes → IsPositionBelow (length nodes) (given k nodes a place p of_kind)
  given_within k a place p kind.Closed below all own found h = own
  given_within k a place p kind.Out below all own found h = own
  given_within k a place p kind.Serial below all own found h = serial_within (length nodes) some k.tree a.node place p a.own own
  given_within k a place p kind.Conditional below all own found h = first_asked (length nodes) some place by.Meek a.found _ found (chosen_within (length nodes) some a.node a.own (kind_at k.tree p) own)
  given_within k a place p kind.Case below all own found h = first_asked (length nodes) some place by.Meek a.found _ found (chosen_within (length nodes) some a.node a.own (kind_at k.tree p) own)
  given_within k a place p kind.Conformity below all own found h = first_asked (length nodes) some place by.Meek a.found _ found (chosen_within (length nodes) some a.node a.own (kind_at k.tree p) own)
  given_within k a place p kind.Parallel below all own found h = omega arith
  given_within k a place p kind.From below all own found h = first_asked (length nodes) some place by.Meek a.found position.Nowhere found tt
  given_within k a place p kind.By below all own found h = first_asked (length nodes) some place by.Meek a.found position.Nowhere found tt
  given_within k a place p kind.To below all own found h = first_asked (length nodes) some place by.Meek a.found position.Nowhere found tt
  given_within k a place p kind.While below all own found h = first_asked (length nodes) some place by.Meek a.found position.Nowhere found tt
  given_within k a place p kind.Lower below all own found h = first_asked (length nodes) some place by.Meek a.found position.Nowhere found tt
  given_within k a place p kind.Upper below all own found h = first_asked (length nodes) some place by.Meek a.found position.Nowhere found tt
  given_within k a place p kind.At below all own found h = first_asked (length nodes) some place by.Meek a.found position.Nowhere found tt
  given_within k a place p kind.Index below all own found h =
      either (length nodes) some (is_subscript k.tree (parts_at k.tree a.node)) (specs.at_first place (specs.asked by.Meek a.found) position.Nowhere) position.Nowhere
      (first_asked (length nodes) some place by.Meek a.found position.Nowhere found tt) tt
  given_within k a place p kind.Loop below all own found h = looped_within (length nodes) some a.node (kind_at k.tree p)
  given_within k a place p kind.Cast below all own found h = either (length nodes) some (nat_eq place 0) position.Nowhere (specs.goal a.node (part_number k.defined a.node)) tt (all a.node)
  given_within k a place p kind.RoutineText below all own found h =
      last_given (length nodes) some (length (parts_at k.tree a.node)) place (specs.goal a.node (fixed_mode_at k.of (part_from_end (parts_at k.tree a.node) 2))) position.Nowhere
      (below (part_from_end (parts_at k.tree a.node) 2)) tt
  given_within k a place p kind.IdentityDefinition below all own found h =
      last_given (length nodes) some (length (parts_at k.tree a.node)) place (specs.goal a.node (part_number k.defined a.node)) position.Nowhere (all a.node) tt
  given_within k a place p kind.OpDefinition below all own found h =
      last_given (length nodes) some (length (parts_at k.tree a.node)) place (specs.goal a.node (part_number k.defined a.node)) position.Nowhere (all a.node) tt
  given_within k a place p kind.Variable below all own found h =
      last_given (length nodes) some (length (parts_at k.tree a.node)) place (specs.variable_part k.tree k.of k.defined a.node p) position.Nowhere
      (variable_within (length nodes) some k.tree k.of k.defined a.node p below all) tt
  given_within k a place p kind.Assignation below all own found h = first_asked (length nodes) some place by.Soft a.found _ found (source_within (length nodes) some a.node a.aside a.found h)
  given_within k a place p kind.Identity below all own found h = side_within (length nodes) some a.node a.found found
  given_within k a place p kind.Selection below all own found h = first_asked (length nodes) some place by.Weak a.found position.Nowhere found tt
  given_within k a place p kind.Slice below all own found h = first_asked (length nodes) some place by.Weak a.found position.Nowhere found tt
  given_within k a place p kind.Call below all own found h =
      either (length nodes) some (nat_eq place 0) (specs.primary (called_by k.tree k.tags a.node) a.found)
      (specs.argument nodes a.node (length (parts_at k.tree a.node)) place a.aside (called_by k.tree k.tags a.node) a.found (kind_at k.tree p))
      (primary_within (called_by k.tree k.tags a.node) a.found found)
      (argument_within a.node (length (parts_at k.tree a.node)) place a.aside (called_by k.tree k.tags a.node) a.found (kind_at k.tree p) h found)
  given_within k a place p kind.Monadic below all own found h = operand_within k.defined a.node (length (parts_at k.tree a.node)) place a.aside a.found all h found
  given_within k a place p kind.Dyadic below all own found h = operand_within k.defined a.node (length (parts_at k.tree a.node)) place a.aside a.found all h found
  given_within k a place p kind.Collateral below all own found h = display_within a.node (length (parts_at k.tree a.node)) place a.aside a.own h own
  given_within k a place p _ below all own found h = tt

  pub parts_within : (k : Known) (a : Asker) (place : ℕ) (parts : List ℕ) (ps : List Position) → AreFixedBelow (length nodes) k.of → AllBelow (length nodes) k.defined
      → IsPositionBelow (length nodes) a.own → IsFindingBelow (length nodes) a.found → a.aside < length nodes → ArePositionsBelow (length nodes) ps
      → ArePositionsBelow (length nodes) (with_parts k nodes a place parts ps)
  parts_within k a place [] ps below all own found h those = those
  parts_within k a place (p ∷ parts) ps below all own found h those =
      parts_within k a (place + 1) parts (slice_set ps p (given k nodes a place p (kind_at k.tree a.node))) below all own found h
      (set_within (length nodes) some ps p (given k nodes a place p (kind_at k.tree a.node)) those (given_within k a place p (kind_at k.tree a.node) below all own found h))

  -- ---- what is set aside

  referred_within : (s : Shape) → ShapeIsWithin (length nodes) s → IsAsideBelow (length nodes) (referred s)
  referred_within (Ref a) within = within 0 0 (omega arith)
  referred_within _ within = tt

  source_aside : (f : Finding) → IsFindingBelow (length nodes) f → IsAsideBelow (length nodes) (of_source nodes f)
  source_aside (finding.Mode (Some name)) within = referred_within (shape_at nodes name) (found_shape name within)
  source_aside _ within = tt

  row_aside : (s : Shape) → ShapeIsWithin (length nodes) s → IsAsideBelow (length nodes) (row_within s)
  row_aside (Rows dims flex of) within = by (nat_lt 1 dims) refl
    where
      by : (t : Bool) → nat_lt 1 dims ≡ t → IsAsideBelow (length nodes) (if t then aside.Row (dims - 1) flex of else aside.Nothing)
      by true e = let more : 1 < dims = ltb-true 1 dims e in (omega arith, within 0 0 (omega arith))
      by false e = tt
  row_aside _ within = tt

  display_aside : (own : Position) → IsPositionBelow (length nodes) own → IsAsideBelow (length nodes) (of_display nodes own)
  display_aside (position.Goal m setter) within = row_aside (shape_at nodes m) (found_shape m within)
  display_aside _ within = tt

  operator_aside : (last : ℕ) (o : Identified) → IsAsideBelow (length nodes) (of_operator last o)
  operator_aside last (Declared d) = tt
  operator_aside last (Standard o) = by (nat_eq o.right 0)
    where
      by : (t : Bool) → IsAsideBelow (length nodes) (if t then aside.AnyRow last else aside.Nothing)
      by true = tt
      by false = tt

  formula_aside : (last : ℕ) (f : Finding) → IsAsideBelow (length nodes) (of_formula last f)
  formula_aside last (finding.Operator (Some o)) = operator_aside last o
  formula_aside last _ = tt

  call_aside : (called : Option ℕ) (count : ℕ) → IsAsideBelow (length nodes) (of_call called count)
  call_aside None count = tt
  call_aside (Some c) count = by (nat_eq c 8 && nat_eq count 3)
    where
      by : (t : Bool) → IsAsideBelow (length nodes) (if t then aside.Number else aside.Nothing)
      by true = tt
      by false = tt

  -- it is made of modes that are there
  pub aside_within : (k : Known) (node : ℕ) (own : Position) (f : Finding) (form : NodeKind) → IsPositionBelow (length nodes) own → IsFindingBelow (length nodes) f
      → IsAsideBelow (length nodes) (aside_by k nodes node own f form)
  aside_within k node own f kind.Assignation within found = source_aside f found
  aside_within k node own f kind.Collateral within found = display_aside own within
  aside_within k node own f kind.Monadic within found = formula_aside (part_from_end (parts_at k.tree node) 1) f
  aside_within k node own f kind.Dyadic within found = formula_aside (part_from_end (parts_at k.tree node) 1) f
  aside_within k node own f kind.Call within found = call_aside (called_by k.tree k.tags node) (length (parts_at k.tree node))
  aside_within k node own f _ within found = tt
