-- What is told of a node is there.
use Rattle.std.proofs.Common.{◌<◌, ◌≤◌, ◌-◌, ◌∷◌, [], ℕ, suc, List, Bool, true, false, Option, None, Some, if◌then◌else◌, length, nat_lt, nat_eq, arith}
use Rattle.std.specs.Prelude.{IfSome, slice_index_or}
use Rattle.a68_definitions.specs.Defined.{AllBelow, part_from_end, part_number}
use Rattle.a68_definitions.specs.Tags.{called_by, is_label_at}
use Rattle.a68_identify.specs.declared.identified.Identified.TheVariants.{Declared, Standard}
use Rattle.a68_modes.specs.Nodes.{HoldsNodes, ShapeIsWithin, shape_at}
use Rattle.a68_modes.specs.declared.shape.Shape.{Shape}
use Rattle.a68_modes.specs.declared.shape.Shape.TheVariants.{Ref, Rows, Struct, Proc}
use Rattle.a68_ranges.specs.Nodes.{name_at, parts_at, spelling_at}
use Rattle.a68_tree.specs.Trees.{AllBetween, Built}
use Rattle.a68_tree.specs.declared.kind.NodeKind.{NodeKind}
use Rattle.a68_tree.specs.declared.kind.NodeKind.TheVariants as kind
use Rattle.a68_yields.proofs.Collecting.{between_at}
use Rattle.a68_yields.proofs.Within.{field_within, last_within}
use Rattle.a68_yields.specs.Below.{IsFindingBelow, IsToldBelow}
use Rattle.a68_yields.specs.Leaves.{choices, endings, has_exit, yield_at}
use Rattle.a68_yields.specs.Parts.{field_mode, fields_of, row_of, rowed, rowed_by, routine_result, structure_of, structure_within, structured, structured_by}
use Rattle.a68_yields.specs.Yields.{Known, a_unit, any_unknown, begins_quote, behind_first, called, choice, denoted, field_part, formula, found_unit, handed, has_r, is_item, is_truth, is_unknown, long_tag, selected, selected_from, sliced, sliced_from, standard_tag, tag, told, unit_of}
use Rattle.a68_yields.specs.declared.parts.Rowed.{Rowed}
use Rattle.a68_yields.specs.declared.parts.Structured.{Structured}
use Rattle.a68_yields.specs.declared.told.Told.{Told}
use Rattle.a68_yields.specs.declared.yielding.Finding.{Finding}
use Rattle.a68_yields.specs.declared.yielding.Finding.TheVariants as finding
use Rattle.a68_yields.specs.declared.yielding.Yielding.{Yielding}

module _ (nodes : List Shape) (holds : HoldsNodes nodes) (many : 15 ≤ length nodes) (count node : ℕ) where
  Fine : Told → Type 0
  Fine t = IsToldBelow (length nodes) count node t

  if_fine : (b : Bool) (x y : Told) → Fine x → Fine y → Fine (if b then x else y)
  if_fine true x y one other = one
  if_fine false x y one other = other

  low : (m : ℕ) → m < 15 → Fine (a_unit m)
  unfolding Fine
  low m h = omega arith

  quoted_fine : (b : Bool) → (if b then 3 else 7) < length nodes
  quoted_fine true = omega arith
  quoted_fine false = omega arith

  denoted_low : (quote truth r item : Bool) → (if quote then (if item then 3 else 7) else (if truth then 2 else (if r then 4 else 1))) < length nodes
  denoted_low true truth r item = quoted_fine item
  denoted_low false true r item = omega arith
  denoted_low false false true item = omega arith
  denoted_low false false false item = omega arith

  denoted_fine : (s : Option (List ℕ)) → Fine (denoted s)
  unfolding Fine
  denoted_fine None = tt
  denoted_fine (Some s) = denoted_low (begins_quote s) (is_truth s) (has_r s) (is_item s)

  long_fine : (place : ℕ) → Fine (long_tag place)
  unfolding Fine
  long_fine place = if_fine (nat_eq place 9) _ _ (low 13 (omega arith)) (if_fine (nat_eq place 10) _ _ (low 1 (omega arith)) tt)

  standard_fine : (place : ℕ) → Fine (standard_tag place)
  unfolding Fine
  standard_fine place = if_fine (nat_lt place 4) _ _ (low 1 (omega arith)) (if_fine (nat_lt place 6) _ _ (low 6 (omega arith)) (long_fine place))

  tag_fine : (tree : Built) (defined : List ℕ) (d : Option ℕ) → AllBelow (length nodes) defined → Fine (tag tree defined d)
  unfolding Fine
  tag_fine tree defined None below = tt
  tag_fine tree defined (Some d) below = if_fine (nat_lt d (length tree.nodes)) _ _ (if_fine (is_label_at tree d) _ _ tt (below d)) (standard_fine (d - length tree.nodes))

  handed_fine : (ys : List Yielding) (parts : List ℕ) → AllBetween node count parts → Fine (handed ys parts)
  unfolding Fine
  handed_fine ys [] behind = tt
  handed_fine ys (p ∷ ps) behind = if_fine (is_unknown (yield_at ys (part_from_end (p ∷ ps) 1))) _ _ tt (between_at node count (p ∷ ps) (length (p ∷ ps) - 1) behind (omega arith))

  choice_fine : (ys : List Yielding) (parts : List ℕ) → Fine (choice ys parts)
  unfolding Fine
  choice_fine ys parts = if_fine (any_unknown ys parts) _ _ tt tt

  unit_fine : (m : Option ℕ) → IfSome m (λ x. x < length nodes) → Fine (unit_of m)
  unfolding Fine
  unit_fine None below = tt
  unit_fine (Some m) below = below

  result_there : (s : Shape) → ShapeIsWithin (length nodes) s → IfSome (routine_result s) (λ x. x < length nodes)
  result_there (Proc params m) within = last_within (length nodes) m params within
  result_there _ within = tt

  found_fine : (f : Finding) → IsFindingBelow (length nodes) f → Fine (found_unit f)
  unfolding Fine
  found_fine finding.Nothing below = tt
  found_fine (finding.Mode None) below = tt
  found_fine (finding.Mode (Some m)) below = below
  found_fine (finding.Operator o) below = tt

  called_fine : (place : Option ℕ) (f : Finding) → IsFindingBelow (length nodes) f → Fine (called nodes place f)
  unfolding Fine
  called_fine (Some place) f below = if_fine (nat_eq place 8) _ _ (low 7 (omega arith)) (low 0 (omega arith))
  called_fine None finding.Nothing below = tt
  called_fine None (finding.Mode None) below = tt
  called_fine None (finding.Mode (Some m)) below = unit_fine (routine_result (shape_at nodes m)) (result_there (shape_at nodes m) (holds.within m below))
  called_fine None (finding.Operator o) below = tt

  formula_fine : (defined : List ℕ) (f : Finding) → AllBelow (length nodes) defined → IsFindingBelow (length nodes) f → Fine (formula nodes defined f)
  unfolding Fine
  formula_fine defined finding.Nothing all below = tt
  formula_fine defined (finding.Mode m) all below = tt
  formula_fine defined (finding.Operator None) all below = tt
  formula_fine defined (finding.Operator (Some (Declared d))) all below =
      unit_fine (routine_result (shape_at nodes (part_number defined d))) (result_there (shape_at nodes (part_number defined d)) (holds.within (part_number defined d) (all d)))
  formula_fine defined (finding.Operator (Some (Standard o))) all below = below.2

  -- ---- parts of rows and structures

  row_there : (named : Bool) (s : Shape) → ShapeIsWithin (length nodes) s → IfSome (row_of named s) (λ r. r.of < length nodes)
  row_there named (Rows dims flex of) within = within 0 0 (omega arith)
  row_there named _ within = tt

  rowed_there : (s : Shape) → ShapeIsWithin (length nodes) s → IfSome (rowed_by nodes s) (λ r. r.of < length nodes)
  rowed_there (Ref a) within = row_there true (shape_at nodes a) (holds.within a (within 0 0 (omega arith)))
  rowed_there (Rows dims flex of) within = row_there false (Rows dims flex of) within
  rowed_there _ within = tt

  sliced_there : (tree : Built) (indexes : List ℕ) (r : Option Rowed) → IfSome r (λ r. r.of < length nodes) → Fine (sliced_from tree indexes r)
  unfolding Fine
  sliced_there tree indexes None below = tt
  sliced_there tree indexes (Some r) below = if_fine (nat_eq (length indexes) r.dims) _ _ below tt

  sliced_fine : (tree : Built) (parts : List ℕ) (f : Finding) → IsFindingBelow (length nodes) f → Fine (sliced tree nodes parts f)
  unfolding Fine
  sliced_fine tree parts finding.Nothing below = tt
  sliced_fine tree parts (finding.Mode None) below = tt
  sliced_fine tree parts (finding.Mode (Some m)) below = sliced_there tree (behind_first parts) (rowed nodes m) (rowed_there (shape_at nodes m) (holds.within m below))
  sliced_fine tree parts (finding.Operator o) below = tt

  field_there : (name : ℕ) (fields : List (ℕ × ℕ)) → ((k : ℕ) → k < length fields → (slice_index_or fields k (0, 0)).1 < length nodes) → IfSome (field_mode name fields) (λ m. m < length nodes)
  field_there name [] all = tt
  field_there name (f ∷ fs) all = by (nat_eq f.0 name) (field_there name fs (λ k h. all (suc k) (omega arith)))
    where
      by : (is : Bool) → IfSome (field_mode name fs) (λ m. m < length nodes) → IfSome (if is then Some f.1 else field_mode name fs) (λ m. m < length nodes)
      by true rest = all 0 (omega arith)
      by false rest = rest

  fields_there : (name : ℕ) (s : Shape) → ShapeIsWithin (length nodes) s → IfSome (field_mode name (fields_of s)) (λ m. m < length nodes)
  fields_there name (Struct fields) within = field_there name fields (λ k h. field_within (length nodes) k fields within h)
  fields_there name _ within = tt

  structure_there : (named : Bool) (dims : ℕ) (flex : Bool) (m : ℕ) (s : Shape) → m < length nodes → IfSome (structure_of named dims flex m s) (λ x. x.node < length nodes)
  structure_there named dims flex m (Struct fields) there = there
  structure_there named dims flex m _ there = tt

  within_there : (named : Bool) (m : ℕ) (s : Shape) → m < length nodes → ShapeIsWithin (length nodes) s → IfSome (structure_within nodes named m s) (λ x. x.node < length nodes)
  within_there named m (Rows dims flex of) there within = structure_there named dims flex of (shape_at nodes of) (within 0 0 (omega arith))
  within_there named m (Struct fields) there within = there
  within_there named m _ there within = tt

  structured_there : (m : ℕ) (s : Shape) → m < length nodes → ShapeIsWithin (length nodes) s → IfSome (structured_by nodes m s) (λ x. x.node < length nodes)
  structured_there m (Ref a) there within = let below : a < length nodes = within 0 0 (omega arith) in within_there true a (shape_at nodes a) below (holds.within a below)
  structured_there m (Rows dims flex of) there within = within_there false m (Rows dims flex of) there within
  structured_there m (Struct fields) there within = there
  structured_there m _ there within = tt

  field_fine : (s : Structured) (f : Option ℕ) → IfSome f (λ m. m < length nodes) → Fine (field_part s f)
  unfolding Fine
  field_fine s None below = tt
  field_fine s (Some m) below = below

  from_fine : (name : ℕ) (s : Option Structured) → IfSome s (λ x. x.node < length nodes) → Fine (selected_from nodes name s)
  unfolding Fine
  from_fine name None below = tt
  from_fine name (Some s) below = field_fine s (field_mode name (fields_of (shape_at nodes s.node))) (fields_there name (shape_at nodes s.node) (holds.within s.node below))

  selected_fine : (name : ℕ) (f : Finding) → IsFindingBelow (length nodes) f → Fine (selected nodes name f)
  unfolding Fine
  selected_fine name finding.Nothing below = tt
  selected_fine name (finding.Mode None) below = tt
  selected_fine name (finding.Mode (Some m)) below = from_fine name (structured nodes m) (structured_there m (shape_at nodes m) below (holds.within m below))
  selected_fine name (finding.Operator o) below = tt

  -- of a slice and of a selection alone
  pub sliced_below : (tree : Built) (parts : List ℕ) (f : Finding) → IsFindingBelow (length nodes) f → IsToldBelow (length nodes) count node (sliced tree nodes parts f)
  unfolding Fine
  sliced_below tree parts f below = sliced_fine tree parts f below

  pub selected_below : (name : ℕ) (f : Finding) → IsFindingBelow (length nodes) f → IsToldBelow (length nodes) count node (selected nodes name f)
  unfolding Fine
  selected_below name f below = selected_fine name f below

  pub told_below : (k : Known) (ys : List Yielding) (f : Finding) (form : NodeKind) → AllBelow (length nodes) k.defined → IsFindingBelow (length nodes) f
      → AllBetween node count (parts_at k.tree node) → IsToldBelow (length nodes) count node (told k nodes ys node f form)
  unfolding Fine
  told_below k ys f kind.Denotation all below behind = denoted_fine (spelling_at k.tree node)
  told_below k ys f kind.LongDenotation all below behind = low 13 (omega arith)
  told_below k ys f kind.Tag all below behind = tag_fine k.tree k.defined (slice_index_or k.tags node None) all
  told_below k ys f kind.Closed all below behind = handed_fine ys (parts_at k.tree node) behind
  told_below k ys f kind.Serial all below behind =
      if_fine (has_exit k.tree (parts_at k.tree node)) (choice ys (endings k.tree (parts_at k.tree node))) (handed ys (parts_at k.tree node))
      (choice_fine ys (endings k.tree (parts_at k.tree node))) (handed_fine ys (parts_at k.tree node) behind)
  told_below k ys f kind.Out all below behind = handed_fine ys (parts_at k.tree node) behind
  told_below k ys f kind.Conditional all below behind = choice_fine ys (choices k.tree (parts_at k.tree node))
  told_below k ys f kind.Case all below behind = choice_fine ys (choices k.tree (parts_at k.tree node))
  told_below k ys f kind.Conformity all below behind = choice_fine ys (choices k.tree (parts_at k.tree node))
  told_below k ys f kind.Parallel all below behind = low 0 (omega arith)
  told_below k ys f kind.Loop all below behind = low 0 (omega arith)
  told_below k ys f kind.Cast all below behind = all node
  told_below k ys f kind.Generator all below behind = all node
  told_below k ys f kind.RoutineText all below behind = all node
  told_below k ys f kind.Identity all below behind = low 2 (omega arith)
  told_below k ys f kind.Assignation all below behind = found_fine f below
  told_below k ys f kind.Selection all below behind = selected_fine (name_at k.tree node) f below
  told_below k ys f kind.Slice all below behind = sliced_fine k.tree (parts_at k.tree node) f below
  told_below k ys f kind.Call all below behind = called_fine (called_by k.tree k.tags node) f below
  told_below k ys f kind.Monadic all below behind = formula_fine k.defined f all below
  told_below k ys f kind.Dyadic all below behind = formula_fine k.defined f all below
  told_below k ys f _ all below behind = tt
