-- A part that is told is one of a mode that is there, and has no more dimensions than a number of 32 bits tells.
use Rattle.std.proofs.Common.{◌≡◌, ◌<◌, ◌≤◌, ◌-◌, ◌^◌, ◌+◌, ◌∷◌, [], ℕ, List, Bool, true, false, Option, None, Some, if◌then◌else◌, length, nat_lt, nat_eq, refl, arith}
use Rattle.std.proofs.lemmas.Bool.{eqb-true}
use Rattle.std.specs.Prelude.{IfSome, slice_index_or}
use Rattle.a68_definitions.specs.Defined.{part_from_end, part_number}
use Rattle.a68_definitions.specs.Tags.{called_by, is_label_at}
use Rattle.a68_equiv.specs.Dimensions.{HasDimensions, HaveDimensions}
use Rattle.a68_identify.specs.declared.identified.Identified.TheVariants.{Declared, Standard}
use Rattle.a68_modes.specs.Nodes.{HoldsNodes, shape_at}
use Rattle.a68_modes.specs.declared.shape.Shape.{Shape}
use Rattle.a68_modes.specs.declared.shape.Shape.TheVariants.{Ref, Rows, Struct}
use Rattle.a68_ranges.specs.Nodes.{name_at, parts_at, spelling_at}
use Rattle.a68_tree.specs.Trees.{Built}
use Rattle.a68_tree.specs.declared.kind.NodeKind.{NodeKind}
use Rattle.a68_tree.specs.declared.kind.NodeKind.TheVariants as kind
use Rattle.a68_yields.proofs.Telling.{selected_below, sliced_below}
use Rattle.a68_yields.specs.Below.{IsFindingBelow, IsToldBelow}
use Rattle.a68_yields.specs.Leaves.{choices, endings, has_exit, yield_at}
use Rattle.a68_yields.specs.Parts.{field_mode, fields_of, row_of, rowed, rowed_by, routine_result, structure_of, structure_within, structured, structured_by}
use Rattle.a68_yields.specs.Sought.{is_subscript}
use Rattle.a68_yields.specs.Yields.{Known, any_unknown, behind_first, called, choice, denoted, field_part, formula, found_unit, handed, is_unknown, selected, selected_from, sliced, sliced_from, standard_tag, tag, told, trimmers, unit_of, unknown}
use Rattle.a68_yields.specs.declared.parts.Rowed.{Rowed}
use Rattle.a68_yields.specs.declared.parts.Structured.{Structured}
use Rattle.a68_yields.specs.declared.told.Told.{Told}
use Rattle.a68_yields.specs.declared.told.Told.TheVariants as tell
use Rattle.a68_yields.specs.declared.yielding.Finding.{Finding}
use Rattle.a68_yields.specs.declared.yielding.Finding.TheVariants as finding
use Rattle.a68_yields.specs.declared.yielding.Yielding.{Yielding}

-- the part of a mode among the first n, with so few dimensions
abbrev pub IsPartTold : ℕ → Told → Type 0
IsPartTold n (tell.Yields y) = Unit {0}
IsPartTold n (tell.PartOf part) = (part.of < n) × (part.dims < 2 ^ 32)

abbrev IsSmall : Told → Type 0
IsSmall (tell.Yields y) = Unit {0}
IsSmall (tell.PartOf part) = part.dims < 2 ^ 32

both : (n : ℕ) (t : Told) → IsToldBelow n 0 0 t → IsSmall t → IsPartTold n t
both n (tell.Yields y) below small = tt
both n (tell.PartOf part) below small = (below, small)

trimmers_few : (tree : Built) (indexes : List ℕ) → trimmers tree indexes ≤ length indexes
trimmers_few tree [] = omega arith
trimmers_few tree (i ∷ is) = by (is_subscript tree (parts_at tree i)) (trimmers_few tree is)
  where
    by : (is_one : Bool) → trimmers tree is ≤ length is → (if is_one then trimmers tree is else trimmers tree is + 1) ≤ length (i ∷ is)
    by true h = omega arith
    by false h = omega arith

module _ (nodes : List Shape) (rows : HaveDimensions nodes) where
  row_small : (named : Bool) (s : Shape) → HasDimensions s → IfSome (row_of named s) (λ r. r.dims < 2 ^ 32)
  row_small named (Rows dims flex of) h = h.1
  row_small named _ h = tt

  rowed_small : (s : Shape) → HasDimensions s → IfSome (rowed_by nodes s) (λ r. r.dims < 2 ^ 32)
  rowed_small (Ref a) h = row_small true (shape_at nodes a) (rows a)
  rowed_small (Rows dims flex of) h = h.1
  rowed_small _ h = tt

  from_small : (tree : Built) (indexes : List ℕ) (r : Option Rowed) → IfSome r (λ r. r.dims < 2 ^ 32) → IsSmall (sliced_from tree indexes r)
  from_small tree indexes None h = tt
  from_small tree indexes (Some r) h = by (nat_eq (length indexes) r.dims) refl
    where
      by : (same : Bool) → nat_eq (length indexes) r.dims ≡ same
          → IsSmall (if same then tell.PartOf (record { named = r.named; dims = trimmers tree indexes; flex = r.flex; of = r.of }) else unknown)
      by true e = let l : length indexes ≡ r.dims = eqb-true (length indexes) r.dims e in let few = trimmers_few tree indexes in omega arith
      by false e = tt

  sliced_small : (tree : Built) (parts : List ℕ) (f : Finding) → IsSmall (sliced tree nodes parts f)
  sliced_small tree parts finding.Nothing = tt
  sliced_small tree parts (finding.Mode None) = tt
  sliced_small tree parts (finding.Mode (Some m)) = from_small tree (behind_first parts) (rowed nodes m) (rowed_small (shape_at nodes m) (rows m))
  sliced_small tree parts (finding.Operator o) = tt

  structure_small : (named : Bool) (dims : ℕ) (flex : Bool) (m : ℕ) (s : Shape) → dims < 2 ^ 32 → IfSome (structure_of named dims flex m s) (λ x. x.dims < 2 ^ 32)
  structure_small named dims flex m (Struct fields) h = h
  structure_small named dims flex m _ h = tt

  within_small : (named : Bool) (m : ℕ) (s : Shape) → HasDimensions s → IfSome (structure_within nodes named m s) (λ x. x.dims < 2 ^ 32)
  within_small named m (Rows dims flex of) h = structure_small named dims flex of (shape_at nodes of) h.1
  within_small named m (Struct fields) h = omega arith
  within_small named m _ h = tt

  structured_small : (m : ℕ) (s : Shape) → HasDimensions s → IfSome (structured_by nodes m s) (λ x. x.dims < 2 ^ 32)
  structured_small m (Ref a) h = within_small true a (shape_at nodes a) (rows a)
  structured_small m (Rows dims flex of) h = within_small false m (Rows dims flex of) h
  structured_small m (Struct fields) h = omega arith
  structured_small m _ h = tt

  field_small : (s : Structured) (f : Option ℕ) → s.dims < 2 ^ 32 → IsSmall (field_part s f)
  field_small s None h = tt
  field_small s (Some m) h = h

  fields_small : (name : ℕ) (s : Option Structured) → IfSome s (λ x. x.dims < 2 ^ 32) → IsSmall (selected_from nodes name s)
  fields_small name None h = tt
  fields_small name (Some s) h = field_small s (field_mode name (fields_of (shape_at nodes s.node))) h

  selected_small : (name : ℕ) (f : Finding) → IsSmall (selected nodes name f)
  selected_small name finding.Nothing = tt
  selected_small name (finding.Mode None) = tt
  selected_small name (finding.Mode (Some m)) = fields_small name (structured nodes m) (structured_small m (shape_at nodes m) (rows m))
  selected_small name (finding.Operator o) = tt

  -- ---- of other nodes no part is told

  module _ (n : ℕ) where
    if_told : (b : Bool) (x y : Told) → IsPartTold n x → IsPartTold n y → IsPartTold n (if b then x else y)
    if_told true x y one other = one
    if_told false x y one other = other

    denoted_told : (s : Option (List ℕ)) → IsPartTold n (denoted s)
    denoted_told None = tt
    denoted_told (Some s) = tt

    standard_told : (place : ℕ) → IsPartTold n (standard_tag place)
    standard_told place = if_told (nat_lt place 4) _ _ tt (if_told (nat_lt place 6) _ _ tt (if_told (nat_eq place 9) _ _ tt (if_told (nat_eq place 10) _ _ tt tt)))

    tag_told : (tree : Built) (defined : List ℕ) (d : Option ℕ) → IsPartTold n (tag tree defined d)
    tag_told tree defined None = tt
    tag_told tree defined (Some d) = if_told (nat_lt d (length tree.nodes)) _ _ (if_told (is_label_at tree d) _ _ tt tt) (standard_told (d - length tree.nodes))

    handed_told : (ys : List Yielding) (parts : List ℕ) → IsPartTold n (handed ys parts)
    handed_told ys [] = tt
    handed_told ys (p ∷ ps) = if_told (is_unknown (yield_at ys (part_from_end (p ∷ ps) 1))) _ _ tt tt

    choice_told : (ys : List Yielding) (parts : List ℕ) → IsPartTold n (choice ys parts)
    choice_told ys parts = if_told (any_unknown ys parts) _ _ tt tt

    unit_told : (m : Option ℕ) → IsPartTold n (unit_of m)
    unit_told None = tt
    unit_told (Some m) = tt

    found_told : (f : Finding) → IsPartTold n (found_unit f)
    found_told finding.Nothing = tt
    found_told (finding.Mode None) = tt
    found_told (finding.Mode (Some m)) = tt
    found_told (finding.Operator o) = tt

    called_told : (place : Option ℕ) (f : Finding) → IsPartTold n (called nodes place f)
    called_told (Some place) f = if_told (nat_eq place 8) _ _ tt tt
    called_told None finding.Nothing = tt
    called_told None (finding.Mode None) = tt
    called_told None (finding.Mode (Some m)) = unit_told (routine_result (shape_at nodes m))
    called_told None (finding.Operator o) = tt

    formula_told : (defined : List ℕ) (f : Finding) → IsPartTold n (formula nodes defined f)
    formula_told defined finding.Nothing = tt
    formula_told defined (finding.Mode m) = tt
    formula_told defined (finding.Operator None) = tt
    formula_told defined (finding.Operator (Some (Declared d))) = unit_told (routine_result (shape_at nodes (part_number defined d)))
    formula_told defined (finding.Operator (Some (Standard o))) = tt

  pub part_told : HoldsNodes nodes → 15 ≤ length nodes → (k : Known) (ys : List Yielding) (n : ℕ) (f : Finding) (form : NodeKind) → IsFindingBelow (length nodes) f
      → IsPartTold (length nodes) (told k nodes ys n f form)
  part_told holds many k ys n f kind.Denotation below = denoted_told (length nodes) (spelling_at k.tree n)
  part_told holds many k ys n f kind.Tag below = tag_told (length nodes) k.tree k.defined (slice_index_or k.tags n None)
  part_told holds many k ys n f kind.Closed below = handed_told (length nodes) ys (parts_at k.tree n)
  part_told holds many k ys n f kind.Serial below =
      if_told (length nodes) (has_exit k.tree (parts_at k.tree n)) (choice ys (endings k.tree (parts_at k.tree n))) (handed ys (parts_at k.tree n))
      (choice_told (length nodes) ys (endings k.tree (parts_at k.tree n))) (handed_told (length nodes) ys (parts_at k.tree n))
  part_told holds many k ys n f kind.Out below = handed_told (length nodes) ys (parts_at k.tree n)
  part_told holds many k ys n f kind.Conditional below = choice_told (length nodes) ys (choices k.tree (parts_at k.tree n))
  part_told holds many k ys n f kind.Case below = choice_told (length nodes) ys (choices k.tree (parts_at k.tree n))
  part_told holds many k ys n f kind.Conformity below = choice_told (length nodes) ys (choices k.tree (parts_at k.tree n))
  part_told holds many k ys n f kind.Assignation below = found_told (length nodes) f
  part_told holds many k ys n f kind.Selection below = both (length nodes) _ (selected_below nodes holds many 0 0 (name_at k.tree n) f below) (selected_small (name_at k.tree n) f)
  part_told holds many k ys n f kind.Slice below = both (length nodes) _ (sliced_below nodes holds many 0 0 k.tree (parts_at k.tree n) f below) (sliced_small k.tree (parts_at k.tree n) f)
  part_told holds many k ys n f kind.Call below = called_told (length nodes) (called_by k.tree k.tags n) f
  part_told holds many k ys n f kind.Monadic below = formula_told (length nodes) k.defined f
  part_told holds many k ys n f kind.Dyadic below = formula_told (length nodes) k.defined f
  part_told holds many k ys n f _ below = tt
