-- The trees of a program fit what is taken of them.
use Rattle.std.proofs.Common.{◌≡◌, ℕ, zero, suc, ◌+◌, ◌<◌, ◌≤◌, Bool, true, false, List, [], ◌∷◌, ◌++◌, length, length-append, refl, sym, ◌∙◌, ap, subst, arith, None, Some, slice_get}
use Rattle.std.proofs.lemmas.Bool.{false≢true, eq-eqb, leb-true, lt-ltb}
use Rattle.std.proofs.lemmas.Option.{same_Some, slice_get_within}
use Rattle.std.specs.List.{list_all}
use Rattle.std.specs.Option.{is_some, option_and_then, option_map_or}
use Rattle.std.specs.Prelude.{IsTrue, pos, nat_eq, nat_le, nat_lt, map, ◌-◌, ◌&&◌, if◌then◌else◌}
use Rattle.std.specs.declared.option.Option.{Option}
use Rattle.a68_acts.specs.Operations.{constant, skip, nil, store, same, vacuum}
use Rattle.a68_annot.specs.declared.annotated.Annotated.{Annotated}
use Rattle.a68_annot.specs.declared.note.Note.{Note}
use Rattle.a68_base.specs.declared.refusal.Span.{Span}
use Rattle.a68_elab.proofs.Nodes.{behind_is, defined_is, tree_of_nodes}
use Rattle.a68_elab.specs.Constants.{long_value_in, value_in}
use Rattle.a68_elab.specs.Made as made
use Rattle.a68_elab.specs.Made.{beginning_at, is_parallel, numbers_of, or_other, unit_among, unit_in, unit_number, units_before, bytes_of, hops_seen, seen, all_but_last, before_out, behind_all, behind_heap, behind_proc, behind_ref, begins_with, called, coerced, field_in, fields_at, first_bounds, first_goal, form_of, forms_of, if_first, index_units, is_by, is_collateral, is_declarer, is_for, is_from, is_heap, is_one_of, is_out, is_routine_text, is_to, is_while, isnt, items_at, kind_at, last_id, last_tree, leaf, mode_of, new_name, only, only_id, out_of, parts_at, past, printers, rowed_to, spelling_of, standard_of, tag_of, text_among, text_number, texts_before, texts_in, trees_at, wholes}
use Rattle.a68_elab.specs.Programs.{asked_tree, body_yields, first_seat, fitting, misfit, place_of, apart_before, parallel_unit_of, defined_bound, tree_in, behind, body_of, program_of, tree_at}
use Rattle.a68_elab.specs.declared.sight.Sight.{Sight}
use Rattle.a68_elab.specs.declared.sight.Sight.TheVariants as sight
use Rattle.a68_elab.specs.Trees.{collateral, serial, Tree, Apart, routine_text, parallel_unit}
use Rattle.a68_emit.proofs.Ordered.{all-before}
use Rattle.a68_emit.proofs.Entering.{index-is, map-long}
use Rattle.a68_gen.specs.Fits.{ApartFits}
use Rattle.a68_gen.specs.Operands.{ApartFitsModes}
use Rattle.a68_elab.specs.Runs.{agrees, all_leave, are_steps, are_values, asks_value, call_leaves, case_runs, choice_runs, if_so, is_outcome, is_row, is_there, last_outcome, leaves_as, left_by, loop_runs, parallel_runs, new_runs, outcome, outcome_at, outcome_by, path_leaves, proc_yields, refers, selects, slice_runs, variable_runs, yields_value, conformity_runs}
use Rattle.a68_parts.proofs.Between.{between-above, between-each}
use Rattle.a68_runs.specs.Running.{AreThere}
use Rattle.a68_modes.specs.Nodes.{shape_at, HoldsNodes}
use Rattle.a68_modes.specs.declared.shape.Shape.{Shape}
use Rattle.a68_tree.specs.Trees.{AllBetween}
use Rattle.a68_tree.specs.declared.kind.NodeKind.{NodeKind}
use Rattle.a68_tree.specs.declared.kind.NodeKind.TheVariants as kind
use Rattle.a68_tree.specs.declared.node.Node.{Node}
use Rattle.a68_values.specs.Content.{plain}
use Rattle.a68_values.specs.declared.plain.Plain.TheVariants as value
use Rattle.a68_gen.proofs.Fitted.{IsFit, both, coerced-fits, denoted-fits, first, fit-none, misfit-fits, negated-fits, routine-fits, row-there, second, so-holds, so-is, tag-fits, then-is, wanted-is}
use Rattle.a68_gen.proofs.FittingParts.{all_units, Given, GivenBounds, all-fit, behind-between, call-by, collateral-fits, definition-fits, formula-fits, last-fits, clause-fits, named-fits, only-fits, selection-fits, texts_of, values-fit, variable-fits}
use Rattle.a68_gen.proofs.FittingSeats.{seated-fits}
use Rattle.a68_gen.proofs.FittingChoices.{case-fits, choice-fits, first-bounds-behind, loop-fits, nothing-fits, parts-behind, slice-fits, conformity-fits}

-- a jump leaves what is asked of it
jump-fits : (ms : List Shape) (texts units place : ℕ) (yields : Bool) (definition : Option ℕ) → IsTrue (is_some definition) → IsFit ms texts units yields (made.jump_of place yields definition)
jump-fits ms texts units place yields None e = absurd (false≢true e)
jump-fits ms texts units place yields (Some label) e = record { fits = refl; operands = tt }

module _ (a : Annotated) (there : AreThere a (length a.tree.nodes)) (nodes : HoldsNodes a.modes) (id : ℕ) (f : ℕ → Tree) (given : Given a id f) where
  -- ---- nodes

  items-between : (ids : List ℕ) → AllBetween id (length a.tree.nodes) ids → AllBetween id (length a.tree.nodes) (items_at a ids)
  items-between [] b = b
  items-between (x ∷ []) b = go (is_collateral (kind_at a x))
    where
      go : (t : Bool) → AllBetween id (length a.tree.nodes) (if t then parts_at a x else x ∷ [])
      go true = between-above id x (length a.tree.nodes) (parts_at a x) b.0 (parts-behind a there x)
      go false = b
  items-between (x ∷ (y ∷ xs)) b = b

  call-fits : (place : ℕ) (yields left : Bool) (ids : List ℕ) → AllBetween id (length a.tree.nodes) ids → call_leaves a yields ids ≡ Some left
      → IsFit a.modes (texts_of a) (all_units a) left (made.call_of a f place yields ids)
  call-fits place yields left [] b e = absurd (cc)
  call-fits place yields left (primary ∷ ids) b e =
      call-by a id (length a.tree.nodes) f given (is_one_of printers (called a primary)) (is_one_of wholes (called a primary)) yields left place primary (items_at a ids) ids (items-between ids b.2) b e

  by-so : (test outcome left : Bool) (t : Tree) → if_so test outcome ≡ Some left → (IsTrue test → IsFit a.modes (texts_of a) (all_units a) outcome t) → IsFit a.modes (texts_of a) (all_units a) left t
  by-so test outcome left t e fit = subst (λ g. IsFit a.modes (texts_of a) (all_units a) g t) (so-is test outcome left e) (fit (so-holds test outcome left e))

  -- a construct, as it is seen
  made-fits : (s : Sight) (g : (frames id : ℕ) → Tree) → GivenBounds a g → (node : Node) (note : Note) (left : Bool) (k : NodeKind)
      → (IsTrue (is_routine_text k) → text_number a node.span.from < texts_of a) → (IsTrue (is_parallel k) → IsTrue (list_all (λ n. nat_lt n (all_units a)) (numbers_of a node.parts)))
      → AllBetween id (length a.tree.nodes) node.parts
      → leaves_as a node note k ≡ Some left → IsFit a.modes (texts_of a) (all_units a) left (made.made a g f node (seen a s note) k)
  made-fits s g defined node note left kind.Denotation r u b e = by-so _ true left _ e (denoted-fits a.modes (texts_of a) (all_units a) node.span.from (option_and_then value_in (spelling_of a node)))
  made-fits s g defined node note left kind.LongDenotation r u b e =
      by-so _ true left _ e (denoted-fits a.modes (texts_of a) (all_units a) node.span.from (option_and_then long_value_in (spelling_of a node)))
  made-fits s g defined node note left kind.Skip r u b e =
      by-so (is_there a.modes note.goal) (asks_value a note) left _ e (λ w. fit-none a.modes (texts_of a) (all_units a) (asks_value a note) node.span.from (skip note.goal) serial refl refl w)
  made-fits s g defined node note left kind.Nil r u b e =
      subst (λ g. IsFit a.modes (texts_of a) (all_units a) g (leaf node.span.from nil)) (same_Some true left e) (fit-none a.modes (texts_of a) (all_units a) true node.span.from nil serial refl refl refl)
  made-fits s g defined node note left kind.Tag r u b e =
      subst (λ g. IsFit a.modes (texts_of a) (all_units a) g (leaf node.span.from (tag_of (standard_of note.definition (spelling_of a node)) (hops_seen a s note) note.step.slot))) (same_Some true left e)
      (tag-fits a.modes (texts_of a) (all_units a) node.span.from (standard_of note.definition (spelling_of a node)) (hops_seen a s note) note.step.slot)
  made-fits s g defined node note left kind.RoutineText r u b e =
      by-so (is_outcome (proc_yields a note.mode) (last_outcome a node.parts)) true left _ e
      (λ h. routine-fits a.modes (texts_of a) (all_units a) node.span.from (text_number a node.span.from) note.need (r refl))
  made-fits s g defined node note left kind.Monadic r u b e =
      formula-fits a id (length a.tree.nodes) f given node.span.from (yields_value a note) left (seen a s note) note.op node.parts b e
  made-fits s g defined node note left kind.Dyadic r u b e =
      formula-fits a id (length a.tree.nodes) f given node.span.from (yields_value a note) left (seen a s note) note.op node.parts b e
  made-fits s g defined node note left kind.Assignation r u b e =
      by-so (refers a note.mode && are_values a 2 node.parts) true left _ e
      (λ h. values-fit a id (length a.tree.nodes) f given 2 true node.span.from (store (behind_ref (shape_at a.modes note.mode))) collateral node.parts b
      (second (refers a note.mode) (are_values a 2 node.parts) h) refl refl (first (refers a note.mode) (are_values a 2 node.parts) h))
  made-fits s g defined node note left kind.Identity r u b e =
      by-so (are_values a 2 node.parts) true left _ e
      (λ h. values-fit a id (length a.tree.nodes) f given 2 true node.span.from (same (made.negated (is_one_of isnt (spelling_of a node)))) collateral node.parts b h refl refl
      (negated-fits a.modes (texts_of a) (all_units a) (is_one_of isnt (spelling_of a node))))
  made-fits s g defined node note left kind.Generator r u b e =
      by-so (new_runs a note.mode node.parts) true left _ e
      (named-fits a id (length a.tree.nodes) f given g defined (is_one_of made.heaps (spelling_of a node)) node.span.from note.mode node.parts (first-bounds-behind a there id node.parts b))
  made-fits s g defined node note left kind.OpDefinition r u b e =
      by-so (is_outcome true (last_outcome a node.parts)) false left _ e (definition-fits a id (length a.tree.nodes) f given node.span.from note.step.slot node.parts b)
  made-fits s g defined node note left kind.IdentityDefinition r u b e =
      by-so (is_outcome true (last_outcome a node.parts)) false left _ e (definition-fits a id (length a.tree.nodes) f given node.span.from note.step.slot node.parts b)
  made-fits s g defined node note left kind.Variable r u b e =
      let in_heap = begins_with is_heap a node.parts in
      by-so (variable_runs a note.mode node.parts) false left _ e
      (variable-fits a id (length a.tree.nodes) f given g defined node.span.from note.mode note.step.slot node.parts b
      (first-bounds-behind a there id (behind_heap in_heap node.parts) (behind-between a id (length a.tree.nodes) f given in_heap node.parts b)))
  made-fits s g defined node note left kind.ModeDefinition r u b e = nothing-fits a there nodes id f given left e
  made-fits s g defined node note left kind.Priority r u b e = nothing-fits a there nodes id f given left e
  made-fits s g defined node note left kind.Joined r u b e =
      by-so (all_leave a false node.parts) false left _ e
      (λ h. let all = all-fit a id (length a.tree.nodes) f given false node.parts b h in record { fits = (refl, all.fits); operands = all.operands })
  made-fits s g defined node note left kind.Call r u b e = call-fits node.span.from (yields_value a note) left node.parts b e
  made-fits s g defined node note left kind.Cast r u b e = last-fits a id (length a.tree.nodes) f given left node.parts b e
  made-fits s g defined node note left kind.Collateral r u b e =
      collateral-fits a id (length a.tree.nodes) f given node.span.from note.goal left (shape_at a.modes note.goal) node.parts (row-there a.modes note.goal) b e
  made-fits s g defined node note left kind.Vacuum r u b e =
      by-so (is_row (shape_at a.modes note.goal)) true left _ e
      (λ h. fit-none a.modes (texts_of a) (all_units a) true node.span.from (vacuum note.goal) serial refl refl (row-there a.modes note.goal h))
  made-fits s g defined node note left kind.Slice r u b e = by-so (slice_runs a node.parts) true left _ e (slice-fits a there nodes id f given node.span.from node.parts b)
  made-fits s g defined node note left kind.Selection r u b e =
      by-so (selects a node.name node.parts && is_outcome true (last_outcome a node.parts)) true left _ e
      (selection-fits a id (length a.tree.nodes) f given node.span.from node.name node.parts b)
  made-fits s g defined node note left kind.Serial r u b e =
      by-so (are_steps a (asks_value a note) node.parts) (asks_value a note) left _ e
      (clause-fits a id (length a.tree.nodes) f given (asks_value a note) node.span.from note.slots node.parts b)
  made-fits s g defined node note left kind.GoTo r u b e =
      by-so (is_some note.definition) (asks_value a note) left _ e (jump-fits a.modes (texts_of a) (all_units a) node.span.from (asks_value a note) note.definition)
  made-fits s g defined node note left kind.Closed r u b e = only-fits a id (length a.tree.nodes) f given left node.parts b e
  made-fits s g defined node note left kind.Out r u b e = only-fits a id (length a.tree.nodes) f given left node.parts b e
  made-fits s g defined node note left kind.From r u b e = only-fits a id (length a.tree.nodes) f given left node.parts b e
  made-fits s g defined node note left kind.By r u b e = only-fits a id (length a.tree.nodes) f given left node.parts b e
  made-fits s g defined node note left kind.Lower r u b e = only-fits a id (length a.tree.nodes) f given left node.parts b e
  made-fits s g defined node note left kind.Upper r u b e = only-fits a id (length a.tree.nodes) f given left node.parts b e
  made-fits s g defined node note left kind.At r u b e = only-fits a id (length a.tree.nodes) f given left node.parts b e
  made-fits s g defined node note left kind.To r u b e = only-fits a id (length a.tree.nodes) f given left node.parts b e
  made-fits s g defined node note left kind.Conditional r u b e =
      by-so (choice_runs a note.goal (asks_value a note) node.parts) (asks_value a note) left _ e (choice-fits a there nodes id f given node.span.from note.goal node.parts b)
  made-fits s g defined node note left kind.Case r u b e =
      by-so (case_runs a note.goal (asks_value a note) node.parts) (asks_value a note) left _ e (case-fits a there nodes id f given node.span.from note.goal node.parts b)
  made-fits s g defined node note left kind.Conformity r u b e =
      by-so (conformity_runs a note.goal (asks_value a note) node.parts) (asks_value a note) left _ e (conformity-fits a there nodes id f given node.span.from note.goal node.parts b)
  made-fits s g defined node note left kind.Loop r u b e = by-so (loop_runs a node.parts) false left _ e (loop-fits a there nodes id f given node.span.from node.parts b)
  made-fits s g defined node note left kind.Parallel r u b e =
      by-so (parallel_runs a node.parts) false left _ e
      (λ h. record {
        fits = (
          refl,
          (let l = map-long (λ id. unit_number a (bytes_of a id).from) node.parts in
              let m = leb-true 2 (length node.parts) (first (nat_le 2 (length node.parts)) (all_leave a false node.parts) h) in
              omega arith),
          u refl,
        );
        operands = tt;
      })
  made-fits s g defined node note left _ r u b e = absurd (cc)

-- ---- routine texts

-- a routine text is found at the byte at which it begins
among-some : (byte from : ℕ) (ns : List Node) (i : ℕ) (n : Node) → slice_get ns i ≡ Some n → IsTrue (is_routine_text n.kind) → n.span.from ≡ byte → 0 < length (text_among byte from ns)
among-some byte from [] i n e k at = absurd (cc)
among-some byte from (m ∷ ns) i n e k at = go (is_routine_text m.kind && nat_eq m.span.from byte) refl i e (λ j f. among-some byte (suc from) ns j n f k at)
  where
    go : (t : Bool) → (is_routine_text m.kind && nat_eq m.span.from byte) ≡ t → (i : ℕ) → slice_get (m ∷ ns) i ≡ Some n
        → ((j : ℕ) → slice_get ns j ≡ Some n → 0 < length (text_among byte (suc from) ns)) → 0 < length (if t then from ∷ [] else text_among byte (suc from) ns)
    go true w i e later = omega arith
    go false w zero e later =
        let is_same : m ≡ n = same_Some m n e in
        let kind_is : IsTrue (is_routine_text m.kind) = subst (λ (x : Node). IsTrue (is_routine_text x.kind)) (sym is_same) k in
        let place_is : IsTrue (nat_eq m.span.from byte) = eq-eqb m.span.from byte (ap (λ (x : Node). x.span.from) is_same ∙ at) in
        absurd (false≢true (sym w ∙ both (is_routine_text m.kind) (nat_eq m.span.from byte) kind_is place_is))
    go false w (suc i) e later = later i e

numbers-grow : (a : Annotated) (byte more : ℕ) → text_number a byte ≤ text_number a (byte + more)
numbers-grow a byte zero = let z : byte + 0 ≡ byte = omega arith in rw z (omega arith)
numbers-grow a byte (suc more) =
    let z : byte + suc more ≡ suc (byte + more) = omega arith in
    let s = numbers-grow a byte more in
    rw z (omega (arith, length-append (texts_before a (byte + more)) (text_among (byte + more) 0 a.tree.nodes)))

-- a routine text has one of the numbers
number-within : (a : Annotated) (id : ℕ) (n : Node) → slice_get a.tree.nodes id ≡ Some n → IsTrue (is_routine_text n.kind) → text_number a n.span.from < texts_of a
number-within a id n e k =
    let some = among-some n.span.from 0 a.tree.nodes id n e k refl in
    let before = all-before a.tree.nodes id n e in
    let end = behind_all a.tree.nodes in
    let more = end - suc n.span.from in
    let z : suc n.span.from + more ≡ end = omega arith in
    let s : text_number a (suc n.span.from) ≤ text_number a end = subst (λ (x : ℕ). text_number a (suc n.span.from) ≤ text_number a x) z (numbers-grow a (suc n.span.from) more) in
    omega (arith, length-append (texts_before a n.span.from) (text_among n.span.from 0 a.tree.nodes))

-- ---- units of parallel clauses

-- a unit is found at the byte at which it begins
begun-some : (a : Annotated) (byte : ℕ) (ids : List ℕ) (j p : ℕ) → slice_get ids j ≡ Some p → (bytes_of a p).from ≡ byte → 0 < length (beginning_at a byte ids)
begun-some a byte [] j p e at = absurd (cc)
begun-some a byte (q ∷ ids) j p e at = go (nat_eq (bytes_of a q).from byte) refl j e (λ i f. begun-some a byte ids i p f at)
  where
    go : (t : Bool) → nat_eq (bytes_of a q).from byte ≡ t → (j : ℕ) → slice_get (q ∷ ids) j ≡ Some p → ((i : ℕ) → slice_get ids i ≡ Some p → 0 < length (beginning_at a byte ids))
        → 0 < length (if t then q ∷ [] else beginning_at a byte ids)
    go true w j e later = omega arith
    go false w zero e later =
        let is_same : q ≡ p = same_Some q p e in absurd (false≢true (sym w ∙ eq-eqb (bytes_of a q).from byte (ap (λ (x : ℕ). (bytes_of a x).from) is_same ∙ at)))
    go false w (suc j) e later = later j e

or-some : (xs ys : List (ℕ × ℕ)) → 0 < length ys → 0 < length (or_other xs ys)
or-some [] ys some = some
or-some (x ∷ xs) ys some = omega arith

some-or : (xs ys : List (ℕ × ℕ)) → 0 < length xs → 0 < length (or_other xs ys)
some-or [] ys some = absurd (omega arith)
some-or (x ∷ xs) ys some = omega arith

unit-some : (a : Annotated) (byte : ℕ) (ns : List Node) (i : ℕ) (n : Node) → slice_get ns i ≡ Some n → IsTrue (is_parallel n.kind) → 0 < length (beginning_at a byte n.parts)
    → 0 < length (unit_among a byte ns)
unit-some a byte [] i n e k some = absurd (cc)
unit-some a byte (m ∷ ns) zero n e k some =
    let is_same : n ≡ m = sym (same_Some m n e) in
    let all : List (ℕ × ℕ) = map (λ id. (n.span.from, id)) (beginning_at a byte n.parts) in
    let long : length all ≡ length (beginning_at a byte n.parts) = map-long {X = ℕ} {Y = ℕ × ℕ} (λ id. (n.span.from, id)) (beginning_at a byte n.parts) in
    let in_all : 0 < length all = omega (arith, long, some) in
    let in_n : 0 < length (unit_in a byte n) = subst (λ (t : Bool). 0 < length (if t then all else [])) (sym k) in_all in
    some-or (unit_in a byte m) (unit_among a byte ns) (subst (λ (x : Node). 0 < length (unit_in a byte x)) is_same in_n)
unit-some a byte (m ∷ ns) (suc i) n e k some = or-some (unit_in a byte m) (unit_among a byte ns) (unit-some a byte ns i n e k some)

units-grow : (a : Annotated) (byte more : ℕ) → unit_number a byte ≤ unit_number a (byte + more)
units-grow a byte zero = let z : byte + 0 ≡ byte = omega arith in rw z (omega arith)
units-grow a byte (suc more) =
    let z : byte + suc more ≡ suc (byte + more) = omega arith in
    let s = units-grow a byte more in
    rw z (omega (arith, length-append (units_before a (byte + more)) (unit_among a (byte + more) a.tree.nodes)))

begins-inside : (ns : List Node) (p : ℕ) → p < length ns → (option_map_or (λ (n : Node). n.span) (slice_get ns p) (record { from = 0; to = 0 })).from < behind_all ns
begins-inside [] p less = absurd (omega arith)
begins-inside (n ∷ ns) zero less = omega arith
begins-inside (n ∷ ns) (suc p) less = let l = begins-inside ns p (omega arith) in omega arith

-- a unit has one of the numbers
unit-within : (a : Annotated) (id : ℕ) (n : Node) → slice_get a.tree.nodes id ≡ Some n → AllBetween id (length a.tree.nodes) n.parts → IsTrue (is_parallel n.kind)
    → (j p : ℕ) → slice_get n.parts j ≡ Some p → unit_number a (bytes_of a p).from < all_units a
unit-within a id n e b k j p there =
    let byte = (bytes_of a p).from in
    let some = unit-some a byte a.tree.nodes id n e k (begun-some a byte n.parts j p there refl) in
    let inside : p < length a.tree.nodes =
    subst (λ (x : ℕ). x < length a.tree.nodes) (index-is n.parts j p there) (between-each id (length a.tree.nodes) j n.parts b (slice_get_within n.parts j p there)).1 in
    let before : byte < behind_all a.tree.nodes = begins-inside a.tree.nodes p inside in
    let end = behind_all a.tree.nodes in
    let more = end - suc byte in
    let z : suc byte + more ≡ end = omega arith in
    let s : unit_number a (suc byte) ≤ unit_number a end = subst (λ (x : ℕ). unit_number a (suc byte) ≤ unit_number a x) z (units-grow a (suc byte) more) in
    omega (arith, length-append (units_before a byte) (unit_among a byte a.tree.nodes))

all-within : (a : Annotated) (ids : List ℕ) → ((j p : ℕ) → slice_get ids j ≡ Some p → unit_number a (bytes_of a p).from < all_units a)
    → IsTrue (list_all (λ n. nat_lt n (all_units a)) (numbers_of a ids))
all-within a [] each = refl
all-within a (p ∷ ids) each =
    both (nat_lt (unit_number a (bytes_of a p).from) (all_units a)) (list_all (λ n. nat_lt n (all_units a)) (numbers_of a ids))
    (lt-ltb (unit_number a (bytes_of a p).from) (all_units a) (each 0 p refl)) (all-within a ids (λ j q e. each (suc j) q e))

units-within : (a : Annotated) (id : ℕ) (n : Node) → slice_get a.tree.nodes id ≡ Some n → AllBetween id (length a.tree.nodes) n.parts → IsTrue (is_parallel n.kind)
    → IsTrue (list_all (λ n. nat_lt n (all_units a)) (numbers_of a n.parts))
units-within a id n e b k = all-within a n.parts (unit-within a id n e b k)

-- ---- the whole

-- what is known of a node with an outcome
record HasOutcome (a : Annotated) (id : ℕ) (wanted : Bool) : Type 0 where
  pub node : Node
  pub note : Note
  pub is : slice_get a.tree.nodes id ≡ Some node
  pub noted : slice_get a.notes id ≡ Some note
  pub by : outcome_by a node note node.kind ≡ Some wanted

has-outcome : (a : Annotated) (id : ℕ) (wanted : Bool) → IsTrue (is_outcome wanted (outcome a id)) → HasOutcome a id wanted
unfolding outcome
has-outcome a id wanted e = go (slice_get a.tree.nodes id) (slice_get a.notes id) refl refl (wanted-is wanted (outcome a id) e)
  where
    go : (o : Option Node) (m : Option Note) → slice_get a.tree.nodes id ≡ o → slice_get a.notes id ≡ m → outcome_at a o m ≡ Some wanted → HasOutcome a id wanted
    go (Some node) (Some note) is noted by = record { node = node; note = note; is = is; noted = noted; by = by }
    go (Some node) None is noted by = absurd (cc)
    go None m is noted by = absurd (cc)

-- ---- misfits

module _ (ms : List Shape) (texts units : ℕ) where
  -- what stands for a node leaves what is asked of it
  fitting-fits : (a : Annotated) (node : Node) (note : Note) (wanted : Bool) (t : Tree) → outcome_by a node note node.kind ≡ Some wanted
      → (left_by a node note ≡ Some wanted → IsFit ms texts units wanted t) → IsFit ms texts units wanted (fitting a node note t)
  fitting-fits a node note wanted t by fit = subst (λ (o : Option Bool). IsFit ms texts units wanted (either (agrees o (left_by a node note)) o)) (sym by) (go (is_outcome wanted (left_by a node note)) refl)
    where
      either : (b : Bool) (o : Option Bool) → Tree
      either b o = if b then t else misfit node.span.from (is_outcome true o)

      go : (b : Bool) → is_outcome wanted (left_by a node note) ≡ b → IsFit ms texts units wanted (either b (Some wanted))
      go true e = fit (wanted-is wanted (left_by a node note) e)
      go false e = stands wanted
        where
          stands : (w : Bool) → IsFit ms texts units w (misfit node.span.from (is_outcome true (Some w)))
          stands true = misfit-fits ms texts units node.span.from true
          stands false = misfit-fits ms texts units node.span.from false

module _ (a : Annotated) (there : AreThere a (length a.tree.nodes)) (nodes : HoldsNodes a.modes) where
  -- from the last node to the first, as they are seen
  node-fits : (s : Sight) → GivenBounds a (defined_bound a s) → (left id : ℕ) (wanted : Bool) → length a.tree.nodes ≤ id + left → IsTrue (is_outcome wanted (outcome a id))
      → IsFit a.modes (texts_of a) (all_units a) wanted (tree_in a s id)
  node-fits s defined zero id wanted le e =
      let h = has-outcome a id wanted e in
      let within = slice_get_within a.tree.nodes id h.node h.is in
      absurd (omega (arith, within, le))
  node-fits s defined (suc left) id wanted le e =
      let h = has-outcome a id wanted e in
      let within = slice_get_within a.tree.nodes id h.node h.is in
      let t = there id within in
      let parts : AllBetween id (length a.tree.nodes) h.node.parts = subst (λ (m : Node). AllBetween id (length a.tree.nodes) m.parts) (same_Some t.node h.node (sym t.is ∙ h.is)) t.behind in
      let f = behind id (tree_in a s) in
      let given : Given a id f = λ p g less o. subst (λ u. IsFit a.modes (texts_of a) (all_units a) g u) (sym (behind_is id p (tree_in a s) less)) (node-fits s defined left p g (omega (arith, le, less)) o) in
      subst (λ u. IsFit a.modes (texts_of a) (all_units a) wanted u) (sym (tree_of_nodes a s id h.node h.note h.is h.noted))
      (fitting-fits a.modes (texts_of a) (all_units a) a h.node h.note wanted _ h.by
      (λ leaves. let l = then-is (leaves_as a h.node h.note h.node.kind) (λ l. path_leaves a.modes h.note.goal h.note.mode l h.note.path) wanted leaves in
      let m = made-fits a there nodes id f given s (defined_bound a s) defined h.node h.note l.0 h.node.kind (number-within a id h.node h.is) (units-within a id h.node h.is parts) parts l.1 in
      coerced-fits a.modes (texts_of a) (all_units a) h.node.span.from h.note.goal h.note.mode l.0 wanted h.note.path _ l.2 m))

  -- within bounds of definitions, where 0 stands for each of their own, and then where all is written
  within-fits : (frames : ℕ) (bytes : Span) → GivenBounds a (defined_bound a (sight.Within frames bytes))
  within-fits frames bytes hops p e = fit-none a.modes (texts_of a) (all_units a) true 0 (constant (plain (value.Int (pos 0)))) serial refl refl refl

  here-fits : GivenBounds a (defined_bound a sight.Here)
  here-fits frames p e =
      let bytes = bytes_of a p in
      subst (λ u. IsFit a.modes (texts_of a) (all_units a) true u) (sym (defined_is a frames p)) (node-fits (sight.Within frames bytes) (within-fits frames bytes) (length a.tree.nodes) p true (omega arith) e)

  -- a node of which a value is asked or none
  pub asked-fits : (wanted : Bool) (id : ℕ) → IsFit a.modes (texts_of a) (all_units a) wanted (asked_tree a wanted id)
  asked-fits wanted id = seated-fits a.modes (texts_of a) (all_units a) first_seat wanted _ (go (is_outcome wanted (outcome a id)) refl)
    where
      go : (b : Bool) → is_outcome wanted (outcome a id) ≡ b → IsFit a.modes (texts_of a) (all_units a) wanted (if b then tree_at a id else misfit (place_of a id) wanted)
      go true e = node-fits sight.Here here-fits (length a.tree.nodes) id wanted (omega arith) e
      go false e = misfit-fits a.modes (texts_of a) (all_units a) (place_of a id) wanted

  -- what stands apart fits in both ways
  pub record ApartIsFit (xs : List Apart) : Type 0 where
    pub fits : ApartFits a.modes (all_units a) xs
    pub operands : ApartFitsModes a.modes (texts_of a) xs

  apart-append : (xs ys : List Apart) → ApartIsFit xs → ApartIsFit ys → ApartIsFit (xs ++ ys)
  apart-append [] ys p q = q
  apart-append (routine_text body ∷ xs) ys p q =
      let r = apart-append xs ys (record { fits = p.fits.1; operands = p.operands.1 }) q in record { fits = (p.fits.0, r.fits); operands = (p.operands.0, r.operands) }
  apart-append (parallel_unit unit ∷ xs) ys p q =
      let r = apart-append xs ys (record { fits = p.fits.1; operands = p.operands.1 }) q in record { fits = (p.fits.0, r.fits); operands = (p.operands.0, r.operands) }

  bodies-fit : (ids : List ℕ) → ApartIsFit (map (λ id. routine_text (body_of a id)) ids)
  bodies-fit [] = record { fits = tt; operands = tt }
  bodies-fit (id ∷ ids) =
      let here = asked-fits (body_yields a id) (last_id (parts_at a id)) in
      let rest = bodies-fit ids in
      record { fits = (here.fits, rest.fits); operands = (here.operands, rest.operands) }

  units-fit : (us : List (ℕ × ℕ)) → ApartIsFit (map (λ u. parallel_unit (parallel_unit_of a u)) us)
  units-fit [] = record { fits = tt; operands = tt }
  units-fit (u ∷ us) =
      let here = asked-fits false u.1 in
      let rest = units-fit us in
      record { fits = (here.fits, rest.fits); operands = (here.operands, rest.operands) }

  before-fit : (byte : ℕ) → ApartIsFit (apart_before a byte)
  before-fit zero = record { fits = tt; operands = tt }
  before-fit (suc byte) =
      let us = unit_among a byte a.tree.nodes in
      let ids = text_among byte 0 a.tree.nodes in
      let xs = map (λ u. parallel_unit (parallel_unit_of a u)) us in
      let ys = map (λ id. routine_text (body_of a id)) ids in
      apart-append (apart_before a byte) (xs ++ ys) (before-fit byte) (apart-append xs ys (units-fit us) (bodies-fit ids))

  pub apart-fit : ApartIsFit (program_of a).apart
  apart-fit = before-fit (behind_all a.tree.nodes)
