-- Loops, choices and slices fit, and the bounds of declarers stand behind them.
use Rattle.std.proofs.Common.{◌≡◌, ℕ, zero, suc, ◌+◌, ◌<◌, Bool, true, false, List, [], ◌∷◌, ◌++◌, length, length-append, refl, sym, ◌∙◌, ap, subst, arith, None, Some, slice_get, take}
use Rattle.std.proofs.lemmas.Bool.{false≢true, eqb-true, lt-ltb}
use Rattle.std.proofs.lemmas.List.Sums.{sum_by-cons}
use Rattle.std.proofs.lemmas.Option.{same_Some, slice_get_within}
use Rattle.std.specs.List.{list_all}
use Rattle.std.specs.Option.{is_some, option_map_or}
use Rattle.std.specs.Prelude.{IsTrue, map, not, pos, nat_eq, nat_lt, ◌&&◌, ◌==◌, if◌then◌else◌, slice_index_or}
use Rattle.std.specs.declared.option.Option.{Option}
use Rattle.a68_acts.specs.Operations.{constant, skip}
use Rattle.a68_annot.specs.declared.annotated.Annotated.{Annotated}
use Rattle.a68_annot.specs.declared.note.Note.{Note}
use Rattle.a68_code.specs.Flow.{trim_values, values_of_trims}
use Rattle.a68_elab.specs.Made as made
use Rattle.a68_elab.specs.Made.{all_but_last, before_out, behind_all, behind_heap, behind_proc, behind_ref, begins_with, called, coerced, field_in, fields_at, first_bounds, first_goal, form_of, forms_of, if_first, index_units, is_by, is_collateral, is_declarer, is_for, is_from, is_heap, is_one_of, is_out, is_routine_text, is_to, is_while, isnt, items_at, kind_at, last_id, last_tree, leaf, mode_of, new_name, only, only_id, out_of, parts_at, past, printers, rowed_to, spelling_of, standard_of, tag_of, text_among, text_number, texts_before, texts_in, trees_at, wholes, goal_at}
use Rattle.a68_elab.specs.declared.bound.Bound.{Bound}
use Rattle.a68_elab.specs.declared.bound.Bound.TheVariants as bound
use Rattle.a68_elab.specs.Trees.{serial, Tree, together, meaningless, no_trees, count, Test}
use Rattle.a68_constructs.proofs.Constructs.{count_trees}
use Rattle.a68_gen.specs.Fits.{TestFits}
use Rattle.a68_gen.specs.Operands.{TestFitsModes}
use Rattle.a68_elab.specs.Runs.{all_leave, are_phrases, asks, body_runs, case_runs, choice_runs, control_runs, enquiry_runs, is_index, is_outcome, written_units, is_there, loop_by_runs, loop_runs, out_runs, outcome, slice_runs, test_runs, conformity_runs, specs_run}
use Rattle.a68_parts.proofs.Between.{between-above}
use Rattle.a68_runs.specs.Running.{AreThere}
use Rattle.a68_layout.specs.Rooms.{bounds_needed}
use Rattle.a68_layout.specs.declared.types.TrimForm.{TrimForm}
use Rattle.a68_layout.specs.declared.types.TrimForm.TheVariants as form
use Rattle.a68_modes.specs.Nodes.{shape_at, is_void, HoldsNodes, standard_shapes}
use Rattle.a68_modes.specs.declared.shape.Shape.{Shape}
use Rattle.a68_modes.specs.declared.shape.Shape.TheVariants as shape
use Rattle.a68_tree.specs.Trees.{AllBetween}
use Rattle.a68_tree.specs.declared.kind.NodeKind.{NodeKind}
use Rattle.a68_tree.specs.declared.node.Node.{Node}
use Rattle.a68_values.specs.Content.{plain}
use Rattle.a68_values.specs.declared.plain.Plain.TheVariants as value
use Rattle.a68_gen.proofs.Fitted.{IsFit, both, first, fit-none, framed-fits, second}
use Rattle.a68_gen.proofs.FittingParts.{all_units, AreBehind, Given, all-fit, before-fits, out-fits, phrases-fit, texts_of, before-between, specs-fit}

-- how many units an index has is told alike of what is written and of the instruction
written-is : (f : TrimForm) → written_units f ≡ trim_values f
written-is form.Subscript = refl
written-is (form.Trimmer lower upper at) = refl

-- ---- loops

-- a part of a loop, if any, stands behind its node
abbrev pub IsBehind : (id : ℕ) → Option ℕ → Type 0
IsBehind id None = Unit {0}
IsBehind id (Some p) = id < p

pub first-behind : (is : NodeKind → Bool) (a : Annotated) (id end : ℕ) (ids : List ℕ) → AllBetween id end ids → IsBehind id (if_first is a ids)
first-behind is a id end [] b = tt
first-behind is a id end (x ∷ xs) b = go (is (kind_at a x))
  where
    go : (t : Bool) → IsBehind id (if t then Some x else None)
    go true = b.0
    go false = tt

pub past-between : (id end : ℕ) (taken : Option ℕ) (ids : List ℕ) → AllBetween id end ids → AllBetween id end (past taken ids)
past-between id end (Some p) [] b = b
past-between id end (Some p) (x ∷ xs) b = b.2
past-between id end None ids b = b

pub only-behind : (id end : ℕ) (ids : List ℕ) → AllBetween id end ids → IsBehind id (only_id ids)
only-behind id end [] b = tt
only-behind id end (x ∷ []) b = b.0
only-behind id end (x ∷ (y ∷ xs)) b = tt

-- the parts of a node stand behind it
pub parts-behind : (a : Annotated) → AreThere a (length a.tree.nodes) → (id : ℕ) → AllBetween id (length a.tree.nodes) (parts_at a id)
parts-behind a there id = go (slice_get a.tree.nodes id) refl
  where
    go : (o : Option Node) → slice_get a.tree.nodes id ≡ o → AllBetween id (length a.tree.nodes) (option_map_or (λ (n : Node). n.parts) o [])
    go None e = tt
    go (Some n) e =
        let t = there id (slice_get_within a.tree.nodes id n e) in
        subst (λ (m : Node). AllBetween id (length a.tree.nodes) m.parts) (same_Some t.node n (sym t.is ∙ e)) t.behind

pub between-append : (id end : ℕ) (xs ys : List ℕ) → AllBetween id end xs → AllBetween id end ys → AllBetween id end (xs ++ ys)
between-append id end [] ys p q = q
between-append id end (x ∷ xs) ys p q = (p.0, p.1, between-append id end xs ys p.2 q)

pub leave-append : (a : Annotated) (xs ys : List ℕ) → IsTrue (all_leave a true xs) → IsTrue (all_leave a true ys) → IsTrue (all_leave a true (xs ++ ys))
leave-append a [] ys p q = q
leave-append a (x ∷ xs) ys p q =
    both (is_outcome true (outcome a x)) (all_leave a true (xs ++ ys)) (first (is_outcome true (outcome a x)) (all_leave a true xs) p)
    (leave-append a xs ys (second (is_outcome true (outcome a x)) (all_leave a true xs) p) q)

-- ---- bounds stand behind their declarer

pub bounds-append : (id : ℕ) (xs ys : List Bound) → AreBehind id xs → AreBehind id ys → AreBehind id (xs ++ ys)
bounds-append id [] ys p q = q
bounds-append id (bound.Written k ∷ xs) ys p q = (p.0, bounds-append id xs ys p.1 q)
bounds-append id (bound.Meant n ∷ xs) ys p q = bounds-append id xs ys p q
bounds-append id (bound.Defined frames k ∷ xs) ys p q = bounds-append id xs ys p q

pub bounds-above : (id k : ℕ) (bounds : List Bound) → id < k → AreBehind k bounds → AreBehind id bounds
bounds-above id k [] less p = tt
bounds-above id k (bound.Written i ∷ bounds) less p = let q = p.0 in (omega (arith, less, q), bounds-above id k bounds less p.1)
bounds-above id k (bound.Meant n ∷ bounds) less p = bounds-above id k bounds less p
bounds-above id k (bound.Defined frames i ∷ bounds) less p = bounds-above id k bounds less p

-- so do some of them
pub take-behind : (id n : ℕ) (bounds : List Bound) → AreBehind id bounds → AreBehind id (take n bounds)
take-behind id zero bounds p = tt
take-behind id (suc n) [] p = tt
take-behind id (suc n) (bound.Written k ∷ bounds) p = (p.0, take-behind id n bounds p.1)
take-behind id (suc n) (bound.Meant m ∷ bounds) p = take-behind id n bounds p
take-behind id (suc n) (bound.Defined frames k ∷ bounds) p = take-behind id n bounds p

-- bounds of a definition stand anywhere
pub defined-behind : (id hops : ℕ) (bounds : List Bound) → AreBehind id (map (made.from_definition hops) bounds)
defined-behind id hops [] = tt
defined-behind id hops (bound.Written k ∷ bounds) = defined-behind id hops bounds
defined-behind id hops (bound.Meant m ∷ bounds) = defined-behind id hops bounds
defined-behind id hops (bound.Defined frames k ∷ bounds) = defined-behind id hops bounds

pub written-behind : (id end : ℕ) (ids : List ℕ) → AllBetween id end ids → AreBehind id (made.all_written ids)
written-behind id end [] b = tt
written-behind id end (x ∷ ids) b = (b.0, written-behind id end ids b.2)

pub either-behind : (id : ℕ) (b : Bool) (xs ys : List Bound) → AreBehind id xs → AreBehind id ys → AreBehind id (if b then xs else ys)
either-behind id true xs ys p q = p
either-behind id false xs ys p q = q

module _ (a : Annotated) (there : AreThere a (length a.tree.nodes)) where
  pub dimension-behind : (id : ℕ) → AreBehind id (made.dimension a (parts_at a id))
  dimension-behind id =
      let b = written-behind id (length a.tree.nodes) (parts_at a id) (parts-behind a there id) in either-behind id (begins_with made.is_lower a (parts_at a id)) _ _ b b

  pub rows-behind : (inner : ℕ → List Bound) → ((k : ℕ) → AreBehind k (inner k)) → (id : ℕ) (ids : List ℕ) → AllBetween id (length a.tree.nodes) ids → AreBehind id (made.row_bounds a inner ids)
  rows-behind inner each id [] b = tt
  rows-behind inner each id (x ∷ ids) b =
      either-behind id (made.is_bound (kind_at a x)) _ _
      (bounds-append id (made.dimension a (parts_at a x)) (made.row_bounds a inner ids) (bounds-above id x (made.dimension a (parts_at a x)) b.0 (dimension-behind x)) (rows-behind inner each id ids b.2))
      (bounds-above id x (inner x) b.0 (each x))

  pub fields-behind : (inner : ℕ → List Bound) → ((k : ℕ) → AreBehind k (inner k)) → (id : ℕ) (last : List Bound) (ids : List ℕ) → AreBehind id last → AllBetween id (length a.tree.nodes) ids
      → AreBehind id (made.field_bounds a inner last ids)
  fields-behind inner each id last [] p b = tt
  fields-behind inner each id last (x ∷ ids) p b =
      either-behind id (made.is_field (kind_at a x)) _ _ (bounds-append id last (made.field_bounds a inner last ids) p (fields-behind inner each id last ids p b.2))
      (fields-behind inner each id (inner x) ids (bounds-above id x (inner x) b.0 (each x)) b.2)

  pub word-behind : (inner : ℕ → List Bound) → ((k : ℕ) → AreBehind k (inner k)) → (id : ℕ) (o : Option Note) (ids : List ℕ) → AllBetween id (length a.tree.nodes) ids
      → AreBehind id (made.word_bounds a inner o ids)
  word-behind inner each id None ids b = tt
  word-behind inner each id (Some note) ids b = go note.definition
    where
      go : (o : Option ℕ)
          → AreBehind id (option_map_or (λ d. map (made.from_definition note.step.hops) (inner (last_id (parts_at a d)))) o (made.field_bounds a inner [] ids))
      go None = fields-behind inner each id [] ids tt b
      go (Some d) = defined-behind id note.step.hops (inner (last_id (parts_at a d)))

  pub within-behind : (depth id : ℕ) → AreBehind id (made.bounds_within depth a id)
  within-behind zero id = tt
  within-behind (suc n) id =
      let inner = made.bounds_within n a in
      let parts = parts-behind a there id in
      either-behind id (nat_eq 0 (bounds_needed a.modes (mode_of a id))) _ _ tt
      (either-behind id (made.named_at a made.strings id) _ _ tt
      (either-behind id (begins_with made.is_bound a (parts_at a id)) _ _ (rows-behind inner (within-behind n) id (parts_at a id) parts)
      (word-behind inner (within-behind n) id (slice_get a.notes id) (parts_at a id) parts)))

  pub first-bounds-behind : (id : ℕ) (ids : List ℕ) → AllBetween id (length a.tree.nodes) ids → AreBehind id (first_bounds a ids)
  first-bounds-behind id [] b = tt
  first-bounds-behind id (x ∷ ids) b =
      either-behind id (is_declarer (kind_at a x)) _ _
      (take-behind id made.most_bounds (made.bounds_within (length a.tree.nodes) a x)
      (bounds-above id x (made.bounds_within (length a.tree.nodes) a x) b.0 (within-behind (length a.tree.nodes) x))) tt

-- INT is the first mode behind VOID
pub int-is : (nodes : List Shape) → HoldsNodes nodes → shape_at nodes 1 ≡ shape.Int
int-is nodes h = go nodes h.standard
  where
    go : (l : List Shape) → take 15 l ≡ standard_shapes → shape_at l 1 ≡ shape.Int
    go [] e = absurd (cc)
    go (x ∷ []) e = absurd (cc)
    go (x ∷ (y ∷ l)) e = ap (λ (k : List Shape). slice_index_or k 1 shape.Blank) e

pub int-there : (nodes : List Shape) → HoldsNodes nodes → IsTrue (nat_lt 1 (length nodes))
int-there nodes h = go nodes h.standard
  where
    go : (l : List Shape) → take 15 l ≡ standard_shapes → IsTrue (nat_lt 1 (length l))
    go [] e = absurd (cc)
    go (x ∷ []) e = absurd (cc)
    go (x ∷ (y ∷ l)) e = lt-ltb 1 (length (x ∷ (y ∷ l))) (omega arith)

-- WHILE, if any, fits in both ways
pub record IsTestFit (modes : List Shape) (texts units : ℕ) (t : Test) : Type 0 where
  pub fits : TestFits modes units t
  pub operands : TestFitsModes modes texts t

module _ (a : Annotated) (there : AreThere a (length a.tree.nodes)) (nodes : HoldsNodes a.modes) (id : ℕ) (f : ℕ → Tree) (given : Given a id f) where
  pub control-fits : (part : Option ℕ) (left_out : Tree) → IsBehind id part → IsTrue (control_runs a part) → IsFit a.modes (texts_of a) (all_units a) true left_out → IsFit a.modes (texts_of a) (all_units a) true (option_map_or f part left_out)
  control-fits None left_out b e n = n
  control-fits (Some p) left_out b e n = given p true b e

  pub body-fits : (part : Option ℕ) → IsBehind id part → IsTrue (body_runs a part) → IsFit a.modes (texts_of a) (all_units a) false (option_map_or f part meaningless)
  body-fits None b e = absurd (false≢true e)
  body-fits (Some p) b e = given p false b e

  -- the enquiry of WHILE, by its node
  pub enquiry-at : (q : ℕ) (o : Option Node) → id < q → slice_get a.tree.nodes q ≡ o → IsTrue (are_phrases a true (option_map_or (λ (n : Node). n.parts) o []))
      → IsTestFit a.modes (texts_of a) (all_units a) (made.enquiry_of f o (slice_get a.notes q))
  enquiry-at q None below is e = absurd (false≢true e)
  enquiry-at q (Some n) below is e =
      let t = there q (slice_get_within a.tree.nodes q n is) in
      let parts : AllBetween q (length a.tree.nodes) n.parts = subst (λ (m : Node). AllBetween q (length a.tree.nodes) m.parts) (same_Some t.node n (sym t.is ∙ is)) t.behind in
      let x = phrases-fit a id (length a.tree.nodes) f given true n.span.from n.parts (between-above id q (length a.tree.nodes) n.parts below parts) e in
      subst (λ (m : Option Note). IsTestFit a.modes (texts_of a) (all_units a) (made.enquiry_of f (Some n) m)) (sym t.noted) (record { fits = x.fits; operands = x.operands })

  pub enquiry-fits : (clause : Option ℕ) → IsBehind id clause → IsTrue (enquiry_runs a clause) → IsTestFit a.modes (texts_of a) (all_units a) (made.enquiry_at a f clause)
  enquiry-fits None b e = absurd (false≢true e)
  enquiry-fits (Some q) b e = enquiry-at q (slice_get a.tree.nodes q) b refl e

  pub above : (w : ℕ) (clause : Option ℕ) → id < w → IsBehind w clause → IsBehind id clause
  above w None less b = tt
  above w (Some q) less b = omega (arith, less, b)

  pub test-fits : (test : Option ℕ) → IsBehind id test → IsTrue (test_runs a test) → IsTestFit a.modes (texts_of a) (all_units a) (made.test_of a f test)
  test-fits None b e = record { fits = tt; operands = tt }
  test-fits (Some w) b e =
      enquiry-fits (only_id (parts_at a w)) (above w (only_id (parts_at a w)) b (only-behind w (length a.tree.nodes) (parts_at a w) (parts-behind a there w))) e

  pub skip-int-fits : (place : ℕ) → IsFit a.modes (texts_of a) (all_units a) true (leaf place (skip 1))
  skip-int-fits place =
      let is = int-is a.modes nodes in
      fit-none a.modes (texts_of a) (all_units a) true place (skip 1) serial (sym (ap (λ (s : Shape). not (is_void s)) is)) refl (int-there a.modes nodes)

  pub loop-by-fits : (place : ℕ) (counts : Bool) (from by to test body : Option ℕ) → IsBehind id from → IsBehind id by → IsBehind id to → IsBehind id test → IsBehind id body
      → IsTrue (loop_by_runs a from by to test body) → IsFit a.modes (texts_of a) (all_units a) false (made.loop_by a f place counts from by to test body)
  loop-by-fits place counts from by to test body bf bb bt bw bo e =
      let e1 = second (control_runs a from) (control_runs a by && (control_runs a to && (test_runs a test && body_runs a body))) e in
      let e2 = second (control_runs a by) (control_runs a to && (test_runs a test && body_runs a body)) e1 in
      let e3 = second (control_runs a to) (test_runs a test && body_runs a body) e2 in
      let one : IsFit a.modes (texts_of a) (all_units a) true (leaf place (constant (plain (value.Int (pos 1))))) = fit-none a.modes (texts_of a) (all_units a) true place (constant (plain (value.Int (pos 1)))) serial refl refl refl in
      let x = control-fits from _ bf (first (control_runs a from) (control_runs a by && (control_runs a to && (test_runs a test && body_runs a body))) e) one in
      let y = control-fits by _ bb (first (control_runs a by) (control_runs a to && (test_runs a test && body_runs a body)) e1) one in
      let z = control-fits to _ bt (first (control_runs a to) (test_runs a test && body_runs a body) e2) (skip-int-fits place) in
      let w = test-fits test bw (first (test_runs a test) (body_runs a body) e3) in
      let o = body-fits body bo (second (test_runs a test) (body_runs a body) e3) in
      record { fits = (refl, refl, (x.fits, (y.fits, (z.fits, tt))), w.fits, o.fits); operands = ((x.operands, (y.operands, (z.operands, tt))), w.operands, o.operands) }

  pub loop-fits : (place : ℕ) (ids : List ℕ) → AllBetween id (length a.tree.nodes) ids → IsTrue (loop_runs a ids) → IsFit a.modes (texts_of a) (all_units a) false (made.loop_of a f place ids)
  loop-fits place ids b e =
      let n = length a.tree.nodes in
      let tag = if_first is_for a ids in
      let froms = past tag ids in
      let from = if_first is_from a froms in
      let bys = past from froms in
      let by = if_first is_by a bys in
      let tos = past by bys in
      let to = if_first is_to a tos in
      let tests = past to tos in
      let test = if_first is_while a tests in
      let bodies = past test tests in
      let b1 = past-between id n tag ids b in
      let b2 = past-between id n from froms b1 in
      let b3 = past-between id n by bys b2 in
      let b4 = past-between id n to tos b3 in
      loop-by-fits place (is_some tag) from by to test (only_id bodies) (first-behind is_from a id n froms b1) (first-behind is_by a id n bys b2)
      (first-behind is_to a id n tos b3) (first-behind is_while a id n tests b4) (only-behind id n bodies (past-between id n test tests b4)) e

  pub nothing-fits : (left : Bool) → Some false ≡ Some left → IsFit a.modes (texts_of a) (all_units a) left (together no_trees)
  nothing-fits left e = subst (λ g. IsFit a.modes (texts_of a) (all_units a) g (together no_trees)) (same_Some false left e) (record { fits = (refl, tt); operands = tt })

  -- ---- choices

  -- what an enquiry begins fits, where it does for each enquiry that fits
  pub begun-by : (q out : ℕ) (wanted : Bool) (o : Option Node) (go : Tree → Tree) → id < q → slice_get a.tree.nodes q ≡ o → IsTrue (are_phrases a true (option_map_or (λ (n : Node). n.parts) o []))
      → ((t : Tree) → IsFit a.modes (texts_of a) (all_units a) true t → IsFit a.modes (texts_of a) (all_units a) wanted (go t)) → IsFit a.modes (texts_of a) (all_units a) wanted (made.begun_by f out wanted o (slice_get a.notes q) go)
  begun-by q out wanted None go below is e fit = absurd (false≢true e)
  begun-by q out wanted (Some n) go below is e fit =
      let t = there q (slice_get_within a.tree.nodes q n is) in
      let parts : AllBetween q (length a.tree.nodes) n.parts = subst (λ (m : Node). AllBetween q (length a.tree.nodes) m.parts) (same_Some t.node n (sym t.is ∙ is)) t.behind in
      let x = phrases-fit a id (length a.tree.nodes) f given true n.span.from n.parts (between-above id q (length a.tree.nodes) n.parts below parts) e in
      subst (λ (m : Option Note). IsFit a.modes (texts_of a) (all_units a) wanted (made.begun_by f out wanted (Some n) m go)) (sym t.noted)
      (framed-fits a.modes (texts_of a) (all_units a) n.span.from out t.note.slots wanted (go (made.phrases_of n.span.from (trees_at f n.parts))) (fit _ x))

  pub with-enquiry-fits : (q out : ℕ) (wanted : Bool) (go : Tree → Tree) → id < q → IsTrue (asks a q) → ((t : Tree) → IsFit a.modes (texts_of a) (all_units a) true t → IsFit a.modes (texts_of a) (all_units a) wanted (go t))
      → IsFit a.modes (texts_of a) (all_units a) wanted (made.with_enquiry a f out wanted q go)
  with-enquiry-fits q out wanted go below e fit = begun-by q out wanted (slice_get a.tree.nodes q) go below refl e fit

  pub choice-fits : (place goal : ℕ) (ids : List ℕ) → AllBetween id (length a.tree.nodes) ids → IsTrue (choice_runs a goal (not (is_void (shape_at a.modes goal))) ids)
      → IsFit a.modes (texts_of a) (all_units a) (not (is_void (shape_at a.modes goal))) (made.choice_of a f place goal (not (is_void (shape_at a.modes goal))) ids)
  choice-fits place goal [] b e = absurd (false≢true e)
  choice-fits place goal (q ∷ []) b e = absurd (false≢true e)
  choice-fits place goal (q ∷ (t ∷ [])) b e =
      let wanted = not (is_void (shape_at a.modes goal)) in
      let skipped = first (is_there a.modes goal) (asks a q && is_outcome wanted (outcome a t)) e in
      let rest = second (is_there a.modes goal) (asks a q && is_outcome wanted (outcome a t)) e in
      let y = given t wanted b.2.0 (second (asks a q) (is_outcome wanted (outcome a t)) rest) in
      let z = fit-none a.modes (texts_of a) (all_units a) wanted place (skip goal) serial refl refl skipped in
      with-enquiry-fits q place wanted _ b.0 (first (asks a q) (is_outcome wanted (outcome a t)) rest)
      (λ u x. record { fits = (x.fits, y.fits, z.fits); operands = (x.operands, y.operands, z.operands) })
  choice-fits place goal (q ∷ (t ∷ (o ∷ []))) b e =
      let wanted = not (is_void (shape_at a.modes goal)) in
      let rest = second (asks a q) (is_outcome wanted (outcome a t) && is_outcome wanted (outcome a o)) e in
      let y = given t wanted b.2.0 (first (is_outcome wanted (outcome a t)) (is_outcome wanted (outcome a o)) rest) in
      let z = given o wanted b.2.2.0 (second (is_outcome wanted (outcome a t)) (is_outcome wanted (outcome a o)) rest) in
      with-enquiry-fits q place wanted _ b.0 (first (asks a q) (is_outcome wanted (outcome a t) && is_outcome wanted (outcome a o)) e)
      (λ u x. record { fits = (x.fits, y.fits, z.fits); operands = (x.operands, y.operands, z.operands) })
  choice-fits place goal (q ∷ (t ∷ (u ∷ (v ∷ ids)))) b e = absurd (false≢true e)

  pub case-fits : (place goal : ℕ) (ids : List ℕ) → AllBetween id (length a.tree.nodes) ids → IsTrue (case_runs a goal (not (is_void (shape_at a.modes goal))) ids)
      → IsFit a.modes (texts_of a) (all_units a) (not (is_void (shape_at a.modes goal))) (made.case_of a f place goal (not (is_void (shape_at a.modes goal))) ids)
  case-fits place goal [] b e = absurd (false≢true e)
  case-fits place goal (q ∷ ids) b e =
      let wanted = not (is_void (shape_at a.modes goal)) in
      let units = all_leave a wanted (before_out a ids) in
      let out = out_runs a goal wanted (out_of a ids) in
      let rest = second (asks a q) (units && out) e in
      let y = before-fits a id (length a.tree.nodes) f given wanted ids b.2 (first units out rest) in
      let z = out-fits a id (length a.tree.nodes) f given place goal ids b.2 (second units out rest) in
      with-enquiry-fits q place wanted _ b.0 (first (asks a q) (units && out) e)
      (λ u x. record { fits = (x.fits, y.fits, z.fits); operands = (x.operands, y.operands, z.operands) })

  pub conformity-fits : (place goal : ℕ) (ids : List ℕ) → AllBetween id (length a.tree.nodes) ids → IsTrue (conformity_runs a goal (not (is_void (shape_at a.modes goal))) ids)
      → IsFit a.modes (texts_of a) (all_units a) (not (is_void (shape_at a.modes goal))) (made.conformity_of a f place goal (not (is_void (shape_at a.modes goal))) ids)
  conformity-fits place goal [] b e = absurd (false≢true e)
  conformity-fits place goal (q ∷ ids) b e =
      let wanted = not (is_void (shape_at a.modes goal)) in
      let there_is = nat_lt (goal_at a q) (length a.modes) in
      let parts = specs_run a wanted (before_out a ids) in
      let out = out_runs a goal wanted (out_of a ids) in
      let asked = second there_is (asks a q && (parts && out)) e in
      let rest = second (asks a q) (parts && out) asked in
      let y = specs-fit a id (length a.tree.nodes) f given wanted (before_out a ids) (before-between a id (length a.tree.nodes) f given ids b.2) (first parts out rest) in
      let z = out-fits a id (length a.tree.nodes) f given place goal ids b.2 (second parts out rest) in
      with-enquiry-fits q place wanted _ b.0 (first (asks a q) (parts && out) asked)
      (λ u x. record { fits = (refl, refl, x.fits, y.fits, z.fits); operands = (first there_is (asks a q && (parts && out)) e, x.operands, y.operands, z.operands) })

  -- ---- slices

  pub units-between : (ids : List ℕ) → AllBetween id (length a.tree.nodes) ids → AllBetween id (length a.tree.nodes) (index_units a ids)
  units-between [] b = tt
  units-between (x ∷ ids) b =
      between-append id (length a.tree.nodes) (parts_at a x) (index_units a ids) (between-above id x (length a.tree.nodes) (parts_at a x) b.0 (parts-behind a there x)) (units-between ids b.2)

  -- the indexes take as many values as they have units
  pub units-taken : (ids : List ℕ) → IsTrue (list_all (is_index a) ids) → values_of_trims (forms_of a ids) ≡ length (index_units a ids)
  units-taken [] e = refl
  units-taken (x ∷ ids) e =
      let here = first (is_index a x) (list_all (is_index a) ids) e in
      let rest = units-taken ids (second (is_index a x) (list_all (is_index a) ids) e) in
      let one = sym (written-is (form_of a (parts_at a x)))
      ∙ eqb-true (written_units (form_of a (parts_at a x))) (length (parts_at a x))
      (first (written_units (form_of a (parts_at a x)) == length (parts_at a x)) (all_leave a true (parts_at a x)) here) in
      sum_by-cons trim_values (form_of a (parts_at a x)) (forms_of a ids)
      ∙ ap (λ n. n + values_of_trims (forms_of a ids)) one ∙ ap (λ n. length (parts_at a x) + n) rest ∙ sym (length-append (parts_at a x) (index_units a ids))

  pub units-leave : (ids : List ℕ) → IsTrue (list_all (is_index a) ids) → IsTrue (all_leave a true (index_units a ids))
  units-leave [] e = refl
  units-leave (x ∷ ids) e =
      let here = first (is_index a x) (list_all (is_index a) ids) e in
      leave-append a (parts_at a x) (index_units a ids) (second (written_units (form_of a (parts_at a x)) == length (parts_at a x)) (all_leave a true (parts_at a x)) here)
      (units-leave ids (second (is_index a x) (list_all (is_index a) ids) e))

  pub forms-long : (ids : List ℕ) → length (forms_of a ids) ≡ length ids
  forms-long [] = refl
  forms-long (x ∷ ids) = ap (λ n. suc n) (forms-long ids)

  pub slice-fits : (place : ℕ) (ids : List ℕ) → AllBetween id (length a.tree.nodes) ids → IsTrue (slice_runs a ids) → IsFit a.modes (texts_of a) (all_units a) true (made.slice_of a f place ids)
  slice-fits place [] b e = absurd (false≢true e)
  slice-fits place (x ∷ ids) b e =
      let indexed = nat_lt 0 (length ids) && list_all (is_index a) ids in
      let behind = second (is_outcome true (outcome a x)) indexed e in
      let some = first (nat_lt 0 (length ids)) (list_all (is_index a) ids) behind in
      let indexes = second (nat_lt 0 (length ids)) (list_all (is_index a) ids) behind in
      let primary = given x true b.0 (first (is_outcome true (outcome a x)) indexed e) in
      let units = all-fit a id (length a.tree.nodes) f given true (index_units a ids) (units-between ids b.2) (units-leave ids indexes) in
      let many : values_of_trims (forms_of a ids) ≡ count (trees_at f (index_units a ids)) = units-taken ids indexes ∙ sym (count_trees f (index_units a ids)) in
      let well : IsTrue (nat_lt 0 (length (forms_of a ids))) = subst (λ (n : ℕ). IsTrue (nat_lt 0 n)) (sym (forms-long ids)) some in
      record { fits = (refl, ap (λ n. suc n) many, (primary.fits, units.fits)); operands = (well, (primary.operands, units.operands)) }
