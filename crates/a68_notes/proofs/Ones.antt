-- The notes of a tree are one.
use Rattle.std.proofs.Common.{◌≡◌, ◌<◌, ◌≤◌, ◌∙◌, ℕ, suc, Bool, true, false, List, [], ◌∷◌, length, refl, sym, ap, subst, arith, slice_get, Option, Some, None}
use Rattle.std.specs.Option.{option_map_or}
use Rattle.a68_annot.specs.declared.note.Note.{Note}
use Rattle.a68_base.specs.declared.limits.TheConstants.{MOST_MODES}
use Rattle.a68_coerce.specs.Below.{IsLeafBelow}
use Rattle.a68_coerce.specs.Kept.{PathsAreOne}
use Rattle.a68_coerce.specs.Paths.{Finds, Leads}
use Rattle.a68_coerce.specs.declared.leaf.Leaf.{Leaf}
use Rattle.a68_coerce.specs.declared.leaf.Leaf.TheVariants as leaf
use Rattle.a68_declare.specs.Outcome.{AreModesOf, ByNode}
use Rattle.a68_definitions.specs.Defined.{AllBelow, AreBelow, AreDefined}
use Rattle.a68_equiv.specs.Related.{as_it_stands}
use Rattle.a68_frames.specs.Frames.{WaysAreOne}
use Rattle.a68_identify.specs.Operators.{NumbersAreThere}
use Rattle.a68_meaning.specs.Meaning.{IsMeaning}
use Rattle.a68_mode_table.specs.Growing.{AreSound}
use Rattle.a68_modes.specs.declared.coercion.Coercion.{Coercion}
use Rattle.a68_modes.specs.declared.coercion.Sort.{Sort}
use Rattle.a68_modes.specs.declared.coercion.Sort.TheVariants as by
use Rattle.a68_modes.specs.declared.shape.Shape.{Shape}
use Rattle.a68_notes.proofs.Applying.{one_definition, one_distance}
use Rattle.a68_notes.proofs.Needing.{one_need}
use Rattle.a68_notes.specs.Notes.{mode_of, step_or_none, AreCoercions, AreNotes, IsNeedOf, IsNote, IsPathOf, IsPathTo, IsStrongPath, IsVoidPath, IsStep, IsStepOf, UsesFrame}
use Rattle.a68_positions.specs.Given.{finding_at, position_at}
use Rattle.a68_positions.specs.Positions.{ArePositions}
use Rattle.a68_positions.specs.declared.position.Position.{Position}
use Rattle.a68_positions.specs.declared.position.Position.TheVariants as position
use Rattle.a68_ranges.specs.Nodes.{kind_at}
use Rattle.a68_ranges.specs.Twice.{IsTwice}
use Rattle.a68_refusals.specs.First.{Asked}
use Rattle.a68_tree.specs.Trees.{Built}
use Rattle.a68_notes.specs.Voiding.{is_voided}
use Rattle.a68_tree.specs.declared.kind.NodeKind.{NodeKind}
use Rattle.a68_tree.specs.declared.kind.NodeKind.TheVariants as kind
use Rattle.a68_tree.specs.declared.node.FrameStep.{FrameStep}
use Rattle.a68_yields.proofs.Tabling.{leaf_longer}
use Rattle.a68_yields.specs.Below.{AreTablesBelow, AreUnitsBelow}
use Rattle.a68_yields.specs.Leaves.{yield_at}
use Rattle.a68_yields.specs.Yields.{AreYields, Known}
use Rattle.a68_yields.specs.declared.yielding.Finding.{Finding}
use Rattle.a68_yields.specs.declared.yielding.Yielding.{Yielding}
use Rattle.a68_yields.specs.declared.yielding.Yielding.TheVariants as yields

-- ---- lists and records

same_lists : {X : Type 0} (xs ys : List X) → length xs ≡ length ys → ((i : ℕ) (x y : X) → slice_get xs i ≡ Some x → slice_get ys i ≡ Some y → x ≡ y) → xs ≡ ys
same_lists [] [] long each = refl
same_lists [] (y ∷ ys) long each = absurd (omega arith)
same_lists (x ∷ xs) [] long each = absurd (omega arith)
same_lists (x ∷ xs) (y ∷ ys) long each =
    ap (λ z. z ∷ xs) (each 0 x y refl refl) ∙ ap (λ zs. y ∷ zs) (same_lists xs ys (omega arith) (λ i v w e f. each (suc i) v w e f))

abbrev noted : (mode : ℕ) → List Coercion → (goal : ℕ) → (op definition : Option ℕ) → FrameStep → (slots : ℕ) → (need : Option ℕ) → Note
noted mode path goal op definition step slots need =
    record { mode = mode; path = path; goal = goal; op = op; definition = definition; step = step; slots = slots; need = need }

same_note : (a b : Note) → a.mode ≡ b.mode → a.path ≡ b.path → a.goal ≡ b.goal → a.op ≡ b.op → a.definition ≡ b.definition → a.step ≡ b.step → a.slots ≡ b.slots → a.need ≡ b.need
    → a ≡ b
same_note a b m p g o d s l n =
    ap (λ x. noted x a.path a.goal a.op a.definition a.step a.slots a.need) m
    ∙ ap (λ x. noted b.mode x a.goal a.op a.definition a.step a.slots a.need) p
    ∙ ap (λ x. noted b.mode b.path x a.op a.definition a.step a.slots a.need) g
    ∙ ap (λ x. noted b.mode b.path b.goal x a.definition a.step a.slots a.need) o
    ∙ ap (λ x. noted b.mode b.path b.goal b.op x a.step a.slots a.need) d
    ∙ ap (λ x. noted b.mode b.path b.goal b.op b.definition x a.slots a.need) s
    ∙ ap (λ x. noted b.mode b.path b.goal b.op b.definition b.step x a.need) l
    ∙ ap (λ x. noted b.mode b.path b.goal b.op b.definition b.step b.slots x) n

-- ---- a path, a step and a need

one_found : (Leading : List Coercion → Type 0) → ((p q : List Coercion) → Leading p → Leading q → p ≡ q) → (f g : Option (List Coercion)) → Finds Leading f → Finds Leading g → f ≡ g
one_found Leading one None None a b = refl
one_found Leading one None (Some q) a b = absurd (a q b)
one_found Leading one (Some p) None a b = absurd (b p a)
one_found Leading one (Some p) (Some q) a b = ap (λ x. Some x) (one p q a b)

module _ (paths : PathsAreOne) (nodes : List Shape) (sound : AreSound nodes) where
  one_coercions : (by_sort : Sort) (from to : ℕ) (p q : List Coercion) → from < length nodes → AreCoercions nodes by_sort from to p → AreCoercions nodes by_sort from to q → p ≡ q
  one_coercions by_sort from to p q low a b =
      let one = one_found (Leads nodes by_sort (as_it_stands from) (as_it_stands to))
      (λ x y u v. paths nodes sound.holds sound.formed by_sort (as_it_stands from) (as_it_stands to) x y low u v) a.0 b.0 a.1 b.1 in
      a.2 ∙ ap (λ f. option_map_or (λ (x : List Coercion). x) f []) one ∙ sym b.2

  one_path_to : (by_sort : Sort) (to : ℕ) (y : Yielding) (p q : List Coercion) → ((l : Leaf) → y ≡ yields.Unit l → IsLeafBelow (length nodes) l) → IsPathTo nodes by_sort to y p
      → IsPathTo nodes by_sort to y q → p ≡ q
  one_path_to by_sort to (yields.Unit (leaf.Mode from)) p q low a b = one_coercions by_sort from to p q (low (leaf.Mode from) refl) a b
  one_path_to by_sort to (yields.Unit leaf.StrongOnly) p q low a b = a ∙ sym b
  one_path_to by_sort to _ p q low a b = a ∙ sym b

  one_void_path : (y : Yielding) (p q : List Coercion) → IsVoidPath nodes y p → IsVoidPath nodes y q → p ≡ q
  one_void_path (yields.Unit (leaf.Mode from)) p q a b = a ∙ sym b
  one_void_path (yields.Unit leaf.StrongOnly) p q a b = a ∙ sym b
  one_void_path yields.Unknown p q a b = a ∙ sym b
  one_void_path (yields.Part part) p q a b = a ∙ sym b
  one_void_path yields.Choice p q a b = a ∙ sym b

  one_strong : (voided : Bool) (to : ℕ) (y : Yielding) (p q : List Coercion) → ((l : Leaf) → y ≡ yields.Unit l → IsLeafBelow (length nodes) l) → IsStrongPath voided nodes to y p
      → IsStrongPath voided nodes to y q → p ≡ q
  one_strong true to y p q low a b = one_void_path y p q a b
  one_strong false to y p q low a b = one_path_to by.Strong to y p q low a b

  one_path : (form : NodeKind) (own : Position) (y : Yielding) (p q : List Coercion) → ((l : Leaf) → y ≡ yields.Unit l → IsLeafBelow (length nodes) l) → IsPathOf nodes form own y p → IsPathOf nodes form own y q
      → p ≡ q
  one_path form (position.Goal m setter) y p q low a b = one_strong (is_voided nodes form m) m y p q low a b
  one_path form (position.Asks by_sort (Some m)) y p q low a b = one_path_to by_sort m y p q low a b
  one_path form _ y p q low a b = a ∙ sym b

one_step : WaysAreOne → (tree : Built) (n : ℕ) (target : Option ℕ) (s t : FrameStep) → IsStep tree n target s → IsStep tree n target t → s ≡ t
one_step ways tree n None s t a b = a ∙ sym b
one_step ways tree n (Some d) s t a b = a.2 ∙ ap step_or_none (ways tree n d a.0 b.0 a.1 b.1) ∙ sym b.2

one_step_of : WaysAreOne → (tree : Built) (n : ℕ) (form : NodeKind) (d : Option ℕ) (s t : FrameStep) → IsStepOf tree n form d s → IsStepOf tree n form d t → s ≡ t
one_step_of ways tree n kind.Declarer d s t a b = one_distance tree n d s t a b
one_step_of ways tree n _ d s t a b = one_step ways tree n _ s t a b

one_need_of : (a : Asked) (n : ℕ) (form : NodeKind) (x y : Option ℕ) → IsNeedOf a n form x → IsNeedOf a n form y → x ≡ y
one_need_of a n kind.RoutineText x y p q = one_need (UsesFrame a n) x y p q
one_need_of a n _ x y p q = p ∙ sym q

-- ---- a note, and all of them

module _ (paths : PathsAreOne) (ways : WaysAreOne) (of : ByNode) (a : Asked) (once : (id : ℕ) → IsTwice a.tree id → ⊥) (sound : AreSound a.nodes) (units : AreUnitsBelow (length a.nodes) a.ys) where
  one_note : (n : ℕ) (x y : Note) → IsNote of a n x → IsNote of a n y → x ≡ y
  one_note n x y p q =
      let goal : x.goal ≡ y.goal = p.goal ∙ sym q.goal in
      let definition : x.definition ≡ y.definition = one_definition a.tree once a.tags n (finding_at a.fs n) (kind_at a.tree n) x.definition y.definition p.definition q.definition in
      let there : IsStepOf a.tree n (kind_at a.tree n) x.definition y.step = subst (λ d. IsStepOf a.tree n (kind_at a.tree n) d y.step) (sym definition) q.step in
      same_note x y
      (p.mode ∙ ap (λ g. mode_of of a.defined n g (yield_at a.ys n) (kind_at a.tree n)) goal ∙ sym q.mode)
      (one_path paths a.nodes sound (kind_at a.tree n) (position_at a.ps n) (yield_at a.ys n) x.path y.path (units n) p.path q.path)
      goal
      (p.op ∙ sym q.op)
      definition
      (one_step_of ways a.tree n (kind_at a.tree n) x.definition x.step y.step p.step there)
      (p.slots ∙ sym q.slots)
      (one_need_of a n (kind_at a.tree n) x.need y.need p.need q.need)

  one_list : (x y : List Note) → AreNotes of a x → AreNotes of a y → x ≡ y
  one_list x y p q = same_lists x y (p.long ∙ sym q.long) (λ i v w e f. one_note i v w (p.each i v e) (q.each i w f))

-- ---- the modes of a meaning are sound

-- what the laws of the crates below say
pub record Laws : Type 0 where
  pub paths : PathsAreOne
  pub ways : WaysAreOne
  pub below : (tree : Built) (nodes : List Shape) (of : ByNode) → AreModesOf tree nodes of → AreBelow (length nodes) of
  pub defined_sound : (tree : Built) (of : ByNode) (start nodes : List Shape) (table : List ℕ) → AreSound start → AreBelow (length start) of
      → length nodes ≤ MOST_MODES → AreDefined tree of start nodes table → AreSound nodes
  pub yields_sound : (k : Known) (start nodes : List Shape) (ys : List Yielding) (fs : List Finding) → AreSound start → length nodes ≤ MOST_MODES
      → AreYields k start nodes ys fs → AreSound nodes
  pub yields_longer : (k : Known) (start nodes : List Shape) (ys : List Yielding) (fs : List Finding) → AreYields k start nodes ys fs
      → length start ≤ length nodes
  pub positions_sound : (k : Known) (ys : List Yielding) (fs : List Finding) (start nodes : List Shape) (ps : List Position) → AreSound start
      → NumbersAreThere k.tree start k.of → AllBelow (length start) k.defined → AreTablesBelow (length start) (length k.tree.nodes) ys fs
      → length nodes ≤ MOST_MODES → ArePositions k ys fs start nodes ps → AreSound nodes
  pub positions_longer : (k : Known) (ys : List Yielding) (fs : List Finding) (start nodes : List Shape) (ps : List Position)
      → ArePositions k ys fs start nodes ps → length start ≤ length nodes

module _ (laws : Laws) (of : ByNode) (a : Asked) (once : (id : ℕ) → IsTwice a.tree id → ⊥) (is : IsMeaning of a) where
  abbrev known : Known
  known = record { tree = a.tree; tags = a.tags; of = of; defined = a.defined }

  longer : length is.yielded ≤ length a.nodes
  longer = laws.positions_longer known a.ys a.fs is.yielded a.nodes a.ps is.positions

  room_yielded : length is.yielded ≤ MOST_MODES
  room_yielded = let l = longer in let r = is.room in omega arith

  room_named : length is.named ≤ MOST_MODES
  room_named = let l = laws.yields_longer known is.named is.yielded a.ys a.fs is.yields in let r = room_yielded in omega arith

  named_sound : AreSound is.named
  named_sound = laws.defined_sound a.tree of is.declared is.named a.defined is.modes.sound (laws.below a.tree is.declared of is.modes.are) room_named is.defined

  yielded_sound : AreSound is.yielded
  yielded_sound = laws.yields_sound known is.named is.yielded a.ys a.fs named_sound room_yielded is.yields

  nodes_sound : AreSound a.nodes
  nodes_sound = laws.positions_sound known a.ys a.fs is.yielded a.nodes a.ps yielded_sound is.there is.below is.tables is.room is.positions

  units_below : AreUnitsBelow (length a.nodes) a.ys
  units_below n l e = leaf_longer (length is.yielded) (length a.nodes) l longer (is.tables.units n l e)

  pub one_notes : (x y : List Note) → AreNotes of a x → AreNotes of a y → x ≡ y
  one_notes x y p q = one_list laws.paths laws.ways of a once nodes_sound units_below x y p q
