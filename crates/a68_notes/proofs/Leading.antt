-- Where nothing is broken, a unit leads to its goal.
use Rattle.std.proofs.Common.{◌≡◌, ◌<◌, ◌∙◌, ◌⊎◌, inl, inr, ℕ, zero, suc, List, [], ◌∷◌, length, replicate, get_or, refl, sym, ap, subst, arith, slice_get, Option, Some, None, Bool, true, false, if◌then◌else◌}
use Rattle.std.specs.Prelude.{slice_set}
use Rattle.std.specs.Option.{option_map_or}
use Rattle.std.proofs.lemmas.Bool.{false≢true}
use Rattle.std.proofs.lemmas.Option.{slice_get_within}
use Rattle.a68_annot.specs.declared.note.Note.{Note}
use Rattle.a68_coerce.specs.Paths.{Finds, Leads}
use Rattle.a68_coerce.specs.declared.leaf.Leaf.{Leaf}
use Rattle.a68_coerce.specs.declared.leaf.Leaf.TheVariants as leaf
use Rattle.a68_declare.specs.Outcome.{ByNode}
use Rattle.a68_definitions.specs.Defined.{part_from_end}
use Rattle.a68_equiv.specs.Related.{as_it_stands}
use Rattle.a68_meaning.specs.Meaning.{IsUnbroken}
use Rattle.a68_modes.specs.declared.coercion.Coercion.{Coercion}
use Rattle.a68_modes.specs.declared.coercion.Sort.TheVariants as by
use Rattle.a68_modes.specs.declared.shape.Shape.{Shape}
use Rattle.a68_notes.specs.Notes.{AreCoercions, AreNotes, IsPathOf, IsStrongPath}
use Rattle.a68_notes.specs.Voiding.{is_voided}
use Rattle.a68_positions.specs.Given.{position_at}
use Rattle.a68_positions.specs.declared.position.Position.TheVariants as position
use Rattle.a68_ranges.specs.Nodes.{kind_at, parts_at, place_at}
use Rattle.a68_refusals.specs.First.{Asked, IsMisfitAt, coerced}
use Rattle.a68_refusals.specs.Order.{told_by}
use Rattle.a68_refusals.specs.Units.{hands_on, misfits, IsMisfit}
use Rattle.a68_refusals.specs.declared.rule.NodeRule.TheVariants.{C1}
use Rattle.a68_tree.specs.declared.kind.NodeKind.{NodeKind}
use Rattle.a68_tree.specs.declared.kind.NodeKind.TheVariants as kind
use Rattle.a68_yields.proofs.Tabling.{set_entry}
use Rattle.a68_yields.specs.Leaves.{choices, endings, has_exit, yield_at}
use Rattle.a68_yields.specs.Yields.{any_unknown, choice, handed, is_unknown, none_yet, one_more, told, unknown, AreYieldsFrom, IsToldYield, Known}
use Rattle.a68_yields.specs.declared.told.Told.{Told}
use Rattle.a68_yields.specs.declared.told.Told.TheVariants as tell
use Rattle.a68_yields.specs.declared.yielding.Finding.{Finding}
use Rattle.a68_yields.specs.declared.yielding.Yielding.{Yielding}
use Rattle.a68_yields.specs.declared.yielding.Yielding.TheVariants as yields

-- ---- what hands on yields no unit of its own

abbrev IsNoUnit : Told → Type 0
IsNoUnit (tell.Yields (yields.Unit l)) = ⊥
IsNoUnit (tell.Yields y) = Unit {0}
IsNoUnit (tell.PartOf part) = ⊥

either : (b : Bool) (s t : Told) → IsNoUnit s → IsNoUnit t → IsNoUnit (if b then s else t)
either true s t p q = p
either false s t p q = q

handed_none : (ys : List Yielding) (parts : List ℕ) → IsNoUnit (handed ys parts)
handed_none ys [] = tt
handed_none ys (p ∷ ps) = either (is_unknown (yield_at ys (part_from_end (p ∷ ps) 1))) unknown (tell.Yields (yields.Part (part_from_end (p ∷ ps) 1))) tt tt

choice_none : (ys : List Yielding) (parts : List ℕ) → IsNoUnit (choice ys parts)
choice_none ys parts = either (any_unknown ys parts) unknown (tell.Yields yields.Choice) tt tt

told_none : (k : Known) (nodes : List Shape) (ys : List Yielding) (n : ℕ) (found : Finding) (form : NodeKind) → hands_on form ≡ true → IsNoUnit (told k nodes ys n found form)
told_none k nodes ys n found kind.Closed h = handed_none ys (parts_at k.tree n)
told_none k nodes ys n found kind.Serial h =
    either (has_exit k.tree (parts_at k.tree n)) (choice ys (endings k.tree (parts_at k.tree n))) (handed ys (parts_at k.tree n))
    (choice_none ys (endings k.tree (parts_at k.tree n))) (handed_none ys (parts_at k.tree n))
told_none k nodes ys n found kind.Out h = handed_none ys (parts_at k.tree n)
told_none k nodes ys n found kind.Conditional h = choice_none ys (choices k.tree (parts_at k.tree n))
told_none k nodes ys n found kind.Case h = choice_none ys (choices k.tree (parts_at k.tree n))
told_none k nodes ys n found kind.Conformity h = choice_none ys (choices k.tree (parts_at k.tree n))
told_none k nodes ys n found _ h = absurd (false≢true h)

no_unit : (nodes : List Shape) (t : Told) (after : List Shape) (y : Yielding) (l : Leaf) → IsNoUnit t → IsToldYield nodes t after y → y ≡ yields.Unit l → ⊥
no_unit nodes (tell.Yields (yields.Unit other)) after y l none is e = none
no_unit nodes (tell.Yields yields.Unknown) after y l none is e = let f : yields.Unknown ≡ yields.Unit l = sym is.1 ∙ e in absurd (cc)
no_unit nodes (tell.Yields (yields.Part p)) after y l none is e = let f : yields.Part p ≡ yields.Unit l = sym is.1 ∙ e in absurd (cc)
no_unit nodes (tell.Yields yields.Choice) after y l none is e = let f : yields.Choice ≡ yields.Unit l = sym is.1 ∙ e in absurd (cc)
no_unit nodes (tell.PartOf part) after y l none is e = none

unknown_all : (count n : ℕ) → get_or (replicate count yields.Unknown) n yields.Unknown ≡ yields.Unknown
unknown_all zero n = refl
unknown_all (suc count) zero = refl
unknown_all (suc count) (suc n) = unknown_all count n

units_apart : {k : Known} {start : List Shape} {from : ℕ} {nodes : List Shape} {ys : List Yielding} {fs : List Finding} → AreYieldsFrom k start from nodes ys fs → (n : ℕ) (l : Leaf)
    → yield_at ys n ≡ yields.Unit l → hands_on (kind_at k.tree n) ≡ true → ⊥
units_apart {k = k} (none_yet at same ys_are fs_are) n l e h =
    let f : yields.Unknown ≡ yields.Unit l = sym (unknown_all (length k.tree.nodes) n) ∙ ap (λ xs. yield_at xs n) (sym ys_are) ∙ e in absurd (cc)
units_apart {k = k} {from = from} {nodes = nodes} (one_more before those others found y rest is yields_it ys_are fs_are) n l e h =
    go (set_entry those from n y yields.Unknown) (ap (λ xs. yield_at xs n) (sym ys_are) ∙ e)
    (λ f. units_apart rest n l f h)
    (λ at f. no_unit before (told k before those from found (kind_at k.tree from)) nodes y l (told_none k before those from found (kind_at k.tree from) (subst (λ m. hands_on (kind_at k.tree m) ≡ true) at h)) yields_it f)
  where
    go : (get_or (slice_set those from y) n yields.Unknown ≡ get_or those n yields.Unknown) ⊎ ((n ≡ from) × (get_or (slice_set those from y) n yields.Unknown ≡ y))
        → yield_at (slice_set those from y) n ≡ yields.Unit l → (yield_at those n ≡ yields.Unit l → ⊥) → (n ≡ from → y ≡ yields.Unit l → ⊥) → ⊥
    go (inl same) f old new = old (sym same ∙ f)
    go (inr here) f old new = new here.0 (sym here.1 ∙ f)

-- ---- the path leads

not_true : (b : Bool) → (b ≡ true → ⊥) → b ≡ false
not_true true never = absurd (never refl)
not_true false never = refl

found_leads : (Leading : List Coercion → Type 0) (found : Option (List Coercion)) (path : List Coercion) → Finds Leading found
    → path ≡ option_map_or (λ (p : List Coercion). p) found [] → (((p : List Coercion) → Leading p → ⊥) → ⊥) → Leading path
found_leads Leading None path finds is some = absurd (some finds)
found_leads Leading (Some p) path finds is some = subst Leading (sym is) finds

pub leads_on : (of : ByNode) (a : Asked) (notes : List Note) (n from m : ℕ) (setter : Option ℕ) (note : Note) → IsUnbroken of a → AreNotes of a notes → slice_get notes n ≡ Some note
    → yield_at a.ys n ≡ yields.Unit (leaf.Mode from) → position_at a.ps n ≡ position.Goal m setter → is_voided a.nodes (kind_at a.tree n) m ≡ false → Leads a.nodes by.Strong (as_it_stands from) (as_it_stands m) note.path
leads_on of a notes n from m setter note fine are at yields_it asked kept =
    let path : AreCoercions a.nodes by.Strong from m note.path =
    subst (λ b. IsStrongPath b a.nodes m (yields.Unit (leaf.Mode from)) note.path) kept
    (subst (λ o. IsPathOf a.nodes (kind_at a.tree n) o (yields.Unit (leaf.Mode from)) note.path) asked (subst (λ y. IsPathOf a.nodes (kind_at a.tree n) (position_at a.ps n) y note.path) yields_it (are.each n note at).path)) in
    let long = are.long in
    let within = slice_get_within notes n note at in
    let low : n < length a.tree.nodes = omega arith in
    let itself = not_true (hands_on (kind_at a.tree n)) (λ h. units_apart fine.is.yields n (leaf.Mode from) yields_it h) in
    found_leads (Leads a.nodes by.Strong (as_it_stands from) (as_it_stands m)) path.0 note.path path.1 path.2
    (λ never.
    let misfit : IsMisfitAt a n (Some (record { by = setter; rule = C1 })) =
    subst (λ o. IsMisfit a.nodes n (kind_at a.tree n) (yield_at a.ys n) o (Some (record { by = setter; rule = C1 }))) (sym asked)
    (subst (λ y. IsMisfit a.nodes n (kind_at a.tree n) y (position.Goal m setter) (Some (record { by = setter; rule = C1 }))) (sym yields_it) (misfits itself (λ can. never can.0 can.1) refl)) in
    fine.none (told_by a.tree setter C1 (place_at a.tree n)) (n, low, coerced (Some (record { by = setter; rule = C1 })) misfit refl))
