use Rattle.std.proofs.Common.{◌≡◌, ◌<◌, ◌∙◌, ℕ, List, length, get_or, sym, ap, arith, subst}
use Rattle.std.specs.Prelude.{map}
use Rattle.std.proofs.lemmas.List.{length-map, get_or_default}
use Rattle.std.proofs.lemmas.List.Elements.{All-from_get_or, Contains-get_or}
use Rattle.a68_modes.specs.Nodes.{shape_at}
use Rattle.a68_equiv.specs.Spread.{NotesModes}
use Rattle.a68_equiv.specs.declared.steps.Inward.TheVariants.{WithinUnions}
use Rattle.a68_equiv.specs.Ways.{steps_of, row}
use Rattle.a68_equiv.proofs.Spreading.{walk_begun, walk_on, walk_whole, few}
use Rattle.a68_equiv.proofs.Stepping.{closed, row_of_map}
use Rattle.a68_equiv.proofs.spread.lead.Goals as goal

pub loop-i-init : goal.loop-i-init
loop-i-init c = record {
  walked = walk_begun c.args.modes.now c.args.start.now c.note.new.found.items c.requires.start c.in_ok-note.ensures.known.distinct (subst (λ (xs : List ℕ). NotesModes c.args.start.now xs c.note.new.found.items) c.requires.empty c.in_ok-note.ensures.notes);
  known = c.in_ok-note.ensures.known;
  within = omega arith;
}

pub shape-requires : goal.shape-requires
shape-requires c =
    let l = c.loop-i.found.ok.0 in
    let lt : c.loop-i.i < length c.loop-i.found.items = omega arith in
    subst (λ (m : ℕ). m < length c.args.modes.now) (get_or_default c.loop-i.found.items c.loop-i.i 0 c.index-at.result.now lt ∙ sym c.index-at.ensures)
    (c.loop-i.invariant.walked.below (get_or c.loop-i.found.items c.loop-i.i 0) (Contains-get_or c.loop-i.found.items c.loop-i.i 0 lt))

pub loop-i-smaller : goal.loop-i-smaller
loop-i-smaller c =
    let l = c.loop-i.found.ok.0 in
    let f = few c.args.modes.now c.args.start.now c.loop-i.found.items c.loop-i.i c.loop-i.invariant.walked in
    omega arith

pub loop-i-preserved : goal.loop-i-preserved
loop-i-preserved c =
    let nodes = c.args.modes.now in
    let l = c.loop-i.found.ok.0 in
    let lt : c.loop-i.i < length c.loop-i.found.items = omega arith in
    let at : get_or c.loop-i.found.items c.loop-i.i 0 ≡ c.index-at.result.now = get_or_default c.loop-i.found.items c.loop-i.i 0 c.index-at.result.now lt ∙ sym c.index-at.ensures in
    let there : get_or c.loop-i.found.items c.loop-i.i 0 < length nodes = c.loop-i.invariant.walked.below (get_or c.loop-i.found.items c.loop-i.i 0) (Contains-get_or c.loop-i.found.items c.loop-i.i 0 lt) in
    let steps : c.in_ok-steps.steps ≡ row (map (steps_of WithinUnions) nodes) (get_or c.loop-i.found.items c.loop-i.i 0) =
    c.in_ok-steps.ensures ∙ ap (steps_of WithinUnions) (c.shape.ensures.shape ∙ ap (shape_at nodes) (sym at)) ∙ sym (row_of_map (steps_of WithinUnions) nodes (get_or c.loop-i.found.items c.loop-i.i 0) there) in
    let noted = subst (λ (xs : List ℕ). NotesModes xs c.loop-i.found.items c.note-in-loop-i.new.found.items) (c.deref.ensures.value ∙ c.steps.view_is) c.in_ok-note-2.ensures.notes in
    let n = noted.longer in
    record {
      walked = walk_on nodes c.args.start.now c.loop-i.found.items c.note-in-loop-i.new.found.items c.in_ok-steps.steps c.loop-i.i (closed WithinUnions nodes c.shape.ensures.nodes) (length-map nodes (steps_of WithinUnions)) lt steps c.loop-i.invariant.walked c.in_ok-note-2.ensures.known.distinct noted;
      known = c.in_ok-note-2.ensures.known;
      within = omega arith;
    }

pub returns-clause-led : goal.returns-clause-led
returns-clause-led c =
    let l = c.loop-i.found.ok.0 in
    walk_whole c.args.modes.now c.args.start.now c.loop-i.found.items c.loop-i.i (omega arith) c.loop-i.invariant.walked

pub returns-clause-below : goal.returns-clause-below
returns-clause-below c = All-from_get_or (λ m. m < length c.args.modes.now) c.loop-i.found.items 0 (λ k h. c.loop-i.invariant.walked.below (get_or c.loop-i.found.items k 0) (Contains-get_or c.loop-i.found.items k 0 h))
