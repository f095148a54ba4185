use Rattle.std.proofs.Common.{refl, sym, ◌∙◌, arith}
use Rattle.std.proofs.lemmas.Option.{slice_get_past}
use Rattle.a68_runs.proofs.Listing.{within_past, within_word}
use Rattle.a68_runs.proofs.Opening.{nothing_opened, word_added_to, word_marked}
use Rattle.a68_runs.proofs.bounds.look_at.Goals as goal

pub returns-then-id-len-clause-all : goal.returns-then-id-len-clause-all
returns-then-id-len-clause-all c =
    let a = c.args.program.now in
    let next = c.args.next in
    nothing_opened a next c.args.bounds.now.items c.args.opens.now c.args.bounds.now.items c.args.opens.now
    (within_past a next.depth next.id (slice_get_past a.tree.nodes next.id (omega arith)) (slice_get_past a.notes next.id (omega (arith, a.noted)))) refl refl

pub returns-in_ok-open_word-clause-all : goal.returns-in_ok-open_word-clause-all
returns-in_ok-open_word-clause-all c =
    let a = c.args.program.now in
    let next = c.args.next in
    word_added_to a next c.args.bounds.now.items c.args.opens.now _ c.open_word.new.opens
    (within_word a next.depth next.id c.if-depth-eq0.false (sym c.has_no_rows.ensures ∙ c.if-has_no_rows.false) (sym c.is_string.ensures ∙ c.if-is_string.false)
    c.parts_at-parts.result.now c.parts_at-parts.ensures (sym c.begins_with_bound.ensures ∙ c.if-begins_with_bound.false)) c.in_ok-open_word.ensures.all

pub returns-in_ok-open_word-clause-looks : goal.returns-in_ok-open_word-clause-looks
returns-in_ok-open_word-clause-looks c =
    let next = c.args.next in
    word_marked c.args.program.now next.depth next.id c.parts_at-parts.result.now c.if-depth-eq0.false c.parts_at-parts.ensures _ _ c.in_ok-open_word.ensures.looks
