use Rattle.std.proofs.Common.{ap, ◌∙◌}
use Rattle.a68_elab.specs.Made as made
use Rattle.a68_runs.proofs.Opening.{word_opened}
use Rattle.a68_runs.proofs.bounds.open_word.Goals as goal

pub returns-in_ok-push-in-Some-clause-all : goal.returns-in_ok-push-in-Some-clause-all
returns-in_ok-push-in-Some-clause-all c =
    word_opened c.args.program.now c.args.depth c.args.frames _ c.note-note.result.now c.in-Some.definition c.last_id-id.result c.outwards-out.result c.args.parts.now c.args.opens.now c.push.new.self
    c.note-note.ensures c.in-Some.is (c.last_id-id.ensures ∙ ap made.last_id c.parts_at.ensures) c.outwards-out.ensures c.in_ok-push-in-Some.ensures
