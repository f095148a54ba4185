use Rattle.std.proofs.Common.{sym, ◌∙◌}
use Rattle.a68_emit.proofs.Seating.{label_noted, no_label_noted}
use Rattle.a68_emit.proofs.labels.note_label.Goals as goal

pub returns-then-not-is_label : goal.returns-then-not-is_label
returns-then-not-is_label c = no_label_noted c.args.program.now c.args.known.now.keys c.args.id c.args.part (sym c.is_label.ensures ∙ c.if-not-is_label.true)

pub returns : goal.returns
returns c =
    label_noted c.args.program.now c.args.known.now.keys _ c.args.id c.args.part (sym c.is_label.ensures ∙ c.if-not-is_label.false) c.in_ok-insert.ensures.updates.0
