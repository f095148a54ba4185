use Rattle.a68_ranges.proofs.Repeating.{least_twice}
use Rattle.a68_ranges.proofs.build.indices_of.Goals as goal

pub returns-clause-late : goal.returns-clause-late
returns-clause-late c =
    rw (c.earlier-late.ensures, c.earlier-words.ensures, c.earlier-others.ensures)
    (least_twice c.args.tree.now c.in_ok-tags.tags.late c.in_ok-mode_words.mode_words.late c.in_ok-priorities.priorities.late c.in_ok-fields.fields.late
    c.in_ok-tags.ensures.late c.in_ok-mode_words.ensures.late c.in_ok-priorities.ensures.late c.in_ok-fields.ensures.late)
