use Rattle.a68_ranges.proofs.build.tables_of.Goals as goal

pub invariant_of-result : goal.invariant_of-result
invariant_of-result c = (
  c.in_ok-visible_tags.ensures c.args.indices.tags.entries c.requires.tags,
  (
    c.in_ok-visible_mode_words.ensures c.args.indices.mode_words.entries c.requires.mode_words,
    c.in_ok-visible_priorities.ensures c.args.indices.priorities.entries c.requires.priorities,
  ),
)
