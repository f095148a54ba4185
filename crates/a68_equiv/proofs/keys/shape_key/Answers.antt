use Rattle.a68_equiv.proofs.Keeping.{shape_row_below}
use Rattle.std.proofs.Common.{length}
use Rattle.a68_equiv.specs.declared.steps.Inward.TheVariants.{WithinUnions}
use Rattle.a68_equiv.proofs.Stepping.{steps_within}
use Rattle.a68_equiv.proofs.keys.shape_key.Goals as goal

pub key_of-requires : goal.key_of-requires
key_of-requires c = rw c.requires.long (shape_row_below c.args.modes.now c.deref.result.now c.behind_shape-bare.result.now c.args.fixed c.in_ok-row.row c.in_ok-row.ensures)

pub row_of-requires-clause-few : goal.row_of-requires-clause-few
row_of-requires-clause-few c = c.behind_shape-bare.ensures.nodes.few

pub row_of-requires-clause-start : goal.row_of-requires-clause-start
row_of-requires-clause-start c = rw (c.deref.ensures.value, c.start.view_is, c.in_ok-start.ensures) (steps_within WithinUnions (length c.args.modes.now) c.args.shape.now c.requires.within)
