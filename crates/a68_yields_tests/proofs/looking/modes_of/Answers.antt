use Rattle.a68_mode_table.proofs.Whole.{all_sound}
use Rattle.a68_yields_tests.proofs.looking.modes_of.Goals as goal

pub new-requires-clause-sound : goal.new-requires-clause-sound
new-requires-clause-sound g c =
    let once = rw c.expect-ranges.ensures at c.ranges-2.ensures.once in
    let modes = rw c.expect-declared.ensures at c.declare.ensures.modes in
    all_sound c.expect-declared.result.modes c.expect-declared.result.fixed.items modes.cleans.clean (rw c.expect-declared.ensures at c.declare.ensures.formed) (rw c.expect-declared.ensures at c.declare.ensures.rows)
    (rw c.expect-declared.ensures at c.declare.ensures.members) (rw c.expect-declared.ensures at (c.declare.ensures.fixed once))

pub returns-clause-below : goal.returns-clause-below
returns-clause-below g c = rw c.new.ensures (c.modes_of_declarers_are_below.ensures c.args.tree.now c.expect-declared.result.modes c.expect-declared.result.of (rw c.expect-declared.ensures at c.declare.ensures.modes))
