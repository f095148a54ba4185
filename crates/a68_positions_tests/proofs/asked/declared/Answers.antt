use Rattle.a68_definitions.proofs.Defining.{modes_below}
use Rattle.a68_identify.proofs.Serving.{modes_are_there}
use Rattle.a68_mode_table.proofs.Whole.{all_sound}
use Rattle.a68_positions_tests.proofs.asked.declared.Goals as goal

pub new-requires-clause-sound : goal.new-requires-clause-sound
new-requires-clause-sound g c =
    let modes = rw c.expect-declared.ensures at c.declare.ensures.modes in
    all_sound c.expect-declared.result.modes c.expect-declared.result.fixed.items modes.cleans.clean (rw c.expect-declared.ensures at c.declare.ensures.formed) (rw c.expect-declared.ensures at c.declare.ensures.rows)
    (rw c.expect-declared.ensures at c.declare.ensures.members) (rw c.expect-declared.ensures at (c.declare.ensures.fixed c.requires.once))

pub new-requires-clause-fixed : goal.new-requires-clause-fixed
new-requires-clause-fixed g c = rw c.expect-declared.ensures at (c.declare.ensures.fixed c.requires.once)

pub returns-clause-below : goal.returns-clause-below
returns-clause-below g c =
    let modes = rw c.expect-declared.ensures at c.declare.ensures.modes in
    rw c.new.ensures (modes_below c.args.tree.now c.expect-declared.result.modes c.expect-declared.result.of modes)

pub returns-clause-there : goal.returns-clause-there
returns-clause-there g c =
    let modes = rw c.expect-declared.ensures at c.declare.ensures.modes in
    rw c.new.ensures (modes_are_there c.args.tree.now c.expect-declared.result.modes c.expect-declared.result.of modes)
