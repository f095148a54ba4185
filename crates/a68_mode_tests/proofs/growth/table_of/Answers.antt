use Rattle.a68_mode_table.proofs.Whole.{all_sound}
use Rattle.a68_mode_tests.proofs.growth.table_of.Goals as goal

pub new-requires-clause-sound : goal.new-requires-clause-sound
new-requires-clause-sound g c =
    let once = rw c.expect-ranges.ensures at c.ranges-2.ensures.once in
    let modes = rw c.expect-declared.ensures at c.declare.ensures.modes in
    all_sound c.expect-declared.result.modes c.expect-declared.result.fixed.items modes.cleans.clean (rw c.expect-declared.ensures at c.declare.ensures.formed) (rw c.expect-declared.ensures at c.declare.ensures.rows)
    (rw c.expect-declared.ensures at c.declare.ensures.members) (rw c.expect-declared.ensures at (c.declare.ensures.fixed once))
