use Rattle.a68_mode_table.proofs.Numbers.{number_filed, number_interned, number_within}
use Rattle.a68_mode_table.proofs.growing.grown_number.Goals as goal

pub intern-requires-clause-within : goal.intern-requires-clause-within
intern-requires-clause-within c = rw c.in_ok-members.ensures (number_within c.args.modes.now c.requires.sound)

pub returns-in-Ok-clause-table : goal.returns-in-Ok-clause-table
returns-in-Ok-clause-table c =
    rw (c.note.ensures, c.len-count.ensures.length, c.in_ok-reserve.ensures.items)
    (number_filed c.args.modes.now c.args.classes.now c.args.fixed.now.items c.requires c.intern.new.modes c.in-Ok.id (rw c.in_ok-members.ensures at c.in-Ok.ensures.node)
    c.len-there.ensures.nodes c.intern.new.classes c.in-Ok.ensures.kept)

pub returns-in-Ok-clause-interned : goal.returns-in-Ok-clause-interned
returns-in-Ok-clause-interned c =
    number_interned c.args.modes.now c.args.classes.now c.args.fixed.now.items c.requires c.intern.new.modes c.in-Ok.id (rw c.in_ok-members.ensures at c.in-Ok.ensures.node)
