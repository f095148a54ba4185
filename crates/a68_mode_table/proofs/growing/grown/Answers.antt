use Rattle.a68_mode_table.proofs.Filed.{filed, interned}
use Rattle.a68_mode_table.proofs.growing.grown.Goals as goal

pub returns-in-Ok-clause-table : goal.returns-in-Ok-clause-table
returns-in-Ok-clause-table c =
    rw (c.note.ensures, c.len-count.ensures.length, c.in_ok-reserve.ensures.items)
    (filed c.args.modes.now c.args.classes.now c.args.fixed.now.items c.requires.table c.args.shape c.requires.within c.requires.simple c.intern.new.modes c.in-Ok.id c.in-Ok.ensures.node
    c.requires.dims c.args.twin c.requires.twin c.len-there.ensures.nodes c.intern.new.classes c.in-Ok.ensures.kept)

pub returns-in-Ok-clause-interned : goal.returns-in-Ok-clause-interned
returns-in-Ok-clause-interned c =
    interned c.args.modes.now c.args.classes.now c.args.fixed.now.items c.requires.table c.args.shape c.requires.within c.requires.simple c.intern.new.modes c.in-Ok.id c.in-Ok.ensures.node
