use Rattle.std.proofs.Common.{◌≤◌, length, sym}
use Rattle.a68_declarers.proofs.There.{parts_read}
use Rattle.a68_definitions.proofs.Tagging.{parts_past}
use Rattle.a68_definitions.proofs.reading.parts_of.Goals as goal

pub returns-then-id-len-clause-is : goal.returns-then-id-len-clause-is
returns-then-id-len-clause-is c = sym (parts_read c.args.tree.now c.args.id c.parts.result.now c.parts.ensures.is)

pub returns-else-id-len-clause-is : goal.returns-else-id-len-clause-is
returns-else-id-len-clause-is c =
    let past : length c.args.tree.now.nodes ≤ c.args.id = rw (← c.len.ensures) c.if-id-len.false in
    sym (parts_past c.args.tree.now c.args.id past)
