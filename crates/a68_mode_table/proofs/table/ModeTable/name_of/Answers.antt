use Rattle.a68_mode_table.proofs.Joining.{name_itself}
use Rattle.a68_mode_table.proofs.table.ModeTable.name_of.Goals as goal

pub grown-requires-clause-twin : goal.grown-requires-clause-twin
grown-requires-clause-twin c = rw c.len-itself.ensures.length (name_itself c.self.inside.modes c.self.invariant.sound c.args.of (rw c.self.view_is c.requires))
