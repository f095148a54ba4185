use Rattle.a68_mode_table.proofs.Joining.{procedure_itself}
use Rattle.a68_mode_table.proofs.table.ModeTable.procedure.Goals as goal

pub grown-requires-clause-twin : goal.grown-requires-clause-twin
grown-requires-clause-twin c =
    rw c.len-itself.ensures.length (procedure_itself c.self.inside.modes c.self.invariant.sound c.args.params c.args.of (rw c.self.view_is c.requires.params) (rw c.self.view_is c.requires.of))
