use Rattle.a68_ranges.proofs.Looking.{mode_word_found}
use Rattle.a68_ranges.proofs.tables.Ranges.mode_word.Goals as goal

pub returns : goal.returns
returns c = λ tree are.
    mode_word_found tree _ c.args.at c.args.name c.find.result (rw (← c.self.view_is) at are) (rw (← c.self.view_is) at c.requires) (c.find.ensures _ c.self.invariant.1.0)
