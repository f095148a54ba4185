use Rattle.a68_ranges.proofs.Looking.{about_is}
use Rattle.a68_ranges.proofs.tables.Ranges.about.Goals as goal

pub returns-clause-ranges : goal.returns-clause-ranges
returns-clause-ranges c = λ tree are ranges lies.
    rw (← c.self.view_is) (about_is tree _ c.args.at c.about.result ranges (rw (← c.self.view_is) at are) (rw (← c.self.view_is) at c.requires) c.about.ensures.is lies)
