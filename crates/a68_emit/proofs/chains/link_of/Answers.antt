use Rattle.std.proofs.Common.{sym, arith}
use Rattle.a68_emit.proofs.Linking.{choice_none}
use Rattle.a68_emit.proofs.chains.link_of.Goals as goal

pub returns-clause-tree : goal.returns-clause-tree
returns-clause-tree c = λ f. sym (choice_none c.args.program.now.of.now f c.args.place c.args.goal _ c.args.parts.now (λ e. absurd (omega arith)) (λ e. absurd (omega arith)))
