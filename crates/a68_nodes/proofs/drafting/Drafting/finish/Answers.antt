use Rattle.std.proofs.Common.{ap, ◌∙◌}
use Rattle.a68_nodes.specs.Views.{DraftState}
use Rattle.a68_nodes.proofs.Making.{final_built}
use Rattle.a68_nodes.proofs.drafting.Drafting.finish.Goals as goal

pub returns-clause-nodes : goal.returns-clause-nodes
returns-clause-nodes c = λ whole kind under b. ap (λ (s : DraftState). s.drafts) c.self.view_is ∙ (final_built whole kind under c.args.self b).0

pub returns-clause-spelled : goal.returns-clause-spelled
returns-clause-spelled c = λ whole kind under b. (final_built whole kind under c.args.self b).1
