use Rattle.a68_notes.proofs.Applying.{is_value, is_way}
use Rattle.a68_notes.proofs.applied.find_applied.Goals as goal

pub returns-in_default-clause-definition : goal.returns-in_default-clause-definition
returns-in_default-clause-definition c =
    is_value c.args.tree.now c.args.tags.now c.args.node c.args.found c.args.kind _ c.in_default.not-Declarer c.applied_value.ensures.definition

pub returns-in_default-clause-step : goal.returns-in_default-clause-step
returns-in_default-clause-step c =
    is_way c.args.tree.now c.args.node c.args.kind _ _ c.in_default.not-Declarer c.applied_value.ensures.step
