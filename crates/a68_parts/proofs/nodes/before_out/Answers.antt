use Rattle.std.proofs.Common.{◌∙◌, ap, length, sym, ℕ, take}
use Rattle.a68_parts.proofs.Choosing.{before_some, before_none, between_take}
use Rattle.a68_parts.proofs.nodes.before_out.Goals as goal

pub returns-in-Some-clause-parts : goal.returns-in-Some-clause-parts
returns-in-Some-clause-parts c =
    ap (λ (n : ℕ). take n c.args.parts.now) c.saturating_sub.ensures ∙ before_some c.args.program.now c.args.parts.now c.in-Some.field-0 (sym c.in-Some.ensures.out)

pub returns-in-Some-clause-between : goal.returns-in-Some-clause-between
returns-in-Some-clause-between c = between_take c.args.id (length c.args.program.now.tree.nodes) c.saturating_sub.result c.args.parts.now c.requires

pub returns-in-None-clause-parts : goal.returns-in-None-clause-parts
returns-in-None-clause-parts c = before_none c.args.program.now c.args.parts.now (sym c.in-None.ensures.out)
