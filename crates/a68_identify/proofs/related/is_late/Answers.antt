use Rattle.std.proofs.Common.{◌∙◌, sym, ap}
use Rattle.a68_identify.proofs.Preceding.{late_where, never_late}
use Rattle.a68_identify.specs.Operators.{defines_sign}
use Rattle.a68_identify.proofs.Serving.{operands_there}
use Rattle.a68_identify.proofs.related.is_late.Goals as goal

pub any_related_to-requires-clause-parameters : goal.any_related_to-requires-clause-parameters
any_related_to-requires-clause-parameters c =
    operands_there c.args.tree.now c.args.modes.now c.args.of.now.of c.len-there.ensures.nodes c.requires.of c.args.later c.parameters_of-parameters.result.now c.parameters_of-parameters.ensures

pub returns-then-not-defines_sign : goal.returns-then-not-defines_sign
returns-then-not-defines_sign c =
    let tree = c.args.tree.now in
    never_late tree c.args.modes.now c.args.of.now.of c.args.before.now c.args.later (ap (λ s. defines_sign tree s c.args.later) (sym c.name_of-sign.ensures) ∙ sym c.defines_sign.ensures ∙ c.if-not-defines_sign.true)

pub returns : goal.returns
returns c =
    late_where c.args.tree.now c.args.modes.now c.args.of.now.of c.args.before.now c.args.later c.name_of-sign.result c.parameters_of-parameters.result.now c.in_ok-late.late c.name_of-sign.ensures
    (sym c.defines_sign.ensures ∙ c.if-not-defines_sign.false) c.parameters_of-parameters.ensures c.in_ok-late.ensures
