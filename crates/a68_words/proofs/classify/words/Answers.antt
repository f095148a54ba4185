use Rattle.std.proofs.Common.{arith}
use Rattle.std.proofs.lemmas.Grind.{elements}
use Rattle.a68_words.proofs.Answering.{outline_is, symbol_within, is_refused, is_classed}
use Rattle.a68_words.proofs.classify.words.Goals as goal

pub refused-requires : goal.refused-requires
refused-requires c =
    let e = outline_is c.args.symbols.now c.in_ok-definitions.definitions c.in_ok-roles.roles.items c.in_ok-names.names.items c.in_ok-definitions.ensures c.in_ok-roles.ensures.roles c.in_ok-names.ensures in
    symbol_within c.args.symbols.now c.in_ok-definitions.definitions c.in-Some.fault e c.in-Some.ensures

pub returns-in-Some : goal.returns-in-Some
returns-in-Some c =
    let e = outline_is c.args.symbols.now c.in_ok-definitions.definitions c.in_ok-roles.roles.items c.in_ok-names.names.items c.in_ok-definitions.ensures c.in_ok-roles.ensures.roles c.in_ok-names.ensures in
    rw c.refused.ensures.2 (is_refused c.args.symbols.now c.in_ok-definitions.definitions c.in-Some.fault c.refused.ensures.0 e c.in-Some.ensures c.refused.ensures.1)

pub returns : goal.returns
returns c =
    let e = outline_is c.args.symbols.now c.in_ok-definitions.definitions c.in_ok-roles.roles.items c.in_ok-names.names.items c.in_ok-definitions.ensures c.in_ok-roles.ensures.roles c.in_ok-names.ensures in
    is_classed c.args.symbols.now c.in_ok-definitions.definitions c.in_ok-classes-in-None.classes.items e c.in_ok-classes-in-None.ensures c.in-None.ensures

pub new-requires-clause-same : goal.new-requires-clause-same
new-requires-clause-same c = grind (arith, elements)
