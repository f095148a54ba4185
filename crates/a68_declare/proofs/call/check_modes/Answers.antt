use Rattle.a68_declare.proofs.Rising.{all_formed}
use Rattle.a68_declare.specs.Outcome.{ill_formed}
use Rattle.a68_declarers.specs.Numbers.{number_at}
use Rattle.a68_declare.proofs.call.check_modes.Goals as goal

pub returns-in-None-clause-formed : goal.returns-in-None-clause-formed
returns-in-None-clause-formed c =
    all_formed c.args.tree.now c.args.raw.now (number_at c.args.numbers.now) c.len-there.ensures.nodes c.follow.ensures c.requires.raw.declared c.requires.ordered (rw c.in-None.is at c.in_ok-ill_definition.ensures)

pub returns-in-Some-clause-broken : goal.returns-in-Some-clause-broken
returns-in-Some-clause-broken c =
    rw (c.refused.ensures, c.place_of.ensures) (ill_formed c.args.raw.now (number_at c.args.numbers.now) c.in-Some.definition c.requires.raw (rw c.in-Some.is at c.in_ok-ill_definition.ensures))
