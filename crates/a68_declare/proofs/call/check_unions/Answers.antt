use Rattle.a68_declare.specs.Outcome.{wrong_union}
use Rattle.a68_declarers.specs.Numbers.{number_at}
use Rattle.a68_declare.proofs.call.check_unions.Goals as goal

pub returns-in-Some-clause-broken : goal.returns-in-Some-clause-broken
returns-in-Some-clause-broken c =
    rw (c.refused.ensures, c.place_of.ensures) (wrong_union c.args.raw.now (number_at c.args.numbers.now) c.in-Some.union c.requires.raw c.requires.well (rw c.in-Some.is at c.in_ok-wrong_union.ensures))
