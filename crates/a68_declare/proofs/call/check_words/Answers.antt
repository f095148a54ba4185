use Rattle.std.proofs.Common.{arith}
use Rattle.a68_declare.specs.Outcome.{undefined, too_many}
use Rattle.a68_declare.proofs.call.check_words.Goals as goal

pub returns-in-Some-clause-broken : goal.returns-in-Some-clause-broken
returns-in-Some-clause-broken c = rw (c.refused.ensures, c.place_of.ensures) (undefined c.in-Some.word c.in-Some.ensures)

pub returns-then-count-gt-MOST_DECLARERS-clause-broken : goal.returns-then-count-gt-MOST_DECLARERS-clause-broken
returns-then-count-gt-MOST_DECLARERS-clause-broken c =
    rw c.refused-then-count-gt-MOST_DECLARERS.ensures (too_many c.crowded.result c.in_default.ensures (let n = c.count.ensures.is in omega arith) c.crowded.ensures)
