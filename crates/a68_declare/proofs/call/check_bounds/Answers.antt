use Rattle.std.proofs.Common.{◌∙◌, ap, List, ℕ}
use Rattle.a68_declare.specs.Outcome.{wrong_bounds}
use Rattle.a68_declarers.specs.Bounds.{bracket_at}
use Rattle.a68_declarers.specs.Numbers.{number_at}
use Rattle.a68_declare.proofs.call.check_bounds.Goals as goal

pub returns-in-Some-clause-broken : goal.returns-in-Some-clause-broken
returns-in-Some-clause-broken c =
    let place = c.bracket.ensures ∙ ap (λ (starts : List ℕ). bracket_at c.args.tree.now starts c.in-Some.declarer) c.starts.ensures in
    rw (c.refused.ensures, place) (wrong_bounds c.args.raw.now (number_at c.args.numbers.now) c.in-Some.declarer c.requires.raw c.requires.well c.requires.unions
    (rw c.in-Some.is at c.in_ok-wrong_bounds.ensures.least) (rw c.in-Some.is at c.in_ok-wrong_bounds.ensures.first))
