use Rattle.std.proofs.Common.{refl, subst, Option, ℕ}
use Rattle.a68_ranges.proofs.Repeating.{first_twice}
use Rattle.a68_ranges.specs.Indexed.{IsLeast}
use Rattle.a68_ranges.specs.Twice.{IsTwice}
use Rattle.a68_ranges.proofs.build.ranges.Goals as goal

pub returns-in-Some-clause-refused : goal.returns-in-Some-clause-refused
returns-in-Some-clause-refused c =
    let tree = c.args.tree.now in
    record {
      id = c.in-Some.id;
      rule_is = refl;
      place_is = c.place_of.ensures;
      first = first_twice tree c.in-Some.id (subst (λ (o : Option ℕ). IsLeast tree (IsTwice tree) o) c.in-Some.is c.in_ok-indices.ensures.late);
    }
