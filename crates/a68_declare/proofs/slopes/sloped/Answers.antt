use Rattle.std.proofs.Common.{List, ℕ, subst, sym}
use Rattle.a68_declare.proofs.Falling.{none_without}
use Rattle.a68_declare.specs.Slopes.{NoneRises}
use Rattle.a68_declare.proofs.slopes.sloped.Goals as goal

pub returns-clause-slope : goal.returns-clause-slope
returns-clause-slope c =
    let rows = c.args.rows.items in
    record {
      closed = c.requires;
      gentle = subst (λ (heights : List ℕ). NoneRises rows heights) (sym c.new.ensures.items) (none_without rows);
    }
