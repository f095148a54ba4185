use Rattle.std.proofs.Common.{subst, sym}
use Rattle.a68_world.specs.Inside.{run_of}
use Rattle.a68_world.specs.Run.{Run}
use Rattle.a68_world.specs.Turns.{GoesOn, EndsAt}
use Rattle.a68_world.proofs.Kept.{ended_keep}
use Rattle.a68_world.proofs.world.World.end_with.Goals as goal

pub invariant_of-self : goal.invariant_of-self
invariant_of-self c = record {
  run = ended_keep (run_of c.self.inside) c.args.n c.args.end c.self.invariant.run
      (subst (λ (r : Run). GoesOn r) (sym c.self.view_is) c.requires.goes_on) (subst (λ (r : Run). EndsAt r c.args.n c.args.end) (sym c.self.view_is) c.requires.ends);
  room = c.self.invariant.room;
  store = c.self.invariant.store;
  seats = c.self.invariant.seats;
  passed = c.self.invariant.passed;
  rests = c.self.invariant.rests;
  kin = c.self.invariant.kin;
  joined = c.self.invariant.joined;
  enough = c.self.invariant.enough;
}
