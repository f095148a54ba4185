use Rattle.std.proofs.Common.{subst}
use Rattle.a68_world.specs.Ending.{EndShown}
use Rattle.a68_world.proofs.Standing.{made_sound, made_is}
use Rattle.a68_world.proofs.world.World.start.Goals as goal

pub end_shown-end-requires-clause-rests : goal.end_shown-end-requires-clause-rests
end_shown-end-requires-clause-rests c = λ k resting. absurd (c.new-rests.ensures k resting.listed)

pub invariant_of-result : goal.invariant_of-result
invariant_of-result c =
    made_sound c.args.code c.args.fuel c.in-Ok.journal c.in-Ok.store c.in-Ok.seats c.in-Ok.kin c.new-passed.result c.new-rests.result c.in-Ok.joined c.in-Ok.rooms c.end_shown-end.result (record {
      items = c.in-Ok.ensures.empty;
      room = c.in-Ok.ensures.room;
      store_is = c.in-Ok.ensures.store;
      first = c.in-Ok.ensures.seats;
      kin_is = c.in-Ok.ensures.kin;
      unmarked = c.new-passed.ensures;
      none_rest = c.new-rests.ensures;
      end_is = subst (λ l. EndShown l c.in-Ok.store c.end_shown-end.result) c.deref.ensures.value c.end_shown-end.ensures;
    }) c.requires.valid c.requires.short c.requires.some_fuel c.requires.little_fuel c.in-Ok.ensures.joined c.in-Ok.ensures.enough

pub returns-in-Ok : goal.returns-in-Ok
returns-in-Ok c =
    made_is c.args.code c.args.fuel c.in-Ok.journal c.in-Ok.store c.in-Ok.seats c.in-Ok.kin c.new-passed.result c.new-rests.result c.in-Ok.joined c.in-Ok.rooms c.end_shown-end.result (record {
      items = c.in-Ok.ensures.empty;
      room = c.in-Ok.ensures.room;
      store_is = c.in-Ok.ensures.store;
      first = c.in-Ok.ensures.seats;
      kin_is = c.in-Ok.ensures.kin;
      unmarked = c.new-passed.ensures;
      none_rest = c.new-rests.ensures;
      end_is = subst (λ l. EndShown l c.in-Ok.store c.end_shown-end.result) c.deref.ensures.value c.end_shown-end.ensures;
    })
