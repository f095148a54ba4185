use Rattle.a68_world.proofs.Behind.{now}
use Rattle.a68_world.proofs.RestKept.{rest_turns}
use Rattle.a68_world.proofs.Standing.{few_seats, able_first, able_exactly, none_from}
use Rattle.a68_world.proofs.world.World.next.Goals as goal

pub next_turn-requires : goal.next_turn-requires
next_turn-requires c =
    let s = c.self.inside in
    record {
      few = rw c.deref.ensures.value (few_seats s c.self.invariant);
      rests = rw c.deref.ensures.value (rest_turns s.code (now s).strands s.seats.items s.store s.rests c.self.invariant.seats c.self.invariant.rests);
    }

pub returns-clause-first : goal.returns-clause-first
returns-clause-first c =
    let none = none_from c.self.inside.end c.is_some.result c.is_some.ensures c.if-is_some.false in
    rw (← c.self.view_is) (able_first c.self.inside c.self.invariant c.args.after c.next_turn.result none (rw c.deref.ensures.value at c.next_turn.ensures.first))

pub returns-clause-none : goal.returns-clause-none
returns-clause-none c =
    let none = none_from c.self.inside.end c.is_some.result c.is_some.ensures c.if-is_some.false in
    rw (← c.self.view_is) (able_exactly c.self.inside c.self.invariant c.args.after c.next_turn.result none (rw c.deref.ensures.value at c.next_turn.ensures.first)
    (rw c.deref.ensures.value at c.next_turn.ensures.none))
