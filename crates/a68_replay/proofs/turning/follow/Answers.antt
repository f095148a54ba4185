use Rattle.std.proofs.Common.{◌≤◌, arith}
use Rattle.a68_replay.proofs.Picking.{IsAt, at_anew, at_next, at_own, at_still, follows_no_more, has_fuel}
use Rattle.a68_replay.proofs.turning.follow.Goals as goal
use Rattle.a68_replay.proofs.turning.follow.Goals.{then-until-at, else-until-at}

pub loop-at-preserved-then-next-at : goal.loop-at-preserved-then-next-at
loop-at-preserved-then-next-at c =
    let here : IsAt c.args.world.now c.args.picks.now c.loop-at.at c.if-until-at.until c.loop-at.world × (c.loop-at.at ≤ c.if-until-at.until) =
    elim c.if-until-at.branch [
      | then-until-at w ↦ rw w.until-is
          (at_anew c.args.world.now c.args.picks.now c.loop-at.at c.loop-at.until w.own_until-until.result c.loop-at.world c.loop-at.invariant w.own_until-until.ensures, w.own_until-until.ensures.low)
      | else-until-at w ↦ rw w.until-is (c.loop-at.invariant, omega (arith, w.if-until-at.false))
    ] in
    at_own c.args.world.now c.args.picks.now c.loop-at.at c.if-until-at.until c.in_ok-next.next c.loop-at.world c.go_own.new.world here.0 here.1 c.in_ok-next.ensures

pub turn_picked-requires-clause-fuel : goal.turn_picked-requires-clause-fuel
turn_picked-requires-clause-fuel c =
    let here : IsAt c.args.world.now c.args.picks.now c.loop-at.at c.if-until-at.until c.loop-at.world × (c.loop-at.at ≤ c.if-until-at.until) =
    elim c.if-until-at.branch [
      | then-until-at w ↦ rw w.until-is
          (at_anew c.args.world.now c.args.picks.now c.loop-at.at c.loop-at.until w.own_until-until.result c.loop-at.world c.loop-at.invariant w.own_until-until.ensures, w.own_until-until.ensures.low)
      | else-until-at w ↦ rw w.until-is (c.loop-at.invariant, omega (arith, w.if-until-at.false))
    ] in
    let settled = at_still c.args.world.now c.args.picks.now c.loop-at.at c.if-until-at.until c.in_ok-next.next c.loop-at.world c.go_own.new.world here.0 here.1 c.in_ok-next.ensures (omega (arith, c.if-next-at.false)) in
    has_fuel c.args.world.now c.args.picks.now c.loop-at.at c.go_own.new.world settled.follows c.requires.begins (omega (arith, c.loop-at-test.true)) c.requires.few

pub returns-then-not-turned : goal.returns-then-not-turned
returns-then-not-turned c =
    let here : IsAt c.args.world.now c.args.picks.now c.loop-at.at c.if-until-at.until c.loop-at.world × (c.loop-at.at ≤ c.if-until-at.until) =
    elim c.if-until-at.branch [
      | then-until-at w ↦ rw w.until-is
          (at_anew c.args.world.now c.args.picks.now c.loop-at.at c.loop-at.until w.own_until-until.result c.loop-at.world c.loop-at.invariant w.own_until-until.ensures, w.own_until-until.ensures.low)
      | else-until-at w ↦ rw w.until-is (c.loop-at.invariant, omega (arith, w.if-until-at.false))
    ] in
    let settled = at_still c.args.world.now c.args.picks.now c.loop-at.at c.if-until-at.until c.in_ok-next.next c.loop-at.world c.go_own.new.world here.0 here.1 c.in_ok-next.ensures (omega (arith, c.if-next-at.false)) in
    follows_no_more c.args.world.now c.args.picks.now c.loop-at.at c.go_own.new.world settled.follows c.turn_picked.new.world c.in_ok-turned.turned c.if-not-turned.true (omega (arith, c.loop-at-test.true)) c.in_ok-turned.ensures

pub loop-at-preserved : goal.loop-at-preserved
loop-at-preserved c =
    let here : IsAt c.args.world.now c.args.picks.now c.loop-at.at c.if-until-at.until c.loop-at.world × (c.loop-at.at ≤ c.if-until-at.until) =
    elim c.if-until-at.branch [
      | then-until-at w ↦ rw w.until-is
          (at_anew c.args.world.now c.args.picks.now c.loop-at.at c.loop-at.until w.own_until-until.result c.loop-at.world c.loop-at.invariant w.own_until-until.ensures, w.own_until-until.ensures.low)
      | else-until-at w ↦ rw w.until-is (c.loop-at.invariant, omega (arith, w.if-until-at.false))
    ] in
    let settled = at_still c.args.world.now c.args.picks.now c.loop-at.at c.if-until-at.until c.in_ok-next.next c.loop-at.world c.go_own.new.world here.0 here.1 c.in_ok-next.ensures (omega (arith, c.if-next-at.false)) in
    at_next c.args.world.now c.args.picks.now c.loop-at.at c.if-until-at.until c.go_own.new.world c.turn_picked.new.world c.in_ok-turned.turned settled c.if-not-turned.false (omega (arith, c.loop-at-test.true)) c.in_ok-turned.ensures
