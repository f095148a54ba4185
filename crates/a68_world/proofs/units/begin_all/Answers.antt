use Rattle.std.proofs.Common.{arith}
use Rattle.std.proofs.lemmas.List.{length-take-le}
use Rattle.a68_world.proofs.Beginning.{units_more}
use Rattle.a68_world.proofs.units.begin_all.Goals as goal

pub loop-i-preserved : goal.loop-i-preserved
loop-i-preserved c =
    units_more c.args.code.now c.args.chain.now c.args.entrances.now c.args.first c.loop-i.i c.loop-i.units.items c.push.new.self.items c.in_ok-unit.unit (omega (arith, c.loop-i-test.true)) c.loop-i.invariant
    c.in_ok-unit.ensures (length-take-le c.loop-i.i c.args.entrances.now (omega (arith, c.loop-i-test.true))) c.in_ok-push.ensures.items
