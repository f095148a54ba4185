use Rattle.std.proofs.Common.{◌≡◌, ◌<◌, ◌*◌, length, arith}
use Rattle.a68_equiv.proofs.Keeping.{key_noted}
use Rattle.std.proofs.Math.Seq.{take-length}
use Rattle.a68_equiv.proofs.keys.classes_by_key.Goals as goal

pub loop-i-preserved : goal.loop-i-preserved
loop-i-preserved c =
    let lt : c.loop-i.i < 2 * length c.args.modes.now = omega arith in
    key_noted c.args.modes.now c.len-i-end.ensures.nodes c.args.classes.now c.requires.exact c.requires.low c.requires.own c.loop-i.table.entries c.numbered.new.table.entries c.loop-i.i c.in_ok-numbered.field-0 c.in_ok-key.key lt c.loop-i.invariant c.in_ok-key.ensures
    (record { number = c.in_ok-numbered.ensures.number; here = c.in_ok-numbered.ensures.here; others = c.in_ok-numbered.ensures.others })

pub returns : goal.returns
returns c =
    let all : c.loop-i.i ≡ 2 * length c.args.modes.now = omega arith in
    let long : length c.args.classes.now ≡ 2 * length c.args.modes.now = c.requires.exact.long in
    rw (all, ← long, take-length, long) at c.loop-i.invariant
