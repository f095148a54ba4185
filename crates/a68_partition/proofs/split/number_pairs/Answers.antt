use Rattle.std.proofs.Common.{◌≡◌, refl, arith, length, subst}
use Rattle.a68_partition.specs.Rounds.{at_key, SoFar}
use Rattle.a68_partition.proofs.Numbering.{more}
use Rattle.a68_partition.proofs.Splitting.{PairKey}
use Rattle.a68_partition.proofs.split.number_pairs.Goals as goal

pub returns : goal.returns
returns c =
    let all : c.loop-i.i ≡ length c.args.heads.now = omega arith in
    subst (SoFar (PairKey c.args.heads.now c.args.classes.now) c.loop-i.table.entries c.loop-i.next.items) all c.loop-i.invariant

pub loop-i-preserved : goal.loop-i-preserved
loop-i-preserved c =
    rw c.in_ok-push.ensures.items (more (PairKey c.args.heads.now c.args.classes.now) c.loop-i.table.entries c.numbered.new.table.entries c.loop-i.next.items c.loop-i.i c.in_ok-first.first c.in_ok-key.key c.loop-i.invariant c.in_ok-key.ensures.items c.in_ok-first.ensures.here c.in_ok-first.ensures.others (at_key c.loop-i.table.entries c.in_ok-key.key.items) refl c.in_ok-first.ensures.number)
