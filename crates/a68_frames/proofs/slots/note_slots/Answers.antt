use Rattle.std.proofs.Common.{◌≡◌, length, arith}
use Rattle.std.proofs.Math.Seq.{take-length}
use Rattle.a68_ranges.proofs.Taking.{read}
use Rattle.a68_frames.proofs.Slotting.{slotted_more, none_slotted}
use Rattle.a68_frames.proofs.slots.note_slots.Goals as goal

pub loop-id-init : goal.loop-id-init
loop-id-init c = none_slotted c.args.range c.args.places.now.entries c.requires

pub loop-id-preserved : goal.loop-id-preserved
loop-id-preserved c =
    let list = c.args.list.now in
    let i = c.loop-id.id-index in
    slotted_more c.args.tree.now c.args.range list i _ c.args.places.now.entries c.loop-id.places.entries c.note_slot.new.places.entries c.loop-id.slot c.in_ok-next.next (read list i 0 (omega arith)) c.loop-id.invariant c.in_ok-next.ensures

pub returns-clause-count : goal.returns-clause-count
returns-clause-count c =
    let all : c.loop-id.id-index ≡ length c.args.list.now = omega arith in
    let s = rw (all, take-length) at c.loop-id.invariant in
    s.count

pub returns-clause-places : goal.returns-clause-places
returns-clause-places c =
    let all : c.loop-id.id-index ≡ length c.args.list.now = omega arith in
    let s = rw (all, take-length) at c.loop-id.invariant in
    s.places

pub returns-clause-others : goal.returns-clause-others
returns-clause-others c = c.loop-id.invariant.others
