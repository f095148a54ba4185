use Rattle.a68_frames.proofs.Slotting.{ranges_more}
use Rattle.a68_frames.proofs.slots.add_range.Goals as goal

pub returns : goal.returns
returns c =
    rw (c.in_ok-push.ensures.items, c.in_ok-push-2.ensures.items)
    (ranges_more c.args.tree.now c.args.range c.in_ok-count.count c.declared.result.now c.args.slots.now.places.entries c.note_slots.new.places.entries c.args.slots.now.counts.items c.args.slots.now.makes.items c.makes.result
    c.requires.before (c.declared.ensures c.args.tree.now c.requires.ranges) c.in_ok-count.ensures.count c.in_ok-count.ensures.places c.in_ok-count.ensures.others (rw (← c.kind_of.ensures) c.makes.ensures))
