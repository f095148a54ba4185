use Rattle.std.proofs.Common.{◌-◌, ◌<◌, length, arith}
use Rattle.a68_ranges.proofs.Taking.{read}
use Rattle.a68_ranges.proofs.Parenting.{have_none, have_more}
use Rattle.a68_ranges.proofs.nests.note_parts.Goals as goal

pub places-init : goal.places-init
places-init c = record { within = omega arith; have = have_none c.args.parts.now c.args.node c.args.parents.now.items }

pub places-preserved : goal.places-preserved
places-preserved c =
    let j = c.places.place - 1 in
    let have = c.places.invariant.have in
    let within = c.places.invariant.within in
    let long = have.long in
    let low : j < length c.args.parts.now = omega arith in
    let below = c.requires j 0 low in
    record {
      within = omega arith;
      have = have_more c.args.parts.now c.args.node c.places.place j _ c.args.parents.now.items c.places.parents.items (omega arith) (read c.args.parts.now j 0 low) (omega arith) have;
    }
