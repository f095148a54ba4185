use Rattle.a68_frames.proofs.Slotting.{are_made}
use Rattle.a68_frames.proofs.Finding.{place_there}
use Rattle.a68_frames.proofs.Needing.{need_is}
use Rattle.a68_frames.proofs.build.frames.Goals as goal

pub chains_of-requires-clause-makes : goal.chains_of-requires-clause-makes
chains_of-requires-clause-makes c =
    rw c.deref.ensures.value (are_made c.args.tree.now c.in_ok-slots.slots.places.entries c.in_ok-slots.slots.counts.items c.in_ok-slots.slots.makes.items c.in_ok-slots.ensures)

pub needs_of-requires-clause-views : goal.needs_of-requires-clause-views
needs_of-requires-clause-views c =
    let slots = c.in_ok-slots.slots in
    c.in_ok-outlook.ensures.views slots.places.entries (place_there c.args.tree.now slots.places.entries slots.counts.items slots.makes.items c.in_ok-slots.ensures)

pub invariant_of-result : goal.invariant_of-result
invariant_of-result c =
    let slots = c.in_ok-slots.slots in
    c.in_ok-outlook.ensures.views slots.places.entries (place_there c.args.tree.now slots.places.entries slots.counts.items slots.makes.items c.in_ok-slots.ensures)

pub returns : goal.returns
returns c = record {
  slots = c.in_ok-slots.ensures;
  chain = c.in_ok-chains.ensures;
  texts = c.in_ok-outlook.ensures.texts;
  counted = c.in_ok-needs.ensures.long;
  needs = λ text need is form. need_is c.args.tree.now text need form (c.in_ok-needs.ensures.each text need is);
}
