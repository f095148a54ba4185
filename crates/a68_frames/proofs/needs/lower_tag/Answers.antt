use Rattle.std.proofs.Common.{None, arith}
use Rattle.std.specs.Prelude.{slice_index_or}
use Rattle.a68_ranges.proofs.Taking.{read}
use Rattle.a68_frames.specs.Tables.{TextUsesTagAt}
use Rattle.a68_frames.proofs.Finding.{placed}
use Rattle.a68_frames.proofs.Needing.{lowered_none, unused, lowered_slot, unused_slot, lowered_tag}
use Rattle.a68_frames.proofs.needs.lower_tag.Goals as goal

pub returns-in_default : goal.returns-in_default
returns-in_default c = lowered_none (TextUsesTagAt c.args.tree.now c.args.at) c.args.needs.now (λ range hops u. unused c.args.tree.now c.args.at range hops c.in_default.ensures u)

pub returns-in_default-find : goal.returns-in_default-find
returns-in_default-find c =
    let tree = c.args.tree.now in
    let chain = c.args.chains.now in
    let entries = c.args.slots.now.places.entries in
    let at = c.args.at in
    let d = c.in-Some.definition in
    let nest = slice_index_or chain.about at None in
    let tells = c.requires.chains.tells at nest (read chain.about at None (omega (arith, c.requires.chains.long, c.requires.there))) in
    let place = placed tree entries c.args.slots.now.counts.items c.args.slots.now.makes.items c.requires.slots in
    let slot = unused_slot tree at d chain.frames entries (λ range. place range d) nest tells c.find.result c.args.needs.now c.in_default-find.is (rw c.about-start.ensures.is at c.find.ensures) in
    lowered_tag tree c.requires.ranges.once at d c.args.needs.now c.args.needs.now c.in-Some.ensures.0 c.in-Some.ensures.1 slot

pub returns : goal.returns
returns c =
    let tree = c.args.tree.now in
    let chain = c.args.chains.now in
    let entries = c.args.slots.now.places.entries in
    let at = c.args.at in
    let d = c.in-Some.definition in
    let nest = slice_index_or chain.about at None in
    let tells = c.requires.chains.tells at nest (read chain.about at None (omega (arith, c.requires.chains.long, c.requires.there))) in
    let place = placed tree entries c.args.slots.now.counts.items c.args.slots.now.makes.items c.requires.slots in
    let slot = lowered_slot tree at d chain.frames entries (λ range. place range d) nest tells c.args.outlook.now.texts c.requires.texts c.in-Some-find.step c.args.needs.now c.lower.new.needs (rw c.about-start.ensures.is at c.in-Some-find.ensures) (rw c.about-start.ensures.is at c.lower.ensures) in
    lowered_tag tree c.requires.ranges.once at d c.args.needs.now c.lower.new.needs c.in-Some.ensures.0 c.in-Some.ensures.1 slot
