use Rattle.std.proofs.Common.{◌≡◌, length, arith, ap}
use Rattle.a68_acts.specs.Store.{Store}
use Rattle.a68_store.specs.Frames.{frames_of}
use Rattle.a68_store.proofs.Binding.{count-read}
use Rattle.a68_store.proofs.FramesLemmas.{length-frames_of}
use Rattle.a68_store.proofs.store.Store.slots.Goals as goal

pub index-requires : goal.index-requires
index-requires c =
    let inside = c.self.inside in
    let many : length (frames_of inside.slots.items inside.frames.items) ≡ length c.args.self.now.frames = ap (λ (s : Store). length s.frames) c.self.view_is in
    omega (arith, many, length-frames_of inside.slots.items inside.frames.items, c.requires, inside.frames.ok)

pub returns : goal.returns
returns c =
    let read = count-read c.self.inside c.args.self.now c.args.frame c.index.result.now c.self.view_is c.self.invariant c.requires c.index.ensures in
    rw read.1 read.2
