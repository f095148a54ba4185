use Rattle.std.proofs.Common.{◌≡◌, ◌∙◌, ◌∷◌, List, length, ap, sym, arith}
use Rattle.a68_acts.specs.Does.{did}
use Rattle.a68_acts.specs.Store.{Store, chain_of}
use Rattle.a68_acts.specs.declared.want.Reply.TheVariants as reply
use Rattle.a68_values.specs.declared.act.Act.TheVariants as act
use Rattle.a68_values.specs.declared.chain.Environ.{Environ}
use Rattle.a68_store.specs.Frames.{frames_of, links_of}
use Rattle.a68_store.proofs.Binding.{links-chain, links-linked}
use Rattle.a68_store.proofs.FramesLemmas.{length-frames_of}
use Rattle.a68_store.proofs.store.Store.enter.Goals as goal

pub chain_behind-requires-clause-linked : goal.chain_behind-requires-clause-linked
chain_behind-requires-clause-linked c = rw c.deref.ensures.value (links-linked c.self.inside c.self.invariant)

pub returns : goal.returns
returns c =
    let inside = c.self.inside in
    let frames = c.args.self.now.frames in
    let many : length (frames_of inside.slots.items inside.frames.items) ≡ length frames = ap (λ (s : Store). length s.frames) c.self.view_is in
    let number : c.len-frame.result ≡ length frames = omega (arith, many, length-frames_of inside.slots.items inside.frames.items, c.len-frame.ensures, inside.frames.ok) in
    let chains : chain_of (links_of c.deref.result.now) c.args.outer ≡ chain_of frames c.args.outer =
    ap (λ fs. chain_of (links_of fs) c.args.outer) c.deref.ensures.value ∙ links-chain inside c.args.self.now c.args.outer c.self.view_is in
    let chain : c.in_ok-chain.chain ≡ record { frame = length frames; scope = c.args.scope } ∷ chain_of frames c.args.outer =
    c.in_ok-chain.ensures
    ∙ ap (λ k. let e : Environ = record { frame = k; scope = c.args.scope } in e ∷ chain_of (links_of c.deref.result.now) c.args.outer) number
    ∙ ap (λ (l : List Environ). let e : Environ = record { frame = length frames; scope = c.args.scope } in e ∷ l) chains in
    c.in_ok-add_frame.ensures.ok ∙ ap (λ (l : List Environ). did (act.Enter (length frames)) (reply.Frame l) c.add_frame.new.self) (sym chain)
