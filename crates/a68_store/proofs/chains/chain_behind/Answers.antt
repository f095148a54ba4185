use Rattle.std.proofs.Common.{ℕ, zero, suc, ◌≡◌, ◌∙◌, ◌<◌, ◌++◌, ◌∷◌, [], List, ap, sym, arith, append_assoc}
use Rattle.std.specs.Prelude.{Some, slice_get}
use Rattle.a68_acts.specs.Store as store
use Rattle.a68_acts.specs.Store.{chain_of}
use Rattle.a68_store.specs.Frames.{frame_of, links_of, AreLinked}
use Rattle.a68_store.proofs.FramesLemmas.{chain-inner, chain-outermost}
use Rattle.a68_store.proofs.chains.chain_behind.Goals as goal
use Rattle.a68_values.specs.declared.chain.Environ.{Environ}

outermost : (items : List Environ) (fs : List store.Frame) (at : ℕ) (frame : store.Frame) → AreLinked fs → slice_get fs at ≡ Some frame → at ≡ 0
    → items ++ record { frame = at; scope = frame.scope } ∷ [] ≡ items ++ chain_of fs at
outermost items fs zero frame linked is zero_is = ap (λ l. items ++ l) (sym (chain-outermost fs frame linked is))
outermost items fs (suc at) frame linked is zero_is = absurd (omega arith)

pub loop-items-preserved : goal.loop-items-preserved
loop-items-preserved c =
    let frames = links_of c.args.frames.now in
    let at = c.loop-items.at in
    let frame = c.frame_at-frame.result in
    let this : Environ = record { frame = at; scope = frame.scope } in
    let is = c.frame_at-frame.ensures in
    let pos : 0 < at = omega (arith, c.if-at-eq0.false) in
    record {
      there = omega (arith, c.requires.linked at (frame_of [] frame) is pos, c.loop-items.invariant.there);
      whole =
          ap (λ (l : List Environ). l ++ chain_of frames frame.outer) c.in_ok-push-2.ensures.items
          ∙ append_assoc c.loop-items.items.items (this ∷ []) (chain_of frames frame.outer)
          ∙ ap (λ l. c.loop-items.items.items ++ l) (sym (chain-inner frames at (frame_of [] frame) c.requires.linked is pos))
          ∙ c.loop-items.invariant.whole;
    }

pub loop-items-smaller : goal.loop-items-smaller
loop-items-smaller c =
    let frame = c.frame_at-frame.result in
    let is = c.frame_at-frame.ensures in
    c.requires.linked c.loop-items.at (frame_of [] frame) is (omega (arith, c.if-at-eq0.false))

pub returns : goal.returns
returns c =
    let frames = links_of c.args.frames.now in
    let frame = c.frame_at-frame.result in
    let is = c.frame_at-frame.ensures in
    c.outwards.ensures ∙ c.in_ok-push-2.ensures.items
    ∙ outermost c.loop-items.items.items frames c.loop-items.at (frame_of [] frame) c.requires.linked is c.if-at-eq0.true
    ∙ c.loop-items.invariant.whole
