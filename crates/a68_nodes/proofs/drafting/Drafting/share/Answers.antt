use Rattle.std.proofs.Common.{length}
use Rattle.std.proofs.lemmas.Result.{on_ok_weaker}
use Rattle.a68_nodes.proofs.Seen.{share_seen}
use Rattle.a68_nodes.proofs.drafting.Drafting.share.Goals as goal

pub add_parts-requires : goal.add_parts-requires
add_parts-requires c = rw c.deref-2.ensures.value (c.kept-kept.ensures.within (length c.self.inside.asides.items) (rw c.deref.ensures.value c.self.invariant))

pub returns : goal.returns
returns c = record {
  built =
      let i = c.self.inside in
      on_ok_weaker c.add_parts.result (λ e. λ whole rest l ls b.
      share_seen i.drafts.items i.frames.items i.pieces.items c.add_parts.new.pieces.items i.asides.items whole l ls rest
      (rw (c.deref-2.ensures.value, c.kept-kept.ensures.is, c.deref.ensures.value) at e) (rw (← c.self.view_is) at b)) c.add_parts.ensures;
}
