use Rattle.std.proofs.Common.{length, arith}
use Rattle.a68_nodes.proofs.Seen.{forget_seen}
use Rattle.a68_nodes.proofs.drafting.Drafting.forget.Goals as goal

pub invariant_of-self : goal.invariant_of-self
invariant_of-self c = c.keep.ensures.within (length c.self.inside.asides.items) c.self.invariant (omega arith, omega arith)

pub returns : goal.returns
returns c = record {
  built = λ whole rest l ls b.
      let i = c.self.inside in
      forget_seen i.drafts.items i.frames.items i.pieces.items i.asides.items c.keep.new.frames.items c.keep.ensures.is whole l ls rest (rw (← c.self.view_is) at b);
}
