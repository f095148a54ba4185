use Rattle.std.proofs.Common.{length, sym, ◌∙◌}
use Rattle.a68_nodes.proofs.Seen.{within_popped, unbracket_popped}
use Rattle.a68_nodes.proofs.drafting.Drafting.unbracket.Goals as goal

pub invariant_of-self : goal.invariant_of-self
invariant_of-self c = within_popped (length c.self.inside.asides.items) c.self.inside.frames.items c.pop.new.self.items c.pop.result c.pop.ensures.items c.self.invariant

pub returns : goal.returns
returns c = record {
  built = λ whole rest b l ls f h.
      let i = c.self.inside in
      unbracket_popped i.drafts.items i.frames.items i.pieces.items i.asides.items c.pop.new.self.items c.pop.result c.pop.ensures.items
      (λ e. let p = rw e at c.pop.ensures.cases in sym i.frames.ok.0 ∙ p.0) whole b l ls f rest (rw (← c.self.view_is) at h);
}
