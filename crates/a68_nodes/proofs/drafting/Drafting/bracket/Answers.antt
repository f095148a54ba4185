use Rattle.std.proofs.Common.{length, refl, ◌∙◌}
use Rattle.std.proofs.lemmas.Result.{on_ok_weaker}
use Rattle.a68_nodes.proofs.Seen.{bracket_seen}
use Rattle.a68_nodes.proofs.drafting.Drafting.bracket.Goals as goal

pub invariant_of-self : goal.invariant_of-self
invariant_of-self c = c.open.ensures.within (length c.self.inside.asides.items) c.self.invariant

pub returns : goal.returns
returns c = record {
  built =
      let i = c.self.inside in
      on_ok_weaker c.open.result (λ e. λ whole ls d b.
      bracket_seen i.drafts.items i.frames.items i.pieces.items i.asides.items c.len.result (length c.args.rest.now) c.open.new.frames.items e (c.len.ensures ∙ i.pieces.ok.0)
      whole ls d c.args.rest.now refl (rw (← c.self.view_is) at b)) c.open.ensures.is;
}
