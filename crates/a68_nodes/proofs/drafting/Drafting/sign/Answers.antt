use Rattle.a68_nodes.proofs.Seen.{sign_seen}
use Rattle.a68_nodes.proofs.drafting.Drafting.sign.Goals as goal

pub returns : goal.returns
returns c = record {
  built = λ whole l ls t b.
      let i = c.self.inside in
      sign_seen i.drafts.items i.frames.items i.pieces.items c.push.new.self.items i.asides.items whole l ls t c.args.rest.now c.in_ok-push.ensures.items (rw (← c.self.view_is) at b);
}
