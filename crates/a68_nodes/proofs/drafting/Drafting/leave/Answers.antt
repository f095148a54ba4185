use Rattle.std.proofs.Common.{length, ◌∷◌, sym, ◌∙◌}
use Rattle.std.proofs.lemmas.List.{nil_from_length}
use Rattle.a68_nodes.specs.Stack.{node}
use Rattle.a68_nodes.proofs.Framing.{within_front, within_last}
use Rattle.a68_nodes.proofs.Seen.{leave_seen, never_empty}
use Rattle.a68_nodes.proofs.drafting.Drafting.leave.Goals as goal

pub invariant_of-self : goal.invariant_of-self
invariant_of-self c =
    let n = length c.self.inside.asides.items in
    let i = rw c.in-Some.ensures.items at c.self.invariant in
    c.keep.ensures.within n (within_front n c.pop.new.self.items c.in-Some.frame i) (within_last n c.pop.new.self.items c.in-Some.frame i)

pub returns-in-Some : goal.returns-in-Some
returns-in-Some c = record {
  built = λ whole rest l ls f b.
      let i = c.self.inside in
      leave_seen i.drafts.items i.frames.items i.pieces.items i.asides.items c.pop.new.self.items c.in-Some.frame c.in-Some.ensures.items c.keep.new.frames.items c.keep.ensures.is whole l ls f rest (rw (← c.self.view_is) at b);
}

pub returns-in_default : goal.returns-in_default
returns-in_default c = record {
  built = λ whole rest l ls f b.
      let i = c.self.inside in
      absurd (never_empty i.drafts.items i.frames.items i.pieces.items i.asides.items whole (node f) (l ∷ ls) rest
      (nil_from_length i.frames.items (sym i.frames.ok.0 ∙ c.in_default.ensures.cases.0)) (rw (← c.self.view_is) at b));
}
