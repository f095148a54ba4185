use Rattle.std.proofs.Common.{length, take, drop, refl, sym, ◌∙◌}
use Rattle.std.proofs.lemmas.List.{nil_from_length}
use Rattle.a68_nodes.specs.Stack.{node}
use Rattle.a68_nodes.specs.Pieces.{signs_added}
use Rattle.a68_nodes.specs.Views.{views}
use Rattle.a68_nodes.proofs.Framing.{within_front}
use Rattle.a68_nodes.proofs.Seen.{jump_seen, never_empty}
use Rattle.a68_nodes.proofs.drafting.Drafting.wrap_jump.Goals as goal

pub invariant_of-self-in_err-close_within : goal.invariant_of-self-in_err-close_within
invariant_of-self-in_err-close_within c =
    let n = length c.self.inside.asides.items in
    c.close_within.ensures.within n (within_front n c.pop.new.self.items c.in-Some.frame (rw c.in-Some.ensures.items at c.self.invariant))

pub invariant_of-self-2 : goal.invariant_of-self-2
invariant_of-self-2 c =
    let n = length c.self.inside.asides.items in
    c.close_within.ensures.within n (within_front n c.pop.new.self.items c.in-Some.frame (rw c.in-Some.ensures.items at c.self.invariant))

pub returns : goal.returns
returns c = record {
  built = λ whole ls f b.
      let i = c.self.inside in
      let e = c.in_ok-close_within.ensures in
      jump_seen i.drafts.items i.frames.items i.pieces.items i.asides.items c.pop.new.self.items c.in-Some.frame c.in-Some.ensures.items
      c.close_within.new.drafts.items (take c.in-Some.frame.first i.pieces.items) (length (signs_added (views i.drafts.items) (drop c.in-Some.frame.first i.pieces.items))) c.unfinished-draft.result
      e.added refl refl c.close_within.new.pieces.items e.left c.close_within.new.frames.items e.is whole ls f c.args.rest.now c.unfinished-draft.ensures (rw (← c.self.view_is) at b);
}

pub returns-in_default : goal.returns-in_default
returns-in_default c = record {
  built = λ whole ls f b.
      let i = c.self.inside in
      absurd (never_empty i.drafts.items i.frames.items i.pieces.items i.asides.items whole (node f) (ls) c.args.rest.now
      (nil_from_length i.frames.items (sym i.frames.ok.0 ∙ c.in_default.ensures.cases.0)) (rw (← c.self.view_is) at b));
}
