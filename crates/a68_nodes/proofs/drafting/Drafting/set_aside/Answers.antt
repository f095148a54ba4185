use Rattle.std.proofs.Common.{ℕ, List, [], ◌∷◌, ◌++◌, length, ap, ◌∙◌, sym}
use Rattle.std.proofs.lemmas.List.{nil_from_length}
use Rattle.a68_nodes.specs.Stack.{node}
use Rattle.a68_nodes.specs.declared.draft.OpenLayer.{OpenLayer}
use Rattle.a68_nodes.specs.Views.{all_opened, inherited}
use Rattle.a68_nodes.proofs.Framing.{within_front}
use Rattle.a68_nodes.proofs.Seen.{opened_same, aside_seen, never_empty}
use Rattle.a68_nodes.proofs.drafting.Drafting.set_aside.Goals as goal

pub invariant_of-self-in_err-id : goal.invariant_of-self-in_err-id
invariant_of-self-in_err-id c = within_front (length c.self.inside.asides.items) c.pop.new.self.items c.in-Some.frame (rw c.in-Some.ensures.items at c.self.invariant)

pub keep_one-requires : goal.keep_one-requires
keep_one-requires c =
    let n = length c.self.inside.asides.items in
    c.kept.ensures.within n (rw c.deref.ensures.value (within_front n c.pop.new.self.items c.in-Some.frame (rw c.in-Some.ensures.items at c.self.invariant)))

pub invariant_of-self-in_err-kept : goal.invariant_of-self-in_err-kept
invariant_of-self-in_err-kept c =
    let n = length c.self.inside.asides.items in
    (opened_same c.self.inside.asides.items c.keep_one.new.asides.items c.pop.new.self.items c.in_err-kept.ensures.others
    (within_front n c.pop.new.self.items c.in-Some.frame (rw c.in-Some.ensures.items at c.self.invariant))).0

pub invariant_of-self-2 : goal.invariant_of-self-2
invariant_of-self-2 c =
    let n = length c.self.inside.asides.items in
    c.keep.ensures.within (length c.keep_one.new.asides.items)
    (opened_same c.self.inside.asides.items c.keep_one.new.asides.items c.pop.new.self.items c.in_ok-kept.ensures.others
    (within_front n c.pop.new.self.items c.in-Some.frame (rw c.in-Some.ensures.items at c.self.invariant))).0
    c.in_ok-kept.ensures.within

pub returns : goal.returns
returns c = record {
  built = λ whole l ls f other b.
      let i = c.self.inside in
      let n = length i.asides.items in
      aside_seen i.drafts.items i.frames.items i.pieces.items i.asides.items c.pop.new.self.items c.in-Some.frame c.in-Some.ensures.items
      c.close.new.drafts.items c.close.new.pieces.items c.in_ok-id.id c.unfinished-draft.result
      c.in_ok-id.ensures.added c.in_ok-id.ensures.left c.in_ok-id.ensures.number
      c.keep_one.new.asides.items
      (opened_same i.asides.items c.keep_one.new.asides.items c.pop.new.self.items c.in_ok-kept.ensures.others
      (within_front n c.pop.new.self.items c.in-Some.frame (rw c.in-Some.ensures.items at c.self.invariant))).1
      c.in_ok-kept.kept
      (λ p os e. c.in_ok-kept.ensures.is ∙ ap (λ (x : List ℕ). x ++ c.in_ok-id.id ∷ [])
      (c.kept.ensures.is i.asides.items ∙ ap (λ (fs : List OpenLayer). inherited (all_opened i.asides.items fs)) c.deref.ensures.value ∙ ap inherited e))
      c.keep.new.frames.items c.keep.ensures.is whole l ls f c.args.rest.now c.args.kind c.unfinished-draft.ensures other (rw (← c.self.view_is) at b);
}

pub returns-in_default : goal.returns-in_default
returns-in_default c = record {
  built = λ whole l ls f other b.
      let i = c.self.inside in
      absurd (never_empty i.drafts.items i.frames.items i.pieces.items i.asides.items whole (node f) (l ∷ ls) c.args.rest.now
      (nil_from_length i.frames.items (sym i.frames.ok.0 ∙ c.in_default.ensures.cases.0)) (rw (← c.self.view_is) at b));
}
