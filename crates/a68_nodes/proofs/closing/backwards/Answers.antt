use Rattle.std.proofs.Common.{ℕ, ◌++◌, ◌∷◌, [], sym, ap, ◌∙◌}
use Rattle.a68_nodes.proofs.Backwards.{part_done, sign_done, one_draft, draft_count}
use Rattle.a68_nodes.proofs.closing.backwards.Goals as goal

pub loop-piece-preserved : goal.loop-piece-preserved
loop-piece-preserved c =
    let ids = c.loop-piece.ids.items in
    sign_done _ _ _ _ _ _ c.loop-piece.invariant _ _ c.in-Sign.before c.in-Sign.after _ _
    (rw (← c.in-Sign.is) c.in-Some.ensures.0) c.in-Some.ensures.1 c.new.ensures.items (one_draft _ _ _ c.in_ok-push-in-Sign-2.ensures.items)
    (c.in_ok-push-in-Sign.ensures.items ∙ ap (λ (n : ℕ). ids ++ n ∷ []) (c.len.ensures ∙ c.loop-piece.drafts.ok.0 ∙ sym (draft_count c.loop-piece.drafts.items)))

pub loop-piece-preserved-in-Continue-1 : goal.loop-piece-preserved-in-Continue-1
loop-piece-preserved-in-Continue-1 c = part_done _ _ _ _ _ _ c.loop-piece.invariant _ _ c.in-Part.id (rw (← c.in-Part.is) c.in-Some.ensures.0) c.in-Some.ensures.1 c.in_ok-push-in-Part.ensures.items
