use Rattle.std.proofs.Common.{◌≡◌, ◌∙◌, ℕ, ◌+◌, ◌<◌, ◌≤◌, List, [], ◌∷◌, ◌++◌, length, get_or, drop, ap, sym, append_assoc}
use Rattle.std.proofs.lemmas.List.{append-nil, at_drop_all, at_drop_more}
use Rattle.a68_nodes.specs.Pieces.{all_parts}
use Rattle.a68_nodes.specs.declared.draft.Piece.{Piece}
use Rattle.a68_nodes.specs.declared.draft.Piece.TheVariants.{Part}
use Rattle.a68_nodes.proofs.frames.add_parts.Goals as goal

-- one number more is added
one_added : (pieces new whole : List Piece) (ids : List ℕ) (i : ℕ) → i < length ids → new ≡ pieces ++ Part (get_or ids i 0) ∷ []
    → pieces ++ all_parts (drop i ids) ≡ whole → new ++ all_parts (drop (i + 1) ids) ≡ whole
one_added pieces new whole ids i more e added =
    let rest = all_parts (drop (i + 1) ids) in
    ap (λ l. l ++ rest) e ∙ append_assoc pieces (Part (get_or ids i 0) ∷ []) rest ∙ ap (λ l. pieces ++ l) (sym (at_drop_more all_parts ids i 0 more)) ∙ added

-- no number is left to add
all_added : (pieces whole : List Piece) (ids : List ℕ) (i : ℕ) → length ids ≤ i → pieces ++ all_parts (drop i ids) ≡ whole → pieces ≡ whole
all_added pieces whole ids i all e = sym (append-nil pieces) ∙ ap (λ rest. pieces ++ rest) (sym (at_drop_all all_parts ids i all)) ∙ e

pub loop-id-preserved : goal.loop-id-preserved
loop-id-preserved c =
    one_added c.loop-id.pieces.items c.push.new.self.items _ _ c.loop-id.id-index c.loop-id-test.true c.in_ok-push.ensures.items c.loop-id.invariant

pub returns : goal.returns
returns c = all_added c.loop-id.pieces.items _ _ c.loop-id.id-index c.loop-id-test.false c.loop-id.invariant
