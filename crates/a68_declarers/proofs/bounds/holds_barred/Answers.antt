use Rattle.std.proofs.Common.{◌≡◌, ◌∙◌, ℕ, List, subst, sym, true, false, refl}
use Rattle.std.specs.Prelude.{slice_index_or}
use Rattle.std.specs.List.{Contains}
use Rattle.std.proofs.lemmas.Bool.{false≢true}
use Rattle.a68_declarers.proofs.Barring.{barred_is, holds_own, holds_marked}
use Rattle.a68_declarers.proofs.There.{parts_read}
use Rattle.a68_declarers.specs.Declarers.{form_at, is_word}
use Rattle.a68_declarers.proofs.bounds.holds_barred.Goals as goal

pub returns-then-is_barred : goal.returns-then-is_barred
returns-then-is_barred c =
    let tree = c.args.tree.now in
    let is = (barred_is tree c.args.id c.args.actual (is_word (form_at tree c.args.id)) c.requires.actual refl).0 (sym c.is_barred.ensures ∙ c.if-is_barred.true) in
    (λ t. holds_own tree c.args.id is, λ h. refl)

pub returns : goal.returns
returns c =
    let tree = c.args.tree.now in
    let id = c.args.id in
    let parts = parts_read tree id c.parts.result.now c.parts.ensures.is in
    let never = λ (h : _). false≢true (sym c.if-is_barred.false ∙ c.is_barred.ensures ∙ (barred_is tree id c.args.actual (is_word (form_at tree id)) c.requires.actual refl).1 h) in
    let by = holds_marked tree c.requires.follow id c.args.marks.now c.requires.there c.requires.marks never in (
      λ t. by.0 (subst (λ (ps : List ℕ). (p : ℕ) × Contains ps p × (slice_index_or c.args.marks.now p false ≡ true)) (sym parts) (c.any_marked.ensures.0 t)),
      λ h. c.any_marked.ensures.1 (subst (λ (ps : List ℕ). (p : ℕ) × Contains ps p × (slice_index_or c.args.marks.now p false ≡ true)) parts (by.1 h)),
    )
