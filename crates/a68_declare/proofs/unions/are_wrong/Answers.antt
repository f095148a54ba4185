use Rattle.std.proofs.Common.{◌∙◌, sym, refl, inl, inr, ⊎_elim}
use Rattle.std.proofs.lemmas.Bool.{false≢true}
use Rattle.a68_declare.proofs.unions.are_wrong.Goals as goal

pub returns-then-not-any_different : goal.returns-then-not-any_different
returns-then-not-any_different c = (λ t. inr (λ d. false≢true (sym c.if-not-any_different.true ∙ c.any_different.ensures.1 d)), λ w. refl)

pub returns : goal.returns
returns c = (λ t. inl (c.in_ok-wrong.ensures.0 t), λ w. ⊎_elim (λ k. c.in_ok-wrong.ensures.1 k) (λ n. absurd (n (c.any_different.ensures.0 c.if-not-any_different.false))) w)
