use Rattle.std.proofs.Common.{◌∙◌, sym, refl, subst, ap, ℕ, None, Some}
use Rattle.std.proofs.lemmas.Bool.{false≢true}
use Rattle.a68_declarers.specs.Declarers.{is_word}
use Rattle.a68_ranges.specs.Standard.{IsModeWordOf}
use Rattle.a68_declarers.proofs.words.is_undefined.Goals as goal

pub returns-in-None : goal.returns-in-None
returns-in-None c = (
  λ t. record {
    declarer = sym c.is_declarer.ensures ∙ c.if-not-is_declarer.false;
    word = ap is_word (sym c.form_of.ensures) ∙ sym c.is_word.ensures ∙ c.if-not-is_word.false;
    undefined = subst (λ (n : ℕ). IsModeWordOf c.args.tree.now c.args.id n None) c.name_of.ensures (c.in-None.ensures c.args.tree.now c.requires.ranges);
  },
  λ u. refl,
)

pub returns-in-Some : goal.returns-in-Some
returns-in-Some c = (
  λ t. absurd (false≢true t),
  λ u. absurd (u.undefined _ (subst (λ (n : ℕ). IsModeWordOf c.args.tree.now c.args.id n (Some c.in-Some._definition)) c.name_of.ensures (c.in-Some.ensures c.args.tree.now c.requires.ranges))),
)
