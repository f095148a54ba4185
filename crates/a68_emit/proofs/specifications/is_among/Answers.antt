use Rattle.std.proofs.Common.{◌≡◌, ◌∙◌, [], drop, sym, ap}
use Rattle.std.proofs.lemmas.Bool.{eq-eqb, ne_eqb}
use Rattle.std.proofs.lemmas.List.{drop_all}
use Rattle.a68_elab.specs.Rows.{is_among}
use Rattle.a68_emit.proofs.Taking.{among_here, among_later}
use Rattle.a68_emit.proofs.specifications.is_among.Goals as goal

pub returns-then-mode-other : goal.returns-then-mode-other
returns-then-mode-other c =
    sym (among_here c.args.mode c.args.modes.now c.loop-other.other-index c.loop-other-test.true (eq-eqb c.args.mode _ c.if-mode-other.true)) ∙ c.loop-other.invariant

pub loop-other-preserved : goal.loop-other-preserved
loop-other-preserved c =
    sym (among_later c.args.mode c.args.modes.now c.loop-other.other-index c.loop-other-test.true (ne_eqb c.args.mode _ c.if-mode-other.false)) ∙ c.loop-other.invariant

pub returns : goal.returns
returns c =
    let none : drop c.loop-other.other-index c.args.modes.now ≡ [] = drop_all c.loop-other.other-index c.args.modes.now c.loop-other-test.false in
    ap (λ l. is_among c.args.mode l) (sym none) ∙ c.loop-other.invariant
