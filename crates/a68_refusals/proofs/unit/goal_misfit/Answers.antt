use Rattle.std.proofs.Common.{◌∙◌, refl, sym}
use Rattle.a68_refusals.specs.Units.{hands_on_it, misfits, suits}
use Rattle.a68_refusals.proofs.unit.goal_misfit.Goals as goal

-- src/unit.rt:119:9
pub returns-then-hands_on : goal.returns-then-hands_on
returns-then-hands_on c = hands_on_it (sym c.hands_on.ensures ∙ c.if-hands_on.true) refl

-- src/unit.rt:106:1
pub returns-then-there : goal.returns-then-there
returns-then-there c = misfits (sym c.hands_on.ensures ∙ c.if-hands_on.false) (c.in_ok-there.ensures.0 c.if-there.true) refl

-- src/unit.rt:106:1
pub returns-else-there : goal.returns-else-there
returns-else-there c = suits (sym c.hands_on.ensures ∙ c.if-hands_on.false) (λ not. let t = c.in_ok-there.ensures.1 not in let f = c.if-there.false in absurd (cc)) refl
