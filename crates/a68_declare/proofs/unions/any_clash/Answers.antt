use Rattle.std.proofs.Common.{◌∙◌, sym, arith, refl, below_more}
use Rattle.std.proofs.lemmas.Bool.{false≢true}
use Rattle.a68_declare.proofs.Clashing.{clash_is, none_clash}
use Rattle.a68_declare.proofs.unions.any_clash.Goals as goal

pub loop-place-preserved : goal.loop-place-preserved
loop-place-preserved c = below_more _ _ c.loop-place.invariant (λ w. false≢true (sym c.if-clashes.false ∙ c.clashes.ensures.1 w))

pub returns-then-clashes : goal.returns-then-clashes
returns-then-clashes c = (λ t. clash_is c.args.modes.now c.args.members.now c.loop-place.place (omega arith) (c.clashes.ensures.0 c.if-clashes.true), λ w. refl)

pub returns : goal.returns
returns c = (
  λ t. absurd (false≢true t),
  λ w. absurd (none_clash c.args.modes.now c.args.classes.now.of c.requires.exact c.args.members.now c.requires.members (λ k lt. c.loop-place.invariant k (omega arith)) w),
)
