use Rattle.std.proofs.Common.{◌∙◌, sym, arith, below_more, get_or, refl}
use Rattle.std.proofs.lemmas.Bool.{false≢true}
use Rattle.std.proofs.lemmas.List.Elements.{Contains-get_or}
use Rattle.a68_declare.proofs.Judging.{none_differ}
use Rattle.a68_declare.proofs.unions.any_different.Goals as goal

pub loop-member-preserved : goal.loop-member-preserved
loop-member-preserved c = below_more _ _ c.loop-member.invariant ((c.same.ensures c.args.modes.now c.requires.exact).0 c.if-not-same.false)

pub returns-then-not-same : goal.returns-then-not-same
returns-then-not-same c = (
  λ t.
      let members = c.args.members.now in
      let i = c.loop-member.member-index in (
        get_or members 0 0,
        get_or members i 0,
        Contains-get_or members 0 0 (omega arith),
        Contains-get_or members i 0 (omega arith),
        λ e. false≢true (sym c.if-not-same.true ∙ (c.same.ensures c.args.modes.now c.requires.exact).1 e),
      ),
  λ w. refl,
)

pub returns : goal.returns
returns c = (
  λ t. absurd (false≢true t),
  λ w. absurd (w.4 (none_differ c.args.modes.now c.args.classes.now.of c.requires.exact c.args.members.now c.requires.members (λ k l. c.loop-member.invariant k (omega arith)) w.0 w.1 w.2 w.3)),
)
