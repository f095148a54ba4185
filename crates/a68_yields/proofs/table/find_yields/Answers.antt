use Rattle.std.proofs.Common.{subst, sym, ◌∙◌}
use Rattle.a68_declare.specs.Outcome.{ByNode}
use Rattle.a68_identify.specs.Operators.{NumbersAreThere}
use Rattle.a68_yields.specs.Yields.{AreYields}
use Rattle.a68_yields.proofs.table.find_yields.Goals as goal

pub new-requires : goal.new-requires
new-requires c = c.requires.of.long ∙ sym c.requires.of.fixed_long

pub yields_by-requires-clause-of : goal.yields_by-requires-clause-of
yields_by-requires-clause-of c = subst (λ (of : ByNode). NumbersAreThere c.args.tree.now c.args.modes.now of) (sym c.in_ok-listed.ensures.of) c.requires.of

pub returns-clause-yields : goal.returns-clause-yields
returns-clause-yields c =
    subst (λ (of : ByNode). AreYields (record { tree = c.args.tree.now; tags = c.args.tags.now; of = of; defined = c.args.defined.now }) c.args.modes.now c.yields_by.new.modes c.in_ok-found.found.yields.items
    c.in_ok-found.found.findings.items)
    c.in_ok-listed.ensures.of c.in_ok-found.ensures.yields

pub returns-clause-of : goal.returns-clause-of
returns-clause-of c = subst (λ (of : ByNode). NumbersAreThere c.args.tree.now c.yields_by.new.modes of) c.in_ok-listed.ensures.of c.in_ok-found.ensures.of
