use Rattle.std.proofs.Common.{◌∙◌, sym, ap, true, false, subst}
use Rattle.std.proofs.lemmas.Bool.{false≢true}
use Rattle.std.specs.Prelude.{◌↔◌, IsTrue}
use Rattle.a68_equiv.specs.declared.mode.Mode.{Mode}
use Rattle.a68_equiv.specs.Related.{as_it_stands, LeadsMeekly}
use Rattle.a68_equiv.proofs.Meekly.{found, lost, goes, shorter, id_of}
use Rattle.a68_equiv.proofs.firm.leads.Goals as goal

pub returns-then-are_same : goal.returns-then-are_same
returns-then-are_same c =
    let nodes = c.args.modes.now in
    let eq = (c.are_same.ensures.equivalent nodes c.requires.exact).0 c.if-are_same.true in
    subst (λ (g : Mode). IsTrue true ↔ LeadsMeekly nodes (as_it_stands c.args.from) g) c.as_it_stands-goal.ensures
    (found nodes c.meekly.at (as_it_stands c.args.from) c.as_it_stands-goal.result c.meekly.invariant.same eq)

pub returns-in_default : goal.returns-in_default
returns-in_default c =
    let nodes = c.args.modes.now in
    subst (λ (g : Mode). IsTrue false ↔ LeadsMeekly nodes (as_it_stands c.args.from) g) c.as_it_stands-goal.ensures
    (lost nodes c.meekly.at (as_it_stands c.args.from) c.as_it_stands-goal.result c.meekly.invariant.same (sym c.meek.ensures.step ∙ c.in_default.is)
    (λ e. false≢true (sym c.if-are_same.false ∙ (c.are_same.ensures.equivalent nodes c.requires.exact).1 e)))

pub meekly-smaller : goal.meekly-smaller
meekly-smaller c = shorter c.args.modes.now c.meek.ensures.nodes c.requires.formed c.meekly.at.id c.in-Some.next.id c.meekly.invariant.there (ap id_of (sym c.meek.ensures.step ∙ c.in-Some.is))

pub meekly-preserved : goal.meekly-preserved
meekly-preserved c =
    let nodes = c.args.modes.now in
    record {
      there = c.in-Some.ensures.there;
      same = goes nodes c.meekly.at (as_it_stands c.args.from) c.as_it_stands-goal.result c.meekly.invariant.same c.in-Some.next (sym c.meek.ensures.step ∙ c.in-Some.is)
          (λ e. false≢true (sym c.if-are_same.false ∙ (c.are_same.ensures.equivalent nodes c.requires.exact).1 e));
    }
