use Rattle.std.proofs.Common.{IfOk, sym, subst}
use Rattle.std.specs.Prelude.{◌↔◌, IsTrue}
use Rattle.a68_refusals.specs.Units.{LeadsNot}
use Rattle.a68_refusals.proofs.unit.leads_not.Goals as goal

-- src/unit.rt:106:1
pub returns-in-Unit : goal.returns-in-Unit
returns-in-Unit c =
    subst (λ y. IfOk c.leaf_leads_not.result (λ not. IsTrue not ↔ LeadsNot c.args.modes.now c.args.mode c.args.kind y)) (sym c.in-Unit.is) c.leaf_leads_not.ensures
