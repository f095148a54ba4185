use Rattle.std.proofs.Common.{◌<◌, length}
use Rattle.std.specs.Prelude.{◌↔◌}
use Rattle.a68_equiv.specs.Related.{LeadsMeekly, as_it_stands}
use Rattle.a68_equiv.proofs.Chains.{steps}
use Rattle.a68_equiv.proofs.Meekly.{meek_next}
use Rattle.a68_equiv.proofs.firm.leads.Given as goal

abbrev pub invariant-meekly : goal.invariant-meekly
invariant-meekly l = record {
  there : l.at.id < length l.modes;
  same : LeadsMeekly l.modes l.at l.goal ↔ LeadsMeekly l.modes (as_it_stands l.from) l.goal;
}

abbrev pub decreases-meekly : goal.decreases-meekly
decreases-meekly l = steps (meek_next l.modes) (length l.modes) l.at.id
