use Rattle.std.proofs.Common.{◌<◌, length, get_or}
use Rattle.std.specs.Prelude.{◌↔◌}
use Rattle.a68_declare.specs.Unions.{LeadsAway}
use Rattle.a68_equiv.specs.Related.{as_it_stands}
use Rattle.a68_equiv.proofs.Chains.{steps}
use Rattle.a68_equiv.proofs.Meekly.{meek_next}
use Rattle.a68_declare.proofs.unions.clashes.Given as goal

abbrev pub invariant-meekly : goal.invariant-meekly
invariant-meekly l = record {
  there : l.at.id < length l.modes;
  same : LeadsAway l.modes l.members (get_or l.members l.place 0) l.at ↔ LeadsAway l.modes l.members (get_or l.members l.place 0) (as_it_stands (get_or l.members l.place 0));
}

abbrev pub decreases-meekly : goal.decreases-meekly
decreases-meekly l = steps (meek_next l.modes) (length l.modes) l.at.id
