use Rattle.std.proofs.Common.{◌<◌, ℕ, List, Bool, length}
use Rattle.a68_equiv.specs.Related.{as_it_stands}
use Rattle.a68_equiv.proofs.Chains.{steps}
use Rattle.a68_equiv.proofs.Meekly.{meek_next}
use Rattle.a68_identify.proofs.Missing.{Grows}
use Rattle.a68_identify.specs.Apart.{KnowsAll}
use Rattle.a68_identify.proofs.apart.note_all.Given as goal

abbrev pub invariant-meekly : goal.invariant-meekly
invariant-meekly l = record {
  there : l.at.id < length l.modes;
  rest : (final : List ℕ) (flag : Bool) → Grows l.known.keys final l.union flag → KnowsAll l.modes l.classes.of final flag l.at → KnowsAll l.modes l.classes.of final flag (as_it_stands l.fn.from);
}

abbrev pub decreases-meekly : goal.decreases-meekly
decreases-meekly l = steps (meek_next l.modes) (length l.modes) l.at.id
