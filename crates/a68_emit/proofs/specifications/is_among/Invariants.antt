use Rattle.std.proofs.Common.{◌≡◌, drop}
use Rattle.a68_elab.specs.Rows.{is_among}
use Rattle.a68_emit.proofs.specifications.is_among.Given as goal

abbrev pub invariant-loop-other : goal.invariant-loop-other
invariant-loop-other l = is_among l.mode (drop l.other-index l.modes) ≡ is_among l.mode l.modes
