use Rattle.std.proofs.Common.{◌≡◌, ◌+◌, drop}
use Rattle.std.specs.Option.{option_map}
use Rattle.a68_acts.specs.Members as members
use Rattle.a68_perform.proofs.members.number_among.Given as goal

abbrev pub invariant-loop-other : goal.invariant-loop-other
invariant-loop-other l = record {
  at : l.number ≡ l.other-index;
  same : members.number_among l.mode l.among ≡ option_map (λ k. l.other-index + k) (members.number_among l.mode (drop l.other-index l.among));
}
