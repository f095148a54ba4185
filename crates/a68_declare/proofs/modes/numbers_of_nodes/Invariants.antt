use Rattle.std.proofs.Common.{◌≡◌, ◌<◌, ℕ, length}
use Rattle.std.specs.Prelude.{slice_index_or}
use Rattle.a68_declare.specs.Numbering.{number_in}
use Rattle.a68_declarers.specs.Numbers.{number_at}
use Rattle.a68_declare.proofs.modes.numbers_of_nodes.Given as goal

abbrev pub invariant-loop-id : goal.invariant-loop-id
invariant-loop-id l = record {
  long : length l.found.items ≡ l.id;
  each : (d : ℕ) → d < l.id → slice_index_or l.found.items d 0 ≡ number_in l.to (number_at l.numbers d l.fixed);
}
