use Rattle.std.proofs.Common.{◌≡◌, ◌≤◌, ◌+◌, ℕ, length}
use Rattle.a68_modes.specs.Nodes.{shape_at}
use Rattle.a68_modes.specs.declared.shape.Shape.TheVariants.{Blank}
use Rattle.a68_declarers.proofs.raw.add_blank.Given as goal

abbrev pub invariant-adding : goal.invariant-adding
invariant-adding l = record {
  long : length l.modes ≡ length l.initial.modes + l.counter;
  blank : (m : ℕ) → length l.initial.modes ≤ m → shape_at l.modes m ≡ Blank;
}
