use Rattle.std.proofs.Common.{◌≡◌, ℕ, length, Option, Some, slice_get}
use Rattle.a68_ranges.specs.Visible.{IsTwin}
use Rattle.a68_ranges.proofs.nests.twins_of.Given as goal

abbrev pub invariant-loop-number : goal.invariant-loop-number
invariant-loop-number l = record {
  long : length l.twins.items ≡ l.number;
  are : (number : ℕ) (twin : Option ℕ) → slice_get l.twins.items number ≡ Some twin → IsTwin l.layers number twin;
}
