use Rattle.std.proofs.Common.{◌≡◌, ◌<◌, ℕ, Some, slice_get}
use Rattle.a68_equiv.specs.Related.{AreRelated}
use Rattle.a68_identify.proofs.related.all_related.Given as goal

abbrev pub invariant-loop-i : goal.invariant-loop-i
invariant-loop-i l = (k : ℕ) → k < l.i → (x y : ℕ) → slice_get l.ones k ≡ Some x → slice_get l.others k ≡ Some y → AreRelated l.modes x y
