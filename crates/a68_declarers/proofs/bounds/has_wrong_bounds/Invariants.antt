use Rattle.std.proofs.Common.{◌≡◌, ◌<◌, ℕ, true, slice_get, Some}
use Rattle.a68_declarers.specs.Bounds.{HasWrongBound, is_bound}
use Rattle.a68_ranges.specs.Nodes.{kind_at, parts_at}
use Rattle.a68_declarers.proofs.bounds.has_wrong_bounds.Given as goal

abbrev pub invariant-loop-part : goal.invariant-loop-part
invariant-loop-part l = (k b : ℕ) → k < l.part-index → slice_get (parts_at l.tree l.declarer) k ≡ Some b → is_bound (kind_at l.tree b) ≡ true → HasWrongBound l.tree l.declarer b → ⊥
