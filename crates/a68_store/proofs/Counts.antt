-- What a store counts.
use Rattle.std.proofs.Common.{◌≤◌, List, [], ◌∷◌, length, arith}
use Rattle.std.specs.Prelude.{None, Some, sum_by}
use Rattle.std.specs.declared.option.Option.{Option}
use Rattle.std.proofs.lemmas.List.Sums.{sum_by-cons}
use Rattle.a68_acts.specs.Store.{slot_weight}
use Rattle.a68_values.specs.Content.{Content}

pub weight-pos : (slot : Option Content) → 1 ≤ slot_weight slot
weight-pos None = omega arith
weight-pos (Some v) = omega arith

-- a frame counts its slots at least
pub length-le-weight : (slots : List (Option Content)) → length slots ≤ sum_by slot_weight slots
length-le-weight [] = omega arith
length-le-weight (slot ∷ slots) = omega (arith, sum_by-cons slot_weight slot slots, weight-pos slot, length-le-weight slots)
