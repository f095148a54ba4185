use Rattle.std.proofs.Common.{◌≡◌, map}
use Rattle.std.specs.List.{range_with_len}
use Rattle.a68_ops.specs.Printed.{place_text}
use Rattle.a68_ops.proofs.printing.places.Given as goal

abbrev pub invariant-loop-place : goal.invariant-loop-place
invariant-loop-place l = l.items.items ≡ map (place_text l.bits) (range_with_len 0 l.place)
