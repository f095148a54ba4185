use Rattle.std.proofs.Common.{◌≡◌, take}
use Rattle.a68_code.specs.Flow.{last_place}
use Rattle.a68_code.proofs.places.last_place.Given as goal

abbrev pub invariant-loop-place : goal.invariant-loop-place
invariant-loop-place l = l.last ≡ last_place (take l.place-index l.places)
