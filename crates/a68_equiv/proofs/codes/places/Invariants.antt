use Rattle.std.proofs.Common.{◌≡◌, ◌∷◌, take}
use Rattle.std.specs.Prelude.{map}
use Rattle.a68_equiv.proofs.codes.places.Given as goal

abbrev pub invariant-loop : goal.invariant-loop
invariant-loop l = l.code.items ≡ 11 ∷ map (λ p. 0) (take l.index l.items)
