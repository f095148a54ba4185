use Rattle.std.proofs.Common.{◌≡◌, ◌∷◌, take}
use Rattle.std.specs.Prelude.{map}
use Rattle.a68_equiv.proofs.codes.names.Given as goal

abbrev pub invariant-loop-field : goal.invariant-loop-field
invariant-loop-field l = l.code.items ≡ 9 ∷ map (λ field. field.0) (take l.field-index l.field-items)
