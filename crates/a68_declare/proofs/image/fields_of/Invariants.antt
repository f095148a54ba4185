use Rattle.std.proofs.Common.{◌≡◌, take}
use Rattle.std.specs.Prelude.{map}
use Rattle.a68_declare.specs.Numbering.{number_in}
use Rattle.a68_declare.proofs.image.fields_of.Given as goal

abbrev pub invariant-loop-name : goal.invariant-loop-name
invariant-loop-name l = l.items.items ≡ map (λ field. (field.0, number_in l.to field.1)) (take l.name-index l.fields)
