use Rattle.std.proofs.Common.{◌≡◌, take}
use Rattle.std.specs.Prelude.{map}
use Rattle.a68_equiv.specs.Graph.{number_of}
use Rattle.a68_equiv.proofs.rows.numbers.Given as goal

abbrev pub invariant-loop-id : goal.invariant-loop-id
invariant-loop-id l = l.items.items ≡ map (λ m. number_of (record { id = m; fixed = l.fixed })) (take l.id-index l.id-items)
