use Rattle.std.proofs.Common.{◌≡◌, take, true}
use Rattle.std.specs.Prelude.{map}
use Rattle.a68_declarers.specs.Numbers.{number_at}
use Rattle.a68_declarers.proofs.shapes.members_of.Given as goal

abbrev pub invariant-loop-part : goal.invariant-loop-part
invariant-loop-part l = l.items.items ≡ map (λ e. number_at l.numbers e true) (take l.part-index l.parts)
