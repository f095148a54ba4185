use Rattle.std.proofs.Common.{◌≡◌, ◌++◌, drop}
use Rattle.a68_declarers.specs.Numbers.{number_at}
use Rattle.a68_declarers.specs.Shapes.{fields}
use Rattle.a68_declarers.proofs.shapes.fields_of.Given as goal

abbrev pub invariant-loop-part : goal.invariant-loop-part
invariant-loop-part l = l.items.items ++ fields l.tree (λ e. number_at l.numbers e l.fixed) l.before (drop l.part-index l.parts) ≡ fields l.tree (λ e. number_at l.numbers e l.fixed) 0 l.parts
