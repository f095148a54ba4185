-- How many callers there can be.
use Rattle.std.proofs.Common.{◌≤◌, List, [], ◌∷◌, length, arith}
use Rattle.std.specs.Prelude.{reverse}
use Rattle.std.proofs.lemmas.List.{length-reverse}
use Rattle.a68_stack.specs.Values.{callers}
use Rattle.a68_stack.specs.declared.stack.Item.{Item}
use Rattle.a68_stack.specs.declared.stack.Item.TheVariants as item

few : (items : List Item) → callers items ≤ length items
few [] = omega arith
few (item.Value v ∷ items) = omega (arith, few items)
few (item.Counter c ∷ items) = omega (arith, few items)
few (item.Caller c ∷ items) = omega (arith, few items)

-- at most as many as there are items
pub callers_few : (items : List Item) → callers (reverse items) ≤ length items
callers_few items = omega (arith, few (reverse items), length-reverse items)
