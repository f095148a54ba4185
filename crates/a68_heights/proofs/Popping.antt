-- What stands below values that are taken off.
use Rattle.std.proofs.Common.{◌≡◌, ◌+◌, ℕ, zero, suc, arith, List, [], ◌∷◌, Some, None, IfSome}
use Rattle.std.specs.declared.option.Option.{Option}
use Rattle.a68_code.specs.declared.code.Code.{Code}
use Rattle.a68_code.specs.declared.owner.Owner.{Owner}
use Rattle.a68_heights.specs.Heights.{Below}
use Rattle.a68_stack.specs.Values.{height, pop_values}
use Rattle.a68_stack.specs.declared.stack.Item.{Item}
use Rattle.a68_stack.specs.declared.stack.Item.TheVariants as item
use Rattle.a68_values.specs.Content.{Content}

-- so many items fewer, over the same calls
abbrev pub Lower : Code → Owner → ℕ → ℕ → List Item → Type 0
Lower code whose h n rest = (h ≡ height rest + n) × Below code whose rest

abbrev pub PoppedLower : Code → Owner → ℕ → ℕ → Option (List Content × List Item) → Type 0
PoppedLower code whose h n o = IfSome o (λ popped. Lower code whose h n popped.1)

pub popped : (code : Code) (whose : Owner) (n : ℕ) (items : List Item) (vs : List Content) → Below code whose items → PoppedLower code whose (height items) n (pop_values n items vs)
popped code whose zero items vs b = (omega arith, b)
popped code whose (suc n) [] vs b = tt
popped code whose (suc n) (item.Counter c ∷ items) vs b = tt
popped code whose (suc n) (item.Caller c ∷ items) vs b = tt
popped code whose (suc n) (item.Value v ∷ items) vs b = more (pop_values n items (v ∷ vs)) (popped code whose n items (v ∷ vs) b)
  where
    more : (o : Option (List Content × List Item)) → PoppedLower code whose (height items) n o → PoppedLower code whose (suc (height items)) (suc n) o
    more None p = tt
    more (Some q) p = (omega (arith, p.0), p.1)
