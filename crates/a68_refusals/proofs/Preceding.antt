-- Where a node breaks no rule by itself, the first so far stays.
use Rattle.std.proofs.Common.{◌≡◌, Option, None, Some, refl}
use Rattle.a68_refusals.specs.Order.{earlier}
use Rattle.a68_refusals.specs.declared.turn.Broken.{Broken}

pub earlier_none : (found : Option Broken) → earlier found None ≡ found
earlier_none None = refl
earlier_none (Some f) = refl
