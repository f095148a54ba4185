-- Inner: the headline does not rest on this file.
-- Where the parts of a loop stand.
use Rattle.std.specs.Prelude.{◌<◌, ℕ, IfSome}
use Rattle.a68_parts.specs.declared.loops.LoopParts.{LoopParts}

-- the parts of a loop stand behind its node
pub record AreWithin (id end : ℕ) (l : LoopParts) : Type 0 where
  pub from : IfSome l.from (λ p. (id < p) × (p < end))
  pub by : IfSome l.by (λ p. (id < p) × (p < end))
  pub to : IfSome l.to (λ p. (id < p) × (p < end))
  pub test : IfSome l.test (λ p. (id < p) × (p < end))
  pub body : IfSome l.body (λ p. (id < p) × (p < end))
