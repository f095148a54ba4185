use Rattle.std.proofs.Common.{◌≡◌, ℕ, take}
use Rattle.a68_ranges.specs.Tables.{at_sign, operators_named}
use Rattle.a68_ranges.proofs.operators.add_operators.Given as goal

abbrev pub invariant-loop-id : goal.invariant-loop-id
invariant-loop-id l = record {
  own : (sign : ℕ) → at_sign l.index.entries l.range sign ≡ operators_named l.tree sign (take l.id-index l.list);
  others : (r sign : ℕ) → (r ≡ l.range → ⊥) → at_sign l.index.entries r sign ≡ at_sign l.initial.index.entries r sign;
}
