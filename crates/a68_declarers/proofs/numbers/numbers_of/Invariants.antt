use Rattle.std.proofs.Common.{◌≡◌, ◌<◌, ◌+◌, ◌*◌, ◌^◌, ℕ, length}
use Rattle.std.specs.Prelude.{slice_index_or}
use Rattle.std.specs.List.{All}
use Rattle.a68_declarers.specs.Numbers.{declarers, first_number}
use Rattle.a68_declarers.proofs.numbers.numbers_of.Given as goal

abbrev pub invariant-loop-id : goal.invariant-loop-id
invariant-loop-id l = record {
  long : length l.items.items ≡ l.id;
  next_is : l.next ≡ 15 + 2 * declarers l.tree l.id;
  each : (d : ℕ) → d < l.id → slice_index_or l.items.items d 0 ≡ first_number l.tree d;
  small : All (λ m. m < 2 ^ 24) l.items.items;
}
