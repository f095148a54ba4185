use Rattle.std.proofs.Common.{◌≡◌, ℕ, take}
use Rattle.a68_ranges.specs.Tables.{at_key, first_named}
use Rattle.a68_ranges.specs.Indexed.{IsLeast, IsLateIn}
use Rattle.a68_ranges.proofs.index.note_list.Given as goal

abbrev pub invariant-loop-id : goal.invariant-loop-id
invariant-loop-id l = record {
  named : (name : ℕ) → at_key l.index.entries l.range name ≡ first_named l.tree l.sort name (take l.id-index l.list);
  others : (r name : ℕ) → (r ≡ l.range → ⊥) → at_key l.index.entries r name ≡ at_key l.initial.index.entries r name;
  least : IsLeast l.tree (IsLateIn l.tree l.sort l.list l.id-index) l.late;
}
