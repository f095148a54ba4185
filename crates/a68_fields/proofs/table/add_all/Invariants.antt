use Rattle.std.proofs.Common.{◌≡◌, ℕ, drop}
use Rattle.a68_fields.specs.Fields.{at_key, first_field, or_else}
use Rattle.a68_fields.proofs.table.add_all.Given as goal

abbrev pub invariant-loop-place : goal.invariant-loop-place
invariant-loop-place l = record {
  own : (tag : ℕ) → or_else (at_key l.fields.entries l.node tag) (first_field l.place tag (drop l.place l.added)) ≡ first_field 0 tag l.added;
  others : (other tag : ℕ) → (other ≡ l.node → ⊥) → at_key l.fields.entries other tag ≡ at_key l.initial.fields.entries other tag;
}
