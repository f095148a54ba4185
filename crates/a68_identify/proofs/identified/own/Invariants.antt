use Rattle.std.proofs.Common.{ℕ, suc, List, length}
use Rattle.std.specs.Option.{option_map_or}
use Rattle.std.specs.Prelude.{map}
use Rattle.a68_identify.proofs.Answering.{Further}
use Rattle.a68_ranges.specs.Links.{IsBelow}
use Rattle.a68_ranges.specs.Tables.{Nested}
use Rattle.a68_identify.proofs.identified.own.Given as goal

abbrev pub invariant-outwards : goal.invariant-outwards
invariant-outwards l = record {
  there : IsBelow (length l.ranges.nests.layers) l.next;
  further : (about : List ℕ) → Nested l.ranges.nests.layers l.initial.next about
      → Further l.tree l.modes l.of.of l.formula.sign (map (λ o. o.now) l.formula.operands.now) l.ranges.nests.layers l.next about;
}

abbrev pub decreases-outwards : goal.decreases-outwards
decreases-outwards l = option_map_or (λ i. suc i) l.next 0
