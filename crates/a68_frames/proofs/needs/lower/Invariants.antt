use Rattle.std.proofs.Common.{ℕ, suc, length, List, Option}
use Rattle.std.specs.Option.{option_map_or}
use Rattle.a68_frames.specs.Outlooks.{CrossesText}
use Rattle.a68_frames.specs.Tables.{AreLowered}
use Rattle.a68_ranges.specs.Links.{IsBelow}
use Rattle.a68_frames.proofs.needs.lower.Given as goal

abbrev pub invariant-texts : goal.invariant-texts
invariant-texts l = record {
  there : IsBelow (length l.chains.frames) l.from;
  rest : (final : List (Option ℕ)) → AreLowered (CrossesText l.chains.frames l.outlook.texts l.from l.left) l.needs final
      → AreLowered (CrossesText l.chains.frames l.outlook.texts l.fn.start l.fn.steps) l.initial.needs final;
}

abbrev pub decreases-texts : goal.decreases-texts
decreases-texts l = option_map_or (λ i. suc i) l.from 0
