use Rattle.std.proofs.Common.{◌≡◌, drop, map}
use Rattle.a68_layout.specs.Stretches.{found}
use Rattle.a68_layout.specs.Views.{seen_from}
use Rattle.a68_layout.specs.declared.types.Trim.TheVariants.{At}
use Rattle.a68_layout.proofs.views.found.Given as goal

abbrev pub invariant-loop-i : goal.invariant-loop-i
invariant-loop-i l =
    found l.cell (seen_from (drop l.i l.dims) (map (λ k. At k) (drop l.i l.at)))
    ≡ found l.fn.cell (seen_from l.dims (map (λ k. At k) l.at))
