use Rattle.std.proofs.Common.{List, reverse}
use Rattle.a68_symbols.specs.declared.sym.Sym.{Sym}
use Rattle.a68_read.specs.Weights.{weights}
use Rattle.a68_read.specs.Readings.{Reading}
use Rattle.a68_read.proofs.ready.ready.Given as goal

abbrev pub invariant-loop-goal : goal.invariant-loop-goal
invariant-loop-goal l = record { reads : (whole : List Sym) → Reading whole (reverse l.fn.goals.items) l.rest l.fn.drafting → Reading whole (reverse l.goals.items) l.rest l.drafting }

abbrev pub decreases-loop-goal : goal.decreases-loop-goal
decreases-loop-goal l = weights (reverse l.goals.items)
