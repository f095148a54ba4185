use Rattle.a68_races.proofs.Lasts.{IsLatestUpTo}
use Rattle.a68_races.proofs.cells.Lasts.latest.Given as goal

abbrev pub invariant-loop-last : goal.invariant-loop-last
invariant-loop-last l = IsLatestUpTo l.writes l.self l.known l.strand l.latest l.last-index
