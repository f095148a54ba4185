use Rattle.std.proofs.Common.{◌≡◌, ◌++◌, drop}
use Rattle.a68_report.specs.Listing.{lines}
use Rattle.a68_report.proofs.listing.put_lines.Given as goal

abbrev pub invariant-loop-index : goal.invariant-loop-index
invariant-loop-index l = l.text ++ lines l.index (drop l.index l.list) ≡ l.fn.text ++ lines 0 l.list
