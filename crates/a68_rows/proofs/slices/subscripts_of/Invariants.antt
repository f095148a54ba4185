use Rattle.std.proofs.Common.{◌≡◌, map, take}
use Rattle.a68_rows.specs.Subscripts.{subscript}
use Rattle.a68_rows.proofs.slices.subscripts_of.Given as goal

abbrev pub invariant-loop-trim : goal.invariant-loop-trim
invariant-loop-trim l = l.ints.items ≡ map subscript (take l.trim-index l.trims)
