use Rattle.std.proofs.Common.{◌≡◌, ◌++◌, length}
use Rattle.a68_parse.specs.Texts.{classed, text_of}
use Rattle.a68_parse.proofs.text.text.Given as goal

abbrev pub invariant-loop-sym : goal.invariant-loop-sym
invariant-loop-sym l = record { listed : l.list.items ++ classed l.rest l.more ≡ text_of l.symbols l.classes }

abbrev pub decreases-loop-sym : goal.decreases-loop-sym
decreases-loop-sym l = length l.rest
