use Rattle.std.proofs.Common.{◌≡◌, ◌++◌, drop}
use Rattle.a68_report.specs.Put.{numbers}
use Rattle.a68_report.proofs.put.put_numbers.Given as goal

abbrev pub invariant-loop-number : goal.invariant-loop-number
invariant-loop-number l = l.text ++ numbers (drop l.number-index l.numbers) ≡ l.fn.text ++ numbers l.numbers
