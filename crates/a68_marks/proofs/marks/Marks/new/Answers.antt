use Rattle.std.proofs.Common.{ap, arith, length}
use Rattle.a68_marks.proofs.Bits.{beyond, none_full}
use Rattle.a68_marks.proofs.marks.Marks.new.Goals as goal

pub invariant_of-result : goal.invariant_of-result
invariant_of-result c = none_full c.new.result.items c.new-2.result.items (λ n. beyond c.new-2.result.items n (omega (arith, ap (λ l. length l) c.new-2.ensures.items)))

pub returns : goal.returns
returns c = λ n. beyond c.new.result.items n (omega (arith, ap (λ l. length l) c.new.ensures.items))
