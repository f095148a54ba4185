use Rattle.std.proofs.Common.{append_assoc}
use Rattle.a68_parse.proofs.text.text.Goals as goal

pub loop-sym-preserved : goal.loop-sym-preserved
loop-sym-preserved c = record {
  listed = rw (c.in_ok-push.ensures.items, append_assoc, c.with_class.ensures) (rw (c.in-Some.ensures.cases.0, c.in-Some-split_first.ensures.cases.0) at c.loop-sym.invariant.listed);
}
