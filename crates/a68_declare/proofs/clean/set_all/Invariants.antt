use Rattle.std.proofs.Common.{◌≡◌, length}
use Rattle.a68_declare.specs.Numbering.{AreShapesFrom}
use Rattle.a68_declare.proofs.clean.set_all.Given as goal

abbrev pub invariant-loop-number : goal.invariant-loop-number
invariant-loop-number l = record {
  long : length l.new ≡ length l.numbering.firsts.items;
  shapes : AreShapesFrom l.modes l.numbering.to.items l.numbering.firsts.items l.number l.new;
}
