use Rattle.std.proofs.Common.{◌≡◌, ◌+◌, ◌*◌, length}
use Rattle.a68_declarers.specs.Numbers.{declarers}
use Rattle.a68_declarers.proofs.Setting.{AreSet}
use Rattle.a68_declarers.proofs.raw.set_all.Given as goal

abbrev pub invariant-loop-id : goal.invariant-loop-id
invariant-loop-id l = record {
  long : length l.modes ≡ 15 + 2 * declarers l.tree (length l.tree.nodes);
  set : AreSet l.tree l.numbers l.id l.modes;
}
