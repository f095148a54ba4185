use Rattle.std.proofs.Common.{arith, refl}
use Rattle.a68_definitions.specs.Defined.{none_yet}
use Rattle.a68_definitions.proofs.defined.define_all.Goals as goal

pub loop-left-init : goal.loop-left-init
loop-left-init c = record {
  within = omega (arith, c.len-left.ensures);
  defined = none_yet c.len-left.ensures refl c.requires.none;
  of = c.requires.of;
  table = c.requires.table;
}
