use Rattle.std.proofs.Common.{length, arith, refl}
use Rattle.a68_yields.proofs.Tabling.{tables_begun}
use Rattle.a68_yields.specs.Yields.{none_yet}
use Rattle.a68_yields.proofs.table.look_at_all.Goals as goal

pub loop-left-init : goal.loop-left-init
loop-left-init c = record {
  within = omega (arith, c.len-left.ensures);
  yields = none_yet c.len-left.ensures refl c.requires.no_yields c.requires.no_findings;
  of = c.requires.of;
  defined = c.requires.defined;
  fields = c.requires.fields;
  tables = tables_begun (length c.args.modes.now) (length c.args.tree.now.nodes) c.args.yields.now c.args.findings.now c.requires.no_yields c.requires.no_findings;
}
