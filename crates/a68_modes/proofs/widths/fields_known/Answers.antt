use Rattle.std.proofs.Common.{arith}
use Rattle.std.proofs.lemmas.List.{drop_all}
use Rattle.a68_modes.proofs.Measuring.{sum-on, sum-end}
use Rattle.a68_modes.proofs.widths.fields_known.Goals as goal

pub loop-field-init : goal.loop-field-init
loop-field-init c = record {
  fits = omega arith;
  sum = λ n le. omega arith;
}

pub loop-field-preserved : goal.loop-field-preserved
loop-field-preserved c = record {
  fits = omega arith;
  sum = sum-on c.args.shapes.now c.loop-field.all c.in-Some.one _ c.args.fields.now c.loop-field.field-index (0, 0) c.loop-field-test.true c.in-Some.ensures (omega arith) (omega arith)
      c.add.ensures c.loop-field.invariant.sum;
}

pub returns : goal.returns
returns c = sum-end c.args.shapes.now c.loop-field.all _ c.args.fields.now (drop_all c.loop-field.field-index c.args.fields.now (omega arith)) c.loop-field.invariant.fits c.loop-field.invariant.sum
