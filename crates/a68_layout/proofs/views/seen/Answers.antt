use Rattle.std.proofs.Common.{◌≡◌, sym, ap, ◌∙◌, arith, pos}
use Rattle.std.proofs.lemmas.Result.{err_from_is_err_and}
use Rattle.a68_layout.specs.Stretches.{joined}
use Rattle.a68_layout.proofs.Seeing.{one_seen, none_seen, next_seen, few_seen, too_few, too_many, all_seen}
use Rattle.a68_layout.specs.declared.types.Trim.TheVariants.{At}
use Rattle.a68_layout.proofs.views.seen.Goals as goal

pub returns-then-i-trims-clause-fault : goal.returns-then-i-trims-clause-fault
returns-then-i-trims-clause-fault c =
    let few = too_few c.args.dims.now c.args.trims.now c.loop-i.i (record { lower = pos 0; upper = pos 0; stride = 0 }) (omega arith) (omega arith) in
    λ kind e. rw (← c.loop-i.invariant.rest, few) cc

pub returns-in_err-stretch-clause-fault : goal.returns-in_err-stretch-clause-fault
returns-in_err-stretch-clause-fault c =
    let p = err_from_is_err_and c.from_residual.result c.from_residual.ensures.1 in
    let next = next_seen c.args.dims.now c.args.trims.now c.loop-i.i (record { lower = pos 0; upper = pos 0; stride = 0 }) (At (pos 0)) (omega arith) (omega arith) in
    λ kind e.
    let same : kind ≡ c.in_err-stretch.field-0.0 = cc in
    rw (same, ← c.loop-i.invariant.rest, next) (none_seen c.loop-i.cell c.loop-i.kept.items _ _ _ c.in_err-stretch.ensures)

pub loop-i-preserved : goal.loop-i-preserved
loop-i-preserved c =
    let next = next_seen c.args.dims.now c.args.trims.now c.loop-i.i (record { lower = pos 0; upper = pos 0; stride = 0 }) (At (pos 0)) (omega arith) (omega arith) in
    record {
      fits = few_seen c.loop-i.cell _ _ c.in_ok-stretch.ensures;
      rest = rw c.in_ok-keep.ensures (one_seen c.loop-i.cell c.loop-i.kept.items _ _ _ c.in_ok-stretch.ensures ∙ ap (joined c.loop-i.cell c.loop-i.kept.items) (sym next) ∙ c.loop-i.invariant.rest);
    }

pub returns-then-dims-trims-clause-fault : goal.returns-then-dims-trims-clause-fault
returns-then-dims-trims-clause-fault c =
    let many = too_many c.args.dims.now c.args.trims.now c.loop-i.i (At (pos 0)) (omega arith) (omega arith) in
    λ kind e. rw (← c.loop-i.invariant.rest, many) cc

pub returns-clause-part : goal.returns-clause-part
returns-clause-part c =
    all_seen c.loop-i.cell c.loop-i.kept.items c.args.dims.now c.args.trims.now c.loop-i.i c.loop-i.invariant.fits (omega arith) (omega arith) ∙ c.loop-i.invariant.rest
