use Rattle.std.proofs.Common.{refl, ap, arith, sym, ◌∙◌}
use Rattle.a68_runs.proofs.Opening.{rows_done, rows_looked, rows_opened}
use Rattle.a68_runs.specs.Opens.{looks_of}
use Rattle.a68_runs.proofs.bounds.add_rows.Goals as goal

pub returns-then-not-is_bound-clause-all : goal.returns-then-not-is_bound-clause-all
returns-then-not-is_bound-clause-all c =
    rows_opened c.args.program.now c.args.depth c.args.frames c.args.parts.now c.loop-part.part-index _ c.args.bounds.now.items c.loop-part.bounds.items c.args.opens.now c.loop-part.opens c.push.new.self
    (omega arith) refl (sym c.is_bound.ensures ∙ c.if-not-is_bound.true) c.loop-part.invariant.0 c.loop-part.invariant.2 c.in_ok-push.ensures

pub returns-then-not-is_bound-clause-looks : goal.returns-then-not-is_bound-clause-looks
returns-then-not-is_bound-clause-looks c =
    rows_looked c.args.program.now c.args.depth c.args.frames c.args.parts.now c.loop-part.part-index _ c.args.opens.now c.loop-part.opens c.push.new.self (omega arith) refl
    (sym c.is_bound.ensures ∙ c.if-not-is_bound.true) c.loop-part.invariant.1 c.loop-part.invariant.2 c.in_ok-push.ensures

pub returns-clause-all : goal.returns-clause-all
returns-clause-all c =
    rows_done c.args.program.now c.args.depth c.args.frames c.args.parts.now c.args.bounds.now.items c.loop-part.bounds.items c.args.opens.now c.loop-part.opens c.loop-part.part-index (omega arith)
    c.loop-part.invariant.0 c.loop-part.invariant.2

pub returns-clause-looks : goal.returns-clause-looks
returns-clause-looks c = omega (arith, ap (looks_of c.args.program.now) c.loop-part.invariant.2)
