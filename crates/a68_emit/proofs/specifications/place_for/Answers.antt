use Rattle.std.proofs.Common.{◌∙◌, length, true, false, sym, arith}
use Rattle.a68_emit.proofs.Taking.{place_end, place_step, taken_so}
use Rattle.a68_parts.proofs.Between.{between-each}
use Rattle.a68_emit.proofs.specifications.place_for.Goals as goal

pub spec_mode-requires : goal.spec_mode-requires
spec_mode-requires c = (between-each c.args.id (length c.args.program.now.of.now.tree.nodes) c.loop-at.at c.args.specs.now c.requires (omega arith)).1

pub returns-then-which-starts : goal.returns-then-which-starts
returns-then-which-starts c = λ f.
    sym (place_end c.args.program.now.of.now f c.args.specs.now c.loop-at.at c.args.member c.args.starts.now c.loop-at.which c.args.none (λ less within. absurd (omega arith))) ∙ c.loop-at.invariant.1 f

pub returns-then-takes : goal.returns-then-takes
returns-then-takes c = λ f.
    let is = taken_so c.args.program.now.of.now c.args.specs.now c.loop-at.at c.args.member c.spec_mode.result c.modes.result.now c.takes.result true c.modes.ensures c.spec_mode.ensures c.takes.ensures c.if-takes.true in
    sym (place_step c.args.program.now.of.now f c.args.specs.now c.loop-at.at c.args.member c.args.starts.now c.loop-at.which c.args.none true c.loop-at-test.true (omega arith) is) ∙ c.loop-at.invariant.1 f

pub loop-at-preserved : goal.loop-at-preserved
loop-at-preserved c =
    let is = taken_so c.args.program.now.of.now c.args.specs.now c.loop-at.at c.args.member c.spec_mode.result c.modes.result.now c.takes.result false c.modes.ensures c.spec_mode.ensures c.takes.ensures c.if-takes.false in
    (omega arith, λ f. sym (place_step c.args.program.now.of.now f c.args.specs.now c.loop-at.at c.args.member c.args.starts.now c.loop-at.which c.args.none false c.loop-at-test.true (omega arith) is) ∙ c.loop-at.invariant.1 f)

pub returns : goal.returns
returns c = λ f.
    sym (place_end c.args.program.now.of.now f c.args.specs.now c.loop-at.at c.args.member c.args.starts.now c.loop-at.which c.args.none (λ less within. absurd (omega arith))) ∙ c.loop-at.invariant.1 f
