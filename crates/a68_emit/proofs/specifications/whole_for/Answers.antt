use Rattle.std.proofs.Common.{◌≡◌, ◌∙◌, List, ℕ, Bool, length, true, false, sym, ap, arith}
use mir.Val.{bool_byte}
use Rattle.a68_acts.specs.Operations.{is_union}
use Rattle.a68_code.specs.Flow.{one_if}
use Rattle.a68_emit.proofs.Taking.{whole_end, whole_step, taken_so}
use Rattle.a68_modes.specs.Nodes.{shape_at}
use Rattle.a68_modes.specs.declared.shape.Shape.{Shape}
use Rattle.a68_parts.proofs.Between.{between-each}
use Rattle.a68_emit.proofs.specifications.whole_for.Goals as goal

whole_of : (b : Bool) (n : ℕ) → n ≡ bool_byte b → n ≡ one_if b
whole_of true n e = e
whole_of false n e = e

pub spec_mode-mode-requires : goal.spec_mode-mode-requires
spec_mode-mode-requires c = (between-each c.args.id (length c.args.program.now.of.now.tree.nodes) c.loop-at.at c.args.specs.now c.requires (omega arith)).1

pub returns-then-takes : goal.returns-then-takes
returns-then-takes c = λ f.
    let a = c.args.program.now.of.now in
    let mode = c.spec_mode-mode.result in
    let is = taken_so a c.args.specs.now c.loop-at.at c.args.member mode c.modes.result.now c.takes.result true c.modes.ensures c.spec_mode-mode.ensures c.takes.ensures c.if-takes.true in
    let united = whole_of (c.is_union.result) (c.from.result) c.from.ensures in
    united ∙ ap one_if (c.is_union.ensures ∙ ap (λ (ms : List Shape). is_union (shape_at ms mode)) c.modes-then-takes.ensures
    ∙ ap (λ (m : ℕ). is_union (shape_at a.modes m)) c.spec_mode-mode.ensures)
    ∙ sym (whole_step a f c.args.specs.now c.loop-at.at c.args.member true c.loop-at-test.true is) ∙ c.loop-at.invariant.1 f

pub loop-at-preserved : goal.loop-at-preserved
loop-at-preserved c =
    let is = taken_so c.args.program.now.of.now c.args.specs.now c.loop-at.at c.args.member c.spec_mode-mode.result c.modes.result.now c.takes.result false c.modes.ensures c.spec_mode-mode.ensures c.takes.ensures c.if-takes.false in
    (omega arith, λ f. sym (whole_step c.args.program.now.of.now f c.args.specs.now c.loop-at.at c.args.member false c.loop-at-test.true is) ∙ c.loop-at.invariant.1 f)

pub returns : goal.returns
returns c = λ f.
    sym (whole_end c.args.program.now.of.now f c.args.specs.now c.loop-at.at c.args.member (λ less. absurd (omega arith))) ∙ c.loop-at.invariant.1 f
