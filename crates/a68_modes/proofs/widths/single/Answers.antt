use Rattle.std.proofs.Common.{arith}
use Rattle.std.proofs.lemmas.List.{get_or_read}
use Rattle.a68_modes.specs.declared.shape.Shape.TheVariants.{Blank}
use Rattle.a68_modes.proofs.Measuring.{known-past, known-single}
use Rattle.a68_modes.proofs.widths.single.Goals as goal

pub returns-then-mode-shapes : goal.returns-then-mode-shapes
returns-then-mode-shapes c = known-past c.args.shapes.now c.args.mode (omega (arith, c.if-mode-shapes.true))

pub returns-in_default : goal.returns-in_default
returns-in_default c =
    known-single c.args.shapes.now c.args.mode c.index-shapes-mode.result
    (get_or_read c.args.shapes.now c.args.mode c.index-shapes-mode.result (omega (arith, c.if-mode-shapes.false)) c.index-shapes-mode.is Blank)
    (λ x e. c.in_default.not-Struct x e) (λ x e. c.in_default.not-Same x e)
