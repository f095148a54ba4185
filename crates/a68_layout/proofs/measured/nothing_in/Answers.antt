use Rattle.std.proofs.Common.{arith}
use Rattle.a68_layout.proofs.Leaves.{leaf, leaf-past}
use Rattle.a68_layout.proofs.Measures.{known-leaf}
use Rattle.a68_layout.proofs.measured.nothing_in.Goals as goal

pub returns-then-mode-len : goal.returns-then-mode-len
returns-then-mode-len c = known-leaf c.args.modes.now c.args.mode (leaf-past c.args.modes.now c.args.mode (omega (arith, c.len.ensures.length, c.if-mode-len.true)))

pub returns-in_default : goal.returns-in_default
returns-in_default c =
    known-leaf c.args.modes.now c.args.mode
    (leaf c.args.modes.now c.args.mode c.shape.result.now c.shape.ensures.shape (λ d f m e. c.in_default.not-Rows d f m e) (λ x e. c.in_default.not-Struct x e) (λ x e. c.in_default.not-Same x e))
