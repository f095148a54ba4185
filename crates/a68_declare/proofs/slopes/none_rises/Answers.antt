use Rattle.std.proofs.Common.{◌≡◌, ◌∙◌, ℕ, arith, below_more, sym, true}
use Rattle.std.specs.List.{list_all}
use Rattle.std.specs.Prelude.{nat_le}
use Rattle.a68_declare.specs.Slopes.{height}
use Rattle.a68_equiv.specs.Ways.{row}
use Rattle.a68_declare.proofs.slopes.none_rises.Goals as goal

pub loop-node-preserved : goal.loop-node-preserved
loop-node-preserved c =
    let hs = c.args.heights.now in
    below_more (λ (a : ℕ). list_all (λ b. nat_le (height hs b) (height hs a)) (row c.args.rows.now a) ≡ true) c.loop-node.node c.loop-node.invariant
    (sym c.none_above.ensures ∙ c.if-not-none_above.false)

pub returns : goal.returns
returns c = λ t a there. c.loop-node.invariant a (omega arith)
