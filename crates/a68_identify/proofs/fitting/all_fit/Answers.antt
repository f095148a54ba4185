use Rattle.std.proofs.Common.{◌<◌, ◌≤◌, length, List, Bor, arith, sym, ◌∙◌}
use Rattle.std.specs.Prelude.{map}
use Rattle.std.proofs.lemmas.Bool.{false≢true}
use Rattle.a68_coerce.specs.declared.leaf.Leaf.{Leaf}
use Rattle.a68_identify.specs.Identified.{OperandFits}
use Rattle.a68_identify.proofs.Pairing.{no_pairs, no_pair, one_pair_more, all_pairs, mapped, length_of_map}
use Rattle.a68_ranges.proofs.Taking.{read, read_is}
use Rattle.a68_identify.proofs.fitting.all_fit.Goals as goal

pub returns-then-operands-parameters : goal.returns-then-operands-parameters
returns-then-operands-parameters c =
    let f = λ (o : Bor (List Leaf)). o.now in
    let long = length_of_map f c.args.operands.now in
    no_pairs (OperandFits c.args.modes.now) (map f c.args.operands.now) c.args.parameters.now (λ e. c.if-operands-parameters.true (sym long ∙ e))

pub operand_fits-requires-clause-met : goal.operand_fits-requires-clause-met
operand_fits-requires-clause-met c =
    let f = λ (o : Bor (List Leaf)). o.now in
    let i = c.loop-i.i in
    let long = c.requires.mets.long in
    let same = length_of_map f c.args.operands.now in
    let one : i < length c.args.operands.now = omega arith in
    let low : i < length c.args.mets.now = omega (arith, one, long, same) in
    c.requires.mets.each i _ c.index-mets-i.result (mapped f c.args.operands.now i _ one) (read_is c.args.mets.now i c.index-mets-i.result c.index-mets-i.result low c.index-mets-i.is)

pub returns-then-not-branch : goal.returns-then-not-branch
returns-then-not-branch c =
    let f = λ (o : Bor (List Leaf)). o.now in
    let i = c.loop-i.i in
    let one : i < length c.args.operands.now = omega arith in
    let other : i < length c.args.parameters.now = omega arith in
    no_pair (OperandFits c.args.modes.now) (map f c.args.operands.now) c.args.parameters.now i _ _ (mapped f c.args.operands.now i _ one) (read c.args.parameters.now i 0 other)
    (λ r. false≢true (sym c.if-not-branch.true ∙ c.in_ok-operand_fits.ensures.1 r))

pub loop-i-preserved : goal.loop-i-preserved
loop-i-preserved c =
    let f = λ (o : Bor (List Leaf)). o.now in
    let i = c.loop-i.i in
    let one : i < length c.args.operands.now = omega arith in
    let other : i < length c.args.parameters.now = omega arith in
    one_pair_more (OperandFits c.args.modes.now) (map f c.args.operands.now) c.args.parameters.now i _ _ (mapped f c.args.operands.now i _ one) (read c.args.parameters.now i 0 other)
    (c.in_ok-operand_fits.ensures.0 c.if-not-branch.false) c.loop-i.invariant

pub returns : goal.returns
returns c =
    let f = λ (o : Bor (List Leaf)). o.now in
    let long = length_of_map f c.args.operands.now in
    let all : length (map f c.args.operands.now) ≤ c.loop-i.i = omega (arith, long) in
    all_pairs (OperandFits c.args.modes.now) (map f c.args.operands.now) c.args.parameters.now c.loop-i.i (long ∙ c.if-operands-parameters.false) all c.loop-i.invariant
