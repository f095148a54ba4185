use Rattle.std.proofs.Common.{◌≡◌, ◌<◌, List, Bor, length, arith, sym, ◌∙◌}
use Rattle.std.specs.Prelude.{map}
use Rattle.std.proofs.lemmas.Bool.{false≢true}
use Rattle.a68_coerce.specs.declared.leaf.Leaf.{Leaf}
use Rattle.a68_identify.proofs.Firsts.{first_at, none_in, none_more}
use Rattle.a68_identify.specs.Identified.{StandardFits}
use Rattle.a68_ranges.proofs.Taking.{read}
use Rattle.a68_identify.proofs.identified.first_standard.Goals as goal

pub returns-then-branch : goal.returns-then-branch
returns-then-branch c =
    let lists = map (λ (o : Bor (List Leaf)). o.now) c.args.operands.now in
    let i = c.loop-operator.operator-index in
    let lt : i < length c.args.operators.now = omega arith in
    first_at (StandardFits c.args.modes.now lists) c.args.operators.now i _ (read c.args.operators.now i _ lt) (c.in_ok-standard_fits.ensures.0 c.if-branch.true) c.loop-operator.invariant

pub loop-operator-preserved : goal.loop-operator-preserved
loop-operator-preserved c =
    let lists = map (λ (o : Bor (List Leaf)). o.now) c.args.operands.now in
    let i = c.loop-operator.operator-index in
    let lt : i < length c.args.operators.now = omega arith in
    none_more (StandardFits c.args.modes.now lists) c.args.operators.now i _ (read c.args.operators.now i _ lt)
    (λ f. false≢true (sym c.if-branch.false ∙ c.in_ok-standard_fits.ensures.1 f)) c.loop-operator.invariant

pub returns : goal.returns
returns c =
    let lists = map (λ (o : Bor (List Leaf)). o.now) c.args.operands.now in
    let all : c.loop-operator.operator-index ≡ length c.args.operators.now = omega arith in
    none_in (StandardFits c.args.modes.now lists) c.args.operators.now c.loop-operator.operator-index all c.loop-operator.invariant
