use Rattle.std.proofs.Common.{◌≡◌, ◌<◌, List, Bor, length, arith, sym, ◌∙◌}
use Rattle.std.specs.Prelude.{map}
use Rattle.std.proofs.lemmas.Bool.{false≢true}
use Rattle.a68_coerce.specs.declared.leaf.Leaf.{Leaf}
use Rattle.a68_identify.proofs.Firsts.{first_at, none_in, none_more}
use Rattle.a68_identify.specs.Identified.{DefinitionFits}
use Rattle.a68_ranges.proofs.Taking.{read}
use Rattle.a68_identify.proofs.identified.first_definition.Goals as goal

pub returns-then-branch : goal.returns-then-branch
returns-then-branch c =
    let lists = map (λ (o : Bor (List Leaf)). o.now) c.args.formula.now.operands.now in
    let i = c.loop-definition.definition-index in
    let lt : i < length c.args.list.now = omega arith in
    first_at (DefinitionFits c.args.tree.now c.args.modes.now c.args.of.now.of c.args.formula.now.sign lists) c.args.list.now i _ (read c.args.list.now i 0 lt) (c.in_ok-definition_fits.ensures.0 c.if-branch.true) c.loop-definition.invariant

pub loop-definition-preserved : goal.loop-definition-preserved
loop-definition-preserved c =
    let lists = map (λ (o : Bor (List Leaf)). o.now) c.args.formula.now.operands.now in
    let i = c.loop-definition.definition-index in
    let lt : i < length c.args.list.now = omega arith in
    none_more (DefinitionFits c.args.tree.now c.args.modes.now c.args.of.now.of c.args.formula.now.sign lists) c.args.list.now i _ (read c.args.list.now i 0 lt)
    (λ f. false≢true (sym c.if-branch.false ∙ c.in_ok-definition_fits.ensures.1 f)) c.loop-definition.invariant

pub returns : goal.returns
returns c =
    let lists = map (λ (o : Bor (List Leaf)). o.now) c.args.formula.now.operands.now in
    let all : c.loop-definition.definition-index ≡ length c.args.list.now = omega arith in
    none_in (DefinitionFits c.args.tree.now c.args.modes.now c.args.of.now.of c.args.formula.now.sign lists) c.args.list.now c.loop-definition.definition-index all c.loop-definition.invariant
