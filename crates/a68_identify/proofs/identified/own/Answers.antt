use Rattle.std.proofs.Common.{◌<◌, List, Bor, None, length, arith, sym, ◌∙◌, subst}
use Rattle.std.specs.Prelude.{map}
use Rattle.a68_coerce.specs.declared.leaf.Leaf.{Leaf}
use Rattle.a68_identify.proofs.Answering.{own_start, further_more, found_nowhere, is_none, some_own}
use Rattle.a68_identify.specs.Identified.{DefinitionFits, IsFirstThatHolds}
use Rattle.a68_identify.proofs.Sifting.{first_in_range, is_own_on}
use Rattle.a68_ranges.proofs.Layering.{below_more}
use Rattle.a68_ranges.specs.Links.{layered}
use Rattle.a68_identify.proofs.identified.own.Goals as goal

pub outwards-init : goal.outwards-init
outwards-init c =
    let lists = map (λ (o : Bor (List Leaf)). o.now) c.args.formula.now.operands.now in
    record {
      there = c.about-next.ensures.there;
      further = λ about nested. own_start c.args.tree.now c.args.modes.now c.args.of.now.of c.args.formula.now.sign lists c.args.ranges.now.nests.layers about c.about-next.result nested;
    }

pub returns-then-is_some : goal.returns-then-is_some
returns-then-is_some c =
    let lists = map (λ (o : Bor (List Leaf)). o.now) c.args.formula.now.operands.now in
    let first = first_in_range c.args.tree.now c.args.modes.now c.args.of.now.of c.args.formula.now.sign lists c.layer-layer.result.range c.in_ok-found.found
    (subst (λ list. IsFirstThatHolds (DefinitionFits c.args.tree.now c.args.modes.now c.args.of.now.of c.args.formula.now.sign lists) list c.in_ok-found.found) (c.operators-list.ensures c.args.tree.now c.requires.ranges) c.in_ok-found.ensures) in
    λ about lies.
    let rest = layered c.args.tree.now about in
    is_own_on c.args.tree.now c.args.modes.now c.args.of.now.of c.args.formula.now.sign lists about c.in_ok-found.found
    (some_own c.args.tree.now c.args.modes.now c.args.of.now.of c.args.formula.now.sign lists c.args.ranges.now.nests.layers rest c.outwards.next c.in-Some.number c.layer-layer.result c.in_ok-found.found
    (c.outwards.invariant.further rest (c.about-next.ensures.ranges c.args.tree.now c.requires.ranges about lies)) c.in-Some.is c.layer-layer.ensures.is (sym c.is_some.ensures ∙ c.if-is_some.true) first)

pub outwards-preserved : goal.outwards-preserved
outwards-preserved c =
    let lists = map (λ (o : Bor (List Leaf)). o.now) c.args.formula.now.operands.now in
    let layers = c.args.ranges.now.nests.layers in
    let low : c.in-Some.number < length layers = rw c.in-Some.is at c.outwards.invariant.there in
    let first = first_in_range c.args.tree.now c.args.modes.now c.args.of.now.of c.args.formula.now.sign lists c.layer-layer.result.range c.in_ok-found.found
    (subst (λ list. IsFirstThatHolds (DefinitionFits c.args.tree.now c.args.modes.now c.args.of.now.of c.args.formula.now.sign lists) list c.in_ok-found.found) (c.operators-list.ensures c.args.tree.now c.requires.ranges) c.in_ok-found.ensures) in
    record {
      there = below_more c.in-Some.number (length layers) c.layer-layer.result.outer (omega arith) c.layer-layer.ensures.outer;
      further = λ about nested. further_more c.args.tree.now c.args.modes.now c.args.of.now.of c.args.formula.now.sign lists layers about c.outwards.next c.in-Some.number c.layer-layer.result
          (c.outwards.invariant.further about nested) c.in-Some.is c.layer-layer.ensures.is
          (is_none c.args.tree.now c.args.modes.now c.args.of.now.of c.args.formula.now.sign lists c.layer-layer.result.range c.in_ok-found.found (sym c.is_some.ensures ∙ c.if-is_some.false) first);
    }

pub returns : goal.returns
returns c =
    let lists = map (λ (o : Bor (List Leaf)). o.now) c.args.formula.now.operands.now in
    λ about lies.
    let rest = layered c.args.tree.now about in
    is_own_on c.args.tree.now c.args.modes.now c.args.of.now.of c.args.formula.now.sign lists about None
    (found_nowhere c.args.tree.now c.args.modes.now c.args.of.now.of c.args.formula.now.sign lists c.args.ranges.now.nests.layers rest c.outwards.next
    (c.outwards.invariant.further rest (c.about-next.ensures.ranges c.args.tree.now c.requires.ranges about lies)) c.in_default.is)
