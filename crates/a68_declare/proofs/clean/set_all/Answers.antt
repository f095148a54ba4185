use Rattle.std.proofs.Common.{◌≡◌, ◌<◌, ◌∙◌, ℕ, List, length, arith, subst, get_or}
use Rattle.std.proofs.lemmas.List.{get_or_default, length-set}
use Rattle.a68_declare.proofs.Filling.{shape_there, filled_none, filled}
use Rattle.a68_declare.specs.Numbering.{IsShapeFrom}
use Rattle.a68_declare.proofs.clean.set_all.Goals as goal

pub loop-number-init : goal.loop-number-init
loop-number-init c = record { long = c.requires.long; shapes = filled_none c.args.modes.now c.args.numbering.now.to.items c.args.numbering.now.firsts.items c.args.new.now c.requires.blank }

pub set-requires-clause-within : goal.set-requires-clause-within
set-requires-clause-within c =
    let nodes = c.args.modes.now in
    let to = c.args.numbering.now.to.items in
    let firsts = c.args.numbering.now.firsts.items in
    let i = c.loop-number.number in
    let long = c.loop-number.invariant.long in
    let lt : i < length firsts = omega arith in
    let first : c.index-first.result.now ≡ get_or firsts i 0 = c.index-first.ensures ∙ get_or_default firsts i _ 0 lt in
    let from : IsShapeFrom nodes to (get_or firsts i 0) c.in_ok-shape.shape = subst (λ (m : ℕ). IsShapeFrom nodes to m c.in_ok-shape.shape) first (subst (λ (xs : List ℕ). IsShapeFrom nodes xs c.index-first.result.now c.in_ok-shape.shape) c.deref.ensures.value c.in_ok-shape.ensures.from) in
    rw long (shape_there nodes to firsts (get_or firsts i 0) c.in_ok-shape.shape c.len-there.ensures.nodes c.requires.numbering (c.requires.numbering.firsts_there i lt) from)

pub loop-number-preserved : goal.loop-number-preserved
loop-number-preserved c =
    let nodes = c.args.modes.now in
    let to = c.args.numbering.now.to.items in
    let firsts = c.args.numbering.now.firsts.items in
    let i = c.loop-number.number in
    let long = c.loop-number.invariant.long in
    let lt : i < length firsts = omega arith in
    let first : c.index-first.result.now ≡ get_or firsts i 0 = c.index-first.ensures ∙ get_or_default firsts i _ 0 lt in
    let from : IsShapeFrom nodes to (get_or firsts i 0) c.in_ok-shape.shape = subst (λ (m : ℕ). IsShapeFrom nodes to m c.in_ok-shape.shape) first (subst (λ (xs : List ℕ). IsShapeFrom nodes xs c.index-first.result.now c.in_ok-shape.shape) c.deref.ensures.value c.in_ok-shape.ensures.from) in
    rw c.set.ensures (record {
      long = length-set c.loop-number.new i c.in_ok-shape.shape ∙ long;
      shapes = filled nodes to firsts i c.loop-number.new c.in_ok-shape.shape (omega arith) from c.in_ok-shape.ensures.rising c.loop-number.invariant.shapes;
    })
