use Rattle.std.proofs.Common.{◌≡◌, ◌<◌, ◌*◌, ◌∙◌, arith, length, ℕ, ap, subst}
use Rattle.a68_modes.specs.Nodes.{shape_at, ShapeIsWithin}
use Rattle.a68_equiv.specs.declared.steps.Inward.TheVariants.{WithinUnions}
use Rattle.a68_equiv.specs.Ways.{steps_of}
use Rattle.a68_equiv.specs.Unfolding.{unfolded}
use Rattle.a68_equiv.specs.Graph.{AreRows}
use Rattle.a68_equiv.proofs.Graphing.{head_below, both_more}
use Rattle.a68_equiv.proofs.Stepping.{steps_within}
use Rattle.a68_equiv.proofs.graph.rows.Goals as goal

pub returns-clause-few : goal.returns-clause-few
returns-clause-few c = let l = c.loop-id.invariant.long in let f = c.len-id-end.ensures.nodes.few in omega arith

pub returns-clause-rows : goal.returns-clause-rows
returns-clause-rows c =
    let all : c.loop-id.id ≡ length c.args.modes.now = omega arith in
    subst (λ (n : ℕ). AreRows c.args.modes.now (2 * n) c.loop-id.rows.items) all c.loop-id.invariant

pub shape-shape-requires : goal.shape-shape-requires
shape-shape-requires c =
    let lt : c.loop-id.id < length c.args.modes.now = omega arith in
    head_below c.args.modes.now c.args.behind.now c.len-id-end.ensures.nodes c.requires c.loop-id.id lt

pub both_rows-requires-clause-start : goal.both_rows-requires-clause-start
both_rows-requires-clause-start c =
    let nodes = c.args.modes.now in
    let lt : c.loop-id.id < length nodes = omega arith in
    let head = head_below nodes c.args.behind.now c.len-id-end.ensures.nodes c.requires c.loop-id.id lt in
    let within : ShapeIsWithin (length nodes) c.shape-shape.result.now = rw c.shape-shape.ensures.shape (c.len-id-end.ensures.nodes.within _ head) in
    rw (c.deref.ensures.value, c.start.view_is, c.in_ok-start.ensures) (steps_within WithinUnions (length nodes) c.shape-shape.result.now within)

pub both_rows-requires-clause-within : goal.both_rows-requires-clause-within
both_rows-requires-clause-within c =
    let nodes = c.args.modes.now in
    let lt : c.loop-id.id < length nodes = omega arith in
    rw c.shape-shape.ensures.shape (c.len-id-end.ensures.nodes.within _ (head_below nodes c.args.behind.now c.len-id-end.ensures.nodes c.requires c.loop-id.id lt))

pub loop-id-preserved : goal.loop-id-preserved
loop-id-preserved c =
    let nodes = c.args.modes.now in
    let id = c.loop-id.id in
    let lt : id < length nodes = omega arith in
    let shape : c.shape-shape.result.now ≡ unfolded nodes id = c.shape-shape.ensures.shape ∙ ap (shape_at nodes) (c.requires.each id lt) in
    let start : c.deref.result.now ≡ steps_of WithinUnions (unfolded nodes id) = c.deref.ensures.value ∙ c.start.view_is ∙ c.in_ok-start.ensures ∙ ap (steps_of WithinUnions) shape in
    both_more nodes c.len-id-end.ensures.nodes c.loop-id.rows.items c.push.new.self.items c.push-in-loop-id.new.self.items id c.deref.result.now c.shape-shape.result.now _ _ lt c.loop-id.invariant start shape
    c.in_ok-with.ensures.kept c.in_ok-with.ensures.taken c.in_ok-push.ensures.items c.in_ok-push-2.ensures.items
