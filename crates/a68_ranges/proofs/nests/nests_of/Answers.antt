use Rattle.std.proofs.Common.{ℕ, List, Option, arith, subst}
use Rattle.std.specs.Vec.{vec_len}
use Rattle.a68_ranges.specs.Tables.{IsNestOf}
use Rattle.std.proofs.lemmas.Option.{slice_get_read}
use Rattle.a68_ranges.proofs.Layering.{nests_step}
use Rattle.a68_ranges.proofs.nests.nests_of.Goals as goal

pub loop-id-preserved : goal.loop-id-preserved
loop-id-preserved c =
    let parents = c.in_ok-parents.parents in
    let known = c.in_ok-parents.ensures in
    let long = known.long in
    let parent = c.index.result.now in
    let is = slice_get_read parents.items (vec_len parents) c.loop-id.id parent (omega (arith, parents.ok)) (omega (arith, parents.ok)) c.index.ensures in
    let given = subst (λ (a : List (Option ℕ)). IsNestOf c.args.tree.now a c.loop-id.layers.items c.nest_of.new.layers.items c.loop-id.id parent c.in_ok-nest.nest) c.deref.ensures.value c.in_ok-nest.ensures in
    rw c.in_ok-push.ensures.items (nests_step c.args.tree.now c.loop-id.id c.loop-id.about.items c.loop-id.layers.items c.nest_of.new.layers.items parent c.in_ok-nest.nest c.loop-id.invariant (known.each c.loop-id.id parent is) given)
