use Rattle.std.proofs.Common.{◌≡◌, ◌<◌, ◌+◌, ◌∙◌, ◌++◌, ◌∷◌, [], List, length, take, arith, refl, rules, sym, append-nil}
use Rattle.std.specs.Prelude.{slice_index_or}
use Rattle.a68_coerce.specs.declared.leaf.Leaf.{Leaf}
use Rattle.a68_ranges.proofs.Taking.{read, take_next}
use Rattle.a68_tree.specs.Trees.{AllBetween}
use Rattle.a68_yields.proofs.Collecting.{skips_taken, to_last, to_part, unit_taken, unknown_has_none, front_has_none, between_at, between_front, through_one, all_of, all_true, all_false, one_true, one_false, no_items}
use Rattle.a68_yields.specs.Leaves.{AllHaveLeaves, HasLeaves, HasNoLeaves, chosen, no_more}
use Rattle.a68_yields.proofs.leaves.+collect.Goals as goal

pub add-returns-in-Unknown : goal.add-returns-in-Unknown
add-returns-in-Unknown t c = unknown_has_none c.args.tree.now c.args.yields.now c.args.node c.down.at c.down.skips c.args.found.now.items c.down.found.items (sym c.yield_of.ensures ∙ c.in-Unknown.is) c.down.invariant

pub add-returns-in-Unit : goal.add-returns-in-Unit
add-returns-in-Unit t c = unit_taken c.args.tree.now c.args.yields.now c.args.node c.down.at c.down.skips c.args.found.now.items c.down.found.items _ c.in-Unit.leaf (sym c.yield_of.ensures ∙ c.in-Unit.is)
    (rw (← c.in_ok-push-in-Unit.ensures.items) c.in_ok-add_skips-in-Unit.ensures) c.down.invariant

pub add-down-preserved-in-Part : goal.add-down-preserved-in-Part
add-down-preserved-in-Part t c =
    let ahead : (c.down.at < c.in-Part.part) × (c.in-Part.part < length c.args.tree.now.nodes) = c.requires.ahead c.down.at c.in-Part.part (sym c.yield_of.ensures ∙ c.in-Part.is) in
    to_part c.args.tree.now c.args.yields.now c.args.node c.down.at c.down.skips c.in-Part.part c.args.found.now.items c.down.found.items (sym c.yield_of.ensures ∙ c.in-Part.is) ahead.0 ahead.1 c.down.invariant

pub add-returns-in_default : goal.add-returns-in_default
add-returns-in_default t c =
    let none : length c.in_ok-parts-in-Choice.parts.items ≡ 0 = sym c.in_ok-parts-in-Choice.parts.ok.0 ∙ c.in_default.ensures.cases.0 in
    let parts : chosen c.args.tree.now c.down.at ≡ [] = sym c.in_ok-parts-in-Choice.ensures ∙ no_items c.in_ok-parts-in-Choice.parts.items none in
    skips_taken c.args.tree.now c.args.yields.now c.args.node c.down.at c.down.skips c.skips_of.result c.args.found.now.items c.down.found.items _ (sym c.yield_of.ensures ∙ c.in-Choice.is) parts
    c.skips_of.ensures.skips c.in_ok-add_skips-in-Choice.ensures c.down.invariant

pub add-add_all-requires : goal.add-add_all-requires
add-add_all-requires t c =
    let parts : chosen c.args.tree.now c.down.at ≡ c.pop.new.self.items ++ c.in-Some.last ∷ [] = sym c.in_ok-parts-in-Choice.ensures ∙ c.in-Some.ensures.items in
    let b : AllBetween c.down.at (length c.args.tree.now.nodes) c.pop.new.self.items × (c.down.at < c.in-Some.last) × (c.in-Some.last < length c.args.tree.now.nodes) =
    between_front c.down.at (length c.args.tree.now.nodes) c.pop.new.self.items c.in-Some.last (rw (← parts) c.follow.ensures) in
    (omega (arith, c.decreases, c.down.invariant.from, c.down.invariant.there, c.requires.there), (c.requires.ahead, rw c.deref.ensures.value b.0))

pub add-returns-then-not-branch : goal.add-returns-then-not-branch
add-returns-then-not-branch t c =
    let parts : chosen c.args.tree.now c.down.at ≡ c.pop.new.self.items ++ c.in-Some.last ∷ [] = sym c.in_ok-parts-in-Choice.ensures ∙ c.in-Some.ensures.items in
    let none : (found : List Leaf) → AllHaveLeaves c.args.tree.now c.args.yields.now c.deref.result.now found → ⊥ =
    all_false c.args.tree.now c.args.yields.now c.deref.result.now _ _ c.in_ok-add_all-in-Choice.field-0 c.in_ok-add_all-in-Choice.ensures (Prim.search rules) in
    front_has_none c.args.tree.now c.args.yields.now c.args.node c.down.at c.down.skips c.in-Some.last c.pop.new.self.items c.args.found.now.items c.down.found.items
    (sym c.yield_of.ensures ∙ c.in-Choice.is) parts (rw (← c.deref.ensures.value) none) c.down.invariant

pub add-down-smaller : goal.add-down-smaller
add-down-smaller t c =
    let parts : chosen c.args.tree.now c.down.at ≡ c.pop.new.self.items ++ c.in-Some.last ∷ [] = sym c.in_ok-parts-in-Choice.ensures ∙ c.in-Some.ensures.items in
    let b : AllBetween c.down.at (length c.args.tree.now.nodes) c.pop.new.self.items × (c.down.at < c.in-Some.last) × (c.in-Some.last < length c.args.tree.now.nodes) =
    between_front c.down.at (length c.args.tree.now.nodes) c.pop.new.self.items c.in-Some.last (rw (← parts) c.follow.ensures) in
    omega (arith, b.1, b.2, c.down.invariant.there)

pub add-down-preserved : goal.add-down-preserved
add-down-preserved t c =
    let parts : chosen c.args.tree.now c.down.at ≡ c.pop.new.self.items ++ c.in-Some.last ∷ [] = sym c.in_ok-parts-in-Choice.ensures ∙ c.in-Some.ensures.items in
    let b : AllBetween c.down.at (length c.args.tree.now.nodes) c.pop.new.self.items × (c.down.at < c.in-Some.last) × (c.in-Some.last < length c.args.tree.now.nodes) =
    between_front c.down.at (length c.args.tree.now.nodes) c.pop.new.self.items c.in-Some.last (rw (← parts) c.follow.ensures) in
    let all : (leaves : List Leaf) × AllHaveLeaves c.args.tree.now c.args.yields.now c.deref.result.now leaves × (c.add_all.new.found.items ≡ c.down.found.items ++ leaves) =
    all_true c.args.tree.now c.args.yields.now c.deref.result.now _ _ c.in_ok-add_all-in-Choice.field-0 c.in_ok-add_all-in-Choice.ensures (Prim.search rules) in
    to_last c.args.tree.now c.args.yields.now c.args.node c.down.at c.down.skips c.skips_of.result c.in-Some.last c.pop.new.self.items c.args.found.now.items c.down.found.items c.add_all.new.found.items all.0
    (sym c.yield_of.ensures ∙ c.in-Choice.is) parts c.skips_of.ensures.skips c.skips_of.ensures.few b.1 b.2 (rw (← c.deref.ensures.value) all.1) all.2 c.down.invariant

pub add_all-loop-node-init : goal.add_all-loop-node-init
add_all-loop-node-init t c = record { taken = []; now_is = sym (append-nil c.args.found.now.items); all = no_more refl }

pub add_all-add-requires : goal.add_all-add-requires
add_all-add-requires t c =
    let b : (c.args.behind < slice_index_or c.args.nodes.now c.loop-node.node-index 0) × (slice_index_or c.args.nodes.now c.loop-node.node-index 0 < length c.args.tree.now.nodes) =
    between_at c.args.behind (length c.args.tree.now.nodes) c.args.nodes.now c.loop-node.node-index c.requires.behind c.loop-node-test.true in
    (omega (arith, c.decreases, b.0, b.1), (c.requires.ahead, b.1))

pub add_all-returns-then-not-branch : goal.add_all-returns-then-not-branch
add_all-returns-then-not-branch t c leaves all =
    let none : HasNoLeaves c.args.tree.now c.args.yields.now (slice_index_or c.args.nodes.now c.loop-node.node-index 0) =
    one_false c.args.tree.now c.args.yields.now _ _ _ c.in_ok-add.field-0 c.in_ok-add.ensures (Prim.search rules) in
    let some : (ls : List Leaf) × HasLeaves c.args.tree.now c.args.yields.now (slice_index_or c.args.nodes.now c.loop-node.node-index 0) ls =
    all_of c.args.tree.now c.args.yields.now c.args.nodes.now c.loop-node.node-index leaves c.loop-node-test.true all in
    none some.0 some.1

pub add_all-loop-node-preserved : goal.add_all-loop-node-preserved
add_all-loop-node-preserved t c =
    let has : (leaves : List Leaf) × HasLeaves c.args.tree.now c.args.yields.now (slice_index_or c.args.nodes.now c.loop-node.node-index 0) leaves × (c.add.new.found.items ≡ c.loop-node.found.items ++ leaves) =
    one_true c.args.tree.now c.args.yields.now _ _ _ c.in_ok-add.field-0 c.in_ok-add.ensures (Prim.search rules) in
    let next : take (c.loop-node.node-index + 1) c.args.nodes.now ≡ take c.loop-node.node-index c.args.nodes.now ++ slice_index_or c.args.nodes.now c.loop-node.node-index 0 ∷ [] =
    take_next c.args.nodes.now c.loop-node.node-index _ (read c.args.nodes.now c.loop-node.node-index 0 c.loop-node-test.true) in
    through_one c.args.tree.now c.args.yields.now c.args.nodes.now c.loop-node.node-index _ c.args.found.now.items c.loop-node.found.items c.add.new.found.items has.0 next has.1 has.2 c.loop-node.invariant
