use Rattle.std.proofs.Common.{◌≡◌, ◌+◌, ℕ, List, sym, ◌∙◌, ap, subst}
use Rattle.std.proofs.lemmas.Option.{same_Some}
use Rattle.std.specs.Option.{option_map}
use Rattle.std.specs.declared.option.Option.{Option}
use Rattle.a68_emit.proofs.Ordered.{units_node, units_same}
use Rattle.a68_emit.proofs.numbered.note_units.Goals as goal
use Rattle.a68_emit.specs.Texts.{AreFirstUnits}
use Rattle.a68_tree.specs.declared.node.Node.{Node}

pub returns-then-is_parallel : goal.returns-then-is_parallel
returns-then-is_parallel c =
    let a = c.args.program.now in
    let n : Node = c.node-node.result.now in
    let these : n.parts ≡ c.parts.result.now = same_Some n.parts c.parts.result.now (sym (ap (λ (o : Option Node). option_map (λ (m : Node). m.parts) o) c.node-node.ensures.is) ∙ c.parts.ensures.is) in
    units_node a c.note_all.new.table c.args.id n c.node-node.ensures.is (sym c.is_parallel.ensures ∙ c.if-is_parallel.true)
    (subst (λ (ps : List ℕ). AreFirstUnits a n.span.from ps (c.args.id + 1) c.note_all.new.table) (sym these) c.note_all.ensures)

pub returns-else-is_parallel : goal.returns-else-is_parallel
returns-else-is_parallel c =
    units_same c.args.program.now c.args.table.now c.args.id c.node-node.result.now c.node-node.ensures.is (sym c.is_parallel.ensures ∙ c.if-is_parallel.false) c.requires.behind
