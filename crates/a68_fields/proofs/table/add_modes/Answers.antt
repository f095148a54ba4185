use Rattle.std.proofs.Common.{◌≡◌, ◌∙◌, ℕ, length, ap, sym, subst, arith}
use Rattle.a68_fields.proofs.Adding.{fields_all, fields_more}
use Rattle.a68_fields.specs.Fields.{AreFieldsBefore, at_key, fields_of, first_field}
use Rattle.a68_modes.specs.Nodes.{shape_at}
use Rattle.a68_fields.proofs.table.add_modes.Goals as goal

pub loop-node-preserved : goal.loop-node-preserved
loop-node-preserved c =
    let own : (tag : ℕ) → at_key c.add_all.new.fields.entries c.loop-node.node tag ≡ first_field 0 tag (fields_of (shape_at c.args.modes.now c.loop-node.node)) =
    λ tag. c.in_ok-add_all.ensures.own tag ∙ ap (first_field 0 tag) (c.fields_of.ensures ∙ ap fields_of c.shape.ensures.shape) in
    fields_more c.args.modes.now c.loop-node.node c.loop-node.fields.entries c.add_all.new.fields.entries c.loop-node.invariant own c.in_ok-add_all.ensures.others

pub returns : goal.returns
returns c =
    let all : c.loop-node.node ≡ length c.args.modes.now = omega (arith, c.len-node-end.ensures.length) in
    fields_all c.args.modes.now c.loop-node.fields.entries (subst (AreFieldsBefore c.args.modes.now c.loop-node.fields.entries) all c.loop-node.invariant)
