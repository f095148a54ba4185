use Rattle.std.proofs.Common.{◌∙◌, sym, ap}
use Rattle.a68_declare.proofs.Filling.{struct_from, union_from}
use Rattle.a68_modes.specs.Nodes.{shape_at}
use Rattle.a68_declare.proofs.image.shape_from.Goals as goal

pub returns-in_ok-fields-in-Struct-clause-from : goal.returns-in_ok-fields-in-Struct-clause-from
returns-in_ok-fields-in-Struct-clause-from c =
    struct_from c.args.modes.now c.args.to.now c.args.mode _ _ c.deref.result.now (sym (c.shape-shape.ensures.shape ∙ ap (shape_at c.args.modes.now) c.behind.ensures.node) ∙ c.in-Struct.is) (c.deref.ensures.value ∙ c.fields.view_is) c.in_ok-fields-in-Struct.ensures

pub returns-in_ok-images-in-Union-clause-from : goal.returns-in_ok-images-in-Union-clause-from
returns-in_ok-images-in-Union-clause-from c =
    union_from c.args.modes.now c.args.to.now c.args.mode _ _ c.deref-in-Union.result.now _ (sym (c.shape-shape.ensures.shape ∙ ap (shape_at c.args.modes.now) c.behind.ensures.node) ∙ c.in-Union.is) (c.deref-in-Union.ensures.value ∙ c.members.view_is)
    c.in_ok-members-in-Union.ensures.among c.in_ok-images-in-Union.ensures.same c.in_ok-images-in-Union.ensures.once
