use Rattle.std.proofs.Common.{◌≡◌, ◌∙◌, ap, sym}
use Rattle.a68_modes.specs.Nodes.{shape_at}
use Rattle.a68_modes.specs.declared.shape.Shape.TheVariants.{Struct}
use Rattle.a68_layout.proofs.Measures.{known-row, known-structure, known-same}
use Rattle.a68_layout.proofs.measured.learnt.Goals as goal

pub returns-in-Some : goal.returns-in-Some
returns-in-Some c =
    known-row c.args.modes.now c.args.mode c.in-Rows.dims c.in-Rows.flex c.in-Rows.of c.in-Some.inner c.around.result (sym c.in-Rows.is ∙ c.shape.ensures.shape) c.in-Some.ensures c.around.ensures

pub returns-in-Some-fields_known : goal.returns-in-Some-fields_known
returns-in-Some-fields_known c =
    let same : c.deref.result.now ≡ c.in-Struct.fields = c.deref.ensures.value ∙ c.fields.view_is in
    let is : Struct c.deref.result.now ≡ shape_at c.args.modes.now c.args.mode = ap (λ fs. Struct fs) same ∙ sym c.in-Struct.is ∙ c.shape.ensures.shape in
    known-structure c.args.modes.now c.args.mode c.deref.result.now c.in-Some-fields_known.all c.around-in-Struct.result is c.in-Some-fields_known.ensures c.around-in-Struct.ensures

pub returns-in-Some-known_of : goal.returns-in-Some-known_of
returns-in-Some-known_of c =
    known-same c.args.modes.now c.args.mode c.in-Same.to c.in-Some-known_of.inner c.around-in-Same.result (sym c.in-Same.is ∙ c.shape.ensures.shape) c.in-Some-known_of.ensures c.around-in-Same.ensures
