use Rattle.std.proofs.Common.{◌≡◌, ◌∙◌, ap, sym}
use Rattle.std.proofs.lemmas.List.{get_or_read}
use Rattle.a68_modes.specs.Nodes.{shape_at}
use Rattle.a68_modes.specs.declared.shape.Shape.TheVariants.{Blank, Struct}
use Rattle.a68_modes.proofs.Measuring.{known-same, known-structure}
use Rattle.a68_modes.proofs.widths.learnt.Goals as goal

pub returns-in-Some : goal.returns-in-Some
returns-in-Some c =
    let same : c.deref.result.now ≡ c.in-Struct.fields = c.deref.ensures.value ∙ c.fields.view_is in
    let at : c.index-shapes-mode.result ≡ shape_at c.args.shapes.now c.args.mode = get_or_read c.args.shapes.now c.args.mode c.index-shapes-mode.result c.requires.there c.index-shapes-mode.is Blank in
    let is : Struct c.deref.result.now ≡ shape_at c.args.shapes.now c.args.mode = ap (λ fs. Struct fs) same ∙ sym c.in-Struct.is ∙ at in
    known-structure c.args.shapes.now c.args.mode c.deref.result.now c.in-Some.all c.around.result is c.in-Some.ensures c.around.ensures

pub returns-in-Some-known_of : goal.returns-in-Some-known_of
returns-in-Some-known_of c =
    let at : c.index-shapes-mode.result ≡ shape_at c.args.shapes.now c.args.mode = get_or_read c.args.shapes.now c.args.mode c.index-shapes-mode.result c.requires.there c.index-shapes-mode.is Blank in
    known-same c.args.shapes.now c.args.mode c.in-Same.to c.in-Some-known_of.inner c.around-in-Same.result (sym c.in-Same.is ∙ at) c.in-Some-known_of.ensures c.around-in-Same.ensures
