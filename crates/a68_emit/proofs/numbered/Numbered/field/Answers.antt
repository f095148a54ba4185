use Rattle.std.proofs.Common.{◌≡◌, ◌<◌, ◌∙◌, length, arith, refl, sym, subst, slice_get, Some}
use Rattle.std.proofs.lemmas.Option.{slice_get_read}
use Rattle.std.specs.Option.{option_map}
use Rattle.a68_annot.specs.declared.annotated.Annotated.{Annotated}
use Rattle.a68_parts.proofs.Selecting.{place_at, places_long}
use Rattle.a68_parts.specs.Selecting.{selected}
use Rattle.a68_emit.proofs.numbered.Numbered.field.Goals as goal

pub index-requires : goal.index-requires
index-requires c =
    let less : c.args.id < length c.self.inside.program.now.tree.nodes = subst (λ (x : Annotated). c.args.id < length x.tree.nodes) (sym c.self.view_is) c.requires in
    let long : length c.self.inside.fields.items ≡ length c.self.inside.program.now.tree.nodes = places_long c.self.inside.program.now c.self.inside.fields.items c.self.invariant.1 in
    omega (arith, long, less, c.self.inside.fields.ok)

pub returns : goal.returns
returns c =
    let less : c.args.id < length c.self.inside.program.now.tree.nodes = subst (λ (x : Annotated). c.args.id < length x.tree.nodes) (sym c.self.view_is) c.requires in
    let long : length c.self.inside.fields.items ≡ length c.self.inside.program.now.tree.nodes = places_long c.self.inside.program.now c.self.inside.fields.items c.self.invariant.1 in
    let there : c.args.id < length c.self.inside.fields.items = omega (arith, long, less) in
    subst (λ (x : Annotated). option_map (selected x) (slice_get x.tree.nodes c.args.id) ≡ Some c.index.result.now) c.self.view_is
    (place_at c.self.inside.program.now c.self.inside.fields.items c.args.id c.self.invariant.1 ∙ slice_get_read c.self.inside.fields.items (length c.self.inside.fields.items) c.args.id c.index.result.now refl there c.index.ensures)
