use Rattle.std.proofs.Common.{◌≡◌, ◌<◌, ℕ, List, length, arith, ap, sym, ◌∙◌, subst}
use Rattle.a68_annot.specs.declared.annotated.Annotated.{Annotated}
use Rattle.a68_elab.specs.Made as made
use Rattle.a68_emit.proofs.Ordered.{number_is, up_to_long}
use Rattle.a68_emit.proofs.numbered.Numbered.unit_number.Goals as goal

pub index-requires : goal.index-requires
index-requires c =
    let a = c.self.inside.program.now in
    let end = made.behind_all a.tree.nodes in
    let long : length c.self.inside.units.items ≡ end = ap (λ (l : List ℕ). length l) c.self.invariant.0.units_by_byte ∙ up_to_long (made.unit_number a) end in
    let less : c.args.byte < end = subst (λ (x : Annotated). c.args.byte < made.behind_all x.tree.nodes) (sym c.self.view_is) c.requires in
    omega (arith, long, less, c.self.inside.units.ok)

pub returns : goal.returns
returns c =
    let a = c.self.inside.program.now in
    let end = made.behind_all a.tree.nodes in
    let less : c.args.byte < end = subst (λ (x : Annotated). c.args.byte < made.behind_all x.tree.nodes) (sym c.self.view_is) c.requires in
    number_is (made.unit_number a) c.self.inside.units.items end c.args.byte c.index.result.now c.self.invariant.0.units_by_byte less c.index.ensures
    ∙ ap (λ (x : Annotated). made.unit_number x c.args.byte) c.self.view_is
