use Rattle.std.proofs.Common.{◌∙◌, sym, subst, refl, length, Option, ℕ}
use Rattle.a68_maps.specs.Found.{IsMade}
use Rattle.a68_ranges.proofs.Layering.{declared_read}
use Rattle.a68_ranges.proofs.Seeing.{root_twin, outer_made, root_more}
use Rattle.a68_ranges.specs.Tables.{first_named}
use Rattle.a68_ranges.specs.Visible.{IsOver}
use Rattle.a68_ranges.proofs.visible.root_of.Goals as goal

pub returns-in-Some : goal.returns-in-Some
returns-in-Some c =
    root_twin c.args.tree.now c.args.sort c.args.nests.now.layers c.args.maps.now c.args.roots.now (length c.args.roots.now) c.in-Some.twin _ c.requires.before c.in-Some.ensures refl

pub put_all-requires : goal.put_all-requires
put_all-requires c =
    subst (IsMade c.args.maps.now) (sym c.root_at-outer.ensures)
    (outer_made c.args.tree.now c.args.sort c.args.nests.now.layers c.args.maps.now c.args.roots.now (length c.args.roots.now) c.layer-layer.result.outer c.requires.before c.layer-layer.ensures.outer)

pub returns : goal.returns
returns c =
    let tree = c.args.tree.now in
    let sort = c.args.sort in
    let list = c.list_at.result.now in
    let over = subst (λ (o : Option ℕ). IsOver c.args.maps.now c.put_all.new.maps o c.in_ok-root.root (λ name. first_named tree sort name list)) c.root_at-outer.ensures c.in_ok-root.ensures in
    root_more tree sort c.args.nests.now.layers c.args.maps.now c.put_all.new.maps c.args.roots.now (length c.args.roots.now) c.layer-layer.result list c.in_ok-root.root c.requires.before c.layer-layer.ensures.is
    c.layer-layer.ensures.outer (c.list_at.ensures ∙ declared_read tree c.args.declared.now c.layer-layer.result.range c.requires.declared) over
