use Rattle.std.proofs.Common.{◌≡◌, ◌∙◌, ◌+◌, sym, subst, length, ap, arith, Bool, Some}
use Rattle.std.specs.Prelude.{if◌then◌else◌, slice_index_or, false}
use Rattle.a68_frames.proofs.Outlooking.{outside_made, outside_few, next_is}
use Rattle.a68_frames.specs.Frames.{with_slots}
use Rattle.a68_frames.specs.Outlooks.{HoldsAll, view_at}
use Rattle.a68_frames.specs.declared.outlook.View.{View}
use Rattle.a68_maps.specs.Found.{IsMade}
use Rattle.a68_frames.proofs.outlook.next_view.Goals as goal

pub put_slots-requires : goal.put_slots-requires
put_slots-requires c =
    let maps = c.args.maps.now in
    let views = c.args.views.now in
    let frame = c.frame-frame.result in
    subst (λ (v : View). IsMade maps v.slots) (sym c.view_at-outside.ensures)
    (outside_made c.args.tree.now c.args.chains.now.frames c.args.texts.now maps maps views (length views) frame c.requires.before c.frame-frame.ensures.is c.frame-frame.ensures.outer frame.outer c.frame-frame.ensures.outer)

pub overflow_add-result : goal.overflow_add-result
overflow_add-result c =
    let maps = c.args.maps.now in
    let views = c.args.views.now in
    let frame = c.frame-frame.result in
    let few = outside_few c.args.tree.now c.args.chains.now.frames c.args.texts.now maps maps views (length views) frame c.requires.before c.frame-frame.ensures.is c.frame-frame.ensures.outer in
    let depth : c.view_at-outside.result.depth ≡ (view_at views frame.outer).depth = ap (λ (v : View). v.depth) c.view_at-outside.ensures in
    omega (arith, few, depth, c.requires.there, c.frame-frame.ensures.few)

pub returns : goal.returns
returns c =
    let maps = c.args.maps.now in
    let new = c.put_slots.new.maps in
    let views = c.args.views.now in
    let frame = c.frame-frame.result in
    let outside = view_at views frame.outer in
    let list = c.declared_at-list.result.now in
    let is = c.view_at-outside.ensures in
    let holds = subst (λ (v : View). HoldsAll maps new v.slots (with_slots c.args.tree.now list) (length views) c.in_ok-slots.slots) is c.in_ok-slots.ensures in
    let text = c.text_of.ensures ∙ ap (λ (b : Bool). if b then Some (length views) else c.view_at-outside.result.text) c.is_told.ensures ∙ ap (λ (v : View). if slice_index_or c.args.texts.now frame.range false then Some (length views) else v.text) is in
    next_is c.args.tree.now c.args.chains.now.frames c.args.texts.now maps new views (length views) frame c.requires.before c.frame-frame.ensures.is c.frame-frame.ensures.outer _ list c.declared_at-list.ensures holds
    (ap (λ (v : View). v.depth + 1) is) text
