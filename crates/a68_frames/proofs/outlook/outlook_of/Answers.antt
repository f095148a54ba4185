use Rattle.std.proofs.Common.{◌≡◌, ◌<◌, ◌+◌, ◌++◌, ◌∷◌, [], List, Bool, sym, subst, length, length-append, arith}
use Rattle.a68_frames.proofs.Outlooking.{views_more}
use Rattle.a68_frames.specs.Outlooks.{AreFirstViews, IsNextView}
use Rattle.a68_frames.specs.declared.outlook.View.{View}
use Rattle.a68_frames.proofs.outlook.outlook_of.Goals as goal

pub frames-preserved : goal.frames-preserved
frames-preserved c =
    let tree = c.args.tree.now in
    let frames = c.args.chains.now.frames in
    let texts = c.in_ok-texts.texts.items in
    let old = c.frames.maps in
    let new = c.next_view.new.maps in
    let views = c.frames.views.items in
    let view = c.in_ok-view.view in
    let one =
    subst (λ (ts : List Bool). IsNextView tree frames ts old new (length views) view) c.deref-in-frames.ensures.value
    (subst (λ (vs : List View). IsNextView tree frames c.deref-in-frames.result.now old new (length vs) view) c.deref.ensures.value c.in_ok-view.ensures) in
    let long : length (views ++ view ∷ []) ≡ length views + 1 = omega (arith, length-append views (view ∷ [])) in
    let low : length views < length frames = omega (arith, c.frames.views.ok.0, c.frames-test.true, c.len.ensures, c.len-in-frames.ensures.is) in
    rw c.in_ok-push.ensures.items (record {
      within = omega (arith, long, low);
      are = subst (λ n. AreFirstViews tree frames texts new (views ++ view ∷ []) n) (sym long) (views_more tree frames texts old new views (length views) view c.frames.invariant.are one);
    })
