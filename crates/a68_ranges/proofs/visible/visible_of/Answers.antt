use Rattle.std.proofs.Common.{◌≡◌, ◌<◌, ◌+◌, ◌++◌, ◌∷◌, [], List, Option, ℕ, sym, subst, length, length-append, arith}
use Rattle.a68_ranges.proofs.Seeing.{roots_more}
use Rattle.a68_ranges.specs.Visible.{AreRoots, IsRoot}
use Rattle.a68_ranges.proofs.visible.visible_of.Goals as goal

pub layers-preserved : goal.layers-preserved
layers-preserved c =
    let tree = c.args.tree.now in
    let sort = c.args.sort in
    let layers = c.args.nests.now.layers in
    let roots = c.layers.roots.items in
    let root = c.in_ok-root.root in
    let one = subst (λ (rs : List (Option ℕ)). IsRoot tree sort layers c.layers.maps c.root_of.new.maps (length rs) root) c.deref.ensures.value c.in_ok-root.ensures in
    let long : length (roots ++ root ∷ []) ≡ length roots + 1 = omega (arith, length-append roots (root ∷ [])) in
    let low : length roots < length layers = omega (arith, c.layers.roots.ok.0, c.layers-test.true, c.len.ensures, c.len-in-layers.ensures) in
    rw c.in_ok-push.ensures.items (record {
      within = omega (arith, long, low);
      are = subst (λ n. AreRoots tree sort layers c.root_of.new.maps (roots ++ root ∷ []) n) (sym long)
          (roots_more tree sort layers c.layers.maps c.root_of.new.maps roots (length roots) root c.layers.invariant.are one);
    })
