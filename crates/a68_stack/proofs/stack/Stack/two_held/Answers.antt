use Rattle.std.proofs.Common.{◌≡◌, ◌∙◌, List, ap, sym}
use Rattle.std.specs.Prelude.{reverse}
use Rattle.a68_stack.proofs.Returning.{plain_is}
use Rattle.a68_stack.proofs.Topmost.{two_are, two_on_top}
use Rattle.a68_stack.specs.Stacked.{Stacked}
use Rattle.a68_stack.specs.declared.stack.Item.{Item}
use Rattle.a68_stack.proofs.stack.Stack.two_held.Goals as goal

pub returns : goal.returns
returns c =
    let items : c.args.self.now.items ≡ reverse c.as_slice.result.now = ap (λ (s : Stacked). s.items) (sym c.self.view_is) ∙ ap (λ (l : List Item). reverse l) (sym c.as_slice.ensures.value) in
    let top = two_on_top c.as_slice.result.now c.topmost-item.result c.below-item.result c.in-len2-up.len_at_least c.topmost-item.is c.below-item.is in
    let first = plain_is c.topmost-item.result c.in_ok-right.right.now (sym c.in_ok-right.ensures) in
    let second = plain_is c.below-item.result c.in_ok-left.left.now (sym c.in_ok-left.ensures) in
    (top.0, items ∙ top.1 ∙ two_are _ _ _ _ top.0 first second)
