use Rattle.std.proofs.Common.{◌≡◌, ◌∙◌, List, ap, sym}
use Rattle.std.specs.Prelude.{reverse}
use Rattle.a68_stack.proofs.Returning.{plain_is}
use Rattle.a68_stack.proofs.Topmost.{three_are, three_on_top}
use Rattle.a68_stack.specs.Stacked.{Stacked}
use Rattle.a68_stack.specs.declared.stack.Item.{Item}
use Rattle.a68_stack.proofs.stack.Stack.three_plain.Goals as goal

pub returns : goal.returns
returns c =
    let items : c.args.self.now.items ≡ reverse c.as_slice.result.now = ap (λ (s : Stacked). s.items) (sym c.self.view_is) ∙ ap (λ (l : List Item). reverse l) (sym c.as_slice.ensures.value) in
    let top = three_on_top c.as_slice.result.now c.topmost-item.result c.below-item.result c.lowest-item.result c.in-len3-up.len_at_least c.topmost-item.is c.below-item.is c.lowest-item.is in
    let first = plain_is c.topmost-item.result c.in_ok-third.third (sym c.in_ok-third.ensures) in
    let second = plain_is c.below-item.result c.in_ok-second.second (sym c.in_ok-second.ensures) in
    let third = plain_is c.lowest-item.result c.in_ok-first.first (sym c.in_ok-first.ensures) in
    (top.0, items ∙ top.1 ∙ three_are _ _ _ _ _ _ top.0 first second third)
