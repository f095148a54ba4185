use Rattle.std.proofs.Common.{◌≡◌, ◌+◌, ◌-◌, ◌∙◌, List, ◌∷◌, length, ap, arith}
use Rattle.std.specs.Prelude.{reverse}
use Rattle.std.proofs.lemmas.List.{length-reverse}
use Rattle.a68_stack.proofs.Tops.{found_two, stacked, top_kept}
use Rattle.a68_stack.specs.Stacked.{Stacked}
use Rattle.a68_stack.specs.declared.stack.Item.{Item}
use Rattle.a68_stack.specs.declared.stack.Item.TheVariants as item
use Rattle.a68_values.specs.Content.{plain}
use Rattle.a68_stack.proofs.stack.Stack.keep_top.Goals as goal

pub returns : goal.returns
returns c =
    let two = found_two c.two_plain.result c.args.self.now.items c.if-is_none.ensures c.two_plain.ensures in
    let is : reverse c.self.inside.items.items ≡ item.Value (plain two.1) ∷ item.Value (plain two.0) ∷ two.2 = ap (λ (s : Stacked). s.items) c.self.view_is ∙ two.3 in
    let same = ap (λ (l : List Item). length l) is in
    let all : length c.self.inside.items.items ≡ c.len-lower.result - 2 + 2 =
    omega (arith, c.len-lower.ensures, c.self.inside.items.ok.0, length-reverse c.self.inside.items.items, same) in
    let kept = top_kept c.self.inside.items.items two.2 (c.len-lower.result - 2) (item.Value (plain two.0)) (item.Value (plain two.1)) c.swap_remove.result is all in
    let roomed = ap (λ (s : Stacked). stacked s.room (item.Value (plain two.1) ∷ two.2)) c.self.view_is in
    (two.0, two.1, two.2, two.3, ap (stacked c.self.inside.room) (ap (λ (l : List Item). reverse l) c.swap_remove.ensures.items ∙ kept) ∙ roomed)
