use Rattle.std.proofs.Common.{◌≡◌, ◌+◌, ◌-◌, ◌∙◌, List, ◌∷◌, length, ap, arith, sym}
use Rattle.std.specs.Prelude.{reverse}
use Rattle.std.proofs.lemmas.List.{length-reverse}
use Rattle.a68_stack.proofs.Returning.{below_top, yielded, yields}
use Rattle.a68_stack.proofs.Tops.{stacked, top_kept}
use Rattle.a68_stack.specs.Stacked.{Stacked}
use Rattle.a68_stack.specs.declared.stack.Item.{Item}
use Rattle.a68_stack.specs.declared.stack.Item.TheVariants as item
use Rattle.a68_values.specs.Content.{plain}
use Rattle.a68_stack.proofs.stack.Stack.yield_plain.Goals as goal

pub returns-clause-taken : goal.returns-clause-taken
returns-clause-taken c =
    let two = yields c.args.self.now.items (sym c.may_yield.ensures ∙ c.if-not-may_yield.false) in
    let is : reverse c.self.inside.items.items ≡ item.Value (plain two.0) ∷ item.Caller two.1 ∷ two.2 = ap (λ (s : Stacked). s.items) c.self.view_is ∙ two.3 in
    let same = ap (λ (l : List Item). length l) is in
    let all : length c.self.inside.items.items ≡ c.len-lower.result - 2 + 2 =
    omega (arith, c.len-lower.ensures, c.self.inside.items.ok.0, length-reverse c.self.inside.items.items, same) in
    let kept = top_kept c.self.inside.items.items two.2 (c.len-lower.result - 2) (item.Caller two.1) (item.Value (plain two.0)) c.swap_remove-kept.result is all in
    let taken = below_top c.self.inside.items.items two.2 (c.len-lower.result - 2) (item.Value (plain two.0)) (item.Caller two.1) c.swap_remove-kept.result is all in
    let new = ap (λ (l : List Item). reverse l) c.swap_remove-kept.ensures.items ∙ kept in
    let roomed = ap (λ (s : Stacked). stacked s.room (item.Value (plain two.0) ∷ two.2)) c.self.view_is in
    yielded c.into_caller.result _ c.args.self.now _ two.2 c.swap_remove-kept.result two.0 two.1 c.into_caller.ensures (c.swap_remove-kept.ensures.value ∙ taken) two.3
    (ap (stacked c.self.inside.room) new ∙ roomed)
