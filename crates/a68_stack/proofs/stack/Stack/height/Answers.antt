use Rattle.std.proofs.Common.{◌≡◌, ◌∙◌, List, ap, sym, length, arith}
use Rattle.std.specs.Prelude.{reverse}
use Rattle.std.proofs.lemmas.List.{length-reverse}
use Rattle.a68_stack.proofs.Cutting.{height_all}
use Rattle.a68_stack.specs.Stacked.{Stacked}
use Rattle.a68_stack.specs.Values.{callers, height}
use Rattle.a68_stack.specs.declared.stack.Item.{Item}
use Rattle.a68_stack.proofs.stack.Stack.height.Goals as goal

pub returns-then-self-eq0 : goal.returns-then-self-eq0
returns-then-self-eq0 c =
    let items : reverse c.self.inside.items.items ≡ c.args.self.now.items = ap (λ (s : Stacked). s.items) c.self.view_is in
    let none : callers c.args.self.now.items ≡ 0 = omega (arith, c.self.invariant.0, ap callers items, c.if-self-eq0.true) in
    let all = height_all c.args.self.now.items none in
    omega (arith, all, ap (λ (l : List Item). length l) items, length-reverse c.self.inside.items.items, c.self.inside.items.ok.0)

pub returns : goal.returns
returns c =
    let items : reverse c.self.inside.items.items ≡ c.args.self.now.items = ap (λ (s : Stacked). s.items) c.self.view_is in
    c.height_of.ensures ∙ ap (λ (l : List Item). height (reverse l)) c.deref.ensures.value ∙ ap height items
