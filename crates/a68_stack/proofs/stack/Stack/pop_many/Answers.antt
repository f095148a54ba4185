use Rattle.std.proofs.Common.{◌≡◌, ◌∙◌, ℕ, suc, ◌-◌, ◌+◌, [], ◌∷◌, ap, sym, arith}
use Rattle.std.specs.Prelude.{reverse}
use Rattle.std.proofs.lemmas.List.{reverse-append}
use Rattle.a68_stack.specs.Values.{pop_values}
use Rattle.a68_stack.proofs.Popping.{pop-more, pop-none}
use Rattle.a68_stack.proofs.stack.Stack.pop_many.Goals as goal

pub returns-in-None-clause-popped : goal.returns-in-None-clause-popped
returns-in-None-clause-popped c =
    let one : c.args.count - c.loop.counter ≡ suc (c.args.count - (c.loop.counter + 1)) = omega arith in
    sym c.loop.invariant.0 ∙ ap (λ n. pop_values n c.loop.self.items (reverse c.loop.items.items)) one ∙ pop-none _ _ _ c.in-None.ensures.popped

pub loop-preserved : goal.loop-preserved
loop-preserved c =
    let left : ℕ = c.args.count - (c.loop.counter + 1) in
    let one : c.args.count - c.loop.counter ≡ suc left = omega arith in (
      ap (λ l. pop_values left c.pop_value.new.self.items (reverse l)) c.in_ok-push-in-Some.ensures.items
          ∙ ap (λ l. pop_values left c.pop_value.new.self.items l) (reverse-append c.loop.items.items (c.in-Some.value ∷ []))
          ∙ sym (pop-more left c.loop.self.items c.pop_value.new.self.items c.in-Some.value (reverse c.loop.items.items) c.in-Some.ensures.popped)
          ∙ ap (λ n. pop_values n c.loop.self.items (reverse c.loop.items.items)) (sym one)
          ∙ c.loop.invariant.0,
      c.pop_value.ensures.room ∙ c.loop.invariant.1,
    )

pub returns-clause-popped : goal.returns-clause-popped
returns-clause-popped c =
    let none : c.args.count - c.loop.counter ≡ 0 = omega arith in
    sym c.loop.invariant.0 ∙ ap (λ n. pop_values n c.loop.self.items (reverse c.loop.items.items)) none
