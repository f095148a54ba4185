use Rattle.std.proofs.Common.{◌≡◌, ℕ, ◌+◌, ◌-◌, ◌<◌, ◌∙◌, List, ◌∷◌, length, take, set, ap, sym, arith}
use Rattle.std.specs.Prelude.{reverse}
use Rattle.std.proofs.Math.Seq.{take-set-lt}
use Rattle.std.proofs.lemmas.List.{length-reverse}
use Rattle.a68_stack.proofs.Tops.{found_two, put_below, stacked}
use Rattle.a68_stack.specs.Stacked.{Stacked}
use Rattle.a68_stack.specs.Values.{callers}
use Rattle.a68_stack.specs.declared.stack.Item.{Item}
use Rattle.a68_stack.specs.declared.stack.Item.TheVariants as item
use Rattle.a68_values.specs.Content.{plain}
use Rattle.a68_values.specs.declared.plain.Plain.{Plain}
use Rattle.a68_stack.proofs.stack.Stack.set_two.Goals as goal

-- what stood on the stack, and what stands there now
put : (c : goal.After-forget-2) → (l : Plain) × (r : Plain) × (rest : List Item) × (c.args.self.now.items ≡ item.Value (plain r) ∷ item.Value (plain l) ∷ rest)
    × (reverse (set c.pop.new.self.items (c.len-below.result - 2) c.replace.new.dest) ≡ item.Value (plain c.args.held) ∷ rest)
put c =
    let two = found_two c.two_plain.result c.args.self.now.items c.if-is_none.ensures c.two_plain.ensures in
    let is : reverse c.self.inside.items.items ≡ item.Value (plain two.1) ∷ item.Value (plain two.0) ∷ two.2 = ap (λ (s : Stacked). s.items) c.self.view_is ∙ two.3 in
    let same = ap (λ (l : List Item). length l) is in
    let all : length c.self.inside.items.items ≡ c.len-below.result - 2 + 2 =
    omega (arith, c.len-below.ensures, c.self.inside.items.ok.0, length-reverse c.self.inside.items.items, same) in
    let n : ℕ = c.len-below.result - 2 in
    let short : n < length c.self.inside.items.items - 1 = omega (arith, all) in
    let below = put_below c.self.inside.items.items two.2 n (item.Value (plain two.0)) (item.Value (plain two.1)) c.replace.new.dest is all in (
      two.0,
      two.1,
      two.2,
      two.3,
      ap (λ (l : List Item). reverse (set l n c.replace.new.dest)) c.pop.ensures.rest
          ∙ ap (λ k. reverse (set (take (k - 1) c.self.inside.items.items) n c.replace.new.dest)) c.self.inside.items.ok.0
          ∙ sym (ap (λ (l : List Item). reverse l) (take-set-lt (length c.self.inside.items.items - 1) c.self.inside.items.items n c.replace.new.dest short)) ∙ below
          ∙ ap (λ (i : Item). i ∷ two.2) (c.replace.ensures.after ∙ c.of_plain.ensures),
    )

pub invariant_of-self : goal.invariant_of-self
invariant_of-self c =
    let found = put c in
    (c.self.invariant.0 ∙ ap (λ l. callers l) (ap (λ (s : Stacked). s.items) c.self.view_is ∙ found.3) ∙ sym (ap (λ l. callers l) found.4), rw c.pop.ensures.capacity c.self.invariant.1)

pub returns : goal.returns
returns c =
    let found = put c in
    let roomed = ap (λ (s : Stacked). stacked s.room (item.Value (plain c.args.held) ∷ found.2)) c.self.view_is in
    (found.0, found.1, found.2, found.3, ap (stacked c.self.inside.room) found.4 ∙ roomed)
