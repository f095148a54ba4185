use Rattle.std.proofs.Common.{◌≡◌, ◌<◌, ◌-◌, ◌+◌, ◌∙◌, ap, sym, take, length, arith}
use Rattle.std.specs.Prelude.{reverse}
use Rattle.std.proofs.lemmas.List.{take_all}
use Rattle.a68_stack.proofs.Cutting.{as_high, one_higher}
use Rattle.a68_stack.specs.Values.{height}
use Rattle.a68_stack.proofs.stack.height_of.Goals as goal

pub loop-above-init : goal.loop-above-init
loop-above-init c =
    let all : take (length c.args.items.now - 0) c.args.items.now ≡ c.args.items.now = take_all _ _ (omega arith) in
    let same = ap (λ l. height (reverse l)) all in
    omega (arith, same)

pub returns-then-is_caller : goal.returns-then-is_caller
returns-then-is_caller c =
    let items = c.args.items.now in
    let n = length c.args.items.now - 1 - c.loop-above.above in
    let less : n < length items = omega arith in
    let same : length c.args.items.now - c.loop-above.above ≡ n + 1 = omega arith in
    let none = as_high items n c.index-items-count.result less c.index-items-count.is (sym c.is_caller.ensures ∙ c.if-is_caller.true) in
    let all = c.loop-above.invariant ∙ ap (λ k. c.loop-above.above + height (reverse (take k items))) same in
    omega (arith, all, none)

pub loop-above-preserved : goal.loop-above-preserved
loop-above-preserved c =
    let items = c.args.items.now in
    let n = length c.args.items.now - 1 - c.loop-above.above in
    let less : n < length items = omega arith in
    let same : length c.args.items.now - c.loop-above.above ≡ n + 1 = omega arith in
    let rest : length c.args.items.now - (c.loop-above.above + 1) ≡ n = omega arith in
    let one = one_higher items n c.index-items-count.result less c.index-items-count.is (sym c.is_caller.ensures ∙ c.if-is_caller.false) in
    let all = c.loop-above.invariant ∙ ap (λ k. c.loop-above.above + height (reverse (take k items))) same in
    let left = ap (λ k. height (reverse (take k items))) rest in
    omega (arith, all, one, left)

pub returns : goal.returns
returns c =
    let none : length c.args.items.now - c.loop-above.above ≡ 0 = omega arith in
    let all = c.loop-above.invariant ∙ ap (λ k. c.loop-above.above + height (reverse (take k c.args.items.now))) none in
    omega (arith, all)
