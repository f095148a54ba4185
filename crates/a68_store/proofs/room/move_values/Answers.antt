use Rattle.std.proofs.Common.{◌∙◌, ◌+◌, ◌<◌, ◌++◌, ◌∷◌, [], length, take, drop, ap, sym, arith, length-set}
use Rattle.a68_store.proofs.Places.{taken-step}
use Rattle.a68_store.proofs.room.move_values.Goals as goal

pub loop-i-preserved : goal.loop-i-preserved
loop-i-preserved c =
    let kept = c.loop-i.invariant in
    let xs = c.args.bound.now in
    let i = c.loop-i.i in
    let here : c.args.first + i < length xs = omega (arith, c.requires.within, c.loop-i-test.true) in
    let there : c.args.first + i < length c.loop-i.bound = omega (arith, here, kept.long) in
    let step = taken-step c.args.first i xs c.loop-i.bound c.index-bound-first.result c.take_value.new.slot kept.rest here there c.index-bound-first.is in
    record {
      moved =
          c.push_value.ensures.items
          ∙ ap (λ l. l ++ c.take_value.result ∷ []) kept.moved
          ∙ ap (λ v. take i (drop c.args.first xs) ++ v ∷ []) (c.take_value.ensures ∙ sym c.index-bound-first.is)
          ∙ step.0;
      rest = step.1;
      long = length-set c.loop-i.bound (c.args.first + i) c.take_value.new.slot ∙ kept.long;
      count = omega (arith, c.push_value.ensures.len, kept.count);
      room = omega (arith, c.push_value.ensures.capacity, kept.room);
    }
