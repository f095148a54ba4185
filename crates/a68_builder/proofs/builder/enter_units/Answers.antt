use Rattle.std.proofs.Common.{◌<◌, arith, length, slice_index_or}
use Rattle.std.proofs.lemmas.List.Edits.{map_over_more}
use Rattle.std.proofs.lemmas.List.{get_or_default}
use Rattle.a68_builder.proofs.builder.enter_units.Goals as goal

pub loop-i-preserved : goal.loop-i-preserved
loop-i-preserved c =
    let now = c.loop-i.numbers in
    let i = c.loop-i.i in
    let x = slice_index_or now i 0 in
    let all = c.loop-i-test.true in
    let inside : i < length now = omega (arith, all, c.loop-i.auto.numbers) in
    rw c.entrance.ensures (map_over_more (λ n. slice_index_or c.args.units.now n 0) c.args.numbers.now now i x all c.loop-i.invariant (get_or_default now i 0 x inside))
