use Rattle.std.proofs.Common.{◌+ℤ◌, ◌-ℤ◌, arith}
use Rattle.std.proofs.lemmas.Int.{ints}
use Rattle.a68_layout.proofs.Integers.{is_int-inside, is_int-below, is_int-above}
use Rattle.a68_layout.proofs.stretches.last_from.Goals as goal
use Rattle.a68_layout.proofs.stretches.last_from.Goals.{then-last-via-then-last, then-last-via-else-last+then-last-2}

pub returns-then-last : goal.returns-then-last
returns-then-last c =
    let z = c.args.first +ℤ (c.args.upper -ℤ c.args.lower) in
    elim c.then-last.branch [
      | then-last-via-then-last w ↦ is_int-below z (omega (arith, ints))
      | then-last-via-else-last+then-last-2 w ↦ is_int-above z (omega (arith, ints))
    ]

pub returns : goal.returns
returns c =
    let z = c.args.first +ℤ (c.args.upper -ℤ c.args.lower) in
    (is_int-inside z (omega (arith, ints)) (omega (arith, ints)), omega (arith, ints))
