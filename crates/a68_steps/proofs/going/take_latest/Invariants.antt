use Rattle.std.proofs.Common.{◌≡◌, take, drop}
use Rattle.a68_steps.proofs.going.take_latest.Given as goal

abbrev pub invariant-loop : goal.invariant-loop
invariant-loop l = record {
  taken : l.taken.items ≡ take l.counter l.fn.left;
  rest : l.left ≡ drop l.counter l.fn.left;
}
