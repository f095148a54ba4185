use Rattle.std.proofs.Common.{◌≡◌, drop}
use Rattle.a68_exec.proofs.control.leave_frames.Given as goal

abbrev pub invariant-loop : goal.invariant-loop
invariant-loop l = l.chain ≡ drop l.counter l.initial.chain
