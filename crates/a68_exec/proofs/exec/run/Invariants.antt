use Rattle.std.proofs.Common.{◌≡◌, ◌-◌}
use Rattle.a68_instructions.specs.Bodies.{state_of}
use Rattle.a68_instructions.specs.Machine.{settle_in}
use Rattle.a68_instructions.specs.declared.ask.Ask.TheVariants as ask
use Rattle.a68_instructions.specs.declared.ask.Stance.TheVariants.{Idle}
use Rattle.a68_exec.specs.Memory.{FindsNone}
use Rattle.a68_exec.proofs.exec.run.Given as goal

abbrev pub invariant-loop : goal.invariant-loop
invariant-loop l =
    (settle_in (l.steps - l.counter) l.code (state_of l.body Idle) ≡ settle_in l.steps l.code (state_of l.fn.body Idle)) × (l.about.ask ≡ ask.Runs)
    × (l.body.stack.room ≡ l.fn.body.stack.room)
    × (FindsNone (l.steps - l.counter) l.code l.fn.body.stack.room (state_of l.body Idle) → FindsNone l.steps l.code l.fn.body.stack.room (state_of l.fn.body Idle))
