use Rattle.std.proofs.Common.{◌∙◌, ap}
use Rattle.a68_exec.proofs.Sparing.{pushed_room}
use Rattle.a68_stack.specs.Stacked.{Stacked}
use Rattle.a68_exec.proofs.routines.yield_to.Goals as goal

pub returns-clause-full : goal.returns-clause-full
returns-clause-full c = rw c.go_back.ensures.stack at c.push_value.ensures.full

pub returns-clause-room : goal.returns-clause-room
returns-clause-room c =
    pushed_room c.push_value.result c.go_back.new.body.stack c.push_value.new.self _ c.push_value.ensures.ok c.push_value.ensures.err
    ∙ ap (λ (s : Stacked). s.room) c.go_back.ensures.stack
