use Rattle.std.proofs.Common.{OnErr, ap, subst, sym}
use Rattle.a68_exec.specs.Memory.{FindsNone, SettlesNot}
use Rattle.a68_instructions.specs.declared.ask.Stance.{Stance}
use Rattle.a68_instructions.specs.declared.ask.Stance.TheVariants.{Idle}
use Rattle.a68_exec.proofs.Alive.{on-err, settled-live}
use Rattle.a68_instructions.proofs.Settling.{stepped, idle-stance}
use Rattle.a68_instructions.specs.Bodies.{state_of, stance_of}
use Rattle.a68_exec.specs.Runs.{is_passive}
use Rattle.a68_exec.proofs.exec.settle.Goals as goal

pub returns-then-runs-clause-live : goal.returns-then-runs-clause-live
returns-then-runs-clause-live c =
    on-err c.run.result _
    (settled-live c.args.code.now (state_of c.args.body.now (stance_of c.args.about.now)) (ap is_passive (idle-stance c.args.about.now (stepped c.runs.result _ _ c.runs.ensures c.if-runs.true))))

pub returns-then-runs-clause-memory : goal.returns-then-runs-clause-memory
returns-then-runs-clause-memory c =
    subst (λ (s : Stance). OnErr c.run.result (SettlesNot c.args.code.now c.args.body.now.stack.room (state_of c.args.body.now s)))
    (sym (idle-stance c.args.about.now (stepped c.runs.result _ _ c.runs.ensures c.if-runs.true)))
    (subst (λ n. OnErr c.run.result (FindsNone n c.args.code.now c.args.body.now.stack.room (state_of c.args.body.now Idle))) c.most_steps.ensures c.run.ensures.memory)
