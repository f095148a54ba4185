use Rattle.std.proofs.Common.{◌≡◌, ◌<◌, ◌-◌, Some, ◌+◌}
use Rattle.a68_instructions.specs.Bodies.{state_of, stance_of}
use Rattle.a68_instructions.specs.Machine as machine
use Rattle.std.proofs.Common.{sym, ◌∙◌, ap, arith, refl, subst}
use Rattle.std.proofs.Math.Nat.{sub-zero}
use Rattle.a68_exec.proofs.Alive.{on-err}
use Rattle.a68_exec.proofs.Sparing.{finds_first, finds_later}
use Rattle.a68_exec.specs.Memory.{FindsNone}
use Rattle.a68_instructions.specs.declared.ask.Stance.{Stance}
use Rattle.a68_instructions.specs.declared.ask.Stance.TheVariants.{Idle}
use Rattle.a68_instructions.specs.declared.body.Body.{Body}
use Rattle.a68_instructions.proofs.Settling.{settle-end, settle-first, settle-on, settle-still, stepped, stopped, idle-stance}
use Rattle.a68_exec.proofs.exec.run.Goals as goal

pub loop-init : goal.loop-init
loop-init c = (
  settle-first c.args.steps c.args.code.now c.args.body.now,
  c.requires.idle,
  refl,
  λ h. subst (λ n. FindsNone n c.args.code.now c.args.body.now.stack.room (state_of c.args.body.now Idle)) (sub-zero c.args.steps) h,
)

pub returns-then-not-branch-clause-state : goal.returns-then-not-branch-clause-state
returns-then-not-branch-clause-state c =
    let stop = stopped c.in_ok-go_on.field-0 _ _ c.in_ok-go_on.ensures.step c.if-not-branch.true in
    let asks = ap (λ about. about.ask) stop.2 ∙ c.loop.invariant.1 in
    ap (λ (b : Body). state_of b (stance_of c.go_on.new.about)) stop.1
    ∙ ap (λ (m : Stance). state_of c.loop.body m) (idle-stance c.go_on.new.about asks)
    ∙ sym (settle-end (c.args.steps - c.loop.counter) c.args.code.now c.loop.body stop.0) ∙ c.loop.invariant.0

pub returns-then-not-runs-clause-state : goal.returns-then-not-runs-clause-state
returns-then-not-runs-clause-state c =
    let step = stepped c.in_ok-go_on.field-0 _ _ c.in_ok-go_on.ensures.step c.if-not-branch.false in
    let less : c.loop.counter < c.args.steps = omega arith in
    let on = settle-on c.args.steps c.loop.counter c.args.code.now c.loop.body _ less step in
    let open_ = stopped c.runs.result _ _ c.runs.ensures c.if-not-runs.true in
    sym (settle-still (c.args.steps - (c.loop.counter + 1)) c.args.code.now c.go_on.new.body c.go_on.new.about.ask c.go_on.new.about.waiting c.go_on.new.body.at c.in_ok-go_on.ensures.ran open_)
    ∙ sym on ∙ c.loop.invariant.0

pub loop-preserved : goal.loop-preserved
loop-preserved c =
    let step = stepped c.in_ok-go_on.field-0 _ _ c.in_ok-go_on.ensures.step c.if-not-branch.false in
    let runs = stepped c.runs.result _ _ c.runs.ensures c.if-not-runs.false in
    let there : machine.silently c.args.code.now Idle (state_of c.loop.body Idle) ≡ Some (state_of c.go_on.new.body Idle) = step ∙ ap (λ (m : Stance). Some (state_of c.go_on.new.body m)) (idle-stance c.go_on.new.about runs) in
    let less : c.loop.counter < c.args.steps = omega arith in
    let on = settle-on c.args.steps c.loop.counter c.args.code.now c.loop.body _ less there in (
      sym on ∙ c.loop.invariant.0,
      runs,
      c.go_on.ensures.room ∙ c.loop.invariant.2,
      λ h. c.loop.invariant.3 (finds_later c.args.steps c.loop.counter c.args.code.now c.args.body.now.stack.room (state_of c.loop.body Idle) (state_of c.go_on.new.body Idle) less there h),
    )

pub returns-in_err-go_on-clause-memory : goal.returns-in_err-go_on-clause-memory
returns-in_err-go_on-clause-memory c =
    let less : c.loop.counter < c.args.steps = omega arith in
    let here = subst (λ n. FindsNone 1 c.args.code.now n (state_of c.loop.body Idle)) c.loop.invariant.2 c.in_err-go_on.ensures.memory in
    on-err _ _ (c.loop.invariant.3 (finds_first c.args.steps c.loop.counter c.args.code.now c.args.body.now.stack.room (state_of c.loop.body Idle) less here))
