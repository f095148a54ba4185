use Rattle.std.proofs.Common.{◌≡◌, ◌∙◌, List, ap, drop, arith}
use Rattle.std.proofs.lemmas.List.{drop-drop}
use Rattle.a68_values.specs.declared.chain.Environ.{Environ}
use Rattle.a68_exec.proofs.control.leave_frames.Goals as goal

pub loop-preserved : goal.loop-preserved
loop-preserved c = c.leave.ensures ∙ ap (λ (l : List Environ). drop 1 l) c.loop.invariant ∙ drop-drop 1 c.loop.counter c.args.chain.now

pub returns : goal.returns
returns c =
    let all : c.loop.counter ≡ c.args.count = omega arith in
    c.loop.invariant ∙ ap (λ k. drop k c.args.chain.now) all
