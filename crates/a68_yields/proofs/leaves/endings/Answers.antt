use Rattle.std.proofs.Common.{◌≡◌, ◌+◌, ◌∙◌, ℕ, drop, sym, ap}
use Rattle.a68_yields.proofs.Ending.{ending_passed, ending_taken}
use Rattle.a68_yields.specs.Leaves.{ends}
use Rattle.a68_yields.proofs.leaves.endings.Goals as goal
use Rattle.a68_yields.proofs.leaves.endings.Goals.{then-ends+in_ok-push, else-ends}

pub loop-part-preserved : goal.loop-part-preserved
loop-part-preserved c =
    let tree = c.args.tree.now in
    let parts = c.args.parts.now in
    let i = c.loop-part.part-index in
    let place : c.loop-part.place + 1 ≡ i + 1 = ap (λ (n : ℕ). n + 1) c.loop-part.invariant.at in
    let told : c.ends.result ≡ ends tree (drop (i + 1) parts) = c.ends.ensures ∙ ap (ends tree) (c.parts_from.ensures ∙ ap (λ n. drop n parts) place) in
    record {
      at = place;
      found = elim c.if-ends.branch [
        | then-ends+in_ok-push w ↦ ending_taken tree parts i c.loop-part-test.true _ _ _ (sym told ∙ w.if-ends.true) (ap (λ v. v.items) w.items-is ∙ w.in_ok-push.ensures.items) c.loop-part.invariant.found
        | else-ends w ↦ ending_passed tree parts i c.loop-part-test.true _ _ _ (sym told ∙ w.if-ends.false) (ap (λ v. v.items) w.items-is) c.loop-part.invariant.found
      ];
    }
