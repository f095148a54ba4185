use Rattle.std.proofs.Common.{◌≡◌, ◌+◌, ◌∙◌, ℕ, drop, sym, ap}
use Rattle.a68_yields.proofs.Ending.{none_ends, one_known}
use Rattle.a68_yields.specs.Leaves.{ends}
use Rattle.a68_yields.specs.Yields.{is_unknown}
use Rattle.a68_yields.proofs.told.ends_unknown.Goals as goal
use Rattle.a68_yields.proofs.told.ends_unknown.Goals.{else-ends-via-then-ends+else-is_unknown, else-ends-via-else-ends}

pub loop-part-preserved : goal.loop-part-preserved
loop-part-preserved c =
    let tree = c.args.tree.now in
    let parts = c.args.parts.now in
    let i = c.loop-part.part-index in
    let place : c.loop-part.place + 1 ≡ i + 1 = ap (λ (n : ℕ). n + 1) c.loop-part.invariant.at in
    let told : c.ends.result ≡ ends tree (drop (i + 1) parts) = c.ends.ensures ∙ ap (ends tree) (c.parts_from.ensures ∙ ap (λ n. drop n parts) place) in
    record {
      at = place;
      left = elim c.else-ends.branch [
        | else-ends-via-then-ends+else-is_unknown w ↦ one_known tree parts i c.loop-part-test.true c.args.yields.now _ c.loop-part.invariant.left (sym (w.is_unknown.ensures ∙ ap is_unknown w.yield_of.ensures) ∙ w.if-is_unknown.false)
        | else-ends-via-else-ends w ↦ none_ends tree parts i c.loop-part-test.true c.args.yields.now _ c.loop-part.invariant.left (sym told ∙ w.if-ends.false)
      ];
    }
