use Rattle.std.proofs.Common.{◌≡◌, ◌∙◌, ◌-◌, ◌+◌, ◌∷◌, ◌++◌, [], ℕ, List, arith, take, get_or, subst, ap, false}
use Rattle.std.proofs.lemmas.List.{take_more}
use Rattle.a68_emit.proofs.Chaining.{finishes_last}
use Rattle.a68_emit.proofs.ends.close_all.Goals as goal
use Rattle.a68_emit.specs.Chains.{Finishes, TreeIsWritten}
use Rattle.a68_emit.specs.declared.ends.Opened.{Opened}

pub loop-left-preserved : goal.loop-left-preserved
loop-left-preserved c =
    let os = c.args.opens.now in
    let i = c.loop-left.left - 1 in
    let within = c.loop-left.invariant.0 in
    let d : Opened = record { jump = 0; place = 0; slots = 0; yields = false } in
    let n : c.loop-left.left ≡ i + 1 = omega arith in
    let next : take c.loop-left.left os ≡ take i os ++ get_or os i d ∷ [] = ap (λ (k : ℕ). take k os) n ∙ take_more os i d (omega arith) in (
      omega arith,
      λ t stop list h. finishes_last (TreeIsWritten t stop list) (take i os) (get_or os i d) c.loop-left.out.stop c.close.new.out.stop c.loop-left.out.list c.close.new.out.list
          (subst (λ (z : List Opened). Finishes z (TreeIsWritten t stop list) c.loop-left.out.stop c.loop-left.out.list) next (c.loop-left.invariant.1 t stop list h)) c.close.ensures,
    )
