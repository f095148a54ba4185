use Rattle.std.proofs.Common.{◌≡◌, ◌∙◌, ◌-◌, ◌+◌, ◌∷◌, ◌++◌, [], ℕ, List, arith, take, subst, sym, ap}
use Rattle.std.proofs.lemmas.List.{take_more}
use Rattle.a68_constructs.proofs.Awaiting.{all_end_last}
use Rattle.a68_constructs.proofs.endings.end_all.Goals as goal
use Rattle.a68_constructs.specs.Endings.{AllEnd}
use Rattle.a68_constructs.specs.declared.endings.Ending.{Ending}
use Rattle.a68_emit.specs.Chains.{TreeIsWritten}

pub loop-left-preserved : goal.loop-left-preserved
loop-left-preserved c =
    let es = c.args.endings.now in
    let i = c.loop-left.left - 1 in
    let within = c.loop-left.invariant.0 in
    let e = c.index-endings-left.result in
    let n : c.loop-left.left ≡ i + 1 = omega arith in
    let next : take c.loop-left.left es ≡ take i es ++ e ∷ [] = ap (λ (k : ℕ). take k es) n ∙ take_more es i e (omega arith) ∙ ap (λ (x : Ending). take i es ++ x ∷ []) (sym c.index-endings-left.is) in (
      omega arith,
      λ t stop list h. all_end_last (TreeIsWritten t stop list) (take i es) e c.loop-left.out.stop c.end.new.out.stop c.loop-left.out.list c.end.new.out.list
          (subst (λ (z : List Ending). AllEnd z (TreeIsWritten t stop list) c.loop-left.out.stop c.loop-left.out.list) next (c.loop-left.invariant.1 t stop list h)) c.end.ensures,
    )
