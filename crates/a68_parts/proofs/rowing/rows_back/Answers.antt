use Rattle.std.proofs.Common.{◌≡◌, ◌-◌, ◌+◌, ℕ, arith, length, subst}
use Rattle.a68_parts.proofs.Reaching.{Reaches, all_more, all_none_yet, all_tell, one_more}
use Rattle.a68_parts.proofs.rowing.rows_back.Goals as goal

pub loop-count-init : goal.loop-count-init
loop-count-init c = (omega arith, all_none_yet c.args.modes.now c.args.goal c.args.path.now c.args.dims c.args.of c.requires)

pub loop-count-preserved : goal.loop-count-preserved
loop-count-preserved c =
    let modes = c.args.modes.now in
    let path = c.args.path.now in
    let dims = c.args.dims in
    let count = c.loop-count.count in
    let sum = c.loop-count.invariant.0 in
    let at : dims - count ≡ c.loop-count.left = omega (arith, sum) in
    let next : c.loop-count.left - 1 ≡ dims - (count + 1) = omega (arith, sum, c.if-left-lt2.false) in
    let so_far : Reaches modes c.args.goal path dims c.args.of count c.loop-count.left =
    subst (λ (n : ℕ). Reaches modes c.args.goal path dims c.args.of count n) at (c.loop-count.invariant.1 count (omega arith)) in
    let one = one_more modes c.args.goal path dims c.args.of count c.loop-count.left c.in-Some.next _ (omega arith)
    (c.is_row_up.ensures c.if-not-is_row_up.false) (omega (arith, c.if-left-lt2.false)) c.in-Some.ensures.0 c.in-Some.ensures.1 so_far in (
      omega (arith, sum, c.if-left-lt2.false),
      all_more modes c.args.goal path dims c.args.of count c.loop-count.invariant.1 (subst (λ (n : ℕ). Reaches modes c.args.goal path dims c.args.of (count + 1) n) next one),
    )

pub returns-clause-rows : goal.returns-clause-rows
returns-clause-rows c =
    let all : c.loop-count.count ≡ length c.args.path.now = omega arith in
    rw (← all) (all_tell c.args.modes.now c.args.goal c.args.path.now c.args.dims c.args.of c.loop-count.count (omega arith) c.loop-count.invariant.1)

pub returns-then-left-lt2-clause-rows : goal.returns-then-left-lt2-clause-rows
returns-then-left-lt2-clause-rows c = all_tell c.args.modes.now c.args.goal c.args.path.now c.args.dims c.args.of c.loop-count.count (omega arith) c.loop-count.invariant.1

pub returns-in_default-clause-rows : goal.returns-in_default-clause-rows
returns-in_default-clause-rows c = all_tell c.args.modes.now c.args.goal c.args.path.now c.args.dims c.args.of c.loop-count.count (omega arith) c.loop-count.invariant.1
