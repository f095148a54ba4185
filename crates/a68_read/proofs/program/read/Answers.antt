use Rattle.std.proofs.lemmas.Result.{err_from_is_err_and}
use Rattle.a68_read.proofs.Programs.{begun, ended, not_ended, failed, none_left, one_left, empty_rest, some_rest}
use Rattle.a68_read.proofs.program.read.Goals as goal

pub loop-goals-init : goal.loop-goals-init
loop-goals-init c = record { reads = rw (c.in_ok-push.ensures.items, c.new-goals.ensures.items) (begun _ _ c.in_ok-drafting.ensures.built) }

pub returns-in_err-rest : goal.returns-in_err-rest
returns-in_err-rest c =
    let r = one_left _ _ _ _ _ _ c.in-Some.is (c.in_ok-goal.ensures.stands _ c.loop-goals.invariant.reads) in
    let p = err_from_is_err_and c.from_residual-in_err-rest.result c.from_residual-in_err-rest.ensures.1 in
    rw (p.1, p.2) (failed _ _ _ _ _ c.in_err-rest.field-0.0 c.in_err-rest.ensures.takes r)

pub returns-then-not-is_empty : goal.returns-then-not-is_empty
returns-then-not-is_empty c =
    not_ended _ _ _ (some_rest _ _ c.is_empty.ensures c.if-not-is_empty.true) (none_left _ _ _ _ _ c.in_default.is (c.in_ok-goal.ensures.stands _ c.loop-goals.invariant.reads))

pub returns : goal.returns
returns c =
    ended _ _ _ _ (empty_rest _ _ c.is_empty.ensures c.if-not-is_empty.false) (none_left _ _ _ _ _ c.in_default.is (c.in_ok-goal.ensures.stands _ c.loop-goals.invariant.reads))
    c.finish.ensures.nodes c.finish.ensures.spelled
