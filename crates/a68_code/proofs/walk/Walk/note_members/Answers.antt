use Rattle.std.proofs.Common.{◌<◌, ◌+◌, ◌≡◌, cond, nat_eq, length, take, arith}
use Rattle.std.proofs.lemmas.List.{take_all}
use Rattle.a68_code.proofs.Noting.{clash_from, maps_more}
use Rattle.a68_code.proofs.walk.Walk.note_members.Goals as goal

pub returns-then-not-branch : goal.returns-then-not-branch
returns-then-not-branch c =
    let lt : c.loop-to.to-index < length c.args.places.now = omega arith in
    rw (← c.last_place-last.ensures)
    (clash_from (λ x. c.args.below + (cond (nat_eq x c.last_place-last.result) 0 1)) _ _ _ _ c.args.places.now c.loop-to.to-index lt c.loop-to.invariant
    (rw (c.if-not-branch.true, c.left_at-left.ensures) at c.in_ok-note.ensures))

pub loop-to-preserved : goal.loop-to-preserved
loop-to-preserved c =
    let lt : c.loop-to.to-index < length c.args.places.now = omega arith in
    maps_more (λ x. c.args.below + (cond (nat_eq x c.last_place-last.result) 0 1)) _ _ _ _ _ _ c.args.places.now c.loop-to.to-index lt c.loop-to.invariant
    (rw (c.if-not-branch.false, c.left_at-left.ensures) at c.in_ok-note.ensures)

pub returns : goal.returns
returns c =
    let all : take c.loop-to.to-index c.args.places.now ≡ c.args.places.now = take_all _ _ (omega arith) in
    rw (← c.last_place-last.ensures) (rw all at c.loop-to.invariant)
