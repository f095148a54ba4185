use Rattle.std.proofs.Common.{◌≡◌, length, ap, arith}
use Rattle.a68_code.proofs.Reading.{does_at_read}
use Rattle.a68_code.proofs.Ways.{halfway_first, halfway_on, heights_from, leaves_one, no_entrance, not_valid, taken_small, taken_within}
use Rattle.a68_code.proofs.code.Code.heights.Goals as goal

pub returns-then-not-branch : goal.returns-then-not-branch
returns-then-not-branch c =
    let list = ap (λ code. code.list) c.self.view_is in
    let count : c.len.result ≡ length c.args.self.now.list = omega (arith, ap length list) in
    let clashes = rw (c.if-not-branch.true, c.deref.ensures.value, c.in_ok-walk.ensures.heights, count) at c.in_ok-note_all.ensures in
    no_entrance c.args.self.now c.args.whose _ c.in_ok-entrances.ensures clashes

pub loop-at-init : goal.loop-at-init
loop-at-init c =
    let list = ap (λ code. code.list) c.self.view_is in
    let count : c.len.result ≡ length c.args.self.now.list = omega (arith, ap length list) in
    let notes = rw (c.if-not-branch.false, c.deref.ensures.value, c.in_ok-walk.ensures.heights, c.in_ok-walk.ensures.todo, count) at c.in_ok-note_all.ensures in
    halfway_first c.args.self.now c.args.whose _ _ _ c.in_ok-entrances.ensures notes

pub index-requires : goal.index-requires
index-requires c =
    let list = ap (λ code. code.list) c.self.view_is in
    let inside = taken_within c.args.self.now c.args.whose _ _ _ c.in-Some.at c.in-Some.height c.in-Some.ensures.items c.loop-at.invariant in
    omega (arith, ap length list, inside)

pub go_on-requires-clause-place : goal.go_on-requires-clause-place
go_on-requires-clause-place c =
    let list = ap (λ code. code.list) c.self.view_is in
    let inside = taken_within c.args.self.now c.args.whose _ _ _ c.in-Some.at c.in-Some.height c.in-Some.ensures.items c.loop-at.invariant in
    omega (arith, ap length list, inside)

pub go_on-requires-clause-room : goal.go_on-requires-clause-room
go_on-requires-clause-room c =
    let list = ap (λ code. code.list) c.self.view_is in
    let small = taken_small c.args.self.now c.args.whose _ _ _ c.in-Some.at c.in-Some.height c.in-Some.ensures.items c.loop-at.invariant in
    omega (arith, ap length list, small)

pub go_on-requires-clause-one : goal.go_on-requires-clause-one
go_on-requires-clause-one c =
    let list = ap (λ code. code.list) c.self.view_is in
    let modes = ap (λ code. code.modes) c.self.view_is in
    let inside = taken_within c.args.self.now c.args.whose _ _ _ c.in-Some.at c.in-Some.height c.in-Some.ensures.items c.loop-at.invariant in
    let is = does_at_read _ _ c.in-Some.at c.index.result.now list inside c.index.ensures in
    rw modes (leaves_one c.args.self.now.modes (length c.args.self.now.texts) (length c.args.self.now.list) c.index.result.now.does (c.requires c.in-Some.at c.index.result.now.does is).0)

pub returns-then-not-branch-2 : goal.returns-then-not-branch-2
returns-then-not-branch-2 c =
    let list = ap (λ code. code.list) c.self.view_is in
    let modes = ap (λ code. code.modes) c.self.view_is in
    let inside = taken_within c.args.self.now c.args.whose _ _ _ c.in-Some.at c.in-Some.height c.in-Some.ensures.items c.loop-at.invariant in
    let is = does_at_read _ _ c.in-Some.at c.index.result.now list inside c.index.ensures in
    let fails = rw (c.if-not-branch-2.true, modes) at c.in_ok-go_on.ensures in
    not_valid _ _ _ _ _ _ _ _ c.in-Some.ensures.items c.loop-at.invariant is fails

pub loop-at-preserved : goal.loop-at-preserved
loop-at-preserved c =
    let list = ap (λ code. code.list) c.self.view_is in
    let modes = ap (λ code. code.modes) c.self.view_is in
    let inside = taken_within c.args.self.now c.args.whose _ _ _ c.in-Some.at c.in-Some.height c.in-Some.ensures.items c.loop-at.invariant in
    let is = does_at_read _ _ c.in-Some.at c.index.result.now list inside c.index.ensures in
    let goes = rw (c.if-not-branch-2.false, modes) at c.in_ok-go_on.ensures in
    halfway_on _ _ _ _ _ _ _ _ c.in-Some.ensures.items c.loop-at.invariant is _ _ (leaves_one c.args.self.now.modes (length c.args.self.now.texts) (length c.args.self.now.list) c.index.result.now.does (c.requires c.in-Some.at c.index.result.now.does is).0) goes

pub returns : goal.returns
returns c =
    let none : length c.loop-at.walk.todo.items ≡ 0 = omega (arith, c.in_default.ensures.cases.0) in
    heights_from c.args.self.now c.args.whose _ _ none c.loop-at.invariant
