use Rattle.std.proofs.Common.{◌≤◌, ◌<◌, ◌∙◌, inl, inr, List, length, ap, sym, refl, subst, arith}
use Rattle.std.specs.Prelude.{Some, IsTrue}
use Rattle.std.proofs.lemmas.List.{length-reverse}
use Rattle.a68_exec.proofs.Jumping.{back_is, not_back, room_back}
use Rattle.a68_stack.specs.Room.{has_room}
use Rattle.a68_values.specs.declared.chain.Environ.{Environ}
use Rattle.a68_exec.proofs.control.cut_back.Goals as goal

pub returns-then-inwards-frames-clause-back : goal.returns-then-inwards-frames-clause-back
returns-then-inwards-frames-clause-back c =
    let chain = c.args.body.now.chain in
    let all = ap (λ (l : List Environ). length l) c.inwards.ensures in
    let less : length chain < c.args.frames = omega (arith, all, length-reverse chain) in
    inl (not_back c.args.frames chain less)

pub returns-then-not-cut-clause-back : goal.returns-then-not-cut-clause-back
returns-then-not-cut-clause-back c = inr c.if-not-cut.ensures.left.0

pub invariant_of-body-2 : goal.invariant_of-body-2
invariant_of-body-2 c =
    let body = c.args.body.now in
    record { room = subst (λ (l : List Environ). IsTrue (has_room l)) (sym c.leave_frames.ensures) (room_back c.args.frames body.chain body.room) }

pub returns-clause-back : goal.returns-clause-back
returns-clause-back c =
    let chain = c.args.body.now.chain in
    let all = ap (λ (l : List Environ). length l) c.inwards.ensures in
    let few : c.args.frames ≤ length chain = omega (arith, all, length-reverse chain) in
    record {
      at = refl;
      chain = back_is c.args.frames chain few ∙ ap (λ (l : List Environ). Some l) (sym c.leave_frames.ensures);
      items = c.if-not-cut.ensures.left;
    }
