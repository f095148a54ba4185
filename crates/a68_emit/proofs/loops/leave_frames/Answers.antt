use Rattle.std.proofs.Common.{◌≡◌, [], ◌∷◌, arith}
use Rattle.a68_code.specs.declared.does.Does.TheVariants as does
use Rattle.a68_emit.proofs.Writing.{and_behind}
use Rattle.a68_emit.proofs.loops.leave_frames.Goals as goal
use Rattle.a68_emit.specs.Listing.{instr}

pub returns-then-frames-gt1 : goal.returns-then-frames-gt1
returns-then-frames-gt1 c =
    let two : c.args.frames ≡ 2 = omega (arith, c.requires, c.if-frames-gt1.true) in
    let leave = instr c.args.place (does.Leave 0) in
    let w0 = c.args.out.now in
    let w1 = c.emit.new.self in
    let w2 = c.emit-then-frames-gt1.new.self in
    rw two (and_behind w0.stop w1.stop w2.stop w0.list w1.list w2.list (leave ∷ []) (λ n. leave ∷ []) c.emit.ensures c.emit-then-frames-gt1.ensures)
