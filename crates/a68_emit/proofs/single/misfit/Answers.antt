use Rattle.std.proofs.Common.{[], ◌∷◌}
use Rattle.a68_code.specs.declared.does.Does.TheVariants as does
use Rattle.a68_emit.specs.Listing.{instr}
use Rattle.a68_emit.proofs.Writing.{and_behind}
use Rattle.a68_emit.proofs.single.misfit.Goals as goal

pub returns-then-not-wanted : goal.returns-then-not-wanted
returns-then-not-wanted c =
    let p = c.args.place in
    let w0 = c.args.out.now in
    let w1 = c.emit.new.self in
    let w2 = c.emit-2.new.self in
    let w3 = c.emit-then-not-wanted.new.self in
    let two = and_behind w0.stop w1.stop w2.stop w0.list w1.list w2.list (instr p does.Nil ∷ []) (λ n. instr p does.Widen ∷ []) c.emit.ensures c.emit-2.ensures in
    let all = and_behind w0.stop w2.stop w3.stop w0.list w2.list w3.list (instr p does.Nil ∷ instr p does.Widen ∷ []) (λ n. instr p does.Drop ∷ []) two c.emit-then-not-wanted.ensures in
    rw c.if-not-wanted.true all

pub returns-else-not-wanted : goal.returns-else-not-wanted
returns-else-not-wanted c =
    let p = c.args.place in
    let w0 = c.args.out.now in
    let w1 = c.emit.new.self in
    let w2 = c.emit-2.new.self in
    let two = and_behind w0.stop w1.stop w2.stop w0.list w1.list w2.list (instr p does.Nil ∷ []) (λ n. instr p does.Widen ∷ []) c.emit.ensures c.emit-2.ensures in
    rw c.if-not-wanted.false two
