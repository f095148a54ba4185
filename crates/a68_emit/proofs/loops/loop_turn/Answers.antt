use Rattle.std.proofs.Common.{[], ◌∷◌}
use Rattle.a68_code.specs.declared.does.Does.TheVariants as does
use Rattle.a68_emit.proofs.Writing.{and_behind}
use Rattle.a68_emit.proofs.loops.loop_turn.Goals as goal
use Rattle.a68_emit.specs.Listing.{instr}

pub returns-else-counts : goal.returns-else-counts
returns-else-counts c =
    let step = instr c.args.place (does.Step 0) in
    let turns = instr c.args.place does.Turn in
    let w0 = c.args.out.now in
    let w1 = c.emit.new.self in
    let w2 = c.emit-2.new.self in
    rw c.if-counts.false (and_behind w0.stop w1.stop w2.stop w0.list w1.list w2.list (step ∷ []) (λ n. turns ∷ []) c.emit.ensures c.emit-2.ensures)

pub returns-then-counts : goal.returns-then-counts
returns-then-counts c =
    let place = c.args.place in
    let step = instr place (does.Step 0) in
    let turns = instr place does.Turn in
    let enter = instr place (does.Enter 1) in
    let index = instr place does.Index in
    let bind = instr place (does.Bind 0) in
    let w0 = c.args.out.now in
    let w1 = c.emit.new.self in
    let w2 = c.emit-2.new.self in
    let w3 = c.emit-then-counts.new.self in
    let w4 = c.emit-then-counts-2.new.self in
    let w5 = c.emit-then-counts-3.new.self in
    let w35 = and_behind w3.stop w4.stop w5.stop w3.list w4.list w5.list (index ∷ []) (λ n. bind ∷ []) c.emit-then-counts-2.ensures c.emit-then-counts-3.ensures in
    let w25 = and_behind w2.stop w3.stop w5.stop w2.list w3.list w5.list (enter ∷ []) (λ n. index ∷ bind ∷ []) c.emit-then-counts.ensures w35 in
    let w15 = and_behind w1.stop w2.stop w5.stop w1.list w2.list w5.list (turns ∷ []) (λ n. enter ∷ index ∷ bind ∷ []) c.emit-2.ensures w25 in
    rw c.if-counts.true (and_behind w0.stop w1.stop w5.stop w0.list w1.list w5.list (step ∷ []) (λ n. turns ∷ enter ∷ index ∷ bind ∷ []) c.emit.ensures w15)
