use Rattle.std.proofs.Common.{◌-◌, refl, arith}
use Rattle.a68_nodes.proofs.Framing.{keep_is, keep_within}
use Rattle.a68_nodes.proofs.frames.keep.Goals as goal

pub returns-then-count-gt0-clause-is : goal.returns-then-count-gt0-clause-is
returns-then-count-gt0-clause-is c = λ asides o os h.
    let fs = c.args.frames.now.items in
    let x = c.index_mut.result.now in
    keep_is fs (c.len-count.result - 1) x (record x { kept = c.args.kept }) (omega (arith, c.args.frames.now.ok.0)) c.index_mut.ensures.value asides o os refl refl h

pub returns-then-count-gt0-clause-within : goal.returns-then-count-gt0-clause-within
returns-then-count-gt0-clause-within c = λ n a h.
    let fs = c.args.frames.now.items in
    let x = c.index_mut.result.now in
    keep_within fs (c.len-count.result - 1) x (record x { kept = c.args.kept }) (omega (arith, c.args.frames.now.ok.0)) c.index_mut.ensures.value n a h
