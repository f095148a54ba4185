use Rattle.std.proofs.Common.{◌+◌, ◌-◌, ◌/◌, arith}
use Rattle.std.specs.Result.{is_ok}
use Rattle.std.specs.Vec.{vec_len}
use Rattle.a68_marks.proofs.Bits.{held_same}
use Rattle.a68_marks.proofs.marks.hold.Goals as goal

pub returns-clause-same : goal.returns-clause-same
returns-clause-same c =
    let v = c.args.words.now in
    λ k. held_same v.items c.resize.new.self.items (c.args.n / 64 + 1) (c.args.n / 64 + 1 - vec_len v) (is_ok c.resize.result) c.resize.ensures.items (omega (arith, c.len.ensures, v.ok.0, c.if-count-len.false)) k
