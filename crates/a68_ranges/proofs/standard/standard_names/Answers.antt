use Rattle.std.proofs.Common.{◌≡◌, length, refl, arith}
use Rattle.std.proofs.Math.Seq.{take-length}
use Rattle.a68_ranges.specs.Standard.{standard_of}
use Rattle.a68_ranges.proofs.Taking.{map_more}
use Rattle.a68_ranges.proofs.standard.standard_names.Goals as goal

pub returns : goal.returns
returns c =
    let all : c.loop-name.name ≡ length c.args.tree.now.spellings = omega arith in
    rw (all, take-length) at c.loop-name.invariant

pub loop-name-preserved : goal.loop-name-preserved
loop-name-preserved c =
    rw (c.in_ok-push.ensures.items, map_more standard_of c.args.tree.now.spellings c.loop-name.name c.spelling.result.now c.spelling.ensures, c.loop-name.invariant, c.standard_of.ensures) refl
