use Rattle.std.proofs.Common.{◌≡◌, ◌<◌, ◌∙◌, ◌++◌, ◌∷◌, [], ap, sym, subst, length, take, List, Bor, arith}
use Rattle.std.specs.Prelude.{map, slice_index_or}
use Rattle.std.proofs.Math.Seq.{take-length}
use Rattle.a68_coerce.specs.declared.leaf.Leaf.{Leaf}
use Rattle.a68_identify.proofs.Missing.{mets_none, mets_more}
use Rattle.a68_identify.specs.Apart.{AreMet}
use Rattle.a68_ranges.proofs.Taking.{map_more, read}
use Rattle.a68_identify.proofs.fitting.all_met.Goals as goal

pub met_by-requires-clause-leaves : goal.met_by-requires-clause-leaves
met_by-requires-clause-leaves c = c.requires.leaves c.loop-leaves.leaves-index _ c.loop-leaves-test.true

pub loop-leaves-preserved : goal.loop-leaves-preserved
loop-leaves-preserved c =
    let f = λ (o : Bor (List Leaf)). o.now in
    let operands = c.args.operands.now in
    let i = c.loop-leaves.leaves-index in
    let more = map_more f operands i _ (read operands i _ c.loop-leaves-test.true) in
    rw (c.in_ok-push.ensures.items, more)
    (mets_more c.args.modes.now c.args.classes.now.of (map f (take i operands)) c.loop-leaves.mets.items _ c.in_ok-met_by.field-0 c.loop-leaves.invariant c.in_ok-met_by.ensures)

pub returns : goal.returns
returns c =
    let all : c.loop-leaves.leaves-index ≡ length c.args.operands.now = omega arith in
    rw (all, take-length) at c.loop-leaves.invariant
