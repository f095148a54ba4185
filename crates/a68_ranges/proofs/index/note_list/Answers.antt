use Rattle.std.proofs.Common.{◌≡◌, ◌∙◌, length, arith, subst}
use Rattle.a68_ranges.proofs.Indexing.{noted_more, late_more}
use Rattle.a68_ranges.proofs.Taking.{read}
use Rattle.a68_ranges.specs.Indexed.{IsLeast, IsLateIn}
use Rattle.a68_ranges.proofs.index.note_list.Goals as goal

pub loop-id-preserved : goal.loop-id-preserved
loop-id-preserved c =
    let tree = c.args.tree.now in
    let list = c.args.list.now in
    let i = c.loop-id.id-index in
    let is = read list i 0 (omega arith) in
    let late = c.in_ok-note_one.field-0 in
    let step = noted_more tree c.args.sort c.args.range list i _ c.loop-id.index.entries c.note_one.new.index.entries is c.loop-id.invariant.named late c.in_ok-note_one.ensures in
    record {
      named = step.named;
      others = λ r name apart. step.others r name apart ∙ c.loop-id.invariant.others r name apart;
      least = rw c.earlier-late.ensures (late_more tree c.args.sort list i c.loop-id.late late c.loop-id.invariant.least step.least);
    }

pub returns-clause-late : goal.returns-clause-late
returns-clause-late c =
    let all : c.loop-id.id-index ≡ length c.args.list.now = omega arith in
    subst (λ k. IsLeast c.args.tree.now (IsLateIn c.args.tree.now c.args.sort c.args.list.now k) c.loop-id.late) all c.loop-id.invariant.least
