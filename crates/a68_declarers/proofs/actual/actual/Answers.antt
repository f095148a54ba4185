use Rattle.std.proofs.Common.{◌∙◌, ◌<◌, List, Bool, length, arith, subst, sym, ap, false}
use Rattle.std.specs.Prelude.{IsTrue, ◌↔◌, slice_index_or}
use Rattle.std.proofs.lemmas.Bool.{false≢true}
use Rattle.a68_declarers.proofs.Marking.{begun, here_exact, source_more, no_source, all_marked}
use Rattle.a68_declarers.proofs.There.{parts_read, all_false, all_long}
use Rattle.a68_declarers.specs.Actual.{AreMarked, IsActual}
use Rattle.a68_ranges.proofs.Parenting.{all_below}
use Rattle.a68_declarers.proofs.actual.actual.Goals as goal
use Rattle.a68_declarers.proofs.actual.actual.Goals.{then-is_source, else-is_source}

pub loop-id-init : goal.loop-id-init
loop-id-init c =
    let e = c.in_ok-marks.ensures.items_if_clones_equal (λ y f. f) in
    begun c.args.tree.now c.args.which c.in_ok-marks.marks.items (all_long c.in_ok-marks.marks.items _ _ e c.len.ensures) (λ d. all_false c.in_ok-marks.marks.items _ d e)

pub is_source-requires-clause-marked : goal.is_source-requires-clause-marked
is_source-requires-clause-marked c =
    let i = c.loop-id.id in
    subst (λ b. IsTrue b ↔ IsActual c.args.tree.now c.args.which i) (sym (c.is_marked.ensures ∙ ap (λ (m : List Bool). slice_index_or m i false) c.deref.ensures.value))
    (here_exact c.args.tree.now c.args.which c.follow.ensures i c.loop-id.marks.items c.loop-id.invariant)

pub mark-requires : goal.mark-requires
mark-requires c =
    rw c.loop-id.invariant.long (all_below c.loop-id.id (length c.args.tree.now.nodes) c.parts.result.now c.parts.ensures.behind)

pub loop-id-preserved : goal.loop-id-preserved
loop-id-preserved c =
    let tree = c.args.tree.now in
    let i = c.loop-id.id in
    elim c.if-is_source.branch [
      | then-is_source w ↦
          let lt : i < length tree.nodes = omega arith in
          let parts = parts_read tree i w.parts.result.now w.parts.ensures.is in
          rw w.marks-is (source_more tree c.args.which i c.loop-id.marks.items w.mark.new.marks.items lt (c.is_source.ensures.0 w.if-is_source.true)
          (subst (λ ps. AreMarked tree ps c.loop-id.marks.items w.mark.new.marks.items) (sym parts) w.mark.ensures) c.loop-id.invariant)
      | else-is_source w ↦ rw w.marks-is (no_source tree c.args.which i c.loop-id.marks.items (λ s. false≢true (sym w.if-is_source.false ∙ c.is_source.ensures.1 s)) c.loop-id.invariant)
    ]

pub returns : goal.returns
returns c = all_marked c.args.tree.now c.args.which c.loop-id.id c.loop-id.marks.items (omega arith) c.loop-id.invariant
