use Rattle.std.proofs.Common.{◌≡◌, ◌∙◌, ◌-◌, ◌+◌, ◌<◌, ℕ, length, arith, subst, sym, true, set}
use Rattle.std.proofs.lemmas.Bool.{false≢true}
use Rattle.a68_declarers.proofs.Barring.{begun, marked, unmarked, holds_there}
use Rattle.a68_declarers.proofs.There.{all_false, all_long}
use Rattle.a68_declarers.specs.Bounds.{AreBarred, HoldsBarred}
use Rattle.a68_declarers.proofs.bounds.barred.Goals as goal
use Rattle.a68_declarers.proofs.bounds.barred.Goals.{then-holds_barred, else-holds_barred}

pub loop-done-init : goal.loop-done-init
loop-done-init c =
    let tree = c.args.tree.now in
    let e : length tree.nodes - 0 ≡ length tree.nodes = omega arith in
    let f = c.in_ok-marks.ensures.items_if_clones_equal (λ y f. f) in
    rw e (begun tree c.in_ok-marks.marks.items (all_long c.in_ok-marks.marks.items _ _ f c.len.ensures) (λ d. all_false c.in_ok-marks.marks.items _ d f) (λ x h holds. let l = holds_there tree x holds in omega arith))

pub holds_barred-requires-clause-actual : goal.holds_barred-requires-clause-actual
holds_barred-requires-clause-actual c = rw c.is_marked.ensures (c.requires.exact _)

pub holds_barred-requires-clause-marks : goal.holds_barred-requires-clause-marks
holds_barred-requires-clause-marks c =
    let e : c.len-in-loop-done.result - 1 - c.loop-done.done + 1 ≡ length c.args.tree.now.nodes - c.loop-done.done = omega arith in
    rw (e, c.deref.ensures.value) c.loop-done.invariant

pub loop-done-preserved : goal.loop-done-preserved
loop-done-preserved c =
    let tree = c.args.tree.now in
    let id : ℕ = length tree.nodes - (c.loop-done.done + 1) in
    let is : c.len-in-loop-done.result - 1 - c.loop-done.done ≡ id = omega arith in
    let e : id + 1 ≡ length tree.nodes - c.loop-done.done = omega arith in
    let before : AreBarred tree (id + 1) c.loop-done.marks.items = rw e c.loop-done.invariant in
    let less : id < length tree.nodes = omega arith in
    elim c.if-holds_barred.branch [
      | then-holds_barred w ↦
          let holds : HoldsBarred tree id = subst (HoldsBarred tree) is (c.holds_barred.ensures.0 w.if-holds_barred.true) in
          rw w.marks-is (subst (λ k. AreBarred tree id (set c.loop-done.marks.items k true)) (sym is) (marked tree id c.loop-done.marks.items less holds before))
      | else-holds_barred w ↦ rw w.marks-is (unmarked tree id c.loop-done.marks.items
          (λ h. false≢true (sym w.if-holds_barred.false ∙ c.holds_barred.ensures.1 (subst (HoldsBarred tree) (sym is) h))) before)
    ]

pub returns : goal.returns
returns c =
    let e : length c.args.tree.now.nodes - c.loop-done.done ≡ 0 = omega arith in
    rw e at c.loop-done.invariant
