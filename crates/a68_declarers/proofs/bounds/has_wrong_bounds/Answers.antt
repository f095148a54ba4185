use Rattle.std.proofs.Common.{◌≡◌, ◌∙◌, ℕ, List, length, arith, subst, sym, ap, true, false, refl, ⊎_elim, get_or, slice_get, Some}
use Rattle.std.specs.Prelude.{slice_index_or}
use Rattle.std.proofs.lemmas.Bool.{false≢true}
use Rattle.std.proofs.lemmas.Bool.Decides.{eqb_tells}
use Rattle.a68_declarers.proofs.Barring.{wrong_part, right_part, held_is, read_tells}
use Rattle.a68_declarers.proofs.There.{parts_read}
use Rattle.a68_declarers.specs.Bounds.{HasWrongBound, is_bound}
use Rattle.a68_ranges.proofs.Parenting.{all_below}
use Rattle.a68_ranges.proofs.Taking.{read, some_one, is_there}
use Rattle.a68_ranges.specs.Nodes.{kind_at}
use Rattle.a68_declarers.proofs.bounds.has_wrong_bounds.Goals as goal

pub is_wrong_part-requires : goal.is_wrong_part-requires
is_wrong_part-requires c = all_below c.args.declarer (length c.args.tree.now.nodes) c.parts-part-items.result.now c.parts-part-items.ensures.behind c.loop-part.part-index 0 (omega arith)

pub returns-then-is_wrong_part : goal.returns-then-is_wrong_part
returns-then-is_wrong_part c =
    let tree = c.args.tree.now in
    let d = c.args.declarer in
    let i = c.loop-part.part-index in
    let parts = c.parts-part-items.result.now in
    let p = get_or parts i 0 in
    let marks = c.args.marks.now in
    let ia = read_tells marks.actual.items c.deref.result.now d c.is_marked-actual.result _ c.is_marked-actual.ensures c.deref.ensures.value (c.requires.marks.actual_are.exact d) in
    let im = read_tells marks.modal.items c.deref-2.result.now d c.is_marked-modal.result _ c.is_marked-modal.ensures c.deref-2.ensures.value (c.requires.marks.modal_are.exact d) in
    let ih = read_tells marks.barred.items c.deref-in-loop-part.result.now p (slice_index_or c.deref-in-loop-part.result.now p false) _ refl c.deref-in-loop-part.ensures.value (held_is tree marks.barred.items c.requires.marks.barred_are p) in
    let is = sym c.is_declarer.ensures ∙ c.if-not-is_declarer.false in
    (λ t. wrong_part tree d p i parts c.is_marked-actual.result c.is_marked-modal.result _ true c.requires.there is (parts_read tree d parts c.parts-part-items.ensures.is) (read parts i 0 (omega arith)) ia im ih (sym c.is_wrong_part.ensures ∙ c.if-is_wrong_part.true), λ u. refl)

pub loop-part-preserved : goal.loop-part-preserved
loop-part-preserved c k b h at bound wrong =
    let tree = c.args.tree.now in
    let d = c.args.declarer in
    let i = c.loop-part.part-index in
    let parts = c.parts-part-items.result.now in
    let p = get_or parts i 0 in
    let marks = c.args.marks.now in
    let ia = read_tells marks.actual.items c.deref.result.now d c.is_marked-actual.result _ c.is_marked-actual.ensures c.deref.ensures.value (c.requires.marks.actual_are.exact d) in
    let im = read_tells marks.modal.items c.deref-2.result.now d c.is_marked-modal.result _ c.is_marked-modal.ensures c.deref-2.ensures.value (c.requires.marks.modal_are.exact d) in
    let ih = read_tells marks.barred.items c.deref-in-loop-part.result.now p (slice_index_or c.deref-in-loop-part.result.now p false) _ refl c.deref-in-loop-part.ensures.value (held_is tree marks.barred.items c.requires.marks.barred_are p) in
    ⊎_elim
    (λ s.
    let here : slice_get parts i ≡ Some b = subst (λ x. slice_get parts x ≡ Some b) s.1 (sym (ap (λ (xs : List ℕ). slice_get xs k) (parts_read tree d parts c.parts-part-items.ensures.is)) ∙ at) in
    let same : b ≡ p = some_one (sym here ∙ read parts i 0 (omega arith)) in
    right_part tree d p c.is_marked-actual.result c.is_marked-modal.result _ ia im ih (sym c.is_wrong_part.ensures ∙ c.if-is_wrong_part.false)
    (subst (λ x. is_bound (kind_at tree x) ≡ true) same bound) (subst (HasWrongBound tree d) same wrong))
    (λ s. let n = s.1 in c.loop-part.invariant k b (omega arith) at bound wrong)
    (eqb_tells k i)

pub returns : goal.returns
returns c = (
  λ t. absurd (false≢true t),
  λ u.
      let tree = c.args.tree.now in
      let parts = c.parts-part-items.result.now in
      let is = parts_read tree c.args.declarer parts c.parts-part-items.ensures.is in
      let at = u.of.0.1.1 in
      let low = is_there parts u.of.0.0 u.bound (sym (ap (λ (xs : List ℕ). slice_get xs u.of.0.0) is) ∙ at) in
      absurd (c.loop-part.invariant u.of.0.0 u.bound (omega arith) at u.of.1 u.wrong),
)
