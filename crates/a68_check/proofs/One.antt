-- A tree breaks one rule at one place, or it has one annotation.
use Rattle.std.proofs.Common.{◌≡◌, ℕ, List, sym, ap, subst, ◌∙◌, arith, length}
use Rattle.std.proofs.Math.Nat.{ℕ_set}
use Rattle.a68_annot.specs.declared.annotated.Annotated.{Annotated}
use Rattle.a68_annot.specs.declared.note.Note.{Note}
use Rattle.a68_base.specs.declared.refusal.Refusal.{Refusal}
use Rattle.a68_check.specs.Annotates.{AreKnown, Annotates, Refuses, DeclaresOnce, declared_twice, misused, unshaped}
use Rattle.a68_check.proofs.Keeping.{declares_once}
use Rattle.a68_declare.specs.Outcome.{ByNode}
use Rattle.a68_meaning.specs.Meaning.{IsMeaning, IsMisused, IsUnbroken}
use Rattle.a68_modes.specs.declared.shape.Shape.{Shape}
use Rattle.a68_notes.specs.Notes.{AreNotes}
use Rattle.a68_notes.specs.Rows.{with_rows}
use Rattle.a68_op_ident.specs.Lacking.{IsUnshaped, LacksPriority}
use Rattle.a68_op_ident.specs.Shapes.{Shaped}
use Rattle.a68_ranges.specs.Nodes.{place_at}
use Rattle.a68_ranges.specs.Twice.{IsFirstInText, RefusesTwice, IsTwice}
use Rattle.a68_refusals.specs.First.{Asked}
use Rattle.a68_tree.specs.Trees.{Built}

abbrev pub AreOne : Refusal → Refusal → Type 0
AreOne r s = (r.rule ≡ s.rule) × (r.place ≡ s.place)

-- ---- two programs of the same fields are one

made : (t : Built) (m : List Shape) (x : List Note) → length x ≡ length t.nodes → Annotated
made t m x a = record { tree = t; modes = m; notes = x; noted = a }

same_made : (t u : Built) → t ≡ u → (m k : List Shape) → m ≡ k → (x y : List Note) → x ≡ y → (a : length x ≡ length t.nodes) (b : length y ≡ length u.nodes)
    → made t m x a ≡ made u k y b
same_made t u e m k f x y g a b =
    let one : (b : length x ≡ length t.nodes) → made t m x a ≡ made t m x b = λ b. ap (made t m x) (ℕ_set (length x) (length t.nodes) a b) in
    let two : (b : length x ≡ length u.nodes) → made t m x a ≡ made u m x b = subst (λ (w : Built). (b : length x ≡ length w.nodes) → made t m x a ≡ made w m x b) e one in
    let three : (b : length x ≡ length u.nodes) → made t m x a ≡ made u k x b = subst (λ (w : List Shape). (b : length x ≡ length u.nodes) → made t m x a ≡ made u w x b) f two in
    subst (λ (w : List Note). (b : length w ≡ length u.nodes) → made t m x a ≡ made u k w b) g three b

same_annotated : (p q : Annotated) → p.tree ≡ q.tree → p.modes ≡ q.modes → p.notes ≡ q.notes → p ≡ q
unfolding made
same_annotated p q tree modes notes = same_made p.tree q.tree tree p.modes q.modes modes p.notes q.notes notes p.noted q.noted

-- the first places in the text for which something holds are one
one_first : (tree : Built) (P : ℕ → Type 0) (i j : ℕ) → IsFirstInText tree P i → IsFirstInText tree P j → place_at tree i ≡ place_at tree j
one_first tree P i j p q = let a = p.first j q.there q.broken in let b = q.first i p.there p.broken in omega arith

-- ---- trees

-- what the laws of the crates below say
pub record Laws : Type 0 where
  pub shapes : (flat shaped another : Built) → DeclaresOnce flat → Shaped flat shaped → Shaped flat another → another ≡ shaped
  pub never : (flat shaped : Built) (why : Refusal) → DeclaresOnce flat → IsUnshaped flat why → Shaped flat shaped → ⊥
  pub misuse : (tree : Built) → DeclaresOnce tree → (r s : Refusal) → IsMisused tree r → IsMisused tree s → AreOne r s
  pub unbroken : (of : ByNode) (a : Asked) (r : Refusal) → DeclaresOnce a.tree → IsUnbroken of a → IsMisused a.tree r → ⊥
  pub meaning : (of other : ByNode) (a b : Asked) → DeclaresOnce a.tree → a.tree ≡ b.tree → IsUnbroken of a → IsUnbroken other b → (of ≡ other) × (a ≡ b)
  pub notes : (of : ByNode) (a : Asked) (x y : List Note) → DeclaresOnce a.tree → IsMeaning of a → AreNotes of a x → AreNotes of a y → x ≡ y

module _ (laws : Laws) where
  -- ---- of shaped trees

  not_wrong : (tree : Built) (modes : List Shape) (notes : List Note) (r : Refusal) → AreKnown tree modes notes → IsMisused tree r → ⊥
  not_wrong tree modes notes r known t =
      laws.unbroken known.of known.asked r (subst DeclaresOnce (sym known.tree_is) known.once) known.fine (subst (λ t. IsMisused t r) (sym known.tree_is) t)

  -- its modes and what is known of its nodes are one
  module _ (tree : Built) (modes others : List Shape) (notes more : List Note) (p : AreKnown tree modes notes) (q : AreKnown tree others more) where
    same_meaning : (p.of ≡ q.of) × (p.asked ≡ q.asked)
    same_meaning = laws.meaning p.of q.of p.asked q.asked (subst DeclaresOnce (sym p.tree_is) p.once) (p.tree_is ∙ sym q.tree_is) p.fine q.fine

    same_modes : modes ≡ others
    same_modes = p.modes_are ∙ ap (λ (a : Asked). with_rows a.nodes) same_meaning.1 ∙ sym q.modes_are

    same_notes : notes ≡ more
    same_notes =
        let there : AreNotes p.of p.asked more = subst (λ a. AreNotes p.of a more) (sym same_meaning.1) (subst (λ of. AreNotes of q.asked more) (sym same_meaning.0) q.notes_are) in
        laws.notes p.of p.asked notes more (subst DeclaresOnce (sym p.tree_is) p.once) p.fine.is p.notes_are there

  -- ---- of flat trees

  twice_alone : (flat : Built) (r s : Refusal) → RefusesTwice flat r → Refuses flat s → AreOne r s
  twice_alone flat r s t (declared_twice u) = (t.rule_is ∙ sym u.rule_is, t.place_is ∙ one_first flat (IsTwice flat) t.id u.id t.first u.first ∙ sym u.place_is)
  twice_alone flat r s t (unshaped once u) = absurd (once t.id t.first.broken)
  twice_alone flat r s t (misused shaped once is b) = absurd (once t.id t.first.broken)

  pub one_refusal : (flat : Built) (r s : Refusal) → Refuses flat r → Refuses flat s → AreOne r s
  one_refusal flat r s (declared_twice t) q = twice_alone flat r s t q
  one_refusal flat r s (unshaped once u) (declared_twice t) = absurd (once t.id t.first.broken)
  one_refusal flat r s (unshaped once t) (unshaped so u) = (t.rule_is ∙ sym u.rule_is, t.place_is ∙ one_first flat (LacksPriority flat) t.id u.id t.first u.first ∙ sym u.place_is)
  one_refusal flat r s (unshaped once u) (misused shaped so is b) = absurd (laws.never flat shaped r once u is)
  one_refusal flat r s (misused shaped once is b) (declared_twice t) = absurd (once t.id t.first.broken)
  one_refusal flat r s (misused shaped once is b) (unshaped so u) = absurd (laws.never flat shaped s once u is)
  one_refusal flat r s (misused shaped once is b) (misused another so also c) =
      laws.misuse shaped (declares_once flat shaped is once) r s b (subst (λ x. IsMisused x s) (laws.shapes flat shaped another once is also) c)

  pub not_refused : (flat : Built) (program : Annotated) (r : Refusal) → Annotates flat program → Refuses flat r → ⊥
  not_refused flat program r a (declared_twice t) = a.once t.id t.first.broken
  not_refused flat program r a (unshaped once u) = laws.never flat program.tree r once u a.shaped
  not_refused flat program r a (misused shaped once is b) =
      not_wrong program.tree program.modes program.notes r a.known (subst (λ x. IsMisused x r) (laws.shapes flat program.tree shaped once a.shaped is) b)

  pub one_program : (flat : Built) (a b : Annotated) → Annotates flat a → Annotates flat b → a ≡ b
  one_program flat a b p q =
      let tree : a.tree ≡ b.tree = sym (laws.shapes flat a.tree b.tree p.once p.shaped q.shaped) in
      let there : AreKnown a.tree b.modes b.notes = subst (λ t. AreKnown t b.modes b.notes) (sym tree) q.known in
      same_annotated a b tree (same_modes a.tree a.modes b.modes a.notes b.notes p.known there) (same_notes a.tree a.modes b.modes a.notes b.notes p.known there)
