-- A text has one answer.
use Rattle.std.proofs.Common.{◌≡◌, ℕ, ◌⊎◌, inl, inr, List, map, sym, ap, subst, ◌∙◌}
use Rattle.a68_annot.specs.declared.annotated.Annotated.{Annotated}
use Rattle.a68_base.specs.declared.refusal.Refusal.{Refusal}
use Rattle.a68_base.specs.declared.refusal.Rule.{Rule}
use Rattle.a68_base.specs.declared.refusal.Rule.TheVariants.{S6}
use Rattle.a68_check.specs.Annotates.{Annotates, Refuses}
use Rattle.a68_gen.specs.Refusals.{IsNotGenerated}
use Rattle.a68_lister.specs.Layout.{listed, spellings_in}
use Rattle.a68_parse.specs.Parses.{IsTree}
use Rattle.a68_symbols.specs.Names.{Named, AreNamed}
use Rattle.a68_symbols.specs.Symbols.{SymbolsAre, RefusalIs, piece_of}
use Rattle.a68_top.specs.Answer.{IsListingOf}
use Rattle.a68_top.specs.Compiles.{IsTreeOf, IsProgramOf, RefusedAs, untreed, unlike_symbols, unclassed, no_tree, no_meaning, not_generated}
use Rattle.a68_tree.specs.Trees.{Built}
use Rattle.a68_tree.specs.declared.node.Node.{Node}
use Rattle.a68_parse.specs.Drafted.{SpellsAlike, AreStarts}
use Rattle.a68_words.specs.Classes.{IsClassed, IsRefusedAt}
use Rattle.a68_words.specs.declared.class.Class.{Class}
use Rattle.std.specs.declared.option.Option.{Option}

-- what the laws of the lower crates say, as these give it
pub record Laws : Type 0 where
  pub named : (text : List ℕ) (found other : Named) → map piece_of other.symbols ≡ map piece_of found.symbols → AreNamed text found → AreNamed text other → other ≡ found
  pub classes : (found : Named) (classes others : List (Option Class)) → IsClassed found classes → IsClassed found others → others ≡ classes
  pub unclassed : (found : Named) (rule other : Rule) (place at : ℕ) → IsRefusedAt found rule place → IsRefusedAt found other at → (other ≡ rule) × (at ≡ place)
  pub apart : (found : Named) (rule : Rule) (place : ℕ) (classes : List (Option Class)) → IsRefusedAt found rule place → IsClassed found classes → ⊥
  pub broken : (flat : Built) (r s : Refusal) → Refuses flat r → Refuses flat s → (r.rule ≡ s.rule) × (r.place ≡ s.place)
  pub unbroken : (flat : Built) (program : Annotated) (r : Refusal) → Annotates flat program → Refuses flat r → ⊥
  pub programs : (flat : Built) (a b : Annotated) → Annotates flat a → Annotates flat b → a ≡ b
  pub ungenerated : (program : Annotated) (r s : Refusal) → IsNotGenerated program r → IsNotGenerated program s → s ≡ r

abbrev pub AreOne : Refusal → Refusal → Type 0
AreOne r s = (r.rule ≡ s.rule) × ((r.rule ≡ S6) ⊎ (r.place ≡ s.place))

module _ (laws : Laws) (text : List ℕ) where
  same_found : (a b : Named) → SymbolsAre text (map piece_of a.symbols) → AreNamed text a → SymbolsAre text (map piece_of b.symbols) → AreNamed text b → a ≡ b
  same_found a b p n q m = laws.named text b a (q.only (map piece_of a.symbols) p.has) m n

  pub one_listing : (a b : List ℕ) → IsListingOf text a → IsListingOf text b → a ≡ b
  one_listing a b p q =
      p.laid_out ∙ ap (λ (f : Named). listed (spellings_in f)) (same_found p.is.found q.is.found p.is.symbols p.is.named q.is.symbols q.is.named) ∙ sym q.laid_out

  pub same_tree : (a b : Built) → IsTreeOf text a → IsTreeOf text b → a ≡ b
  same_tree a b p q =
      let found : p.found ≡ q.found = same_found p.found q.found p.symbols p.named q.symbols q.named in
      let classed : IsClassed q.found p.classes = subst (λ f. IsClassed f p.classes) found p.classed in
      let classes : p.classes ≡ q.classes = laws.classes q.found q.classes p.classes q.classed classed in
      let derived : IsTree q.found p.classes a.nodes = subst (λ f. IsTree f p.classes a.nodes) found p.derived in
      let derived' : IsTree q.found q.classes a.nodes = subst (λ cs. IsTree q.found cs a.nodes) classes derived in
      let nodes : a.nodes ≡ b.nodes = q.only a.nodes derived' in
      let alike : SpellsAlike q.found a.spellings = subst (λ f. SpellsAlike f a.spellings) found p.spelled in
      let spellings : a.spellings ≡ b.spellings = alike ∙ sym q.spelled in
      let begun : AreStarts q.found a.starts = subst (λ f. AreStarts f a.starts) found p.begun in
      let starts : a.starts ≡ b.starts = begun ∙ sym q.begun in
      ap {A = List Node} {B = Built} (λ ns. record { nodes = ns; spellings = a.spellings; starts = a.starts }) nodes
      ∙ ap {A = List (List ℕ)} {B = Built} (λ ss. record { nodes = b.nodes; spellings = ss; starts = a.starts }) spellings
      ∙ ap {A = List ℕ} {B = Built} (λ ss. record { nodes = b.nodes; spellings = b.spellings; starts = ss }) starts

  pub same_program : (a b : Annotated) → IsProgramOf text a → IsProgramOf text b → a ≡ b
  same_program a b p q =
      let flat : p.tree ≡ q.tree = same_tree p.tree q.tree p.is q.is in
      laws.programs q.tree a b (subst (λ t. Annotates t a) flat p.annotates) q.annotates

  -- a tree of the text, and no symbols, classes or tree
  tree_symbols : (tree : Built) (rule : Rule) (place : ℕ) → IsTreeOf text tree → RefusalIs text rule place → ⊥
  tree_symbols tree rule place is r = r.none (map piece_of is.found.symbols) is.symbols.has

  tree_classed : (tree : Built) (found : Named) (rule : Rule) (place : ℕ) → IsTreeOf text tree → SymbolsAre text (map piece_of found.symbols) → AreNamed text found
      → IsRefusedAt found rule place → ⊥
  tree_classed tree found rule place is symbols named r =
      let same : is.found ≡ found = same_found is.found found is.symbols is.named symbols named in
      laws.apart found rule place is.classes r (subst (λ f. IsClassed f is.classes) same is.classed)

  tree_parsed : (tree : Built) (found : Named) (classes : List (Option Class)) → IsTreeOf text tree → SymbolsAre text (map piece_of found.symbols) → AreNamed text found
      → IsClassed found classes → ((list : List Node) → IsTree found classes list → ⊥) → ⊥
  tree_parsed tree found classes is symbols named classed none =
      let same : is.found ≡ found = same_found is.found found is.symbols is.named symbols named in
      let also : IsClassed found is.classes = subst (λ f. IsClassed f is.classes) same is.classed in
      let cs : is.classes ≡ classes = laws.classes found classes is.classes classed also in
      none tree.nodes (subst (λ c. IsTree found c tree.nodes) cs (subst (λ f. IsTree f is.classes tree.nodes) same is.derived))

  -- a text that has a tree is refused only by its meaning, or where no code is made of it
  data Late (r : Refusal) : Type 0 where
    late_meaning : (tree : Built) → IsTreeOf text tree → Refuses tree r → Late r
    late_code : (program : Annotated) → IsProgramOf text program → IsNotGenerated program r → Late r

  late : (tree : Built) (r : Refusal) → IsTreeOf text tree → RefusedAs text r → Late r
  late tree r is (untreed (unlike_symbols u)) = absurd (tree_symbols tree r.rule r.place is u)
  late tree r is (untreed (unclassed found s n u)) = absurd (tree_classed tree found r.rule r.place is s n u)
  late tree r is (untreed (no_tree found classes s n c u)) = absurd (tree_parsed tree found classes is s n c u.2)
  late tree r is (no_meaning t i u) = late_meaning t i u
  late tree r is (not_generated p i u) = late_code p i u

  broken_once : (t u : Built) (r s : Refusal) → IsTreeOf text t → IsTreeOf text u → Refuses t r → Refuses u s → AreOne r s
  broken_once t u r s is also p q =
      let flat : t ≡ u = same_tree t u is also in
      let one = laws.broken u r s (subst (λ x. Refuses x r) flat p) q in
      (one.0, inr one.1)

  pub not_both : (t : Built) (program : Annotated) (r : Refusal) → IsTreeOf text t → IsProgramOf text program → Refuses t r → ⊥
  not_both t program r is q p =
      let flat : t ≡ q.tree = same_tree t q.tree is q.is in
      laws.unbroken q.tree program r q.annotates (subst (λ x. Refuses x r) flat p)

  code_once : (p q : Annotated) (r s : Refusal) → IsProgramOf text p → IsProgramOf text q → IsNotGenerated p r → IsNotGenerated q s → AreOne r s
  code_once p q r s i j u v =
      let same = laws.ungenerated q s r v (subst (λ x. IsNotGenerated x r) (same_program p q i j) u) in
      (ap (λ (x : Refusal). x.rule) same, inr (ap (λ (x : Refusal). x.place) same))

  -- two refusals of a text are one
  pub one_refusal : (r s : Refusal) → RefusedAs text r → RefusedAs text s → AreOne r s
  one_refusal r s (untreed (unlike_symbols u)) (untreed (unlike_symbols v)) = let e = v.only r.rule r.place u.refused in (e.0, inr e.1)
  one_refusal r s (untreed (unlike_symbols u)) (untreed (unclassed f symbols n v)) = absurd (u.none (map piece_of f.symbols) symbols.has)
  one_refusal r s (untreed (unlike_symbols u)) (untreed (no_tree f c symbols n cl v)) = absurd (u.none (map piece_of f.symbols) symbols.has)
  one_refusal r s (untreed (unlike_symbols u)) (no_meaning t i v) = absurd (tree_symbols t r.rule r.place i u)
  one_refusal r s (untreed (unlike_symbols u)) (not_generated p i v) = absurd (tree_symbols i.tree r.rule r.place i.is u)
  one_refusal r s (untreed (unclassed f symbols n u)) (untreed (unlike_symbols v)) = absurd (v.none (map piece_of f.symbols) symbols.has)
  one_refusal r s (untreed (unclassed f symbols n u)) (untreed (unclassed g also m v)) =
      let same : f ≡ g = same_found f g symbols n also m in
      let e = laws.unclassed g s.rule r.rule s.place r.place v (subst (λ x. IsRefusedAt x r.rule r.place) same u) in
      (e.0, inr e.1)
  one_refusal r s (untreed (unclassed f symbols n u)) (untreed (no_tree g c also m cl v)) =
      let same : f ≡ g = same_found f g symbols n also m in
      absurd (laws.apart g r.rule r.place c (subst (λ x. IsRefusedAt x r.rule r.place) same u) cl)
  one_refusal r s (untreed (unclassed f symbols n u)) (no_meaning t i v) = absurd (tree_classed t f r.rule r.place i symbols n u)
  one_refusal r s (untreed (unclassed f symbols n u)) (not_generated p i v) = absurd (tree_classed i.tree f r.rule r.place i.is symbols n u)
  one_refusal r s (untreed (no_tree f c symbols n cl u)) (untreed (unlike_symbols v)) = absurd (v.none (map piece_of f.symbols) symbols.has)
  one_refusal r s (untreed (no_tree f c symbols n cl u)) (untreed (unclassed g also m v)) =
      let same : g ≡ f = same_found g f also m symbols n in
      absurd (laws.apart f s.rule s.place c (subst (λ x. IsRefusedAt x s.rule s.place) same v) cl)
  one_refusal r s (untreed (no_tree f c symbols n cl u)) (untreed (no_tree g d also m dl v)) = (u.0 ∙ sym v.0, inl u.0)
  one_refusal r s (untreed (no_tree f c symbols n cl u)) (no_meaning t i v) = absurd (tree_parsed t f c i symbols n cl u.2)
  one_refusal r s (untreed (no_tree f c symbols n cl u)) (not_generated p i v) = absurd (tree_parsed i.tree f c i.is symbols n cl u.2)
  one_refusal r s (no_meaning t i u) q = elim (late t s i q) [
    | late_meaning w j v ↦ broken_once t w r s i j u v
    | late_code p j v ↦ absurd (not_both t p r i j u)
  ]
  one_refusal r s (not_generated p i u) q = elim (late i.tree s i.is q) [
    | late_meaning w j v ↦ absurd (not_both w p s j i v)
    | late_code o j v ↦ code_once p o r s i j u v
  ]

  -- what has a program is refused only where no code is made of it
  pub compiled_late : (program : Annotated) (r : Refusal) → IsProgramOf text program → RefusedAs text r → IsNotGenerated program r
  compiled_late program r i q = elim (late i.tree r i.is q) [
    | late_meaning w j v ↦ absurd (not_both w program r j i v)
    | late_code o j v ↦ subst (λ x. IsNotGenerated x r) (same_program o program j i) v
  ]
