-- A text has one answer.
use Rattle.std.proofs.Common.{◌≡◌, ℕ, suc, ◌<◌, ◌≤◌, ◌⊎◌, inl, inr, true, List, [], ◌∷◌, Option, Some, None, length, refl, ap, sym, ◌∙◌, arith}
use Rattle.std.specs.Prelude.{slice_get}
use Rattle.std.proofs.lemmas.Option.{slice_get_cases, slice_get_within}
use Rattle.a68_base.specs.declared.refusal.Rule.{Rule}
use Rattle.a68_base.specs.declared.refusal.Rule.TheVariants.{S4, N2, L3}
use Rattle.a68_symbols.specs.declared.symbol.Symbol.{Symbol}
use Rattle.a68_symbols.specs.declared.symbol.SymbolKind.{SymbolKind}
use Rattle.a68_symbols.specs.Names.{Named}
use Rattle.a68_words.specs.declared.class.Class.{Class}
use Rattle.a68_words.specs.declared.role.Role.{Role}
use Rattle.a68_words.specs.Roles.{is_definable}
use Rattle.a68_words.specs.Classes.{HasClass, IsClassOf, IsClassed, IsRefusedAt, rank}
use Rattle.a68_words.specs.Classes.HasClass.{reserved, standard, defined}
use Rattle.a68_words.specs.Spellings.{names_of, roles_of}
use Rattle.a68_words.proofs.Faults.{rule_is}

one_has : (roles : List Role) (names : List ℕ) (i : ℕ) (a b : Class) → HasClass roles names i a → HasClass roles names i b → a ≡ b
one_has roles names i _ _ (reserved r) (reserved s) = refl
one_has roles names i _ _ (reserved r) (standard s) = let t : is_definable _ ≡ true = ap is_definable s in absurd (cc (r, t))
one_has roles names i _ b (reserved r) (defined s d) = let t : is_definable _ ≡ true = ap is_definable s in absurd (cc (r, t))
one_has roles names i _ _ (standard s) (reserved r) = let t : is_definable _ ≡ true = ap is_definable s in absurd (cc (r, t))
one_has roles names i _ _ (standard r) (standard s) = refl
one_has roles names i _ b (standard r) (defined s d) = absurd (cc (r, s))
one_has roles names i a _ (defined s d) (reserved r) = let t : is_definable _ ≡ true = ap is_definable s in absurd (cc (r, t))
one_has roles names i a _ (defined r d) (standard s) = absurd (cc (r, s))
one_has roles names i a b (defined r d) (defined s e) = e.only d.somewhere.0 a d.somewhere.1

one_class : (roles : List Role) (names : List ℕ) (i : ℕ) (kind : SymbolKind) (a b : Option Class) → IsClassOf roles names i kind a
    → IsClassOf roles names i kind b → a ≡ b
one_class roles names i kind None None p q = refl
one_class roles names i kind None (Some b) p q = absurd (p q.0)
one_class roles names i kind (Some a) None p q = absurd (q p.0)
one_class roles names i kind (Some a) (Some b) p q = ap Some (one_has roles names i a b p.1 q.1)

same_items : (xs ys : List (Option Class)) → length xs ≡ length ys
    → ((i : ℕ) (x y : Option Class) → slice_get xs i ≡ Some x → slice_get ys i ≡ Some y → x ≡ y) → xs ≡ ys
same_items [] [] e same = refl
same_items [] (y ∷ ys) e same = absurd (omega arith)
same_items (x ∷ xs) [] e same = absurd (omega arith)
same_items (x ∷ xs) (y ∷ ys) e same =
    let head = same 0 x y refl refl in
    let tail = same_items xs ys (omega arith) (λ i. same (suc i)) in
    cc (head, tail)

pub one_list : (found : Named) (classes others : List (Option Class)) → IsClassed found classes → IsClassed found others → others ≡ classes
one_list found classes others p q =
    same_items others classes (q.words.whole ∙ sym p.words.whole) (λ i x y ex ey.
    elim (slice_get_cases found.symbols i).1 [
      | inl at ↦
          let a = p.words.each i at.0 at.2 in
          let b = q.words.each i at.0 at.2 in
          let same = one_class (roles_of found) (names_of found) i at.0.kind b.0 a.0 b.2 a.2 in
          let bx : b.0 ≡ x = cc (b.1, ex) in
          let ay : a.0 ≡ y = cc (a.1, ey) in
          sym bx ∙ same ∙ ay
      | inr past ↦
          let lt = slice_get_within others i x ex in
          let whole = q.words.whole in
          absurd (omega (arith, past.0))
    ])

rank_one : (rule other : Rule) → (rule ≡ S4) ⊎ ((rule ≡ N2) ⊎ (rule ≡ L3)) → (other ≡ S4) ⊎ ((other ≡ N2) ⊎ (other ≡ L3))
    → rank rule ≡ rank other → other ≡ rule
rank_one rule other (inl p) (inl q) e = q ∙ sym p
rank_one rule other (inr (inl p)) (inr (inl q)) e = q ∙ sym p
rank_one rule other (inr (inr p)) (inr (inr q)) e = q ∙ sym p
rank_one rule other (inl p) (inr (inl q)) e = let a : rank rule ≡ 0 = ap rank p in let b : rank other ≡ 1 = ap rank q in absurd (omega arith)
rank_one rule other (inl p) (inr (inr q)) e = let a : rank rule ≡ 0 = ap rank p in let b : rank other ≡ 2 = ap rank q in absurd (omega arith)
rank_one rule other (inr (inl p)) (inl q) e = let a : rank rule ≡ 1 = ap rank p in let b : rank other ≡ 0 = ap rank q in absurd (omega arith)
rank_one rule other (inr (inl p)) (inr (inr q)) e = let a : rank rule ≡ 1 = ap rank p in let b : rank other ≡ 2 = ap rank q in absurd (omega arith)
rank_one rule other (inr (inr p)) (inl q) e = let a : rank rule ≡ 2 = ap rank p in let b : rank other ≡ 0 = ap rank q in absurd (omega arith)
rank_one rule other (inr (inr p)) (inr (inl q)) e = let a : rank rule ≡ 2 = ap rank p in let b : rank other ≡ 1 = ap rank q in absurd (omega arith)

-- two first faults stand at one symbol, and are of one rank
one_place : (i j : ℕ) (rule other : Rule) → (i < j) ⊎ ((i ≡ j) × (rank rule ≤ rank other)) → (j < i) ⊎ ((j ≡ i) × (rank other ≤ rank rule))
    → (i ≡ j) × (rank rule ≡ rank other)
one_place i j rule other (inl p) (inl q) = absurd (omega arith)
one_place i j rule other (inl p) (inr q) = let e = q.0 in absurd (omega arith)
one_place i j rule other (inr p) (inl q) = let e = p.0 in absurd (omega arith)
one_place i j rule other (inr p) (inr q) = let a = p.1 in let b = q.1 in (p.0, omega arith)

pub one_refusal : (found : Named) (rule other : Rule) (place at : ℕ) → IsRefusedAt found rule place → IsRefusedAt found other at
    → (other ≡ rule) × (at ≡ place)
one_refusal found rule other place at p q =
    let same = one_place p.at q.at rule other (p.first q.at other q.broken) (q.first p.at rule p.broken) in
    let got : slice_get found.symbols p.at ≡ Some q.symbol = ap (slice_get found.symbols) same.0 ∙ q.is in
    let symbol : q.symbol ≡ p.symbol = cc (got, p.is) in (
      rank_one rule other (rule_is (roles_of found) (names_of found) p.at rule p.broken) (rule_is (roles_of found) (names_of found) q.at other q.broken) same.1,
      q.here ∙ ap (λ (s : Symbol). s.span.from) symbol ∙ sym p.here,
    )

pub apart : (found : Named) (rule : Rule) (place : ℕ) (classes : List (Option Class)) → IsRefusedAt found rule place → IsClassed found classes → ⊥
apart found rule place classes p q = q.fine p.at rule p.broken
