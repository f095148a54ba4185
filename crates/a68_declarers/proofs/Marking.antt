-- Actual declarers, as they are marked.
use Rattle.std.proofs.Common.{◌≡◌, ◌<◌, ◌≤◌, ◌+◌, ◌⊎◌, ℕ, List, [], ◌∷◌, ◌++◌, Bool, true, false, length, get_or, set, refl, sym, ◌∙◌, arith, subst, inl, inr, ⊎_elim, Some, slice_get, get_or-set_same, get_or-set_other, length-set}
use Rattle.std.specs.Prelude.{◌↔◌}
use Rattle.std.specs.List.{Contains}
use Rattle.std.proofs.lemmas.Bool.{cases_eq}
use Rattle.std.proofs.lemmas.Bool.Decides.{eqb_tells}
use Rattle.std.proofs.lemmas.List.Elements.{Contains-push_cases, Contains-push, Contains-append_left}
use Rattle.a68_declarers.specs.declared.actual.Holders.{Holders}
use Rattle.a68_declarers.specs.Actual.{IsActual, whole, inner, AreActual, IsSource, IsMarkedBefore, AreMarked}
use Rattle.a68_declarers.specs.Declarers.{IsDeclarerAt, PartsFollow}
use Rattle.a68_declarers.proofs.There.{at_place, placed}
use Rattle.a68_ranges.specs.Nodes.{parts_at, IsPart}
use Rattle.a68_tree.specs.Trees.{Built}

none_in : (x : ℕ) → Contains [] x → ⊥
none_in x i = let h = i.1 in omega arith

pub marked_none : (tree : Built) (marks : List Bool) → AreMarked tree [] marks marks
marked_none tree marks = record { long = refl; exact = λ d. (inl, λ h. ⊎_elim (λ m. m) (λ c. absurd (none_in d c.0)) h) }

-- one node more, which is no declarer
pub marked_other : (tree : Built) (nodes : List ℕ) (p : ℕ) (old new : List Bool) → (IsDeclarerAt tree p → ⊥) → AreMarked tree nodes old new → AreMarked tree (nodes ++ p ∷ []) old new
marked_other tree nodes p old new never so = record {
  long = so.long;
  exact = λ d. (
    λ h. ⊎_elim inl (λ c. inr (Contains-append_left nodes (p ∷ []) d c.0, c.1)) ((so.exact d).0 h),
    λ h. (so.exact d).1 (⊎_elim inl (λ c. ⊎_elim (λ i. inr (i, c.1)) (λ e. absurd (never (subst (IsDeclarerAt tree) (sym e) c.1))) (Contains-push_cases nodes p d c.0)) h),
  );
}

-- one declarer more
pub marked_more : (tree : Built) (nodes : List ℕ) (p : ℕ) (old new : List Bool) → IsDeclarerAt tree p → p < length new → AreMarked tree nodes old new → AreMarked tree (nodes ++ p ∷ []) old (set new p true)
marked_more tree nodes p old new is lt so = record {
  long = length-set new p true ∙ so.long;
  exact = λ d. (to d, from d);
}
  where
    to : (d : ℕ) → get_or (set new p true) d false ≡ true → (get_or old d false ≡ true) ⊎ (Contains (nodes ++ p ∷ []) d × IsDeclarerAt tree d)
    to d h = go (cases_eq d p)
      where
        go : (d ≡ p) ⊎ (d ≡ p → ⊥) → (get_or old d false ≡ true) ⊎ (Contains (nodes ++ p ∷ []) d × IsDeclarerAt tree d)
        go (inl e) = inr (subst (Contains (nodes ++ p ∷ [])) (sym e) (Contains-push nodes p), subst (IsDeclarerAt tree) (sym e) is)
        go (inr ne) = ⊎_elim inl (λ c. inr (Contains-append_left nodes (p ∷ []) d c.0, c.1)) ((so.exact d).0 (rw get_or-set_other at h))

    from : (d : ℕ) → (get_or old d false ≡ true) ⊎ (Contains (nodes ++ p ∷ []) d × IsDeclarerAt tree d) → get_or (set new p true) d false ≡ true
    from d h = go (cases_eq d p)
      where
        go : (d ≡ p) ⊎ (d ≡ p → ⊥) → get_or (set new p true) d false ≡ true
        go (inl e) = subst (λ x. get_or (set new p true) x false ≡ true) (sym e) (get_or-set_same new p true false lt)
        go (inr ne) =
            let was : get_or new d false ≡ true = (so.exact d).1 (⊎_elim inl (λ c. ⊎_elim (λ i. inr (i, c.1)) (λ e. absurd (ne (sym e))) (Contains-push_cases nodes p d c.0)) h) in
            rw get_or-set_other was

-- ---- the walk over all nodes

-- the marks are those of the nodes before a number
pub record MarkedBefore (tree : Built) (which : Holders) (count : ℕ) (marks : List Bool) : Type 0 where
  pub long : length marks ≡ length tree.nodes
  pub exact : (d : ℕ) → (get_or marks d false ≡ true) ↔ IsMarkedBefore tree which count d

module _ (tree : Built) (which : Holders) where
  pub begun : (marks : List Bool) → length marks ≡ length tree.nodes → ((d : ℕ) → get_or marks d false ≡ false) → MarkedBefore tree which 0 marks
  begun marks long none = record {
    long = long;
    exact = λ d. (λ h. let f = none d in absurd (cc), λ m. let l = m.1 in absurd (omega arith));
  }

  -- an actual declarer has a source
  pub source_of : (d : ℕ) → IsActual tree which d → (n : ℕ) × IsSource tree which n × IsPart tree n d × IsDeclarerAt tree d
  source_of d (whole {top = n} is part dec) = (n, inl is, part, dec)
  source_of d (inner {d = n} is on part dec) = (n, inr (is, on), part, dec)

  pub actual_by : (n d : ℕ) → IsSource tree which n → IsPart tree n d → IsDeclarerAt tree d → IsActual tree which d
  actual_by n d source part dec = ⊎_elim (λ h. whole h part dec) (λ s. inner s.0 s.1 part dec) source

  pub here_exact : (follow : PartsFollow tree) (i : ℕ) (marks : List Bool) → MarkedBefore tree which i marks → (get_or marks i false ≡ true) ↔ IsActual tree which i
  here_exact follow i marks so = (
    λ h. let m = (so.exact i).0 h in actual_by m.0 i m.2 m.3 m.4,
    λ is. let s = source_of i is in (so.exact i).1 (s.0, (follow s.0 i s.2).0, s.1, s.2, s.3),
  )

  pub source_more : (i : ℕ) (old new : List Bool) → i < length tree.nodes → IsSource tree which i → AreMarked tree (parts_at tree i) old new → MarkedBefore tree which i old → MarkedBefore tree which (i + 1) new
  source_more i old new lt source marked so = record {
    long = marked.long ∙ so.long;
    exact = λ d. (
      λ h. ⊎_elim
          (λ m. let b = (so.exact d).0 m in let l = b.1 in (b.0, omega arith, b.2, b.3, b.4))
          (λ c. let p = placed (parts_at tree i) d c.0 in (i, omega arith, source, (p.0, (lt, p.1)), c.1))
          ((marked.exact d).0 h),
      λ b. (marked.exact d).1 (⊎_elim
          (λ s. inr (at_place (parts_at tree i) b.3.0 d (subst (λ n. slice_get (parts_at tree n) b.3.0 ≡ Some d) s.1 b.3.1.1), b.4))
          (λ s. let l = b.1 in let n = s.1 in inl ((so.exact d).1 (b.0, omega arith, b.2, b.3, b.4)))
          (eqb_tells b.0 i)),
    );
  }

  pub no_source : (i : ℕ) (marks : List Bool) → (IsSource tree which i → ⊥) → MarkedBefore tree which i marks → MarkedBefore tree which (i + 1) marks
  no_source i marks never so = record {
    long = so.long;
    exact = λ d. (
      λ h. let b = (so.exact d).0 h in let l = b.1 in (b.0, omega arith, b.2, b.3, b.4),
      λ b. ⊎_elim (λ s. absurd (never (subst (IsSource tree which) s.1 b.2))) (λ s. let l = b.1 in let n = s.1 in (so.exact d).1 (b.0, omega arith, b.2, b.3, b.4)) (eqb_tells b.0 i),
    );
  }

  pub all_marked : (i : ℕ) (marks : List Bool) → length tree.nodes ≤ i → MarkedBefore tree which i marks → AreActual tree which marks
  all_marked i marks h so = record {
    long = so.long;
    exact = λ d. (
      λ m. let b = (so.exact d).0 m in actual_by b.0 d b.2 b.3 b.4,
      λ is. let s = source_of d is in (so.exact d).1 (s.0, (let l = s.2.1.0 in omega arith), s.1, s.2, s.3),
    );
  }
