-- How the walk's table grows, a place at a time.
use Rattle.std.proofs.Common.{◌≡◌, ◌<◌, ◌⊎◌, ◌+◌, ◌++◌, ℕ, Bool, true, false, zero, suc, List, [], ◌∷◌, length, take, map, get_or, set, replicate, refl, sym, ap, ◌∙◌, arith, subst, inl, inr, Some, None, ⊎_elim, get_or-set_same, get_or-set_other, length-set, length-append}
use Rattle.std.specs.List.{Contains}
use Rattle.std.specs.Prelude.{MatchBool}
use Rattle.std.proofs.lemmas.List.Elements.{Contains-push_cases, Contains-push, Contains-append_left, Contains-get_or}
use Rattle.std.proofs.lemmas.Bool.{cases_eq}
use Rattle.std.proofs.lemmas.List.{map_more}
use Rattle.a68_code.proofs.Mapping.{contains_map, from_map}
use Rattle.a68_code.specs.Walk.{Heights, Places, Knows, unknown, NotesHeight, NotesAll, Clashes, AnyClashes}

-- one place more, which had the height
again : (ps : Places) (to h : ℕ) (H : Heights) (T : Places) (H1 : Heights) (T1 : Places) → NotesAll ps H T H1 T1 → Knows H1 to h → NotesAll (ps ++ (to, h) ∷ []) H T H1 T1
again ps to h H T H1 T1 v is = record {
  long = v.long;
  kept = v.kept;
  onward = v.onward;
  noted = v.noted;
  fewer = v.fewer;
  turns = v.turns;
  all = λ x k i. ⊎_elim (λ j. v.all x k j) (λ e. subst (λ (q : ℕ × ℕ). Knows H1 q.0 q.1) e is) (Contains-push_cases ps (to, h) (x, k) i);
  only = λ x k g. ⊎_elim inl (λ j. inr (Contains-append_left ps ((to, h) ∷ []) (x, k) j.0, j.1, j.2)) (v.only x k g);
}

pub unknown_less : (H : Heights) (p h : ℕ) → p < length H → get_or H p None ≡ None → suc (unknown (set H p (Some h))) ≡ unknown H
unknown_less [] p h lt e = absurd (omega arith)
unknown_less (None ∷ H) zero h lt e = refl
unknown_less (Some k ∷ H) zero h lt e = absurd (cc)
unknown_less (None ∷ H) (suc p) h lt e = ap suc (unknown_less H p h (omega arith) e)
unknown_less (Some k ∷ H) (suc p) h lt e = unknown_less H p h (omega arith) e

pub unknown-replicate : (n : ℕ) → unknown (replicate n None) ≡ n
unknown-replicate zero = refl
unknown-replicate (suc n) = ap suc (unknown-replicate n)

-- one place more, which had none
module _ (ps : Places) (to h : ℕ) (H : Heights) (T : Places) (H1 : Heights) (T1 : Places) (v : NotesAll ps H T H1 T1) (lt : to < length H1) (none : get_or H1 to None ≡ None) where
  H2 : Heights
  H2 = set H1 to (Some h)

  T2 : Places
  T2 = T1 ++ (to, h) ∷ []

  now : Knows (set H1 to (Some h)) to h
  now = get_or-set_same H1 to (Some h) None lt

  still : (x k : ℕ) → Knows H1 x k → Knows (set H1 to (Some h)) x k
  still x k g = go (cases_eq x to)
    where
      go : (x ≡ to) ⊎ (x ≡ to → ⊥) → Knows (set H1 to (Some h)) x k
      go (inl e) = absurd (let f : get_or H1 to None ≡ Some k = subst (λ (p : ℕ). get_or H1 p None ≡ Some k) e g in cc)
      go (inr ne) = rw get_or-set_other g

  was : (x k : ℕ) → Knows (set H1 to (Some h)) x k → Knows H1 x k ⊎ ((x ≡ to) × (k ≡ h))
  was x k g = go (cases_eq x to)
    where
      go : (x ≡ to) ⊎ (x ≡ to → ⊥) → Knows H1 x k ⊎ ((x ≡ to) × (k ≡ h))
      go (inl e) = inr (e, let f : get_or (set H1 to (Some h)) to None ≡ Some k = subst (λ (p : ℕ). get_or (set H1 to (Some h)) p None ≡ Some k) e g in cc now)
      go (inr ne) = inl (rw get_or-set_other at g)

  less : unknown (set H1 to (Some h)) < unknown H
  less = let a = unknown_less H1 to h lt none in let b = v.fewer in omega arith

  in_end : (x k : ℕ) → x ≡ to → k ≡ h → Contains (T1 ++ (to, h) ∷ []) (x, k)
  in_end x k e f = let same : ◌≡◌ {A = ℕ × ℕ} (to, h) (x, k) = cc in subst (Contains (T1 ++ (to, h) ∷ [])) same (Contains-push T1 (to, h))

  in_places : (x k : ℕ) → x ≡ to → k ≡ h → Contains (ps ++ (to, h) ∷ []) (x, k)
  in_places x k e f = let same : ◌≡◌ {A = ℕ × ℕ} (to, h) (x, k) = cc in subst (Contains (ps ++ (to, h) ∷ [])) same (Contains-push ps (to, h))

  first : NotesAll (ps ++ (to, h) ∷ []) H T (set H1 to (Some h)) (T1 ++ (to, h) ∷ [])
  first = record {
    long = length-set H1 to (Some h) ∙ v.long;
    kept = λ x k g. still x k (v.kept x k g);
    all = λ x k i. ⊎_elim (λ j. still x k (v.all x k j)) (λ e. subst (λ (q : ℕ × ℕ). Knows (set H1 to (Some h)) q.0 q.1) e now) (Contains-push_cases ps (to, h) (x, k) i);
    only = λ x k g. ⊎_elim (λ old. ⊎_elim inl (λ j. inr (Contains-append_left ps ((to, h) ∷ []) (x, k) j.0, Contains-append_left T1 ((to, h) ∷ []) (x, k) j.1, less)) (v.only x k old)) (λ new. inr (in_places x k new.0 new.1, in_end x k new.0 new.1, less)) (was x k g);
    onward = λ x k i. Contains-append_left T1 ((to, h) ∷ []) (x, k) (v.onward x k i);
    noted = λ x k i. ⊎_elim (λ j. ⊎_elim inl (λ g. inr (still x k g)) (v.noted x k j)) (λ e. inr (let a : to ≡ x = ap (λ (q : ℕ × ℕ). q.0) e in let b : h ≡ k = ap (λ (q : ℕ × ℕ). q.1) e in subst (λ (p : ℕ). Knows (set H1 to (Some h)) x p) b (subst (λ (p : ℕ). Knows (set H1 to (Some h)) p h) a now))) (Contains-push_cases T1 (to, h) (x, k) i);
    fewer = let a = less in omega arith;
    turns = let a = unknown_less H1 to h lt none in let b = v.turns in omega (arith, length-append T1 ((to, h) ∷ []));
  }

pub notes_more : (ps : Places) (to h : ℕ) (H : Heights) (T : Places) (H1 : Heights) (T1 : Places) (H2 : Heights) (T2 : Places) → NotesAll ps H T H1 T1 → NotesHeight to h H1 T1 H2 T2 → NotesAll (ps ++ (to, h) ∷ []) H T H2 T2
notes_more ps to h H T H1 T1 H2 T2 v (inl n) = rw (n.1, n.2) (again ps to h H T H1 T1 v n.0)
notes_more ps to h H T H1 T1 H2 T2 v (inr n) = rw (n.2, n.3) (first ps to h H T H1 T1 v n.0 n.1)

-- places that are noted one after another, each with its height
module _ (height_of : ℕ → ℕ) (H : Heights) (T : Places) (H1 : Heights) (T1 : Places) where
  -- one place more
  pub maps_more : (H2 : Heights) (T2 : Places) (places : List ℕ) (k : ℕ) → k < length places → NotesAll (map (λ (to : ℕ). (to, height_of to)) (take k places)) H T H1 T1
      → NotesHeight (get_or places k 0) (height_of (get_or places k 0)) H1 T1 H2 T2 → NotesAll (map (λ (to : ℕ). (to, height_of to)) (take (k + 1) places)) H T H2 T2
  maps_more H2 T2 places k lt v n =
      rw (map_more {Y = ℕ × ℕ} (λ (to : ℕ). (to, height_of to)) places k 0 lt) (notes_more _ (get_or places k 0) (height_of (get_or places k 0)) _ _ _ _ _ _ v n)

  -- one of these places clashes
  pub clash_from : (places : List ℕ) (k : ℕ) → k < length places → NotesAll (map (λ (to : ℕ). (to, height_of to)) (take k places)) H T H1 T1
      → Clashes (get_or places k 0) (height_of (get_or places k 0)) H1 → AnyClashes (map (λ (to : ℕ). (to, height_of to)) places) H
  clash_from places k lt v c = inl (get_or places k 0, height_of (get_or places k 0), contains_map (λ (to : ℕ). (to, height_of to)) places (get_or places k 0) (Contains-get_or places k 0 lt), before c)
    where
      new : (to other : ℕ) → Contains {X = ℕ × ℕ} (map (λ (x : ℕ). (x, height_of x)) (take k places)) (to, other) → other ≡ height_of to
      new to other i =
          let w = from_map (λ (x : ℕ). (x, height_of x)) (take k places) (to, other) i in
          let here : to ≡ w.0 = ap (λ (q : ℕ × ℕ). q.0) w.2 in
          ap (λ (q : ℕ × ℕ). q.1) w.2 ∙ sym (ap height_of here)

      before : Clashes (get_or places k 0) (height_of (get_or places k 0)) H1 → Clashes (get_or places k 0) (height_of (get_or places k 0)) H
      before (inl past) = inl (let l = v.long in omega arith)
      before (inr (other, knows, differs)) = ⊎_elim (λ old. inr (other, old, differs)) (λ n. absurd (differs (new _ other n.0))) (v.only _ other knows)

-- ---- two places, each with a height of its own

nothing_yet : (H : Heights) (T : Places) → NotesAll [] H T H T
nothing_yet H T = record {
  long = refl;
  kept = λ at known k. k;
  all = λ at height i. absurd (let h = i.1 in omega arith);
  only = λ at known k. inl k;
  onward = λ at known i. i;
  noted = λ at known i. inl i;
  fewer = omega arith;
  turns = refl;
}

module _ (to h other k : ℕ) (H : Heights) (T : Places) (H1 : Heights) (T1 : Places) where
  one : NotesHeight to h H T H1 T1 → NotesAll ((to, h) ∷ []) H T H1 T1
  one n = notes_more [] to h H T H T H1 T1 (nothing_yet H T) n

  the_first : (x : ℕ × ℕ) → Contains {X = ℕ × ℕ} ((to, h) ∷ []) x → Contains {X = ℕ × ℕ} ((to, h) ∷ ((other, k) ∷ [])) x
  the_first x i = Contains-append_left ((to, h) ∷ []) ((other, k) ∷ []) x i

  the_other : Contains {X = ℕ × ℕ} ((to, h) ∷ ((other, k) ∷ [])) (other, k)
  the_other = Contains-push ((to, h) ∷ []) (other, k)

  pub first_clashes : Clashes to h H → AnyClashes ((to, h) ∷ ((other, k) ∷ [])) H
  first_clashes c = inl (to, h, the_first (to, h) (Contains-push [] (to, h)), c)

  other_clashes : NotesAll ((to, h) ∷ []) H T H1 T1 → Clashes other k H1 → AnyClashes ((to, h) ∷ ((other, k) ∷ [])) H
  other_clashes v (inl past) = inl (other, k, the_other, inl (let l = v.long in omega arith))
  other_clashes v (inr (known, knows, differs)) = ⊎_elim
      (λ old. inl (other, k, the_other, inr (known, old, differs)))
      (λ new. inr (other, known, k, the_first (other, known) new.0, the_other, differs))
      (v.only other known knows)

  -- the other one has its height, or it clashes
  pub both : (after : Heights) (left : Places) (fits : Bool) → NotesHeight to h H T H1 T1 → MatchBool fits (NotesHeight other k H1 T1 after left) (Clashes other k H1)
      → MatchBool fits (NotesAll ((to, h) ∷ ((other, k) ∷ [])) H T after left) (AnyClashes ((to, h) ∷ ((other, k) ∷ [])) H)
  both after left true n m = notes_more ((to, h) ∷ []) other k H T H1 T1 after left (one n) m
  both after left false n c = other_clashes (one n) c
