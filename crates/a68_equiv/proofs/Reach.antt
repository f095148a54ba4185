-- What a walk through a graph reaches.
use Rattle.std.proofs.Common.{◌≡◌, ◌<◌, ◌⊎◌, ◌++◌, ℕ, zero, suc, List, [], ◌∷◌, Bool, true, false, length, get_or, set, refl, sym, ap, ◌∙◌, arith, subst, inl, inr, ⊎_elim, get_or-set_same, get_or-set_other, length-set, length-append}
use Rattle.std.specs.List.{Contains}
use Rattle.std.proofs.lemmas.List.{get_or_default}
use Rattle.std.proofs.lemmas.List.Elements.{Contains-push_cases, Contains-push, Contains-append_left, All-contains}
use Rattle.std.proofs.lemmas.Bool.{cases_eq}
use Rattle.a68_equiv.specs.Ways.{row, Way, StepsStayInside}
use Rattle.a68_equiv.specs.Reached.{AreReached, unmarked, Visited}
use Rattle.a68_equiv.specs.Ways.Way.{last_step, more_steps}

abbrev pub Marked : List Bool → ℕ → Type 0
Marked seen x = get_or seen x false ≡ true

-- one part more that was marked
pub visited_old : (ps : List ℕ) (p : ℕ) (s : List Bool) (t : List ℕ) (m : List Bool) (n : List ℕ) → Visited ps s t m n → Marked m p → Visited (ps ++ p ∷ []) s t m n
visited_old ps p s t m n v is = record {
  long = v.long;
  kept = v.kept;
  onward = v.onward;
  fresh = v.fresh;
  less = v.less;
  all = λ x i. ⊎_elim (λ j. v.all x j) (λ e. subst (Marked m) e is) (Contains-push_cases ps p x i);
  only = λ x h. ⊎_elim inl (λ j. inr (Contains-append_left ps (p ∷ []) x j)) (v.only x h);
  from = λ x i. ⊎_elim inl (λ j. inr (Contains-append_left ps (p ∷ []) x j)) (v.from x i);
}

unmarked_less : (m : List Bool) (p : ℕ) → p < length m → get_or m p false ≡ false → suc (unmarked (set m p true)) ≡ unmarked m
unmarked_less [] p h e = absurd (omega arith)
unmarked_less (true ∷ m) zero h e = absurd (cc)
unmarked_less (false ∷ m) zero h e = refl
unmarked_less (true ∷ m) (suc p) h e = unmarked_less m p (omega arith) e
unmarked_less (false ∷ m) (suc p) h e = ap suc (unmarked_less m p (omega arith) e)

-- one part more that was not
module _ (ps : List ℕ) (p : ℕ) (s : List Bool) (t : List ℕ) (m : List Bool) (n : List ℕ) (v : Visited ps s t m n) (lt : p < length m) (not : get_or m p false ≡ false) where
  now : Marked (set m p true) p
  now = get_or-set_same m p true false lt

  still : (x : ℕ) → Marked m x → Marked (set m p true) x
  still x h = go (cases_eq x p)
    where
      go : (x ≡ p) ⊎ (x ≡ p → ⊥) → Marked (set m p true) x
      go (inl e) = subst (Marked (set m p true)) (sym e) now
      go (inr ne) = rw get_or-set_other h

  was : (x : ℕ) → Marked (set m p true) x → (Marked m x) ⊎ (p ≡ x)
  was x h = go (cases_eq x p)
    where
      go : (x ≡ p) ⊎ (x ≡ p → ⊥) → (Marked m x) ⊎ (p ≡ x)
      go (inl e) = inr (sym e)
      go (inr ne) = inl (rw get_or-set_other at h)

  in_end : (xs : List ℕ) (x : ℕ) → p ≡ x → Contains (xs ++ p ∷ []) x
  in_end xs x e = subst (Contains (xs ++ p ∷ [])) e (Contains-push xs p)

  pub visited_new : Visited (ps ++ p ∷ []) s t (set m p true) (n ++ p ∷ [])
  visited_new = record {
    long = length-set m p true ∙ v.long;
    kept = λ x h. still x (v.kept x h);
    all = λ x i. ⊎_elim (λ j. still x (v.all x j)) (λ e. subst (Marked (set m p true)) e now) (Contains-push_cases ps p x i);
    only = λ x h. ⊎_elim (λ g. ⊎_elim inl (λ j. inr (Contains-append_left ps (p ∷ []) x j)) (v.only x g)) (λ e. inr (in_end ps x e)) (was x h);
    onward = λ x i. Contains-append_left n (p ∷ []) x (v.onward x i);
    fresh = λ x h. ⊎_elim (λ g. ⊎_elim inl (λ j. inr (Contains-append_left n (p ∷ []) x j)) (v.fresh x g)) (λ e. inr (in_end n x e)) (was x h);
    from = λ x i. ⊎_elim (λ j. ⊎_elim inl (λ k. inr (Contains-append_left ps (p ∷ []) x k)) (v.from x j)) (λ e. inr (in_end ps x e)) (Contains-push_cases n p x i);
    less = let a = unmarked_less m p lt not in let b = v.less in omega (arith, length-append n (p ∷ []));
  }

pub record Halfway (graph : List (List ℕ)) (root : ℕ) (seen : List Bool) (todo : List ℕ) : Type 0 where
  pub long : length seen ≡ length graph
  pub sound : (x : ℕ) → Marked seen x → Way graph root x
  pub noted : (x : ℕ) → Contains todo x → (x < length graph) × ((x ≡ root) ⊎ Way graph root x)
  pub closed : (a : ℕ) → (a ≡ root) ⊎ Marked seen a → Contains todo a ⊎ ((p : ℕ) → Contains (row graph a) p → Marked seen p)

pub step_on : (graph : List (List ℕ)) (a b c : ℕ) → Way graph a b → Contains (row graph b) c → Way graph a c
step_on graph a b c (last_step i) j = more_steps i (last_step j)
step_on graph a b c (more_steps {b = d} i w) j = more_steps i (step_on graph d b c w j)

from_root : (graph : List (List ℕ)) (root a c : ℕ) → (a ≡ root) ⊎ Way graph root a → Contains (row graph a) c → Way graph root c
from_root graph root a c (inl e) j = last_step (subst (λ (x : ℕ). Contains (row graph x) c) e j)
from_root graph root a c (inr w) j = step_on graph root a c w j

-- a node is taken off, and its parts are visited
pub goes_on : (graph : List (List ℕ)) (root : ℕ) (seen : List Bool) (todo rest : List ℕ) (at : ℕ) (marked : List Bool) (next : List ℕ)
    → StepsStayInside graph → todo ≡ rest ++ at ∷ [] → Halfway graph root seen todo → Visited (row graph at) seen rest marked next → Halfway graph root marked next
goes_on graph root seen todo rest at marked next parts e h v = record {
  long = v.long ∙ h.long;
  sound = λ x m. ⊎_elim (λ g. h.sound x g) (λ j. from_root graph root at x here.1 j) (v.only x m);
  noted = λ x i. ⊎_elim (λ j. h.noted x (in_todo x j)) (λ j. (All-contains (λ p. p < length graph) (row graph at) x (parts at here.0) j, inr (from_root graph root at x here.1 j))) (v.from x i);
  closed = λ a w. ⊎_elim (λ r. old a (h.closed a (inl r))) (λ m. ⊎_elim (λ g. old a (h.closed a (inr g))) inl (v.fresh a m)) w;
}
  where
    in_todo : (x : ℕ) → Contains rest x → Contains todo x
    in_todo x i = subst (λ (t : List ℕ). Contains t x) (sym e) (Contains-append_left rest (at ∷ []) x i)

    here : (at < length graph) × ((at ≡ root) ⊎ Way graph root at)
    here = h.noted at (subst (λ (t : List ℕ). Contains t at) (sym e) (Contains-push rest at))

    old : (a : ℕ) → Contains todo a ⊎ ((p : ℕ) → Contains (row graph a) p → Marked seen p) → Contains next a ⊎ ((p : ℕ) → Contains (row graph a) p → Marked marked p)
    old a (inl i) = ⊎_elim (λ j. inl (v.onward a j)) (λ f. inr (λ p k. v.all p (subst (λ (x : ℕ). Contains (row graph x) p) (sym f) k))) (Contains-push_cases rest at a (subst (λ (t : List ℕ). Contains t a) e i))
    old a (inr k) = inr (λ p j. v.kept p (k p j))

none_left : (a : ℕ) → Contains [] a → ⊥
none_left a i = let h = i.1 in omega arith

pub whole : (graph : List (List ℕ)) (root : ℕ) (seen : List Bool) (todo : List ℕ) → todo ≡ [] → Halfway graph root seen todo → AreReached graph root seen
whole graph root seen todo e h = record { long = h.long; exact = λ b. (h.sound b, complete root b (inl refl)) }
  where
    parts_of : (a : ℕ) → (a ≡ root) ⊎ Marked seen a → (p : ℕ) → Contains (row graph a) p → Marked seen p
    parts_of a w = ⊎_elim (λ i. absurd (none_left a (subst (λ (t : List ℕ). Contains t a) e i))) (λ k. k) (h.closed a w)

    complete : (a b : ℕ) → (a ≡ root) ⊎ Marked seen a → Way graph a b → Marked seen b
    complete a b w (last_step i) = parts_of a w b i
    complete a b w (more_steps {b = c} i v) = complete c b (inr (parts_of a w c i)) v

pub last_below : (graph : List (List ℕ)) (root : ℕ) (seen : List Bool) (todo rest : List ℕ) (at : ℕ) → todo ≡ rest ++ at ∷ [] → Halfway graph root seen todo → at < length graph
last_below graph root seen todo rest at e h = (h.noted at (subst (λ (t : List ℕ). Contains t at) (sym e) (Contains-push rest at))).0

pub row_is : (graph : List (List ℕ)) (at : ℕ) (v : List ℕ) → at < length graph → v ≡ get_or graph at v → row graph at ≡ v
row_is graph at v h e = get_or_default graph at [] v h ∙ sym e

pub empty : {X : Type 0} (xs : List X) → length xs ≡ 0 → xs ≡ []
empty [] e = refl
empty (x ∷ xs) e = absurd (omega arith)
