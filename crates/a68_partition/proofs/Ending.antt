-- Numbers whose unfoldings end.
use Rattle.std.proofs.Common.{◌≡◌, ◌≢◌, ◌<◌, ◌⊎◌, ℕ, zero, suc, List, [], Bool, true, false, Option, Some, None, length, get_or, set, replicate, refl, sym, ap, ◌∙◌, arith, subst, inl, inr, get_or-set_same, get_or-set_other, length-set}
use Rattle.std.specs.Prelude.{Vec, unwrap_or}
use Rattle.std.specs.Global.{Global}
use Rattle.std.specs.List.{Contains}
use Rattle.std.proofs.lemmas.Bool.{cases_eq}
use Rattle.std.proofs.lemmas.List.{get_or_default, length-replicate, get_or-replicate}
use Rattle.std.proofs.lemmas.List.Elements.{All-contains}
use Rattle.a68_partition.specs.Finite.{IsSettled, LeadsOn, UnfoldingEnds, Ended}
use Rattle.a68_partition.specs.Rows.{row_at, Stands}
use Rattle.a68_partition.specs.Rounds.{at_key, AlikeIn, IsRowKey, IsWired, IsCoarse, IsNumbered}
use Rattle.a68_partition.proofs.Numbering.{same_or_not}
use Rattle.a68_partition.proofs.RowKeys.{SameIn, Covers, one_key, row_key_on}

in_row : (u : Bool) (items : List ℕ) (place w : ℕ) → Stands u items place w → Contains items w
in_row true items place w h = h.1
in_row false items place w h = (place, h.0, get_or_default items place w 0 h.0 ∙ h.1)

at_place : (u : Bool) (items : List ℕ) (w : ℕ) → Contains items w → (place : ℕ) × Stands u items place w
at_place true items w i = (0, (refl, i))
at_place false items w i = (i.0, (i.1, get_or_default items i.0 0 w i.1 ∙ i.2))

-- nothing has a class yet
pub none_settled : (heads : List ℕ) (rows : List (Bool × List ℕ)) (table : List (Vec ℕ Global × ℕ)) (classes : List ℕ) → table ≡ [] → classes ≡ replicate (length rows) 4294967295 → Ended heads rows table classes
none_settled heads rows table classes te ce = record {
  long = ap length ce ∙ length-replicate (length rows) 4294967295;
  parts = λ v h s. absurd (s (none v h));
  depth = 0;
  ends = λ v h s. absurd (s (none v h));
  known = λ v h s. absurd (s (none v h));
  found = λ key f e. let g = ap (λ (t : List (Vec ℕ Global × ℕ)). at_key t key.items) te in absurd (cc);
}
  where
    none : (v : ℕ) → v < length rows → get_or classes v 0 ≡ 4294967295
    none v h = ap (λ (xs : List ℕ). get_or xs v 0) ce ∙ get_or-replicate (length rows) v 4294967295 0 h

deeper_end : (rows : List (Bool × List ℕ)) (depth v : ℕ) → UnfoldingEnds rows depth v → UnfoldingEnds rows (suc depth) v
deeper_end rows zero v h = absurd h
deeper_end rows (suc depth) v h = λ w i. deeper_end rows depth w (h w i)

-- one more
module _ (heads : List ℕ) (rows : List (Bool × List ℕ)) (old new : List (Vec ℕ Global × ℕ)) (classes : List ℕ) (u n : ℕ) (key : Vec ℕ Global)
    (so : Ended heads rows old classes) (lt : u < length rows) (few : length rows < 4294967296) (without : get_or classes u 0 ≡ 4294967295)
    (inside_row : (w : ℕ) → Contains (row_at rows u).1 w → w < length rows)
    (parts : (w : ℕ) → Contains (row_at rows u).1 w → IsSettled classes w) (has : IsRowKey classes (get_or heads u 0) (row_at rows u).0 (row_at rows u).1 key.items) (num : IsNumbered old new key.items u n) where
  number_some : (o : Option ℕ) → at_key old key.items ≡ o → n ≡ unwrap_or o u → n ≢ 4294967295
  number_some None e f = λ g. let h : u ≡ 4294967295 = sym f ∙ g in omega arith
  number_some (Some m) e f = λ g. so.found key m e (sym f ∙ g)

  is_some : n ≢ 4294967295
  is_some = number_some (at_key old key.items) refl num.number

  other : (w : ℕ) → IsSettled classes w → get_or (set classes u n) w 0 ≡ get_or classes w 0
  other w s = get_or-set_other classes u w n 0 (λ e. s (ap (λ (k : ℕ). get_or classes k 0) e ∙ without))

  here : get_or (set classes u n) u 0 ≡ n
  here = get_or-set_same classes u n 0 (let l = so.long in omega arith)

  still : (w : ℕ) → IsSettled classes w → IsSettled (set classes u n) w
  still w s e = s (sym (other w s) ∙ e)

  was : (v : ℕ) → (v ≡ u → ⊥) → IsSettled (set classes u n) v → IsSettled classes v
  was v ne s e = s (get_or-set_other classes u v n 0 ne ∙ e)

  key_stays : (v : ℕ) (k : List ℕ) → ((w : ℕ) → Contains (row_at rows v).1 w → IsSettled classes w) → IsRowKey classes (get_or heads v 0) (row_at rows v).0 (row_at rows v).1 k → IsRowKey (set classes u n) (get_or heads v 0) (row_at rows v).0 (row_at rows v).1 k
  key_stays v k f = row_key_on classes (set classes u n) (get_or heads v 0) (row_at rows v).0 (row_at rows v).1 k (λ w i. other w (f w i))

  entry_stays : (k : Vec ℕ Global) (m : ℕ) → at_key old k.items ≡ Some m → (k.items ≡ key.items) ⊎ (k.items ≡ key.items → ⊥) → at_key new k.items ≡ Some m
  entry_stays k m e (inr ne) = num.others k ne ∙ e
  entry_stays k m e (inl same) =
      let a = ap (at_key old) same in
      let number = num.number in
      let f : at_key old key.items ≡ Some m = sym a ∙ e in
      let g : n ≡ m = number ∙ ap (λ (o : Option ℕ). unwrap_or o u) f in
      ap (at_key new) same ∙ num.here ∙ ap Some g

  pub settled_on : Ended heads rows new (set classes u n)
  settled_on = record {
    long = length-set classes u n ∙ so.long;
    parts = λ v h s. parts_on v h s (cases_eq v u);
    depth = suc so.depth;
    ends = λ v h s. ends_on v h s (cases_eq v u);
    known = λ v h s. known_on v h s (cases_eq v u);
    found = λ k f e. found_on k f e (same_or_not k.items key.items);
  }
    where
      parts_on : (v : ℕ) → v < length rows → IsSettled (set classes u n) v → (v ≡ u) ⊎ (v ≡ u → ⊥) → (w : ℕ) → Contains (row_at rows v).1 w → IsSettled (set classes u n) w
      parts_on v h s (inl e) w i = still w (parts w (subst (λ (k : ℕ). Contains (row_at rows k).1 w) e i))
      parts_on v h s (inr ne) w i = still w (so.parts v h (was v ne s) w i)

      ends_on : (v : ℕ) → v < length rows → IsSettled (set classes u n) v → (v ≡ u) ⊎ (v ≡ u → ⊥) → UnfoldingEnds rows (suc so.depth) v
      ends_on v h s (inl e) = λ w i. let j : Contains (row_at rows u).1 w = subst (λ (k : ℕ). Contains (row_at rows k).1 w) e i in so.ends w (inside_row w j) (parts w j)
      ends_on v h s (inr ne) = deeper_end rows so.depth v (so.ends v h (was v ne s))

      known_on : (v : ℕ) → v < length rows → IsSettled (set classes u n) v → (v ≡ u) ⊎ (v ≡ u → ⊥) → (k : Vec ℕ Global) × IsRowKey (set classes u n) (get_or heads v 0) (row_at rows v).0 (row_at rows v).1 k.items × (at_key new k.items ≡ Some (get_or (set classes u n) v 0))
      known_on v h s (inl e) = rw e (key, key_stays u key.items parts has, num.here ∙ ap Some (sym here))
      known_on v h s (inr ne) =
          let w = so.known v h (was v ne s) in
          (w.0, key_stays v w.0.items (so.parts v h (was v ne s)) w.1, entry_stays w.0 (get_or classes v 0) w.2 (same_or_not w.0.items key.items) ∙ ap Some (sym (other v (was v ne s))))

      found_on : (k : Vec ℕ Global) (f : ℕ) → at_key new k.items ≡ Some f → (k.items ≡ key.items) ⊎ (k.items ≡ key.items → ⊥) → f ≢ 4294967295
      found_on k f e (inl same) = let a = ap (at_key new) same in let b = num.here in let g : n ≡ f = cc in subst (λ (m : ℕ). m ≢ 4294967295) g is_some
      found_on k f e (inr ne) = so.found k f (sym (num.others k ne) ∙ e)

-- in the end
module _ (heads : List ℕ) (rows : List (Bool × List ℕ)) (wired : IsWired heads rows) (table : List (Vec ℕ Global × ℕ)) (classes : List ℕ) (so : Ended heads rows table classes)
    (rest : (v : ℕ) → v < length rows → LeadsOn rows classes v) where
  inside : (v w : ℕ) → v < length rows → Contains (row_at rows v).1 w → w < length rows
  inside v w h i = All-contains (λ k. k < length rows) (row_at rows v).1 w (wired.closed v h) i

  -- an unfolding that is equal to one that ends, ends
  same_end : (depth v w : ℕ) → UnfoldingEnds rows depth v → AlikeIn heads rows depth v w → UnfoldingEnds rows depth w
  same_end zero v w e al = e
  same_end (suc depth) v w e al = λ y i.
      let p = at_place (row_at rows w).0 (row_at rows w).1 y i in
      let x = al.1.1 p.0 y p.1 in
      same_end depth x.0 y (e x.0 (in_row (row_at rows v).0 (row_at rows v).1 p.0 x.0 x.1)) x.2

  endless : (depth v : ℕ) → v < length rows → get_or classes v 0 ≡ 4294967295 → UnfoldingEnds rows depth v → ⊥
  endless zero v h e ends = ends
  endless (suc depth) v h e ends = let w = rest v h e in endless depth w.0 (inside v w.0 h w.1) w.2 (ends w.0 w.1)

  one_class : (depth v w : ℕ) → v < length rows → w < length rows → IsSettled classes v → IsSettled classes w → UnfoldingEnds rows depth v → AlikeIn heads rows depth v w → SameIn classes v w
  one_class zero v w h g s t e al = absurd e
  one_class (suc depth) v w h g s t e al =
      let there : Covers (SameIn classes) (row_at rows v).0 (row_at rows v).1 (row_at rows w).0 (row_at rows w).1 = λ place x st.
      let y = al.1.0 place x st in
      let i = in_row (row_at rows v).0 (row_at rows v).1 place x st in
      let j = in_row (row_at rows w).0 (row_at rows w).1 place y.0 y.1 in
      (y.0, y.1, one_class depth x y.0 (inside v x h i) (inside w y.0 g j) (so.parts v h s x i) (so.parts w g t y.0 j) (e x i) y.2) in
      let back : Covers (SameIn classes) (row_at rows w).0 (row_at rows w).1 (row_at rows v).0 (row_at rows v).1 = λ place y st.
      let x = al.1.1 place y st in
      let i = in_row (row_at rows v).0 (row_at rows v).1 place x.0 x.1 in
      let j = in_row (row_at rows w).0 (row_at rows w).1 place y st in
      (x.0, x.1, sym (one_class depth x.0 y (inside v x.0 h i) (inside w y g j) (so.parts v h s x.0 i) (so.parts w g t y j) (e x.0 i) x.2)) in
      let p = so.known v h s in
      let q = so.known w g t in
      let same = one_key classes (get_or heads v 0) (get_or heads w 0) (row_at rows v).0 (row_at rows w).0 (row_at rows v).1 (row_at rows w).1 p.0.items q.0.items (wired.kinds v w h g al.0) al.0 there back p.1 q.1 in
      let a = ap (at_key table) same in
      let pa = p.2 in
      let qa = q.2 in
      cc

  turned : (depth v w : ℕ) → AlikeIn heads rows depth v w → AlikeIn heads rows depth w v
  turned zero v w al = tt
  turned (suc depth) v w al = (sym al.0, (λ place y st. let x = al.1.1 place y st in (x.0, x.1, turned depth x.0 y x.2), λ place x st. let y = al.1.0 place x st in (y.0, y.1, turned depth x y.0 y.2)))

  pub finite_coarse : IsCoarse heads rows classes
  finite_coarse = (so.depth, λ v w h g al. go v w h g al (cases_eq (get_or classes v 0) 4294967295) (cases_eq (get_or classes w 0) 4294967295))
    where
      go : (v w : ℕ) → v < length rows → w < length rows → AlikeIn heads rows so.depth v w → (get_or classes v 0 ≡ 4294967295) ⊎ IsSettled classes v → (get_or classes w 0 ≡ 4294967295) ⊎ IsSettled classes w → SameIn classes v w
      go v w h g al (inl e) (inl f) = e ∙ sym f
      go v w h g al (inr s) (inr t) = one_class so.depth v w h g s t (so.ends v h s) al
      go v w h g al (inr s) (inl f) = absurd (endless so.depth w g f (same_end so.depth v w (so.ends v h s) al))
      go v w h g al (inl e) (inr t) = absurd (endless so.depth v h e (same_end so.depth w v (so.ends w g t) (turned so.depth v w al)))

-- none has a class
pub none_coarse : (heads : List ℕ) (rows : List (Bool × List ℕ)) (classes : List ℕ) → classes ≡ replicate (length rows) 4294967295 → IsCoarse heads rows classes
none_coarse heads rows classes e = (0, λ v w h g al. none v h ∙ sym (none w g))
  where
    none : (v : ℕ) → v < length rows → get_or classes v 0 ≡ 4294967295
    none v h = ap (λ (xs : List ℕ). get_or xs v 0) e ∙ get_or-replicate (length rows) v 4294967295 0 h
