-- Numbers that go with the first one of their key.
use Rattle.std.proofs.Common.{◌≡◌, ◌≢◌, ◌<◌, ◌+◌, ◌⊎◌, ◌++◌, ℕ, List, [], ◌∷◌, Option, Some, None, Bool, true, false, get_or, refl, sym, ap, ◌∙◌, arith, subst, inl, inr, below_more, length-append}
use Rattle.std.specs.Prelude.{Vec, unwrap_or}
use Rattle.std.specs.Global.{Global}
use Rattle.std.specs.Str.{bytes_eq}
use Rattle.std.specs.Bool.{Decides}
use Rattle.std.proofs.lemmas.Slice.Eq.{bytes_eq-Decides}
use Rattle.std.proofs.Math.ListN.{get_or-append}
use Rattle.std.proofs.Math.Seq.{get_or-append_seam}
use Rattle.a68_partition.specs.Rounds.{at_key, ByFirst, SoFar}

pub same_or_not : (a b : List ℕ) → (a ≡ b) ⊎ (a ≡ b → ⊥)
same_or_not a b = go (bytes_eq a b) (bytes_eq-Decides a b)
  where
    go : (t : Bool) → Decides t (a ≡ b) → (a ≡ b) ⊎ (a ≡ b → ⊥)
    go true d = inl (d.0 refl)
    go false d = inr (λ e. let h = d.1 e in cc)

pub apart_keys : (a b : List ℕ) → b ≢ a → bytes_eq a b ≡ false
apart_keys a b ne = go (bytes_eq a b) (bytes_eq-Decides a b)
  where
    go : (t : Bool) → Decides t (a ≡ b) → t ≡ false
    go true d = absurd (ne (sym (d.0 refl)))
    go false d = refl

-- a number has one key
abbrev pub OneKey : (ℕ → List ℕ → Type 0) → Type 0
OneKey HasKey = (m : ℕ) (x y : List ℕ) → HasKey m x → HasKey m y → x ≡ y

-- one number more, whose key is in the table under n
module _ (HasKey : ℕ → List ℕ → Type 0) (old new : List (Vec ℕ Global × ℕ)) (next : List ℕ) (i n : ℕ) (key : Vec ℕ Global)
    (so : SoFar HasKey old next i) (is : HasKey i key.items)
    (here : at_key new key.items ≡ Some n) (others : (q : Vec ℕ Global) → q.items ≢ key.items → at_key new q.items ≡ at_key old q.items) where
  earlier : (j : ℕ) → j < i → get_or (next ++ n ∷ []) j 0 ≡ get_or next j 0
  earlier j h = let b = so.built in get_or-append next (n ∷ []) 0 j (omega arith)

  last : get_or (next ++ n ∷ []) i 0 ≡ n
  last = subst (λ (k : ℕ). get_or (next ++ n ∷ []) k 0 ≡ n) so.built (get_or-append_seam next n [] 0)

  -- it was not there
  fresh : at_key old key.items ≡ None → n ≡ i → SoFar HasKey new (next ++ n ∷ []) (i + 1)
  fresh none same = record {
    built = let b = so.built in omega (arith, length-append next (n ∷ []));
    known = below_more _ _ (λ j h. let w = so.known j h in (w.0, w.1, others w.0 (λ e. let a = ap (at_key old) e in let b = w.2 in absurd (cc)) ∙ w.2 ∙ ap Some (sym (earlier j h)))) (key, is, here ∙ ap Some (sym last));
    found = λ q f h. found q f h (same_or_not q.items key.items);
    first = below_more _ _ (λ j h. let w = so.first j h in rw (earlier j h) w) (rw last (rw same (omega arith, (key.items, is, is))));
  }
    where
      found : (q : Vec ℕ Global) (f : ℕ) → at_key new q.items ≡ Some f → (q.items ≡ key.items) ⊎ (q.items ≡ key.items → ⊥) → (f < i + 1) × HasKey f q.items
      found q f h (inl e) =
          let a = ap (at_key new) e in
          let g : f ≡ i = cc in
          (omega arith, subst (λ (k : ℕ). HasKey k q.items) (sym g) (subst (λ (x : List ℕ). HasKey i x) (sym e) is))
      found q f h (inr ne) = let w = so.found q f (sym (others q ne) ∙ h) in (omega arith, w.1)

  -- it was there
  again : at_key old key.items ≡ Some n → SoFar HasKey new (next ++ n ∷ []) (i + 1)
  again was = record {
    built = let b = so.built in omega (arith, length-append next (n ∷ []));
    known = below_more _ _ (λ j h. let w = so.known j h in (w.0, w.1, unchanged w.0 (same_or_not w.0.items key.items) ∙ w.2 ∙ ap Some (sym (earlier j h)))) (key, is, here ∙ ap Some (sym last));
    found = λ q f h. let w = so.found q f (sym (unchanged q (same_or_not q.items key.items)) ∙ h) in (omega arith, w.1);
    first = below_more _ _ (λ j h. let w = so.first j h in rw (earlier j h) w) (rw last (let w = so.found key n was in (omega arith, (key.items, is, w.1))));
  }
    where
      unchanged : (q : Vec ℕ Global) → (q.items ≡ key.items) ⊎ (q.items ≡ key.items → ⊥) → at_key new q.items ≡ at_key old q.items
      unchanged q (inl e) = ap (at_key new) e ∙ here ∙ sym was ∙ ap (at_key old) (sym e)
      unchanged q (inr ne) = others q ne

  pub more : (o : Option ℕ) → at_key old key.items ≡ o → n ≡ unwrap_or o i → SoFar HasKey new (next ++ n ∷ []) (i + 1)
  more None e h = fresh e h
  more (Some f) e h = again (e ∙ ap Some (sym h))

pub complete : (HasKey : ℕ → List ℕ → Type 0) (table : List (Vec ℕ Global × ℕ)) (next : List ℕ) (i n : ℕ) → OneKey HasKey → i ≡ n → SoFar HasKey table next i → ByFirst n HasKey next
complete HasKey table next i n one e so = record {
  long = so.built ∙ e;
  first = λ j h. so.first j (omega arith);
  same = λ j k h g s.
      let a = so.known j (omega arith) in
      let b = so.known k (omega arith) in
      let f = one j a.0.items s.0 a.1 s.1 in
      let g = one k b.0.items s.0 b.1 s.2 in
      let t = ap (at_key table) (f ∙ sym g) in
      let a2 = a.2 in let b2 = b.2 in
      cc;
}
