-- Lists of last times.
use Rattle.std.proofs.Common.{◌≡◌, ◌<◌, ◌≤◌, ◌++◌, ◌⊎◌, ◌∙◌, inl, inr, ℕ, zero, suc, max, Bool, true, false, List, [], ◌∷◌, Some, length, get_or, set, nat_lt, nat_eq, if◌then◌else◌, refl, ap, sym, subst, arith}
use Rattle.std.proofs.lemmas.Bool.Decides.{nat_tests}
use Rattle.std.specs.Prelude.{slice_get, slice_index}
use Rattle.a68_races.proofs.Steps.{pushed_default}
use Rattle.a68_races.specs.Cells.{AreNoted, IsLatest, IsNoted, lasts_at, time_if, time_in, time_of, unknown_time}
use Rattle.a68_races.specs.declared.cells.Last.{Last}

-- ---- the latest one

-- the latest of the first times that are of other strands and not known
pub record IsLatestUpTo (writes : Bool) (lasts : List Last) (known : List ℕ) (strand latest n : ℕ) : Type 0 where
  pub most : (i : ℕ) (l : Last) → i < n → slice_get lasts i ≡ Some l → (l.strand ≡ strand → ⊥) → slice_index known l.strand < time_in writes l → time_in writes l ≤ latest
  pub is : (latest ≡ 0) ⊎ ((i : ℕ) × (l : Last) × (slice_get lasts i ≡ Some l) × (l.strand ≡ strand → ⊥) × (slice_index known l.strand < time_in writes l) × (time_in writes l ≡ latest))

same_or_less : (a b : ℕ) → a < suc b → (a ≡ b) ⊎ (a < b)
same_or_less a b low = grind (arith, low)

-- an unknown time, by its tests
unknown_by : (x y strand s : ℕ) (same above : Bool) → nat_eq s strand ≡ same → nat_lt x y ≡ above
    → ((if same then 0 else (if above then y else 0)) ≡ 0) ⊎ ((s ≡ strand → ⊥) × (x < y) × ((if same then 0 else (if above then y else 0)) ≡ y))
unknown_by x y strand s true above p q = inl refl
unknown_by x y strand s false true p q = inr (other s strand p, below x y q, refl)
  where
    other : (a b : ℕ) → nat_eq a b ≡ false → a ≡ b → ⊥
    other a b t h = grind (arith, nat_tests, t, h)

    below : (a b : ℕ) → nat_lt a b ≡ true → a < b
    below a b t = grind (arith, nat_tests, t)
unknown_by x y strand s false false p q = inl refl

unknown_is : (x y strand s : ℕ) → (s ≡ strand → ⊥) → x < y → (if nat_eq s strand then 0 else (if nat_lt x y then y else 0)) ≡ y
unknown_is x y strand s ne low = rw (not_eq s strand ne, is_lt x y low) refl
  where
    not_eq : (a b : ℕ) → (a ≡ b → ⊥) → nat_eq a b ≡ false
    not_eq a b other = grind (arith, nat_tests, other)

    is_lt : (a b : ℕ) → a < b → nat_lt a b ≡ true
    is_lt a b h = grind (arith, nat_tests, h)

-- one more is looked at
pub latest_more : (writes : Bool) (lasts : List Last) (known : List ℕ) (strand latest n x new : ℕ) (l : Last) → IsLatestUpTo writes lasts known strand latest n → slice_get lasts n ≡ Some l
    → x ≡ unknown_time writes l strand known → new ≡ max latest x → IsLatestUpTo writes lasts known strand new (suc n)
latest_more writes lasts known strand latest n x new l h at is m = record {
  most = λ i k low found other above. elim (same_or_less i n low) [
    | inl here ↦ (
        let both : Some k ≡ Some l = sym found ∙ ap (λ (j : ℕ). slice_get lasts j) here ∙ at in
        let one : k ≡ l = cc both in
        let time : x ≡ time_in writes k = is ∙ ap (λ (y : Last). unknown_time writes y strand known) (sym one) ∙ unknown_is (slice_index known k.strand) (time_in writes k) strand k.strand other above in
        omega (arith, time, m))
    | inr less ↦ (let old = h.most i k less found other above in omega (arith, old, m))
  ];
  is = elim (either new latest x m) [
    | inl e ↦ (elim h.is [
      | inl zero_is ↦ inl (e ∙ zero_is)
      | inr w ↦ inr (w.0, w.1, w.2, w.3, w.4, w.5 ∙ sym e)
    ])
    | inr e ↦ (elim (unknown_by (slice_index known l.strand) (time_in writes l) strand l.strand (nat_eq l.strand strand) (nat_lt (slice_index known l.strand) (time_in writes l)) refl refl) [
      | inl none ↦ inl (e ∙ is ∙ none)
      | inr u ↦ inr (n, l, at, u.0, u.1, sym (e ∙ is ∙ u.2))
    ])
  ];
}
  where
    either : (new latest x : ℕ) → new ≡ max latest x → (new ≡ latest) ⊎ (new ≡ x)
    either new latest x m = grind (arith, m)

-- a time of the list is at most that of its strand
reached : (writes : Bool) (lasts : List Last) (i : ℕ) (l : Last) → slice_get lasts i ≡ Some l → time_in writes l ≤ time_of writes lasts l.strand
reached writes [] zero l at = absurd (cc at)
reached writes [] (suc i) l at = absurd (cc at)
reached writes (x ∷ xs) zero l at =
    let one : x ≡ l = cc at in
    let own : time_if writes l l.strand ≡ time_in writes l = ap (λ (b : Bool). if b then time_in writes l else 0) (same l.strand) in
    subst (λ (y : Last). time_in writes l ≤ max (time_if writes y l.strand) (time_of writes xs l.strand)) (sym one) (omega (arith, own))
  where
    same : (a : ℕ) → nat_eq a a ≡ true
    same a = grind (arith, nat_tests)
reached writes (x ∷ xs) (suc i) l at = let rest = reached writes xs i l at in omega (arith, rest)

-- and that of a strand is one of the list, or 0
abbrev Attains : (writes : Bool) → List Last → (s time : ℕ) → Type 0
Attains writes lasts s time = (i : ℕ) × (l : Last) × (slice_get lasts i ≡ Some l) × (l.strand ≡ s) × (time_in writes l ≡ time)

attained : (writes : Bool) (lasts : List Last) (s : ℕ) → (time_of writes lasts s ≡ 0) ⊎ Attains writes lasts s (time_of writes lasts s)
attained writes [] s = inl refl
attained writes (x ∷ xs) s = go (nat_eq x.strand s) refl (attained writes xs s)
  where
    same : (a b : ℕ) → nat_eq a b ≡ true → a ≡ b
    same a b t = grind (arith, nat_tests, t)

    greater : (a b : ℕ) → (max a b ≡ a) ⊎ (max a b ≡ b)
    greater a b = grind arith

    zero_max : (a : ℕ) → max 0 a ≡ a
    zero_max a = omega arith

    go : (b : Bool) → nat_eq x.strand s ≡ b → (time_of writes xs s ≡ 0) ⊎ Attains writes xs s (time_of writes xs s)
        → (max (if b then time_in writes x else 0) (time_of writes xs s) ≡ 0) ⊎ Attains writes (x ∷ xs) s (max (if b then time_in writes x else 0) (time_of writes xs s))
    go true t rest = elim (greater (time_in writes x) (time_of writes xs s)) [
      | inl e ↦ inr (0, x, refl, same x.strand s t, sym e)
      | inr e ↦ (elim rest [ inl z ↦ inl (e ∙ z) | inr w ↦ inr (suc w.0, w.1, w.2, w.3, w.4 ∙ sym e) ])
    ]
    go false t rest = elim rest [ inl z ↦ inl (zero_max (time_of writes xs s) ∙ z) | inr w ↦ inr (suc w.0, w.1, w.2, w.3, w.4 ∙ sym (zero_max (time_of writes xs s))) ]

-- all were looked at
pub latest_all : (writes : Bool) (lasts : List Last) (known : List ℕ) (strand latest n : ℕ) → ((i : ℕ) (l : Last) → slice_get lasts i ≡ Some l → i < n) → IsLatestUpTo writes lasts known strand latest n
    → IsLatest (time_of writes lasts) known strand latest
latest_all writes lasts known strand latest n all h = record {
  most = most;
  is = elim h.is [
    | inl none ↦ inl none
    | inr w ↦ (
        let up = reached writes lasts w.0 w.1 w.2 in
        let above = w.4 in
        let time = w.5 in
        let low = most w.1.strand w.3 (omega (arith, up, above)) in
        inr (w.1.strand, w.3, omega (arith, up, above), omega (arith, up, time, low)))
  ];
}
  where
    most : (s : ℕ) → (s ≡ strand → ⊥) → slice_index known s < time_of writes lasts s → time_of writes lasts s ≤ latest
    most s other above = elim (attained writes lasts s) [
      | inl none ↦ absurd (omega (arith, none, above))
      | inr w ↦ (
          let time = w.4 in
          let here : slice_index known w.1.strand ≡ slice_index known s = ap (λ (k : ℕ). slice_index known k) w.3 in
          let old = h.most w.0 w.1 (all w.0 w.1 w.2) w.2 (λ e. other (sym w.3 ∙ e)) (omega (arith, time, here, above)) in
          omega (arith, old, time))
    ]

pub latest_none : (writes : Bool) (lasts : List Last) (known : List ℕ) (strand : ℕ) → IsLatestUpTo writes lasts known strand 0 0
latest_none writes lasts known strand = record { most = λ i l low at other above. absurd (omega (arith, low)); is = inl refl }

-- ---- noted

-- one behind the others
pub noted_behind : (old : List Last) (times : Last) → IsNoted old times (old ++ times ∷ [])
noted_behind [] times = λ writes s. other_way (time_if writes times s)
  where
    other_way : (x : ℕ) → max x 0 ≡ max 0 x
    other_way x = omega arith
noted_behind (l ∷ ls) times = λ writes s.
    ap (λ (x : ℕ). max (time_if writes l s) x) (noted_behind ls times writes s) ∙ regroup (time_if writes l s) (time_of writes ls s) (time_if writes times s)
  where
    regroup : (a b c : ℕ) → max a (max b c) ≡ max (max a b) c
    regroup a b c = omega arith

-- in the place of the strand's own
abbrev pub later : Last → Last → Last
later last times = record { strand = last.strand; accessed = max last.accessed times.accessed; written = max last.written times.written }

noted_in : (last times : Last) → last.strand ≡ times.strand → (writes : Bool) (s : ℕ) → time_if writes (later last times) s ≡ max (time_if writes last s) (time_if writes times s)
noted_in last times same writes s = go writes (nat_eq last.strand s) ∙ ap (λ (k : ℕ). max (time_if writes last s) (if nat_eq k s then time_in writes times else 0)) same
  where
    go : (w b : Bool) → (if b then time_in w (later last times) else 0) ≡ max (if b then time_in w last else 0) (if b then time_in w times else 0)
    go true true = refl
    go false true = refl
    go w false = refl

pub noted_at : (old : List Last) (times last : Last) (at : ℕ) → slice_get old at ≡ Some last → last.strand ≡ times.strand → IsNoted old times (set old at (later last times))
noted_at [] times last zero found same = absurd (cc found)
noted_at [] times last (suc at) found same = absurd (cc found)
noted_at (l ∷ ls) times last zero found same = λ writes s.
    let one : last ≡ l = cc found in
    ap (λ (x : ℕ). max x (time_of writes ls s)) (noted_in last times same writes s ∙ ap (λ (y : Last). max (time_if writes y s) (time_if writes times s)) one)
    ∙ regroup (time_if writes l s) (time_if writes times s) (time_of writes ls s)
  where
    regroup : (a b c : ℕ) → max (max a b) c ≡ max (max a c) b
    regroup a b c = omega arith
noted_at (l ∷ ls) times last (suc at) found same = λ writes s.
    ap (λ (x : ℕ). max (time_if writes l s) x) (noted_at ls times last at found same writes s) ∙ regroup (time_if writes l s) (time_of writes ls s) (time_if writes times s)
  where
    regroup : (a b c : ℕ) → max a (max b c) ≡ max (max a b) c
    regroup a b c = omega arith

-- at one cell, and at no other
pub noted_cell : (old mid new : List (List Last)) (cell : ℕ) (times : Last) → ((c : ℕ) → lasts_at mid c ≡ lasts_at old c) → ((c : ℕ) → (c ≡ cell → ⊥) → lasts_at new c ≡ lasts_at mid c)
    → IsNoted (lasts_at mid cell) times (lasts_at new cell) → AreNoted old cell times new
noted_cell old mid new cell times same stay noted = λ writes c s. go writes c s (nat_eq c cell) refl
  where
    is_same : (a b : ℕ) → nat_eq a b ≡ true → a ≡ b
    is_same a b t = grind (arith, nat_tests, t)

    is_other : (a b : ℕ) → nat_eq a b ≡ false → a ≡ b → ⊥
    is_other a b t h = grind (arith, nat_tests, t, h)

    go : (writes : Bool) (c s : ℕ) (b : Bool) → nat_eq c cell ≡ b
        → time_of writes (lasts_at new c) s ≡ (if b then max (time_of writes (lasts_at old c) s) (time_if writes times s) else time_of writes (lasts_at old c) s)
    go writes c s true t = ap (λ (k : ℕ). time_of writes (lasts_at new k) s) (is_same c cell t) ∙ noted writes s
        ∙ ap (λ (k : ℕ). max (time_of writes (lasts_at mid k) s) (time_if writes times s)) (sym (is_same c cell t)) ∙ ap (λ (x : List Last). max (time_of writes x s) (time_if writes times s)) (same c)
    go writes c s false t = ap (λ (x : List Last). time_of writes x s) (stay c (is_other c cell t) ∙ same c)

-- ---- the same by the elements of a list that are at hand

got : (xs : List Last) (i : ℕ) (d : Last) → i < length xs → slice_get xs i ≡ Some (get_or xs i d)
got [] i d low = absurd (omega (arith, low))
got (x ∷ xs) zero d low = refl
got (x ∷ xs) (suc i) d low = got xs i d (omega (arith, low))

within : (xs : List Last) (i : ℕ) (l : Last) → slice_get xs i ≡ Some l → i < length xs
within [] zero l at = absurd (cc at)
within [] (suc i) l at = absurd (cc at)
within (x ∷ xs) zero l at = omega arith
within (x ∷ xs) (suc i) l at = let rest = within xs i l at in omega (arith, rest)

pub latest_next : (writes : Bool) (lasts items : List Last) (known : List ℕ) (strand latest i x new : ℕ) (d : Last) → items ≡ lasts → i < length items → IsLatestUpTo writes lasts known strand latest i
    → x ≡ unknown_time writes (get_or items i d) strand known → new ≡ max latest x → IsLatestUpTo writes lasts known strand new (suc i)
latest_next writes lasts items known strand latest i x new d same low h is m =
    latest_more writes lasts known strand latest i x new (get_or items i d) h (ap (λ (l : List Last). slice_get l i) (sym same) ∙ got items i d low) is m

pub latest_end : (writes : Bool) (lasts items : List Last) (known : List ℕ) (strand latest i : ℕ) → items ≡ lasts → length items ≤ i → IsLatestUpTo writes lasts known strand latest i → IsLatest (time_of writes lasts) known strand latest
latest_end writes lasts items known strand latest i same past h =
    latest_all writes lasts known strand latest i (λ k l at. let low = within items k l (ap (λ (x : List Last). slice_get x k) same ∙ at) in omega (arith, past, low)) h

pub noted_here : (old items : List Last) (times last : Last) (at a w : ℕ) → items ≡ old → at < length items → last ≡ get_or items at last → last.strand ≡ times.strand
    → a ≡ max last.accessed times.accessed → w ≡ max last.written times.written → IsNoted old times (set items at (record { strand = last.strand; accessed = a; written = w }))
noted_here old items times last at a w same low is own a_is w_is =
    subst (λ (l : Last). IsNoted old times (set items at l)) (sym both)
    (subst (λ (x : List Last). IsNoted x times (set items at (later last times))) same (noted_at items times last at (got items at last low ∙ ap Some (sym is)) own))
  where
    both : ◌≡◌ {A = Last} (record { strand = last.strand; accessed = a; written = w }) (later last times)
    both = λ i. record { strand = last.strand; accessed = a_is i; written = w_is i }

pub noted_last : (old items new : List Last) (times : Last) → items ≡ old → new ≡ items ++ times ∷ [] → IsNoted old times new
noted_last old items new times same is =
    subst (λ (x : List Last). IsNoted old times x) (sym is) (subst (λ (x : List Last). IsNoted x times (items ++ times ∷ [])) same (noted_behind items times))
