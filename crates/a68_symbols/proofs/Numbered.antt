-- The numbers of symbols, as a loop gives them.
use Rattle.std.proofs.Common.{◌≡◌, ℕ, zero, suc, ◌<◌, ◌≤◌, List, [], ◌∷◌, ◌++◌, length, slice_get, refl, sym, ap, ◌∙◌, ◌⊎◌, inl, inr, arith, Some}
use Rattle.std.proofs.lemmas.Bool.{cases_lt}
use Rattle.std.proofs.lemmas.List.{length-append}
use Rattle.std.proofs.lemmas.Option.{slice_get_within}
use Rattle.a68_base.specs.declared.refusal.Span.{Span}
use Rattle.a68_symbols.specs.declared.symbol.SymbolKind.{SymbolKind}
use Rattle.a68_symbols.specs.declared.symbol.Symbol.{Symbol}
use Rattle.a68_symbols.specs.Names.{Spelled, Named, Adds, AreNamed, spelled_in}

pub get_left : {A : Type 0} (xs ys : List A) (i : ℕ) (x : A) → slice_get xs i ≡ Some x → slice_get (xs ++ ys) i ≡ Some x
get_left [] ys i x e = cc
get_left (a ∷ xs) ys zero x e = e
get_left (a ∷ xs) ys (suc i) x e = get_left xs ys i x e

pub get_last : {A : Type 0} (xs : List A) (y : A) → slice_get (xs ++ y ∷ []) (length xs) ≡ Some y
get_last [] y = refl
get_last (a ∷ xs) y = get_last xs y

pub get_cases : {A : Type 0} (xs : List A) (y : A) (i : ℕ) (x : A) → slice_get (xs ++ y ∷ []) i ≡ Some x → (slice_get xs i ≡ Some x) ⊎ ((i ≡ length xs) × (x ≡ y))
get_cases [] y zero x e = inr (refl, (let f = sym e in cc))
get_cases [] y (suc i) x e = cc
get_cases (a ∷ xs) y zero x e = inl e
get_cases (a ∷ xs) y (suc i) x e = elim (get_cases xs y i x e) [ inl f ↦ inl f | inr f ↦ inr (ap suc f.0, f.1) ]

-- the numbers of the symbols so far
pub record SoNamed (text : List ℕ) (symbols : List Symbol) (spellings : List Spelled) : Type 0 where
  pub own : (i : ℕ) (s : Symbol) → slice_get symbols i ≡ Some s → slice_get spellings s.name ≡ Some (spelled_in text s)
  pub distinct : (a b : ℕ) (k : Spelled) → slice_get spellings a ≡ Some k → slice_get spellings b ≡ Some k → a ≡ b
  pub order : (i : ℕ) (s : Symbol) → slice_get symbols i ≡ Some s → (n : ℕ) → n < s.name
      → (j : ℕ) × (r : Symbol) × (j < i) × (slice_get symbols j ≡ Some r) × (r.name ≡ n)
  pub used : (n : ℕ) → n < length spellings → (j : ℕ) × (r : Symbol) × (slice_get symbols j ≡ Some r) × (r.name ≡ n)

pub none_named : (text : List ℕ) → SoNamed text [] []
none_named text = record {
  own = λ i s e. cc;
  distinct = λ a b k e f. cc;
  order = λ i s e n lt. cc;
  used = λ n lt. absurd (omega (arith, lt));
}

module _ (text : List ℕ) (xs : List Symbol) (t : List Spelled) (s : Symbol) (n : SoNamed text xs t) where
  -- an earlier symbol, one more behind them
  earlier : List Symbol → ℕ → Type 0
  earlier ys m = (j : ℕ) × (r : Symbol) × (slice_get ys j ≡ Some r) × (r.name ≡ m)

  used_still : (m : ℕ) → m < length t → (j : ℕ) × (r : Symbol) × (slice_get (xs ++ s ∷ []) j ≡ Some r) × (r.name ≡ m)
  used_still m lt = let u = n.used m lt in (u.0, u.1, get_left xs (s ∷ []) u.0 u.1 u.2, u.3)

  order_still : s.name ≤ length t → (i : ℕ) (r : Symbol) → slice_get (xs ++ s ∷ []) i ≡ Some r → (m : ℕ) → m < r.name
      → (j : ℕ) × (q : Symbol) × (j < i) × (slice_get (xs ++ s ∷ []) j ≡ Some q) × (q.name ≡ m)
  order_still fits i r e m lt = elim (get_cases xs s i r e) [
    | inl old ↦ let o = n.order i r old m lt in (o.0, o.1, o.2, get_left xs (s ∷ []) o.0 o.1 o.3, o.4)
    | inr last ↦
        let name : r.name ≡ s.name = ap (λ (q : Symbol). q.name) last.1 in
        let u = n.used m (omega (arith, lt, name, fits)) in
        let within = slice_get_within xs u.0 u.1 u.2 in
        (u.0, u.1, omega (arith, within, last.0), get_left xs (s ∷ []) u.0 u.1 u.2, u.3)
  ]

  -- a symbol whose spelling has a number
  pub named_again : slice_get t s.name ≡ Some (spelled_in text s) → SoNamed text (xs ++ s ∷ []) t
  named_again there = record {
    own = λ i r e. elim (get_cases xs s i r e) [ inl old ↦ n.own i r old | inr last ↦ rw last.1 there ];
    distinct = n.distinct;
    order = let within = slice_get_within t s.name (spelled_in text s) there in order_still (omega (arith, within));
    used = used_still;
  }

  -- a symbol whose spelling is new
  pub named_newly : s.name ≡ length t → ((i : ℕ) → slice_get t i ≡ Some (spelled_in text s) → ⊥) → SoNamed text (xs ++ s ∷ []) (t ++ spelled_in text s ∷ [])
  named_newly last_name new = record {
    own = λ i r e. elim (get_cases xs s i r e) [
      | inl old ↦ get_left t (spelled_in text s ∷ []) r.name (spelled_in text r) (n.own i r old)
      | inr last ↦ rw (last.1, last_name) (get_last t (spelled_in text s))
    ];
    distinct = λ a b k e f. elim (get_cases t (spelled_in text s) a k e) [
      | inl old ↦ elim (get_cases t (spelled_in text s) b k f) [
        | inl also ↦ n.distinct a b k old also
        | inr last ↦ absurd (new a (rw last.1 at old))
      ]
      | inr last ↦ elim (get_cases t (spelled_in text s) b k f) [
        | inl also ↦ absurd (new b (rw last.1 at also))
        | inr too ↦ last.0 ∙ sym too.0
      ]
    ];
    order = order_still (omega (arith, last_name));
    used = λ m lt. elim (cases_lt m (length t)) [
      | inl below ↦ used_still m below
      | inr above ↦ (length xs, s, get_last xs s, omega (arith, last_name, above, lt, length-append t (spelled_in text s ∷ [])))
    ];
  }

pub one_more : (text : List ℕ) (old new : Named) (kind : SymbolKind) (span : Span) (key : Spelled) (a : Adds old new kind span key)
    → key ≡ spelled_in text (record { kind = kind; span = span; name = a.name }) → SoNamed text old.symbols old.spellings → SoNamed text new.symbols new.spellings
one_more text old new kind span key a is n =
    let s : Symbol = record { kind = kind; span = span; name = a.name } in
    rw a.symbols (elim a.spellings [
      | inl again ↦ rw again.1 (named_again text old.symbols old.spellings s n (rw is at again.0))
      | inr newly ↦ rw (newly.1, is) (named_newly text old.symbols old.spellings s n newly.0 (rw is at newly.2))
    ])

pub all_named : (text : List ℕ) (found : Named) → SoNamed text found.symbols found.spellings → AreNamed text found
all_named text found n = record {
  own = n.own;
  one = λ i j s r e f. (
    (λ same. let p = sym (n.own i s e) ∙ ap (λ (k : ℕ). slice_get found.spellings k) same ∙ n.own j r f in cc),
    (λ same. n.distinct s.name r.name (spelled_in text s) (n.own i s e) (n.own j r f ∙ ap (λ (k : Spelled). Some k) (sym same))),
  );
  order = n.order;
  used = n.used;
}
