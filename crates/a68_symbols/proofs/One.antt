-- Symbols are numbered in one way.
use Rattle.std.proofs.Common.{◌≡◌, ℕ, zero, suc, ◌<◌, ◌⊎◌, inl, inr, List, [], ◌∷◌, Some, None, length, map, refl, ap, sym, ◌∙◌, arith}
use Rattle.std.specs.Prelude.{slice_get}
use Rattle.std.specs.Option.{option_map}
use Rattle.std.proofs.lemmas.List.{length-map}
use Rattle.std.proofs.lemmas.Option.{slice_get_cases, slice_get_within, slice_get-map}
use Rattle.a68_symbols.specs.declared.symbol.Symbol.{Symbol}
use Rattle.a68_symbols.specs.Names.{Named, Spelled, AreNamed, spelled_in, spelling_of, stretch_of}
use Rattle.a68_symbols.specs.Symbols.{Piece, piece_of}

same_lists : {A : Type 0} (xs ys : List A) → ((i : ℕ) → slice_get xs i ≡ slice_get ys i) → xs ≡ ys
same_lists [] [] same = refl
same_lists [] (y ∷ ys) same = let e : None ≡ Some y = same 0 in absurd (cc e)
same_lists (x ∷ xs) [] same = let e : Some x ≡ None = same 0 in absurd (cc e)
same_lists (x ∷ xs) (y ∷ ys) same =
    let head : Some x ≡ Some y = same 0 in
    let tail = same_lists xs ys (λ i. same (suc i)) in
    cc (head, tail)

piece_at : (ss : List Symbol) (i : ℕ) (s : Symbol) → slice_get ss i ≡ Some s → slice_get (map piece_of ss) i ≡ Some (piece_of s)
piece_at ss i s e = slice_get-map piece_of ss i ∙ ap (option_map piece_of) e

same_piece : (xs ys : List Symbol) (i : ℕ) (s r : Symbol) → map piece_of xs ≡ map piece_of ys → slice_get xs i ≡ Some s → slice_get ys i ≡ Some r → piece_of s ≡ piece_of r
same_piece xs ys i s r e p q =
    let both : Some (piece_of s) ≡ Some (piece_of r) = sym (piece_at xs i s p) ∙ ap (λ ps. slice_get ps i) e ∙ piece_at ys i r q in
    cc both

long : (xs ys : List Symbol) → map piece_of xs ≡ map piece_of ys → length xs ≡ length ys
long xs ys e = sym (length-map xs piece_of) ∙ ap (λ (ps : List Piece). length ps) e ∙ length-map ys piece_of

there : (xs ys : List Symbol) (i : ℕ) (r : Symbol) → map piece_of xs ≡ map piece_of ys → slice_get ys i ≡ Some r → (s : Symbol) × (slice_get xs i ≡ Some s)
there xs ys i r e q = elim (slice_get_cases xs i).1 [
  | inl at ↦ (at.0, at.2)
  | inr past ↦ (let a = slice_get_within ys i r q in let b = long xs ys e in let c = past.0 in absurd (omega (arith, a, b, c)))
]

spelled_same : (text : List ℕ) (s r : Symbol) → piece_of s ≡ piece_of r → spelled_in text s ≡ spelled_in text r
spelled_same text s r e = ap {A = Piece} {B = Spelled} (λ p. record { kind = p.kind; bytes = spelling_of p.kind (stretch_of text p.span) }) e

not_less : (text : List ℕ) (a b : Named) → AreNamed text a → AreNamed text b → map piece_of a.symbols ≡ map piece_of b.symbols → (i : ℕ)
    → ((j : ℕ) (s r : Symbol) → j < i → slice_get a.symbols j ≡ Some s → slice_get b.symbols j ≡ Some r → s.name ≡ r.name)
    → (s r : Symbol) → slice_get a.symbols i ≡ Some s → slice_get b.symbols i ≡ Some r → s.name < r.name → ⊥
not_less text a b p q e i before s r ea eb lt =
    let o = q.order i r eb s.name lt in
    let h = there a.symbols b.symbols o.0 o.1 e o.3 in
    let n : h.0.name ≡ o.1.name = before o.0 h.0 o.1 o.2 h.1 o.3 in
    let one : spelled_in text h.0 ≡ spelled_in text s = (p.one o.0 i h.0 s h.1 ea).0 (n ∙ o.4) in
    let two : spelled_in text o.1 ≡ spelled_in text r =
    sym (spelled_same text h.0 o.1 (same_piece a.symbols b.symbols o.0 h.0 o.1 e h.1 o.3)) ∙ one ∙ spelled_same text s r (same_piece a.symbols b.symbols i s r e ea eb) in
    let m : o.1.name ≡ r.name = (q.one o.0 i o.1 r o.3 eb).1 two in
    let k = o.4 in
    omega (arith, lt, k, m)

three : (a b : ℕ) → (a ≡ b) ⊎ ((a < b) ⊎ (b < a))
three a b = grind arith

names_to : (text : List ℕ) (a b : Named) → AreNamed text a → AreNamed text b → map piece_of a.symbols ≡ map piece_of b.symbols → (n : ℕ)
    → (i : ℕ) (s r : Symbol) → i < n → slice_get a.symbols i ≡ Some s → slice_get b.symbols i ≡ Some r → s.name ≡ r.name
names_to text a b p q e zero i s r lt ea eb = absurd (omega (arith, lt))
names_to text a b p q e (suc n) i s r lt ea eb = elim (three s.name r.name) [
  | inl same ↦ same
  | inr (inl less) ↦ absurd (not_less text a b p q e i (λ j x y w. names_to text a b p q e n j x y (omega (arith, w, lt))) s r ea eb less)
  | inr (inr more) ↦ absurd (not_less text b a q p (sym e) i (λ j x y w u v. sym (names_to text a b p q e n j y x (omega (arith, w, lt)) v u)) r s eb ea more)
]

build : Piece → ℕ → Symbol
build p n = record { kind = p.kind; span = p.span; name = n }

whole : (s r : Symbol) → piece_of s ≡ piece_of r → s.name ≡ r.name → s ≡ r
unfolding build
whole s r e n = ap (λ p. build p s.name) e ∙ ap (build (piece_of r)) n

symbols_same : (text : List ℕ) (a b : Named) → AreNamed text a → AreNamed text b → map piece_of a.symbols ≡ map piece_of b.symbols → a.symbols ≡ b.symbols
symbols_same text a b p q e = same_lists a.symbols b.symbols (λ i. elim (slice_get_cases b.symbols i).1 [
  | inl at ↦ (let h = there a.symbols b.symbols i at.0 e at.2 in
      let name = names_to text a b p q e (suc i) i h.0 at.0 (omega arith) h.1 at.2 in
      h.1 ∙ ap Some (whole h.0 at.0 (same_piece a.symbols b.symbols i h.0 at.0 e h.1 at.2) name) ∙ sym at.2)
  | inr past ↦ (elim (slice_get_cases a.symbols i).1 [
    | inl at ↦ (let l = long a.symbols b.symbols e in let u = past.0 in let v = at.1 in absurd (omega (arith, l, u, v)))
    | inr both ↦ both.1 ∙ sym past.1
  ])
])

spelling_here : (text : List ℕ) (a b : Named) → AreNamed text a → AreNamed text b → a.symbols ≡ b.symbols → (n : ℕ) → n < length a.spellings → slice_get a.spellings n ≡ slice_get b.spellings n
spelling_here text a b p q e n lt =
    let u = p.used n lt in
    let mine = p.own u.0 u.1 u.2 in
    let theirs = q.own u.0 u.1 (ap (λ ss. slice_get ss u.0) (sym e) ∙ u.2) in
    ap (λ k. slice_get a.spellings k) (sym u.3) ∙ mine ∙ sym theirs ∙ ap (λ k. slice_get b.spellings k) u.3

spellings_same : (text : List ℕ) (a b : Named) → AreNamed text a → AreNamed text b → a.symbols ≡ b.symbols → a.spellings ≡ b.spellings
spellings_same text a b p q e = same_lists a.spellings b.spellings (λ n. elim (slice_get_cases a.spellings n).1 [
  | inl at ↦ spelling_here text a b p q e n at.1
  | inr past ↦ (elim (slice_get_cases b.spellings n).1 [
    | inl at ↦ sym (spelling_here text b a q p (sym e) n at.1)
    | inr both ↦ past.1 ∙ sym both.1
  ])
])

of_both : List Symbol → List Spelled → Named
of_both symbols spellings = record { symbols = symbols; spellings = spellings }

pub one_named : (text : List ℕ) (found other : Named) → map piece_of other.symbols ≡ map piece_of found.symbols → AreNamed text found → AreNamed text other → other ≡ found
unfolding of_both
one_named text found other e p q =
    let symbols = symbols_same text other found q p e in
    let spellings = spellings_same text other found q p symbols in
    ap (λ ss. of_both ss other.spellings) symbols ∙ ap (of_both found.symbols) spellings
