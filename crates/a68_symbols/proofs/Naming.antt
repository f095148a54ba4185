-- Numbers of spellings.
use Rattle.std.proofs.Common.{◌≡◌, ℕ, zero, suc, ◌+◌, ◌<◌, ◌≤◌, Bool, true, false, ◌&&◌, ◌||◌, List, [], ◌∷◌, ◌++◌, length, map, slice_get, refl, sym, ap, ◌∙◌, ◌⊎◌, inl, inr, arith, Some, if◌then◌else◌, rules}
use Rattle.std.specs.List.{list_any, position_or_len}
use Rattle.std.specs.Str.{bytes_eq}
use Rattle.std.specs.Option.{option_map}
use Rattle.std.proofs.lemmas.List.{length-append}
use Rattle.std.proofs.lemmas.Option.{slice_get-map}
use Rattle.std.proofs.lemmas.Slice.Eq.{bytes_eq-Decides}
use denote.Enum.Bare.{same_true}
use Rattle.a68_symbols.specs.declared.symbol.SymbolKind.{SymbolKind}
use Rattle.a68_symbols.specs.declared.symbol.SymbolKind.TheVariants.{Word, Tag, Number, BitsNumber, Quoted, Mark}
use Rattle.a68_symbols.specs.declared.symbol.Spelling.{Spelling}
use Rattle.a68_symbols.specs.contracts.symbol.SymbolKind.{the_type}
use Rattle.a68_symbols.specs.contracts.symbol.SpellingPartialEq.TheImpl as spelling_eq
use Rattle.a68_symbols.specs.declared.symbol.Symbol.{Symbol}
use Rattle.a68_symbols.specs.Names.{Spelled, HaveKinds, spelled_of, IsSound}
use Rattle.a68_symbols.proofs.Numbered.{get_cases, get_last}

abbrev pub same : Spelling → Spelling → Bool
same = spelling_eq.eq-value.it

both : (x y : Bool) → (x && y) ≡ true → (x ≡ true) × (y ≡ true)
both true y e = (refl, e)
both false y e = cc

pub same_is : (a b : Spelling) → same a b ≡ true → spelled_of a ≡ spelled_of b
same_is a b e =
    let split = both _ (bytes_eq a.bytes.items b.bytes.items) e in
    let kind : a.kind ≡ b.kind = same_true the_type (search rules) _ _ split.0 in
    let bytes : a.bytes.items ≡ b.bytes.items = (bytes_eq-Decides a.bytes.items b.bytes.items).0 split.1 in
    rw (kind, bytes) refl

own_kind : (k : SymbolKind) (a b : Spelling) → a.kind ≡ k → b.kind ≡ k → bytes_eq a.bytes.items b.bytes.items ≡ true → same a b ≡ true
own_kind Word a b e f g = rw (e, f, g) refl
own_kind Tag a b e f g = rw (e, f, g) refl
own_kind Number a b e f g = rw (e, f, g) refl
own_kind BitsNumber a b e f g = rw (e, f, g) refl
own_kind Quoted a b e f g = rw (e, f, g) refl
own_kind Mark a b e f g = rw (e, f, g) refl

pub is_same : (a b : Spelling) → spelled_of a ≡ spelled_of b → same a b ≡ true
is_same a b e = own_kind b.kind a b (ap (λ (s : Spelled). s.kind) e) refl ((bytes_eq-Decides a.bytes.items b.bytes.items).1 (ap (λ (s : Spelled). s.bytes) e))

or_false : (x y : Bool) → (x || y) ≡ false → (x ≡ false) × (y ≡ false)
or_false true y e = cc
or_false false y e = (refl, e)

-- a spelling that is not there would be put at the end
none_place : (passes : Spelling → Bool) (ks : List Spelling) → list_any passes ks ≡ false → position_or_len passes ks ≡ length ks
none_place passes [] e = refl
none_place passes (k ∷ ks) e =
    let split = or_false (passes k) (list_any passes ks) e in
    let rest = none_place passes ks split.1 in
    rw (split.0, rest) (omega arith)

absent : (k : Spelling) (ks : List Spelling) (j : ℕ) → list_any (same k) ks ≡ false → slice_get (map spelled_of ks) j ≡ Some (spelled_of k) → ⊥
absent k [] j e f = cc
absent k (x ∷ xs) zero e f =
    let split = or_false (same k x) (list_any (same k) xs) e in
    let is : spelled_of k ≡ spelled_of x = cc in
    let yes = is_same k x is in
    let no = split.0 in
    let both : ◌≡◌ {A = Bool} true false = sym yes ∙ no in cc
absent k (x ∷ xs) (suc j) e f =
    let split = or_false (same k x) (list_any (same k) xs) e in
    absent k xs j split.1 f

map_behind : (ks : List Spelling) (k : Spelling) → map spelled_of (ks ++ k ∷ []) ≡ map spelled_of ks ++ spelled_of k ∷ []
map_behind [] k = refl
map_behind (x ∷ xs) k = ap (λ (l : List Spelled). spelled_of x ∷ l) (map_behind xs k)

length_map : (ks : List Spelling) → length (map spelled_of ks) ≡ length ks
length_map [] = refl
length_map (x ∷ xs) = ap suc (length_map xs)

-- the table of spellings after one is put in
abbrev pub Put : List Spelling → List Spelling → ℕ → Spelling → Type 0
Put old new i k = ((slice_get (map spelled_of old) i ≡ Some (spelled_of k)) × (map spelled_of new ≡ map spelled_of old))
    ⊎ ((i ≡ length (map spelled_of old)) × (map spelled_of new ≡ map spelled_of old ++ spelled_of k ∷ []) × ((j : ℕ) → slice_get (map spelled_of old) j ≡ Some (spelled_of k) → ⊥))

pub put : (old new : List Spelling) (i : ℕ) (k : Spelling) → new ≡ (if list_any (same k) old then old else old ++ k ∷ []) → i ≡ position_or_len (same k) old
    → (x : Spelling) → slice_get new i ≡ Some x → same k x ≡ true → Put old new i k
put old new i k e at x stored is = by (list_any (same k) old) refl
  where
    by : (v : Bool) → list_any (same k) old ≡ v → Put old new i k
    by true v =
        let stays : new ≡ old = e ∙ ap (λ (b : Bool). if b then old else old ++ k ∷ []) v in
        let found : slice_get old i ≡ Some x = rw stays at stored in
        inl (slice_get-map spelled_of old i ∙ ap (option_map spelled_of) found ∙ ap (λ (s : Spelled). Some s) (sym (same_is k x is)), ap (map spelled_of) stays)
    by false v =
        let grows : new ≡ old ++ k ∷ [] = e ∙ ap (λ (b : Bool). if b then old else old ++ k ∷ []) v in
        inr (at ∙ none_place (same k) old v ∙ sym (length_map old), ap (map spelled_of) grows ∙ map_behind old k, λ j. absent k old j v)

at_most_one : (b : Bool) → (if b then 1 else 0) ≤ 1
at_most_one true = omega arith
at_most_one false = omega arith

-- a spelling that was there keeps its kind
kept : (old more : List Spelled) (n : ℕ) (kind : SymbolKind) → option_map (λ (x : Spelled). x.kind) (slice_get old n) ≡ Some kind
    → option_map (λ (x : Spelled). x.kind) (slice_get (old ++ more) n) ≡ Some kind
kept [] more n kind e = cc
kept (x ∷ old) more zero kind e = e
kept (x ∷ old) more (suc n) kind e = kept old more n kind e

-- the kinds, once a symbol and perhaps its spelling are added
pub kinds_more : (xs xs' : List Symbol) (old new : List Spelled) (s : Symbol) (key : Spelled) → key.kind ≡ s.kind → HaveKinds xs old → xs' ≡ xs ++ s ∷ []
    → ((slice_get old s.name ≡ Some key) × (new ≡ old)) ⊎ ((s.name ≡ length old) × (new ≡ old ++ key ∷ []) × ((j : ℕ) → slice_get old j ≡ Some key → ⊥)) → HaveKinds xs' new
kinds_more xs xs' old new s key kind before grown how i r e = elim (get_cases xs s i r (rw grown at e)) [
  | inl earlier ↦ elim how [
    | inl there ↦ rw there.1 (before i r earlier)
    | inr added ↦ rw added.1 (kept old (key ∷ []) r.name r.kind (before i r earlier))
  ]
  | inr last ↦ elim how [
    | inl there ↦ rw (last.1, there.1, there.0, kind) refl
    | inr added ↦ rw (last.1, added.1, added.0, get_last old key, kind) refl
  ]
]

-- one symbol more, with a spelling that is there or new
pub sound_more : (xs xs' : List Symbol) (ks ks' : List Spelling) (s : Symbol) (is_new : Bool) → IsSound xs ks → length xs < 262144 → xs' ≡ xs ++ s ∷ []
    → length ks' ≡ length ks + (if is_new then 1 else 0) → s.name < length ks' → HaveKinds xs' (map spelled_of ks') → IsSound xs' ks'
sound_more xs xs' ks ks' s is_new i room grown long within kinds =
    let one = at_most_one is_new in
    let more : length xs' ≡ length xs + 1 = ap length grown ∙ length-append xs (s ∷ []) in
    record {
      few = omega (arith, more, room);
      fewer = omega (arith, more, long, one, i.fewer);
      named = λ k r e. elim (get_cases xs s k r (rw grown at e)) [
        | inl old ↦ omega (arith, i.named k r old, long)
        | inr last ↦ rw last.1 within
      ];
      kinds = kinds;
    }
