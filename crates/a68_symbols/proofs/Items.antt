-- Items of strings: where they end.
use Rattle.std.proofs.Common.{◌≡◌, ◌≢◌, ℕ, ◌+◌, ◌-◌, ◌<◌, ◌≤◌, List, [], ◌∷◌, ◌++◌, length, take, drop, refl, sym, ap, subst, ◌∙◌, ◌⊎◌, inl, inr, arith}
use Rattle.std.proofs.lemmas.Bool.{ne_eqb, cases_eq}
use Rattle.std.proofs.lemmas.List.{drop-drop}
use Rattle.std.proofs.Math.Seq.{take-add}
use Rattle.a68_denote.specs.Strings.{StandFor, nothing, byte, quote}
use Rattle.a68_symbols.specs.Runs.{item_width}

pub byte_width : (b : ℕ) (more : List ℕ) → b ≢ 10 → b ≢ 34 → item_width (b ∷ more) ≡ 1
byte_width b [] ten one = rw (ne_eqb b 34 one, ne_eqb b 10 ten) refl
byte_width b (c ∷ more) ten one = rw (ne_eqb b 34 one, ne_eqb b 10 ten) refl

-- items that reach a place behind which none stands reach furthest
pub furthest : {a b s t : List ℕ} → StandFor a s → StandFor b t → (x y : List ℕ) → a ++ x ≡ b ++ y → item_width x ≡ 0 → (length b < length a) ⊎ ((a ≡ b) × (x ≡ y))
furthest nothing nothing x y e none = inr (refl, e)
furthest nothing (byte {b} {items} ten one t) x y e none = absurd (let f = sym none ∙ ap item_width e ∙ byte_width b (items ++ y) ten one in omega (arith, f))
furthest nothing (quote {items} t) x y e none = absurd (let f = sym none ∙ ap item_width e in omega (arith, f))
furthest (byte {b} {items} ten one s) nothing x y e none = inl (omega arith)
furthest (byte {b} {items} ten one s) (byte {b = c} {items = others} ten' one' t) x y e none =
    let tail : items ++ x ≡ others ++ y = cc in
    let head : b ≡ c = cc in
    elim (furthest s t x y tail none) [ inl lt ↦ inl (omega (arith, lt)) | inr same ↦ inr ((rw (head, same.0) refl), same.1) ]
furthest (byte {b} ten one s) (quote t) x y e none = let head : b ≡ 34 = cc in absurd (one head)
furthest (quote s) nothing x y e none = inl (omega arith)
furthest (quote s) (byte {b = c} ten one t) x y e none = let head : c ≡ 34 = cc in absurd (one head)
furthest (quote {items} s) (quote {items = others} t) x y e none =
    let tail : items ++ x ≡ others ++ y = cc in
    elim (furthest s t x y tail none) [ inl lt ↦ inl (omega (arith, lt)) | inr same ↦ inr ((rw same.0 refl), same.1) ]

-- the item that begins a text
abbrev Item : List ℕ → Type 0
Item x = ((b : ℕ) × (b ≢ 10) × (b ≢ 34) × (take (item_width x) x ≡ b ∷ [])) ⊎ (take (item_width x) x ≡ 34 ∷ 34 ∷ [])

quote_item : (more : List ℕ) → item_width (34 ∷ more) ≢ 0 → take (item_width (34 ∷ more)) (34 ∷ more) ≡ 34 ∷ 34 ∷ []
quote_item [] some = absurd (some refl)
quote_item (c ∷ more) some = elim (cases_eq c 34) [
  | inl e ↦ rw e refl
  | inr other ↦ absurd (some (rw (ne_eqb c 34 other) refl))
]

line_item : (more : List ℕ) → item_width (10 ∷ more) ≢ 0 → ⊥
line_item [] some = some refl
line_item (c ∷ more) some = some refl

item_is : (x : List ℕ) → item_width x ≢ 0 → Item x
item_is [] some = absurd (some refl)
item_is (b ∷ more) some = elim (cases_eq b 34) [
  | inl e ↦ subst (λ (k : ℕ). item_width (k ∷ more) ≢ 0 → Item (k ∷ more)) (sym e) (λ s. inr (quote_item more s)) some
  | inr one ↦ elim (cases_eq b 10) [
    | inl e ↦ absurd (subst (λ (k : ℕ). item_width (k ∷ more) ≢ 0 → ⊥) (sym e) (line_item more) some)
    | inr ten ↦ inl (b, ten, one, ap (λ (k : ℕ). take k (b ∷ more)) (byte_width b more ten one))
  ]
]

-- one item more
pub byte_behind : {a s : List ℕ} → StandFor a s → (b : ℕ) → b ≢ 10 → b ≢ 34 → StandFor (a ++ b ∷ []) (s ++ b ∷ [])
byte_behind nothing b ten one = byte ten one nothing
byte_behind (byte ten' one' s) b ten one = byte ten' one' (byte_behind s b ten one)
byte_behind (quote s) b ten one = quote (byte_behind s b ten one)

pub quote_behind : {a s : List ℕ} → StandFor a s → StandFor (a ++ 34 ∷ 34 ∷ []) (s ++ 34 ∷ [])
quote_behind nothing = quote nothing
quote_behind (byte ten one s) = byte ten one (quote_behind s)
quote_behind (quote s) = quote (quote_behind s)

-- the items to a place, and the one that stands there
pub items_go_on : (text : List ℕ) (n : ℕ) → 1 ≤ n → item_width (drop n text) ≢ 0 → (bytes : List ℕ) × StandFor (take (n - 1) (drop 1 text)) bytes
    → (bytes : List ℕ) × StandFor (take (n + item_width (drop n text) - 1) (drop 1 text)) bytes
items_go_on text n low some s =
    let back : 1 + (n - 1) ≡ n = omega arith in
    let behind : drop (n - 1) (drop 1 text) ≡ drop n text = drop-drop (n - 1) 1 text ∙ ap (λ (k : ℕ). drop k text) back in
    let width : n + item_width (drop n text) - 1 ≡ n - 1 + item_width (drop n text) = omega arith in
    let split = take-add (n - 1) (item_width (drop n text)) (drop 1 text) ∙ ap (λ (l : List ℕ). take (n - 1) (drop 1 text) ++ take (item_width (drop n text)) l) behind in
    rw (width, split) (elim (item_is (drop n text) some) [
      | inl one ↦ (s.0 ++ one.0 ∷ [], rw one.3 (byte_behind s.1 one.0 one.1 one.2))
      | inr two ↦ (s.0 ++ 34 ∷ [], rw two (quote_behind s.1))
    ])
