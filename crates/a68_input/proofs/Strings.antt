-- No quote stands behind a string that is the longest.
use Rattle.std.proofs.Common.{◌≡◌, ◌≢◌, ℕ, suc, ◌+◌, ◌-◌, ◌<◌, ◌≤◌, List, [], ◌∷◌, ◌++◌, length, slice_index, take, drop, refl, sym, ap, subst, ◌∙◌, inl, inr, arith, append_assoc}
use Rattle.std.proofs.lemmas.Bool.{cases_lt, cases_eq, ne_eqb}
use Rattle.std.proofs.lemmas.List.{length-append, length-take-le, length-drop, take-append-drop, drop-drop}
use Rattle.a68_base.proofs.Slices.{rest_at}
use Rattle.a68_denote.specs.Strings.{StandFor, nothing, byte, quote}
use Rattle.a68_symbols.specs.declared.form.StretchForm.TheVariants as forms
use Rattle.a68_symbols.specs.Forms.{Longest}
use Rattle.a68_symbols.specs.Runs.{item_width, AreItems}
use Rattle.a68_symbols.proofs.Items.{furthest, quote_behind}
use Rattle.a68_symbols.proofs.Quotes.{quoted_longest, open_longest}
use Rattle.a68_symbols.proofs.Starts.{begins}

-- what stands behind the first byte, where the text's front is known
pub front_of : (text more : List ℕ) (b m : ℕ) → take m text ≡ b ∷ more → drop 1 text ≡ more ++ drop m text
front_of text more b m e = ap (λ (l : List ℕ). drop 1 l) (sym (take-append-drop m text) ∙ ap (λ (l : List ℕ). l ++ drop m text) e)

-- the items from the front of a text, as far as they go
record Greatest (x : List ℕ) : Type 0 where
  count : ℕ
  within : count ≤ length x
  bytes : List ℕ
  stand_for : StandFor (take count x) bytes
  ends : item_width (drop count x) ≡ 0

none_here : (x : List ℕ) → item_width x ≡ 0 → Greatest x
none_here x none = record { count = 0; within = omega arith; bytes = []; stand_for = nothing; ends = none }

byte_more : (b : ℕ) (x : List ℕ) → b ≢ 10 → b ≢ 34 → Greatest x → Greatest (b ∷ x)
byte_more b x ten one g = record { count = suc g.count; within = omega (arith, g.within); bytes = b ∷ g.bytes; stand_for = byte ten one g.stand_for; ends = g.ends }

quote_more : (x : List ℕ) → Greatest x → Greatest (34 ∷ 34 ∷ x)
quote_more x g = record { count = suc (suc g.count); within = omega (arith, g.within); bytes = 34 ∷ g.bytes; stand_for = quote g.stand_for; ends = g.ends }

feed_width : (x : List ℕ) → item_width (10 ∷ x) ≡ 0
feed_width [] = refl
feed_width (c ∷ x) = refl

pub lone_quote : (x : List ℕ) → (0 < length x → slice_index x 0 ≢ 34) → item_width (34 ∷ x) ≡ 0
lone_quote [] other = refl
lone_quote (c ∷ x) other = rw (ne_eqb c 34 (other (omega arith))) refl

-- a byte that is no quote
other_byte : (b : ℕ) (x : List ℕ) → b ≢ 34 → Greatest x → Greatest (b ∷ x)
other_byte b x one g = elim (cases_eq b 10) [
  | inl e ↦ subst (λ (k : ℕ). Greatest (k ∷ x)) (sym e) (none_here (10 ∷ x) (feed_width x))
  | inr ten ↦ byte_more b x ten one g
]

greatest : (x : List ℕ) → Greatest x
greatest [] = none_here [] refl
greatest (b ∷ []) = elim (cases_eq b 34) [
  | inl e ↦ subst (λ (k : ℕ). Greatest (k ∷ [])) (sym e) (none_here (34 ∷ []) refl)
  | inr one ↦ other_byte b [] one (none_here [] refl)
]
greatest (b ∷ c ∷ x) = by (greatest (c ∷ x)) (greatest x)
  where
    by : Greatest (c ∷ x) → Greatest x → Greatest (b ∷ c ∷ x)
    by g h = elim (cases_eq b 34) [
      | inl e ↦ subst (λ (k : ℕ). Greatest (k ∷ c ∷ x)) (sym e) (elim (cases_eq c 34) [
        | inl two ↦ subst (λ (k : ℕ). Greatest (34 ∷ k ∷ x)) (sym two) (quote_more x h)
        | inr one ↦ none_here (34 ∷ c ∷ x) (lone_quote (c ∷ x) (λ some. one))
      ])
      | inr one ↦ other_byte b (c ∷ x) one g
    ]

-- one of the forms is as long as the items
as_long : (text : List ℕ) (n m : ℕ) → Longest text forms.Quoted n → AreItems text m → m ≤ n
as_long text n m l r =
    let some : 0 < length text = omega (arith, r.low, r.within) in
    let first : slice_index text 0 ≡ 34 = begins forms.Quoted text n l.is in
    elim (cases_lt m (length text)) [
      | inl lt ↦ elim (cases_eq (slice_index text m) 34) [
        | inl e ↦ let q = quoted_longest text m some first r lt e in let up : m + 1 ≤ n = l.longest forms.Quoted (m + 1) q.within q.is in omega (arith, up)
        | inr one ↦ let q = open_longest text m some first r (λ lt e. one e) in l.longest forms.OpenString m q.within q.is
      ]
      | inr le ↦ let q = open_longest text m some first r (λ lt e. omega (arith, lt, le)) in l.longest forms.OpenString m q.within q.is
    ]

-- a string with a quote behind it would go on
pub no_quote : (text : List ℕ) (n : ℕ) → Longest text forms.Quoted n → n < length text → slice_index text n ≢ 34
no_quote text n l lt e =
    let d = l.is.1 in
    let rest : List ℕ = drop (n + 1) text in
    let size : n ≡ length d.items + 2 = omega (arith, ap length d.spelled, length-append d.items (34 ∷ []), length-take-le n text l.within) in
    let behind : drop n text ≡ 34 ∷ rest = rest_at text n lt ∙ ap (λ (k : ℕ). k ∷ rest) e in
    let split : drop 1 text ≡ (d.items ++ 34 ∷ 34 ∷ []) ++ rest =
    front_of text (d.items ++ 34 ∷ []) 34 n d.spelled
    ∙ append_assoc d.items (34 ∷ []) (drop n text)
    ∙ ap (λ (l : List ℕ). d.items ++ 34 ∷ l) behind
    ∙ sym (append_assoc d.items (34 ∷ 34 ∷ []) rest) in
    let g = greatest (drop 1 text) in
    let long : length (take g.count (drop 1 text)) ≡ g.count = length-take-le g.count (drop 1 text) g.within in
    let up : length d.items + 2 ≤ g.count =
    elim (furthest g.stand_for (quote_behind d.stand_for) (drop g.count (drop 1 text)) rest (take-append-drop g.count (drop 1 text) ∙ split) g.ends) [
      | inl more ↦ omega (arith, more, long, length-append d.items (34 ∷ 34 ∷ []))
      | inr same ↦ omega (arith, ap length same.0, long, length-append d.items (34 ∷ 34 ∷ []))
    ] in
    let back : g.count + 1 - 1 ≡ g.count = omega arith in
    let on : 1 + g.count ≡ g.count + 1 = omega arith in
    let items : AreItems text (g.count + 1) = record {
      low = omega arith;
      within = omega (arith, g.within, length-drop 1 text, lt);
      bytes = g.bytes;
      stand_for = subst (λ (k : ℕ). StandFor (take k (drop 1 text)) g.bytes) (sym back) g.stand_for;
      ends = subst (λ (l : List ℕ). item_width l ≡ 0) (drop-drop g.count 1 text ∙ ap (λ (k : ℕ). drop k text) on) g.ends;
    } in
    let down = as_long text n (g.count + 1) l items in
    omega (arith, up, down, size)
