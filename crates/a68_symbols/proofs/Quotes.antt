-- Strings from a quote on.
use Rattle.std.proofs.Common.{◌≡◌, ◌≢◌, ℕ, zero, suc, ◌+◌, ◌-◌, ◌<◌, ◌≤◌, Bool, true, false, List, [], ◌∷◌, ◌++◌, length, slice_index, take, drop, refl, sym, ap, ◌∙◌, ◌⊎◌, inl, inr, arith, append_assoc}
use Rattle.std.specs.Prelude.{nat_eq}
use Rattle.std.proofs.lemmas.Bool.{cases_lt, eqb-true, eqb-false}
use Rattle.std.proofs.lemmas.List.{length-append, length-take, length-drop, take_more, take-append-drop}
use Rattle.a68_base.proofs.Slices.{rest_at}
use Rattle.a68_denote.specs.Strings.{IsQuoted}
use Rattle.a68_symbols.specs.declared.form.StretchForm.{StretchForm}
use Rattle.a68_symbols.specs.declared.form.StretchForm.TheVariants.{Quoted, OpenString}
use Rattle.a68_symbols.specs.Forms.{Is, IsOpenString, Longest}
use Rattle.a68_symbols.specs.Runs.{item_width, AreItems}
use Rattle.a68_symbols.proofs.Starts.{start_of, longest_of}
use Rattle.a68_symbols.proofs.Items.{furthest, byte_width}

-- the front of a text without its first byte
front : (text : List ℕ) (n : ℕ) → 1 ≤ n → 0 < length text → take n text ≡ slice_index text 0 ∷ take (n - 1) (drop 1 text)
front text zero low some = absurd (omega arith)
front [] (suc n) low some = absurd (omega arith)
front (a ∷ text) (suc n) low some = let e : suc n - 1 ≡ n = omega arith in rw e refl

-- what stands behind the first byte, where the text's front is known
behind_front : (text more : List ℕ) (b m : ℕ) → take m text ≡ b ∷ more → drop 1 text ≡ more ++ drop m text
behind_front text more b m e = ap (λ (l : List ℕ). drop 1 l) (sym (take-append-drop m text) ∙ ap (λ (l : List ℕ). l ++ drop m text) e)

front_width : (text more : List ℕ) (b m : ℕ) → m ≤ length text → take m text ≡ b ∷ more → m ≡ length more + 1
front_width text more b m le e = omega (arith, ap length e, length-take m text)

-- an item is a byte that is no quote and no end of a line
ended : (b : ℕ) (more : List ℕ) → item_width (b ∷ more) ≡ 0 → b ≢ 34 → b ≡ 10
ended b more e one = by (nat_eq b 10) refl
  where
    by : (v : Bool) → nat_eq b 10 ≡ v → b ≡ 10
    by true v = eqb-true b 10 v
    by false v = absurd (let f = sym e ∙ byte_width b more (eqb-false b 10 v) one in omega (arith, f))

module _ (text : List ℕ) (n : ℕ) (some : 0 < length text) (b : slice_index text 0 ≡ 34) (r : AreItems text n) where
  items : List ℕ
  items = take (n - 1) (drop 1 text)

  spelled : take n text ≡ 34 ∷ take (n - 1) (drop 1 text)
  spelled = front text n r.low some ∙ ap (λ (k : ℕ). k ∷ take (n - 1) (drop 1 text)) b

  long : length (take (n - 1) (drop 1 text)) ≡ n - 1
  long = omega (arith, length-take (n - 1) (drop 1 text), length-drop 1 text, r.within)

  split : drop 1 text ≡ take (n - 1) (drop 1 text) ++ drop n text
  split = behind_front text (take (n - 1) (drop 1 text)) 34 n spelled

  open_of : (m : ℕ) → m ≤ length text → IsOpenString text m → m ≤ n
  open_of m le i =
      let width = front_width text i.items 34 m le i.spelled in
      elim (furthest r.stand_for i.stand_for (drop n text) (drop m text) (sym split ∙ behind_front text i.items 34 m i.spelled) r.ends) [
        | inl lt ↦ omega (arith, lt, width, long, r.low)
        | inr same ↦ omega (arith, ap length same.0, width, long, r.low)
      ]

  quoted_of : (m : ℕ) → m ≤ length text → IsQuoted (take m text) → (m ≤ n) ⊎ ((m ≡ n + 1) × (drop n text ≡ 34 ∷ drop m text))
  quoted_of m le i =
      let d = i.1 in
      let width = front_width text (d.items ++ 34 ∷ []) 34 m le d.spelled in
      let more = length-append d.items (34 ∷ []) in
      let e = behind_front text (d.items ++ 34 ∷ []) 34 m d.spelled ∙ append_assoc d.items (34 ∷ []) (drop m text) in
      elim (furthest r.stand_for d.stand_for (drop n text) (34 ∷ drop m text) (sym split ∙ e) r.ends) [
        | inl lt ↦ inl (omega (arith, lt, width, more, long, r.low))
        | inr same ↦ inr (omega (arith, ap length same.0, width, more, long, r.low), same.1)
      ]

  pub quoted_longest : n < length text → slice_index text n ≡ 34 → Longest text Quoted (n + 1)
  quoted_longest within closes = longest_of Quoted text (n + 1) is (omega arith) own
    where
      is : IsQuoted (take (n + 1) text)
      is = (
        r.bytes,
        record {
          items = take (n - 1) (drop 1 text);
          spelled = take_more text n 0 within ∙ ap (λ (k : ℕ). take n text ++ k ∷ []) closes ∙ ap (λ (l : List ℕ). l ++ 34 ∷ []) spelled;
          stand_for = r.stand_for;
        },
      )

      own : (g : StretchForm) → start_of g ≡ start_of Quoted → (m : ℕ) → m ≤ length text → Is g text m → m ≤ n + 1
      own Quoted e m le i = elim (quoted_of m le i) [ inl most ↦ omega (arith, most) | inr one ↦ omega (arith, one.0) ]
      own OpenString e m le i = omega (arith, open_of m le i)
      own _ e m le i = cc

  pub open_longest : (n < length text → slice_index text n ≡ 34 → ⊥) → Longest text OpenString n
  open_longest no_quote = longest_of OpenString text n is r.within own
    where
      whole : (n ≡ length text) ⊎ (slice_index text n ≡ 10)
      whole = elim (cases_lt n (length text)) [
        | inl lt ↦ inr (ended (slice_index text n) (drop (n + 1) text) (sym (ap item_width (rest_at text n lt)) ∙ r.ends) (no_quote lt))
        | inr le ↦ inl (omega (arith, r.within))
      ]

      is : IsOpenString text n
      is = record { items = take (n - 1) (drop 1 text); bytes = r.bytes; stand_for = r.stand_for; spelled = spelled; whole = whole }

      own : (g : StretchForm) → start_of g ≡ start_of OpenString → (m : ℕ) → m ≤ length text → Is g text m → m ≤ n
      own Quoted e m le i = elim (quoted_of m le i) [
        | inl most ↦ most
        | inr one ↦
            let lt : n < length text = omega (arith, one.0) in
            absurd (no_quote lt (let f = sym (rest_at text n lt) ∙ one.1 in cc))
      ]
      own OpenString e m le i = open_of m le i
      own _ e m le i = cc
