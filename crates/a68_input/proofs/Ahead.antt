-- A text with more behind it: a blank parts them, and no tag or number goes on from one into the other.
use Rattle.std.proofs.Common.{◌≡◌, ℕ, ◌+◌, ◌-◌, ◌<◌, ◌≤◌, Bool, true, false, List, ◌∷◌, ◌++◌, length, slice_index, get_or, drop, refl, sym, ap, subst, ◌∙◌, inl, inr, arith}
use Rattle.std.proofs.lemmas.Bool.{cases_lt}
use Rattle.std.proofs.lemmas.List.{get_or_append_left, get_or-append-add, get_or-drop, length-drop}
use Rattle.std.proofs.Math.Seq.{get_or-append_seam}
use Rattle.a68_symbols.specs.Bytes.{in_tag, ends_tag}
use Rattle.a68_symbols.specs.Forms.{Each}
use Rattle.a68_symbols.proofs.Again.{true≢false}

-- a blank is the text's last byte or stands directly behind it, and a tag or a number from the front of the text ends in it
pub record SetApart (t v : List ℕ) : Type 0 where
  pub blank : ℕ
  pub low : length t ≤ blank + 1
  pub high : blank ≤ length t
  pub is : slice_index (t ++ v) blank ≡ 32
  pub tags : (m : ℕ) → ends_tag (slice_index (t ++ v) 0) ≡ true → Each in_tag (t ++ v) 1 m → ends_tag (slice_index (t ++ v) (m - 1)) ≡ true → m ≤ length t

-- the text is the end of one whose last bytes are a semicolon and a blank
abbrev pub EndsClause : List ℕ → Type 0
EndsClause t = (1 ≤ length t → slice_index t (length t - 1) ≡ 32) × (2 ≤ length t → slice_index t (length t - 2) ≡ 59)

-- how a text adjoins what stands behind it: a blank and a bracket, or anything behind a semicolon and a blank
pub data Adjoins (t v : List ℕ) : Type 0 where
  closes : (rest : List ℕ) → v ≡ 32 ∷ 41 ∷ rest → Adjoins t v
  ends : EndsClause t → Adjoins t v

-- each end of the text adjoins it so too
pub adjoins_on : (t v : List ℕ) (n : ℕ) → n ≤ length t → Adjoins t v → Adjoins (drop n t) v
adjoins_on t v n le (closes rest e) = closes rest e
adjoins_on t v n le (ends e) = ends (
  λ some.
      let at : n + (length (drop n t) - 1) ≡ length t - 1 = omega (arith, length-drop n t, some, le) in
      get_or-drop n t (length (drop n t) - 1) 0 ∙ ap (λ (k : ℕ). get_or t k 0) at ∙ e.0 (omega (arith, length-drop n t, some)),
  λ some.
      let at : n + (length (drop n t) - 2) ≡ length t - 2 = omega (arith, length-drop n t, some, le) in
      get_or-drop n t (length (drop n t) - 2) 0 ∙ ap (λ (k : ℕ). get_or t k 0) at ∙ e.1 (omega (arith, length-drop n t, some)),
)

-- a byte that is known passes no test that this one does not pass
pub refuted : (p : ℕ → Bool) (b c : ℕ) → p b ≡ true → b ≡ c → p c ≡ false → ⊥
refuted p b c passes e fails = true≢false (p c) (subst (λ (x : ℕ). p x ≡ true) e passes) fails

bracket_tags : (t rest : List ℕ) (m : ℕ) → Each in_tag (t ++ 32 ∷ 41 ∷ rest) 1 m → ends_tag (slice_index (t ++ 32 ∷ 41 ∷ rest) (m - 1)) ≡ true → m ≤ length t
bracket_tags t rest m each last = elim (cases_lt (length t) m) [
  | inl lt ↦ elim (cases_lt (length t + 1) m) [
    | inl far ↦ absurd (refuted in_tag (slice_index (t ++ 32 ∷ 41 ∷ rest) (length t + 1)) 41 (each (length t + 1) (omega arith) far) (get_or-append-add t (32 ∷ 41 ∷ rest) 1 0) refl)
    | inr near ↦
        let at : m - 1 ≡ length t = omega (arith, lt, near) in
        absurd (refuted ends_tag (slice_index (t ++ 32 ∷ 41 ∷ rest) (m - 1)) 32 last (ap (λ (k : ℕ). get_or (t ++ 32 ∷ 41 ∷ rest) k 0) at ∙ get_or-append_seam t 32 (41 ∷ rest) 0) refl)
  ]
  | inr le ↦ le
]

clause_tags : (t v : List ℕ) → 0 < length t → EndsClause t → (m : ℕ) → ends_tag (slice_index (t ++ v) 0) ≡ true → Each in_tag (t ++ v) 1 m → m ≤ length t
clause_tags t v some e m first each = elim (cases_lt (length t) m) [
  | inl lt ↦ elim (cases_lt 1 (length t)) [
    | inl two ↦
        let at : slice_index (t ++ v) (length t - 2) ≡ 59 = get_or_append_left t v 0 (length t - 2) (omega (arith, two)) ∙ e.1 (omega (arith, two)) in
        elim (cases_lt 0 (length t - 2)) [
          | inl inside ↦ absurd (refuted in_tag (slice_index (t ++ v) (length t - 2)) 59 (each (length t - 2) (omega (arith, inside)) (omega (arith, lt))) at refl)
          | inr none ↦
              let here : 0 ≡ length t - 2 = omega (arith, none) in
              absurd (refuted ends_tag (slice_index (t ++ v) 0) 59 first (ap (λ (k : ℕ). get_or (t ++ v) k 0) here ∙ at) refl)
        ]
    | inr one ↦
        let here : 0 ≡ length t - 1 = omega (arith, one) in
        let at : slice_index (t ++ v) 0 ≡ 32 = get_or_append_left t v 0 0 some ∙ ap (λ (k : ℕ). get_or t k 0) here ∙ e.0 (omega (arith, some)) in
        absurd (refuted ends_tag (slice_index (t ++ v) 0) 32 first at refl)
  ]
  | inr le ↦ le
]

pub set_apart : (t v : List ℕ) → 0 < length t → Adjoins t v → SetApart t v
set_apart t v some (closes rest e) = subst (λ (l : List ℕ). SetApart t l) (sym e) (record {
  blank = length t;
  low = omega arith;
  high = omega arith;
  is = get_or-append_seam t 32 (41 ∷ rest) 0;
  tags = λ m first each last. bracket_tags t rest m each last;
})
set_apart t v some (ends e) = record {
  blank = length t - 1;
  low = omega arith;
  high = omega arith;
  is = get_or_append_left t v 0 (length t - 1) (omega (arith, some)) ∙ e.0 (omega (arith, some));
  tags = λ m first each last. clause_tags t v some e m first each;
}
