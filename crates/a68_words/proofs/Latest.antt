-- The latest of the symbols of a level that say something.
use Rattle.std.proofs.Common.{◌≡◌, ◌≢◌, ℕ, ◌+◌, ◌<◌, ◌⊎◌, inl, inr, Option, None, Some, refl, ap, ◌∙◌, arith, below_more}
use Rattle.a68_words.specs.Steps.{or_old}

-- no symbol of level b before i says anything
pub record IsSilent {X : Type 0} (f : ℕ → Option X) (level : ℕ → ℕ) (b i : ℕ) : Type 0 where
  pub none : (k : ℕ) → k < i → level k ≡ b → f k ≡ None

-- the last of them that says anything says x
pub record SaysLast {X : Type 0} (f : ℕ → Option X) (level : ℕ → ℕ) (b i : ℕ) (x : X) : Type 0 where
  pub at : ℕ
  pub before : at < i
  pub same : level at ≡ b
  pub says : f at ≡ Some x
  pub none : (m : ℕ) → at < m → m < i → level m ≡ b → f m ≡ None

-- what is known of level b in front of i, where d is known at first
abbrev pub IsLatest : {X : Type 0} → (ℕ → Option X) → (ℕ → ℕ) → ℕ → X → ℕ → X → Type 0
IsLatest f level b d i v = ((v ≡ d) × IsSilent f level b i) ⊎ SaysLast f level b i v

pub latest_silent : {X : Type 0} (f : ℕ → Option X) (level : ℕ → ℕ) (b : ℕ) (d : X) (i : ℕ) (v : X)
    → (level i ≡ b → f i ≡ None) → IsLatest f level b d i v → IsLatest f level b d (i + 1) v
latest_silent f level b d i v here (inl p) =
    inl (p.0, record { none = below_more (λ (k : ℕ). level k ≡ b → f k ≡ None) i p.1.none here })
latest_silent f level b d i v here (inr r) =
    inr (record {
      at = r.at;
      before = omega arith;
      same = r.same;
      says = r.says;
      none = λ m low high. below_more (λ (m : ℕ). r.at < m → level m ≡ b → f m ≡ None) i (λ m high low. r.none m low high) (λ low. here) m high low;
    })

latest_says : {X : Type 0} (f : ℕ → Option X) (level : ℕ → ℕ) (b : ℕ) (d : X) (i : ℕ) (v : X) (o : Option X) → f i ≡ o → level i ≡ b
    → IsLatest f level b d i v → IsLatest f level b d (i + 1) (or_old o v)
latest_says f level b d i v None says same old = latest_silent f level b d i v (λ s. says) old
latest_says f level b d i v (Some x) says same old =
    inr (record { at = i; before = omega arith; same = same; says = says; none = λ m low high s. absurd (omega arith) })

-- behind a symbol of level b
pub latest_same : {X : Type 0} (f : ℕ → Option X) (level : ℕ → ℕ) (b : ℕ) (d : X) (i : ℕ) (v : X) → level i ≡ b
    → IsLatest f level b d i v → IsLatest f level b d (i + 1) (or_old (f i) v)
latest_same f level b d i v same old = latest_says f level b d i v (f i) refl same old

-- behind a symbol of another level
pub latest_other : {X : Type 0} (f : ℕ → Option X) (level : ℕ → ℕ) (b : ℕ) (d : X) (i : ℕ) (v : X) → level i ≢ b
    → IsLatest f level b d i v → IsLatest f level b d (i + 1) v
latest_other f level b d i v other old = latest_silent f level b d i v (λ s. absurd (other s)) old

-- at a level that begins
pub latest_fresh : {X : Type 0} (f : ℕ → Option X) (level : ℕ → ℕ) (b : ℕ) (d : X) (i : ℕ) → ((k : ℕ) → k < i → level k ≢ b)
    → IsLatest f level b d i d
latest_fresh f level b d i none = inl (refl, record { none = λ k h s. absurd (none k h s) })

-- what is known is said
pub said : {X : Type 0} (f : ℕ → Option X) (level : ℕ → ℕ) (b : ℕ) (d : X) (i : ℕ) (v : X) → v ≢ d → IsLatest f level b d i v
    → SaysLast f level b i v
said f level b d i v differs (inl p) = absurd (differs p.0)
said f level b d i v differs (inr r) = r

order : (a b : ℕ) → (a < b) ⊎ ((a ≡ b) ⊎ (b < a))
order a b = grind arith

-- and it is what was said last
pub known : {X : Type 0} (f : ℕ → Option X) (level : ℕ → ℕ) (b : ℕ) (d : X) (i : ℕ) (v w : X) → IsLatest f level b d i v
    → SaysLast f level b i w → v ≡ w
known f level b d i v w (inl p) r = let n = p.1.none r.at r.before r.same in absurd (cc (n, r.says))
known f level b d i v w (inr q) r =
    elim (order q.at r.at) [
      | inl lt ↦ absurd (cc (q.none r.at lt r.before r.same, r.says))
      | inr more ↦ elim more [
        | inl e ↦ let s : f q.at ≡ Some w = ap f e ∙ r.says in cc (s, q.says)
        | inr lt ↦ absurd (cc (r.none q.at lt q.before q.same, q.says))
      ]
    ]
