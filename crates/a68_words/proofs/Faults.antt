-- The first thing broken, from the first symbols that break each rule.
use Rattle.std.proofs.Common.{List, ◌≡◌, ℕ, ◌<◌, ◌≤◌, ◌⊎◌, inl, inr, Bool, true, false, Option, Some, None, length, refl, sym, subst, arith, if◌then◌else◌}
use Rattle.std.specs.Prelude.{nat_lt}
use Rattle.std.proofs.lemmas.Bool.Decides.{nat_tests}
use Rattle.a68_base.specs.declared.refusal.Rule.{Rule}
use Rattle.a68_base.specs.declared.refusal.Rule.TheVariants.{S4, N2, L3}
use Rattle.a68_words.specs.declared.role.Role.TheVariants.{Other}
use Rattle.a68_words.specs.declared.role.Role.{Role}
use Rattle.a68_words.specs.declared.known.BrokenRule.{BrokenRule}
use Rattle.std.proofs.lemmas.List.{get_or_past}
use Rattle.a68_words.specs.declared.class.Class.TheVariants.{ModeWord}
use Rattle.a68_words.specs.Levels.{IsTooDeep, role_at}
use Rattle.a68_words.specs.Classes.{BreaksAt, IsBefore, rank}
use Rattle.a68_words.specs.Classes.BreaksAt.{defined_otherwise, standard_mode, undefined, too_deep}
use Rattle.a68_words.specs.Known.{IsFirstFault, Outline, earlier, fault_of}
use Rattle.a68_words.specs.Steps.{IsFirstSymbol}
use Rattle.a68_words.proofs.Judging.{defines_within}

-- the first fault of a family
abbrev pub FirstOf : (ℕ → Rule → Type 0) → Option BrokenRule → Type 0
FirstOf P None = (j : ℕ) (rule : Rule) → P j rule → ⊥
FirstOf P (Some fault) = P fault.symbol fault.rule × ((j : ℕ) (other : Rule) → P j other → IsBefore fault.symbol fault.rule j other)

compare : (i j : ℕ) → (i < j) ⊎ ((i ≡ j) ⊎ (j < i))
compare i j = grind arith

-- the faults of one rule
single : (rule : Rule) (P : ℕ → Type 0) (n : ℕ) (o : Option ℕ) → ((i : ℕ) → P i → i < n) → IsFirstSymbol P n o
    → FirstOf (λ i r. (r ≡ rule) × P i) (fault_of rule o)
single rule P n None within f = λ j r p. f j (within j p.1) p.1
single rule P n (Some k) within f = (
  (refl, f.1),
  λ j r p. elim (compare k j) [
    | inl lt ↦ inl lt
    | inr more ↦ elim more [
      | inl e ↦ inr (e, (rw (p.0) (omega arith)))
      | inr lt ↦ absurd (f.2 j lt p.1)
    ]
  ],
)

sooner : (P Q : ℕ → Rule → Type 0) (a b : BrokenRule) (t : Bool) → nat_lt b.symbol a.symbol ≡ t → FirstOf P (Some a) → FirstOf Q (Some b)
    → ((i j : ℕ) (r s : Rule) → P i r → Q j s → rank r ≤ rank s)
    → FirstOf (λ i r. P i r ⊎ Q i r) (if t then Some b else Some a)
sooner P Q a b true e p q ranks =
    let lt : b.symbol < a.symbol = grind (arith, nat_tests) in (
      inr q.0,
      λ j r at. elim at [
        | inl here ↦ elim (p.1 j r here) [
          | inl h ↦ inl (omega arith)
          | inr h ↦ let same = h.0 in inl (omega arith)
        ]
        | inr here ↦ q.1 j r here
      ],
    )
sooner P Q a b false e p q ranks =
    let le : a.symbol ≤ b.symbol = grind (arith, nat_tests) in (
      inl p.0,
      λ j r at. elim at [
        | inl here ↦ p.1 j r here
        | inr here ↦ elim (q.1 j r here) [
          | inl h ↦ inl (omega arith)
          | inr h ↦
              let same = h.0 in
              elim (compare a.symbol j) [
                | inl lt ↦ inl lt
                | inr more ↦ elim more [
                  | inl is ↦ inr (is, ranks a.symbol j a.rule r p.0 here)
                  | inr lt ↦ absurd (omega arith)
                ]
              ]
        ]
      ],
    )

earlier_is : (P Q : ℕ → Rule → Type 0) (a b : Option BrokenRule) → FirstOf P a → FirstOf Q b
    → ((i j : ℕ) (r s : Rule) → P i r → Q j s → rank r ≤ rank s)
    → FirstOf (λ i r. P i r ⊎ Q i r) (earlier a b)
earlier_is P Q None None p q ranks = λ j r at. elim at [ inl here ↦ p j r here | inr here ↦ q j r here ]
earlier_is P Q None (Some b) p q ranks = (inr q.0, λ j r at. elim at [ inl here ↦ absurd (p j r here) | inr here ↦ q.1 j r here ])
earlier_is P Q (Some a) None p q ranks = (inl p.0, λ j r at. elim at [ inl here ↦ p.1 j r here | inr here ↦ absurd (q j r here) ])
earlier_is P Q (Some a) (Some b) p q ranks = sooner P Q a b (nat_lt b.symbol a.symbol) refl p q ranks

weaken : (P Q : ℕ → Rule → Type 0) (o : Option BrokenRule) → ((i : ℕ) (r : Rule) → P i r → Q i r) → ((i : ℕ) (r : Rule) → Q i r → P i r) → FirstOf P o → FirstOf Q o
weaken P Q None to from f = λ j r q. f j r (from j r q)
weaken P Q (Some a) to from f = (to a.symbol a.rule f.0, λ j r q. f.1 j r (from j r q))

within_or_past : (i n : ℕ) → (i < n) ⊎ (n ≤ i)
within_or_past i n = grind arith

-- a fault is one of the three rules
split : (o : Outline) (i : ℕ) (r : Rule) → BreaksAt o.roles o.names i r
    → (((r ≡ S4) × BreaksAt o.roles o.names i S4) ⊎ ((r ≡ N2) × BreaksAt o.roles o.names i N2)) ⊎ ((r ≡ L3) × BreaksAt o.roles o.names i L3)
split o i _ (defined_otherwise d le at ne) = inl (inl (refl, defined_otherwise d le at ne))
split o i _ (standard_mode s d) = inl (inl (refl, standard_mode s d))
split o i _ (undefined b none) = inl (inr (refl, undefined b none))
split o i _ (too_deep lt deep) = inr (refl, too_deep lt deep)

join : (o : Outline) (i : ℕ) (r : Rule)
    → (((r ≡ S4) × BreaksAt o.roles o.names i S4) ⊎ ((r ≡ N2) × BreaksAt o.roles o.names i N2)) ⊎ ((r ≡ L3) × BreaksAt o.roles o.names i L3)
    → BreaksAt o.roles o.names i r
join o i r (inl (inl p)) = subst (λ (r : Rule). BreaksAt o.roles o.names i r) (sym p.0) p.1
join o i r (inl (inr p)) = subst (λ (r : Rule). BreaksAt o.roles o.names i r) (sym p.0) p.1
join o i r (inr p) = subst (λ (r : Rule). BreaksAt o.roles o.names i r) (sym p.0) p.1

otherwise_within : (o : Outline) (i : ℕ) → BreaksAt o.roles o.names i S4 → i < length o.roles
otherwise_within o i (defined_otherwise {j} {class} {other} d le at ne) = defines_within o.roles i class d
otherwise_within o i (standard_mode s d) = defines_within o.roles i ModeWord d

undefined_within : (o : Outline) (i : ℕ) → BreaksAt o.roles o.names i N2 → i < length o.roles
undefined_within o i (undefined b none) = elim (within_or_past i (length o.roles)) [
  | inl lt ↦ lt
  | inr past ↦ let is : role_at o.roles i ≡ Other = get_or_past o.roles i Other past in absurd (cc (is, b))
]

deep_within : (o : Outline) (i : ℕ) → BreaksAt o.roles o.names i L3 → (i < length o.roles) × IsTooDeep o.roles i
deep_within o i (too_deep lt deep) = (lt, deep)

deep_first : (o : Outline) (t : Option ℕ) → IsFirstSymbol (IsTooDeep o.roles) (length o.roles) t → IsFirstSymbol (λ i. BreaksAt o.roles o.names i L3) (length o.roles) t
deep_first o None f = λ k h b. f k h (deep_within o k b).1
deep_first o (Some k) f = (f.0, too_deep f.0 f.1, λ j lt b. f.2 j lt (deep_within o j b).1)

is_first : (o : Outline) (f : Option BrokenRule) → FirstOf (BreaksAt o.roles o.names) f → IsFirstFault o f
is_first o None f = f
is_first o (Some fault) f = f

pub first_fault : (o : Outline) (d u t : Option ℕ) → IsFirstSymbol (λ i. BreaksAt o.roles o.names i S4) (length o.roles) d
    → IsFirstSymbol (λ i. BreaksAt o.roles o.names i N2) (length o.roles) u → IsFirstSymbol (IsTooDeep o.roles) (length o.roles) t
    → IsFirstFault o (earlier (earlier (fault_of S4 d) (fault_of N2 u)) (fault_of L3 t))
first_fault o d u t fd fu ft =
    let n = length o.roles in
    let A = λ (i : ℕ) (r : Rule). (r ≡ S4) × BreaksAt o.roles o.names i S4 in
    let B = λ (i : ℕ) (r : Rule). (r ≡ N2) × BreaksAt o.roles o.names i N2 in
    let C = λ (i : ℕ) (r : Rule). (r ≡ L3) × BreaksAt o.roles o.names i L3 in
    let a = single S4 (λ i. BreaksAt o.roles o.names i S4) n d (otherwise_within o) fd in
    let b = single N2 (λ i. BreaksAt o.roles o.names i N2) n u (undefined_within o) fu in
    let c = single L3 (λ i. BreaksAt o.roles o.names i L3) n t (λ i p. (deep_within o i p).0) (deep_first o t ft) in
    let ab = earlier_is A B (fault_of S4 d) (fault_of N2 u) a b (λ i j r s p q. rw (p.0) (omega arith)) in
    let abc = earlier_is (λ i r. A i r ⊎ B i r) C (earlier (fault_of S4 d) (fault_of N2 u)) (fault_of L3 t) ab c
    (λ i j r s p q. elim p [ inl x ↦ rw (x.0) (omega arith) | inr x ↦ rw (x.0, q.0) (omega arith) ]) in
    is_first o (earlier (earlier (fault_of S4 d) (fault_of N2 u)) (fault_of L3 t))
    (weaken (λ i r. (A i r ⊎ B i r) ⊎ C i r) (BreaksAt o.roles o.names) (earlier (earlier (fault_of S4 d) (fault_of N2 u)) (fault_of L3 t)) (join o) (split o) abc)

-- what is broken is broken at a symbol
pub breaks_within : (o : Outline) (i : ℕ) (r : Rule) → BreaksAt o.roles o.names i r → i < length o.roles
breaks_within o i r b = elim (split o i r b) [
  | inl p ↦ elim p [ inl q ↦ otherwise_within o i q.1 | inr q ↦ undefined_within o i q.1 ]
  | inr p ↦ (deep_within o i p.1).0
]

-- three rules are broken, and no other
pub rule_is : (roles : List Role) (names : List ℕ) (i : ℕ) (r : Rule) → BreaksAt roles names i r → (r ≡ S4) ⊎ ((r ≡ N2) ⊎ (r ≡ L3))
rule_is roles names i _ (defined_otherwise d le at ne) = inl refl
rule_is roles names i _ (standard_mode s d) = inl refl
rule_is roles names i _ (undefined b none) = inr (inl refl)
rule_is roles names i _ (too_deep lt deep) = inr (inr refl)
