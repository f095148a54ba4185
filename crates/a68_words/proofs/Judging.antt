-- What is known of a symbol tells what is broken there.
use Rattle.std.proofs.Common.{◌≡◌, ℕ, ◌<◌, ◌≤◌, ◌⊎◌, inl, inr, Bool, true, false, ◌&&◌, ◌||◌, List, Option, Some, None, length, refl, ap, sym, subst, ◌∙◌, arith}
use Rattle.std.specs.Prelude.{◌↔◌, not}
use Rattle.std.specs.Option.{is_some}
use Rattle.std.proofs.lemmas.Bool.{leb-true}
use Rattle.std.proofs.lemmas.Bool.Decides.{nat_tests}
use Rattle.std.proofs.lemmas.List.{get_or_past}
use Rattle.std.specs.Prelude.{nat_le}
use Rattle.a68_base.specs.declared.refusal.Rule.TheVariants.{S4, N2}
use Rattle.a68_words.specs.declared.class.Class.{Class}
use Rattle.a68_words.specs.declared.class.Class.TheVariants.{ModeWord, OperatorWord}
use Rattle.a68_words.specs.declared.role.Role.{Role}
use Rattle.a68_words.specs.declared.role.Role.TheVariants.{Mode, Prio, Op, Standard, Bold, Other}
use Rattle.a68_words.specs.declared.known.Known.{Known}
use Rattle.a68_words.specs.Roles.{is_definable, definer}
use Rattle.a68_words.specs.Levels.{role_at}
use Rattle.a68_words.specs.Definitions.{Defines}
use Rattle.a68_words.specs.Definitions.Defines.{behind_mode, behind_prio, behind_op, before_equals, joined}
use Rattle.a68_words.specs.Classes.{IsDefinedAt, BreaksAt}
use Rattle.a68_words.specs.Classes.BreaksAt.{defined_otherwise, standard_mode, undefined}
use Rattle.a68_words.specs.Known.{IsKnown, differs, is_undefined}
use Rattle.a68_words.specs.Steps.{IsFirstSymbol, is_by, is_standard_role, is_bold_role}
use Rattle.a68_words.proofs.Defining.{both, either, and_true, or_left, or_right}

definer_cases : (r : Role) (class : Class) → definer r ≡ Some class → (class ≡ ModeWord) ⊎ (class ≡ OperatorWord)
definer_cases Mode class e = inl (cc)
definer_cases Prio class e = inr (cc)
definer_cases Op class e = inr (cc)
definer_cases _ class e = absurd (cc)

-- words are defined as modes or as operators
pub defines_cases : (roles : List Role) (i : ℕ) (class : Class) → Defines roles i class → (class ≡ ModeWord) ⊎ (class ≡ OperatorWord)
defines_cases roles i _ (behind_mode k d e m) = inl refl
defines_cases roles i _ (behind_prio k d e m) = inr refl
defines_cases roles i _ (behind_op k d e m) = inr refl
defines_cases roles i _ (before_equals k d n h op round s none) = inr refl
defines_cases roles i class (joined j k d e c n h def s none) = definer_cases (role_at roles k) class def

definable : (roles : List Role) (i : ℕ) (class : Class) → Defines roles i class → is_definable (role_at roles i) ≡ true
definable roles i _ (behind_mode k d e m) = d
definable roles i _ (behind_prio k d e m) = d
definable roles i _ (behind_op k d e m) = d
definable roles i _ (before_equals k d n h op round s none) = d
definable roles i class (joined j k d e c n h def s none) = d

within_or_past : (i n : ℕ) → (i < n) ⊎ (n ≤ i)
within_or_past i n = grind arith

-- what defines is a symbol of the text
pub defines_within : (roles : List Role) (i : ℕ) (class : Class) → Defines roles i class → i < length roles
defines_within roles i class d = elim (within_or_past i (length roles)) [
  | inl lt ↦ lt
  | inr past ↦
      let is : is_definable (role_at roles i) ≡ false = ap is_definable (get_or_past roles i Other past) in
      absurd (cc (is, definable roles i class d))
]

standard_is : (r : Role) → is_standard_role r ≡ true → r ≡ Standard
standard_is Standard e = refl
standard_is _ e = absurd (cc)

bold_is : (r : Role) → is_bold_role r ≡ true → r ≡ Bold
bold_is Bold e = refl
bold_is _ e = absurd (cc)

by_there : (P : ℕ → Type 0) (n i : ℕ) (o : Option ℕ) → IsFirstSymbol P n o → is_by o i ≡ true → (j : ℕ) × (j ≤ i) × P j
by_there P n i None f e = absurd (cc)
by_there P n i (Some k) f e = (k, leb-true k i e, f.1)

below : (k i : ℕ) → k ≤ i → nat_le k i ≡ true
below k i h = grind (arith, nat_tests)

by_flag : (P : ℕ → Type 0) (n i : ℕ) (o : Option ℕ) → IsFirstSymbol P n o → (j : ℕ) → j < n → j ≤ i → P j → is_by o i ≡ true
by_flag P n i None f j lt le p = absurd (f j lt p)
by_flag P n i (Some k) f j lt le p = elim (within_or_past j k) [
  | inl earlier ↦ absurd (f.2 j earlier p)
  | inr later ↦ below k i (omega arith)
]

differs_there : (roles : List Role) (names : List ℕ) (i : ℕ) (known : Known) → IsKnown roles names i known → differs i known ≡ true
    → BreaksAt roles names i S4
differs_there roles names i known is e =
    elim (either (known.mode && (is_standard_role known.role || is_by known.first_operator i)) (known.operator && is_by known.first_mode i) e) [
      | inl m ↦
          let p = both known.mode (is_standard_role known.role || is_by known.first_operator i) m in
          elim (either (is_standard_role known.role) (is_by known.first_operator i) p.1) [
            | inl s ↦ standard_mode (sym is.role ∙ standard_is known.role s) (is.mode.0 p.0)
            | inr b ↦
                let f = by_there (λ j. IsDefinedAt roles names i j OperatorWord) (length roles) i known.first_operator is.first_operator b in
                defined_otherwise (is.mode.0 p.0) f.1 f.2 (λ same. absurd (cc (same)))
          ]
      | inr o ↦
          let p = both known.operator (is_by known.first_mode i) o in
          let f = by_there (λ j. IsDefinedAt roles names i j ModeWord) (length roles) i known.first_mode is.first_mode p.1 in
          defined_otherwise (is.operator.0 p.0) f.1 f.2 (λ same. absurd (cc (same)))
    ]

differs_flag : (roles : List Role) (names : List ℕ) (i : ℕ) (known : Known) → IsKnown roles names i known → BreaksAt roles names i S4
    → differs i known ≡ true
differs_flag roles names i known is (standard_mode s d) =
    or_left (known.mode && (is_standard_role known.role || is_by known.first_operator i)) (known.operator && is_by known.first_mode i)
    (and_true known.mode (is_standard_role known.role || is_by known.first_operator i) (is.mode.1 d)
    (or_left (is_standard_role known.role) (is_by known.first_operator i) (ap is_standard_role (is.role ∙ s))))
differs_flag roles names i known is (defined_otherwise {j} {class} {other} d le at ne) =
    elim (defines_cases roles i class d) [
      | inl m ↦ elim (defines_cases roles j other at.0) [
        | inl same ↦ absurd (ne (same ∙ sym m))
        | inr o ↦
            let there : IsDefinedAt roles names i j OperatorWord = (subst (λ (c : Class). Defines roles j c) o at.0, at.1) in
            or_left (known.mode && (is_standard_role known.role || is_by known.first_operator i)) (known.operator && is_by known.first_mode i)
            (and_true known.mode (is_standard_role known.role || is_by known.first_operator i) (is.mode.1 (subst (λ (c : Class). Defines roles i c) m d))
            (or_right (is_standard_role known.role) (is_by known.first_operator i)
            (by_flag (λ j. IsDefinedAt roles names i j OperatorWord) (length roles) i known.first_operator is.first_operator j (defines_within roles j other at.0) le there)))
      ]
      | inr o ↦ elim (defines_cases roles j other at.0) [
        | inl m ↦
            let there : IsDefinedAt roles names i j ModeWord = (subst (λ (c : Class). Defines roles j c) m at.0, at.1) in
            or_right (known.mode && (is_standard_role known.role || is_by known.first_operator i)) (known.operator && is_by known.first_mode i)
            (and_true known.operator (is_by known.first_mode i) (is.operator.1 (subst (λ (c : Class). Defines roles i c) o d))
            (by_flag (λ j. IsDefinedAt roles names i j ModeWord) (length roles) i known.first_mode is.first_mode j (defines_within roles j other at.0) le there))
        | inr same ↦ absurd (ne (same ∙ sym o))
      ]
    ]

pub differs_is : (roles : List Role) (names : List ℕ) (i : ℕ) (known : Known) (b : Bool) → IsKnown roles names i known → b ≡ differs i known
    → (b ≡ true) ↔ BreaksAt roles names i S4
differs_is roles names i known b is e = rw e (differs_there roles names i known is, differs_flag roles names i known is)

unset : (o : Option ℕ) → is_some o ≡ false → o ≡ None
unset None e = refl
unset (Some k) e = absurd (cc)

neither : (a b : Bool) → not (a || b) ≡ true → (a ≡ false) × (b ≡ false)
neither true b e = absurd (cc)
neither false true e = absurd (cc)
neither false false e = (refl, refl)

none_first : (P : ℕ → Type 0) (n : ℕ) (o : Option ℕ) → IsFirstSymbol P n o → is_some o ≡ false → (j : ℕ) → j < n → P j → ⊥
none_first P n None f e = f
none_first P n (Some k) f e = absurd (cc)

first_none : (P : ℕ → Type 0) (n : ℕ) (o : Option ℕ) → IsFirstSymbol P n o → ((j : ℕ) → P j → ⊥) → is_some o ≡ false
first_none P n None f none = refl
first_none P n (Some k) f none = absurd (none k f.1)

undefined_there : (roles : List Role) (names : List ℕ) (i : ℕ) (known : Known) → IsKnown roles names i known → is_undefined known ≡ true
    → BreaksAt roles names i N2
undefined_there roles names i known is e =
    let p = both (is_bold_role known.role) (not (is_some known.first_mode || is_some known.first_operator)) e in
    let q = neither (is_some known.first_mode) (is_some known.first_operator) p.1 in
    undefined (sym is.role ∙ bold_is known.role p.0) (λ j class at. elim (defines_cases roles j class at.0) [
      | inl m ↦ none_first (λ j. IsDefinedAt roles names i j ModeWord) (length roles) known.first_mode is.first_mode q.0 j (defines_within roles j class at.0)
          (subst (λ (c : Class). Defines roles j c) m at.0, at.1)
      | inr o ↦ none_first (λ j. IsDefinedAt roles names i j OperatorWord) (length roles) known.first_operator is.first_operator q.1 j (defines_within roles j class at.0)
          (subst (λ (c : Class). Defines roles j c) o at.0, at.1)
    ])

undefined_flag : (roles : List Role) (names : List ℕ) (i : ℕ) (known : Known) → IsKnown roles names i known → BreaksAt roles names i N2
    → is_undefined known ≡ true
undefined_flag roles names i known is (undefined bold none) =
    let m : is_some known.first_mode ≡ false = first_none (λ j. IsDefinedAt roles names i j ModeWord) (length roles) known.first_mode is.first_mode (λ j. none j ModeWord) in
    let o : is_some known.first_operator ≡ false = first_none (λ j. IsDefinedAt roles names i j OperatorWord) (length roles) known.first_operator is.first_operator (λ j. none j OperatorWord) in
    and_true (is_bold_role known.role) (not (is_some known.first_mode || is_some known.first_operator)) (ap is_bold_role (is.role ∙ bold))
    (ap (λ (b : Bool). not (b || is_some known.first_operator)) m ∙ ap not o)

pub undefined_is : (roles : List Role) (names : List ℕ) (i : ℕ) (known : Known) (b : Bool) → IsKnown roles names i known → b ≡ is_undefined known
    → (b ≡ true) ↔ BreaksAt roles names i N2
undefined_is roles names i known b is e = rw e (undefined_there roles names i known is, undefined_flag roles names i known is)
