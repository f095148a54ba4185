-- Labels that are found at once.
use Rattle.std.proofs.Common.{◌≡◌, ◌<◌, ◌≤◌, ◌-◌, arith, nat_lt, ℕ, Bool, true, false, cond, List, [], ◌∷◌, ◌++◌, refl, sym, ap, ◌∙◌, subst, None, Some, nat_eq}
use Rattle.std.proofs.lemmas.Bool.{eqb-true, false≢true}
use Rattle.std.proofs.lemmas.Bool.Decides.{nat_tests}
use Rattle.std.proofs.lemmas.Cmp.{nat_eq_equiv}
use Rattle.std.specs.Map.{lookup}
use Rattle.std.specs.Option.{is_some, option_map_or}
use Rattle.std.specs.Prelude.{if◌then◌else◌}
use Rattle.std.specs.declared.option.Option.{Option}
use Rattle.a68_builder.specs.Known.{AreKnown}
use Rattle.a68_builder.specs.Labels.{far, number_of, place_to}

-- the one, or the other where there is none
abbrev or_other : Option ℕ → Option ℕ → Option ℕ
or_other None o = o
or_other (Some n) o = Some n

-- one more at the end
number_more : (pairs : List (ℕ × ℕ)) (label number l : ℕ) → number_of (pairs ++ (label, number) ∷ []) l ≡ or_other (number_of pairs l) (if nat_eq l label then Some number else None)
number_more [] label number l = refl
number_more (p ∷ pairs) label number l = go (nat_eq l p.0) (number_more pairs label number l)
  where
    go : (b : Bool) → number_of (pairs ++ (label, number) ∷ []) l ≡ or_other (number_of pairs l) (if nat_eq l label then Some number else None)
        → (if b then Some p.1 else number_of (pairs ++ (label, number) ∷ []) l)
        ≡ or_other (if b then Some p.1 else number_of pairs l) (if nat_eq l label then Some number else None)
    go true e = refl
    go false e = e

pub none_known : AreKnown [] []
none_known = λ label. refl

-- a label that is known
pub known_again : (pairs entries : List (ℕ × ℕ)) (label number : ℕ) → AreKnown pairs entries → is_some (lookup (nat_eq label) entries) ≡ true → AreKnown (pairs ++ (label, number) ∷ []) entries
known_again pairs entries label number known there = λ l. known l ∙ sym (number_more pairs label number l ∙ kept l (nat_eq l label) refl)
  where
    some_stays : (o o2 : Option ℕ) → is_some o ≡ true → or_other o o2 ≡ o
    some_stays None o2 e = absurd (false≢true e)
    some_stays (Some n) o2 e = refl

    none_stays : (o : Option ℕ) → or_other o None ≡ o
    none_stays None = refl
    none_stays (Some n) = refl

    kept : (l : ℕ) (b : Bool) → nat_eq l label ≡ b → or_other (number_of pairs l) (if b then Some number else None) ≡ number_of pairs l
    kept l true e =
        let same : l ≡ label = eqb-true l label e in
        some_stays (number_of pairs l) (Some number) (ap is_some (ap (number_of pairs) same ∙ sym (known label)) ∙ there)
    kept l false e = none_stays (number_of pairs l)

-- and one that is not
pub known_more : (pairs entries more : List (ℕ × ℕ)) (label number : ℕ) → AreKnown pairs entries → is_some (lookup (nat_eq label) entries) ≡ false
    → ((l : ℕ) → lookup (nat_eq l) more ≡ cond (nat_eq label l) (Some number) (lookup (nat_eq l) entries)) → AreKnown (pairs ++ (label, number) ∷ []) more
known_more pairs entries more label number known absent updates = λ l.
    updates l ∙ ap (λ (o : Option ℕ). cond (nat_eq label l) (Some number) o) (known l) ∙ sym (number_more pairs label number l ∙ both l (nat_eq label l) refl)
  where
    nothing : (o : Option ℕ) → is_some o ≡ false → o ≡ None
    nothing None e = refl
    nothing (Some n) e = absurd (false≢true (sym e))

    none_stays : (o : Option ℕ) → or_other o None ≡ o
    none_stays None = refl
    none_stays (Some n) = refl

    both : (l : ℕ) (b : Bool) → nat_eq label l ≡ b → or_other (number_of pairs l) (if nat_eq l label then Some number else None) ≡ cond b (Some number) (number_of pairs l)
    both l true e =
        let same : label ≡ l = eqb-true label l e in
        let here : number_of pairs l ≡ None = nothing (number_of pairs l) (ap is_some (ap (number_of pairs) (sym same) ∙ sym (known label)) ∙ absent) in
        let met : nat_eq l label ≡ true = nat_eq_equiv.symm l label ∙ e in
        ap (λ (o : Option ℕ). or_other o (if nat_eq l label then Some number else None)) here ∙ ap (λ (c : Bool). if c then Some number else None) met
    both l false e = ap (λ (c : Bool). or_other (number_of pairs l) (if c then Some number else None)) (nat_eq_equiv.symm l label ∙ e) ∙ none_stays (number_of pairs l)

-- ---- labels in the place of places

pub far_is : far ≡ 1048576
unfolding far
far_is = refl

pub near_to : (labels : List (ℕ × ℕ)) (to : ℕ) → to < 1048576 → to ≡ place_to labels to
near_to labels to less =
    let below : to < far = subst (λ (n : ℕ). to < n) (sym far_is) less in
    let test : nat_lt to far ≡ true = grind (arith, nat_tests, below) in
    sym (ap (λ (b : Bool). if b then to else option_map_or (λ (place : ℕ). place) (number_of labels (to - far)) to) test)

pub far_to : (labels : List (ℕ × ℕ)) (to : ℕ) (found : ℕ) → 1048576 ≤ to → found ≡ option_map_or (λ (place : ℕ). place) (number_of labels (to - 1048576)) to → found ≡ place_to labels to
far_to labels to found more e =
    let above : far ≤ to = subst (λ (n : ℕ). n ≤ to) (sym far_is) more in
    let test : nat_lt to far ≡ false = grind (arith, nat_tests, above) in
    e ∙ ap (λ (n : ℕ). option_map_or (λ (place : ℕ). place) (number_of labels (to - n)) to) (sym far_is)
    ∙ sym (ap (λ (b : Bool). if b then to else option_map_or (λ (place : ℕ). place) (number_of labels (to - far)) to) test)
