-- The bytes that items stand for, found from the front.
use Rattle.std.proofs.Common.{◌≡◌, ℕ, ◌+◌, ◌-◌, ◌<◌, ◌≤◌, List, [], ◌∷◌, ◌++◌, length, drop, take, get_or, ap, sym, subst, ◌∙◌, refl, arith, append_assoc, Bool, true, false}
use Rattle.std.specs.Prelude.{nat_eq}
use Rattle.std.proofs.Math.Seq.{take-append_seam}
use Rattle.std.proofs.Math.ListN.{drop_of_length-le}
use Rattle.std.proofs.lemmas.List.{append-nil, length-append}
use Rattle.std.proofs.lemmas.Bool.{ne_eqb}
use Rattle.a68_base.proofs.Slices.{rest_at}
use Rattle.a68_denote.specs.Strings.{StandFor, nothing, byte, quote, Denotes}

-- what is left stands for these bytes, where its first byte may be the second of two quotes
abbrev pub Rest : Bool → List ℕ → List ℕ → Type 0
Rest false items more = StandFor items more
Rest true items more = (behind : List ℕ) × (items ≡ 34 ∷ behind) × StandFor behind more

-- the bytes so far, and what is left
abbrev pub SoFar : Bool → List ℕ → List ℕ → List ℕ → Type 0
SoFar second done left bytes = (more : List ℕ) × (done ++ more ≡ bytes) × Rest second left more

push_first : (done bytes more left : List ℕ) (b : ℕ) → StandFor (b ∷ left) more → done ++ more ≡ bytes → SoFar (nat_eq b 34) (done ++ b ∷ []) left bytes
push_first done bytes _ _ _ (byte {b} {items} {bytes = rest} fine one s) e = rw (ne_eqb b 34 one) (rest, append_assoc done (b ∷ []) rest ∙ e, s)
push_first done bytes _ _ _ (quote {items} {bytes = rest} s) e = (rest, append_assoc done (34 ∷ []) rest ∙ e, (items, refl, s))

pub first_of_two : (done bytes : List ℕ) (items : List ℕ) (i : ℕ) → i < length items → SoFar false done (drop i items) bytes
    → SoFar (nat_eq (get_or items i 0) 34) (done ++ get_or items i 0 ∷ []) (drop (i + 1) items) bytes
first_of_two done bytes items i within s = push_first done bytes s.0 _ _ (subst (λ (l : List ℕ). StandFor l s.0) (rest_at items i within) s.2) s.1

pub second_of_two : (done bytes : List ℕ) (items : List ℕ) (i : ℕ) → i < length items → SoFar true done (drop i items) bytes → SoFar false done (drop (i + 1) items) bytes
second_of_two done bytes items i within s =
    let e : drop (i + 1) items ≡ s.2.0 = let f = sym (rest_at items i within) ∙ s.2.1 in cc in
    (s.0, s.1, rw e s.2.2)

nothing_left : (second : Bool) (more : List ℕ) → Rest second [] more → more ≡ []
nothing_left false _ nothing = refl
nothing_left true more r = let e : ◌≡◌ {A = List ℕ} [] (34 ∷ r.0) = r.1 in cc

pub all_done : (second : Bool) (done bytes items : List ℕ) (i : ℕ) → length items ≤ i → SoFar second done (drop i items) bytes → done ≡ bytes
all_done second done bytes items i all s =
    let none : drop i items ≡ [] = drop_of_length-le items all in
    let last = nothing_left second s.0 (subst (λ (l : List ℕ). Rest second l s.0) none s.2) in
    sym (append-nil done) ∙ ap (λ l. done ++ l) (sym last) ∙ s.1

-- what stands between the quotes
pub inside : (text bytes : List ℕ) (d : Denotes text bytes) → take (length text - 1 - 1) (drop 1 text) ≡ d.items
inside text bytes d =
    let e = d.spelled in
    let n : length text - 1 - 1 ≡ length d.items = omega (arith, ap length e, length-append d.items (34 ∷ [])) in
    rw n (ap (λ l. take (length d.items) (drop 1 l)) e ∙ take-append_seam d.items (34 ∷ []))
