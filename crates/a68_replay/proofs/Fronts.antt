-- A front of a schedule is a schedule, so that no bytes are bad at two places.
use Rattle.std.proofs.Common.{◌≡◌, ◌<◌, ◌≤◌, ◌+◌, ◌-◌, ◌⊎◌, inl, inr, ℕ, zero, suc, min, List, [], ◌∷◌, ◌++◌, length, take, length-take, take-take, refl, sym, ap, subst, ◌∙◌, arith}
use Rattle.std.proofs.lemmas.Bool.{cases_lt, cases_order}
use Rattle.std.proofs.lemmas.List.{append-nil, take-append-le}
use Rattle.std.proofs.Math.Seq.{take-append-add}
use Rattle.std.proofs.lemmas.Str.Parse.{digits_value-take-le}
use Rattle.std.specs.Str.Parse.{digits_value, AllDigits}
use Rattle.a68_replay.specs.Schedules.{Ends, IsPick, Spell, nothing, between, number, IsSchedule, IsBad}

-- a front spells no more numbers
record IsFront (bytes : List ℕ) (count : ℕ) : Type 0 where
  pub numbers : List ℕ
  pub spell : Spell bytes numbers
  pub few : length numbers ≤ count

nothing_read : (count : ℕ) → IsFront [] count
nothing_read count = record { numbers = []; spell = nothing; few = omega arith }

take_none : (k : ℕ) → take {A = ℕ} k [] ≡ []
take_none zero = refl
take_none (suc k) = refl

ends_front : (k : ℕ) (rest : List ℕ) → Ends rest → Ends (take k rest)
ends_front zero rest e = tt
ends_front (suc k) [] e = tt
ends_front (suc k) (b ∷ bytes) e = e

digits_front : (k : ℕ) (digits : List ℕ) → AllDigits 10 digits → AllDigits 10 (take k digits)
digits_front zero digits all = tt
digits_front (suc k) [] all = tt
digits_front (suc k) (d ∷ digits) all = (all.0, digits_front k digits all.1)

-- fewer digits of a number are a number, or none
fewer_digits : (k : ℕ) (digits : List ℕ) (count : ℕ) → k < length digits → IsPick digits → IsFront (take k digits) (suc count)
fewer_digits zero digits count low p = nothing_read (suc count)
fewer_digits (suc k) digits count low p =
    let size : length (take (suc k) digits) ≡ min (suc k) (length digits) = length-take (suc k) digits in
    let less : digits_value 10 (take (suc k) digits) ≤ digits_value 10 digits = digits_value-take-le 10 digits (suc k) (omega arith) in
    let pick : IsPick (take (suc k) digits) = record { some = omega (arith, size); digits_alone = digits_front (suc k) digits p.digits_alone; small = omega (arith, less, p.small) } in
    record {
      numbers = digits_value 10 (take (suc k) digits) ∷ [];
      spell = subst (λ (l : List ℕ). Spell l (digits_value 10 (take (suc k) digits) ∷ [])) (append-nil (take (suc k) digits)) (number {rest = []} pick tt nothing);
      few = omega arith;
    }

front : (bytes numbers : List ℕ) → Spell bytes numbers → (k : ℕ) → IsFront (take k bytes) (length numbers)
front _ _ nothing k = subst (λ (l : List ℕ). IsFront l 0) (sym (take_none k)) (nothing_read 0)
front _ _ (between {numbers = numbers} is s) zero = nothing_read (length numbers)
front _ _ (between {bytes = bytes} {numbers = numbers} is s) (suc k) =
    let f = front bytes numbers s k in
    record { numbers = f.numbers; spell = between is f.spell; few = f.few }
front _ _ (number {digits = digits} {rest = rest} {numbers = numbers} p e s) k = go (front rest numbers s) (cases_lt k (length digits))
  where
    go : ((j : ℕ) → IsFront (take j rest) (length numbers)) → (k < length digits) ⊎ (length digits ≤ k) → IsFront (take k (digits ++ rest)) (suc (length numbers))
    go fronts (inl low) = subst (λ (l : List ℕ). IsFront l (suc (length numbers))) (sym (take-append-le k digits rest (omega arith))) (fewer_digits k digits (length numbers) low p)
    go fronts (inr high) =
        let more : ℕ = k - length digits in
        let all : length digits + more ≡ k = omega arith in
        let f = fronts more in
        let cut : take k (digits ++ rest) ≡ digits ++ take more rest = ap (λ n. take n (digits ++ rest)) (sym all) ∙ take-append-add digits rest more in
        subst (λ (l : List ℕ). IsFront l (suc (length numbers))) (sym cut)
        (record { numbers = digits_value 10 digits ∷ f.numbers; spell = number p (ends_front more rest e) f.spell; few = omega (arith, f.few) })

-- so does a schedule's
front_schedule : (bytes picks : List ℕ) (k : ℕ) → IsSchedule bytes picks → (numbers : List ℕ) × IsSchedule (take k bytes) numbers
front_schedule bytes picks k s =
    let f = front bytes picks s.spell k in
    let size : length (take k bytes) ≡ min k (length bytes) = length-take k bytes in
    (f.numbers, record { spell = f.spell; few = omega (arith, f.few, s.few); short = omega (arith, size, s.short) })

-- bytes are bad at one place
not_later : (bytes : List ℕ) (i j : ℕ) → i < j → IsBad bytes i → IsBad bytes j → ⊥
not_later bytes i j less a b =
    let f = front_schedule (take j bytes) b.before.0 (i + 1) b.before.1 in
    a.none f.0 (subst (λ (l : List ℕ). IsSchedule l f.0) (take-take (i + 1) j bytes (omega arith)) f.1)

pub bad_once : (bytes : List ℕ) (i j : ℕ) → IsBad bytes i → IsBad bytes j → i ≡ j
bad_once bytes i j a b = go (cases_order i j)
  where
    go : (i ≡ j) ⊎ ((i < j) ⊎ (j < i)) → i ≡ j
    go (inl same) = same
    go (inr (inl less)) = absurd (not_later bytes i j less a b)
    go (inr (inr more)) = absurd (not_later bytes j i more b a)

-- and no schedule is bad
pub bad_is_none : (bytes picks : List ℕ) (place : ℕ) → IsSchedule bytes picks → IsBad bytes place → ⊥
bad_is_none bytes picks place s b = let f = front_schedule bytes picks (place + 1) s in b.none f.0 f.1
