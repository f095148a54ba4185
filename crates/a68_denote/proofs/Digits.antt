-- The value of digits, found from the front.
use Rattle.std.proofs.Common.{◌≡◌, ℕ, zero, suc, ◌+◌, ◌*◌, ◌^◌, ◌<◌, ◌≤◌, List, [], ◌∷◌, length, drop, get_or, ap, sym, ◌∙◌, refl, arith, Bool, true, false, ◌&&◌, if◌then◌else◌}
use Rattle.std.specs.Prelude.{nat_lt, None, Some}
use Rattle.std.proofs.Math.Nat.{pow-zero, pow-succ', mul-le-mul_left}
use Rattle.std.proofs.Math.ListN.{drop_of_length-le}
use Rattle.std.proofs.lemmas.Bool.{le-ltb, lt-ltb}
use Rattle.a68_base.proofs.Slices.{rest_at}
use Rattle.a68_denote.specs.Numbers.{digit_of, are_digits, value_of, number_below}

-- the value of the digits that are left, behind digits of that value
abbrev pub value_from : ℕ → ℕ → List ℕ → ℕ
value_from radix value rest = value * radix ^ length rest + value_of radix rest

joined : (value radix power digit rest : ℕ) → value * (radix * power) + (digit * power + rest) ≡ (value * radix + digit) * power + rest
joined value radix power digit rest = omega arith

pub one_more : (radix value b : ℕ) (rest : List ℕ) → value_from radix value (b ∷ rest) ≡ value_from radix (value * radix + digit_of b) rest
one_more radix value b rest =
    ap (λ p. value * p + (digit_of b * radix ^ length rest + value_of radix rest)) (pow-succ' radix (length rest))
    ∙ joined value radix (radix ^ length rest) (digit_of b) (value_of radix rest)

some_product : (a b : ℕ) → 0 < a → 1 ≤ b → 1 ≤ a * b
some_product a b h i = let e = mul-le-mul_left {m = 1} {n = b} a i in omega arith

pub power_some : (radix n : ℕ) → 0 < radix → 1 ≤ radix ^ n
power_some radix zero h = omega (arith, pow-zero radix)
power_some radix (suc n) h = rw (pow-succ' radix n) (some_product radix (radix ^ n) h (power_some radix n h))

pub grows : (radix value : ℕ) (rest : List ℕ) → 0 < radix → value ≤ value_from radix value rest
grows radix value rest h = let e = mul-le-mul_left {m = 1} {n = radix ^ length rest} value (power_some radix (length rest) h) in omega arith

not_below : (a b : Bool) (value bound : ℕ) → bound ≤ value → (if a && b && nat_lt value bound then Some value else None) ≡ None
not_below true true value bound h = rw (le-ltb value bound h) refl
not_below true false value bound h = refl
not_below false true value bound h = refl
not_below false false value bound h = refl

-- the number is too great where its value with one digit more is
pub too_great : (bound radix value i : ℕ) (text : List ℕ) → 0 < radix → i < length text → value_from radix value (drop i text) ≡ value_of radix text
    → bound ≤ value * radix + digit_of (get_or text i 0) → number_below bound radix text ≡ None
too_great bound radix value i text h within e more =
    let split = ap (value_from radix value) (rest_at text i within) ∙ one_more radix value (get_or text i 0) (drop (i + 1) text) in
    let great = grows radix (value * radix + digit_of (get_or text i 0)) (drop (i + 1) text) h in
    not_below (nat_lt 0 (length text)) (are_digits radix text) (value_of radix text) bound (omega (arith, e, split, great, more))

pub value_goes_on : (radix value i : ℕ) (text : List ℕ) → i < length text → value_from radix value (drop i text) ≡ value_of radix text
    → value_from radix (value * radix + digit_of (get_or text i 0)) (drop (i + 1) text) ≡ value_of radix text
value_goes_on radix value i text within e =
    sym (ap (value_from radix value) (rest_at text i within) ∙ one_more radix value (get_or text i 0) (drop (i + 1) text)) ∙ e

end_value : (radix value : ℕ) → value_from radix value [] ≡ value
end_value radix value = rw (pow-zero radix) (omega arith)

pub found : (bound radix value i : ℕ) (text : List ℕ) → 0 < length text → length text ≤ i → value < bound
    → value_from radix value (drop i text) ≡ value_of radix text → are_digits radix (drop i text) ≡ are_digits radix text → Some value ≡ number_below bound radix text
found bound radix value i text some all small e digits =
    let none : drop i text ≡ [] = drop_of_length-le text all in
    let are : are_digits radix text ≡ true = sym digits ∙ ap (are_digits radix) none in
    let is : value_of radix text ≡ value = sym e ∙ ap (value_from radix value) none ∙ end_value radix value in
    rw (are, lt-ltb 0 (length text) some, is, lt-ltb value bound small) refl

and_same : (b : Bool) (rest all : Bool) → b ≡ true → (b && rest) ≡ all → rest ≡ all
and_same true rest all e f = f
and_same false rest all e f = cc

pub digits_go_on : (radix i : ℕ) (text : List ℕ) → i < length text → digit_of (get_or text i 0) < radix → are_digits radix (drop i text) ≡ are_digits radix text
    → are_digits radix (drop (i + 1) text) ≡ are_digits radix text
digits_go_on radix i text within is e =
    and_same (nat_lt (digit_of (get_or text i 0)) radix) (are_digits radix (drop (i + 1) text)) (are_digits radix text) (lt-ltb (digit_of (get_or text i 0)) radix is)
    (ap (are_digits radix) (sym (rest_at text i within)) ∙ e)
