-- Moves by 64 places and more.
use Rattle.std.proofs.Common.{◌≡◌, ℕ, ◌+◌, ◌-◌, ◌*◌, ◌/◌, ◌%◌, ◌^◌, ◌<◌, ◌≤◌, min, nat_lt, cond, sym, ap, ◌∙◌, ⊎_elim, arith}
use Rattle.std.proofs.Math.Nat.{mul-mod_left, mul_assoc, div-eq_of_lt}
use Rattle.std.proofs.Math.Pow.{pow_mono}
use Rattle.std.proofs.lemmas.Bool.{cases_lt, cond_below, cond_above}
use Rattle.std.proofs.lemmas.Nat.{pow-add}
use Rattle.a68_ops.specs.Bits.{moved_left, moved_right}

all_leave : (b n : ℕ) → 64 ≤ n → moved_left b n ≡ 0
all_leave b n h =
    let apart : n - 64 + 64 ≡ n = omega arith in
    let e : b * 2 ^ n ≡ b * 2 ^ (n - 64) * 2 ^ 64 = ap (λ k. b * 2 ^ k) (sym apart) ∙ ap (λ k. b * k) (pow-add 2 (n - 64) 64) ∙ sym (mul_assoc b (2 ^ (n - 64)) (2 ^ 64)) in
    ap (λ k. k % 2 ^ 64) e ∙ mul-mod_left (b * 2 ^ (n - 64)) (2 ^ 64)

pub left_by : (b n m : ℕ) → m ≡ min n 64 → cond (nat_lt m 64) ((b * 2 ^ m) % 2 ^ 64) 0 ≡ moved_left b n
left_by b n m e = ⊎_elim
    (λ h. let same : m ≡ n = omega arith in sym (cond_below m 64 (moved_left b m) 0 (omega arith)) ∙ ap (λ k. moved_left b k) same)
    (λ h. sym (cond_above m 64 ((b * 2 ^ m) % 2 ^ 64) 0 (moved_left b n) (omega arith) (all_leave b n h)))
    (cases_lt n 64)

none_left : (b n : ℕ) → b < 2 ^ 64 → 64 ≤ n → moved_right b n ≡ 0
none_left b n small h = div-eq_of_lt (omega (arith, pow_mono {i = 64} {j = n} h))

pub right_by : (b n m : ℕ) → b < 2 ^ 64 → m ≡ min n 64 → cond (nat_lt m 64) (b / 2 ^ m) 0 ≡ moved_right b n
right_by b n m small e = ⊎_elim
    (λ h. let same : m ≡ n = omega arith in sym (cond_below m 64 (moved_right b m) 0 (omega arith)) ∙ ap (λ k. moved_right b k) same)
    (λ h. sym (cond_above m 64 (b / 2 ^ m) 0 (moved_right b n) (omega arith) (none_left b n small h)))
    (cases_lt n 64)
