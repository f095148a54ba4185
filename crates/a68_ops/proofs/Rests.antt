-- MOD gives the one rest that is at least 0.
use Rattle.std.proofs.Common.{◌≡◌, ◌≢◌, ℕ, zero, suc, ◌<◌, ℤ, pos, negsuc, ◌+ℤ◌, ◌-ℤ◌, ◌*ℤ◌, int_div, int_rem, unsigned_abs, refl, sym, subst, arith}
use Rattle.std.proofs.Math.IntN.{suc_ℤ, pred_ℤ, suc_ℤ-*ℤ, pred_ℤ-*ℤ}
use Rattle.std.proofs.lemmas.Int.{ints, quot-rem, rem_below}
use Rattle.a68_ops.specs.Integers.{lifted, modulo}
use Rattle.a68_ops.specs.Laws.{IsRest}
use Rattle.a68_ops.proofs.Dividing.{taken_away}

lifted_above : (n : ℕ) (b : ℤ) → lifted (pos n) b ≡ pos n
lifted_above n b = grind arith

lifted_is_rest : (a b r : ℤ) → (int_div a b *ℤ b) +ℤ r ≡ a → unsigned_abs r < unsigned_abs b → IsRest a b (lifted r b)
lifted_is_rest a b (pos n) e h =
    rw (lifted_above n b) (record { quotient = int_div a b; taken = e; least = omega (arith, ints); below = omega (arith, ints) })
lifted_is_rest a (pos m) (negsuc n) e h =
    let p : pred_ℤ (int_div a (pos m)) *ℤ pos m ≡ (int_div a (pos m) *ℤ pos m) -ℤ pos m = pred_ℤ-*ℤ (int_div a (pos m)) (pos m) in
    record { quotient = pred_ℤ (int_div a (pos m)); taken = omega (arith, ints); least = omega (arith, ints); below = omega (arith, ints) }
lifted_is_rest a (negsuc m) (negsuc n) e h =
    let p : suc_ℤ (int_div a (negsuc m)) *ℤ negsuc m ≡ (int_div a (negsuc m) *ℤ negsuc m) +ℤ negsuc m = suc_ℤ-*ℤ (int_div a (negsuc m)) (negsuc m) in
    record { quotient = suc_ℤ (int_div a (negsuc m)); taken = omega (arith, ints); least = omega (arith, ints); below = omega (arith, ints) }

nonzero : (b : ℤ) → b ≢ pos 0 → 0 < unsigned_abs b
nonzero (pos zero) h = absurd (h refl)
nonzero (pos (suc n)) h = omega arith
nonzero (negsuc n) h = omega arith

pub modulo_is_rest : (a b : ℤ) → b ≢ pos 0 → IsRest a b (modulo a b)
modulo_is_rest a b h =
    let P : ℤ → Type 0 = λ r. IsRest a b (lifted r b) in
    subst P (sym (taken_away a b)) (lifted_is_rest a b (int_rem a b) (quot-rem a b) (rem_below a b (nonzero b h)))
