-- The rest of a division that is not negative.
use Rattle.std.proofs.Common.{◌≡◌, zero, suc, ◌<◌, ℤ, pos, negsuc, ◌+ℤ◌, ◌-ℤ◌, ◌*ℤ◌, int_div, int_rem, unsigned_abs, ap, sym, ◌∙◌, arith}
use Rattle.std.proofs.Math.IntN.{*ℤ_comm}
use Rattle.std.proofs.lemmas.Int.{ints, quot-rem}
use Rattle.a68_ops.specs.Integers.{divided, lifted, modulo}
use Rattle.a68_ops.specs.Yields.{PlainYield}

pub taken_away : (a b : ℤ) → a -ℤ (b *ℤ int_div a b) ≡ int_rem a b
taken_away a b =
    let e : b *ℤ int_div a b ≡ int_div a b *ℤ b = *ℤ_comm b (int_div a b) in
    let q : int_div a b *ℤ b +ℤ int_rem a b ≡ a = quot-rem a b in
    omega (arith, ints)

divided_by : (yield : ℤ → PlainYield) (b z : ℤ) → 0 < unsigned_abs b → divided yield b z ≡ yield z
divided_by yield (pos zero) z h = absurd (omega arith)
divided_by yield (pos (suc n)) z h = grind arith
divided_by yield (negsuc n) z h = grind arith

pub rest_by : (yield : ℤ → PlainYield) (a b : ℤ) → 0 < unsigned_abs b → yield (lifted (int_rem a b) b) ≡ divided yield b (modulo a b)
rest_by yield a b h = ap (λ rest. yield (lifted rest b)) (sym (taken_away a b)) ∙ sym (divided_by yield b (modulo a b) h)
