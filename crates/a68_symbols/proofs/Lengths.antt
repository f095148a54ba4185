-- Marks have at most four bytes.
use Rattle.std.proofs.Common.{◌≡◌, ℕ, ◌≤◌, false, List, [], ◌∷◌, length, take, refl, arith}
use Rattle.std.proofs.lemmas.List.{length-take-le}
use Rattle.a68_symbols.specs.Marks.{is_mark}

long_mark : (s : List ℕ) → 5 ≤ length s → is_mark s ≡ false
long_mark [] h = absurd (omega arith)
long_mark (a ∷ []) h = absurd (omega arith)
long_mark (a ∷ b ∷ []) h = absurd (omega arith)
long_mark (a ∷ b ∷ c ∷ []) h = absurd (omega arith)
long_mark (a ∷ b ∷ c ∷ d ∷ []) h = absurd (omega arith)
long_mark (a ∷ b ∷ c ∷ d ∷ e ∷ more) h = refl

pub too_long : (text : List ℕ) (m : ℕ) → 5 ≤ m → m ≤ length text → is_mark (take m text) ≡ false
too_long text m h le = long_mark (take m text) (omega (arith, length-take-le m text le))
