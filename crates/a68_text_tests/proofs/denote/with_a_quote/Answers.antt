use Rattle.std.proofs.Common.{[], ◌∷◌, refl, arith}
use Rattle.a68_denote.specs.Strings.{nothing, byte, quote}
use Rattle.a68_text_tests.proofs.denote.with_a_quote.Goals as goal

pub string_of-requires : goal.string_of-requires
string_of-requires c _ = (
  97 ∷ 34 ∷ 98 ∷ [],
  record {
    items = 97 ∷ 34 ∷ 34 ∷ 98 ∷ [];
    spelled = refl;
    stand_for = byte (λ e. omega (arith, e)) (λ e. omega (arith, e)) (quote (byte (λ e. omega (arith, e)) (λ e. omega (arith, e)) nothing));
  },
)
