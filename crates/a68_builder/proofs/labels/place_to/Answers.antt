use Rattle.std.proofs.Common.{ℕ, arith, ap, sym, ◌∙◌}
use Rattle.std.specs.Option.{option_map_or}
use Rattle.std.specs.declared.option.Option.{Option}
use Rattle.a68_builder.proofs.Knowing.{far_to, near_to}
use Rattle.a68_builder.proofs.labels.place_to.Goals as goal

pub returns-then-to-lt-MOST_INSTRUCTIONS : goal.returns-then-to-lt-MOST_INSTRUCTIONS
returns-then-to-lt-MOST_INSTRUCTIONS c = near_to c.args.labels.now c.args.to (omega arith)

pub returns-in-Some : goal.returns-in-Some
returns-in-Some c =
    far_to c.args.labels.now c.args.to c.in-Some.place (omega arith) (ap (λ (o : Option ℕ). option_map_or (λ (place : ℕ). place) o c.args.to) (sym c.in-Some.is ∙ c.number.ensures))

pub returns-in-None : goal.returns-in-None
returns-in-None c =
    far_to c.args.labels.now c.args.to c.args.to (omega arith) (ap (λ (o : Option ℕ). option_map_or (λ (place : ℕ). place) o c.args.to) (sym c.in-None.is ∙ c.number.ensures))
