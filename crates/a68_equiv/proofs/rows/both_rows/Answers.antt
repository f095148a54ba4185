use Rattle.std.proofs.Common.{◌≡◌, ◌<◌, arith, length, refl, false}
use Rattle.std.proofs.lemmas.List.Elements.{All-weaker}
use Rattle.a68_modes.specs.declared.shape.Shape.{Shape}
use Rattle.a68_modes.specs.declared.shape.Shape.TheVariants.{Ref, Proc}
use Rattle.a68_equiv.specs.Unfolding.{passes_on}
use Rattle.a68_equiv.proofs.rows.both_rows.Goals as goal

passes_none : (shape : Shape) → passes_on false shape ≡ false
passes_none (Ref m) = refl
passes_none (Proc params m) = refl
passes_none _ = refl

pub numbers-requires : goal.numbers-requires
numbers-requires c = All-weaker (λ m. m < length c.args.modes.now) (λ m. m < 2147483648) (λ k g. let f = c.requires.few in omega arith) c.in_ok-parts.parts c.in_ok-parts.ensures.below

pub numbers-requires-2 : goal.numbers-requires-2
numbers-requires-2 c = All-weaker (λ m. m < length c.args.modes.now) (λ m. m < 2147483648) (λ k g. let f = c.requires.few in omega arith) c.in_ok-parts.parts c.in_ok-parts.ensures.below

pub parts-requires : goal.parts-requires
parts-requires c = record { start = c.requires.start; within = c.requires.within }

pub returns : goal.returns
returns c =
    let parts = c.in_ok-parts.ensures in
    record {
      kept = record { kind = c.is_union-among.ensures; items = c.in_ok-parts.parts; parts = parts.parts; below = parts.below; numbers = rw (passes_none c.args.shape.now) c.in_ok-kept.ensures };
      taken = record { kind = c.is_union-among.ensures; items = c.in_ok-parts.parts; parts = parts.parts; below = parts.below; numbers = rw (← c.goes_in.ensures) c.in_ok-taken.ensures };
    }
