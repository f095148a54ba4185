-- Operators on truth values (Report, 10.2.3.2).
use Rattle.std.specs.Prelude.{Bool, not, ◌&&◌, ◌||◌, Err}
use Rattle.a68_values.specs.declared.act.FaultKind.TheVariants as fault
use Rattle.a68_ops.specs.Yields.{PlainYield, truth}
use Rattle.a68_ops.specs.declared.operator.Dyadic.{Dyadic}
use Rattle.a68_ops.specs.declared.operator.Dyadic.TheVariants as dyadic

abbrev pub is_same_truth : (a b : Bool) → Bool
is_same_truth a b = (a && b) || (not a && not b)

abbrev pub on_truths : Dyadic → (a b : Bool) → PlainYield
on_truths dyadic.Or a b = truth (a || b)
on_truths dyadic.And a b = truth (a && b)
on_truths dyadic.Equal a b = truth (is_same_truth a b)
on_truths dyadic.NotEqual a b = truth (not (is_same_truth a b))
on_truths _ a b = Err fault.Kind
