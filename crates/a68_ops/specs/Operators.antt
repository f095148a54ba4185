-- The operators that yield at once, by their rows in the table of operators.
use Rattle.std.specs.Prelude.{ℕ, None, Some, nat_eq, if◌then◌else◌, Bool, not, ◌||◌, Err}
use Rattle.std.specs.declared.option.Option.{Option}
use Rattle.a68_signs.specs.declared.operators.TheConstants as operators
use Rattle.a68_values.specs.declared.act.FaultKind.TheVariants as fault
use Rattle.a68_ops.specs.Yields.{PlainYield, truth}
use Rattle.a68_ops.specs.declared.operator.Dyadic.{Dyadic}
use Rattle.a68_ops.specs.declared.operator.Dyadic.TheVariants as dyadic
use Rattle.a68_ops.specs.declared.operator.Monadic.{Monadic}
use Rattle.a68_ops.specs.declared.operator.Monadic.TheVariants as monadic

-- OR to SHR
abbrev pub dyadic_of : (row : ℕ) → Option Dyadic
dyadic_of row =
    if nat_eq row operators.OR then Some dyadic.Or
    else (if nat_eq row operators.AND then Some dyadic.And
    else (if nat_eq row operators.EQ then Some dyadic.Equal
    else (if nat_eq row operators.NE then Some dyadic.NotEqual
    else (if nat_eq row operators.LT then Some dyadic.Less
    else (if nat_eq row operators.LE then Some dyadic.AtMost
    else (if nat_eq row operators.GE then Some dyadic.AtLeast
    else (if nat_eq row operators.GT then Some dyadic.Greater
    else (if nat_eq row operators.PLUS then Some dyadic.Plus
    else (if nat_eq row operators.MINUS then Some dyadic.Minus
    else (if nat_eq row operators.TIMES then Some dyadic.Times
    else (if nat_eq row operators.OVER then Some dyadic.Over
    else (if nat_eq row operators.MOD then Some dyadic.Mod
    else (if nat_eq row operators.ELEM then Some dyadic.Elem
    else (if nat_eq row operators.POWER then Some dyadic.Power
    else (if nat_eq row operators.SHL then Some dyadic.ShiftLeft
    else (if nat_eq row operators.SHR then Some dyadic.ShiftRight
    else None))))))))))))))))

-- monadic + to BIN, LENG and SHORTEN
abbrev pub monadic_of : (row : ℕ) → Option Monadic
monadic_of row =
    if nat_eq row operators.POSITIVE then Some monadic.Plus
    else (if nat_eq row operators.NEGATIVE then Some monadic.Minus
    else (if nat_eq row operators.NOT then Some monadic.Not
    else (if nat_eq row operators.ABS then Some monadic.Abs
    else (if nat_eq row operators.SIGN then Some monadic.Sign
    else (if nat_eq row operators.ODD then Some monadic.Odd
    else (if nat_eq row operators.REPR then Some monadic.Repr
    else (if nat_eq row operators.BIN then Some monadic.Bin
    else (if nat_eq row operators.LENG then Some monadic.Leng
    else (if nat_eq row operators.SHORTEN then Some monadic.Shorten
    else None)))))))))

-- what a comparison tells of two operands, by whether the left is less than the right and whether they are equal
abbrev pub compared : Dyadic → (less equal : Bool) → PlainYield
compared dyadic.Equal less equal = truth equal
compared dyadic.NotEqual less equal = truth (not equal)
compared dyadic.Less less equal = truth less
compared dyadic.AtMost less equal = truth (less || equal)
compared dyadic.AtLeast less equal = truth (not less)
compared dyadic.Greater less equal = truth (not (less || equal))
compared _ less equal = Err fault.Kind
