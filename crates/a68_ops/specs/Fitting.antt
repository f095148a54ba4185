-- Inner: the headline does not rest on this file.
-- The table of operators and what they yield fit together: for set values of the modes that an operator takes, a row that
-- yields at once meets neither Unset nor Kind, and what it yields has the mode that the table tells.
use Rattle.std.specs.Prelude.{ℕ, Bool, false, ◌&&◌, ◌||◌, [], ◌∷◌, Ok, Err, IsTrue, nat_eq, nat_le}
use Rattle.a68_modes.specs.declared.standard.TheConstants as standard
use Rattle.a68_signs.specs.declared.operators.TheConstants as operators
use Rattle.a68_values.specs.Content.{Content, void, plain, row as row_value}
use Rattle.a68_values.specs.Longs.{number_of}
use Rattle.a68_values.specs.declared.act.FaultKind.TheVariants as fault
use Rattle.a68_values.specs.declared.plain.Plain.TheVariants as value
use Rattle.a68_ops.specs.Applied.{applied}
use Rattle.a68_ops.specs.Texts.{are_chars}
use Rattle.a68_ops.specs.Yields.{Yield, is_int, is_long}
use Rattle.a68_signs.specs.declared.signs.Operator.{Operator}

-- a value of a standard mode that is set in all its parts; VOID stands for none
abbrev pub has_mode : (mode : ℕ) → Content → Bool
has_mode mode void = nat_eq mode standard.VOID
has_mode mode (plain (value.Int n)) = nat_eq mode standard.INT && is_int n
has_mode mode (plain (value.Long l)) = nat_eq mode standard.LONG_INT && is_long (number_of l)
has_mode mode (plain (value.Bool b)) = nat_eq mode standard.BOOL
has_mode mode (plain (value.Char c)) = nat_eq mode standard.CHAR
has_mode mode (plain (value.Bits b)) = nat_eq mode standard.BITS
has_mode mode (row_value (b ∷ []) parts) = nat_eq mode standard.ROW_OF_CHAR && are_chars parts
has_mode mode _ = false

-- a value of the mode, or a fault of the operator's own
abbrev pub YieldIsOf : (mode : ℕ) → Yield → Type 0
YieldIsOf mode (Ok v) = IsTrue (has_mode mode v)
YieldIsOf mode (Err fault.Unset) = ⊥
YieldIsOf mode (Err fault.Kind) = ⊥
YieldIsOf mode (Err _) = Unit {0}

-- the rows that yield at once
abbrev pub is_silent : (row : ℕ) → Bool
is_silent row = (nat_le operators.OR row && nat_le row operators.SHR) || (nat_le operators.POSITIVE row && nat_le row operators.BIN)
    || (nat_le operators.LENG row && nat_le row operators.SHORTEN)

-- what an operator of such a row does with values of the modes of its operands
abbrev pub IsFitting : Operator → Type 0
IsFitting o = IsTrue (is_silent o.row) → (left right : Content)
    → IsTrue (has_mode o.left left) → IsTrue (has_mode o.right right) → YieldIsOf o.result (applied o.row left right)
