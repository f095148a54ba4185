-- What an operator yields, or the fault that it meets.
use Rattle.std.specs.Prelude.{◌≡◌, ℕ, ℤ, pos, negsuc, ◌+◌, ◌^◌, Bool, true, false, ◌||◌, List, [], ◌∷◌, length, map, None, Some, Ok, Err, IfOk, IfErr, IsTrue, nat_lt, if◌then◌else◌}
use Rattle.std.specs.declared.option.Option.{Option}
use Rattle.std.specs.declared.result.Result.{Result}
use Rattle.a68_values.specs.Content.{Content, Contents, plain, structure, row, united, no_parts, ◌and_part◌, contents_of}
pub use Rattle.a68_values.specs.Content.{is_row}
use Rattle.a68_values.specs.Longs.{long_of}
use Rattle.a68_values.specs.declared.act.FaultKind.{FaultKind}
use Rattle.a68_values.specs.declared.act.FaultKind.TheVariants as fault
use Rattle.a68_values.specs.declared.plain.Plain.{Plain}
use Rattle.a68_values.specs.declared.plain.Plain.TheVariants as value
use Rattle.a68_ops.specs.declared.stop.OpStop.{OpStop}
use Rattle.a68_ops.specs.declared.stop.OpStop.TheVariants.{Fault, NoMemory}

-- the value that an operator yields, or the fault that it meets
abbrev pub Yield : Type 0
Yield = Result Content FaultKind

-- the same of an operator whose yield is no row
abbrev pub PlainYield : Type 0
PlainYield = Result Plain FaultKind

abbrev pub yield_of : PlainYield → Yield
yield_of (Ok p) = Ok (plain p)
yield_of (Err kind) = Err kind

-- A call's result is what is told: the value, or the fault. Memory can run out only where a value is told that takes some.
abbrev pub IsAsTold : {A : Type 0} → (takes_memory : A → Bool) → Result A OpStop → Result A FaultKind → Type 0
IsAsTold takes_memory (Ok v) told = told ≡ Ok v
IsAsTold takes_memory (Err (Fault kind)) told = told ≡ Err kind
IsAsTold takes_memory (Err NoMemory) told = IfErr told (λ kind. ⊥) × IfOk told (λ v. IsTrue (takes_memory v))

-- a value is unset, or a part of it is (own)
abbrev mutual
  pub is_unset : Content → Bool
  is_unset (plain value.Unset) = true
  is_unset (structure parts) = some_unset parts
  is_unset (row bounds parts) = some_unset parts
  is_unset (united mode inner) = is_unset inner
  is_unset v = false

  pub some_unset : Contents → Bool
  some_unset no_parts = false
  some_unset (part and_part parts) = is_unset part || some_unset parts

-- INT is what 63 bits and a sign hold (Report, 2.1.3.1; the range is own)
abbrev pub is_int : ℤ → Bool
is_int (pos n) = nat_lt n (2 ^ 63)
is_int (negsuc n) = nat_lt (n + 1) (2 ^ 63)

-- an integer, where it is an INT
abbrev pub int : ℤ → PlainYield
int z = if is_int z then Ok (value.Int z) else Err fault.Overflow

-- LONG INT is what 127 bits and a sign hold (2.1.3.1; the range is own)
abbrev pub is_long : ℤ → Bool
is_long (pos n) = nat_lt n (2 ^ 127)
is_long (negsuc n) = nat_lt (n + 1) (2 ^ 127)

-- an integer, where it is a LONG INT
abbrev pub long : ℤ → PlainYield
long z = if is_long z then Ok (value.Long (long_of z)) else Err fault.Overflow

-- an INT as a value, or the fault where there is none
abbrev pub int_or_overflow : Option ℤ → PlainYield
int_or_overflow None = Err fault.Overflow
int_or_overflow (Some z) = Ok (value.Int z)

abbrev pub truth : Bool → PlainYield
truth b = Ok (value.Bool b)

abbrev pub bits : ℕ → PlainYield
bits b = Ok (value.Bits b)

-- as many parts as a row may have that an operator yields (own)
abbrev pub most_parts : ℕ
most_parts = 4194304

-- a row of one dimension of these items, with bounds from 1
abbrev pub row_from_1 : List Content → Content
row_from_1 items = row ((pos 1, pos (length items)) ∷ []) (contents_of items)

abbrev pub char_values : List ℕ → List Content
char_values text = map (λ c. plain (value.Char c)) text

-- a text as a value
abbrev pub text_row : List ℕ → Content
text_row text = row_from_1 (char_values text)

abbrev pub text : List ℕ → Yield
text items = if nat_lt most_parts (length items) then Err fault.Cells else Ok (text_row items)
