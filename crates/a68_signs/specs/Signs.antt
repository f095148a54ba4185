-- The table of the signs of the standard environ and their operators (Report, 10.2.3; the numbers of the rows and their
-- order are own).
use Rattle.std.specs.Prelude.{ℕ, zero, suc, Bool, ◌||◌, List, [], ◌∷◌, codes, Some, None, if◌then◌else◌}
use Rattle.std.specs.Option.{is_some, option_map, option_map_or}
use Rattle.std.specs.declared.option.Option.{Option}
use Rattle.a68_base.specs.Tables.{is_listed}
use Rattle.a68_modes.specs.declared.standard.TheConstants as m
use Rattle.a68_signs.specs.declared.operators.TheConstants as o
use Rattle.a68_signs.specs.declared.signs.Operator.{Operator}

-- Signs that mean the same, their priority, and the operators that they have, by the modes of their operands. Of monadic
-- signs the priority is 10.
pub record SignGroup : Type 0 where
  pub signs : List (List ℕ)
  pub priority : ℕ
  pub operators : List Operator

-- The operator of a row that takes these two modes and yields the third. A monadic operator has VOID on the left; LWB and
-- UPB have VOID on the right, which there stands for every row.
abbrev pub op : (row left right result : ℕ) → Operator
op row left right result = record { row = row; left = left; right = right; result = result }

abbrev pub entry : (signs : List (List ℕ)) (priority : ℕ) (operators : List Operator) → SignGroup
entry signs priority operators = record { signs = signs; priority = priority; operators = operators }

-- Signs between two operands (Report, 10.2.3.0 for the priorities, 10.2.3.1 to 10.2.3.11 for the operators). `[] CHAR` and
-- CHAR stand in the place of the Report's STRING. SHL and SHR have the names of the Report; `%*:=` is MODAB.
abbrev pub dyadic_entries : List SignGroup
dyadic_entries =
    entry (codes "+:=" ∷ codes "PLUSAB" ∷ []) 1
    (op o.PLUSAB m.REF_INT m.INT m.REF_INT ∷ op o.PLUSAB m.REF_STRING m.ROW_OF_CHAR m.REF_STRING ∷
    op o.PLUSAB m.REF_STRING m.CHAR m.REF_STRING ∷ op o.PLUSAB m.REF_LONG_INT m.LONG_INT m.REF_LONG_INT ∷ []) ∷
    entry (codes "-:=" ∷ codes "MINUSAB" ∷ []) 1 (op o.MINUSAB m.REF_INT m.INT m.REF_INT ∷ op o.MINUSAB m.REF_LONG_INT m.LONG_INT m.REF_LONG_INT ∷ []) ∷
    entry (codes "*:=" ∷ codes "TIMESAB" ∷ []) 1
    (op o.TIMESAB m.REF_INT m.INT m.REF_INT ∷ op o.TIMESAB m.REF_STRING m.INT m.REF_STRING ∷ op o.TIMESAB m.REF_LONG_INT m.LONG_INT m.REF_LONG_INT ∷ []) ∷
    entry (codes "%:=" ∷ codes "OVERAB" ∷ []) 1 (op o.OVERAB m.REF_INT m.INT m.REF_INT ∷ op o.OVERAB m.REF_LONG_INT m.LONG_INT m.REF_LONG_INT ∷ []) ∷
    entry (codes "%*:=" ∷ codes "MODAB" ∷ []) 1 (op o.MODAB m.REF_INT m.INT m.REF_INT ∷ op o.MODAB m.REF_LONG_INT m.LONG_INT m.REF_LONG_INT ∷ []) ∷
    entry (codes "+=:" ∷ codes "PLUSTO" ∷ []) 1
    (op o.PLUSTO m.ROW_OF_CHAR m.REF_STRING m.REF_STRING ∷ op o.PLUSTO m.CHAR m.REF_STRING m.REF_STRING ∷ []) ∷
    entry (codes "OR" ∷ []) 2 (op o.OR m.BOOL m.BOOL m.BOOL ∷ op o.OR m.BITS m.BITS m.BITS ∷ []) ∷
    entry (codes "AND" ∷ codes "&" ∷ []) 3 (op o.AND m.BOOL m.BOOL m.BOOL ∷ op o.AND m.BITS m.BITS m.BITS ∷ []) ∷
    entry (codes "=" ∷ codes "EQ" ∷ []) 4
    (op o.EQ m.INT m.INT m.BOOL ∷ op o.EQ m.BOOL m.BOOL m.BOOL ∷ op o.EQ m.CHAR m.CHAR m.BOOL ∷
    op o.EQ m.BITS m.BITS m.BOOL ∷ op o.EQ m.ROW_OF_CHAR m.ROW_OF_CHAR m.BOOL ∷
    op o.EQ m.ROW_OF_CHAR m.CHAR m.BOOL ∷ op o.EQ m.CHAR m.ROW_OF_CHAR m.BOOL ∷ op o.EQ m.LONG_INT m.LONG_INT m.BOOL ∷ []) ∷
    entry (codes "/=" ∷ codes "NE" ∷ []) 4
    (op o.NE m.INT m.INT m.BOOL ∷ op o.NE m.BOOL m.BOOL m.BOOL ∷ op o.NE m.CHAR m.CHAR m.BOOL ∷
    op o.NE m.BITS m.BITS m.BOOL ∷ op o.NE m.ROW_OF_CHAR m.ROW_OF_CHAR m.BOOL ∷
    op o.NE m.ROW_OF_CHAR m.CHAR m.BOOL ∷ op o.NE m.CHAR m.ROW_OF_CHAR m.BOOL ∷ op o.NE m.LONG_INT m.LONG_INT m.BOOL ∷ []) ∷
    entry (codes "<" ∷ codes "LT" ∷ []) 5
    (op o.LT m.INT m.INT m.BOOL ∷ op o.LT m.ROW_OF_CHAR m.ROW_OF_CHAR m.BOOL ∷
    op o.LT m.ROW_OF_CHAR m.CHAR m.BOOL ∷ op o.LT m.CHAR m.ROW_OF_CHAR m.BOOL ∷
    op o.LT m.CHAR m.CHAR m.BOOL ∷ op o.LT m.LONG_INT m.LONG_INT m.BOOL ∷ []) ∷
    entry (codes "<=" ∷ codes "LE" ∷ []) 5
    (op o.LE m.INT m.INT m.BOOL ∷ op o.LE m.ROW_OF_CHAR m.ROW_OF_CHAR m.BOOL ∷
    op o.LE m.ROW_OF_CHAR m.CHAR m.BOOL ∷ op o.LE m.CHAR m.ROW_OF_CHAR m.BOOL ∷ op o.LE m.CHAR m.CHAR m.BOOL ∷
    op o.LE m.BITS m.BITS m.BOOL ∷ op o.LE m.LONG_INT m.LONG_INT m.BOOL ∷ []) ∷
    entry (codes ">=" ∷ codes "GE" ∷ []) 5
    (op o.GE m.INT m.INT m.BOOL ∷ op o.GE m.ROW_OF_CHAR m.ROW_OF_CHAR m.BOOL ∷
    op o.GE m.ROW_OF_CHAR m.CHAR m.BOOL ∷ op o.GE m.CHAR m.ROW_OF_CHAR m.BOOL ∷ op o.GE m.CHAR m.CHAR m.BOOL ∷
    op o.GE m.BITS m.BITS m.BOOL ∷ op o.GE m.LONG_INT m.LONG_INT m.BOOL ∷ []) ∷
    entry (codes ">" ∷ codes "GT" ∷ []) 5
    (op o.GT m.INT m.INT m.BOOL ∷ op o.GT m.ROW_OF_CHAR m.ROW_OF_CHAR m.BOOL ∷
    op o.GT m.ROW_OF_CHAR m.CHAR m.BOOL ∷ op o.GT m.CHAR m.ROW_OF_CHAR m.BOOL ∷
    op o.GT m.CHAR m.CHAR m.BOOL ∷ op o.GT m.LONG_INT m.LONG_INT m.BOOL ∷ []) ∷
    entry (codes "+" ∷ []) 6
    (op o.PLUS m.INT m.INT m.INT ∷ op o.PLUS m.ROW_OF_CHAR m.ROW_OF_CHAR m.ROW_OF_CHAR ∷
    op o.PLUS m.ROW_OF_CHAR m.CHAR m.ROW_OF_CHAR ∷ op o.PLUS m.CHAR m.ROW_OF_CHAR m.ROW_OF_CHAR ∷
    op o.PLUS m.CHAR m.CHAR m.ROW_OF_CHAR ∷ op o.PLUS m.LONG_INT m.LONG_INT m.LONG_INT ∷ []) ∷
    entry (codes "-" ∷ []) 6 (op o.MINUS m.INT m.INT m.INT ∷ op o.MINUS m.LONG_INT m.LONG_INT m.LONG_INT ∷ []) ∷
    entry (codes "*" ∷ []) 7
    (op o.TIMES m.INT m.INT m.INT ∷ op o.TIMES m.ROW_OF_CHAR m.INT m.ROW_OF_CHAR ∷
    op o.TIMES m.CHAR m.INT m.ROW_OF_CHAR ∷ op o.TIMES m.INT m.ROW_OF_CHAR m.ROW_OF_CHAR ∷
    op o.TIMES m.INT m.CHAR m.ROW_OF_CHAR ∷ op o.TIMES m.LONG_INT m.LONG_INT m.LONG_INT ∷ []) ∷
    entry (codes "OVER" ∷ codes "%" ∷ []) 7 (op o.OVER m.INT m.INT m.INT ∷ op o.OVER m.LONG_INT m.LONG_INT m.LONG_INT ∷ []) ∷
    entry (codes "MOD" ∷ codes "%*" ∷ []) 7 (op o.MOD m.INT m.INT m.INT ∷ op o.MOD m.LONG_INT m.LONG_INT m.LONG_INT ∷ []) ∷
    entry (codes "ELEM" ∷ []) 7 (op o.ELEM m.INT m.BITS m.BOOL ∷ []) ∷
    entry (codes "**" ∷ []) 8 (op o.POWER m.INT m.INT m.INT ∷ op o.POWER m.LONG_INT m.INT m.LONG_INT ∷ []) ∷
    entry (codes "SHL" ∷ []) 8 (op o.SHL m.BITS m.INT m.BITS ∷ []) ∷
    entry (codes "SHR" ∷ []) 8 (op o.SHR m.BITS m.INT m.BITS ∷ []) ∷
    entry (codes "LWB" ∷ []) 8 (op o.LWB_OF m.INT m.VOID m.INT ∷ []) ∷
    entry (codes "UPB" ∷ []) 8 (op o.UPB_OF m.INT m.VOID m.INT ∷ []) ∷
    []

-- Signs before one operand (Report, 10.2.1, 10.2.3.1 to 10.2.3.8 and 10.2.4).
abbrev pub monadic_entries : List SignGroup
monadic_entries =
    entry (codes "+" ∷ []) 10 (op o.POSITIVE m.VOID m.INT m.INT ∷ op o.POSITIVE m.VOID m.LONG_INT m.LONG_INT ∷ []) ∷
    entry (codes "-" ∷ []) 10 (op o.NEGATIVE m.VOID m.INT m.INT ∷ op o.NEGATIVE m.VOID m.LONG_INT m.LONG_INT ∷ []) ∷
    entry (codes "NOT" ∷ []) 10 (op o.NOT m.VOID m.BOOL m.BOOL ∷ op o.NOT m.VOID m.BITS m.BITS ∷ []) ∷
    entry (codes "ABS" ∷ []) 10
    (op o.ABS m.VOID m.INT m.INT ∷ op o.ABS m.VOID m.BOOL m.INT ∷ op o.ABS m.VOID m.CHAR m.INT ∷
    op o.ABS m.VOID m.BITS m.INT ∷ op o.ABS m.VOID m.LONG_INT m.LONG_INT ∷ []) ∷
    entry (codes "SIGN" ∷ []) 10 (op o.SIGN m.VOID m.INT m.INT ∷ op o.SIGN m.VOID m.LONG_INT m.INT ∷ []) ∷
    entry (codes "ODD" ∷ []) 10 (op o.ODD m.VOID m.INT m.BOOL ∷ op o.ODD m.VOID m.LONG_INT m.BOOL ∷ []) ∷
    entry (codes "REPR" ∷ []) 10 (op o.REPR m.VOID m.INT m.CHAR ∷ []) ∷
    entry (codes "BIN" ∷ []) 10 (op o.BIN m.VOID m.INT m.BITS ∷ []) ∷
    entry (codes "LEVEL" ∷ []) 10 (op o.LEVEL m.VOID m.INT m.SEMA ∷ op o.LEVEL m.VOID m.SEMA m.INT ∷ []) ∷
    entry (codes "UP" ∷ []) 10 (op o.UP m.VOID m.SEMA m.VOID ∷ []) ∷
    entry (codes "DOWN" ∷ []) 10 (op o.DOWN m.VOID m.SEMA m.VOID ∷ []) ∷
    entry (codes "LWB" ∷ []) 10 (op o.LWB m.VOID m.VOID m.INT ∷ []) ∷
    entry (codes "UPB" ∷ []) 10 (op o.UPB m.VOID m.VOID m.INT ∷ []) ∷
    entry (codes "LENG" ∷ []) 10 (op o.LENG m.VOID m.INT m.LONG_INT ∷ []) ∷
    entry (codes "SHORTEN" ∷ []) 10 (op o.SHORTEN m.VOID m.LONG_INT m.INT ∷ []) ∷
    []

-- the entries of the signs for so many operands, 1 or 2
abbrev pub entries_for : (operands : ℕ) → List SignGroup
entries_for (suc zero) = monadic_entries
entries_for (suc (suc zero)) = dyadic_entries
entries_for _ = []

-- the entry of a sign
abbrev pub entry_of : List SignGroup → (sign : List ℕ) → Option SignGroup
entry_of [] sign = None
entry_of (entry ∷ more) sign = if is_listed entry.signs sign then Some entry else entry_of more sign

-- the operators of a sign that take so many operands, in order; none of another sign
unfoldable pub candidates : (sign : List ℕ) (operands : ℕ) → List Operator
candidates sign operands = option_map_or (λ entry. entry.operators) (entry_of (entries_for operands) sign) []

-- the priority of a sign between two operands, where the standard environ has it
unfoldable pub priority_of : (sign : List ℕ) → Option ℕ
priority_of sign = option_map (λ entry. entry.priority) (entry_of dyadic_entries sign)

-- whether the standard environ has a sign, before one operand or between two
unfoldable pub is_sign : List ℕ → Bool
is_sign spelling = is_some (entry_of monadic_entries spelling) || is_some (entry_of dyadic_entries spelling)
