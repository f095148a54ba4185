-- The listing of a code (own): a line for each instruction, with its index, its name and its operands.
use Rattle.std.specs.Prelude.{ℕ, suc, Bool, true, false, List, [], ◌∷◌, ◌++◌, length, None, Some, codes, decimal}
use Rattle.std.specs.declared.option.Option.{Option}
use Rattle.a68_code.specs.Flow.{one_if}
use Rattle.a68_code.specs.declared.code.Code.{Code}
use Rattle.a68_code.specs.declared.code.Instr.{Instr}
use Rattle.a68_code.specs.declared.does.Does.{Does}
use Rattle.a68_code.specs.declared.does.Does.TheVariants.{Push, Skip, Nil, Routine, Tag, Enter, Leave, Bind, Make, Heap, Deref, Store, Apply, Same, Slice, Display, Vacuum, Compose, Select, Unite, RowUp, RowUpName, Widen, Drop, Print, Whole, Call, Return, Jump, Goto, Unless, Case, Member, Counter, Index, Step, Turn, Advance, Forget, Fork, Close, End}
use Rattle.a68_layout.specs.declared.types.TrimForm.{TrimForm}
use Rattle.a68_layout.specs.declared.types.TrimForm.TheVariants as form
use Rattle.a68_report.specs.Constants.{constant}
use Rattle.a68_report.specs.Names.{name_of}
use Rattle.a68_report.specs.Put.{behind, number, listed}

-- how many frames outwards; -1 for the standard environ
abbrev pub outwards : (distance : Option ℕ) → List ℕ
outwards None = behind (codes "-1")
outwards (Some n) = number n

-- this byte, where there is such a unit
abbrev pub letter : Bool → (byte : ℕ) → List ℕ
letter true byte = byte ∷ []
letter false byte = []

-- how a slice is written in a dimension: I for a subscript, and T for a trimmer, with L, U and A for the units that it has
abbrev pub form_text : TrimForm → List ℕ
form_text form.Subscript = codes "I"
form_text (form.Trimmer lower upper at) = codes "T" ++ letter lower 76 ++ letter upper 85 ++ letter at 65

abbrev pub forms_text : List TrimForm → List ℕ
forms_text [] = []
forms_text (f ∷ fs) = behind (form_text f) ++ forms_text fs

-- the operands in order: constants, numbers, and lists of places and of forms
abbrev pub operands : Does → List ℕ
operands (Push value) = constant value
operands (Skip mode) = number mode
operands (Routine text distance) = number text ++ outwards distance
operands (Tag hops slot) = number hops ++ number slot
operands (Enter slots) = number slots
operands (Leave kept) = number kept
operands (Bind slot) = number slot
operands (Make mode bounds) = number mode ++ number bounds
operands (Heap mode bounds) = number mode ++ number bounds
operands (Deref mode) = number mode
operands (Store mode) = number mode
operands (Apply row) = number row
operands (Same negated) = number negated
operands (Slice forms) = number (length forms) ++ forms_text forms
operands (Display count mode) = number count ++ number mode
operands (Vacuum mode) = number mode
operands (Compose count) = number count
operands (Select mode field) = number mode ++ number field
operands (Unite mode) = number mode
operands (RowUp mode) = number mode
operands (RowUpName mode) = number mode
operands (Print count) = number count
operands (Call count gives) = number count ++ number (one_if gives)
operands (Jump to) = number to
operands (Goto to frames height gives) = number to ++ number frames ++ number height ++ number (one_if gives)
operands (Unless to) = number to
operands (Case places) = listed places
operands (Member mode places whole) = number mode ++ listed places ++ listed whole
operands (Step to) = number to
operands (Advance to) = number to
operands (Fork entrances) = listed entrances
operands Nil = []
operands Widen = []
operands Drop = []
operands Whole = []
operands Counter = []
operands Index = []
operands Turn = []
operands Forget = []
operands Return = []
operands Close = []
operands End = []

abbrev pub line : (index : ℕ) → Does → List ℕ
line index does = decimal index ++ behind (name_of does) ++ operands does ++ 10 ∷ []

-- the lines of these instructions, the first of which has this index
abbrev pub lines : (index : ℕ) → List Instr → List ℕ
lines index [] = []
lines index (instr ∷ rest) = line index instr.does ++ lines (suc index) rest

abbrev pub code_text : Code → List ℕ
code_text code = lines 0 code.list
