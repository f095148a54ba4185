-- The lines on notes.
use Rattle.std.specs.Prelude.{ℕ, ◌-◌, nat_lt, List, [], ◌∷◌, ◌++◌, codes, if◌then◌else◌}
use Rattle.std.specs.Fmt.{decimal}
use Rattle.a68_base.specs.declared.refusal.Rule.{Rule}
use Rattle.a68_base.specs.declared.refusal.Rule.TheVariants.{Q2, Q3, Q4}
use Rattle.a68_base.specs.Rule.{rule_name}
use Rattle.a68_values.specs.declared.act.FaultKind.{FaultKind}
use Rattle.a68_values.specs.declared.act.FaultKind.TheVariants.{Unset, Kind, Nil, Scope, Bounds, Overflow, Divisor, Domain, Cells, Text, Strands}
use Rattle.a68_values.specs.declared.kept.End.{End}
use Rattle.a68_values.specs.declared.kept.End.TheVariants as ends

-- a line ends with a line feed
abbrev pub line : List ℕ → List ℕ
line text = text ++ 10 ∷ []

abbrev pub usage_line : List ℕ
usage_line = line (codes "usage: a68 run FILE [--workers N] [--fuel N] [--names] [--input NAME] | check FILE | code FILE | make N [--workers N] | trace FILE [--workers N] [--fuel N] | replay FILE SCHEDULE | races FILE [--workers N] [--fuel N] | list FILE")

abbrev pub read_fault_line : List ℕ
read_fault_line = line (codes "a68: read fault")

-- what the place of a refusal counts: the numbers of a schedule, the entries of a journal, or the bytes of a text
abbrev pub place_name : Rule → List ℕ
place_name Q2 = codes "index"
place_name Q3 = codes "index"
place_name Q4 = codes "index"
place_name rule = codes "byte"

abbrev pub refusal_line : Rule → ℕ → List ℕ
refusal_line rule place = line (codes "a68: refused " ++ rule_name rule ++ codes " at " ++ place_name rule ++ codes " " ++ decimal place)

-- a place of a text with so many bytes in front of a program: a byte of the program, or none
abbrev pub shown_place : (offset place : ℕ) → List ℕ
shown_place offset place = if nat_lt place offset then codes "in the prelude" else codes "at byte " ++ decimal (place - offset)

-- the line of a refusal of such a text
abbrev pub moved_refusal_line : (offset : ℕ) → Rule → ℕ → List ℕ
moved_refusal_line offset rule place = line (codes "a68: refused " ++ rule_name rule ++ codes " " ++ shown_place offset place)

-- how many units a made program had, and how many events its run
abbrev pub units_line : (units events : ℕ) → List ℕ
units_line units events = line (codes "units " ++ decimal units ++ codes " events " ++ decimal events)

abbrev pub fault_name : FaultKind → List ℕ
fault_name Unset = codes "Unset"
fault_name Kind = codes "Kind"
fault_name Nil = codes "Nil"
fault_name Scope = codes "Scope"
fault_name Bounds = codes "Bounds"
fault_name Overflow = codes "Overflow"
fault_name Divisor = codes "Divisor"
fault_name Domain = codes "Domain"
fault_name Cells = codes "Cells"
fault_name Text = codes "Text"
fault_name Strands = codes "Strands"

abbrev pub fault_line : FaultKind → ℕ → List ℕ
fault_line kind place = line (codes "a68: fault " ++ fault_name kind ++ codes " at byte " ++ decimal place)

-- how a run ended; nothing where it came to its end
abbrev pub end_line : End → List ℕ
end_line ends.Done = []
end_line (ends.Fault kind place strand) = fault_line kind place
end_line ends.AllHalted = line (codes "a68: all halted")
end_line ends.Spent = line (codes "a68: fuel spent")

-- the same of a text with so many bytes in front of its program
abbrev pub moved_fault_line : (offset : ℕ) → FaultKind → ℕ → List ℕ
moved_fault_line offset kind place = line (codes "a68: fault " ++ fault_name kind ++ codes " " ++ shown_place offset place)

abbrev pub moved_end_line : (offset : ℕ) → End → List ℕ
moved_end_line offset (ends.Fault kind place strand) = moved_fault_line offset kind place
moved_end_line offset end = end_line end
