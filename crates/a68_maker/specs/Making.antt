-- A program with a parallel clause of so many units, each of which adds its number to a sum; one semaphore guards the sum.
use Rattle.std.specs.Prelude.{ℕ, zero, suc, ◌-◌, List, [], ◌++◌, codes, decimal}

-- the unit of this number
abbrev pub unit_text : (number : ℕ) → List ℕ
unit_text number = codes "( DOWN g; t := t + " ++ decimal number ++ codes "; UP g )"

-- a line for each of so many units behind which others follow, from this number on
abbrev pub unit_lines : (number count : ℕ) → List ℕ
unit_lines number zero = []
unit_lines number (suc n) = (unit_text number ++ codes ",\n") ++ unit_lines (suc number) n

abbrev pub first_line : List ℕ
first_line = codes "( INT t := 0; SEMA g = LEVEL 1; PAR (\n"

abbrev pub last_line : List ℕ
last_line = codes "); print(t) )\n"

-- the text with so many units, which are numbered from 1
abbrev pub make_text : (units : ℕ) → List ℕ
make_text units = ((first_line ++ unit_lines 1 (units - 1)) ++ (unit_text units ++ codes "\n")) ++ last_line
