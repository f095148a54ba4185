-- Jumps that name labels, and the same with the places of these labels.
use Rattle.std.specs.Prelude.{ℕ, ◌-◌, List, [], ◌∷◌, None, Some, nat_eq, nat_lt, if◌then◌else◌}
use Rattle.std.specs.Option.{option_map_or}
use Rattle.std.specs.declared.option.Option.{Option}
use Rattle.a68_base.specs.declared.limits.TheConstants.{MOST_INSTRUCTIONS}
use Rattle.a68_code.specs.declared.code.Instr.{Instr}
use Rattle.a68_code.specs.declared.does.Does.{Does}
use Rattle.a68_code.specs.declared.does.Does.TheVariants.{Goto}

-- a number that no place is; a jump names a label by the label's number above it
unfoldable pub far : ℕ
far = MOST_INSTRUCTIONS

-- what a label has, by the first of these pairs that has it
abbrev pub number_of : List (ℕ × ℕ) → (label : ℕ) → Option ℕ
number_of [] label = None
number_of (pair ∷ pairs) label = if nat_eq label pair.0 then Some pair.1 else number_of pairs label

-- a label that has a place there gives way to it
abbrev pub place_to : List (ℕ × ℕ) → (to : ℕ) → ℕ
place_to labels to = if nat_lt to far then to else option_map_or (λ place. place) (number_of labels (to - far)) to

abbrev pub settled_does : List (ℕ × ℕ) → Does → Does
settled_does labels (Goto to frames height gives) = Goto (place_to labels to) frames height gives
settled_does labels does = does

-- the instruction, where labels have these places
abbrev pub settled : List (ℕ × ℕ) → Instr → Instr
settled labels i = record { place = i.place; does = settled_does labels i.does }
