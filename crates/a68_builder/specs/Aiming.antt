-- Instructions that name places, and the same with another place.
use Rattle.std.specs.Prelude.{ℕ, List, length, slice_get, slice_set}
use Rattle.std.specs.Option.{option_map_or}
use Rattle.a68_code.specs.declared.code.Instr.{Instr}
use Rattle.a68_code.specs.declared.does.Does.{Does}
use Rattle.a68_code.specs.declared.does.Does.TheVariants.{Jump, Goto, Unless, Case, Member, Step, Advance, Fork}

-- how many places an instruction names
abbrev pub names : Does → ℕ
names (Jump to) = 1
names (Goto to frames height gives) = 1
names (Unless to) = 1
names (Case places) = length places
names (Member mode places whole) = length places
names (Step to) = 1
names (Advance to) = 1
names (Fork entrances) = length entrances
names _ = 0

-- the instruction with another place where it names one, by its number among them
abbrev pub aimed : Does → (which to : ℕ) → Does
aimed (Jump place) which to = Jump to
aimed (Goto place frames height gives) which to = Goto to frames height gives
aimed (Unless place) which to = Unless to
aimed (Case places) which to = Case (slice_set places which to)
aimed (Member mode places whole) which to = Member mode (slice_set places which to) whole
aimed (Step place) which to = Step to
aimed (Advance place) which to = Advance to
aimed (Fork entrances) which to = Fork (slice_set entrances which to)
aimed does which to = does

abbrev pub names_at : List Instr → (at : ℕ) → ℕ
names_at list at = option_map_or (λ (i : Instr). names i.does) (slice_get list at) 0

-- the list with another place in the instruction of this number
abbrev pub aimed_at : List Instr → (at which to : ℕ) → List Instr
aimed_at list at which to = option_map_or (λ (i : Instr). slice_set list at (record { place = i.place; does = aimed i.does which to })) (slice_get list at) list
