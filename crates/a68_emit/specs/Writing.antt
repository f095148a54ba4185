-- What a call says that writes instructions behind those that are there.
use Rattle.std.specs.Prelude.{◌≡◌, ℕ, List, [], ◌∷◌, ◌++◌, map, None, Some, slice_get}
use Rattle.std.specs.declared.option.Option.{Option}
use Rattle.a68_base.specs.declared.limits.TheConstants.{MOST_INSTRUCTIONS}
use Rattle.a68_base.specs.declared.refusal.Refusal.{Refusal}
use Rattle.a68_base.specs.declared.refusal.Rule.TheVariants.{L7}
use Rattle.a68_base.specs.declared.refusal.Stop.{Stop}
use Rattle.a68_base.specs.declared.refusal.Stop.TheVariants.{Refused, NoMemory}
use Rattle.a68_builder.specs.Aiming.{aimed_at}
use Rattle.a68_code.specs.declared.code.Instr.{Instr}

-- the most instructions that a program may have
abbrev pub most : ℕ
most = MOST_INSTRUCTIONS

abbrev pub places : List Instr → List ℕ
places list = map (λ (i : Instr). i.place) list

-- the list has more instructions than a program may have, and the first above the limit has this place
pub record IsTooLong (list : List Instr) (refusal : Refusal) : Type 0 where
  pub rule : refusal.rule ≡ L7
  pub place : slice_get (places list) most ≡ Some refusal.place

-- writing stops only where memory runs out or the list is too long
abbrev pub Stops : Stop → List Instr → Type 0
Stops NoMemory list = Unit {0}
Stops (Refused refusal) list = IsTooLong list refusal

-- a writer that finds no memory stops, where it has not stopped before
abbrev pub ran_out : Option Stop → Option Stop
ran_out (Some stop) = Some stop
ran_out None = Some NoMemory

-- a place put into each of these instructions
abbrev pub aim_all : List Instr → (places : List ℕ) → (to : ℕ) → List Instr
aim_all list [] to = list
aim_all list (at ∷ places) to = aim_all (aimed_at list at 0 to) places to

-- These instructions were written behind the old ones, or writing stopped among them; a writer that had stopped stays so.
abbrev pub Writes : (old_stop new_stop : Option Stop) → (old new written : List Instr) → Type 0
Writes (Some stop) new_stop old new written = new_stop ≡ Some stop
Writes None None old new written = new ≡ old ++ written
Writes None (Some stop) old new written = Stops stop (old ++ written)
