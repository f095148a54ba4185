-- What comes next for a strand, in the form in which the rules of the elaboration say what comes next for a term.
use Rattle.std.proofs.Common.{◌≡◌, ◌<◌, ◌⊎◌, ◌+◌, arith, ℕ, suc, Bool, false, List, length, None, Some, ap, ◌∙◌, if◌then◌else◌}
use Rattle.std.proofs.lemmas.Option.{slice_get_within}
use Rattle.std.specs.Option.{option_map, option_map_or}
use Rattle.std.specs.Prelude.{⊤, slice_get}
use Rattle.std.specs.declared.option.Option.{Option}
use Rattle.a68_code.specs.Flow.{does_at}
use Rattle.a68_code.specs.declared.code.Code.{Code}
use Rattle.a68_code.specs.declared.code.Instr.{Instr}
use Rattle.a68_code.specs.declared.does.Does.{Does}
use Rattle.a68_code.specs.declared.does.Does.TheVariants as does
use Rattle.a68_elab.specs.Rows.{Then, goes, acts, meets}
use Rattle.a68_instructions.specs.Machine.{State, stack_of, exec, at_end, does_one, silently, told_by, place_at}
use Rattle.a68_instructions.specs.declared.ask.Stance.{Stance}
use Rattle.a68_instructions.specs.declared.ask.Stance.TheVariants.{Idle, Asking, Failed}
use Rattle.a68_stack.specs.Values.{callers}
use Rattle.a68_stack.specs.declared.stack.Item.{Item}
use Rattle.a68_values.specs.declared.chain.Environ.{Environ}

-- a strand that stands before an instruction
abbrev pub idle : ℕ → List Item → List Environ → State
idle at items chain = record { at = at; stack = stack_of items; chain = chain; stance = Idle }

-- what a strand is about
abbrev pub seen_in : Code → Stance → State → Then State
seen_in code Idle st = goes st
seen_in code (Asking w wait) st = acts (place_at code.list st.at) w (told_by code st wait)
seen_in code (Failed why) st = meets why (place_at code.list st.at)
seen_in code _ st = goes st

abbrev pub seen : Code → State → Then State
seen code st = seen_in code st.stance st

-- what comes next for a strand: its next step shows it, or the strand itself
abbrev pub ask_in : Code → Stance → State → Option (Then State)
ask_in code Idle st = option_map (seen code) (silently code Idle st)
ask_in code (Asking w wait) st = Some (seen_in code (Asking w wait) st)
ask_in code (Failed why) st = Some (seen_in code (Failed why) st)
ask_in code _ st = None

abbrev pub ask : Code → State → Option (Then State)
ask code st = ask_in code st.stance st

-- the instruction at the strand's place
abbrev found : Code → State → Option Instr → Option (Then State)
found code st o =
    option_map (seen code) (if at_end (option_map (λ instr. instr.does) o) then None else Some (does_one code (option_map (λ instr. instr.does) o) st))

pub at_instr : (code : Code) (k p : ℕ) (items : List Item) (ch : List Environ) (d : Does) → slice_get code.list k ≡ Some (record { place = p; does = d })
    → at_end (Some d) ≡ false → ask code (idle k items ch) ≡ Some (seen code (exec code d (idle k items ch)))
at_instr code k p items ch d h e =
    ap (found code (idle k items ch)) h ∙ ap (λ (x : Bool). option_map (seen code) (if x then None else Some (exec code d (idle k items ch)))) e

-- the place behind an instruction
pub next_is : (k m : ℕ) → k + 1 ≡ m → suc k ≡ m
next_is k m e = omega arith

-- the strand is at the end
pub at_end_asks : (code : Code) (k p : ℕ) (items : List Item) (ch : List Environ) → slice_get code.list k ≡ Some (record { place = p; does = does.End })
    → silently code Idle (idle k items ch) ≡ None
at_end_asks code k p items ch h =
    ap (λ (o : Option Instr). if at_end (option_map (λ instr. instr.does) o) then None else Some (does_one code (option_map (λ instr. instr.does) o) (idle k items ch))) h

pub place_is : (code : Code) (k p : ℕ) (d : Does) → slice_get code.list k ≡ Some (record { place = p; does = d }) → place_at code.list k ≡ p
place_is code k p d h = ap (λ (o : Option Instr). option_map_or (λ instr. instr.place) o 0) h

pub does_is : (code : Code) (k p : ℕ) (d : Does) → slice_get code.list k ≡ Some (record { place = p; does = d }) → does_at code.list k ≡ Some d
does_is code k p d h = ap (λ (o : Option Instr). option_map (λ instr. instr.does) o) h

pub is_inside : (code : Code) (k p : ℕ) (d : Does) → slice_get code.list k ≡ Some (record { place = p; does = d }) → k < length code.list
is_inside code k p d h = slice_get_within code.list k (record { place = p; does = d }) h

-- the end of a loop goes back to its step, and the loop is left behind it
pub record Back (code : Code) (at to : ℕ) : Type 0 where
  pub behind : ℕ
  pub step : does_at code.list to ≡ Some (does.Step behind)
  pub turn : does_at code.list (suc to) ≡ Some does.Turn
  pub leaves : suc at < behind
  pub inside : behind < length code.list

-- A strand that goes on silently goes forward in its activation, but for the end of a loop; or it comes back from its
-- activation.
abbrev pub Forth : Code → State → Then State → Type 0
Forth code from (goes st) =
    ((callers st.stack.items ≡ callers from.stack.items) × ((from.at < st.at) ⊎ Back code from.at st.at)) ⊎ (callers from.stack.items ≡ suc (callers st.stack.items))
Forth code from (acts place w k) = ⊤
Forth code from (meets why place) = ⊤
