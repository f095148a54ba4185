-- A strand of a run that is told a reply and finds no memory.
use Rattle.std.proofs.Common.{◌≡◌, ◌⊎◌, inl, inr, ℕ, suc, ◌+◌, arith, Bool, true, false, List, length, refl, ap, sym, subst, true≢false}
use Rattle.std.proofs.lemmas.Option.{get_or_from_slice_get, slice_get_within}
use Rattle.a68_acts.specs.declared.want.Reply.{Reply}
use Rattle.a68_acts.specs.declared.want.Want.{Want}
use Rattle.a68_code.specs.declared.code.RoutineEntrance.{RoutineEntrance}
use Rattle.a68_exec.specs.Memory.{MakesRoom, SettlesNot, TakesMemory, told_plainly}
use Rattle.a68_exec.specs.Rooms.{room_at}
use Rattle.a68_heights.proofs.Plainly.{settles_plainly}
use Rattle.a68_heights.proofs.Rooming as rooming
use Rattle.a68_heights.proofs.Telling.{replied-fits}
use Rattle.a68_heights.proofs.Worlds.{runs-fit}
use Rattle.a68_heights.specs.Heights.{Fits}
use Rattle.a68_heights.specs.Room.{IsRoomy}
use Rattle.a68_instructions.specs.Bodies.{state_of, stance_in, stance_of}
use Rattle.a68_instructions.specs.Machine.{State, replied_in, told_by}
use Rattle.a68_instructions.specs.declared.ask.Ask.{Ask}
use Rattle.a68_instructions.specs.declared.ask.Ask.TheVariants as ask
use Rattle.a68_instructions.specs.declared.ask.Stance.TheVariants.{Idle, Asking}
use Rattle.a68_instructions.specs.declared.ask.Waiting.{Waiting}
use Rattle.a68_instructions.specs.declared.ask.Waiting.TheVariants as waiting
use Rattle.a68_strand.proofs.Rooms.{told_idle}
use Rattle.a68_strand.specs.Strands.{TellsNot, standing}
use Rattle.a68_strand.specs.declared.strand.Strand.{Strand}
use Rattle.a68_world.specs.Run.{IsSoundRun, Run, world}
use Rattle.a68_world.specs.Seats.{Sits}

-- a strand that is told plainly enters no routine
makes_none : (wait : Waiting) (r : Reply) (most : ℕ → ℕ) (texts : List RoutineEntrance) (below room : ℕ) → told_plainly wait r ≡ true → MakesRoom wait r most texts below room
makes_none (waiting.Entered text ps) r most texts below room e = absurd (true≢false (sym e))
makes_none _ r most texts below room e = tt

module _ (run : Run) (sound : IsSoundRun run) (n : ℕ) (strand : Strand) (sits : Sits run.code (world run).strands n strand) where
  -- the strand has as many items as a way through the code comes to its place with
  fits : Fits run.code (standing strand)
  fits =
      subst (Fits run.code) (get_or_from_slice_get (world run).strands n (standing strand) (standing strand) sits.there)
      (runs-fit run.code sound.valid run.entries (world run) sound.runs n (standing strand) (slice_get_within (world run).strands n (standing strand) sits.there))

  module _ (w : Want) (asks : strand.about.ask ≡ ask.Want w) (r : Reply) where
    abbrev wait : Waiting
    wait = strand.about.waiting

    abbrev told : State
    told = told_by run.code (standing strand) wait r

    told-fits : Fits run.code told
    told-fits =
        subst (Fits run.code) (ap (λ (a : Ask). replied_in (stance_in a strand.about.waiting) run.code (standing strand) r) asks) (replied-fits run.code (standing strand) r fits)

    -- it has room for what it goes on with
    roomy : IsRoomy run.code (room_at strand.rooms) strand.body (Asking w wait)
    roomy = subst (λ (a : Ask). IsRoomy run.code (room_at strand.rooms) strand.body (stance_in a wait)) asks sits.room.1

    pub takes_behind : TellsNot run.code strand.body wait r → (told_plainly wait r ≡ false) ⊎ TakesMemory run.code told
    takes_behind x = by_test (told_plainly wait r) refl x
      where
        by_test : (b : Bool) → told_plainly wait r ≡ b → TellsNot run.code strand.body wait r → (told_plainly wait r ≡ false) ⊎ TakesMemory run.code told
        by_test false e x = inl e
        by_test true e x =
            elim x [
              | inl other ↦ inl other
              | inr y ↦ elim y [
                | inl full ↦ absurd (let few = rooming.holds run.code (room_at strand.rooms) sits.room.0 strand.body.stack.room (standing strand) fits sits.room.1 in omega (arith, full, few))
                | inr settles ↦
                    let made = makes_none wait r (room_at strand.rooms) run.code.texts (suc (length strand.body.stack.items)) strand.body.stack.room e in
                    let same : told_by run.code (state_of strand.body Idle) wait r ≡ told = sym (told_idle strand.body (stance_of strand.about) run.code wait r) in
                    inr (settles_plainly run.code (room_at strand.rooms) sits.room.0 strand.body.stack.room told told-fits
                    (rooming.told_by run.code (room_at strand.rooms) sits.room.0 strand.body.stack.room (standing strand) w wait r roomy made)
                    (subst (SettlesNot run.code strand.body.stack.room) same settles))
              ]
            ]
