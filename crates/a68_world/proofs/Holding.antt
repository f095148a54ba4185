-- An act leaves the counts of semaphores as they are to whose cells it does not write.
use Rattle.std.proofs.Common.{◌≡◌, ◌∙◌, inl, inr, ℕ, zero, suc, ◌+◌, ℤ, pos, Bool, true, false, List, [], ◌∷◌, ◌++◌, length, refl, ap, sym, subst}
use Rattle.std.proofs.lemmas.Bool.{cases_eq}
use Rattle.std.specs.Prelude.{⊤, None, Some, slice_get, slice_set, nat_lt, int_lt, ◌+ℤ◌, ◌-ℤ◌, if◌then◌else◌, replicate}
use Rattle.std.specs.Option.{option_and_then, option_map_or}
use Rattle.std.specs.declared.option.Option.{Option}
use Rattle.a68_acts.specs.Does.{Outcome, did, refuses, waits, does, entered, bound, looked, made, is_closed, cells_from, count_held, count_in, with_count, raised, lowered, is_int}
use Rattle.a68_acts.specs.Store.{Store, Frame, chain_of, most_counted, most_printed, most_strands, counted, slot_weight}
use Rattle.a68_acts.specs.declared.want.Reply.{Reply}
use Rattle.a68_acts.specs.declared.want.Reply.TheVariants as reply
use Rattle.a68_acts.specs.declared.want.Want.{Want}
use Rattle.a68_acts.specs.declared.want.Want.TheVariants as want
use Rattle.a68_values.specs.Content.{Content}
use Rattle.a68_values.specs.declared.act.Act.{Act}
use Rattle.a68_values.specs.declared.act.Act.TheVariants as act
use Rattle.a68_values.specs.declared.act.FaultKind.{FaultKind}
use Rattle.a68_values.specs.declared.act.FaultKind.TheVariants as fault
use Rattle.a68_values.specs.declared.held.Held.{Held}
use Rattle.a68_values.specs.declared.held.Held.TheVariants as held
use Rattle.a68_values.specs.declared.plain.Plain.TheVariants as value
use Rattle.a68_world.specs.Resting.{written}
use Rattle.a68_world.proofs.Places.{get_front}

-- the cell, where a semaphore may lie, holds what it held
Keeps : Store → ℕ → Outcome → Type 0
Keeps s c (did act told t) = (written act ≡ Some c → ⊥) → slice_get t.cells c ≡ slice_get s.cells c
Keeps s c _ = ⊤

if-keeps : (s : Store) (c : ℕ) (b : Bool) (o p : Outcome) → Keeps s c o → Keeps s c p → Keeps s c (if b then o else p)
if-keeps s c true o p x y = x
if-keeps s c false o p x y = y

or-keeps : {T : Type 0} (s : Store) (c : ℕ) (f : T → Outcome) (o : Option T) (why : FaultKind) → ((x : T) → o ≡ Some x → Keeps s c (f x)) → Keeps s c (option_map_or f o (refuses why))
unfolding Keeps
or-keeps s c f None why p = tt
or-keeps s c f (Some x) why p = p x refl

-- an act that a bound allows
done-keeps : (s : Store) (c : ℕ) (b : Bool) (why : FaultKind) (done : Act) (told : Reply) (t : Store) → ((written done ≡ Some c → ⊥) → slice_get t.cells c ≡ slice_get s.cells c) → Keeps s c (if b then refuses why else did done told t)
unfolding Keeps
done-keeps s c true why done told t p = tt
done-keeps s c false why done told t p = p

bound-keeps : (s : Store) (c f i : ℕ) (frame : Frame) (v : Content) (old : Option (Option Content)) → Keeps s c (bound s f i frame v old)
unfolding Keeps
bound-keeps s c f i frame v None = tt
bound-keeps s c f i frame v (Some old) = test (nat_lt (most_counted + slot_weight old) (counted s + slot_weight (Some v)))
  where
    test : (b : Bool) → Keeps s c (if b then refuses fault.Cells else did (act.Bind f i) reply.Go (record s { frames = slice_set s.frames f (record frame { slots = slice_set frame.slots i (Some v) }) }))
    test true = tt
    test false = λ apart. refl

looked-keeps : (s : Store) (c f i : ℕ) (slot : Option (Option Content)) → Keeps s c (looked s f i slot)
unfolding Keeps
looked-keeps s c f i None = tt
looked-keeps s c f i (Some None) = tt
looked-keeps s c f i (Some (Some v)) = λ apart. refl

other-cell : (cells : List Held) (a c : ℕ) (x : Held) → (c ≡ a → ⊥) → slice_get (slice_set cells a x) c ≡ slice_get cells c
other-cell [] a c x ne = refl
other-cell (y ∷ cells) zero zero x ne = absurd (ne refl)
other-cell (y ∷ cells) zero (suc c) x ne = refl
other-cell (y ∷ cells) (suc a) zero x ne = refl
other-cell (y ∷ cells) (suc a) (suc c) x ne = other-cell cells a c x (λ e. ne (ap suc e))

module _ (s : Store) (c : ℕ) (x : Held) (there : slice_get s.cells c ≡ Some x) (waiting : does (want.Down c) s ≡ waits) where
  assign-keeps : (a : ℕ) (what : Held) → Keeps s c (did (act.Assign a) reply.Go (record s { cells = slice_set s.cells a what }))
  unfolding Keeps
  assign-keeps a what apart = other-cell s.cells a c what (λ e. apart (ap (λ k. Some k) (sym e)))

  up-keeps : (a : ℕ) (i : ℤ) → Keeps s c (raised s a i)
  unfolding Keeps
  up-keeps a i = if-keeps s c (is_int (i +ℤ pos 1)) (did (act.Up a) reply.Go (with_count s a (i +ℤ pos 1))) (refuses fault.Overflow) (λ apart. other-cell s.cells a c (held.Plain (value.Int (i +ℤ pos 1))) (λ e. apart (ap (λ k. Some k) (sym e)))) tt

  down-other : (a : ℕ) → (c ≡ a → ⊥) → Keeps s c (does (want.Down a) s)
  unfolding does Keeps
  down-other a ne = or-keeps s c (lowered s a) (count_in s a) fault.Kind (λ i is. if-keeps s c (int_lt i (pos 1)) waits (did (act.Down a) reply.Go (with_count s a (i -ℤ pos 1))) tt (λ apart. other-cell s.cells a c (held.Plain (value.Int (i -ℤ pos 1))) ne))

  down-keeps : (a : ℕ) → Keeps s c (does (want.Down a) s)
  unfolding Keeps
  down-keeps a = elim (cases_eq c a) [
    | inl e ↦ subst (λ (o : Outcome). Keeps s c o) (sym (ap (λ k. does (want.Down k) s) (sym e) ∙ waiting)) tt
    | inr ne ↦ down-other a ne
  ]

  does_keeps : (w : Want) → Keeps s c (does w s)
  unfolding does Keeps
  does_keeps (want.Enter outer scope slots) =
      let frames : List Frame = s.frames ++ record { outer = outer; scope = scope; slots = replicate slots None } ∷ [] in
      or-keeps s c (λ (frame : Frame). entered outer scope slots s) (slice_get s.frames outer) fault.Kind
      (λ frame is. done-keeps s c (nat_lt most_counted (counted s + slots)) fault.Cells (act.Enter (length s.frames)) (reply.Frame (chain_of frames (length s.frames))) (record s { frames = frames }) (λ apart. refl))
  does_keeps (want.Bind f i v) = or-keeps s c (λ (frame : Frame). bound s f i frame v (slice_get frame.slots i)) (slice_get s.frames f) fault.Kind (λ frame is. bound-keeps s c f i frame v (slice_get frame.slots i))
  does_keeps (want.Look f i) = or-keeps s c (λ (frame : Frame). looked s f i (slice_get frame.slots i)) (slice_get s.frames f) fault.Kind (λ frame is. looked-keeps s c f i (slice_get frame.slots i))
  does_keeps (want.Make plan) =
      if-keeps s c (is_closed plan) (made s plan) (refuses fault.Kind)
      (done-keeps s c (nat_lt most_counted (counted s + length plan.cells)) fault.Cells (act.Make (length s.cells) (length plan.cells)) (reply.Base (length s.cells)) (record s { cells = s.cells ++ cells_from (length s.cells) plan })
      (λ apart. get_front s.cells (cells_from (length s.cells) plan) c x there ∙ sym there)) tt
  does_keeps (want.Fetch a) = or-keeps s c (λ (held : Held). did (act.Fetch a) (reply.Held held) s) (slice_get s.cells a) fault.Kind (λ held is. λ apart. refl)
  does_keeps (want.Assign a what) = or-keeps s c (λ (old : Held). did (act.Assign a) reply.Go (record s { cells = slice_set s.cells a what })) (slice_get s.cells a) fault.Kind (λ old is. assign-keeps a what)
  does_keeps (want.Print text) =
      done-keeps s c (nat_lt most_printed (length s.text + length text)) fault.Text (act.Print (length s.text) (length s.text + length text)) reply.Go (record s { text = s.text ++ text }) (λ apart. refl)
  does_keeps want.Turn = λ apart. refl
  does_keeps (want.Up a) = or-keeps s c (raised s a) (count_in s a) fault.Kind (λ i is. up-keeps a i)
  does_keeps (want.Down a) = down-keeps a
  does_keeps (want.Fork entrances) =
      done-keeps s c (nat_lt most_strands (s.strands + length entrances)) fault.Strands (act.Fork s.strands (length entrances)) (reply.Base s.strands) (record s { strands = s.strands + length entrances }) (λ apart. refl)
  does_keeps want.Close = λ apart. refl

-- a cell at which a strand has to wait is there
there-waits : (s : Store) (c : ℕ) → does (want.Down c) s ≡ waits → (x : Held) × (slice_get s.cells c ≡ Some x)
unfolding does
there-waits s c e = by (slice_get s.cells c) refl e
  where
    by : (o : Option Held) → slice_get s.cells c ≡ o → option_map_or (lowered s c) (option_and_then count_held o) (refuses fault.Kind) ≡ waits → (x : Held) × (slice_get s.cells c ≡ Some x)
    by None at e = absurd (cc)
    by (Some x) at e = (x, at)

-- one that had to wait at a cell still has to where nothing is written to it
pub waits_on : (w : Want) (s t : Store) (done : Act) (told : Reply) (c : ℕ) → does w s ≡ did done told t → does (want.Down c) s ≡ waits → (written done ≡ Some c → ⊥) → does (want.Down c) t ≡ waits
unfolding does Keeps
waits_on w s t done told c e waiting apart =
    let x = there-waits s c waiting in
    let same : slice_get t.cells c ≡ slice_get s.cells c = (subst (λ (o : Outcome). Keeps s c o) e (does_keeps s c x.0 x.1 waiting w)) apart in
    still (count_in s c) refl (ap (λ o. option_and_then count_held o) same) waiting
  where
    test : (i : ℤ) (b : Bool) → int_lt i (pos 1) ≡ b → (if b then waits else did (act.Down c) reply.Go (with_count s c (i -ℤ pos 1))) ≡ waits → lowered t c i ≡ waits
    test i true is f = ap (λ (b : Bool). if b then waits else did (act.Down c) reply.Go (with_count t c (i -ℤ pos 1))) is
    test i false is f = absurd (cc)

    still : (o : Option ℤ) → count_in s c ≡ o → count_in t c ≡ count_in s c → option_map_or (lowered s c) (count_in s c) (refuses fault.Kind) ≡ waits
        → option_map_or (lowered t c) (count_in t c) (refuses fault.Kind) ≡ waits
    still None at same f = let g : refuses fault.Kind ≡ waits = sym (ap (λ o. option_map_or (lowered s c) o (refuses fault.Kind)) at) ∙ f in absurd (cc)
    still (Some i) at same f =
        ap (λ o. option_map_or (lowered t c) o (refuses fault.Kind)) (same ∙ at)
        ∙ test i (int_lt i (pos 1)) refl (sym (ap (λ o. option_map_or (lowered s c) o (refuses fault.Kind)) at) ∙ f)
