-- What the calls for strands that are lent come to.
use Rattle.std.proofs.Common.{◌≡◌, ◌∙◌, ℕ, ◌<◌, ◌^◌, Bool, true, false, List, length, map, refl, ap, sym, subst, arith, true≢false, MatchBool}
use Rattle.std.proofs.lemmas.Bool.{false≢true}
use Rattle.std.proofs.Math.ListN.{length-set}
use Rattle.std.specs.Prelude.{None, Some, slice_get, slice_set, if◌then◌else◌}
use Rattle.std.specs.Option.{is_some}
use Rattle.std.specs.declared.alloc.Global.{Global}
use Rattle.std.specs.declared.option.Option.{Option}
use Rattle.std.specs.declared.vec.Vec.{Vec}
use Rattle.a68_exec.specs.Runs.{is_closed}
use Rattle.a68_strand.specs.declared.strand.Strand.{Strand}
use Rattle.a68_values.specs.declared.kept.End.{End}
use Rattle.a68_world.specs.Inside.{run_of, IsSound}
use Rattle.a68_world.specs.Leases.{BackOf, IsReplay, LendOf, Loses, TakesOut}
use Rattle.a68_world.specs.Passed.{PassTurns}
use Rattle.a68_world.specs.Run.{IsNumber}
use Rattle.a68_world.specs.Seats.{status_of}
use Rattle.a68_world.specs.Turns.{IsReady}
use Rattle.a68_world.specs.Waking.{WakesAt}
use Rattle.a68_world.specs.declared.seat.Seat.{Seat}
use Rattle.a68_world.specs.declared.seat.Seat.TheVariants as seat
use Rattle.a68_world.specs.declared.status.StrandState.TheVariants as status
use Rattle.a68_world.specs.declared.world.World.TheInside.{Inside}
use Rattle.a68_world.proofs.Behind.{now}
use Rattle.a68_world.proofs.Lending.{Returned, back_is, back_sound, over_back, over_sound, reseated, returned, spent_back, spent_sound, taken_is, taken_sound}
use Rattle.a68_world.proofs.Outcomes.{EndsBy, number_of}
use Rattle.a68_world.proofs.RestKept.{rest_turns}
use Rattle.a68_world.proofs.Standing.{few_seats}

pub picked : (b : Bool) (P Q : Type 0) → MatchBool b P Q → b ≡ true → P
picked true P Q p e = p
picked false P Q p e = absurd (false≢true e)

pub passed : (b : Bool) (P Q : Type 0) → MatchBool b P Q → b ≡ false → Q
passed true P Q p e = absurd (true≢false e)
passed false P Q p e = p

-- ---- a strand is taken out

pub lend_all : (s : Inside) (n : ℕ) (x y : Seat) (found : Option Strand) (seats : Vec Seat Global) → IsSound s → s.end ≡ None → IsReady (run_of s) n → slice_get s.seats.items n ≡ Some x
    → TakesOut x found y → seats.items ≡ slice_set s.seats.items n y → IsSound (record s { seats = seats }) × LendOf (run_of s) n found (run_of (record s { seats = seats }))
lend_all s n (seat.Home strand) y found seats sound unended ready there takes placed =
    let at = placed ∙ ap (slice_set s.seats.items n) takes.1 in (
      taken_sound s sound n strand unended ready there seats at,
      subst (λ o. LendOf (run_of s) n o (run_of (record s { seats = seats }))) (sym takes.0) (taken_is s sound n strand unended ready there seats at),
    )
lend_all s n (seat.Away true closed) y found seats sound unended ready there takes placed = absurd (let e = number_of s.seats.items n (seat.Away true closed) there in let h = ready.home in cc)
lend_all s n (seat.Away false closed) y found seats sound unended ready there takes placed = absurd (let e = number_of s.seats.items n (seat.Away false closed) there in let h = ready.home in cc)

-- ---- it is given back

-- there are numbers for all
pub few_back : (s : Inside) → IsSound s → (n : ℕ) (y : Seat) (seats : List Seat) → seats ≡ slice_set s.seats.items n y → length seats ≡ length s.seats.items
few_back s sound n y seats e = ap (λ l. length l) e ∙ length-set s.seats.items n y

lost-unended : (s : Inside) (lost : Bool) → lost ≡ (if is_some s.end then s.lost else true) → s.end ≡ None → lost ≡ true
lost-unended s lost is e = is ∙ ap (λ o. if is_some o then s.lost else true) e

lost-over : (s : Inside) (lost : Bool) → lost ≡ (if is_some s.end then s.lost else true) → (x : End) → s.end ≡ Some x → lost ≡ s.lost
lost-over s lost is x e = is ∙ ap (λ o. if is_some o then s.lost else true) e

-- one that is spent
pub back_spent : (s : Inside) (strand : Strand) (n : ℕ) (x y : Seat) (seats : Vec Seat Global) (lost none : Bool) → IsSound s → n ≡ strand.number → IsNumber (run_of s) strand.number status.Lent
    → slice_get s.seats.items n ≡ Some x → Loses x y → seats.items ≡ slice_set s.seats.items n y → lost ≡ (if is_some s.end then s.lost else true) → none ≡ true
    → IsSound (record s { seats = seats; lost = lost }) × BackOf (run_of s) strand none (run_of (record s { seats = seats; lost = lost }))
back_spent s strand n (seat.Home t) y seats lost none sound same lent there loses placed is spent =
    let e = sym (ap (λ k. slice_get (map status_of s.seats.items) k) same) ∙ number_of s.seats.items n (seat.Home t) there in
    absurd (cc (e, lent))
back_spent s strand n (seat.Away gone closed) y seats lost none sound same lent there loses placed is spent =
    let here_ : slice_get s.seats.items strand.number ≡ Some (seat.Away gone closed) = sym (ap (slice_get s.seats.items) same) ∙ there in
    let at : seats.items ≡ slice_set s.seats.items strand.number (seat.Away true closed) =
    placed ∙ ap (λ k. slice_set s.seats.items k y) same ∙ ap (slice_set s.seats.items strand.number) loses in
    let closes : closed ≡ is_closed (now s).strands strand.number = sound.seats strand.number (seat.Away gone closed) here_ in (
      spent_sound s sound strand lent (seat.Away gone closed) here_ closed closes seats at lost (lost-unended s lost is) (lost-over s lost is),
      spent_back s sound strand lent (seat.Away gone closed) here_ closed closes seats at lost (lost-unended s lost is) (lost-over s lost is) none spent,
    )

-- one that is not, and told to go on where it waits for units that have closed
module _ (s : Inside) (strand : Strand) (n : ℕ) (x : Seat) (old : List Seat) (seats : Vec Seat Global) (found : Bool) (sound : IsSound s) (same : n ≡ strand.number)
    (lent : IsNumber (run_of s) strand.number status.Lent) (there : slice_get s.seats.items n ≡ Some x) (replay : IsReplay s.code s.journal.items strand)
    (put : old ≡ slice_set s.seats.items n (seat.Home strand)) (w : WakesAt s.code n old seats.items found) where
  here_ : slice_get s.seats.items strand.number ≡ Some x
  here_ = sym (ap (slice_get s.seats.items) same) ∙ there

  back-seat : Returned s sound strand lent x (sym (ap (slice_get s.seats.items) same) ∙ there) replay seats.items found
  back-seat =
      returned s sound strand lent x (sym (ap (slice_get s.seats.items) same) ∙ there) replay seats.items found
      (subst (λ k. WakesAt s.code k (slice_set s.seats.items strand.number (seat.Home strand)) seats.items found) same
      (subst (λ l. WakesAt s.code n l seats.items found) (put ∙ ap (λ k. slice_set s.seats.items k (seat.Home strand)) same) w))

  pub few_given : length seats.items < 2 ^ 32
  few_given = omega (arith, ap (λ (l : List Seat). length l) back-seat.placed, length-set s.seats.items strand.number back-seat.y, few_seats s sound)

  pub rests_given : PassTurns s.rests seats.items s.store
  rests_given =
      rest_turns s.code (now s).strands seats.items s.store s.rests
      (rw back-seat.placed (reseated s.code (now s).strands s.seats.items strand.number back-seat.y sound.seats back-seat.sits)) sound.rests

  -- the run had ended
  pub back_over : (e : End) (none : Bool) → s.end ≡ Some e → none ≡ false → IsSound (record s { seats = seats }) × BackOf (run_of s) strand none (run_of (record s { seats = seats }))
  back_over e none ended it = (
    over_sound s sound strand lent x (sym (ap (slice_get s.seats.items) same) ∙ there) replay seats found back-seat e ended,
    over_back s sound strand lent x (sym (ap (slice_get s.seats.items) same) ∙ there) replay seats found back-seat e ended none it,
  )

  -- it goes on
  pub back_on : (shown : List Seat) (end : Option End) (lost none : Bool) → s.end ≡ None → shown ≡ seats.items → EndsBy shown s.store end
      → lost ≡ (if is_some end then false else if found then s.lost else true) → none ≡ false
      → IsSound (record s { seats = seats; lost = lost; end = end }) × BackOf (run_of s) strand none (run_of (record s { seats = seats; lost = lost; end = end }))
  back_on shown end lost none unended is ends lost_is it =
      let by = subst (λ l. EndsBy l s.store end) is ends in (
        back_sound s sound strand lent x (sym (ap (slice_get s.seats.items) same) ∙ there) replay seats found back-seat unended end by lost lost_is,
        back_is s sound strand lent x (sym (ap (slice_get s.seats.items) same) ∙ there) replay seats found back-seat unended end by lost lost_is none it,
      )

-- an option that is there
pub is_there_some : (o : Option End) (b : Bool) → b ≡ is_some o → b ≡ true → (e : End) × (o ≡ Some e)
is_there_some None b e f = absurd (false≢true (sym e ∙ f))
is_there_some (Some x) b e f = (x, refl)
