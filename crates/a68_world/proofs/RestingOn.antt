-- Further strands rest that have no turn.
use Rattle.std.proofs.Common.{◌≡◌, ◌∙◌, inl, inr, ℕ, Bool, true, List, refl, ap, sym, subst}
use Rattle.std.proofs.lemmas.Bool.{false≢true}
use Rattle.std.specs.Prelude.{None, Some, slice_get}
use Rattle.std.specs.declared.option.Option.{Option}
use Rattle.a68_acts.specs.Does.{Outcome, did, refuses, waits, does}
use Rattle.a68_acts.specs.Store.{Store}
use Rattle.a68_acts.specs.declared.want.Want.{Want}
use Rattle.a68_acts.specs.declared.want.Want.TheVariants as want
use Rattle.a68_instructions.specs.Machine.{State, asked, place_at}
use Rattle.a68_instructions.specs.declared.ask.Ask.{Ask}
use Rattle.a68_instructions.specs.declared.ask.Ask.TheVariants as ask
use Rattle.a68_instructions.specs.declared.ask.Stance.{Stance}
use Rattle.a68_instructions.specs.declared.ask.Stance.TheVariants.{Idle, Asking, Failed, Waits, Closed}
use Rattle.a68_rests.specs.Resting.{Closes, HoldsToo, IsHeld, ListsToo, Opens, Resting, StayHeld, StayOpen}
use Rattle.a68_store.specs.Acts.{has_to_wait}
use Rattle.a68_strand.specs.Strands.{standing}
use Rattle.a68_strand.specs.declared.strand.Strand.{Strand}
use Rattle.a68_world.specs.Resting.{IsAtCell, IsResting, ClosesBy, OpensBy, RestsMore, RestsOne, is_idle, shows_idle}
use Rattle.a68_world.specs.Seats.{Sits}
use Rattle.a68_world.specs.declared.seat.Seat.{Seat}
use Rattle.a68_world.specs.declared.seat.Seat.TheVariants as seat
use Rattle.a68_world.proofs.Showing.{asking}

pub has_waited : (o : Outcome) → has_to_wait o ≡ true → o ≡ waits
has_waited waits e = refl
has_waited (did act told store) e = absurd (false≢true e)
has_waited (refuses why) e = absurd (false≢true e)

-- one that would have to wait at a cell
pub at_cell : (a : Ask) (store : Store) (w : Want) (cell : ℕ) (b : Bool) → a ≡ ask.Want w → w ≡ want.Down cell → b ≡ has_to_wait (does w store) → b ≡ true → IsAtCell a store cell
at_cell a store w cell b asks is tells waited = record {
  asks = asks ∙ ap (λ (v : Want). ask.Want v) is;
  waits_there = ap (λ (v : Want). does v store) (sym is) ∙ has_waited (does w store) (sym tells ∙ waited);
}

-- one that shows itself idle is so
idle-shown : (place : ℕ) (m : Stance) → shows_idle (asked place m) ≡ true → is_idle m ≡ true
idle-shown place Idle e = refl
idle-shown place (Waits f c) e = refl
idle-shown place Closed e = refl
idle-shown place (Asking w x) e = absurd (false≢true e)
idle-shown place (Failed why) e = absurd (false≢true e)

-- ---- one strand

pub one_rests : (a : Ask) (store : Store) (n : ℕ) (old new : Resting) → shows_idle a ≡ true → ListsToo old n new → RestsOne a store n old new
one_rests a store n old new idle too = record {
  listed = λ k e. elim (too.listed k e) [ inl was ↦ inl was | inr is ↦ inr (is, inl idle) ];
  held = too.held;
  open_ = too.open_;
}

pub one_holds : (a : Ask) (store : Store) (n cell : ℕ) (old new : Resting) → IsAtCell a store cell → HoldsToo old n cell new → RestsOne a store n old new
one_holds a store n cell old new at too = record {
  listed = λ k e. elim (too.listed k e) [ inl was ↦ inl was | inr is ↦ inr (is.0, inr (cell, at, is.1)) ];
  held = too.held;
  open_ = too.open_;
}

pub one_none : (a : Ask) (store : Store) (n : ℕ) (old : Resting) → RestsOne a store n old old
one_none a store n old = record { listed = λ k e. inl e; held = λ k cell h. h; open_ = λ cell h. h }

-- ---- among the others

pub more_none : (old : Resting) (seats : List Seat) (store : Store) → RestsMore old old seats store
more_none old seats store code strands seated have = have

pub more_then : (old mid new : Resting) (seats : List Seat) (store : Store) → RestsMore old mid seats store → RestsMore mid new seats store → RestsMore old new seats store
more_then old mid new seats store one two code strands seated have = two code strands seated (one code strands seated have)

-- what rests goes on to do so
keeps-resting : (store : Store) (strands : List State) (old new : Resting) (k : ℕ) → StayHeld old new → StayOpen old new → IsResting store strands old k → IsResting store strands new k
keeps-resting store strands old new k held stay r = record {
  st = r.st;
  there = r.there;
  why = elim r.why [
    | inl idle ↦ inl idle
    | inr w ↦ inr (record {
      cell = w.cell;
      wait = w.wait;
      asks = w.asks;
      held_there = held k w.cell w.held_there;
      may_wait = elim w.may_wait [ inl may ↦ inl (stay w.cell may) | inr not_yet ↦ inr not_yet ];
    })
  ];
}

pub more_one : (old new : Resting) (seats : List Seat) (store : Store) (n : ℕ) (strand : Strand) → slice_get seats n ≡ Some (seat.Home strand) → RestsOne strand.about.ask store n old new
    → RestsMore old new seats store
more_one old new seats store n strand at one code strands seated have k marked = elim (one.listed k marked) [
  | inl was ↦ keeps-resting store strands old new k one.held one.open_ (have k was)
  | inr mine ↦ record {
    st = standing strand;
    there = ap (slice_get strands) mine.0 ∙ sits.there;
    why = elim mine.1 [
      | inl idle ↦ inl (idle-shown (place_at code.list strand.body.at) (standing strand).stance (sym (ap shows_idle sits.shows.ask) ∙ idle))
      | inr w ↦
          let x = asking strand (want.Down w.0) w.1.asks in
          inr (record { cell = w.0; wait = x.0; asks = x.1; held_there = subst (λ j. IsHeld new j w.0) (sym mine.0) w.2; may_wait = inr w.1.waits_there })
    ];
  }
]
  where
    sits : Sits code strands n strand
    sits = seated n (seat.Home strand) at

-- ---- one that is written to

pub opens_none : (o : Option ℕ) (old : Resting) → o ≡ None → OpensBy o old old
opens_none o old none = subst (λ x. OpensBy x old old) (sym none) refl

pub opens_some : (o : Option ℕ) (cell : ℕ) (old new : Resting) → o ≡ Some cell → Opens old cell new → OpensBy o old new
opens_some o cell old new some r = subst (λ x. OpensBy x old new) (sym some) r

-- a cell is closed at which a strand would have to wait
pub closes_at : (old new : Resting) (store : Store) (w : Want) (cell : ℕ) (b : Bool) → w ≡ want.Down cell → b ≡ has_to_wait (does w store) → b ≡ true → Closes old cell new → ClosesBy store old new
closes_at old new store w cell b is tells waited closes = inl (cell, closes, ap (λ (v : Want). does v store) (sym is) ∙ has_waited (does w store) (sym tells ∙ waited))
