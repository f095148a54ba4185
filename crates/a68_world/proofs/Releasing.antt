-- Whether a strand waits for units that have all closed, where it is known of some that they have.
use Rattle.std.proofs.Common.{◌≡◌, ◌∙◌, inl, inr, ℕ, zero, suc, ◌+◌, ◌-◌, ◌<◌, ◌≤◌, ◌==◌, min, Bool, true, false, List, length, refl, ap, sym, arith}
use Rattle.std.proofs.lemmas.Bool.{false≢true}
use Rattle.std.proofs.lemmas.Bool.Decides.{nat_tests}
use Rattle.std.specs.Prelude.{◌&&◌, None, Some, slice_get}
use Rattle.std.specs.Option.{option_and_then, option_map_or}
use Rattle.std.specs.declared.option.Option.{Option}
use Rattle.std.proofs.Math.ListN.{length-set}
use Rattle.a68_exec.specs.Runs.{is_closed}
use Rattle.a68_instructions.specs.Machine.{State}
use Rattle.a68_instructions.specs.declared.ask.Stance.TheVariants.{Waits}
use Rattle.a68_strand.specs.Strands.{standing}
use Rattle.a68_strand.specs.declared.strand.Strand.{Strand}
use Rattle.a68_world.specs.Kin.{AreKin, DueBy, awaited_at, awaited_in, forker_at, pending_at, with_pending}
use Rattle.a68_world.specs.Seats.{Sits, all_closed_at, closed_at, due_at, due_in}
use Rattle.a68_world.specs.Waking.{seat_awaits}
use Rattle.a68_world.specs.declared.kin.Kin.{Kin}
use Rattle.a68_world.specs.declared.seat.Seat.{Seat}
use Rattle.a68_world.specs.declared.seat.Seat.TheVariants as seat
use Rattle.a68_world.proofs.Forking.{forker_kept, pending_kept, pending_set}
use Rattle.a68_world.proofs.Places.{below_or_not, get_one, is_within}
use Rattle.a68_world.proofs.Rousing.{awaits_units, closed_same, one_open, too_many, units_stance, woke_first}

-- ---- so many that have closed

all-and : (a b : Bool) → (a && b) ≡ true → (a ≡ true) × (b ≡ true)
all-and true b e = (refl, e)
all-and false b e = absurd (false≢true e)

each-closed : (seats : List Seat) (f c : ℕ) → all_closed_at seats f c ≡ true → (i : ℕ) → f ≤ i → i < f + c → closed_at seats i ≡ true
each-closed seats f zero all i low high = absurd (omega (arith, low, high))
each-closed seats f (suc c) all i low high =
    let both = all-and (closed_at seats f) (all_closed_at seats (suc f) c) all in
    elim (below_or_not f i) [
      | inl more ↦ each-closed seats (suc f) c both.1 i (omega (arith, more)) (omega (arith, high))
      | inr less ↦ let is : i ≡ f = omega (arith, low, less) in ap (closed_at seats) is ∙ both.0
    ]

all-closed : (seats : List Seat) (f c : ℕ) → ((i : ℕ) → f ≤ i → i < f + c → closed_at seats i ≡ true) → all_closed_at seats f c ≡ true
all-closed seats f zero each = refl
all-closed seats f (suc c) each =
    ap (λ b. b && all_closed_at seats (suc f) c) (each f (omega arith) (omega arith)) ∙ all-closed seats (suc f) c (λ i low high. each i (omega (arith, low)) (omega (arith, high)))

-- ---- the units for which a strand waits

-- a strand that waits for units has a seat in the world
waiting : (seats : List Seat) (n f c : ℕ) → awaited_at seats n ≡ Some (f, c) → (strand : Strand) × (slice_get seats n ≡ Some (seat.Home strand)) × ((standing strand).stance ≡ Waits f c)
waiting seats n f c e = by (slice_get seats n) refl e
  where
    by : (o : Option Seat) → slice_get seats n ≡ o → option_and_then awaited_in o ≡ Some (f, c) → (strand : Strand) × (slice_get seats n ≡ Some (seat.Home strand)) × ((standing strand).stance ≡ Waits f c)
    by None at e = absurd (cc)
    by (Some (seat.Home strand)) at e = (strand, at, units_stance (standing strand).stance f c e)
    by (Some (seat.Away spent closed)) at e = absurd (cc)

pub awaited_awaits : (seats : List Seat) (n f c : ℕ) (x : Seat) → awaited_at seats n ≡ Some (f, c) → slice_get seats n ≡ Some x → seat_awaits x ≡ true
awaited_awaits seats n f c x e at =
    let w = waiting seats n f c e in
    let some : Some x ≡ Some (seat.Home w.0) = sym at ∙ w.1 in
    let same : x ≡ seat.Home w.0 = cc in
    rw same (awaits_units w.0.about.ask w.0.about.waiting f c w.2)

pub awaited_within : (seats : List Seat) (n f c : ℕ) → awaited_at seats n ≡ Some (f, c) → n < length seats
awaited_within seats n f c e = let w = waiting seats n f c e in is_within seats n (seat.Home w.0) w.1

due-by : (seats : List Seat) (n : ℕ) (o : Option (ℕ × ℕ)) → awaited_at seats n ≡ o → due_at seats n ≡ option_map_or (λ (units : ℕ × ℕ). all_closed_at seats units.0 units.1) o false
due-by seats n o e = by (slice_get seats n) refl e
  where
    by : (x : Option Seat) → slice_get seats n ≡ x → option_and_then awaited_in x ≡ o → due_at seats n ≡ option_map_or (λ (units : ℕ × ℕ). all_closed_at seats units.0 units.1) o false
    by None at e = ap (λ x. option_map_or (due_in seats) x false) at ∙ ap (λ x. option_map_or (λ (units : ℕ × ℕ). all_closed_at seats units.0 units.1) x false) e
    by (Some (seat.Home strand)) at e = ap (λ x. option_map_or (due_in seats) x false) at ∙ ap (λ x. option_map_or (λ (units : ℕ × ℕ). all_closed_at seats units.0 units.1) x false) e
    by (Some (seat.Away spent closed)) at e = ap (λ x. option_map_or (due_in seats) x false) at ∙ ap (λ x. option_map_or (λ (units : ℕ × ℕ). all_closed_at seats units.0 units.1) x false) e

-- ---- whether it is due

pub due_none : (kin : List Kin) (seats : List Seat) (n : ℕ) → awaited_at seats n ≡ None → DueBy kin kin seats n false
due_none kin seats n none code strands sit long rest are = (sym (due-by seats n None none), are)

pub due_many : (kin : List Kin) (seats : List Seat) (n f c : ℕ) → awaited_at seats n ≡ Some (f, c) → length seats < c → DueBy kin kin seats n false
due_many kin seats n f c e many code strands sit long rest are = (sym (due-by seats n (Some (f, c)) e ∙ too_many seats f c many), are)

not-zero : (n k : ℕ) → n ≡ suc k → (n == 0) ≡ false
not-zero n k e = grind (arith, nat_tests, e)

-- so many are left, the last of which has not closed
pub record Left (kin : List Kin) (seats : List Seat) (n f c pending left : ℕ) : Type 0 where
  pub waits : awaited_at seats n ≡ Some (f, c)
  pub pending_is : pending ≡ min (pending_at kin n) c
  pub less : left ≤ pending
  pub closed : all_closed_at seats (f + left) (pending - left) ≡ true
  pub last : 0 < left → closed_at seats (f + (left - 1)) ≡ false

pub due_left : (kin new : List Kin) (seats : List Seat) (n f c pending left : ℕ) (due : Bool) → Left kin seats n f c pending left → new ≡ with_pending kin n left → due ≡ (left == 0) → DueBy kin new seats n due
due_left kin new seats n f c pending left due l is tells code strands sit long rest are = (tells ∙ exactly left refl, kept)
  where
    w : (strand : Strand) × (slice_get seats n ≡ Some (seat.Home strand)) × ((standing strand).stance ≡ Waits f c)
    w = waiting seats n f c l.waits

    sits : Sits code strands n w.0
    sits = sit n (seat.Home w.0) w.1

    shown : (j : ℕ) → closed_at seats j ≡ is_closed strands j
    shown = closed_same code strands rest 0 seats seats false (woke_first code strands rest seats sit long)

    -- those behind have closed
    behind : (i : ℕ) → f + left ≤ i → i < f + c → closed_at seats i ≡ true
    behind i low high = elim (below_or_not i (f + pending)) [
      | inl in_ ↦ each-closed seats (f + left) (pending - left) l.closed i low (omega (arith, in_, l.less))
      | inr out ↦ shown i ∙ are.closed n (standing w.0) f c sits.there w.2 i (least i out high) high
    ]
      where
        least : (i : ℕ) → f + pending ≤ i → i < f + c → f + pending_at kin n ≤ i
        least i out high = omega (arith, l.pending_is, out, high)

    exactly : (k : ℕ) → left ≡ k → (left == 0) ≡ due_at seats n
    exactly zero e =
        ap (λ k. k == 0) e ∙ sym (due-by seats n (Some (f, c)) l.waits ∙ all-closed seats f c (λ i low high. behind i (omega (arith, low, e)) high))
    exactly (suc k) e =
        not-zero left k e
        ∙ sym (due-by seats n (Some (f, c)) l.waits ∙ one_open seats f c (f + (left - 1)) (omega arith) (omega (arith, e, l.less, l.pending_is)) (l.last (omega (arith, e))))

    kept : AreKin new strands
    kept = record {
      long = ap (λ x. length x) is ∙ length-set kin n (record { forker = forker_at kin n; pending = left }) ∙ are.long;
      within = are.within;
      forker = λ k st g d e v i low high. ap (λ x. forker_at x i) is ∙ forker_kept kin n left i ∙ are.forker k st g d e v i low high;
      closed = λ k st g d e v i low high. closed k st g d e v i low high;
    }
      where
        own : (st : State) (g d : ℕ) → slice_get strands n ≡ Some st → st.stance ≡ Waits g d → (g ≡ f) × (d ≡ c)
        own st g d e v =
            let same : st ≡ standing w.0 = get_one strands n st (standing w.0) e sits.there in
            let both : Waits g d ≡ Waits f c = sym v ∙ ap (λ (x : State). x.stance) same ∙ w.2 in
            let p : g ≡ f = cc in
            let q : d ≡ c = cc in
            (p, q)

        closed : (k : ℕ) (st : State) (g d : ℕ) → slice_get strands k ≡ Some st → st.stance ≡ Waits g d → (i : ℕ) → g + pending_at new k ≤ i → i < g + d → is_closed strands i ≡ true
        closed k st g d e v i low high = elim (below_or_not k n) [
          | inl less ↦ other k st g d e v i (λ s. absurd (omega (arith, less, s))) low high
          | inr more ↦ elim (below_or_not n k) [
            | inl less ↦ other k st g d e v i (λ s. absurd (omega (arith, less, s))) low high
            | inr same ↦ mine k st g d e v i (omega (arith, more, same)) low high
          ]
        ]
          where
            other : (k : ℕ) (st : State) (g d : ℕ) → slice_get strands k ≡ Some st → st.stance ≡ Waits g d → (i : ℕ) → (k ≡ n → ⊥) → g + pending_at new k ≤ i → i < g + d → is_closed strands i ≡ true
            other k st g d e v i ne low high =
                let same : pending_at new k ≡ pending_at kin k = ap (λ x. pending_at x k) is ∙ pending_kept kin n left k ne in
                are.closed k st g d e v i (omega (arith, low, same)) high

            mine : (k : ℕ) (st : State) (g d : ℕ) → slice_get strands k ≡ Some st → st.stance ≡ Waits g d → (i : ℕ) → k ≡ n → g + pending_at new k ≤ i → i < g + d → is_closed strands i ≡ true
            mine k st g d e v i at low high =
                let units = own st g d (sym (ap (slice_get strands) at) ∙ e) v in
                let in_ : n < length kin = omega (arith, is_within strands n (standing w.0) sits.there, are.long) in
                let same : pending_at new k ≡ left = ap (λ x. pending_at x k) is ∙ ap (pending_at (with_pending kin n left)) at ∙ pending_set kin n left in_ in
                sym (shown i) ∙ behind i (omega (arith, low, same, units.0)) (omega (arith, high, units.0, units.1))
