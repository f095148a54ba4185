-- Strands are woken one by one.
use Rattle.std.proofs.Common.{◌≡◌, ◌∙◌, inl, inr, ℕ, zero, suc, ◌+◌, ◌-◌, ◌<◌, ◌≤◌, Bool, true, false, List, length, map, refl, ap, sym, subst, arith, true≢false}
use Rattle.std.proofs.lemmas.Bool.{false≢true}
use Rattle.std.specs.Prelude.{◌&&◌, None, Some, slice_get, slice_set, if◌then◌else◌}
use Rattle.std.specs.Option.{option_map_or}
use Rattle.std.proofs.Math.ListN.{length-set}
use Rattle.std.specs.declared.option.Option.{Option}
use Rattle.a68_acts.specs.declared.want.Reply.TheVariants as reply
use Rattle.a68_code.specs.declared.code.Code.{Code}
use Rattle.a68_strand.proofs.Waking.{woken_still, woken_closed}
use Rattle.a68_instructions.specs.Machine.{State, settle, replied, replied_in}
use Rattle.a68_exec.specs.Runs.{has_closed, awaited_units, is_closed, all_closed, woken, woken_in}
use Rattle.a68_strand.specs.Strands.{standing, awaits}
use Rattle.a68_instructions.specs.declared.ask.Ask.{Ask}
use Rattle.a68_instructions.specs.declared.ask.Ask.TheVariants as ask
use Rattle.a68_instructions.specs.declared.ask.Stance.{Stance}
use Rattle.a68_instructions.specs.declared.ask.Stance.TheVariants.{Idle, Asking, Failed, Waits, Closed}
use Rattle.a68_instructions.specs.declared.ask.Waiting.{Waiting}
use Rattle.a68_instructions.specs.Bodies.{stance_in}
use Rattle.a68_strand.specs.declared.strand.Strand.{Strand}
use Rattle.a68_world.specs.Seats.{Sits, SitsAt, SitsHere, AllSit, closed_in, closed_at, all_closed_at, due_in, due_at}
use Rattle.a68_world.specs.Waking.{seat_awaits, GoesOnAt, WakesBy, WakesAt, AllRest, IsReleased, IsSpentAt, Wakes}
use Rattle.a68_world.specs.declared.seat.Seat.{Seat}
use Rattle.a68_world.specs.declared.seat.Seat.TheVariants as seat
use Rattle.a68_world.proofs.Places.{below_or_not, get_mapped, get_map, get_map_none, get_other, set_parted, set_same, is_there, is_within, is_beyond}

-- ---- so many that have closed

and-false : (b : Bool) → (b && false) ≡ false
and-false true = refl
and-false false = refl

past-first : (first k : ℕ) → first ≤ k → (first ≡ k → ⊥) → suc first ≤ k
past-first zero zero low ne = absurd (ne refl)
past-first zero (suc k) low ne = omega arith
past-first (suc f) zero low ne = absurd (omega (arith, low))
past-first (suc f) (suc k) low ne = let p = past-first f k (omega (arith, low)) (λ s. ne (ap suc s)) in omega (arith, p)

pub one_open : (seats : List Seat) (first count k : ℕ) → first ≤ k → k < first + count → closed_at seats k ≡ false → all_closed_at seats first count ≡ false
one_open seats first zero k low high e = absurd (omega (arith, low, high))
one_open seats first (suc n) k low high e = by (closed_at seats first) refl (λ p. one_open seats (suc first) n k p (omega (arith, high)) e)
  where
    by : (b : Bool) → closed_at seats first ≡ b → (suc first ≤ k → all_closed_at seats (suc first) n ≡ false) → (closed_at seats first && all_closed_at seats (suc first) n) ≡ false
    by false f more = ap (λ b. b && all_closed_at seats (suc first) n) f
    by true f more =
        rw (more (past-first first k low (λ s. true≢false (sym f ∙ ap (closed_at seats) s ∙ e)))) (and-false (closed_at seats first))

pub closed_beyond : (seats : List Seat) (k : ℕ) → length seats ≤ k → closed_at seats k ≡ false
closed_beyond seats k h = ap (λ o. option_map_or closed_in o false) (is_beyond seats k h)

-- more are asked for than there are
pub too_many : (seats : List Seat) (first count : ℕ) → length seats < count → all_closed_at seats first count ≡ false
too_many seats first count h = one_open seats first count (first + (count - 1)) (omega arith) (omega (arith, h)) (closed_beyond seats (first + (count - 1)) (omega (arith, h)))

-- one more in front
pub one_closed : (seats : List Seat) (m i : ℕ) → all_closed_at seats (suc m) i ≡ true → closed_at seats m ≡ true → all_closed_at seats m (suc i) ≡ true
one_closed seats m i all here_ = ap (λ b. b && all_closed_at seats (suc m) i) here_ ∙ all

-- ---- what is due

-- a strand that shows units waits for them
pub units_stance : (m : Stance) (f c : ℕ) → awaited_units m ≡ Some (f, c) → m ≡ Waits f c
units_stance Idle f c e = absurd (cc)
units_stance (Asking want x) f c e = absurd (cc)
units_stance (Failed why) f c e = absurd (cc)
units_stance Closed f c e = absurd (cc)
units_stance (Waits a b) f c e =
    let pair : (a, b) ≡ (f, c) = cc in
    let p : a ≡ f = ap (λ (u : ℕ × ℕ). u.0) pair in
    let q : b ≡ c = ap (λ (u : ℕ × ℕ). u.1) pair in
    ap (λ x. Waits x b) p ∙ ap (λ x. Waits f x) q

pub awaits_units : (a : Ask) (wait : Waiting) (f c : ℕ) → stance_in a wait ≡ Waits f c → awaits a ≡ true
awaits_units ask.Waits wait f c e = refl
awaits_units (ask.Want w) wait f c e = refl
awaits_units (ask.Fault why place) wait f c e = absurd (cc)
awaits_units ask.Closed wait f c e = absurd (cc)
awaits_units ask.Ended wait f c e = absurd (cc)
awaits_units ask.Runs wait f c e = absurd (cc)
awaits_units ask.NoMemory wait f c e = absurd (cc)

-- a strand that is due waits for units that have closed
pub record Due (seats : List Seat) (strand : Strand) : Type 0 where
  pub first : ℕ
  pub count : ℕ
  pub waits : (standing strand).stance ≡ Waits first count
  pub closed : all_closed_at seats first count ≡ true

due-strand : (seats : List Seat) (strand : Strand) (o : Option (ℕ × ℕ)) → awaited_units (standing strand).stance ≡ o
    → option_map_or (λ (units : ℕ × ℕ). all_closed_at seats units.0 units.1) o false ≡ true → Due seats strand
due-strand seats strand None e t = absurd (false≢true t)
due-strand seats strand (Some (f, c)) e t = record { first = f; count = c; waits = units_stance (standing strand).stance f c e; closed = t }

pub due_home : (seats : List Seat) (strand : Strand) → due_in seats (seat.Home strand) ≡ true → Due seats strand
due_home seats strand t = due-strand seats strand (awaited_units (standing strand).stance) refl t

pub due_is : (seats : List Seat) (n : ℕ) → due_at seats n ≡ true → (strand : Strand) × (slice_get seats n ≡ Some (seat.Home strand)) × Due seats strand
due_is seats n t = by (slice_get seats n) refl t
  where
    by : (o : Option Seat) → slice_get seats n ≡ o → option_map_or (due_in seats) o false ≡ true → (strand : Strand) × (slice_get seats n ≡ Some (seat.Home strand)) × Due seats strand
    by None e t = absurd (false≢true t)
    by (Some (seat.Home strand)) e t = (strand, e, due_home seats strand t)
    by (Some (seat.Away spent closed)) e t = absurd (false≢true t)

pub due_awaits : (seats : List Seat) (n : ℕ) (x : Seat) → due_at seats n ≡ true → slice_get seats n ≡ Some x → seat_awaits x ≡ true
due_awaits seats n x t e =
    let d = due_is seats n t in
    let some : Some x ≡ Some (seat.Home d.0) = sym e ∙ d.1 in
    let same : x ≡ seat.Home d.0 = cc in
    rw same (awaits_units d.0.about.ask d.0.about.waiting d.2.first d.2.count d.2.waits)

-- one that waits for units and is not due waits for some that have not closed
pub not_due : (seats : List Seat) (n f c : ℕ) (strand : Strand) → slice_get seats n ≡ Some (seat.Home strand) → due_at seats n ≡ false → (standing strand).stance ≡ Waits f c
    → all_closed_at seats f c ≡ false
not_due seats n f c strand there t waits =
    sym (ap (λ (m : Stance). option_map_or (λ (units : ℕ × ℕ). all_closed_at seats units.0 units.1) (awaited_units m) false) waits) ∙ sym (ap (λ o. option_map_or (due_in seats) o false) there) ∙ t

-- to be woken closes nothing
pub closed_mapped : (code : Code) (all : List State) → AllRest code all → (k : ℕ) → is_closed (map (woken code all) all) k ≡ is_closed all k
closed_mapped code all settled k = by (slice_get all k) refl
  where
    by : (o : Option State) → slice_get all k ≡ o → is_closed (map (woken code all) all) k ≡ is_closed all k
    by None e =
        let none : slice_get (map (woken code all) all) k ≡ None = get_map_none (woken code all) all k e in
        ap (λ o. option_map_or (λ (st : State). has_closed st.stance) o false) none ∙ sym (ap (λ o. option_map_or (λ (st : State). has_closed st.stance) o false) e)
    by (Some st) e =
        ap (λ o. option_map_or (λ (st : State). has_closed st.stance) o false) (get_map (woken code all) all k st e) ∙ woken_closed code all st (settled k st e)
        ∙ sym (ap (λ o. option_map_or (λ (st : State). has_closed st.stance) o false) e)

-- ---- the strands as they are woken

abbrev Roused : Code → List State → ℕ → Seat → Type 0
Roused code all k (seat.Home strand) = Sits code (map (woken code all) all) k strand
Roused code all k (seat.Away true closed) = IsReleased all k × (closed ≡ false)
Roused code all k (seat.Away false closed) = closed ≡ is_closed all k

-- those before the i-th have been woken
pub record Woke (code : Code) (all : List State) (old : List Seat) (i : ℕ) (seats : List Seat) (lost : Bool) : Type 0 where
  pub long : length seats ≡ length all
  pub woke : (k : ℕ) (x : Seat) → k < i → slice_get seats k ≡ Some x → Roused code all k x
  pub rest : (k : ℕ) (x : Seat) → i ≤ k → slice_get seats k ≡ Some x → SitsHere code all k x
  pub none : lost ≡ true → (k : ℕ) × IsSpentAt seats k
  pub gone : (k : ℕ) → IsSpentAt seats k → lost ≡ true
  pub lent : (k : ℕ) (closed : Bool) → slice_get old k ≡ Some (seat.Away false closed) → slice_get seats k ≡ Some (seat.Away false closed)
  pub was_lent : (k : ℕ) (closed : Bool) → slice_get seats k ≡ Some (seat.Away false closed) → slice_get old k ≡ Some (seat.Away false closed)

closed-found : (all : List State) (k : ℕ) (st : State) → slice_get all k ≡ Some st → is_closed all k ≡ has_closed st.stance
closed-found all k st e = ap (λ o. option_map_or (λ (st : State). has_closed st.stance) o false) e

-- each step keeps as many seats
pub wakes_long : (code : Code) (n : ℕ) (old new : List Seat) (found : Bool) → WakesAt code n old new found → length new ≡ length old
wakes_long code n old new found step = by (due_at old n) step
  where
    by : (b : Bool) → WakesBy b code n old new found → length new ≡ length old
    by false s = ap (λ l. length l) s.0
    by true s = ap (λ l. length l) s.4 ∙ length-set old n s.1

module _ (code : Code) (all : List State) (settled : AllRest code all) where
  -- to be woken closes nothing
  pub closed_same : (i : ℕ) (seats : List Seat) (old : List Seat) (lost : Bool) → Woke code all old i seats lost → (j : ℕ) → closed_at seats j ≡ is_closed all j
  closed_same i seats old lost w j = by (slice_get seats j) refl
    where
      past : (o : Option Seat) → slice_get seats j ≡ o → o ≡ None → is_closed all j ≡ false
      past o e n = elim (below_or_not j (length all)) [
        | inl p ↦ let x = is_there seats j (omega (arith, p, w.long)) in absurd (cc (x.1, e, n))
        | inr p ↦ ap (λ o. option_map_or (λ (st : State). has_closed st.stance) o false) (is_beyond all j p)
      ]

      here_ : (strand : Strand) → Sits code all j strand → has_closed (standing strand).stance ≡ is_closed all j
      here_ strand sits = sym (closed-found all j (standing strand) sits.there)

      moved : (strand : Strand) → Sits code (map (woken code all) all) j strand → has_closed (standing strand).stance ≡ is_closed all j
      moved strand sits =
          let x = get_mapped (woken code all) all j (standing strand) sits.there in
          sym (ap (λ (st : State). has_closed st.stance) x.2) ∙ woken_closed code all x.0 (settled j x.0 x.1) ∙ sym (closed-found all j x.0 x.1)

      by : (o : Option Seat) → slice_get seats j ≡ o → option_map_or closed_in o false ≡ is_closed all j
      by None e = sym (past None e refl)
      by (Some (seat.Home strand)) e = elim (below_or_not j i) [
        | inl p ↦ moved strand (w.woke j (seat.Home strand) p e)
        | inr p ↦ here_ strand (w.rest j (seat.Home strand) p e)
      ]
      by (Some (seat.Away true closed)) e = elim (below_or_not j i) [
        | inl p ↦ let r : IsReleased all j × (closed ≡ false) = w.woke j (seat.Away true closed) p e in r.1 ∙ sym (closed-found all j r.0.st r.0.there ∙ ap has_closed r.0.waits)
        | inr p ↦ absurd (true≢false (w.rest j (seat.Away true closed) p e).0)
      ]
      by (Some (seat.Away false closed)) e = elim (below_or_not j i) [
        | inl p ↦ w.woke j (seat.Away false closed) p e
        | inr p ↦ (w.rest j (seat.Away false closed) p e).1
      ]

  pub all_closed_same : (seats : List Seat) → ((j : ℕ) → closed_at seats j ≡ is_closed all j) → (first n : ℕ) → all_closed_at seats first n ≡ all_closed all first n
  all_closed_same seats same first zero = refl
  all_closed_same seats same first (suc n) =
      ap (λ b. b && all_closed_at seats (suc first) n) (same first) ∙ ap (λ b. is_closed all first && b) (all_closed_same seats same (suc first) n)

  -- one that is not due stays
  stays : (i : ℕ) (seats old : List Seat) (lost : Bool) (strand : Strand) → Woke code all old i seats lost → slice_get seats i ≡ Some (seat.Home strand) → due_at seats i ≡ false
      → Sits code (map (woken code all) all) i strand
  stays i seats old lost strand w there t =
      let sits : Sits code all i strand = w.rest i (seat.Home strand) (omega arith) there in
      let same : woken code all (standing strand) ≡ standing strand =
      woken_still code all (standing strand) (settled i (standing strand) sits.there)
      (λ f c waits. sym (all_closed_same seats (closed_same i seats old lost w) f c) ∙ not_due seats i f c strand there t waits) in
      record { number = sits.number; there = get_map (woken code all) all i (standing strand) sits.there ∙ ap (λ (st : State). Some st) same; shows = sits.shows; room = sits.room }

  woke-still : (i : ℕ) (seats old : List Seat) (lost : Bool) → Woke code all old i seats lost → due_at seats i ≡ false → Woke code all old (suc i) seats lost
  woke-still i seats old lost w t = record {
    long = w.long;
    woke = λ k x p e. elim (below_or_not k i) [ inl q ↦ w.woke k x q e | inr q ↦ here_ k x (omega (arith, p, q)) e ];
    rest = λ k x p e. w.rest k x (omega (arith, p)) e;
    none = w.none;
    gone = w.gone;
    lent = w.lent;
    was_lent = w.was_lent;
  }
    where
      same : (x : Seat) → slice_get seats i ≡ Some x → Roused code all i x
      same (seat.Home strand) e = stays i seats old lost strand w e t
      same (seat.Away true closed) e = absurd (true≢false (w.rest i (seat.Away true closed) (omega arith) e).0)
      same (seat.Away false closed) e = (w.rest i (seat.Away false closed) (omega arith) e).1

      here_ : (k : ℕ) (x : Seat) → k ≡ i → slice_get seats k ≡ Some x → Roused code all k x
      here_ k x is e = subst (λ j. Roused code all j x) (sym is) (same x (sym (ap (slice_get seats) is) ∙ e))

  -- one that is due goes on, or is spent
  released : (seats : List Seat) (i : ℕ) (strand : Strand) → Sits code all i strand → ((j : ℕ) → closed_at seats j ≡ is_closed all j) → Due seats strand → IsReleased all i
  released seats i strand sits same d = record {
    st = standing strand;
    first = d.first;
    count = d.count;
    there = sits.there;
    waits = d.waits;
    closed = sym (all_closed_same seats same d.first d.count) ∙ d.closed;
  }

  pub told_woken : (st : State) (f c : ℕ) → st.stance ≡ Waits f c → all_closed all f c ≡ true → woken code all st ≡ settle code (replied code st reply.Go)
  told_woken st f c waits closed =
      ap (λ (m : Stance). settle code (woken_in all st m)) waits
      ∙ ap (λ (b : Bool). settle code (if b then record st { at = suc st.at; stance = Idle } else st)) closed
      ∙ sym (ap (λ (m : Stance). settle code (replied_in m code st reply.Go)) waits)

  roused : (seats : List Seat) (i : ℕ) (strand : Strand) (y : Seat) (found : Bool) → Sits code all i strand → IsReleased all i → Due seats strand
      → ((f c : ℕ) → (standing strand).stance ≡ Waits f c → all_closed_at seats f c ≡ all_closed all f c) → GoesOnAt code (seat.Home strand) y found → Roused code all i y
  roused seats i strand (seat.Home next) true sits r d same g =
      let woke : woken code all (standing strand) ≡ standing next =
      told_woken (standing strand) d.first d.count d.waits (sym (same d.first d.count d.waits) ∙ d.closed) ∙ sym g.0.state in
      record {
        number = g.1 ∙ sits.number;
        there = get_map (woken code all) all i (standing strand) sits.there ∙ ap (λ (st : State). Some st) woke;
        shows = record { ask = g.0.ask; place = g.0.place };
        room = g.2 sits.room;
      }
  roused seats i strand (seat.Home next) false sits r d same g = absurd g
  roused seats i strand (seat.Away spent closed) true sits r d same g = absurd g
  roused seats i strand (seat.Away true closed) false sits r d same g = (r, g.1)
  roused seats i strand (seat.Away false closed) false sits r d same g = absurd (false≢true g.0)

  found-lost : (found lost : Bool) → lost ≡ true → (if found then lost else true) ≡ true
  found-lost true lost e = e
  found-lost false lost e = refl

  spent-by : (strand : Strand) (spent closed found : Bool) → GoesOnAt code (seat.Home strand) (seat.Away spent closed) found → found ≡ false
  spent-by strand spent closed true g = absurd g
  spent-by strand spent closed false g = refl

  not-lent : (strand : Strand) (closed found : Bool) → GoesOnAt code (seat.Home strand) (seat.Away false closed) found → ⊥
  not-lent strand closed true g = g
  not-lent strand closed false g = false≢true g.0

  lost-by : (strand : Strand) (y : Seat) → GoesOnAt code (seat.Home strand) y false → y ≡ seat.Away true false
  lost-by strand (seat.Home next) g = absurd g
  lost-by strand (seat.Away spent closed) g = ap (λ b. seat.Away b closed) g.0 ∙ ap (seat.Away true) g.1

  woke-due : (i : ℕ) (seats old : List Seat) (lost found : Bool) (strand : Strand) (y : Seat) → Woke code all old i seats lost → slice_get seats i ≡ Some (seat.Home strand) → Due seats strand
      → GoesOnAt code (seat.Home strand) y found → Woke code all old (suc i) (slice_set seats i y) (if found then lost else true)
  woke-due i seats old lost found strand y w there d g =
      let sits : Sits code all i strand = w.rest i (seat.Home strand) (omega arith) there in
      let same = closed_same i seats old lost w in
      let r = released seats i strand sits same d in
      let new : Roused code all i y = roused seats i strand y found sits r d (λ f c e. all_closed_same seats same f c) g in
      record {
        long = omega (arith, length-set seats i y, w.long);
        woke = λ k x p e. elim (set_parted seats i k y x e) [
          | inl q ↦ subst (λ j. Roused code all j x) (sym q.0) (subst (λ z. Roused code all i z) (sym q.1) new)
          | inr q ↦ elim (below_or_not k i) [ inl b ↦ w.woke k x b q.1 | inr b ↦ absurd (q.0 (omega (arith, p, b))) ]
        ];
        rest = λ k x p e. elim (set_parted seats i k y x e) [
          | inl q ↦ absurd (omega (arith, p, q.0))
          | inr q ↦ w.rest k x (omega (arith, p)) q.1
        ];
        none = λ e. none_of found e g;
        gone = λ k e. elim (set_parted seats i k y (seat.Away true e.0) e.1) [
          | inl q ↦ ap (λ (b : Bool). if b then lost else true) (spent-by strand true e.0 found (subst (λ z. GoesOnAt code (seat.Home strand) z found) (sym q.1) g))
          | inr q ↦ found-lost found lost (w.gone k (e.0, q.1))
        ];
        lent = λ k closed e. get_other seats i k y (seat.Away false closed) (apart k closed e) (w.lent k closed e);
        was_lent = λ k closed e. elim (set_parted seats i k y (seat.Away false closed) e) [
          | inl q ↦ absurd (not-lent strand closed found (subst (λ z. GoesOnAt code (seat.Home strand) z found) (sym q.1) g))
          | inr q ↦ w.was_lent k closed q.1
        ];
      }
    where
      apart : (k : ℕ) (closed : Bool) → slice_get old k ≡ Some (seat.Away false closed) → k ≡ i → ⊥
      apart k closed e s = let f = sym (ap (slice_get seats) s) ∙ w.lent k closed e in absurd (cc (there, f))

      kept : lost ≡ true → (k : ℕ) × IsSpentAt (slice_set seats i y) k
      kept e =
          let k = w.none e in
          (k.0, (k.1.0, get_other seats i k.0 y (seat.Away true k.1.0) (λ s. home k.1.0 (sym (ap (slice_get seats) s) ∙ k.1.1)) k.1.1))
        where
          home : (closed : Bool) → slice_get seats i ≡ Some (seat.Away true closed) → ⊥
          home closed f = absurd (cc (there, f))

      none_of : (b : Bool) → (if b then lost else true) ≡ true → GoesOnAt code (seat.Home strand) y b → (k : ℕ) × IsSpentAt (slice_set seats i y) k
      none_of true e g = kept e
      none_of false e g = (i, (false, set_same seats i (seat.Home strand) y there ∙ ap (λ z. Some z) (lost-by strand y g)))

  pub woke_on : (i : ℕ) (begun old new : List Seat) (lost found : Bool) → Woke code all begun i old lost → WakesAt code i old new found → Woke code all begun (suc i) new (if found then lost else true)
  woke_on i begun old new lost found w step = by (due_at old i) refl step
    where
      by : (b : Bool) → due_at old i ≡ b → WakesBy b code i old new found → Woke code all begun (suc i) new (if found then lost else true)
      by false e s = rw (s.0, s.1) (woke-still i old begun lost w e)
      by true e s =
          let d = due_is old i e in
          let some : Some s.0 ≡ Some (seat.Home d.0) = sym s.2 ∙ d.1 in
          let same : s.0 ≡ seat.Home d.0 = cc in
          rw s.4 (woke-due i old begun lost found d.0 s.1 w d.1 d.2 (subst (λ (z : Seat). GoesOnAt code z s.1 found) same s.3))

  pub woke_first : (seats : List Seat) → AllSit code all seats → length seats ≡ length all → Woke code all seats 0 seats false
  woke_first seats sit long = record {
    long = long;
    woke = λ k x p e. absurd (omega (arith, p));
    rest = λ k x p e. sit k x e;
    none = λ e. absurd (false≢true e);
    gone = λ k e. absurd (true≢false (sit k (seat.Away true e.0) e.1).0);
    lent = λ k closed e. e;
    was_lent = λ k closed e. e;
  }

  -- one that is due is released
  not-released : (i : ℕ) (seats old : List Seat) (lost : Bool) → Woke code all old i seats lost → (IsReleased all i → ⊥) → due_at seats i ≡ false
  not-released i seats old lost w none = by (due_at seats i) refl
    where
      by : (b : Bool) → due_at seats i ≡ b → due_at seats i ≡ false
      by false e = e
      by true e =
          let d = due_is seats i e in
          absurd (none (released seats i d.0 (w.rest i (seat.Home d.0) (omega arith) d.1) (closed_same i seats old lost w) d.2))

  -- none of so many is
  woke-past : (m i : ℕ) (seats old : List Seat) (lost : Bool) → Woke code all old i seats lost → ((j : ℕ) → i ≤ j → j < i + m → IsReleased all j → ⊥) → Woke code all old (i + m) seats lost
  woke-past zero i seats old lost w none = let same : i ≡ i + zero = omega arith in subst (λ j. Woke code all old j seats lost) same w
  woke-past (suc m) i seats old lost w none =
      let same : suc i + m ≡ i + suc m = omega arith in
      let next : Woke code all old (suc i) seats lost = woke-still i seats old lost w (not-released i seats old lost w (none i (omega arith) (omega arith))) in
      subst (λ j. Woke code all old j seats lost) same (woke-past m (suc i) seats old lost next (λ j low high. none j (omega (arith, low)) (omega (arith, high))))

  woke-all : (seats old : List Seat) (i : ℕ) (lost : Bool) → length seats ≤ i → Woke code all old i seats lost → Wakes code all old seats lost
  woke-all seats old i lost high w = record {
    long = w.long;
    seated = λ k x e. woke_by k x (w.woke k x (omega (arith, is_within seats k x e, high)) e);
    spent = λ k e. ((w.woke k (seat.Away true e.0) (omega (arith, is_within seats k (seat.Away true e.0) e.1, high)) e.1).0, w.gone k e);
    lost = w.none;
    lent = w.lent;
    was_lent = w.was_lent;
  }
    where
      map-closed : (k : ℕ) → is_closed (map (woken code all) all) k ≡ is_closed all k
      map-closed k = closed_mapped code all settled k

      woke_by : (k : ℕ) (x : Seat) → Roused code all k x → SitsAt code (map (woken code all) all) k x
      woke_by k (seat.Home strand) r = r
      woke_by k (seat.Away true closed) r = r.1 ∙ sym (closed-found all k r.0.st r.0.there ∙ ap has_closed r.0.waits) ∙ sym (map-closed k)
      woke_by k (seat.Away false closed) r = r ∙ sym (map-closed k)

  -- where one at most is due, all have been woken once that one is
  pub wakes_one : (p : ℕ) (old new : List Seat) (found : Bool) → AllSit code all old → length old ≡ length all → ((k : ℕ) → IsReleased all k → k ≡ p) → WakesAt code p old new found
      → Wakes code all old new (if found then false else true)
  wakes_one p old new found sit long only step = elim (below_or_not p (length old)) [ inl low ↦ within low | inr high ↦ beyond high ]
    where
      first : Woke code all old 0 old false
      first = woke_first old sit long

      within : p < length old → Wakes code all old new (if found then false else true)
      within low =
          let none : Woke code all old (0 + p) old false = woke-past p 0 old old false first (λ j from to r. absurd (omega (arith, to, only j r))) in
          let same_place : 0 + p ≡ p = omega arith in
          let before : Woke code all old p old false = subst (λ j. Woke code all old j old false) same_place none in
          let at : Woke code all old (suc p) new (if found then false else true) = woke_on p old old new false found before step in
          let same : length new ≡ length old = wakes_long code p old new found step in
          let behind : Woke code all old (suc p + (length old - suc p)) new (if found then false else true) = woke-past (length old - suc p) (suc p) new old (if found then false else true) at (λ j from to r. absurd (omega (arith, from, only j r))) in
          woke-all new old (suc p + (length old - suc p)) (if found then false else true) (omega (arith, same, low)) behind

      beyond : length old ≤ p → Wakes code all old new (if found then false else true)
      beyond high =
          let idle : due_at old p ≡ false = ap (λ o. option_map_or (due_in old) o false) (is_beyond old p high) in
          let stays : WakesBy false code p old new found = subst (λ b. WakesBy b code p old new found) idle step in
          let before : Woke code all old (0 + length old) old false = woke-past (length old) 0 old old false first (λ j from to r. absurd (omega (arith, to, only j r, high))) in
          rw (stays.0, stays.1) (woke-all old old (0 + length old) false (omega arith) before)
