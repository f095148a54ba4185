-- Strands that rest go on to rest behind the act of another one.
use Rattle.std.proofs.Common.{◌≡◌, ◌∙◌, ◌⊎◌, inl, inr, ℕ, Bool, true, false, List, length, map, refl, ap, sym, subst, arith}
use Rattle.std.proofs.lemmas.Bool.{cases_eq, false≢true}
use Rattle.std.specs.Prelude.{None, Some, slice_get, slice_set, if◌then◌else◌}
use Rattle.std.specs.Option.{option_map_or}
use Rattle.std.specs.declared.option.Option.{Option}
use Rattle.a68_acts.specs.Does.{does, waits}
use Rattle.a68_acts.specs.Store.{Store}
use Rattle.a68_acts.specs.declared.want.Want.TheVariants as want
use Rattle.a68_code.specs.declared.code.Code.{Code}
use Rattle.a68_exec.specs.Runs.{all_closed, is_closed, woken}
use Rattle.a68_instructions.specs.Machine.{State}
use Rattle.a68_store.specs.Acts.{has_to_wait}
use Rattle.a68_instructions.specs.declared.ask.Ask.{Ask}
use Rattle.a68_instructions.specs.declared.ask.Stance.{Stance}
use Rattle.a68_instructions.specs.declared.ask.Stance.TheVariants.{Idle, Asking, Failed, Waits, Closed}
use Rattle.a68_rests.specs.Resting.{IsHeld, IsListed, IsOpen, Resting}
use Rattle.a68_strand.proofs.Waking.{woken_closed, woken_still}
use Rattle.a68_strand.specs.Strands.{standing}
use Rattle.a68_strand.specs.declared.strand.Strand.{Strand}
use Rattle.a68_values.specs.declared.act.Act.{Act}
use Rattle.a68_world.specs.Kin.{AreKin}
use Rattle.a68_world.specs.Passed.{PassTurns}
use Rattle.a68_world.specs.Resting.{HaveRest, IsResting, ClosesBy, OpensBy, RestsBehind, WaitsAt, is_idle, written}
use Rattle.a68_world.specs.Seats.{AreSeated, Sits, SitsAt, closed_at, closed_in, turn_at, turn_in, turn_shown}
use Rattle.a68_world.specs.Waking.{IsReleased}
use Rattle.a68_world.specs.declared.kin.Kin.{Kin}
use Rattle.a68_world.specs.declared.seat.Seat.{Seat}
use Rattle.a68_world.specs.declared.seat.Seat.TheVariants as seat
use Rattle.a68_world.specs.declared.world.World.TheInside.{Inside}
use Rattle.a68_world.proofs.Awaited.{closed_there}
use Rattle.a68_world.proofs.Behind as b
use Rattle.a68_world.proofs.Behind.{Moved, now}
use Rattle.a68_world.proofs.Closing.{closed_rests, there-closed}
use Rattle.a68_world.proofs.Holding.{waits_on}
use Rattle.a68_world.proofs.Places.{get_front, get_map, get_one, get_other, is_there, is_within, length_map}
use Rattle.a68_world.proofs.Showing.{shown}

-- ---- at its seat

idle-shows : (code : Code) (strand : Strand) (store : Store) (strands : List State) (k : ℕ) → Sits code strands k strand → (m : Stance) → (standing strand).stance ≡ m → is_idle m ≡ true → turn_shown strand.about.ask store ≡ false
idle-shows code strand store strands k sits Idle e i = ap (λ (a : Ask). turn_shown a store) (shown code strand Idle sits.shows e)
idle-shows code strand store strands k sits (Waits f c) e i = ap (λ (a : Ask). turn_shown a store) (shown code strand (Waits f c) sits.shows e)
idle-shows code strand store strands k sits Closed e i = ap (λ (a : Ask). turn_shown a store) (shown code strand Closed sits.shows e)
idle-shows code strand store strands k sits (Asking w x) e i = absurd (false≢true i)
idle-shows code strand store strands k sits (Failed why) e i = absurd (false≢true i)

pub rest_turns : (code : Code) (strands : List State) (seats : List Seat) (store : Store) (held : Resting) → AreSeated code strands seats → HaveRest held strands store → PassTurns held seats store
rest_turns code strands seats store held seated have k resting = by (slice_get seats k) refl
  where
    r : IsResting store strands held k
    r = have k resting.listed

    home : (strand : Strand) → Sits code strands k strand → turn_shown strand.about.ask store ≡ false
    home strand sits =
        let is : standing strand ≡ r.st = get_one strands k (standing strand) r.st sits.there r.there in
        elim r.why [
          | inl idle ↦ idle-shows code strand store strands k sits r.st.stance (ap (λ (x : State). x.stance) is) idle
          | inr w ↦ waiting is w
        ]
      where
        waiting : standing strand ≡ r.st → WaitsAt store held k r.st → turn_shown strand.about.ask store ≡ false
        waiting is w = elim w.may_wait [
          | inl may ↦ absurd (resting.shut w.cell may w.held_there)
          | inr not_yet ↦
              ap (λ (a : Ask). turn_shown a store) (shown code strand (Asking (want.Down w.cell) w.wait) sits.shows (ap (λ (x : State). x.stance) is ∙ w.asks))
              ∙ ap (λ o. if has_to_wait o then false else true) not_yet
        ]

    by : (o : Option Seat) → slice_get seats k ≡ o → turn_at seats store k ≡ false
    by None e = ap (λ o. option_map_or (turn_in store) o false) e
    by (Some (seat.Away spent gone)) e = ap (λ o. option_map_or (turn_in store) o false) e
    by (Some (seat.Home strand)) e = ap (λ o. option_map_or (turn_in store) o false) e ∙ home strand (seated k (seat.Home strand) e)

-- ---- cells that are opened and closed

opened-fewer : (o : Option ℕ) (old new : Resting) (k : ℕ) → OpensBy o old new → IsListed new k → IsListed old k
opened-fewer None old new k r e = subst (λ (x : Resting). IsListed x k) r e
opened-fewer (Some c) old new k r e = r.fewer k e

opened-held : (o : Option ℕ) (old new : Resting) (k c : ℕ) → OpensBy o old new → IsListed new k → IsHeld old k c → IsHeld new k c
opened-held None old new k c r e h = subst (λ (x : Resting). IsHeld x k c) (sym r) h
opened-held (Some d) old new k c r e h = r.held k c e h

opened-stay : (o : Option ℕ) (old new : Resting) (c : ℕ) → OpensBy o old new → IsOpen old c → IsOpen new c
opened-stay None old new c r h = subst (λ (x : Resting). IsOpen x c) (sym r) h
opened-stay (Some d) old new c r h = r.open_ c h

same-or-not : (a b : ℕ) → (a ≡ b) ⊎ (a ≡ b → ⊥)
same-or-not a b = cases_eq a b

-- a cell at which one that is listed is held is open, or nothing has been written to it
opened-or : (o : Option ℕ) (old new : Resting) (k c : ℕ) → OpensBy o old new → IsListed new k → IsHeld old k c → IsOpen new c ⊎ (o ≡ Some c → ⊥)
opened-or None old new k c r e h = inr (λ is. absurd (cc))
opened-or (Some d) old new k c r e h = elim (same-or-not d c) [
  | inl same ↦ inl (subst (λ x. IsOpen new x) same (r.opened k e (subst (λ x. IsHeld old k x) (sym same) h)))
  | inr ne ↦ inr (λ is. ne (let same : d ≡ c = cc in same))
]

closed-fewer : (store : Store) (old new : Resting) (k : ℕ) → ClosesBy store old new → IsListed new k → IsListed old k
closed-fewer store old new k (inl c) e = c.1.fewer k e
closed-fewer store old new k (inr same) e = subst (λ (x : Resting). IsListed x k) same e

closed-held : (store : Store) (old new : Resting) (k c : ℕ) → ClosesBy store old new → IsHeld old k c → IsHeld new k c
closed-held store old new k c (inl x) h = x.1.held k c h
closed-held store old new k c (inr same) h = subst (λ (x : Resting). IsHeld x k c) (sym same) h

closed-or : (store : Store) (old new : Resting) (c : ℕ) → ClosesBy store old new → IsOpen old c → IsOpen new c ⊎ (does (want.Down c) store ≡ waits)
closed-or store old new c (inl x) h = elim (x.1.open_ c h) [
  | inl same ↦ inr (ap (λ k. does (want.Down k) store) same ∙ x.2)
  | inr still ↦ inl still
]
closed-or store old new c (inr same) h = inl (subst (λ (x : Resting). IsOpen x c) (sym same) h)

-- ---- behind an act

-- what has closed shows it at its seat
closed-seen : (code : Code) (strands : List State) (seats : List Seat) (k : ℕ) → AreSeated code strands seats → length seats ≡ length strands → is_closed strands k ≡ true → closed_at seats k ≡ true
closed-seen code strands seats k seated long t =
    let x = there-closed strands k t in
    let y = is_there seats k (omega (arith, long, is_within strands k x.0 x.1)) in
    by y.0 y.1 (seated k y.0 y.1)
  where
    by : (y : Seat) → slice_get seats k ≡ Some y → SitsAt code strands k y → closed_at seats k ≡ true
    by (seat.Away spent closed) e p = ap (λ o. option_map_or closed_in o false) e ∙ p ∙ t
    by (seat.Home strand) e p = ap (λ o. option_map_or closed_in o false) e ∙ sym (closed_there strands k (standing strand) p.there) ∙ t

-- waking closes none, and opens none
closed-woken : (code : Code) (all : List State) (k : ℕ) → is_closed all k ≡ true → is_closed (map (woken code all) all) k ≡ true
closed-woken code all k t =
    let x = there-closed all k t in
    closed_there (map (woken code all) all) k (woken code all x.0) (get_map (woken code all) all k x.0 x.1) ∙ woken_closed code all x.0 (closed_rests code x.0 x.2) ∙ x.2

module _ (s : Inside) (n : ℕ) (act : Act) (store : Store) (units : List Seat) (m : Moved s n act store units) where
  pub rest_behind : (new : Resting) (kin : List Kin) (seats : List Seat) → RestsBehind (written act) n kin seats store s.rests new → AreKin kin (b.all s n act store units m)
      → AreSeated s.code (map (woken s.code (b.all s n act store units m)) (b.all s n act store units m)) seats → length seats ≡ length (b.all s n act store units m)
      → HaveRest new (map (woken s.code (b.all s n act store units m)) (b.all s n act store units m)) store
  rest_behind new kin seats r are seated long = r.more s.code (map (woken s.code (b.all s n act store units m)) (b.all s n act store units m)) seated roused
    where
      -- those that waited for units which have all closed have been roused
      still : (k : ℕ) (st : State) → IsListed r.roused k → slice_get (b.all s n act store units m) k ≡ Some st → (k ≡ n → ⊥) → (f c : ℕ) → st.stance ≡ Waits f c → (t : Bool)
          → all_closed (b.all s n act store units m) f c ≡ t → t ≡ false
      still k st marked at ne f c w false e = refl
      still k st marked at ne f c w true e =
          let free : IsReleased (b.all s n act store units m) k = record { st = st; first = f; count = c; there = at; waits = w; closed = e } in
          elim (b.only_behind s n act store units m k free) [
            | inl is ↦ absurd (ne is)
            | inr q ↦
                let shut : closed_at seats n ≡ true = closed-seen s.code (map (woken s.code (b.all s n act store units m)) (b.all s n act store units m)) seats n seated (long ∙ sym (length_map (woken s.code (b.all s n act store units m)) (b.all s n act store units m))) (closed-woken s.code (b.all s n act store units m) n q.0) in
                absurd (r.rouses.roused shut (subst (λ j. IsListed r.roused j) (sym (are.forker k st f c at w n q.1 q.2)) marked))
          ]

      -- one that waits at a cell goes on to wait, where that is not open
      waiting : (k : ℕ) (st : State) → (k ≡ n → ⊥) → IsListed r.opened k → WaitsAt s.store s.rests k st → WaitsAt store r.roused k st
      waiting k st ne listed w = record {
        cell = w.cell;
        wait = w.wait;
        asks = w.asks;
        held_there = r.rouses.held k w.cell (closed-held store r.opened r.closed k w.cell r.closes (opened-held (written act) r.left r.opened k w.cell r.opens listed left));
        may_wait = elim opened [
          | inl may ↦ elim (closed-or store r.opened r.closed w.cell r.closes may) [ inl still ↦ inl (r.rouses.open_ w.cell still) | inr not_yet ↦ inr not_yet ]
          | inr not_yet ↦ inr not_yet
        ];
      }
        where
          left : IsHeld r.left k w.cell
          left = r.leaves.held k w.cell ne w.held_there

          opened : IsOpen r.opened w.cell ⊎ (does (want.Down w.cell) store ≡ waits)
          opened = elim w.may_wait [
            | inl may ↦ inl (opened-stay (written act) r.left r.opened w.cell r.opens (r.leaves.open_ w.cell may))
            | inr not_yet ↦ elim (opened-or (written act) r.left r.opened k w.cell r.opens listed left) [
              | inl may ↦ inl may
              | inr other ↦ inr (waits_on m.act_done.want s.store store act m.act_done.reply w.cell m.act_done.does_it not_yet other)
            ]
          ]

      roused : HaveRest r.roused (map (woken s.code (b.all s n act store units m)) (b.all s n act store units m)) store
      roused k marked =
          let shut : IsListed r.closed k = r.rouses.fewer k marked in
          let opened : IsListed r.opened k = closed-fewer store r.opened r.closed k r.closes shut in
          let left : IsListed r.left k = opened-fewer (written act) r.left r.opened k r.opens opened in
          let ne : k ≡ n → ⊥ = λ e. r.leaves.roused (subst (λ j. IsListed r.left j) e left) in
          let old = m.sound.rests k (r.leaves.fewer k left) in
          let at : slice_get (b.all s n act store units m) k ≡ Some old.st = get_front (slice_set (now s).strands n (b.next s n act store units m)) (b.new s n act store units m) k old.st (get_other (now s).strands n k (b.next s n act store units m) old.st ne old.there) in
          let same : woken s.code (b.all s n act store units m) old.st ≡ old.st =
          woken_still s.code (b.all s n act store units m) old.st (b.rest s n act store units m k old.st at) (λ f c w. still k old.st marked at ne f c w (all_closed (b.all s n act store units m) f c) refl) in
          record {
            st = old.st;
            there = get_map (woken s.code (b.all s n act store units m)) (b.all s n act store units m) k old.st at ∙ ap (λ (x : State). Some x) same;
            why = elim old.why [ inl idle ↦ inl idle | inr w ↦ inr (waiting k old.st ne opened w) ];
          }
