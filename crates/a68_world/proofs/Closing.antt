-- Strands that have closed never turn again.
use Rattle.std.proofs.Common.{◌≡◌, ◌∙◌, inl, inr, ℕ, true, false, List, [], ◌∷◌, ◌++◌, map, refl, ap, sym, subst, true≢false}
use Rattle.std.proofs.lemmas.Bool.{false≢true}
use Rattle.std.specs.Prelude.{None, Some, slice_get, slice_set}
use Rattle.std.specs.Option.{option_map_or}
use Rattle.std.specs.declared.option.Option.{Option}
use Rattle.a68_acts.specs.Store.{Store}
use Rattle.a68_code.specs.declared.code.Code.{Code}
use Rattle.a68_exec.specs.Runs.{World, Machine, IfNext, acted, begun, has_closed, is_closed, woken}
use Rattle.a68_instructions.specs.Machine.{State, next_state, replied, settle, silently}
use Rattle.a68_instructions.specs.declared.ask.Ask.{Ask}
use Rattle.a68_instructions.specs.declared.ask.Stance.{Stance}
use Rattle.a68_instructions.specs.declared.ask.Stance.TheVariants.{Closed}
use Rattle.a68_strand.proofs.Waking.{woken_closed}
use Rattle.a68_strand.specs.Strands.{standing}
use Rattle.a68_values.specs.declared.act.Act.{Act}
use Rattle.a68_values.specs.declared.act.Entry.{Entry}
use Rattle.a68_world.specs.Inside.{run_of, IsSound}
use Rattle.a68_world.specs.Passed.{Passes}
use Rattle.a68_world.specs.Run.{world}
use Rattle.a68_world.specs.Seats.{AreSeated, Sits, closed_at, closed_in, turn_at, turn_in, turn_shown}
use Rattle.a68_world.specs.declared.seat.Seat.{Seat}
use Rattle.a68_world.specs.declared.seat.Seat.TheVariants as seat
use Rattle.a68_world.specs.declared.world.World.TheInside.{Inside}
use Rattle.a68_world.proofs.Awaited.{closed_there}
use Rattle.a68_world.proofs.Ended.{closed_stance}
use Rattle.a68_world.proofs.Places.{get_front, get_map, get_other}
use Rattle.a68_world.proofs.Showing.{shown}
use Rattle.a68_world.proofs.Steady.{acted_is}

-- ---- at its seat

-- a strand that has closed shows no turn
closed_shows : (code : Code) (strands : List State) (seats : List Seat) (store : Store) (k : ℕ) → AreSeated code strands seats → is_closed strands k ≡ true → turn_at seats store k ≡ false
closed_shows code strands seats store k seated closed = by (slice_get seats k) refl
  where
    by : (o : Option Seat) → slice_get seats k ≡ o → turn_at seats store k ≡ false
    by None e = ap (λ o. option_map_or (turn_in store) o false) e
    by (Some (seat.Away spent gone)) e = ap (λ o. option_map_or (turn_in store) o false) e
    by (Some (seat.Home strand)) e =
        let sits : Sits code strands k strand = seated k (seat.Home strand) e in
        let is : (standing strand).stance ≡ Closed = closed_stance (standing strand).stance (sym (closed_there strands k (standing strand) sits.there) ∙ closed) in
        ap (λ o. option_map_or (turn_in store) o false) e ∙ ap (λ (a : Ask). turn_shown a store) (shown code strand Closed sits.shows is)

-- a seat that shows a strand which has closed
closed_seat : (code : Code) (strands : List State) (seats : List Seat) (k : ℕ) → AreSeated code strands seats → closed_at seats k ≡ true → is_closed strands k ≡ true
closed_seat code strands seats k seated t = by (slice_get seats k) refl t
  where
    by : (o : Option Seat) → slice_get seats k ≡ o → option_map_or closed_in o false ≡ true → is_closed strands k ≡ true
    by None e t = absurd (false≢true t)
    by (Some (seat.Away spent gone)) e t = sym (seated k (seat.Away spent gone) e) ∙ t
    by (Some (seat.Home strand)) e t =
        let sits : Sits code strands k strand = seated k (seat.Home strand) e in
        closed_there strands k (standing strand) sits.there ∙ t

-- ---- behind acts

pub there-closed : (strands : List State) (k : ℕ) → is_closed strands k ≡ true → (st : State) × (slice_get strands k ≡ Some st) × (has_closed st.stance ≡ true)
there-closed strands k t = by (slice_get strands k) refl t
  where
    by : (o : Option State) → slice_get strands k ≡ o → option_map_or (λ (x : State). has_closed x.stance) o false ≡ true → (st : State) × (slice_get strands k ≡ Some st) × (has_closed st.stance ≡ true)
    by None e t = absurd (false≢true t)
    by (Some st) e t = (st, e, t)

-- a strand that has closed has settled
pub closed_rests : (code : Code) (st : State) → has_closed st.stance ≡ true → next_state code st ≡ None
closed_rests code st t = ap (λ (m : Stance). silently code m st) (closed_stance st.stance t)

pub closed_on : (code : Code) (w : World) (n : ℕ) (act : Act) (behind : World) → acted code w n ≡ Some (act, behind) → (k : ℕ) → is_closed w.strands k ≡ true → is_closed behind.strands k ≡ true
closed_on code w n act behind e k closed =
    let a = acted_is code w n act behind e in
    let next : State = settle code (replied code a.st a.reply) in
    let new : List State = begun code a.st a.want in
    let all : List State = slice_set w.strands n next ++ new in
    let x = there-closed w.strands k closed in
    let apart : k ≡ n → ⊥ = λ same.
    let open_ : is_closed w.strands k ≡ false = ap (is_closed w.strands) same ∙ closed_there w.strands n a.st a.there ∙ ap has_closed a.asks in
    true≢false (sym closed ∙ open_) in
    let here_ : slice_get all k ≡ Some x.0 = get_front (slice_set w.strands n next) new k x.0 (get_other w.strands n k next x.0 apart x.1) in
    let mapped : slice_get (map (woken code all) all) k ≡ Some (woken code all x.0) = get_map (woken code all) all k x.0 here_ in
    ap (λ (v : World). is_closed v.strands k) a.is ∙ closed_there (map (woken code all) all) k (woken code all x.0) mapped
    ∙ woken_closed code all x.0 (closed_rests code x.0 x.2) ∙ x.2

closed-next : (code : Code) (w : World) (n : ℕ) (o : Option (Act × World)) (act : Act) (es : List Entry) (end : World) (k : ℕ) → acted code w n ≡ o → is_closed w.strands k ≡ true
    → ((b : World) → Machine code b es end → is_closed b.strands k ≡ true → is_closed end.strands k ≡ true) → IfNext o act (λ b. Machine code b es end) → is_closed end.strands k ≡ true
closed-next code w n None act es end k is closed again runs = absurd runs
closed-next code w n (Some next) act es end k is closed again runs = again next.1 runs.1 (closed_on code w n next.0 next.1 is k closed)

pub closed_goes : (code : Code) (w : World) (es : List Entry) (end : World) → Machine code w es end → (k : ℕ) → is_closed w.strands k ≡ true → is_closed end.strands k ≡ true
closed_goes code w [] end runs k closed = ap (λ (v : World). is_closed v.strands k) (sym runs) ∙ closed
closed_goes code w (e ∷ es) end runs k closed = closed-next code w e.strand (acted code w e.strand) e.act es end k refl closed (λ b r c. closed_goes code b es end r k c) runs

-- ---- one more is marked

pub with_passed : (s : Inside) (marks : List ℕ) (shown : List Seat) (n : ℕ) → IsSound s → shown ≡ s.seats.items → Passes s.passed shown n marks → IsSound (record s { passed = marks })
with_passed s marks shown n sound same passes = record {
  run = sound.run;
  room = sound.room;
  store = sound.store;
  seats = sound.seats;
  passed = λ k marked. elim (passes k marked) [
    | inl old ↦ sound.passed k old
    | inr closed ↦ subst (λ j. is_closed (world (run_of s)).strands j ≡ true) (sym closed.0)
        (closed_seat s.code (world (run_of s)).strands s.seats.items n sound.seats (sym (ap (λ l. closed_at l n) same) ∙ closed.1))
  ];
  rests = sound.rests;
  kin = sound.kin;
  joined = sound.joined;
  enough = sound.enough;
}
