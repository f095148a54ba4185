-- What an act of a strand makes of the run.
use Rattle.std.proofs.Common.{◌≡◌, ◌∙◌, ◌⊎◌, inl, inr, ℕ, zero, suc, ◌<◌, ◌≤◌, Bool, true, false, List, [], ◌∷◌, ◌++◌, length, length-append, map, refl, ap, sym, subst, arith, true≢false}
use Rattle.std.proofs.lemmas.Bool.{false≢true}
use Rattle.std.specs.Prelude.{◌&&◌, None, Some, MatchBool, slice_get, slice_set, if◌then◌else◌}
use Rattle.std.specs.Option.{option_map_or}
use Rattle.std.specs.declared.alloc.Global.{Global}
use Rattle.std.specs.declared.option.Option.{Option}
use Rattle.std.specs.declared.vec.Vec.{Vec}
use Rattle.std.proofs.Math.ListN.{length-set}
use Rattle.a68_acts.specs.Does.{did, does}
use Rattle.a68_acts.specs.Store.{Store}
use Rattle.a68_code.specs.declared.code.Code.{Code}
use Rattle.a68_exec.proofs.Alive.{active}
use Rattle.a68_rests.specs.Resting.{IsListed, Resting}
use Rattle.a68_strand.proofs.Waking.{goes_open, goes_waits}
use Rattle.a68_instructions.specs.Bodies.{stance_in}
use Rattle.a68_instructions.specs.Machine.{State, settle, replied}
use Rattle.a68_instructions.specs.declared.ask.Ask.{Ask}
use Rattle.a68_exec.specs.Runs.{World, woken, woken_in, has_closed, is_closed, is_passive, all_closed}
use Rattle.a68_strand.specs.Strands.{standing, HasSettled, TellsNot, LeavesRoom}
use Rattle.a68_instructions.specs.declared.ask.Stance.{Stance}
use Rattle.a68_instructions.specs.declared.ask.Stance.TheVariants.{Idle, Waits}
use Rattle.a68_strand.specs.declared.strand.Strand.{Strand}
use Rattle.a68_values.specs.Logs.{Logged}
use Rattle.a68_values.specs.declared.act.Act.{Act}
use Rattle.a68_values.specs.declared.kept.End.{End}
use Rattle.a68_world.specs.Ending.{EndShown}
use Rattle.a68_world.specs.Inside.{run_of, IsSound}
use Rattle.a68_world.specs.Kin.{AreKin, Forks, WakesBehind}
use Rattle.a68_world.specs.Resting.{HaveRest, RestsBehind, written}
use Rattle.a68_world.specs.Run.{AllHome, IsNumber, EndsWithoutTurn, world}
use Rattle.a68_world.specs.Seats.{Sits, SitsAt, SitsHere, AreSeated, AllSit, is_home, status_of}
use Rattle.a68_world.specs.Stepping.{IsNewSeat}
use Rattle.a68_world.specs.Turns.{IsReadyAs, IsDueAs, ActsAs, GoesOnIn, IsSpentBy, FindsNoMemory, TakesBehind}
use Rattle.a68_world.specs.Waking.{IsReleased, IsSpentAt, Wakes}
use Rattle.a68_world.specs.declared.kin.Kin.{Kin}
use Rattle.a68_world.specs.declared.seat.Seat.{Seat}
use Rattle.a68_world.specs.declared.seat.Seat.TheVariants as seat
use Rattle.a68_world.specs.declared.status.StrandState.{StrandState}
use Rattle.a68_world.specs.declared.status.StrandState.TheVariants as status
use Rattle.a68_world.specs.declared.world.World.TheInside.{Inside}
use Rattle.a68_world.proofs.Behind as b
use Rattle.a68_world.proofs.Behind.{Moved, Noted, now, many_seats, all_sit}
use Rattle.a68_world.proofs.Kept.{none_spent, world_behind, acts_keep, spent_keep}
use Rattle.a68_world.proofs.Closing.{closed_on}
use Rattle.a68_world.proofs.Places.{get_mapped, get_map, get_front, get_other, parted, set_same, is_there, is_within, length_map}
use Rattle.a68_world.proofs.Forking.{kin_woken}
use Rattle.a68_world.proofs.RestKept.{rest_behind}
use Rattle.a68_world.proofs.Showing.{AllAtHome, end_seen}
use Rattle.a68_world.proofs.Wanting.{takes_behind}
use Rattle.std.specs.List.{list_all}

-- ---- numbers and seats

le_or_lt : (a k : ℕ) → (a ≤ k) ⊎ (k < a)
le_or_lt zero k = inl (omega arith)
le_or_lt (suc a) zero = inr (omega arith)
le_or_lt (suc a) (suc k) = elim (le_or_lt a k) [ inl p ↦ inl (omega (arith, p)) | inr p ↦ inr (omega (arith, p)) ]

status-spent : (x : Seat) → status_of x ≡ status.Spent → (closed : Bool) × (x ≡ seat.Away true closed)
status-spent (seat.Home strand) e = absurd (cc)
status-spent (seat.Away true closed) e = (closed, refl)
status-spent (seat.Away false closed) e = absurd (cc)

status-lent : (x : Seat) → status_of x ≡ status.Lent → (closed : Bool) × (x ≡ seat.Away false closed)
status-lent (seat.Home strand) e = absurd (cc)
status-lent (seat.Away true closed) e = absurd (cc)
status-lent (seat.Away false closed) e = (closed, refl)

-- a strand that is spent has a seat that says so
pub seat_spent : (seats : List Seat) (k : ℕ) → slice_get (map status_of seats) k ≡ Some status.Spent → IsSpentAt seats k
seat_spent seats k e =
    let x = get_mapped status_of seats k status.Spent e in
    let y = status-spent x.0 x.2 in
    (y.0, x.1 ∙ ap (λ (z : Seat). Some z) y.1)

-- so has one that is lent
pub seat_lent : (seats : List Seat) (k : ℕ) → slice_get (map status_of seats) k ≡ Some status.Lent → (closed : Bool) × (slice_get seats k ≡ Some (seat.Away false closed))
seat_lent seats k e =
    let x = get_mapped status_of seats k status.Lent e in
    let y = status-lent x.0 x.2 in
    (y.0, x.1 ∙ ap (λ (z : Seat). Some z) y.1)

pub number_of : (seats : List Seat) (k : ℕ) (x : Seat) → slice_get seats k ≡ Some x → slice_get (map status_of seats) k ≡ Some (status_of x)
number_of seats k x e = get_map status_of seats k x e

both-true : (a b : Bool) → (a && b) ≡ true → (a ≡ true) × (b ≡ true)
both-true true b e = (refl, e)
both-true false b e = absurd (false≢true e)

-- one strand stands elsewhere once it goes on
waits-no-more : (code : Code) (all : List State) (st : State) (f c : ℕ) → st.stance ≡ Waits f c → all_closed all f c ≡ true → woken code all st ≡ st → ⊥
waits-no-more code all st f c waits closed same =
    let woke : woken code all st ≡ settle code (record st { at = suc st.at; stance = Idle }) =
    ap (λ (m : Stance). settle code (woken_in all st m)) waits ∙ ap (λ (b : Bool). settle code (if b then record st { at = suc st.at; stance = Idle } else st)) closed in
    let live : is_passive (settle code (record st { at = suc st.at; stance = Idle })).stance ≡ false = active code (record st { at = suc st.at; stance = Idle }) refl in
    let passive : is_passive st.stance ≡ true = ap is_passive waits in
    true≢false (sym passive ∙ ap (λ (x : State). is_passive x.stance) (sym same ∙ woke) ∙ live)

-- ---- whether every strand stands in the world

home-status : (x : Seat) → status_of x ≡ status.Home → is_home x ≡ true
home-status (seat.Home strand) e = refl
home-status (seat.Away true closed) e = absurd (cc)
home-status (seat.Away false closed) e = absurd (cc)

away-status : (x : Seat) → is_home x ≡ true → status_of x ≡ status.Home
away-status (seat.Home strand) e = refl
away-status (seat.Away spent closed) e = absurd (false≢true e)

pub all_home_at : (seats : List Seat) → list_all is_home seats ≡ true → AllAtHome seats
all_home_at [] e k x f = absurd (cc)
all_home_at (y ∷ seats) e zero x f = let same : y ≡ x = cc in ap is_home (sym same) ∙ (both-true (is_home y) (list_all is_home seats) e).0
all_home_at (y ∷ seats) e (suc k) x f = all_home_at seats (both-true (is_home y) (list_all is_home seats) e).1 k x f

pub home_all : (seats : List Seat) → AllHome (map status_of seats) → list_all is_home seats ≡ true
home_all [] home = refl
home_all (y ∷ seats) home = rw (home-status y (home 0 (status_of y) refl), home_all seats (λ k there e. home (suc k) there e)) refl

-- where the end is set by whether all do
abbrev pub EndsBy : (seats : List Seat) → Store → Option End → Type 0
EndsBy seats store end = MatchBool (list_all is_home seats) (EndShown seats store end) (end ≡ None)

ends-shown : (b : Bool) (P Q : Type 0) → b ≡ true → MatchBool b P Q → P
ends-shown true P Q e p = p
ends-shown false P Q e p = absurd (false≢true e)

ends-none : (b : Bool) (P Q : Type 0) → (b ≡ true → ⊥) → MatchBool b P Q → Q
ends-none true P Q ne p = absurd (ne refl)
ends-none false P Q ne p = p

pub ends_whole : (code : Code) (w : World) (seats : List Seat) (end : Option End) → AreSeated code w.strands seats → length seats ≡ length w.strands → EndsBy seats w.store end
    → AllHome (map status_of seats) → EndsWithoutTurn code w end
ends_whole code w seats end seated long ends home =
    let all = home_all seats home in
    end_seen code w seats end seated (all_sit code w.strands seats seated (λ k e. let no = home k status.Spent e in absurd (cc))) (all_home_at seats all) long
    (ends-shown (list_all is_home seats) (EndShown seats w.store end) (end ≡ None) all ends)

pub ends_parted : (seats : List Seat) (store : Store) (end : Option End) → EndsBy seats store end → (k : ℕ) (there : StrandState) → slice_get (map status_of seats) k ≡ Some there
    → (there ≡ status.Home → ⊥) → end ≡ None
ends_parted seats store end ends k there at away =
    ends-none (list_all is_home seats) (EndShown seats store end) (end ≡ None)
    (λ all. let x = get_mapped status_of seats k there at in away (sym x.2 ∙ away-status x.0 (all_home_at seats all k x.0 x.1))) ends

-- ---- the strand has done its act

module _ (s : Inside) (n : ℕ) (act : Act) (store : Store) (units : List Seat) (m : Moved s n act store units) where
  -- an act is due
  abbrev pub due_is : IsDueAs (run_of s) n m.where_
  due_is = record {
    ready = m.ready;
    st = standing m.strand;
    there = m.sits.there;
    want = m.act_done.want;
    wait = m.strand.about.waiting;
    asks = ap (λ (a : Ask). stance_in a m.strand.about.waiting) m.act_done.asks;
    fuel = m.fuel;
  }

  -- the strand takes memory behind it
  takes_is : TellsNot s.code m.strand.body m.strand.about.waiting m.act_done.reply → TakesBehind s.code (standing m.strand) m.strand.about.waiting (does m.act_done.want (now s).store)
  takes_is untold =
      let done : does m.act_done.want (now s).store ≡ did act m.act_done.reply store = ap (does m.act_done.want) (sym m.sound.store) ∙ m.act_done.does_it in
      subst (TakesBehind s.code (standing m.strand) m.strand.about.waiting) (sym done)
      (takes_behind (run_of s) m.sound.run n m.strand m.sits m.act_done.want m.act_done.asks m.act_done.reply untold)

  module _ (y : Seat) (same : status_of y ≡ m.where_) (mine : SitsHere s.code (b.all s n act store units m) n y) where
    -- the seats before any strand is woken
    abbrev pub told_seats : List Seat
    told_seats = slice_set s.seats.items n y ++ units

    pub told_sit : AllSit s.code (b.all s n act store units m) told_seats
    told_sit = b.sit_by s n act store units m y (λ k z. SitsHere s.code (b.all s n act store units m) k z) mine (λ k z p. p)

    pub told_there : slice_get told_seats n ≡ Some y
    told_there = get_front (slice_set s.seats.items n y) units n y (set_same s.seats.items n m.at y m.there)

    pub told_long : length told_seats ≡ length (b.all s n act store units m)
    told_long = b.long s n act store units m y

    module _ (journal : Logged) (seats : Vec Seat Global) (kin : Vec Kin Global) (lost : Bool) (end : Option End) (noted : Noted s n act journal) (are : AreKin kin.items (b.all s n act store units m))
        (w : Wakes s.code (b.all s n act store units m) told_seats seats.items lost) (ends : EndsBy seats.items store end) (rested : Resting)
        (behind : RestsBehind (written act) n kin.items seats.items store s.rests rested) where
      abbrev pub told_run : Inside
      told_run = record s { journal = journal; store = store; seats = seats; rests = rested; kin = kin; lost = lost; end = end }

      told-world : world (run_of told_run) ≡ b.behind s n act store units m
      told-world = world_behind (run_of s) (run_of told_run) n act (b.behind s n act store units m) refl noted.items (b.next_is s n act store units m)

      told-seated : AreSeated s.code (world (run_of told_run)).strands seats.items
      told-seated = subst (λ (x : World). AreSeated s.code x.strands seats.items) (sym told-world) w.seated

      gone : (k : ℕ) → IsNumber (run_of told_run) k status.Spent → IsReleased (b.all s n act store units m) k × (lost ≡ true)
      gone k e = w.spent k (seat_spent seats.items k e)

      many : length (map status_of seats.items) ≡ length (world (run_of told_run)).strands
      many =
          length_map status_of seats.items ∙ w.long ∙ sym (length_map (woken s.code (b.all s n act store units m)) (b.all s n act store units m)) ∙ sym (ap (λ (x : World). length x.strands) told-world)

      whole : AllHome (map status_of seats.items) → EndsWithoutTurn s.code (world (run_of told_run)) end
      whole home =
          ends_whole s.code (world (run_of told_run)) seats.items end told-seated (sym (length_map status_of seats.items) ∙ many)
          (subst (λ (x : World). EndsBy seats.items x.store end) (sym told-world) ends) home

      -- a strand that is spent went on
      goes : (k : ℕ) → (k ≡ n → ⊥) → k < length s.seats.items → IsReleased (b.all s n act store units m) k → GoesOnIn (now s) (world (run_of told_run)) k
      goes k ne h r =
          let old = is_there (now s).strands k (omega (arith, h, many_seats s m.sound)) in
          let at : slice_get (b.all s n act store units m) k ≡ Some old.0 =
          get_front (slice_set (now s).strands n (b.next s n act store units m)) (b.new s n act store units m) k old.0 (get_other (now s).strands n k (b.next s n act store units m) old.0 ne old.1) in
          let some : Some r.st ≡ Some old.0 = sym r.there ∙ at in
          let is : r.st ≡ old.0 = cc in
          let woke : slice_get (world (run_of told_run)).strands k ≡ Some (woken s.code (b.all s n act store units m) r.st) =
          ap (λ (x : World). slice_get x.strands k) told-world ∙ get_map (woken s.code (b.all s n act store units m)) (b.all s n act store units m) k r.st r.there in
          record {
            st = r.st;
            first = r.first;
            count = r.count;
            there = old.1 ∙ ap (λ (x : State). Some x) (sym is);
            waits = r.waits;
            told = λ e.
                let both : Some (woken s.code (b.all s n act store units m) r.st) ≡ Some r.st = sym woke ∙ e ∙ old.1 ∙ ap (λ (x : State). Some x) (sym is) in
                let same : woken s.code (b.all s n act store units m) r.st ≡ r.st = cc in
                waits-no-more s.code (b.all s n act store units m) r.st r.first r.count r.waits r.closed same;
          }

      -- a new strand does not wait
      born : (k : ℕ) → length s.seats.items ≤ k → IsReleased (b.all s n act store units m) k → ⊥
      born k h r = elim (parted (slice_set (now s).strands n (b.next s n act store units m)) (b.new s n act store units m) k r.st r.there) [
        | inl front ↦
            let p = is_within (slice_set (now s).strands n (b.next s n act store units m)) k r.st front in
            absurd (omega (arith, h, p, length-set (now s).strands n (b.next s n act store units m), many_seats s m.sound))
        | inr fresh ↦ goes_waits r.st.stance r.first r.count ⊥ (b.fresh s n act store units m fresh.0 r.st fresh.2).1 r.waits
      ]

      -- nor is it lent
      unit-home : (i : ℕ) (closed : Bool) → IsNewSeat s.code (b.new s n act store units m) (length s.seats.items) i (seat.Away false closed) → ⊥
      unit-home i closed u = u

      born-home : (k : ℕ) (closed : Bool) → length s.seats.items ≤ k → slice_get told_seats k ≡ Some (seat.Away false closed) → ⊥
      born-home k closed h e = elim (parted (slice_set s.seats.items n y) units k (seat.Away false closed) e) [
        | inl front ↦
            let p = is_within (slice_set s.seats.items n y) k (seat.Away false closed) front in
            absurd (omega (arith, h, p, length-set s.seats.items n y))
        | inr fresh ↦ unit-home fresh.0 closed ((b.are_new s n act store units m).each fresh.0 (seat.Away false closed) fresh.2)
      ]

      pub told_acts : ActsAs (run_of s) n m.where_ (run_of told_run)
      told_acts = record {
        goes_on = m.goes;
        fuel = m.fuel;
        ready = m.ready;
        same = (refl, refl);
        act = act;
        behind = b.behind s n act store units m;
        next = b.next_is s n act store units m;
        entries = noted.items;
        stays = mine_at y same mine told_there (here_ n (omega (arith, w.long, sym told_long, is_within told_seats n y told_there)));
        seated = record {
          fresh = λ k x none e. fresh_is k x none e;
          stays = λ k x old ne. stays_is k x old ne;
          many = many;
        };
        lost = λ e. let k = w.lost e in (k.0, number_of seats.items k.0 (seat.Away true k.1.0) k.1.1);
        spent = λ k e. (gone k e).1;
        ends = record { whole = whole; parted = λ k there at away. ends_parted seats.items store end ends k there at away };
      }
        where
          here_ : (k : ℕ) → k < length seats.items → (x : Seat) × (slice_get seats.items k ≡ Some x)
          here_ k h = is_there seats.items k h

          home_at : (t : Strand) → status.Home ≡ m.where_ → slice_get told_seats n ≡ Some (seat.Home t) → (x : Seat) × (slice_get seats.items n ≡ Some x)
              → IsNumber (run_of told_run) n m.where_ ⊎ (IsNumber (run_of told_run) n status.Spent × (lost ≡ true))
          home_at t is at (seat.Home u, e) = inl (number_of seats.items n (seat.Home u) e ∙ ap (λ (v : StrandState). Some v) is)
          home_at t is at (seat.Away true closed, e) = inr (number_of seats.items n (seat.Away true closed) e, (w.spent n (closed, e)).1)
          home_at t is at (seat.Away false closed, e) = let f = w.was_lent n closed e in absurd (cc)

          mine_at : (z : Seat) → status_of z ≡ m.where_ → SitsHere s.code (b.all s n act store units m) n z → slice_get told_seats n ≡ Some z → (x : Seat) × (slice_get seats.items n ≡ Some x)
              → IsNumber (run_of told_run) n m.where_ ⊎ (IsNumber (run_of told_run) n status.Spent × (lost ≡ true))
          mine_at (seat.Home t) is sits at x = home_at t is at x
          mine_at (seat.Away true closed) is sits at x = absurd (true≢false sits.0)
          mine_at (seat.Away false closed) is sits at x =
              inl (number_of seats.items n (seat.Away false closed) (w.lent n closed at) ∙ ap (λ (v : StrandState). Some v) is)

          beyond : (k : ℕ) → slice_get (map status_of s.seats.items) k ≡ None → length s.seats.items ≤ k
          beyond k none = elim (le_or_lt (length s.seats.items) k) [
            | inl p ↦ p
            | inr p ↦ let x = is_there s.seats.items k p in absurd (cc (number_of s.seats.items k x.0 x.1, none))
          ]

          fresh_is : (k : ℕ) (x : StrandState) → slice_get (map status_of s.seats.items) k ≡ None → IsNumber (run_of told_run) k x → x ≡ status.Home
          fresh_is k status.Home none e = refl
          fresh_is k status.Spent none e = absurd (born k (beyond k none) (gone k e).0)
          fresh_is k status.Lent none e =
              let x = seat_lent seats.items k e in
              absurd (born-home k x.0 (beyond k none) (w.was_lent k x.0 x.1))

          seated_old : (k : ℕ) (x : Seat) → (k ≡ n → ⊥) → slice_get s.seats.items k ≡ Some x → slice_get told_seats k ≡ Some x
          seated_old k x ne e = get_front (slice_set s.seats.items n y) units k x (get_other s.seats.items n k y x ne e)

          of_home : (k : ℕ) (t : Strand) → (k ≡ n → ⊥) → k < length s.seats.items → slice_get told_seats k ≡ Some (seat.Home t) → (x : Seat) × (slice_get seats.items k ≡ Some x)
              → IsNumber (run_of told_run) k status.Home ⊎ (IsNumber (run_of told_run) k status.Spent × GoesOnIn (now s) (world (run_of told_run)) k × (lost ≡ true))
          of_home k t ne low at (seat.Home u, e) = inl (number_of seats.items k (seat.Home u) e)
          of_home k t ne low at (seat.Away true closed, e) =
              let r = w.spent k (closed, e) in
              inr (number_of seats.items k (seat.Away true closed) e, goes k ne low r.0, r.1)
          of_home k t ne low at (seat.Away false closed, e) = let f = w.was_lent k closed e in absurd (cc)

          of_seat : (k : ℕ) (z : Seat) (x : StrandState) → (k ≡ n → ⊥) → slice_get s.seats.items k ≡ Some z → status_of z ≡ x
              → IsNumber (run_of told_run) k x ⊎ ((x ≡ status.Home) × IsNumber (run_of told_run) k status.Spent × GoesOnIn (now s) (world (run_of told_run)) k × (lost ≡ true))
          of_seat k (seat.Home t) x ne e is =
              let low : k < length s.seats.items = is_within s.seats.items k (seat.Home t) e in
              let more = length-append (slice_set s.seats.items n y) units in
              elim (of_home k t ne low (seated_old k (seat.Home t) ne e) (here_ k (omega (arith, low, w.long, sym told_long, more, length-set s.seats.items n y)))) [
                | inl p ↦ inl (p ∙ ap (λ (v : StrandState). Some v) is)
                | inr p ↦ inr (sym is, p.0, p.1, p.2)
              ]
          of_seat k (seat.Away true closed) x ne e is = absurd (none_spent (run_of s) m.sound.run m.goes k (number_of s.seats.items k (seat.Away true closed) e))
          of_seat k (seat.Away false closed) x ne e is =
              inl (number_of seats.items k (seat.Away false closed) (w.lent k closed (seated_old k (seat.Away false closed) ne e)) ∙ ap (λ (v : StrandState). Some v) is)

          stays_is : (k : ℕ) (x : StrandState) → IsNumber (run_of s) k x → (k ≡ n → ⊥)
              → IsNumber (run_of told_run) k x ⊎ ((x ≡ status.Home) × IsNumber (run_of told_run) k status.Spent × GoesOnIn (now s) (world (run_of told_run)) k × (lost ≡ true))
          stays_is k x old ne = let o = get_mapped status_of s.seats.items k x old in of_seat k o.0 x ne o.1 o.2

      pub told_sound : IsSound told_run
      told_sound = record {
        run = acts_keep (run_of s) (run_of told_run) n m.where_ m.sound.run told_acts;
        room = noted.room;
        store = sym (ap (λ (x : World). x.store) told-world);
        seats = told-seated;
        passed = λ k marked. ap (λ (x : World). is_closed x.strands k) told-world ∙ closed_on s.code (now s) n act (b.behind s n act store units m) (b.next_is s n act store units m) k (m.sound.passed k marked);
        rests = subst (λ (x : World). HaveRest rested x.strands store) (sym told-world) (rest_behind s n act store units m rested kin.items seats.items behind are w.seated w.long);
        kin = subst (λ (x : World). AreKin kin.items x.strands) (sym told-world) (kin_woken s.code (b.all s n act store units m) (b.rest s n act store units m) kin.items are);
        joined = m.sound.joined;
        enough = m.sound.enough;
      }

  -- ---- it stands in the world, and has been told

  module _ (t : Strand) (told : HasSettled s.code (replied s.code (standing m.strand) m.act_done.reply) t) (number : t.number ≡ m.strand.number) (keeps : LeavesRoom s.code m.strand t)
      (home : status.Home ≡ m.where_) where
    pub sits_told : Sits s.code (b.all s n act store units m) n t
    sits_told = record {
      number = number ∙ m.sits.number;
      there = b.there_next s n act store units m ∙ ap (λ (x : State). Some x) (sym told.state);
      shows = record { ask = told.ask; place = told.place };
      room = keeps m.sits.room;
    }

    -- the seats before any strand is woken
    abbrev pub home_seats : List Seat
    home_seats = slice_set s.seats.items n (seat.Home t) ++ units

    -- those that are due are woken
    pub home_wakes : (kin new : List Kin) (seats : List Seat) (lost : Bool) → AreKin kin (b.all s n act store units m) → WakesBehind s.code n kin new home_seats seats lost
        → Wakes s.code (b.all s n act store units m) home_seats seats lost × AreKin new (b.all s n act store units m)
    home_wakes kin new seats lost are w =
        w (b.all s n act store units m) (told_sit (seat.Home t) home sits_told) (told_long (seat.Home t) home sits_told) (b.rest s n act store units m) are (b.only_behind s n act store units m)

  -- ---- there was no memory to tell the strand

  module _ (live : is_passive (settle s.code (replied s.code (standing m.strand) m.act_done.reply)).stance ≡ false)
      (untold : TellsNot s.code m.strand.body m.strand.about.waiting m.act_done.reply) (home : status.Home ≡ m.where_) (journal : Logged) (seats : Vec Seat Global)
      (kin : Vec Kin Global) (noted : Noted s n act journal) (forks : Forks s.kin.items n (length units) kin.items) (are : seats.items ≡ slice_set s.seats.items n (seat.Away true false) ++ units)
      (rested : Resting) (none_rest : (k : ℕ) → IsListed rested k → ⊥) where
    abbrev pub untold_run : Inside
    untold_run = record s { journal = journal; store = store; seats = seats; rests = rested; kin = kin; lost = true }

    untold-world : world (run_of untold_run) ≡ b.behind s n act store units m
    untold-world = world_behind (run_of s) (run_of untold_run) n act (b.behind s n act store units m) refl noted.items (b.next_is s n act store units m)

    untold-strands : (world (run_of untold_run)).strands ≡ b.all s n act store units m
    untold-strands = ap (λ (x : World). x.strands) untold-world ∙ b.live_none s n act store units m live

    untold-seated : AreSeated s.code (world (run_of untold_run)).strands seats.items
    untold-seated =
        rw (untold-strands, are) (b.sit_by s n act store units m (seat.Away true false) (λ k y. SitsAt s.code (b.all s n act store units m) k y) not-closed (λ k y p. at k y p))
      where
        at : (k : ℕ) (y : Seat) → SitsHere s.code (b.all s n act store units m) k y → SitsAt s.code (b.all s n act store units m) k y
        at k (seat.Home u) p = p
        at k (seat.Away spent closed) p = p.1

        not-closed : false ≡ is_closed (b.all s n act store units m) n
        not-closed = sym (ap (λ o. option_map_or (λ (x : State). has_closed x.stance) o false) (b.there_next s n act store units m) ∙ goes_open (b.next s n act store units m).stance live)

    untold-by : IsSpentBy (run_of s) n (run_of untold_run)
    untold-by = record {
      due = record {
        ready = subst (λ (v : StrandState). IsReadyAs (run_of s) n v) (sym home) m.ready;
        st = standing m.strand;
        there = m.sits.there;
        want = m.act_done.want;
        wait = m.strand.about.waiting;
        asks = ap (λ (a : Ask). stance_in a m.strand.about.waiting) m.act_done.asks;
        fuel = m.fuel;
      };
      takes = takes_is untold;
      act = act;
      behind = b.behind s n act store units m;
      next = b.next_is s n act store units m;
      entries = noted.items;
      spent = number_of seats.items n (seat.Away true false) (ap (λ l. slice_get l n) are ∙ get_front (slice_set s.seats.items n (seat.Away true false)) units n (seat.Away true false) (set_same s.seats.items n m.at (seat.Away true false) m.there));
      stays = λ k x old ne.
          let o = get_mapped status_of s.seats.items k x old in
          number_of seats.items k o.0 (ap (λ l. slice_get l k) are ∙ get_front (slice_set s.seats.items n (seat.Away true false)) units k o.0 (get_other s.seats.items n k (seat.Away true false) o.0 ne o.1)) ∙ ap (λ (y : StrandState). Some y) o.2;
      fresh = λ k x none e. fresh_is k x none (get_mapped status_of seats.items k x e);
      many =
          length_map status_of seats.items ∙ ap (λ l. length l) are ∙ b.long s n act store units m (seat.Away true false) ∙ sym (ap (λ l. length l) untold-strands);
    }
      where
        of_unit : (i : ℕ) (x : StrandState) (y : Seat) → IsNewSeat s.code (b.new s n act store units m) (length s.seats.items) i y → status_of y ≡ x → x ≡ status.Home
        of_unit i x (seat.Home u) p e = sym e
        of_unit i x (seat.Away spent closed) p e = absurd p

        fresh_is : (k : ℕ) (x : StrandState) → slice_get (map status_of s.seats.items) k ≡ None → (y : Seat) × (slice_get seats.items k ≡ Some y) × (status_of y ≡ x) → x ≡ status.Home
        fresh_is k x none y = elim (parted (slice_set s.seats.items n (seat.Away true false)) units k y.0 (sym (ap (λ l. slice_get l k) are) ∙ y.1)) [
          | inl front ↦
              let p = is_within (slice_set s.seats.items n (seat.Away true false)) k y.0 front in
              let o = is_there s.seats.items k (omega (arith, p, length-set s.seats.items n (seat.Away true false))) in
              absurd (cc (number_of s.seats.items k o.0 o.1, none))
          | inr born ↦ of_unit born.0 x y.0 ((b.are_new s n act store units m).each born.0 y.0 born.2) y.2
        ]

    pub untold_is : FindsNoMemory (run_of s) n (run_of untold_run)
    untold_is = record { unended = m.goes.unended; same = (refl, refl); lost = (refl, m.goes.unended); after = inr untold-by }

    pub untold_sound : IsSound untold_run
    untold_sound = record {
      run = spent_keep (run_of s) (run_of untold_run) n m.sound.run m.goes (refl, refl) (refl, m.goes.unended) untold-by;
      room = noted.room;
      store = sym (ap (λ (x : World). x.store) untold-world);
      seats = untold-seated;
      passed = λ k marked. ap (λ (x : World). is_closed x.strands k) untold-world ∙ closed_on s.code (now s) n act (b.behind s n act store units m) (b.next_is s n act store units m) k (m.sound.passed k marked);
      rests = λ k marked. absurd (none_rest k marked);
      kin = subst (λ l. AreKin kin.items l) (sym untold-strands) (b.kin_all s n act store units m kin.items forks);
      joined = m.sound.joined;
      enough = m.sound.enough;
    }
