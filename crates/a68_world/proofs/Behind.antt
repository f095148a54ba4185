-- The run behind an act.
use Rattle.std.proofs.Common.{◌≡◌, ◌∙◌, ◌⊎◌, inl, inr, ℕ, ◌+◌, ◌-◌, ◌<◌, ◌≤◌, true, false, List, [], ◌∷◌, ◌++◌, length, length-append, map, refl, ap, sym, subst, arith, true≢false}
use Rattle.std.specs.Prelude.{Some, slice_get, slice_set, if◌then◌else◌}
use Rattle.std.specs.Option.{is_some, option_map_or}
use Rattle.std.proofs.Math.ListN.{length-set}
use Rattle.a68_acts.specs.Does.{Outcome, did, refused, does}
use Rattle.a68_acts.specs.Store.{Store}
use Rattle.a68_acts.specs.declared.want.Reply.{Reply}
use Rattle.a68_acts.specs.declared.want.Want.{Want}
use Rattle.a68_acts.specs.declared.want.Want.TheVariants as want
use Rattle.a68_code.specs.declared.code.Code.{Code}
use Rattle.a68_exec.proofs.Settled.{settle_rests}
use Rattle.a68_strand.proofs.Waking.{Goes, begun_goes, none_woken, goes_open, goes_waits}
use Rattle.a68_instructions.specs.Machine.{State, settle, next_state, replied}
use Rattle.a68_exec.specs.Runs.{World, acted, after, woken, has_closed, is_passive, is_closed, all_closed, begun, strands_after}
use Rattle.a68_strand.specs.Strands.{standing}
use Rattle.a68_instructions.specs.declared.ask.Ask.{Ask}
use Rattle.a68_instructions.specs.declared.ask.Stance.TheVariants.{Waits}
use Rattle.a68_instructions.specs.declared.ask.Ask.TheVariants as ask
use Rattle.a68_strand.specs.declared.strand.Strand.{Strand}
use Rattle.a68_values.specs.Logs.{Logged}
use Rattle.a68_values.specs.declared.act.Act.{Act}
use Rattle.a68_world.specs.Inside.{run_of, IsSound}
use Rattle.a68_world.specs.Run.{world}
use Rattle.a68_world.specs.Seats.{Sits, SitsAt, SitsHere, AreSeated, AllSit, status_of}
use Rattle.a68_world.specs.Stepping.{DoneFor, AreUnits, IsNewSeat, units_asked, units_at, units_begun}
use Rattle.a68_world.specs.Turns.{GoesOn, IsReadyAs}
use Rattle.a68_world.specs.declared.status.StrandState.{StrandState}
use Rattle.a68_world.specs.declared.status.StrandState.TheVariants.{Spent}
use Rattle.a68_world.specs.Kin.{AreKin, Forks, OnlyBehind, forker_at, pending_at}
use Rattle.a68_world.specs.Waking.{AllRest}
use Rattle.a68_world.specs.declared.kin.Kin.{Kin}
use Rattle.a68_world.specs.declared.seat.Seat.{Seat}
use Rattle.a68_world.specs.declared.seat.Seat.TheVariants as seat
use Rattle.a68_world.specs.declared.world.World.TheInside.{Inside}
use Rattle.a68_world.proofs.Kept.{none_spent}
use Rattle.a68_world.proofs.Places.{below_or_not, get_map, get_front, get_behind, get_other, is_there, is_within, parted, set_parted, set_same, length_map}
use Rattle.a68_world.proofs.Showing.{asking, next_act}
use Rattle.a68_world.proofs.Forking.{all_by, closed_all}
use Rattle.a68_world.proofs.Steady.{Steady, steady_run, waits_for}

-- ---- a run that goes on

-- the machine's world
abbrev pub now : Inside → World
now s = world (run_of s)

pub many_seats : (s : Inside) → IsSound s → length s.seats.items ≡ length (now s).strands
many_seats s sound = sym (length_map status_of s.seats.items) ∙ sound.run.all

sits-home : (code : Code) (strands : List State) (k : ℕ) (x : Seat) → SitsAt code strands k x → (status_of x ≡ Spent → ⊥) → SitsHere code strands k x
sits-home code strands k (seat.Home strand) p ne = p
sits-home code strands k (seat.Away false closed) p ne = (refl, p)
sits-home code strands k (seat.Away true closed) p ne = absurd (ne refl)

-- where no strand is spent each sits in the world, or is lent
pub all_sit : (code : Code) (strands : List State) (seats : List Seat) → AreSeated code strands seats → ((k : ℕ) → slice_get (map status_of seats) k ≡ Some Spent → ⊥) → AllSit code strands seats
all_sit code strands seats seated none k x e =
    sits-home code strands k x (seated k x e) (λ is. none k (get_map status_of seats k x e ∙ ap (λ (y : StrandState). Some y) is))

pub all_here : (s : Inside) → IsSound s → GoesOn (run_of s) → AllSit s.code (now s).strands s.seats.items
all_here s sound goes = all_sit s.code (now s).strands s.seats.items sound.seats (none_spent (run_of s) sound.run goes)

-- ---- an act

-- the journal with one entry more
pub record Noted (s : Inside) (n : ℕ) (act : Act) (journal : Logged) : Type 0 where
  pub items : journal.items ≡ s.journal.items ++ record { strand = n; act = act } ∷ []
  pub room : s.fuel ≤ journal.room

-- a strand, which stands in the world or is lent, asks for an act, which the store does, and its units have begun
pub record Moved (s : Inside) (n : ℕ) (act : Act) (store : Store) (units : List Seat) : Type 0 where
  pub sound : IsSound s
  pub goes : GoesOn (run_of s)
  pub where_ : StrandState
  pub ready : IsReadyAs (run_of s) n where_
  pub fuel : length s.journal.items < s.fuel
  pub strand : Strand
  pub at : Seat
  pub there : slice_get s.seats.items n ≡ Some at
  pub sits : Sits s.code (now s).strands n strand
  pub act_done : DoneFor s.store strand act store
  pub are : AreUnits s.code (units_begun s.code strand s.store) (length s.seats.items) units

-- what an act makes is what was begun
begun-asked : (code : Code) (strand : Strand) (w : Want) (store behind : Store) (act : Act) (told : Reply) → does w store ≡ did act told behind
    → begun code (standing strand) w ≡ units_at code strand.body.chain (units_asked (ask.Want w) store)
begun-asked code strand (want.Fork entrances) store behind act told e =
    sym (ap (λ (o : Outcome). units_at code strand.body.chain (if is_some (refused o) then [] else entrances)) e)
begun-asked code strand _ store behind act told e = refl

module _ (s : Inside) (n : ℕ) (act : Act) (store : Store) (units : List Seat) (m : Moved s n act store units) where
  abbrev pub st : State
  st = standing m.strand

  abbrev pub next : State
  next = settle s.code (replied s.code st m.act_done.reply)

  abbrev pub new : List State
  new = begun s.code st m.act_done.want

  abbrev pub all : List State
  all = slice_set (now s).strands n next ++ new

  abbrev pub behind : World
  behind = record { store = store; strands = strands_after s.code (now s).strands n next new }

  pub steady : Steady s.code (length s.journal.items) (now s)
  steady = steady_run (run_of s) m.sound.run

  -- the act is the machine's
  pub next_is : acted s.code (now s) n ≡ Some (act, behind)
  next_is =
      let x = asking m.strand m.act_done.want m.act_done.asks in
      next_act s.code (now s) n st m.act_done.want x.0 m.sits.there x.1
      ∙ ap (λ (t : Store). after s.code (now s) n st m.act_done.want (does m.act_done.want t)) (sym m.sound.store)
      ∙ ap (after s.code (now s) n st m.act_done.want) m.act_done.does_it

  new-is : new ≡ units_begun s.code m.strand s.store
  new-is =
      begun-asked s.code m.strand m.act_done.want s.store store act m.act_done.reply m.act_done.does_it
      ∙ sym (ap (λ (a : Ask). units_at s.code m.strand.body.chain (units_asked a s.store)) m.act_done.asks)

  pub are_new : AreUnits s.code new (length s.seats.items) units
  are_new = subst (λ (l : List State). AreUnits s.code l (length s.seats.items) units) (sym new-is) m.are

  pub fresh : (j : ℕ) (x : State) → slice_get new j ≡ Some x → Goes s.code x
  fresh j x e = begun_goes s.code st m.act_done.want j x e

  pub rest : AllRest s.code all
  rest k x e = elim (parted (slice_set (now s).strands n next) new k x e) [
    | inl front ↦ elim (set_parted (now s).strands n k next x front) [
      | inl here_ ↦ ap (next_state s.code) here_.1 ∙ settle_rests s.code (replied s.code st m.act_done.reply)
      | inr old ↦ steady.calm.rests k x old.1
    ]
    | inr born ↦ (fresh born.0 x born.2).0
  ]

  -- the strand had not closed
  pub was_open : is_closed (now s).strands n ≡ false
  was_open =
      let x = asking m.strand m.act_done.want m.act_done.asks in
      ap (λ o. option_map_or (λ (y : State). has_closed y.stance) o false) m.sits.there ∙ ap has_closed x.1

  pub long : (x : Seat) → length (slice_set s.seats.items n x ++ units) ≡ length all
  long x =
      omega (arith, length-append (slice_set s.seats.items n x) units, length-set s.seats.items n x, length-append (slice_set (now s).strands n next) new, length-set (now s).strands n next, are_new.long, many_seats s m.sound)

  pub there_next : slice_get all n ≡ Some next
  there_next = get_front (slice_set (now s).strands n next) new n next (set_same (now s).strands n st next m.sits.there)

  old-stays : (k : ℕ) (strand : Strand) → (k ≡ n → ⊥) → Sits s.code (now s).strands k strand → Sits s.code all k strand
  old-stays k strand ne p = record {
    number = p.number;
    there = get_front (slice_set (now s).strands n next) new k (standing strand) (get_other (now s).strands n k next (standing strand) ne p.there);
    shows = p.shows;
    room = p.room;
  }

  -- what has closed of the others
  old-closed : (k : ℕ) (st : State) → (k ≡ n → ⊥) → slice_get (now s).strands k ≡ Some st → is_closed (now s).strands k ≡ is_closed all k
  old-closed k st ne there =
      ap (λ o. option_map_or (λ (y : State). has_closed y.stance) o false) there
      ∙ sym (ap (λ o. option_map_or (λ (y : State). has_closed y.stance) o false) (get_front (slice_set (now s).strands n next) new k st (get_other (now s).strands n k next st ne there)))

  old-here : (k : ℕ) (x : Seat) → (k ≡ n → ⊥) → k < length s.seats.items → SitsHere s.code (now s).strands k x → SitsHere s.code all k x
  old-here k (seat.Home strand) ne h p = old-stays k strand ne p
  old-here k (seat.Away spent closed) ne h p =
      let st = is_there (now s).strands k (omega (arith, h, many_seats s m.sound)) in
      (p.0, p.1 ∙ old-closed k st.0 ne st.1)

  born-here : (k i : ℕ) (x : Seat) → k ≡ length s.seats.items + i → IsNewSeat s.code new (length s.seats.items) i x → SitsHere s.code all k x
  born-here k i (seat.Home strand) e u = record {
    number = u.0 ∙ sym e;
    there =
        let at : k ≡ length (slice_set (now s).strands n next) + i = omega (arith, e, length-set (now s).strands n next, many_seats s m.sound) in
        ap (slice_get all) at ∙ get_behind (slice_set (now s).strands n next) new i ∙ u.1;
    shows = u.2;
    room = u.3;
  }
  born-here k i (seat.Away spent closed) e u = absurd u

  -- where they sit before any is woken
  pub sit_by : (x : Seat) → (P : (k : ℕ) → Seat → Type 0) → P n x → ((k : ℕ) (y : Seat) → SitsHere s.code all k y → P k y)
      → (k : ℕ) (y : Seat) → slice_get (slice_set s.seats.items n x ++ units) k ≡ Some y → P k y
  sit_by x P told here_ k y e = elim (parted (slice_set s.seats.items n x) units k y e) [
    | inl front ↦ elim (set_parted s.seats.items n k x y front) [
      | inl is ↦ subst (λ j. P j y) (sym is.0) (subst (λ z. P n z) (sym is.1) told)
      | inr old ↦ here_ k y (old-here k y old.0 (is_within s.seats.items k y old.1) (all_here s m.sound m.goes k y old.1))
    ]
    | inr born ↦ here_ k y (born-here k born.0 y (omega (arith, born.1, length-set s.seats.items n x)) (are_new.each born.0 y born.2))
  ]

  -- ---- those that wait

  all-long : length all ≡ length (now s).strands + length new
  all-long = omega (arith, length-append (slice_set (now s).strands n next) new, length-set (now s).strands n next)

  -- where it waits it does so for the units that it has made
  waits-for : (f c : ℕ) → next.stance ≡ Waits f c → (f ≡ length (now s).strands) × (c ≡ length new)
  waits-for f c e =
      let x = asking m.strand m.act_done.want m.act_done.asks in
      waits_for s.code (length s.journal.items) (now s) n st m.act_done.want x.0 act m.act_done.reply store steady m.sits.there x.1 (ap (does m.act_done.want) (sym m.sound.store) ∙ m.act_done.does_it) f c e

  -- one that waits is this one, or has waited before
  waiter : (k : ℕ) (x : State) (f c : ℕ) → slice_get all k ≡ Some x → x.stance ≡ Waits f c
      → ((k ≡ n) × (f ≡ length (now s).strands) × (c ≡ length new)) ⊎ ((k ≡ n → ⊥) × (slice_get (now s).strands k ≡ Some x))
  waiter k x f c e waits = elim (parted (slice_set (now s).strands n next) new k x e) [
    | inl front ↦ elim (set_parted (now s).strands n k next x front) [
      | inl is ↦ let units_are = waits-for f c (sym (ap (λ (y : State). y.stance) is.1) ∙ waits) in inl (is.0, units_are.0, units_are.1)
      | inr old ↦ inr old
    ]
    | inr born ↦ goes_waits x.stance f c _ (fresh born.0 x born.2).1 waits
  ]

  -- what has closed stays so
  same-closed : (k : ℕ) → (k ≡ n → ⊥) → k < length (now s).strands → is_closed (now s).strands k ≡ is_closed all k
  same-closed k ne low = let x = is_there (now s).strands k low in old-closed k x.0 ne x.1

  still-closed : (k : ℕ) → k < length (now s).strands → is_closed (now s).strands k ≡ true → is_closed all k ≡ true
  still-closed k low closed = sym (same-closed k (λ is. true≢false (sym closed ∙ ap (is_closed (now s).strands) is ∙ was_open)) low) ∙ closed

  -- what is kept of those that made others
  pub kin_all : (kin : List Kin) → Forks s.kin.items n (length units) kin → AreKin kin all
  kin_all kin forks = record {
    long = omega (arith, forks.long, m.sound.kin.long, are_new.long, all-long);
    within = λ k x f c e w. elim (waiter k x f c e w) [
      | inl p ↦ omega (arith, all-long, p.1, p.2)
      | inr p ↦ omega (arith, all-long, m.sound.kin.within k x f c p.1 w)
    ];
    forker = λ k x f c e w i low high. elim (waiter k x f c e w) [
      | inl p ↦ born-forker k f c i p.0 p.1 p.2 low high
      | inr p ↦ forks.forkers i (omega (arith, high, m.sound.kin.within k x f c p.1 w, m.sound.kin.long)) ∙ m.sound.kin.forker k x f c p.1 w i low high
    ];
    closed = λ k x f c e w i low high. elim (waiter k x f c e w) [
      | inl p ↦ absurd (own-pending k f c i p.0 p.1 p.2 low high)
      | inr p ↦
          let there : k < length (now s).strands = is_within (now s).strands k x p.1 in
          let same : pending_at kin k ≡ pending_at s.kin.items k = forks.opens k (omega (arith, there, m.sound.kin.long)) p.0 in
          still-closed i (omega (arith, high, m.sound.kin.within k x f c p.1 w)) (m.sound.kin.closed k x f c p.1 w i (omega (arith, low, same)) high)
    ];
  }
    where
      born-forker : (k f c i : ℕ) → k ≡ n → f ≡ length (now s).strands → c ≡ length new → f ≤ i → i < f + c → forker_at kin i ≡ k
      born-forker k f c i is p q low high =
          let at : i ≡ length s.kin.items + (i - length s.kin.items) = omega (arith, low, p, m.sound.kin.long) in
          ap (forker_at kin) at ∙ forks.born (i - length s.kin.items) (omega (arith, low, high, p, q, m.sound.kin.long, are_new.long)) ∙ sym is

      own-pending : (k f c i : ℕ) → k ≡ n → f ≡ length (now s).strands → c ≡ length new → f + pending_at kin k ≤ i → i < f + c → ⊥
      own-pending k f c i is p q low high =
          let own : pending_at kin n ≡ length units = forks.own (omega (arith, low, high, q, are_new.long)) (omega (arith, is_within (now s).strands n st m.sits.there, m.sound.kin.long)) in
          absurd (omega (arith, low, high, ap (pending_at kin) is, own, q, are_new.long))

  -- one that is due waits for this one, or is it
  pub only_behind : OnlyBehind all n
  only_behind k r = elim (waiter k r.st r.first r.count r.there r.waits) [
    | inl p ↦ inl p.0
    | inr old ↦ inr (in-range old.1 (below_or_not n r.first) (below_or_not n (r.first + r.count)))
  ]
    where
      Behind : Type 0
      Behind = (is_closed all n ≡ true) × (r.first ≤ n) × (n < r.first + r.count)

      -- else it was due before
      apart : slice_get (now s).strands k ≡ Some r.st → ((i : ℕ) → r.first ≤ i → i < r.first + r.count → i ≡ n → ⊥) → ⊥
      apart old ne =
          let within = m.sound.kin.within k r.st r.first r.count old r.waits in
          let before : all_closed (now s).strands r.first r.count ≡ true = all_by (now s).strands r.first r.count (λ i low high. same-closed i (ne i low high) (omega (arith, high, within)) ∙ closed_all all r.first r.count r.closed i low high) in
          true≢false (sym before ∙ steady.calm.due k r.st r.first r.count old r.waits)

      in-range : slice_get (now s).strands k ≡ Some r.st → (n < r.first) ⊎ (r.first ≤ n) → (n < r.first + r.count) ⊎ (r.first + r.count ≤ n) → Behind
      in-range old (inl less) high = absurd (apart old (λ i low to is. absurd (omega (arith, low, is, less))))
      in-range old (inr from) (inr more) = absurd (apart old (λ i low to is. absurd (omega (arith, to, is, more))))
      in-range old (inr from) (inl to) = (closed_all all r.first r.count r.closed n from to, from, to)

  -- an act behind which the strand goes on wakes none
  pub live_none : is_passive next.stance ≡ false → map (woken s.code all) all ≡ all
  live_none live =
      none_woken s.code (now s).strands new n next steady.calm was_open (settle_rests s.code (replied s.code st m.act_done.reply)) (goes_open next.stance live)
      (λ f c e. goes_waits next.stance f c _ live e) fresh
