-- A strand that is lent is the replay of its own entries in every longer journal that has no further entry of it.
use Rattle.std.proofs.Common.{◌≡◌, ◌∙◌, inl, inr, ℕ, zero, suc, ◌+◌, Bool, true, false, List, [], ◌∷◌, ◌++◌, length, map, refl, ap, sym, subst, true≢false}
use Rattle.std.proofs.lemmas.Bool.{false≢true}
use Rattle.std.specs.Prelude.{⊤, ◌&&◌, None, Some, slice_get, slice_set, if◌then◌else◌}
use Rattle.std.specs.Option.{option_map_or}
use Rattle.std.specs.declared.option.Option.{Option}
use Rattle.a68_acts.specs.Does.{did, does}
use Rattle.a68_acts.specs.declared.want.Reply.{Reply}
use Rattle.a68_code.specs.declared.code.Code.{Code}
use Rattle.a68_exec.proofs.Alive.{active}
use Rattle.a68_exec.proofs.Settled.{settle_rests}
use Rattle.a68_exec.specs.Runs.{World, Machine, IfNext, opening, acted, begun, has_closed, is_closed, all_closed, woken, woken_in}
use Rattle.a68_instructions.specs.Machine.{State, next_state, replied, settle}
use Rattle.a68_instructions.specs.declared.ask.Stance.{Stance}
use Rattle.a68_instructions.specs.declared.ask.Stance.TheVariants.{Idle, Asking, Failed, Waits, Closed}
use Rattle.a68_strand.proofs.Waking.{all_same, begun_goes, goes_waits, woken_still}
use Rattle.a68_strand.specs.Strands.{HasSettled, standing, LeavesRoom}
use Rattle.a68_strand.specs.declared.strand.Strand.{Strand}
use Rattle.a68_values.specs.declared.act.Act.{Act}
use Rattle.a68_values.specs.declared.act.Entry.{Entry}
use Rattle.a68_world.specs.Leases.{IsReplay, IsHeld, Replies}
use Rattle.a68_world.specs.Run.{Run, IsSoundRun, world}
use Rattle.a68_world.specs.Turns.{ActsAs}
use Rattle.a68_world.specs.Waking.{AllRest}
use Rattle.a68_world.specs.Worlds.{world_of, IsJournal}
use Rattle.a68_world.specs.declared.status.StrandState.TheVariants.{Lent}
use Rattle.a68_world.proofs.Journals.{goes_is}
use Rattle.a68_world.proofs.Kept.{world_behind}
use Rattle.a68_world.proofs.Places.{get_map, get_front, get_one, get_other, parted, set_parted, set_same}
use Rattle.a68_world.proofs.Rousing.{closed_mapped}
use Rattle.a68_world.proofs.Showing.{asking}
use Rattle.a68_world.proofs.Steady.{Acted, Steady, acted_is, steady_goes, steady_more, steady_opening, steady_run}

-- no entry is of this strand
abbrev pub Others : ℕ → List Entry → Type 0
Others k [] = ⊤
Others k (e ∷ es) = (e.strand ≡ k → ⊥) × Others k es

-- ---- what has closed stays so

is_closed_at : (xs : List State) (j : ℕ) (x : State) → slice_get xs j ≡ Some x → is_closed xs j ≡ has_closed x.stance
is_closed_at xs j x e = ap (λ o. option_map_or (λ (y : State). has_closed y.stance) o false) e

closed-stays : (xs new : List State) (n : ℕ) (next : State) (j : ℕ) → is_closed xs n ≡ false → is_closed xs j ≡ true → is_closed (slice_set xs n next ++ new) j ≡ true
closed-stays xs new n next j open_ e = by (slice_get xs j) refl
  where
    by : (o : Option State) → slice_get xs j ≡ o → is_closed (slice_set xs n next ++ new) j ≡ true
    by None f = absurd (true≢false (sym e ∙ ap (λ o. option_map_or (λ (y : State). has_closed y.stance) o false) f))
    by (Some x) f =
        let apart : j ≡ n → ⊥ = λ s. true≢false (sym e ∙ ap (is_closed xs) s ∙ open_) in
        is_closed_at (slice_set xs n next ++ new) j x (get_front (slice_set xs n next) new j x (get_other xs n j next x apart f)) ∙ sym (is_closed_at xs j x f) ∙ e

both : (a b : Bool) → (a && b) ≡ true → (a ≡ true) × (b ≡ true)
both true b e = (refl, e)
both false b e = absurd (false≢true e)

all-stay : (xs ys : List State) → ((j : ℕ) → is_closed xs j ≡ true → is_closed ys j ≡ true) → (f c : ℕ) → all_closed xs f c ≡ true → all_closed ys f c ≡ true
all-stay xs ys stays f zero e = refl
all-stay xs ys stays f (suc c) e =
    let p = both (is_closed xs f) (all_closed xs (suc f) c) e in
    ap (λ b. b && all_closed ys (suc f) c) (stays f p.0) ∙ all-stay xs ys stays (suc f) c p.1

-- ---- told to go on then or now

woken-alike : (code : Code) (xs ys : List State) (st : State) → ((f c : ℕ) → all_closed xs f c ≡ all_closed ys f c) → woken code xs st ≡ woken code ys st
woken-alike code xs ys st same = by st.stance
  where
    by : (m : Stance) → settle code (woken_in xs st m) ≡ settle code (woken_in ys st m)
    by Idle = refl
    by (Asking w wait) = refl
    by (Failed why) = refl
    by (Waits f c) = ap (λ (b : Bool). settle code (if b then record st { at = suc st.at; stance = Idle } else st)) (same f c)
    by Closed = refl

released : (code : Code) (xs : List State) (st : State) (f c : ℕ) → st.stance ≡ Waits f c → all_closed xs f c ≡ true → woken code xs st ≡ settle code (record st { at = suc st.at; stance = Idle })
released code xs st f c waits closed =
    ap (λ (m : Stance). settle code (woken_in xs st m)) waits ∙ ap (λ (b : Bool). settle code (if b then record st { at = suc st.at; stance = Idle } else st)) closed

-- behind further acts it comes to the same
comes : (code : Code) (xs all : List State) (st : State) → ((f c : ℕ) → all_closed xs f c ≡ true → all_closed all f c ≡ true) → next_state code st ≡ None
    → woken code all (woken code xs st) ≡ woken code all st
comes code xs all st stays rests = by st.stance refl
  where
    still : ((f c : ℕ) → st.stance ≡ Waits f c → all_closed xs f c ≡ false) → woken code all (woken code xs st) ≡ woken code all st
    still due = ap (woken code all) (woken_still code xs st rests due)

    waiting : (f c : ℕ) → st.stance ≡ Waits f c → (b : Bool) → all_closed xs f c ≡ b → woken code all (woken code xs st) ≡ woken code all st
    waiting f c e false t =
        still (λ a b g.
        let same : Waits a b ≡ Waits f c = sym g ∙ e in
        let p : a ≡ f = cc in
        let q : b ≡ c = cc in
        ap (λ k. all_closed xs k b) p ∙ ap (λ k. all_closed xs f k) q ∙ t)
    waiting f c e true t =
        let go : State = record st { at = suc st.at; stance = Idle } in
        ap (woken code all) (released code xs st f c e t)
        ∙ woken_still code all (settle code go) (settle_rests code go) (λ a b g. goes_waits (settle code go).stance a b (all_closed all a b ≡ false) (active code go refl) g)
        ∙ sym (released code all st f c e (stays f c t))

    by : (m : Stance) → st.stance ≡ m → woken code all (woken code xs st) ≡ woken code all st
    by Idle e = still (λ f c g. absurd (cc (e, g)))
    by (Asking w wait) e = still (λ f c g. absurd (cc (e, g)))
    by (Failed why) e = still (λ f c g. absurd (cc (e, g)))
    by Closed e = still (λ f c g. absurd (cc (e, g)))
    by (Waits f c) e = waiting f c e (all_closed xs f c) refl

-- ---- one act

-- the strand stands as the machine has it, but for a Go
abbrev pub Stands : Code → World → ℕ → State → Type 0
Stands code w k st = slice_get w.strands k ≡ Some (woken code w.strands st)

module _ (code : Code) (count : ℕ) (w : World) (n : ℕ) (act : Act) (behind : World) (steady : Steady code count w) (a : Acted code w n act behind) where
  next : State
  next = settle code (replied code a.st a.reply)

  abbrev all : List State
  all = slice_set w.strands n (settle code (replied code a.st a.reply)) ++ begun code a.st a.want

  rest : AllRest code all
  rest k st there = elim (parted (slice_set w.strands n (settle code (replied code a.st a.reply))) (begun code a.st a.want) k st there) [
    | inl front ↦ elim (set_parted w.strands n k (settle code (replied code a.st a.reply)) st front) [
      | inl here_ ↦ ap (next_state code) here_.1 ∙ settle_rests code (replied code a.st a.reply)
      | inr other ↦ steady.calm.rests k st other.1
    ]
    | inr born ↦ (begun_goes code a.st a.want born.0 st born.2).0
  ]

  was-open : is_closed w.strands n ≡ false
  was-open = is_closed_at w.strands n a.st a.there ∙ ap has_closed a.asks

  mapped : (f c : ℕ) → all_closed (map (woken code all) all) f c ≡ all_closed all f c
  mapped f c = all_same (map (woken code all) all) all (closed_mapped code all rest) f c

  -- another strand stands so still
  other_stands : (k : ℕ) (st : State) → (n ≡ k → ⊥) → next_state code st ≡ None → Stands code w k st → slice_get (map (woken code all) all) k ≡ Some (woken code (map (woken code all) all) st)
  other_stands k st ne rests e =
      get_map (woken code all) all k (woken code w.strands st)
      (get_front (slice_set w.strands n (settle code (replied code a.st a.reply))) (begun code a.st a.want) k (woken code w.strands st)
      (get_other w.strands n k (settle code (replied code a.st a.reply)) (woken code w.strands st) (λ s. ne (sym s)) e))
      ∙ ap (λ (x : State). Some x)
      (comes code w.strands all st (all-stay w.strands all (λ j. closed-stays w.strands (begun code a.st a.want) n (settle code (replied code a.st a.reply)) j was-open)) rests
      ∙ sym (woken-alike code (map (woken code all) all) all st mapped))

  -- so does the one that has acted, once it has been told
  own_stands : slice_get (map (woken code all) all) n ≡ Some (woken code (map (woken code all) all) (settle code (replied code a.st a.reply)))
  own_stands =
      get_map (woken code all) all n (settle code (replied code a.st a.reply))
      (get_front (slice_set w.strands n (settle code (replied code a.st a.reply))) (begun code a.st a.want) n (settle code (replied code a.st a.reply))
      (set_same w.strands n a.st (settle code (replied code a.st a.reply)) a.there))
      ∙ ap (λ (x : State). Some x) (sym (woken-alike code (map (woken code all) all) all (settle code (replied code a.st a.reply)) mapped))

  stands_behind : (k : ℕ) (st : State) → (n ≡ k → ⊥) → next_state code st ≡ None → Stands code w k st → Stands code behind k st
  stands_behind k st ne rests e = subst (λ (x : World). Stands code x k st) (sym a.is) (other_stands k st ne rests e)

-- ---- a longer journal

module _ (code : Code) (k : ℕ) (st : State) (rests : next_state code st ≡ None) where
  stands-next : (count : ℕ) (w v : World) (n : ℕ) (act : Act) (es : List Entry) (o : Option (Act × World)) → acted code w n ≡ o → Steady code count w → (n ≡ k → ⊥) → Stands code w k st
      → ((b : World) → Steady code (suc count) b → Stands code b k st → Machine code b es v → Stands code v k st) → IfNext o act (λ b. Machine code b es v) → Stands code v k st
  stands-next count w v n act es None e steady ne stands more runs = absurd runs
  stands-next count w v n act es (Some p) e steady ne stands more runs =
      more p.1 (steady_more code count w n p.0 p.1 steady e) (stands_behind code count w n p.0 p.1 steady (acted_is code w n p.0 p.1 e) k st ne rests stands) runs.1

  stands_on : (count : ℕ) (w v : World) (es : List Entry) → Others k es → Steady code count w → Machine code w es v → Stands code w k st → Stands code v k st
  stands_on count w v [] others steady runs stands = subst (λ (x : World). Stands code x k st) runs stands
  stands_on count w v (e ∷ es) others steady runs stands =
      stands-next count w v e.strand e.act es (acted code w e.strand) refl steady others.0 stands (λ b t s r. stands_on (suc count) b v es others.1 t r s) runs

-- the replay in a journal is the replay in every longer one without a further entry of the strand
pub replay_longer : (old new : Run) (more : List Entry) (strand : Strand) → IsSoundRun old → new.code ≡ old.code → new.entries ≡ old.entries ++ more → Machine old.code (world old) more (world new)
    → Others strand.number more → IsReplay old.code old.entries strand → IsReplay new.code new.entries strand
replay_longer old new more strand sound code entries runs others r =
    subst (λ (c : Code). IsReplay c new.entries strand) (sym code) (record {
      stands =
          let to : world_of old.code new.entries ≡ world new = ap (λ c. world_of c new.entries) (sym code) in
          subst (λ (w : World). Stands old.code w strand.number (standing strand)) (sym to)
          (stands_on old.code strand.number (standing strand) r.rests (length old.entries) (world old) (world new) more others (steady_run old sound) runs r.stands);
      rests = r.rests;
      shows = r.shows;
      room = r.room;
    })

-- ---- behind an act of its own

-- a strand that asks stands as the machine has it
pub stands_awake : (code : Code) (w : World) (k : ℕ) (st : State) → next_state code st ≡ None → ((f c : ℕ) → st.stance ≡ Waits f c → ⊥) → Stands code w k st → slice_get w.strands k ≡ Some st
stands_awake code w k st rests awake e = e ∙ ap (λ (x : State). Some x) (woken_still code w.strands st rests (λ f c g. absurd (awake f c g)))

-- told the reply, it is the replay of its own entries again
pub replay_told : (old new : Run) (strand t : Strand) (told : Reply) → IsSoundRun old → IsHeld old strand → ActsAs old strand.number Lent new → Replies old strand told
    → HasSettled old.code (replied old.code (standing strand) told) t → t.number ≡ strand.number → LeavesRoom old.code strand t → IsReplay new.code new.entries t
replay_told old new strand t told sound held acts replies settled number keeps =
    let n = strand.number in
    let x = asking strand replies.want replies.asks in
    let a = acted_is old.code (world old) n acts.act acts.behind acts.next in
    let there : slice_get (world old).strands n ≡ Some (standing strand) =
    stands_awake old.code (world old) n (standing strand) held.replay.rests (λ f c g. let e = x.1 in absurd (cc (e, g))) held.replay.stands in
    let st : a.st ≡ standing strand = get_one (world old).strands n a.st (standing strand) a.there there in
    let ask : Asking a.want a.wait ≡ Asking replies.want x.0 = sym a.asks ∙ ap (λ (y : State). y.stance) st ∙ x.1 in
    let want : a.want ≡ replies.want = cc in
    let did_both : did acts.act a.reply a.store ≡ did replies.act told replies.behind = sym a.does_it ∙ ap (λ v. does v (world old).store) want ∙ replies.does_it in
    let same : a.reply ≡ told = cc in
    let to : standing t ≡ settle old.code (replied old.code a.st a.reply) =
    settled.state ∙ ap (λ r. settle old.code (replied old.code (standing strand) r)) (sym same) ∙ ap (λ (y : State). settle old.code (replied old.code y a.reply)) (sym st) in
    let behind : world new ≡ acts.behind = world_behind old new n acts.act acts.behind acts.same.0 acts.entries acts.next in
    let own = own_stands old.code (length old.entries) (world old) n acts.act acts.behind (steady_run old sound) a in
    let stands : Stands old.code (world new) n (settle old.code (replied old.code a.st a.reply)) =
    subst (λ (w : World). Stands old.code w n (settle old.code (replied old.code a.st a.reply))) (sym (behind ∙ a.is)) own in
    let at : world_of old.code new.entries ≡ world new = ap (λ c. world_of c new.entries) (sym acts.same.0) in
    subst (λ (c : Code). IsReplay c new.entries t) (sym acts.same.0) (record {
      stands =
          subst (λ (w : World). Stands old.code w t.number (standing t)) (sym at)
          (subst (λ (y : State). Stands old.code (world new) t.number y) (sym to) (subst (λ k. Stands old.code (world new) k (settle old.code (replied old.code a.st a.reply))) (sym number) stands));
      rests = ap (next_state old.code) to ∙ settle_rests old.code (replied old.code a.st a.reply);
      shows = record { ask = settled.ask; place = settled.place };
      room = keeps held.replay.room;
    })

-- ---- journals

split-next : (code : Code) (o : Option (Act × World)) (act : Act) (es more : List Entry) (v : World)
    → ((x : World) → Machine code x (es ++ more) v → (u : World) × Machine code x es u × Machine code u more v)
    → IfNext o act (λ x. Machine code x (es ++ more) v) → (u : World) × IfNext o act (λ x. Machine code x es u) × Machine code u more v
split-next code None act es more v again runs = absurd runs
split-next code (Some p) act es more v again runs = let r = again p.1 runs.1 in (r.0, (runs.0, r.1), r.2)

-- a journal is its beginning, and then the rest
pub machine_split : (code : Code) (w : World) (es more : List Entry) (v : World) → Machine code w (es ++ more) v → (u : World) × Machine code w es u × Machine code u more v
machine_split code w [] more v runs = (w, refl, runs)
machine_split code w (e ∷ es) more v runs = split-next code (acted code w e.strand) e.act es more v (λ x r. machine_split code x es more v r) runs

-- the replay in a beginning of a journal, behind which no entry is of the strand, is the replay in the journal
pub replay_on : (code : Code) (es more : List Entry) (strand : Strand) → IsJournal code (es ++ more) → Others strand.number more → IsReplay code es strand → IsReplay code (es ++ more) strand
replay_on code es more strand runs others r =
    let p = machine_split code (opening code) es more (world_of code (es ++ more)) runs in
    let is : world_of code es ≡ p.0 = goes_is code (opening code) es p.0 p.1 in
    let steady = steady_goes code 0 (opening code) p.0 es (steady_opening code) p.1 in
    record {
      stands =
          stands_on code strand.number (standing strand) r.rests (0 + length es) p.0 (world_of code (es ++ more)) more others steady p.2
          (subst (λ (w : World). Stands code w strand.number (standing strand)) is r.stands);
      rests = r.rests;
      shows = r.shows;
      room = r.room;
    }
