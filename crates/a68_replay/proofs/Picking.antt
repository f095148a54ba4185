-- Runs whose strands are turned by picks.
use Rattle.std.proofs.Common.{◌≡◌, ◌∙◌, ◌⊎◌, inl, inr, ℕ, zero, suc, ◌+◌, ◌-◌, max, append_assoc, ◌<◌, ◌≤◌, ◌++◌, Bool, true, false, List, [], ◌∷◌, length, refl, ap, sym, subst, arith, true≢false, append-nil, length-append, get_or, take, take_all}
use Rattle.std.proofs.lemmas.Bool.{cases_lt}
use Rattle.std.proofs.lemmas.Option.{slice_get-get_or}
use Rattle.std.specs.Prelude.{MatchBool, None, Some, IfSome, slice_get}
use Rattle.std.specs.Option.{is_some, option_map_or}
use Rattle.std.specs.declared.option.Option.{Option}
use Rattle.a68_base.specs.declared.limits.TheConstants.{MOST_FUEL}
use Rattle.a68_code.specs.declared.code.Code.{Code}
use Rattle.a68_exec.specs.Runs.{World, opening}
use Rattle.a68_replay.specs.Following.{AreOwn, Follows, GoesOwn, HasAllHome, HasNoPick, TakesPick, own_picks, picks_so_far}
use Rattle.a68_replay.specs.Replays.{HasNoTurn, IsShort, LeadTo, Replays, behind_fault, unready}
use Rattle.a68_replay.specs.Schedules.{last_pick, strands_of}
use Rattle.a68_replay.specs.declared.picks.TheConstants.{MOST_PICKS}
use Rattle.a68_replay.specs.declared.turning.Replayed.TheVariants as comes
use Rattle.a68_strand.specs.Cyclic.{HasTurn}
use Rattle.a68_strand.specs.Ends.{RunEndsWith, done, fault, all_halted, spent}
use Rattle.a68_strand.specs.RunOf.{RunOf}
use Rattle.a68_values.specs.declared.act.Entry.{Entry}
use Rattle.a68_values.specs.declared.kept.End.{End}
use Rattle.a68_values.specs.declared.kept.End.TheVariants as ends
use Rattle.a68_values.specs.declared.kept.Kept.{Kept}
use Rattle.a68_world.proofs.Ended.{turn_open}
use Rattle.a68_world.proofs.Places.{get_one, is_there, is_within, length_map}
use Rattle.a68_world.proofs.Showing.{turn_there}
use Rattle.a68_world.specs.Alone.{ActsAlone, AllOwn, GoneAlone}
use Rattle.a68_world.specs.Run.{AllHome, EndsWithoutTurn, IsNumber, IsSoundRun, Run, RunBegins, world}
use Rattle.a68_world.specs.Turns.{Acts, EndsAt, EndsHere, FinishesRun, HadEnded, IsNotReady, IsOf, SetsEnd}
use Rattle.a68_world.specs.declared.status.StrandState.{StrandState}
use Rattle.a68_world.specs.declared.status.StrandState.TheVariants as status

-- ---- the picks of a run

strands_more : (xs ys : List Entry) → strands_of (xs ++ ys) ≡ strands_of xs ++ strands_of ys
strands_more [] ys = refl
strands_more (x ∷ xs) ys = ap (λ (l : List ℕ). x.strand ∷ l) (strands_more xs ys)

unended_picks : (run : Run) → run.end ≡ None → picks_so_far run ≡ strands_of run.entries
unended_picks run e = ap (λ (o : Option End). strands_of run.entries ++ option_map_or last_pick o []) e ∙ append-nil (strands_of run.entries)

-- an end that needs no turn is no fault
no_pick : (code : Code) (w : World) (o : Option End) → EndsWithoutTurn code w o → option_map_or last_pick o [] ≡ []
no_pick code w None h = refl
no_pick code w (Some ends.Done) h = refl
no_pick code w (Some ends.AllHalted) h = refl
no_pick code w (Some (ends.Fault why place strand)) h = absurd h
no_pick code w (Some ends.Spent) h = absurd h

set_by : (new : Run) → SetsEnd new → (o : Option End) → new.end ≡ o → option_map_or last_pick o [] ≡ []
set_by new s None is = refl
set_by new s (Some e) is = no_pick new.code (world new) (Some e) (subst (λ (o : Option End). EndsWithoutTurn new.code (world new) o) is (s.whole home))
  where
    home : AllHome new.status
    home k status.Home at = refl
    home k status.Lent at = let none = s.parted k status.Lent at (λ x. absurd (cc)) in absurd (cc)
    home k status.Spent at = let none = s.parted k status.Spent at (λ x. absurd (cc)) in absurd (cc)

-- there are as many entries as picks, or one less
entries_few : (run : Run) → length run.entries ≤ length (picks_so_far run)
entries_few run =
    omega (arith, length_map (λ (e : Entry). e.strand) run.entries, length-append (strands_of run.entries) (option_map_or last_pick run.end []))

-- ---- the beginning

first_home : (k : ℕ) (there : StrandState) → slice_get (status.Home ∷ []) k ≡ Some there → there ≡ status.Home
first_home zero there e = cc
first_home (suc k) there e = absurd (cc)

pub begins_home : (code : Code) (fuel : ℕ) (run : Run) → RunBegins code fuel run → HasAllHome run
begins_home code fuel run b kept k there at = first_home k there (ap (λ (r : Run). slice_get r.status k) (sym b.is) ∙ at)

pub begins_empty : (code : Code) (fuel : ℕ) (run : Run) → RunBegins code fuel run → picks_so_far run ≡ []
begins_empty code fuel run b = ap picks_so_far b.is ∙ no_pick code (opening code) run.end b.ends

pub begins_fuel : (code : Code) (fuel : ℕ) (run : Run) → RunBegins code fuel run → run.fuel ≡ fuel
begins_fuel code fuel run b = ap (λ (r : Run). r.fuel) b.is

-- ---- a turn

acted_picks : (old new : Run) (n : ℕ) → Acts old n new → picks_so_far new ≡ picks_so_far old ++ n ∷ []
acted_picks old new n a =
    ap (λ (l : List ℕ). strands_of new.entries ++ l) (set_by new a.ends new.end refl) ∙ append-nil (strands_of new.entries) ∙ ap strands_of a.entries
    ∙ strands_more old.entries (record { strand = n; act = a.act } ∷ []) ∙ ap (λ (l : List ℕ). l ++ n ∷ []) (sym (unended_picks old a.goes_on.unended))

module _ (old new : Run) (n : ℕ) (a : Acts old n new) (home : AllHome old.status) (kept : new.lost ≡ false) where
  own_home : (there : StrandState) → IsNumber new n there → there ≡ status.Home
  own_home there at = elim a.stays [
    | inl h ↦ get_one new.status n there status.Home at h
    | inr s ↦ absurd (true≢false (sym s.1 ∙ kept))
  ]

  other_home : (k : ℕ) (there : StrandState) (o : Option StrandState) → slice_get old.status k ≡ o → (k ≡ n → ⊥) → IsNumber new k there → there ≡ status.Home
  other_home k there None e apart at = a.seated.fresh k there e at
  other_home k there (Some s) e apart at = elim (a.seated.stays k s e apart) [
    | inl h ↦ get_one new.status k there s at h ∙ home k s e
    | inr l ↦ absurd (true≢false (sym l.3 ∙ kept))
  ]

  acted_home : AllHome new.status
  acted_home k there at = by (cases_lt k n) (cases_lt n k)
    where
      by : (k < n) ⊎ (n ≤ k) → (n < k) ⊎ (k ≤ n) → there ≡ status.Home
      by (inl p) q = other_home k there (slice_get old.status k) refl (λ e. omega (arith, e, p)) at
      by (inr p) (inl q) = other_home k there (slice_get old.status k) refl (λ e. omega (arith, e, q)) at
      by (inr p) (inr q) = let same : k ≡ n = omega (arith, p, q) in own_home there (subst (λ (j : ℕ). IsNumber new j there) same at)

pub picked_by_act : (old new : Run) (n : ℕ) → HasAllHome old → Acts old n new → TakesPick old n new
picked_by_act old new n home a = (a.same, acted_picks old new n a, λ kept. acted_home old new n a (home a.goes_on.kept) kept)

module _ (old : Run) (n : ℕ) (room : length old.entries < old.fuel) where
  end_pick : (e : End) → EndsAt old n e → strands_of old.entries ++ last_pick e ≡ strands_of old.entries ++ n ∷ []
  end_pick ends.Done h = absurd h
  end_pick ends.AllHalted h = absurd h
  end_pick (ends.Fault why place strand) h = ap (λ (k : ℕ). strands_of old.entries ++ k ∷ []) h.0
  end_pick ends.Spent h = let full = h.0 in absurd (omega (arith, room, full))

  pub picked_by_end : (new : Run) (e : End) → HasAllHome old → old.end ≡ None → HadEnded old e new ⊎ EndsHere old n e new → TakesPick old n new
  picked_by_end new e home none (inl h) = let some = h.end in absurd (cc)
  picked_by_end new e home none (inr h) = (
    subst (λ (r : Run). IsOf old r) (sym h.after) (refl, refl),
    ap picks_so_far h.after ∙ end_pick e h.ends ∙ ap (λ (l : List ℕ). l ++ n ∷ []) (sym (unended_picks old none)),
    subst (λ (r : Run). HasAllHome r) (sym h.after) home,
  )

-- ---- no turn

leads : (run : Run) (picks : List ℕ) → IsSoundRun run → strands_of run.entries ≡ picks → LeadTo run.code picks (world run)
leads run picks known is = record { entries = run.entries; runs = known.runs; strands = is }

module _ (run : Run) (n : ℕ) (known : IsSoundRun run) (room : length run.entries < run.fuel) where
  none_by : (e : End) → RunEndsWith run.code run.fuel run.entries (world run) e → HasNoTurn run.code (strands_of run.entries ++ last_pick e) n
  none_by ends.Done (done h) = unready (leads run (strands_of run.entries ++ []) known (sym (append-nil (strands_of run.entries)))) (λ turn. turn_open run known n turn h)
  none_by ends.AllHalted (all_halted un none free) =
      unready (leads run (strands_of run.entries ++ []) known (sym (append-nil (strands_of run.entries)))) (λ turn. elim turn [ inl can ↦ none n can | inr f ↦ f (free n) ])
  none_by (ends.Fault why place strand) (fault un f there at) = behind_fault (record {
    before = strands_of run.entries;
    strand = strand;
    all = refl;
    world = world run;
    lead = leads run (strands_of run.entries) known refl;
    unended = un;
    kind = why;
    fault = f;
  })
  none_by ends.Spent (spent s un full act) = absurd (omega (arith, full, room))

  -- behind the end of a run
  pub none_behind_end : (e : End) → run.end ≡ Some e → HasNoTurn run.code (picks_so_far run) n
  none_behind_end e is =
      subst (λ (o : Option End). HasNoTurn run.code (strands_of run.entries ++ option_map_or last_pick o []) n) (sym is)
      (none_by e (subst (λ (o : Option End). IfSome o (RunEndsWith run.code run.fuel run.entries (world run))) is known.ended))

home_of : (run : Run) (n : ℕ) → IsSoundRun run → AllHome run.status → HasTurn run.code (world run) n → IsNumber run n status.Home
home_of run n known home turn =
    let st = turn_there run.code (world run) n turn in
    let there = is_there run.status n (omega (arith, known.all, is_within (world run).strands n st.0 st.1)) in
    subst (λ (s : StrandState). IsNumber run n s) (home n there.0 there.1) there.1

-- where its strand is not ready
pub none_unready : (run new : Run) (n : ℕ) → IsSoundRun run → HasAllHome run → IsNotReady run n new → HasNoPick run n new
none_unready run new n known home h = (
  h.after,
  unready (leads run (picks_so_far run) known (sym (unended_picks run h.goes_on.unended)))
      (λ turn. h.unready (record { home = home_of run n known (home h.goes_on.kept) turn; turn = turn })),
)

-- ---- all picks

-- the run has turned the first picks
pub record IsFollowing (old : Run) (picks : List ℕ) (i : ℕ) (now : Run) : Type 0 where
  pub same : IsOf old now
  pub picked : picks_so_far now ≡ take i picks
  pub home : HasAllHome now

pub follows_first : (old : Run) (picks : List ℕ) → RunBegins old.code MOST_FUEL old → IsFollowing old picks 0 old
follows_first old picks b = record { same = (refl, refl); picked = begins_empty old.code MOST_FUEL old b; home = begins_home old.code MOST_FUEL old b }

take_next : (picks : List ℕ) (i pick : ℕ) → slice_get picks i ≡ Some pick → take (suc i) picks ≡ take i picks ++ pick ∷ []
take_next [] i pick e = absurd (cc)
take_next (p ∷ picks) zero pick e = let same : p ≡ pick = cc in ap (λ (x : ℕ). x ∷ []) same
take_next (p ∷ picks) (suc i) pick e = ap (λ (l : List ℕ). p ∷ l) (take_next picks i pick e)

take_few : (picks : List ℕ) (i : ℕ) → length (take i picks) ≤ i
take_few [] zero = omega arith
take_few [] (suc i) = omega arith
take_few (p ∷ picks) zero = omega arith
take_few (p ∷ picks) (suc i) = let few = take_few picks i in omega (arith, few)

module _ (old : Run) (picks : List ℕ) (i : ℕ) (now : Run) (f : IsFollowing old picks i now) where
  pub has_fuel : RunBegins old.code MOST_FUEL old → i < length picks → length picks ≤ MOST_PICKS → length now.entries < now.fuel
  has_fuel b low few =
      let fuel : now.fuel ≡ MOST_FUEL = f.same.1 ∙ begins_fuel old.code MOST_FUEL old b in
      let long : length (picks_so_far now) ≡ length (take i picks) = ap (λ (l : List ℕ). length l) f.picked in
      omega (arith, fuel, long, entries_few now, take_few picks i, low, few)

  pub follows_next : (new : Run) (turned : Bool) → turned ≡ true → i < length picks → MatchBool turned (TakesPick now (get_or picks i 0) new) (HasNoPick now (get_or picks i 0) new) → IsFollowing old picks (i + 1) new
  follows_next new true t low h = record {
    same = (h.0.0 ∙ f.same.0, h.0.1 ∙ f.same.1);
    picked = h.1 ∙ ap (λ (l : List ℕ). l ++ get_or picks i 0 ∷ []) f.picked ∙ sym (let one : i + 1 ≡ suc i = omega arith in ap (λ (j : ℕ). take j picks) one ∙ take_next picks i (get_or picks i 0) (slice_get-get_or picks i 0 low));
    home = h.2;
  }
  follows_next new false t low h = absurd (true≢false (sym t))

  pub follows_no_more : (new : Run) (turned : Bool) → turned ≡ false → i < length picks → MatchBool turned (TakesPick now (get_or picks i 0) new) (HasNoPick now (get_or picks i 0) new) → Follows old picks new (Some i)
  follows_no_more new true t low h = absurd (true≢false t)
  follows_no_more new false t low h = (
    subst (λ (r : Run). IsOf old r) (sym h.0) f.same,
    record {
      pick = get_or picks i 0;
      there = slice_get-get_or picks i 0 low;
      none = subst (λ (c : Code). HasNoTurn c (take i picks) (get_or picks i 0)) f.same.0 (subst (λ (l : List ℕ). HasNoTurn now.code l (get_or picks i 0)) f.picked h.1);
    },
  )

  pub follows_all : length picks ≤ i → Follows old picks now None
  follows_all low = (f.same, f.picked ∙ take_all i picks low, f.home)

-- ---- the first strand by itself

own_more : (a b : ℕ) → own_picks (a + b) ≡ own_picks a ++ own_picks b
own_more zero b = let none : 0 + b ≡ b = omega arith in ap own_picks none
own_more (suc a) b = let one : suc a + b ≡ suc (a + b) = omega arith in ap own_picks one ∙ ap (λ (l : List ℕ). 0 ∷ l) (own_more a b)

-- the entries of acts of the first strand alone
own_strands : (entries : List Entry) → AllOwn entries → strands_of entries ≡ own_picks (length entries)
own_strands [] own = refl
own_strands (e ∷ entries) own = ap (λ (k : ℕ). k ∷ strands_of entries) own.0 ∙ ap (λ (l : List ℕ). 0 ∷ l) (own_strands entries own.1)

long-own : (n : ℕ) → length (own_picks n) ≡ n
long-own zero = refl
long-own (suc n) = let more = long-own n in omega (arith, more)

-- an end that needs no turn is no pick
ends_no_pick : (new : Run) → ((e : End) → new.end ≡ Some e → EndsWithoutTurn new.code (world new) (Some e)) → (o : Option End) → new.end ≡ o → option_map_or last_pick o [] ≡ []
ends_no_pick new ends None is = refl
ends_no_pick new ends (Some e) is = no_pick new.code (world new) (Some e) (ends e is)

module _ (old new : Run) (at until : ℕ) (home : HasAllHome old) (count : at ≡ length (picks_so_far old)) (within : at ≤ until) where
  gone_same : (next : ℕ) → next ≡ max at (length old.entries) → new ≡ old → GoesOwn old at until new next
  gone_same next is same =
      let here : next ≡ at = omega (arith, is, count, entries_few old) in
      let none : next - at ≡ 0 = omega (arith, here) in
      record {
        same = subst (λ (r : Run). IsOf old r) (sym same) (refl, refl);
        low = omega (arith, here);
        high = omega (arith, here, within);
        picked = ap picks_so_far same ∙ sym (append-nil (picks_so_far old)) ∙ ap (λ (n : ℕ). picks_so_far old ++ own_picks n) (sym none);
        home = subst (λ (r : Run). HasAllHome r) (sym same) home;
      }

  gone_on : (next : ℕ) → next ≡ max at (length new.entries) → old.lost ≡ false → length new.entries ≤ until → ActsAlone old new → GoesOwn old at until new next
  gone_on next is kept high a =
      let before : picks_so_far old ≡ strands_of old.entries = unended_picks old a.unended in
      let here : at ≡ length old.entries = count ∙ ap (λ (l : List ℕ). length l) before ∙ length_map (λ (e : Entry). e.strand) old.entries in
      let long : length new.entries ≡ length old.entries + length a.more = ap (λ (l : List Entry). length l) a.entries ∙ length-append old.entries a.more in
      let end : next ≡ at + length a.more = omega (arith, is, here, long) in
      let steps : length a.more ≡ next - at = omega (arith, end) in
      record {
        same = a.same;
        low = omega (arith, end);
        high = omega (arith, end, here, long, high);
        picked = ap (λ (l : List ℕ). strands_of new.entries ++ l) (ends_no_pick new a.ends new.end refl) ∙ append-nil (strands_of new.entries) ∙ ap strands_of a.entries ∙ strands_more old.entries a.more
            ∙ ap (λ (l : List ℕ). strands_of old.entries ++ l) (own_strands a.more a.own ∙ ap own_picks steps) ∙ ap (λ (l : List ℕ). l ++ own_picks (next - at)) (sym before);
        home = λ lost. subst (λ (l : List StrandState). AllHome l) (sym a.stays) (home kept);
      }

pub goes_own : (old new : Run) (at until next : ℕ) → HasAllHome old → at ≡ length (picks_so_far old) → at ≤ until → next ≡ max at (length new.entries) → old.lost ≡ false
    → (length old.entries ≤ until → length new.entries ≤ until) → GoneAlone old new → GoesOwn old at until new next
goes_own old new at until next home count within is kept high (inl same) = gone_same old new at until home count within next (is ∙ ap (λ (r : Run). max at (length r.entries)) same) same
goes_own old new at until next home count within is kept high (inr a) = gone_on old new at until home count within next is kept (high (omega (arith, count, entries_few old, within))) a

pub stays_own : (old : Run) (at until : ℕ) → HasAllHome old → at ≤ until → GoesOwn old at until old at
stays_own old at until home within =
    let none : 0 ≡ at - at = omega arith in
    record { same = (refl, refl); low = omega arith; high = within; picked = sym (append-nil (picks_so_far old)) ∙ ap (λ (n : ℕ). picks_so_far old ++ own_picks n) none; home = home }

own_taken : (picks : List ℕ) (at n : ℕ) → at + n ≤ length picks → ((k : ℕ) → at ≤ k → k < at + n → get_or picks k 0 ≡ 0) → take (at + n) picks ≡ take at picks ++ own_picks n
own_taken picks at zero low own = let none : at + 0 ≡ at = omega arith in ap (λ (k : ℕ). take k picks) none ∙ sym (append-nil (take at picks))
own_taken picks at (suc n) low own =
    let here : at + n < length picks = omega (arith, low) in
    let one : at + suc n ≡ suc (at + n) = omega arith in
    let last : n + 1 ≡ suc n = omega arith in
    let next = take_next picks (at + n) (get_or picks (at + n) 0) (slice_get-get_or picks (at + n) 0 here) in
    let front = own_taken picks at n (omega (arith, low)) (λ k a b. own k a (omega (arith, b))) in
    ap (λ (k : ℕ). take k picks) one ∙ next ∙ ap (λ (x : ℕ). take (at + n) picks ++ x ∷ []) (own (at + n) (omega arith) (omega arith)) ∙ ap (λ (l : List ℕ). l ++ 0 ∷ []) front
    ∙ append_assoc (take at picks) (own_picks n) (0 ∷ []) ∙ ap (λ (l : List ℕ). take at picks ++ l) (sym (own_more n 1) ∙ ap own_picks last)

-- the picks up to a place have been followed, and those from there up to another one are of the first strand
pub record IsAt (old : Run) (picks : List ℕ) (at until : ℕ) (now : Run) : Type 0 where
  pub follows : IsFollowing old picks at now
  pub low : at ≤ length picks
  pub high : until ≤ length picks
  pub own : (k : ℕ) → at ≤ k → k < until → get_or picks k 0 ≡ 0

pub at_first : (old : Run) (picks : List ℕ) → RunBegins old.code MOST_FUEL old → IsAt old picks 0 0 old
at_first old picks b = record { follows = follows_first old picks b; low = omega arith; high = omega arith; own = λ k low high. absurd (omega (arith, high)) }

take_long : (picks : List ℕ) (n : ℕ) → n ≤ length picks → length (take n picks) ≡ n
take_long [] zero low = refl
take_long [] (suc n) low = absurd (omega (arith, low))
take_long (p ∷ picks) zero low = refl
take_long (p ∷ picks) (suc n) low = let more = take_long picks n (omega (arith, low)) in omega (arith, more)

pub count_at : (old : Run) (picks : List ℕ) (at until : ℕ) (now : Run) → IsAt old picks at until now → at ≡ length (picks_so_far now)
count_at old picks at until now i = sym (ap (λ (l : List ℕ). length l) i.follows.picked ∙ take_long picks at i.low)

-- behind the picks of the first strand that it has taken
pub at_own : (old : Run) (picks : List ℕ) (at until next : ℕ) (now new : Run) → IsAt old picks at until now → at ≤ until → GoesOwn now at until new next → IsAt old picks next until new
at_own old picks at until next now new i low g =
    let whole : at + (next - at) ≡ next = omega (arith, g.low) in
    record {
      follows = record {
        same = (g.same.0 ∙ i.follows.same.0, g.same.1 ∙ i.follows.same.1);
        picked = g.picked ∙ ap (λ (l : List ℕ). l ++ own_picks (next - at)) i.follows.picked
            ∙ sym (own_taken picks at (next - at) (omega (arith, whole, g.high, i.high)) (λ k a b. i.own k a (omega (arith, b, whole, g.high)))) ∙ ap (λ (k : ℕ). take k picks) whole;
        home = g.home;
      };
      low = omega (arith, g.high, i.high);
      high = i.high;
      own = λ k a b. i.own k (omega (arith, a, g.low)) b;
    }

-- where it has taken none it is where it was
pub at_still : (old : Run) (picks : List ℕ) (at until next : ℕ) (now new : Run) → IsAt old picks at until now → at ≤ until → GoesOwn now at until new next → next ≤ at → IsAt old picks at until new
at_still old picks at until next now new i low g none =
    let same : next ≡ at = omega (arith, none, g.low) in
    subst (λ (k : ℕ). IsAt old picks k until new) same (at_own old picks at until next now new i low g)

-- the picks of the first strand are looked for anew
pub at_anew : (old : Run) (picks : List ℕ) (at before until : ℕ) (now : Run) → IsAt old picks at before now → AreOwn picks at until → IsAt old picks at until now
at_anew old picks at before until now i own = record { follows = i.follows; low = i.low; high = own.high; own = own.own }

-- behind one more pick
pub at_next : (old : Run) (picks : List ℕ) (at until : ℕ) (now new : Run) (turned : Bool) → IsAt old picks at until now → turned ≡ true → at < length picks
    → MatchBool turned (TakesPick now (get_or picks at 0) new) (HasNoPick now (get_or picks at 0) new) → IsAt old picks (at + 1) until new
at_next old picks at until now new turned i t low h = record {
  follows = follows_next old picks at now i.follows new turned t low h;
  low = omega (arith, low);
  high = i.high;
  own = λ k a b. i.own k (omega (arith, a)) b;
}

-- ---- what comes of it

pub has_run : (run : Run) (handed : Code) (kept : Kept) → run.fuel ≡ MOST_FUEL → FinishesRun run handed kept → Replays run.code (picks_so_far run) (comes.Ran handed kept)
has_run run handed kept fuel f = (
  f.code,
  subst (λ (most : ℕ). RunOf run.code most kept) fuel f.runs,
  ap (λ (es : List Entry). strands_of es ++ last_pick kept.end) f.entries ∙ ap (λ (o : Option End). strands_of run.entries ++ option_map_or last_pick o []) (sym f.end),
)

pub has_more : (run : Run) → IsSoundRun run → HasAllHome run → run.lost ≡ false → run.end ≡ None → IsShort run.code (picks_so_far run)
has_more run known home kept none =
    let goes = known.goes_on none (home kept) in
    record { world = world run; lead = leads run (picks_so_far run) known (sym (unended_picks run none)); unended = goes.0; strand = goes.1.0; turn = goes.1.1 }

pub has_ended : (run : Run) (n : ℕ) (o : Option End) → IsSoundRun run → length run.entries < run.fuel → o ≡ run.end → is_some o ≡ true → HasNoPick run n run
has_ended run n None known room is t = absurd (cc)
has_ended run n (Some e) known room is t = (refl, none_behind_end run n known room e (sym is))

pub goes_on : (run : Run) (o : Option End) → o ≡ run.end → is_some o ≡ false → run.end ≡ None
goes_on run None is t = sym is
goes_on run (Some e) is t = absurd (cc)

pub has_stopped_short : (run : Run) (code : Code) (picks : ℕ) → IsSoundRun run → HasAllHome run → run.lost ≡ false → run.end ≡ None → code ≡ run.code → picks ≡ length (picks_so_far run)
    → Replays run.code (picks_so_far run) (comes.Short code picks)
has_stopped_short run code picks known home kept none same count = (same, count, has_more run known home kept none)

pub begins_own : (code : Code) (fuel : ℕ) (run : Run) → RunBegins code fuel run → RunBegins run.code fuel run
begins_own code fuel run b = let same : run.code ≡ code = ap (λ (r : Run). r.code) b.is in subst (λ (c : Code). RunBegins c fuel run) (sym same) b
