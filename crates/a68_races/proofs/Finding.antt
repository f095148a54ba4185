-- The races of the first entries, with what is known behind them.
use Rattle.std.proofs.Common.{◌≡◌, ◌<◌, ◌≤◌, ◌++◌, inl, inr, ℕ, zero, suc, min, Bool, true, false, List, [], ◌∷◌, length, take, None, Some, Option, nat_lt, if◌then◌else◌, refl, ap, sym, ◌∙◌, subst, arith, length-append}
use Rattle.std.proofs.lemmas.Bool.Decides.{nat_tests}
use Rattle.std.proofs.lemmas.List.{take-append-le}
use Rattle.std.proofs.lemmas.Option.{slice_get_within, slice_get_cases}
use Rattle.std.proofs.Math.ListN.{length-take}
use Rattle.std.specs.Prelude.{slice_get, slice_index}
use Rattle.a68_races.proofs.Order.{same_or_less}
use Rattle.a68_races.proofs.Telling.{steps_on}
use Rattle.a68_races.specs.Cells.{lasts_at, time_of}
use Rattle.a68_races.specs.Clocks.{clock_at}
use Rattle.a68_races.specs.declared.cells.Last.{Last}
use Rattle.a68_races.specs.Races.{Raced, none, calm, raced, RacesAre, IsBeyond, FirstBeyond, NoneBeyond}
use Rattle.a68_races.specs.Shown.{Shown}
use Rattle.a68_races.specs.Telling.{AreNew, AreWithin, Steps, Adds}
use Rattle.a68_races.specs.Watches.{Clocked, LastTimes, HasForked, Watches, IsRaceAt}
use Rattle.a68_races.specs.declared.race.Pair.{Pair}
use Rattle.a68_races.specs.declared.race.TheConstants.{MOST_SHOWN}
use Rattle.a68_races.specs.declared.watch.Watch.{Watch}
use Rattle.a68_values.specs.declared.act.Act.{Act}
use Rattle.a68_values.specs.declared.act.Entry.{Entry}

-- the races of the first entries are these
pub record Shows (entries : List Entry) (n : ℕ) (shown : Shown) : Type 0 where
  pub found : List Pair
  pub raced_so : Raced entries n found
  pub few : length found ≤ n
  pub count : shown.count ≡ length found
  pub pairs : shown.pairs ≡ take MOST_SHOWN found

pub record IsWatching (entries : List Entry) (n : ℕ) (w : Watch) (shown : Shown) : Type 0 where
  pub watches : Watches entries n w
  pub shows : Shows entries n shown
  pub within : (k : ℕ) (e : Entry) → k < n → slice_get entries k ≡ Some e → IsBeyond e → ⊥

-- ---- the beginning

clocked_none : (entries : List Entry) (Sort : ℕ → Type 0) (table : List (List ℕ)) (key : ℕ) → table ≡ [] → Clocked entries Sort 0 (clock_at table key)
clocked_none entries Sort table key is =
    subst (λ (x : List (List ℕ)). Clocked entries Sort 0 (clock_at x key)) (sym is) (record { tells = λ i e low at. absurd (omega (arith, low)); bound = λ k. omega arith })

times_none : (entries : List Entry) (Does : Act → ℕ → Type 0) (writes : Bool) (table : List (List Last)) (cell : ℕ) → table ≡ [] → LastTimes entries Does cell 0 (time_of writes (lasts_at table cell))
times_none entries Does writes table cell is =
    subst (λ (x : List (List Last)). LastTimes entries Does cell 0 (time_of writes (lasts_at x cell))) (sym is)
    (record { last = λ s k low d. absurd (omega (arith, low)); there = λ s k t. absurd (omega (arith, t)) })

parents_none : (entries : List Entry) (table : List (List ℕ)) (child parent : ℕ) → table ≡ [] → (HasForked entries 0 parent child → 0 < slice_index (clock_at table child) parent) × (0 < slice_index (clock_at table child) parent → HasForked entries 0 parent child)
parents_none entries table child parent is =
    subst (λ (x : List (List ℕ)). (HasForked entries 0 parent child → 0 < slice_index (clock_at x child) parent) × (0 < slice_index (clock_at x child) parent → HasForked entries 0 parent child)) (sym is)
    ((λ f. absurd (omega (arith, f.low))), (λ h. absurd (omega (arith, h))))

pub begins : (entries : List Entry) (w : Watch) (shown : Shown) → AreNew w → shown.count ≡ 0 → shown.pairs ≡ [] → IsWatching entries 0 w shown
begins entries w shown new count pairs = record {
  watches = record {
    strands = λ s. clocked_none entries _ w.strands s new.0;
    parents = λ child parent. parents_none entries w.parents child parent new.1;
    raised = λ cell. clocked_none entries _ w.raised cell new.2;
    accessed = λ cell. times_none entries _ false w.cells cell new.3;
    written = λ cell. times_none entries _ true w.cells cell new.3;
  };
  shows = record { found = []; raced_so = none; few = omega arith; count = count; pairs = pairs };
  within = λ k e low at b. absurd (omega (arith, low));
}

-- ---- one entry more

taken_all : (m : ℕ) (found : List Pair) → length found ≤ m → take m found ≡ found
taken_all zero [] h = refl
taken_all zero (x ∷ xs) h = absurd (omega (arith, h))
taken_all (suc m) [] h = refl
taken_all (suc m) (x ∷ xs) h = ap (λ l. x ∷ l) (taken_all m xs (omega (arith, h)))

shown_more : (m : ℕ) (found pairs : List Pair) (p : Pair) (b : Bool) → pairs ≡ take m found → nat_lt (length pairs) m ≡ b → (if b then pairs ++ p ∷ [] else pairs) ≡ take m (found ++ p ∷ [])
shown_more m found pairs p true is t =
    let short : length found < m = under m found pairs is (length-take m found) t in
    let whole : pairs ≡ found = is ∙ taken_all m found (omega (arith, short)) in
    ap (λ (x : List Pair). x ++ p ∷ []) whole ∙ sym (taken_all m (found ++ p ∷ []) (omega (arith, length-append found (p ∷ []), short)))
  where
    under : (m : ℕ) (found pairs : List Pair) → pairs ≡ take m found → length (take m found) ≡ min m (length found) → nat_lt (length pairs) m ≡ true → length found < m
    under m found pairs is long t = let same : length pairs ≡ length (take m found) = ap (λ (x : List Pair). length x) is in grind (arith, nat_tests, t, same, long)
shown_more m found pairs p false is t =
    let long : m ≤ length found = over m found pairs is (length-take m found) t in
    is ∙ sym (take-append-le m found (p ∷ []) long)
  where
    over : (m : ℕ) (found pairs : List Pair) → pairs ≡ take m found → length (take m found) ≡ min m (length found) → nat_lt (length pairs) m ≡ false → m ≤ length found
    over m found pairs is long t = let same : length pairs ≡ length (take m found) = ap (λ (x : List Pair). length x) is in grind (arith, nat_tests, t, same, long)

pair_is : (p : Pair) (n : ℕ) → p.second ≡ n → (let x : Pair = record { cell = p.cell; first = p.first; second = n } in x) ≡ p
pair_is p n same = ap (λ (k : ℕ). let x : Pair = record { cell = p.cell; first = p.first; second = k } in x) (sym same)

shows_more : (entries : List Entry) (n : ℕ) (race : Option Pair) (old new : Shown) → Shows entries n old → IsRaceAt entries n race → Adds race old new → Shows entries (suc n) new
shows_more entries n None old new h race a = record {
  found = h.found;
  raced_so = calm h.raced_so race;
  few = omega (arith, h.few);
  count = ap (λ (s : Shown). s.count) a ∙ h.count;
  pairs = ap (λ (s : Shown). s.pairs) a ∙ h.pairs;
}
shows_more entries n (Some p) old new h race a = record {
  found = h.found ++ p ∷ [];
  raced_so = subst (λ (x : Pair). Raced entries (suc n) (h.found ++ x ∷ [])) (pair_is p n race.0) (raced h.raced_so race.1);
  few = omega (arith, h.few, length-append h.found (p ∷ []));
  count = omega (arith, a.0, h.count, length-append h.found (p ∷ []));
  pairs = a.1 ∙ shown_more MOST_SHOWN h.found old.pairs p (nat_lt (length old.pairs) MOST_SHOWN) h.pairs refl;
}

pub goes_on : (entries : List Entry) (n : ℕ) (e : Entry) (race : Option Pair) (w v : Watch) (old new : Shown) → IsWatching entries n w old → slice_get entries n ≡ Some e → (IsBeyond e → ⊥)
    → (AreWithin w.strands n → Steps w e n race v) → Adds race old new → IsWatching entries (suc n) v new
goes_on entries n e race w v old new h is near s a =
    let on = steps_on entries n e is w v race h.watches (s (λ key k. (h.watches.strands key).bound k)) in
    record {
      watches = on.0;
      shows = shows_more entries n race old new h.shows on.1 a;
      within = λ k x low at b. elim (same_or_less k n low) [
        | inl same ↦ (let both : Some x ≡ Some e = sym at ∙ ap (λ (j : ℕ). slice_get entries j) same ∙ is in let one : x ≡ e = cc both in near (subst (λ (y : Entry). IsBeyond y) one b))
        | inr less ↦ h.within k x less at b
      ];
    }

-- ---- the ends

pub first_beyond : (entries : List Entry) (n : ℕ) (e : Entry) (w : Watch) (shown : Shown) → IsWatching entries n w shown → slice_get entries n ≡ Some e → IsBeyond e → FirstBeyond entries n
first_beyond entries n e w shown h is b = record { entry = e; is = is; beyond = b; first = h.within }

pub ends : (entries : List Entry) (n : ℕ) (w : Watch) (shown : Shown) → IsWatching entries n w shown → n ≡ length entries → NoneBeyond entries × RacesAre entries shown
ends entries n w shown h all = (
  (λ k e at b. h.within k e (omega (arith, slice_get_within entries k e at, all)) at b),
  record { found = h.shows.found; raced = subst (λ (k : ℕ). Raced entries k h.shows.found) all h.shows.raced_so; count = h.shows.count; pairs = h.shows.pairs },
)

pub not_none : (entries : List Entry) (n : ℕ) → n < length entries → slice_get entries n ≡ None → ⊥
not_none entries n low is = elim (slice_get_cases entries n).1 [
  | inl at ↦ (let both : Some at.0 ≡ None = sym at.2 ∙ is in absurd (cc both))
  | inr past ↦ (let high = past.0 in absurd (omega (arith, low, high)))
]
