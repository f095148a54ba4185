-- What is known of every run is known behind each turn.
use Rattle.std.proofs.Common.{◌≡◌, ◌∙◌, inl, inr, ℕ, ◌+◌, ◌<◌, true, [], ◌∷◌, length, length-append, refl, ap, sym, subst, arith, true≢false}
use Rattle.std.specs.Prelude.{None, Some, IfSome, slice_get}
use Rattle.std.specs.Option.{option_map}
use Rattle.std.specs.declared.option.Option.{Option}
use Rattle.a68_strand.specs.Ends.{RunEndsWith, fault, spent}
use Rattle.a68_instructions.specs.Machine.{State, place_at}
use Rattle.a68_exec.specs.Runs.{World, acted}
use Rattle.a68_values.specs.declared.act.Act.{Act}
use Rattle.a68_values.specs.declared.kept.End.{End}
use Rattle.a68_values.specs.declared.kept.End.TheVariants as ends
use Rattle.a68_world.specs.Run.{Run, IsSoundRun, AllHome, IsNumber, EndsWithoutTurn, world}
use Rattle.a68_world.specs.Turns.{GoesOn, ActsAs, EndsAt, IsSpentBy, IsOf, noted}
use Rattle.a68_world.specs.Worlds.{world_of, IsJournal}
use Rattle.a68_world.specs.declared.status.StrandState.TheVariants.{Home, Lent, Spent}
use Rattle.a68_world.specs.declared.status.StrandState.{StrandState}
use Rattle.a68_world.proofs.Ended.{turn_open}
use Rattle.a68_strand.proofs.Machines.{entry_of}
use Rattle.a68_world.proofs.Journals.{world_more, journal_more}
use Rattle.a68_world.proofs.Showing.{is_end}

-- no strand is spent in a run that goes on
pub none_spent : (run : Run) → IsSoundRun run → GoesOn run → (k : ℕ) → IsNumber run k Spent → ⊥
none_spent run r goes k there = true≢false (sym (r.spent k there goes.unended) ∙ goes.kept)

-- ---- the world behind an act

pub world_behind : (old new : Run) (n : ℕ) (act : Act) (behind : World) → new.code ≡ old.code → new.entries ≡ noted old n act → acted old.code (world old) n ≡ Some (act, behind)
    → world new ≡ behind
world_behind old new n act behind code entries next =
    ap (λ c. world_of c new.entries) code ∙ ap (λ es. world_of old.code es) entries ∙ world_more old.code old.entries n act behind next

pub journal_behind : (old new : Run) (n : ℕ) (act : Act) (behind : World) → new.code ≡ old.code → new.entries ≡ noted old n act → acted old.code (world old) n ≡ Some (act, behind)
    → IsJournal old.code old.entries → IsJournal new.code new.entries
journal_behind old new n act behind code entries next runs =
    subst (λ c. IsJournal c new.entries) (sym code) (subst (λ es. IsJournal old.code es) (sym entries) (journal_more old.code old.entries n act behind runs next))

pub length_noted : (old new : Run) (n : ℕ) (act : Act) → new.entries ≡ noted old n act → length new.entries ≡ length old.entries + 1
length_noted old new n act e = ap (λ es. length es) e ∙ length-append old.entries (entry_of n act ∷ [])

-- what stays of a run with one entry more
record Grown (old new : Run) (n : ℕ) : Type 0 where
  pub run : IsSoundRun old
  pub same : IsOf old new
  pub fuel : length old.entries < old.fuel
  pub act : Act
  pub behind : World
  pub next : acted old.code (world old) n ≡ Some (act, behind)
  pub entries : new.entries ≡ noted old n act
  pub many : length new.status ≡ length (world new).strands

grown : (old new : Run) (n : ℕ) → Grown old new n → IfSome new.end (RunEndsWith new.code new.fuel new.entries (world new)) → (new.end ≡ None → AllHome new.status → EndsWithoutTurn new.code (world new) None)
    → (new.lost ≡ true → new.end ≡ None) → ((k : ℕ) → IsNumber new k Spent → new.end ≡ None → new.lost ≡ true) → IsSoundRun new
grown old new n g ended goes lost gone =
    let run = g.run in
    record {
      valid = rw g.same.0 run.valid;
      short = rw g.same.0 run.short;
      some_fuel = rw g.same.1 run.some_fuel;
      little_fuel = rw g.same.1 run.little_fuel;
      within = omega (arith, length_noted old new n g.act g.entries, g.fuel, g.same.1);
      runs = journal_behind old new n g.act g.behind g.same.0 g.entries g.next run.runs;
      all = g.many;
      ended = ended;
      goes_on = goes;
      lost = lost;
      spent = gone;
    }

-- ---- an act

pub acts_keep : (old new : Run) (n : ℕ) (there : StrandState) → IsSoundRun old → ActsAs old n there new → IsSoundRun new
acts_keep old new n there run a =
    grown old new n (record { run = run; same = a.same; fuel = a.fuel; act = a.act; behind = a.behind; next = a.next; entries = a.entries; many = a.seated.many })
    (ended new.end refl) (λ none home. subst (λ o. EndsWithoutTurn new.code (world new) o) none (a.ends.whole home)) (λ lost. let k = a.lost lost in a.ends.parted k.0 Spent k.1 (λ e. absurd (cc))) (λ k e none. a.spent k e)
  where
    home : (e : End) → new.end ≡ Some e → AllHome new.status
    home e is k Home at = refl
    home e is k Lent at = let none = a.ends.parted k Lent at (λ x. absurd (cc)) in absurd (cc)
    home e is k Spent at = let none = a.ends.parted k Spent at (λ x. absurd (cc)) in absurd (cc)

    ended : (o : Option End) → new.end ≡ o → IfSome new.end (RunEndsWith new.code new.fuel new.entries (world new))
    ended None is = rw is tt
    ended (Some e) is = is_end new.code new.fuel new.entries (world new) new.end (a.ends.whole (home e is))

pub spent_keep : (old new : Run) (n : ℕ) → IsSoundRun old → GoesOn old → IsOf old new → (new.lost ≡ true) × (new.end ≡ None) → IsSpentBy old n new → IsSoundRun new
spent_keep old new n run goes same lost s =
    grown old new n (record { run = run; same = same; fuel = s.due.fuel; act = s.act; behind = s.behind; next = s.next; entries = s.entries; many = s.many })
    (rw lost.1 tt) (λ none home. absurd (let e = home n Spent s.spent in cc)) (λ e. lost.1) (λ k e none. lost.0)

pub lost_keep : (run : Run) → IsSoundRun run → run.end ≡ None → IsSoundRun (record run { lost = true })
lost_keep run r none = record {
  valid = r.valid;
  short = r.short;
  some_fuel = r.some_fuel;
  little_fuel = r.little_fuel;
  within = r.within;
  runs = r.runs;
  all = r.all;
  ended = r.ended;
  goes_on = r.goes_on;
  lost = λ lost. none;
  spent = λ k e none. refl;
}

-- ---- an end that is set

place-at : (run : Run) (n place : ℕ) (o : Option State) → slice_get (world run).strands n ≡ o → option_map (λ (st : State). place_at run.code.list st.at) o ≡ Some place
    → (st : State) × (slice_get (world run).strands n ≡ Some st) × (place ≡ place_at run.code.list st.at)
place-at run n place None e p = absurd (cc)
place-at run n place (Some st) e p = (st, e, cc)

pub ends_with : (run : Run) (n : ℕ) (e : End) → IsSoundRun run → EndsAt run n e → RunEndsWith run.code run.fuel run.entries (world run) e
ends_with run n ends.Done r h = absurd h
ends_with run n ends.AllHalted r h = absurd h
ends_with run n ends.Spent r h = spent n (turn_open run r n (inl h.1)) h.0 h.1
ends_with run n (ends.Fault why place strand) r h =
    let st = place-at run n place (slice_get (world run).strands n) refl h.2 in
    rw h.0 (fault {strand = n} {place = place} {kind = why} {st = st.0} (turn_open run r n (inr (λ none. let some = sym h.1 ∙ none in absurd (cc)))) h.1 st.1 st.2)

pub ended_keep : (run : Run) (n : ℕ) (e : End) → IsSoundRun run → GoesOn run → EndsAt run n e → IsSoundRun (record run { end = Some e })
ended_keep run n e r goes at = record {
  valid = r.valid;
  short = r.short;
  some_fuel = r.some_fuel;
  little_fuel = r.little_fuel;
  within = r.within;
  runs = r.runs;
  all = r.all;
  ended = ends_with run n e r at;
  goes_on = λ none home. absurd (cc);
  lost = λ lost. absurd (true≢false (sym lost ∙ goes.kept));
  spent = λ k e none. absurd (cc);
}
