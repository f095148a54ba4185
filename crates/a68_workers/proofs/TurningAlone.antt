-- Turns of a strand that is alone come in turn.
use Rattle.std.proofs.Common.{◌≡◌, ◌≢◌, ◌≤◌, ◌+◌, ◌++◌, inl, inr, ℕ, zero, suc, ◌<◌, true, List, [], ◌∷◌, length, length-append, None, Some, refl, sym, ◌∙◌, ap, subst, arith, append_assoc}
use Rattle.std.specs.declared.option.Option.{Option}
use Rattle.a68_code.specs.declared.code.Code.{Code}
use Rattle.a68_exec.specs.Runs.{World, Machine, IfNext, acted, is_closed}
use Rattle.a68_instructions.specs.declared.ask.Stance.TheVariants.{Closed}
use Rattle.a68_strand.specs.Cyclic.{HasTurn, Sooner, TakeTurns, IsTurnOf, EndsInTurn, last_of}
use Rattle.a68_strand.specs.Ends.{CanActNow}
use Rattle.a68_strand.proofs.Machines.{machine_join}
use Rattle.a68_values.specs.declared.act.Act.{Act}
use Rattle.a68_values.specs.declared.act.Entry.{Entry}
use Rattle.a68_values.specs.declared.kept.End.{End}
use Rattle.a68_workers.specs.Runs.{GoesFrom, TookTurns}
use Rattle.a68_workers.proofs.Turning.{goes_longer, silent_end}
use Rattle.a68_world.specs.Alone.{ActsAlone, GoneAlone, IsLonger, OthersClosed}
use Rattle.a68_world.specs.Run.{Run, world}
use Rattle.a68_world.proofs.Awaited.{closed_there}
use Rattle.a68_world.proofs.Beside.{grows, grows_one}
use Rattle.a68_world.proofs.Ended.{closed_stance}
use Rattle.a68_world.proofs.Closing.{closed_on}
use Rattle.a68_world.proofs.Places.{is_within}
use Rattle.a68_world.proofs.Showing.{next_fault, no-turn, no_act, turn_there}

-- ---- one strand has each turn

can-next : (o : Option (Act × World)) (a : Act) (P : World → Type 0) → IfNext o a P → o ≢ None
can-next None a P p = absurd p
can-next (Some m) a P p = λ e. absurd (cc)

not-sooner : (behind one other : ℕ) → one ≡ 0 → other ≡ 0 → Sooner behind one other → ⊥
not-sooner behind one other e f (inl s) = absurd (omega (arith, s.0, e))
not-sooner behind one other e f (inr s) = absurd (omega (arith, s.0, e, f))

-- a strand that has closed has no turn
closed-still : (code : Code) (w : World) (n : ℕ) → is_closed w.strands n ≡ true → HasTurn code w n → ⊥
closed-still code w n closed turn =
    let st = turn_there code w n turn in
    let is : st.0.stance ≡ Closed = closed_stance st.0.stance (sym (closed_there w.strands n st.0 st.1) ∙ closed) in
    no-turn code w n (no_act code w n st.0 Closed st.1 is) (next_fault w n st.0 Closed st.1 is) turn

-- where all others have closed, the first strand alone has a turn
only-strand : (code : Code) (w : World) (n : ℕ) → OthersClosed w.strands → HasTurn code w n → n ≡ 0
only-strand code w zero closed turn = refl
only-strand code w (suc n) closed turn =
    let st = turn_there code w (suc n) turn in
    absurd (closed-still code w (suc n) (closed (suc n) (omega arith) (is_within w.strands (suc n) st.0 st.1)) turn)

has-turn : (code : Code) (w : World) (before : Option ℕ) (n : ℕ) → OthersClosed w.strands → CanActNow code w n → IsTurnOf code w before n
has-turn code w None n closed can = only-strand code w n closed (inl can)
has-turn code w (Some b) n closed can = record {
  such = inl can;
  first = λ other turn sooner. not-sooner b other n (only-strand code w other closed turn) (only-strand code w n closed (inl can)) sooner;
}

-- they have closed behind an act too that makes none
still-closed : (code : Code) (w : World) (n : ℕ) (act : Act) (behind : World) → acted code w n ≡ Some (act, behind) → OthersClosed w.strands → length behind.strands ≤ length w.strands → OthersClosed behind.strands
still-closed code w n act behind e closed few k some within = closed_on code w n act behind e k (closed k some (omega (arith, few, within)))

alone-next : (code : Code) (w : World) (n : ℕ) (o : Option (Act × World)) (act : Act) (es : List Entry) (end : World) → acted code w n ≡ o → OthersClosed w.strands → length end.strands ≤ length w.strands
    → ((b : World) → Machine code b es end → OthersClosed b.strands → length end.strands ≤ length b.strands → TakeTurns code b (Some n) es) → IfNext o act (λ b. Machine code b es end)
    → IfNext o act (λ b. TakeTurns code b (Some n) es)
alone-next code w n None act es end e closed few again runs = runs
alone-next code w n (Some next) act es end e closed few again runs =
    let more = grows_one code w n next.0 next.1 e in
    let rest = grows code next.1 es end runs.1 in (
      runs.0,
      again next.1 runs.1 (still-closed code w n next.0 next.1 e closed (omega (arith, few, rest))) (omega (arith, few, more)),
    )

turns-alone : (code : Code) (w : World) (before : Option ℕ) (es : List Entry) (end : World) → Machine code w es end → OthersClosed w.strands → length end.strands ≤ length w.strands → TakeTurns code w before es
turns-alone code w before [] end runs closed few = tt
turns-alone code w before (e ∷ es) end runs closed few = (
  has-turn code w before e.strand closed (can-next (acted code w e.strand) e.act (λ b. Machine code b es end) runs),
  alone-next code w e.strand (acted code w e.strand) e.act es end refl closed few (λ b r c f. turns-alone code b (Some e.strand) es end r c f) runs,
)

-- ---- turns behind others

next-both : (o : Option (Act × World)) (a : Act) (P Q R : World → Type 0) → ((v : World) → P v → Q v → R v) → IfNext o a P → IfNext o a Q → IfNext o a R
next-both None a P Q R f p q = p
next-both (Some m) a P Q R f p q = (p.0, f m.1 p.1 q.1)

turns-join : (code : Code) (w v : World) (before : Option ℕ) (es more : List Entry) → TakeTurns code w before es → Machine code w es v → TakeTurns code v (last_of before es) more
    → TakeTurns code w before (es ++ more)
turns-join code w v before [] more turns runs on = subst (λ x. TakeTurns code x before more) (sym runs) on
turns-join code w v before (d ∷ es) more turns runs on = (
  turns.0,
  next-both (acted code w d.strand) d.act (λ b. TakeTurns code b (Some d.strand) es) (λ b. Machine code b es v) (λ b. TakeTurns code b (Some d.strand) (es ++ more))
      (λ b t r. turns-join code b v (Some d.strand) es more t r on) turns.1 runs,
)

took-acts : (old now new : Run) → GoesFrom old now → TookTurns old now → ActsAlone now new → TookTurns old new
took-acts old now new from took a =
    let runs : Machine old.code (world now) a.more (world new) = subst (λ c. Machine c (world now) a.more (world new)) from.code a.runs in record {
      more = took.more ++ a.more;
      entries = a.entries ∙ ap (λ es. es ++ a.more) took.entries ∙ append_assoc old.entries took.more a.more;
      runs = machine_join old.code (world old) took.more (world now) a.more (world new) took.runs runs;
      turns = turns-join old.code (world old) (world now) (last_of None old.entries) took.more a.more took.turns took.runs
          (turns-alone old.code (world now) (last_of (last_of None old.entries) took.more) a.more (world new) runs a.closed (omega (arith, a.none_made)));
      ends = λ none e is. subst (λ c. EndsInTurn c (world new) (last_of None new.entries) e) (a.same.0 ∙ from.code) (silent_end new.code (world new) (last_of None new.entries) e (a.ends e is));
      still = λ e is. absurd (some_none e is (took.still e is));
    }
  where
    some_none : (e : End) → old.end ≡ Some e → now ≡ old → ⊥
    some_none e is same = let none : old.end ≡ None = subst (λ (r : Run). r.end ≡ None) same a.unended in absurd (cc)

-- the strands have taken turns also once one that is alone has gone on
pub took_alone : (old now new : Run) → GoesFrom old now → TookTurns old now → GoneAlone now new → TookTurns old new
took_alone old now new from took (inl same) = subst (λ r. TookTurns old r) (sym same) took
took_alone old now new from took (inr a) = took-acts old now new from took a

pub goes_alone : (old new : Run) → GoesFrom old old → IsLonger old new → GoesFrom old new
goes_alone old new none g = goes_longer old old new g.more none g.same.0 g.same.1 g.entries

pub longer_alone : (old new : Run) → IsLonger old new → length old.entries ≤ length new.entries
longer_alone old new g = omega (arith, ap (λ (l : List Entry). length l) g.entries, length-append old.entries g.more)
