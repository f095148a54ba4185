-- The work of one strand: a program up to its End, or a unit of a parallel clause up to its Close.
use Rattle.std.proofs.Common.{◌≡◌, ℕ, Bool, true, false, List, [], ◌∷◌, None, Some, refl, sym, ap, ◌∙◌, subst, true≢false}
use Rattle.std.specs.Prelude.{slice_get}
use Rattle.std.specs.declared.option.Option.{Option}
use Rattle.a68_acts.specs.Store.{Store}
use Rattle.a68_acts.specs.declared.operation.Doing.{Doing}
use Rattle.a68_acts.specs.declared.operation.Doing.TheVariants as doing
use Rattle.a68_acts.specs.declared.want.Reply.{Reply}
use Rattle.a68_acts.specs.declared.want.Reply.TheVariants as reply
use Rattle.a68_acts.specs.declared.want.Want.TheVariants as want
use Rattle.a68_code.specs.declared.code.Code.{Code}
use Rattle.a68_code.specs.declared.code.RoutineEntrance.{RoutineEntrance}
use Rattle.a68_code.specs.declared.does.Does.TheVariants as does
use Rattle.a68_elab.specs.Positions.{within, in_this, by_rule}
use Rattle.a68_elab.specs.Permitted.{in_parts, and_halted, no_parts}
use Rattle.a68_elab.specs.Rows.{acts, turned}
use Rattle.a68_elab.specs.Terms.{closing, Term, todo, part, yielded, unit_of, only, Terms, no_terms, ◌and_term◌}
use Rattle.a68_elab.specs.Trees.{Program}
use Rattle.a68_sim.proofs.Asking.{idle, at_instr, at_end_asks, place_is, is_inside}
use Rattle.a68_sim.proofs.Follow.{term_progress}
use Rattle.a68_sim.proofs.Forks.{close_tells}
use Rattle.a68_sim.proofs.Landings.{Landing}
use Rattle.a68_sim.proofs.Quiet.{Quiet, still, quiet_in, Hole, AddsNone, moves_in, open_here, Kept, simply, Progress, moves, finishes, leaps, progress_after}
use Rattle.a68_sim.proofs.Relation.{Pose, ready, midst, enters, binds_from, posed, pose_of, parts_give, inner, landings, DoesParts, Sim, push}
use Rattle.a68_sim.proofs.Routines.{TextsStand}
use Rattle.a68_exec.specs.Runs.{is_passive}
use Rattle.a68_instructions.specs.Machine.{State, asks_for, told_by, follows, enters_body, begins_body, binds, next_state, silently}
use Rattle.a68_instructions.specs.Unbound.{Unbound}
use Rattle.a68_instructions.specs.declared.ask.Stance.{Stance}
use Rattle.a68_instructions.specs.declared.ask.Stance.TheVariants.{Asking, Waits, Closed}
use Rattle.a68_instructions.specs.declared.ask.Waiting.TheVariants as waiting
use Rattle.a68_stack.specs.declared.stack.Item.{Item}
use Rattle.a68_values.specs.Content.{Content, void}
use Rattle.a68_values.specs.declared.chain.Environ.{Environ}
use Rattle.a68_values.specs.declared.plain.Routine.{Routine}

-- how the work of a strand ends
pub data Finish : Type 0 where
  -- that of a program: its End, in its first chain of frames
  program_end : (b : ℕ) (home : List Environ) → Finish
  -- that of a unit, which begins at this byte: its Close, in the chain of its clause
  unit_end : (p k : ℕ) (chain : List Environ) → Finish

abbrev pub EndsAt : Code → Finish → Type 0
EndsAt code (program_end b home) = (p : ℕ) × (slice_get code.list b ≡ Some (record { place = p; does = does.End }))
EndsAt code (unit_end p k ch) = slice_get code.list k ≡ Some (record { place = p; does = does.Close })

-- the strand does the unit, or has closed
pub data UnitWorks (code : Code) (p k : ℕ) (ch : List Environ) (t : Term) (st : State) : Type 0 where
  works : (u : Term) → t ≡ part (closing p) ch (only u) → Sim code [] k [] ch false u st → UnitWorks code p k ch t st
  closed : (v : Content) → t ≡ yielded v → st.stance ≡ Closed → UnitWorks code p k ch t st

abbrev pub Works : Code → Finish → Term → State → Type 0
Works code (program_end b home) t st = Sim code [] b [] home false t st
Works code (unit_end p k ch) t st = UnitWorks code p k ch t st

-- ---- a strand that works does not wait

abbrev Live : State → Type 0
Live st = is_passive st.stance ≡ false

follows_live : (st : State) (g : Bool) (items : List Item) (d : Doing) → Live (follows st g items d)
follows_live st true items (doing.Yields v) = refl
follows_live st false items (doing.Yields v) = refl
follows_live st true items (doing.Asks w next) = refl
follows_live st false items (doing.Asks w next) = refl
follows_live st true items (doing.Meets why) = refl
follows_live st false items (doing.Meets why) = refl

enters_live : (st : State) (r : Routine) (ps : Unbound) (ch : List Environ) → Live (enters_body st r ps ch)
enters_live st r ps [] = refl
enters_live st r ps (e ∷ outer) = refl

begins_live : (st : State) (o : Option RoutineEntrance) → Live (begins_body st o)
begins_live st None = refl
begins_live st (Some e) = refl

binds_live : (texts : List RoutineEntrance) (st : State) (text slot : ℕ) (vs : List Content) (ch : List Environ) → Live (binds texts st text slot vs ch)
binds_live texts st text slot [] ch = begins_live st (slice_get texts text)
binds_live texts st text slot (v ∷ vs) [] = refl
binds_live texts st text slot (v ∷ vs) (e ∷ outer) = refl

posed_live : (code : Code) (d : Pose) (k : ℕ) (base : List Item) (ch : List Environ) (g : Bool) → Live (posed code d k base ch g)
posed_live code ready k base ch g = refl
posed_live code (midst d) k base ch g = follows_live (idle k [] ch) g base d
posed_live code (enters r vs) k base ch g = enters_live (idle k base ch) r _ ch
posed_live code (binds_from text slot vs) k base ch g = binds_live code.texts (idle k base ch) text slot vs ch

moved_live : (st st' : State) → st ≡ st' → Live st' → Live st
moved_live st st' e live = ap (λ (x : State). is_passive x.stance) e ∙ live

parts_live : (code : Code) (ls : List Landing) (ts : Terms) (k : ℕ) (base : List Item) (ch : List Environ) (g : Bool) (d : Pose) (st : State) → DoesParts code ls ts k base ch g d st → Live st
parts_live code ls no_terms k base ch g d st x = moved_live st _ x (posed_live code d k base ch g)
parts_live code ls (yielded v and_term ts) k base ch g d st x = parts_live code ls ts k (push g v base) ch g d st x
parts_live code ls (todo tree c and_term ts) k base ch g d st x = moved_live st _ x.3.state refl
parts_live code ls (part job c ps and_term ts) k base ch g d st x =
    parts_live code (landings job x.3 ls (inner job x.0 ch base) c) ps x.4 (inner job x.0 ch base) c (parts_give job g) (pose_of job) st x.5
parts_live code ls (unit_of s t and_term ts) k base ch g d st x = absurd x

sim_live : (code : Code) (ls : List Landing) (b : ℕ) (base : List Item) (home : List Environ) (g : Bool) (t : Term) (st : State) → Sim code ls b base home g t st → Live st
sim_live code ls b base home g (todo tree c) st s = moved_live st _ s.state refl
sim_live code ls b base home g (yielded v) st s = moved_live st _ s refl
sim_live code ls b base home g (part job c ps) st s = parts_live code (landings job s.0 ls (inner job b home base) c) ps s.1 (inner job b home base) c (parts_give job g) (pose_of job) st s.2
sim_live code ls b base home g (unit_of x t) st s = absurd s

pub never_waits : (code : Code) (how : Finish) (t : Term) (st : State) (first count : ℕ) → Works code how t st → st.stance ≡ Waits first count → ⊥
never_waits code (program_end b home) t st first count s e = absurd (true≢false (ap is_passive (sym e) ∙ sim_live code [] b [] home false t st s))
never_waits code (unit_end p k ch) t st first count (works u is s) e = absurd (true≢false (ap is_passive (sym e) ∙ sim_live code [] k [] ch false u st s))
never_waits code (unit_end p k ch) t st first count (closed v is c) e = let x : Closed ≡ Waits first count = sym c ∙ e in absurd (cc)

-- a unit alone closes, and has then yielded
abbrev pub Closes : Finish → Term → Type 0
Closes (program_end b home) t = ⊥
Closes (unit_end p k ch) t = (v : Content) × (t ≡ yielded v)

pub closes : (code : Code) (how : Finish) (t : Term) (st : State) → Works code how t st → st.stance ≡ Closed → Closes how t
closes code (program_end b home) t st s e = absurd (true≢false (ap is_passive (sym e) ∙ sim_live code [] b [] home false t st s))
closes code (unit_end p k ch) t st (works u is s) e = absurd (true≢false (ap is_passive (sym e) ∙ sim_live code [] k [] ch false u st s))
closes code (unit_end p k ch) t st (closed v is c) e = (v, is)

-- ---- what comes next

unit_hole : (p : ℕ) (ch : List Environ) → Hole (λ u. part (closing p) ch (only u))
unit_hole p ch = record { opens = λ own x u u' t t' o. within (in_this o) }

unit_adds : (p : ℕ) (ch : List Environ) → AddsNone (λ u. part (closing p) ch (only u))
unit_adds p ch program store u h = in_parts (and_halted h no_parts)

module _ (program : Program) (code : Code) (same : code.modes ≡ program.modes) (texts : TextsStand program code) where
  -- a unit has done its work, and stands at its Close
  at_close : (p k : ℕ) (ch : List Environ) (v : Content) → EndsAt code (unit_end p k ch)
      → Progress program code [] (UnitWorks code p k ch) (part (closing p) ch (only (yielded v))) (idle k [] ch)
  at_close p k ch v end = moves (record {
    what = acts p want.Close told;
    asks = at_instr code k p [] ch does.Close end refl ∙ ap (λ x. Some (acts x want.Close told)) (place_is code k p does.Close end);
    follows = record {
      now = part (closing p) ch (only (yielded v));
      quiet = still;
      wants = want.Close;
      alike = λ s. refl;
      next = turned p ch (yielded void);
      open_at = open_here program _ _ (by_rule refl);
      keeps = λ s s2 act r done. by_reply s r (close_tells s s2 act r done);
    };
    inside = is_inside code k p does.Close end;
    forth = tt;
  })
    where
      told : Reply → State
      told = told_by code (asks_for (idle k [] ch) [] (Asking want.Close waiting.Close)) waiting.Close

      by_reply : (s : Store) (r : Reply) → r ≡ reply.Go
          → Kept program code (UnitWorks code p k ch) s want.Close (λ u. u) (turned p ch (yielded void) r)
          (told_by code (asks_for (idle k [] ch) [] (Asking want.Close waiting.Close)) waiting.Close r)
      by_reply s r is =
          simply refl (closed void (ap (turned p ch (yielded void)) is)
          (ap (λ (x : Reply). (told_by code (asks_for (idle k [] ch) [] (Asking want.Close waiting.Close)) waiting.Close x).stance) is))

  unit_progress : (p k : ℕ) (ch : List Environ) (u : Term) (st : State) → EndsAt code (unit_end p k ch) → Progress program code [] (Sim code [] k [] ch false) u st
      → Progress program code [] (UnitWorks code p k ch) (part (closing p) ch (only u)) st
  unit_progress p k ch u st end (moves m) =
      moves (moves_in program code (λ x. part (closing p) ch (only x)) (unit_hole p ch) (unit_adds p ch) (Sim code [] k [] ch false) (UnitWorks code p k ch) (λ x s y. works x refl y) u st m)
  unit_progress p k ch u st end (finishes v q s) =
      progress_after program code [] (UnitWorks code p k ch) _ _ st (quiet_in (λ x. part (closing p) ch (only x)) (unit_hole p ch) q)
      (subst (Progress program code [] (UnitWorks code p k ch) (part (closing p) ch (only (yielded v)))) (sym s) (at_close p k ch v end))
  -- no clause is about the unit to which it could jump
  unit_progress p k ch u st end (leaps x) = let e = x.found in absurd (cc)

  pub work_progress : (how : Finish) (t : Term) (st : State) → EndsAt code how → Works code how t st → Progress program code [] (Works code how) t st
  work_progress (program_end b home) t st end s = term_progress program code same texts t [] b [] home false st s
  work_progress (unit_end p k ch) t st end (works u is s) =
      subst (λ (x : Term). Progress program code [] (UnitWorks code p k ch) x st) (sym is)
      (unit_progress p k ch u st end (term_progress program code same texts u [] k [] ch false st s))
  work_progress (unit_end p k ch) t st end (closed v is c) = finishes v (subst (λ (x : Term). Quiet program x (yielded v)) (sym is) still) (closed v refl c)

-- a strand whose work is done takes no further step
pub no_step : (code : Code) (how : Finish) (v : Content) (st : State) → EndsAt code how → Works code how (yielded v) st → next_state code st ≡ None
no_step code (program_end b home) v st end s = ap (next_state code) s ∙ at_end_asks code b end.0 [] home end.1
no_step code (unit_end p k ch) v st end (works u is s) = absurd (cc)
no_step code (unit_end p k ch) v st end (closed w is c) = ap (λ (x : Stance). silently code x st) c
