-- Silent steps, and what a term does next, lifted from a part to the whole.
use Rattle.std.proofs.Common.{◌≡◌, ◌<◌, ℕ, suc, false, List, [], ◌∷◌, length, Some, refl, sym, ap, subst}
use Rattle.std.specs.Prelude.{slice_get}
use Rattle.a68_acts.specs.Does.{did, does}
use Rattle.a68_acts.specs.Store.{Store}
use Rattle.a68_acts.specs.declared.want.Reply.{Reply}
use Rattle.a68_acts.specs.declared.want.Want.{Want}
use Rattle.a68_acts.specs.declared.want.Want.TheVariants as want
use Rattle.a68_code.specs.declared.code.Code.{Code}
use Rattle.a68_code.specs.declared.does.Does.{Does}
use Rattle.a68_elab.specs.Permitted.{UnitsHalted}
use Rattle.a68_elab.specs.Positions.{Opens, here, Jumps, Comes, by_rule, HasOpen}
use Rattle.a68_elab.specs.Rows.{Then, goes, acts, meets, row}
use Rattle.a68_elab.specs.Terms.{Term, part, yielded, joining, unit_terms}
use Rattle.a68_elab.specs.Trees.{Program, units_of}
use Rattle.a68_emit.specs.Stretches.{AreEntrances, place_of}
use Rattle.a68_sim.proofs.Asking.{ask, Forth}
use Rattle.a68_sim.proofs.Landings.{Landing, landing_of}
use Rattle.a68_heights.proofs.ForksOfSteps.{is_fork}
use Rattle.a68_instructions.specs.Machine.{State, stack_of, told_by}
use Rattle.a68_instructions.specs.declared.ask.Stance.TheVariants.{Idle, Asking, Waits}
use Rattle.a68_instructions.specs.declared.ask.Waiting.TheVariants as waiting
use Rattle.a68_stack.specs.declared.stack.Item.{Item}
use Rattle.a68_values.specs.Content.{Content, void}
use Rattle.a68_values.specs.declared.act.Act.{Act}
use Rattle.a68_values.specs.declared.act.FaultKind.{FaultKind}
use Rattle.a68_values.specs.declared.chain.Environ.{Environ}

-- silent steps of the strand of the term itself, whichever that is
pub data Quiet (program : Program) : Term → Term → Type 0 where
  still : {t : Term} → Quiet program t t
  quietly : {u u' t t' t2 : Term} → ((own : ℕ) → Opens u u' own own t t') → row program u ≡ Some (goes u') → Quiet program t' t2 → Quiet program t t2

pub quiet_on : {program : Program} {t t1 t2 : Term} → Quiet program t t1 → Quiet program t1 t2 → Quiet program t t2
quiet_on still q = q
quiet_on (quietly o e p) q = quietly o e (quiet_on p q)

-- putting a term at a place, of the same strand, keeps its open positions open
pub record Hole (f : Term → Term) : Type 0 where
  pub opens : (own x : ℕ) (u u' t t' : Term) → Opens u u' x own t t' → Opens u u' x own (f t) (f t')

-- putting a term there adds no unit but such as have ended or are halted
abbrev pub AddsNone : (Term → Term) → Type 0
AddsNone f = (program : Program) (store : Store) (u : Term) → UnitsHalted program store u → UnitsHalted program store (f u)

pub quiet_in : {program : Program} (f : Term → Term) → Hole f → {t t' : Term} → Quiet program t t' → Quiet program (f t) (f t')
quiet_in f h still = still
quiet_in f h (quietly {u = u} {u' = v} {t = t} {t' = t'} o e p) = quietly (λ own. h.opens own own u v t t' (o own)) e (quiet_in f h p)

-- t has an open position of its own strand for which this comes next
pub record IsOpen (program : Program) (t : Term) (what : Then Term) : Type 0 where
  pub spot : Term
  pub put : Term → Term
  pub hole : Hole put
  pub adds : AddsNone put
  pub whole : t ≡ put spot
  pub is : Comes program spot what

-- a term may be put there
pub opens_at : {program : Program} {t : Term} {what : Then Term} (o : IsOpen program t what) (own : ℕ) (u' : Term) → Opens o.spot u' own own t (o.put u')
opens_at o own u' = subst (λ (y : Term). Opens o.spot u' own own y (o.put u')) (sym o.whole) (o.hole.opens own own o.spot u' o.spot u' here)

pub has_open : {program : Program} {t : Term} {what : Then Term} → IsOpen program t what → (own : ℕ) → HasOpen program own t own what
has_open o own = record { spot = o.spot; put = o.put; opens = λ u'. opens_at o own u'; is = o.is }

abbrev pub open_here : (program : Program) (t : Term) (what : Then Term) → Comes program t what → IsOpen program t what
open_here program t what e =
    record { spot = t; put = λ u. u; hole = record { opens = λ own x u u' t1 t2 o. o }; adds = λ p store u h. h; whole = refl; is = e }

abbrev pub open_in : (program : Program) (f : Term → Term) → Hole f → AddsNone f → (t : Term) (what : Then Term) → IsOpen program t what → IsOpen program (f t) what
open_in program f h adds t what o = record {
  spot = o.spot;
  put = λ u. f (o.put u);
  hole = record { opens = λ own x u u' t1 t2 p. h.opens own x u u' (o.put t1) (o.put t2) (o.hole.opens own x u u' t1 t2 p) };
  adds = λ p store u x. adds p store (o.put u) (o.adds p store u x);
  whole = ap f o.whole;
  is = o.is;
}

abbrev pub outwards : List Environ → List Environ
outwards [] = []
outwards (e ∷ chain) = chain

-- where a strand stands that waits for units, and where it goes on once they have closed
abbrev pub waiting_at : (at : ℕ) → List Item → List Environ → (first count : ℕ) → State
waiting_at at items ch first count = record { at = at; stack = stack_of items; chain = ch; stance = Waits first count }

abbrev pub woken_at : (at : ℕ) → List Item → List Environ → State
woken_at at items ch = record { at = suc at; stack = stack_of items; chain = ch; stance = Idle }

-- behind a Fork the strand waits at its units, which have just begun, and goes on behind them
pub record Joins (program : Program) (code : Code) (K : Term → State → Type 0) (s : Store) (w : Want) (put : Term → Term) (u : Term) (st : State) : Type 0 where
  pub at : ℕ
  pub items : List Item
  pub chain : List Environ
  pub numbers : List ℕ
  pub entrances : List ℕ
  pub forks : w ≡ want.Fork entrances
  pub begin : AreEntrances code.units numbers entrances
  pub units : u ≡ part joining chain (unit_terms (units_of program) s.strands numbers chain)
  pub state : st ≡ waiting_at at items chain s.strands (length entrances)
  pub goes_on : K (put (yielded void)) (woken_at at items chain)

-- behind an act of a store the strand has gone on, and the term has followed it
pub data Kept (program : Program) (code : Code) (K : Term → State → Type 0) (s : Store) (w : Want) (put : Term → Term) (u : Term) (st : State) : Type 0 where
  simply : is_fork w ≡ false → K (put u) st → Kept program code K s w put u st
  joins : Joins program code K s w put u st → Kept program code K s w put u st

-- the act that t does next, possibly after silent steps; of a Fork it is not the same, but does the same
pub record ActsNext (program : Program) (code : Code) (K : Term → State → Type 0) (t : Term) (place : ℕ) (w : Want) (k : Reply → State) : Type 0 where
  pub now : Term
  pub quiet : Quiet program t now
  pub wants : Want
  pub alike : (s : Store) → does wants s ≡ does w s
  pub next : Reply → Term
  pub open_at : IsOpen program now (acts place wants next)
  pub keeps : (s s2 : Store) (act : Act) (r : Reply) → does w s ≡ did act r s2 → Kept program code K s w open_at.put (next r) (k r)

-- t follows what a strand does next
abbrev pub Follows : Program → Code → (Term → State → Type 0) → Term → Then State → Type 0
Follows program code K t (goes st) = (t' : Term) × Quiet program t t' × K t' st
Follows program code K t (acts place w k) = ActsNext program code K t place w k
Follows program code K t (meets why place) = (t' : Term) × Quiet program t t' × IsOpen program t' (meets why place)

-- what the strand does next, and t follows it
pub record Moves (program : Program) (code : Code) (K : Term → State → Type 0) (t : Term) (st : State) : Type 0 where
  pub what : Then State
  pub asks : ask code st ≡ Some what
  pub follows : Follows program code K t what
  pub inside : st.at < length code.list
  pub forth : Forth code st what

-- where a strand stands that has asked for the turn of a jump: with the stack and the frames with which the clause began
abbrev pub jumping : (at to : ℕ) → Landing → State
jumping at to l = record { at = at; stack = stack_of l.base; chain = l.chain; stance = Asking want.Turn (waiting.Jump to) }

-- What t does next, possibly after silent steps, is a jump to a label of a clause about it; and the strand asks for the turn of
-- that jump, to go on at that step.
pub record Leaps (program : Program) (code : Code) (ls : List Landing) (t : Term) (st : State) : Type 0 where
  pub now : Term
  pub quiet : Quiet program t now
  pub place : ℕ
  pub label : ℕ
  pub path : Jumps place label now
  pub l : Landing
  pub found : landing_of label ls ≡ Some l
  pub to : ℕ
  pub leads_to : place_of label l.steps l.places ≡ Some to
  pub does : Does
  pub has : slice_get code.list st.at ≡ Some (record { place = place; does = does })
  pub asks : ask code st ≡ Some (acts place want.Turn (told_by code (jumping st.at to l) (waiting.Jump to)))

kept_in : (program : Program) (code : Code) (f : Term → Term) → (K L : Term → State → Type 0) → ((t : Term) (st : State) → K t st → L (f t) st)
    → (s : Store) (w : Want) (put : Term → Term) (u : Term) (st : State) → Kept program code K s w put u st → Kept program code L s w (λ x. f (put x)) u st
kept_in program code f K L to s w put u st (simply e k) = simply e (to (put u) st k)
kept_in program code f K L to s w put u st (joins j) = joins (record {
  at = j.at;
  items = j.items;
  chain = j.chain;
  numbers = j.numbers;
  entrances = j.entrances;
  forks = j.forks;
  begin = j.begin;
  units = j.units;
  state = j.state;
  goes_on = to (put (yielded void)) (woken_at j.at j.items j.chain) j.goes_on;
})

follows_in : (program : Program) (code : Code) (f : Term → Term) → Hole f → AddsNone f → (K L : Term → State → Type 0) → ((t : Term) (st : State) → K t st → L (f t) st)
    → (t : Term) (what : Then State) → Follows program code K t what → Follows program code L (f t) what
follows_in program code f h adds K L to t (goes st) w = (f w.0, quiet_in f h w.1, to w.0 st w.2)
follows_in program code f h adds K L to t (acts place want k) w = record {
  now = f w.now;
  quiet = quiet_in f h w.quiet;
  wants = w.wants;
  alike = w.alike;
  next = w.next;
  open_at = open_in program f h adds w.now (acts place w.wants w.next) w.open_at;
  keeps = λ s s2 act r d. kept_in program code f K L to s want w.open_at.put (w.next r) (k r) (w.keeps s s2 act r d);
}
follows_in program code f h adds K L to t (meets why place) w = (f w.0, quiet_in f h w.1, open_in program f h adds w.0 (meets why place) w.2)

pub moves_in : (program : Program) (code : Code) (f : Term → Term) → Hole f → AddsNone f → (K L : Term → State → Type 0) → ((t : Term) (st : State) → K t st → L (f t) st)
    → (t : Term) (st : State) → Moves program code K t st → Moves program code L (f t) st
moves_in program code f h adds K L to t st m =
    record { what = m.what; asks = m.asks; follows = follows_in program code f h adds K L to t m.what m.follows; inside = m.inside; forth = m.forth }

follows_after : (program : Program) (code : Code) (K : Term → State → Type 0) (t t' : Term) → Quiet program t t' → (what : Then State)
    → Follows program code K t' what → Follows program code K t what
follows_after program code K t t' q (goes st) w = (w.0, quiet_on q w.1, w.2)
follows_after program code K t t' q (acts place want k) w =
    record { now = w.now; quiet = quiet_on q w.quiet; wants = w.wants; alike = w.alike; next = w.next; open_at = w.open_at; keeps = w.keeps }
follows_after program code K t t' q (meets why place) w = (w.0, quiet_on q w.1, w.2)

-- what comes next within these clauses: the strand moves and t follows; or t yields silently, where the strand stands; or one of
-- the clauses jumps
pub data Progress (program : Program) (code : Code) (ls : List Landing) (K : Term → State → Type 0) (t : Term) (st : State) : Type 0 where
  moves : Moves program code K t st → Progress program code ls K t st
  finishes : (v : Content) → Quiet program t (yielded v) → K (yielded v) st → Progress program code ls K t st
  leaps : Leaps program code ls t st → Progress program code ls K t st

pub progress_after : (program : Program) (code : Code) (ls : List Landing) (K : Term → State → Type 0) (t t' : Term) (st : State) → Quiet program t t'
    → Progress program code ls K t' st → Progress program code ls K t st
progress_after program code ls K t t' st q (moves m) =
    moves (record { what = m.what; asks = m.asks; follows = follows_after program code K t t' q m.what m.follows; inside = m.inside; forth = m.forth })
progress_after program code ls K t t' st q (finishes v p s) = finishes v (quiet_on q p) s
progress_after program code ls K t t' st q (leaps x) = leaps (record {
  now = x.now;
  quiet = quiet_on q x.quiet;
  place = x.place;
  label = x.label;
  path = x.path;
  l = x.l;
  found = x.found;
  to = x.to;
  leads_to = x.leads_to;
  does = x.does;
  has = x.has;
  asks = x.asks;
})

pub progress_row : (program : Program) (code : Code) (ls : List Landing) (K : Term → State → Type 0) (t t' : Term) (st : State) → row program t ≡ Some (goes t')
    → Progress program code ls K t' st → Progress program code ls K t st
progress_row program code ls K t t' st e = progress_after program code ls K t t' st (quietly (λ own. here) e still)

-- the strand goes on, and t does by its rule
pub moves_on : (program : Program) (code : Code) (ls : List Landing) (K : Term → State → Type 0) (t t' : Term) (st st' : State) → row program t ≡ Some (goes t')
    → ask code st ≡ Some (goes st') → st.at < length code.list → Forth code st (goes st') → K t' st' → Progress program code ls K t st
moves_on program code ls K t t' st st' e asks inside forth keeps =
    moves (record { what = goes st'; asks = asks; follows = (t', quietly (λ own. here) e still, keeps); inside = inside; forth = forth })

pub moves_fault : (program : Program) (code : Code) (ls : List Landing) (K : Term → State → Type 0) (t : Term) (st : State) (why : FaultKind) (place : ℕ)
    → row program t ≡ Some (meets why place) → ask code st ≡ Some (meets why place) → st.at < length code.list → Progress program code ls K t st
moves_fault program code ls K t st why place e asks inside =
    moves (record { what = meets why place; asks = asks; follows = (t, still, open_here program t _ (by_rule e)); inside = inside; forth = tt })

pub moves_act : (program : Program) (code : Code) (ls : List Landing) (K : Term → State → Type 0) (t : Term) (st : State) (place : ℕ) (w : Want) (next : Reply → Term) (k : Reply → State)
    → row program t ≡ Some (acts place w next) → ask code st ≡ Some (acts place w k) → st.at < length code.list
    → ((r : Reply) → K (next r) (k r)) → is_fork w ≡ false → Progress program code ls K t st
moves_act program code ls K t st place w next k e asks inside keeps plain = moves (record {
  what = acts place w k;
  asks = asks;
  follows = record {
    now = t;
    quiet = still;
    wants = w;
    alike = λ s. refl;
    next = next;
    open_at = open_here program t _ (by_rule e);
    keeps = λ s s2 act r d. simply plain (keeps r);
  };
  inside = inside;
  forth = tt;
})
