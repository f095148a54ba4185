-- The relation between a strand's state and the term that it does.
use Rattle.std.proofs.Common.{◌≡◌, ◌<◌, ◌⊎◌, ◌+◌, ℕ, suc, arith, Bool, true, false, List, [], ◌∷◌, None, Some, refl, sym, ap, ◌∙◌, subst}
use Rattle.std.specs.Option.{option_map}
use Rattle.std.specs.Prelude.{slice_get, reverse, if◌then◌else◌}
use Rattle.a68_acts.specs.Members.{members_of}
use Rattle.a68_acts.specs.Operations.{Operation, leaves}
use Rattle.a68_acts.specs.declared.operation.Doing.{Doing}
use Rattle.a68_acts.specs.declared.operation.Doing.TheVariants as doing
use Rattle.a68_code.specs.Flow.{takes}
use Rattle.a68_code.specs.declared.code.Code.{Code}
use Rattle.a68_code.specs.declared.code.RoutineEntrance.{RoutineEntrance}
use Rattle.a68_code.specs.declared.does.Does.{Does}
use Rattle.a68_code.specs.declared.does.Does.TheVariants as does
use Rattle.a68_elab.specs.Terms.{Job, operating, resuming, gathering, preceding, ending, at_step, ranged, choosing, casing, conforming, specifying, tagging, passing, chosen, limiting, counting, stepping, turning, opening, naming, indexing, ranging, testing, running, advancing, quitting, leaving, calling, entering, binding, inside, forking, joining, closing, Term, todo, part, yielded, unit_of, Terms, no_terms, ◌and_term◌, todos, values}
use Rattle.a68_elab.specs.Trees.{Tree, LoopTurns, depth, Trees, no_trees, ◌and_tree◌, count, Steps, last_step, step, exit, is_label_in, from_label}
use Rattle.a68_emit.specs.Stretches.{AreEntrances, Indexes, Leaves, Has, Lie, above, deeper_by, in_clause, place_of, Stands, StandAll, StandArms, StandSpecs, StandSteps, Tests, member_places, wholes_of, with_last, does_of, leave}
use Rattle.a68_modes.specs.Nodes.{shape_at}
use Rattle.a68_sim.proofs.Asking.{idle}
use Rattle.a68_sim.proofs.Landings.{Landing, landing, Agrees, agrees_value}
use Rattle.a68_heights.proofs.ForksOfSteps.{is_fork}
use Rattle.a68_sim.proofs.Quiet.{outwards}
use Rattle.a68_instructions.specs.Machine.{State, follows, enters_body, binds, back}
use Rattle.a68_stack.specs.Values.{callers, pop_values}
use Rattle.a68_stack.specs.declared.stack.Item.{Item}
use Rattle.a68_stack.specs.declared.stack.Item.TheVariants as item
use Rattle.a68_values.specs.Content.{Content, plain}
use Rattle.a68_values.specs.declared.plain.Plain.TheVariants as value
use Rattle.a68_values.specs.declared.plain.Routine.{Routine}
use Rattle.a68_values.specs.declared.chain.Environ.{Environ}

-- pushed where a value is left
abbrev pub push : Bool → Content → List Item → List Item
push true v items = item.Value v ∷ items
push false v items = items

abbrev pub count_terms : Terms → ℕ
count_terms no_terms = 0
count_terms (t and_term ts) = suc (count_terms ts)

-- parts that have not begun, whose stretches stand one behind the other
abbrev pub AllTodo : Code → Lie → Bool → Terms → ℕ → ℕ → List Environ → Type 0
AllTodo code lie g no_terms a b ch = a ≡ b
AllTodo code lie g (todo tree c and_term ts) a b ch = (m : ℕ) × Stands code lie g tree a m × (c ≡ ch) × AllTodo code (above g lie) g ts m b ch
AllTodo code lie g (part job c ps and_term ts) a b ch = ⊥
AllTodo code lie g (yielded v and_term ts) a b ch = ⊥
AllTodo code lie g (unit_of s t and_term ts) a b ch = ⊥

-- they stand so behind a part, which lies on this stack
abbrev pub Behind : Code → List Landing → Bool → Terms → ℕ → ℕ → List Item → List Environ → Type 0
Behind code ls g ts m b base ch = (lie : Lie) × Agrees lie ls base ch × AllTodo code (above g lie) g ts m b ch

-- the stretch of a tree, which lies on this stack
abbrev pub Lies : Code → List Landing → Bool → Tree → ℕ → ℕ → List Item → List Environ → Type 0
Lies code ls g tree a b base ch = (lie : Lie) × Agrees lie ls base ch × Stands code lie g tree a b

pub agrees_push : (g : Bool) (lie : Lie) (ls : List Landing) (v : Content) (base : List Item) (ch : List Environ) → Agrees lie ls base ch → Agrees (above g lie) ls (push g v base) ch
agrees_push true lie ls v base ch a = agrees_value lie ls v base ch a
agrees_push false lie ls v base ch a = a

-- how a strand stands that has done the parts at hand
pub data Pose : Type 0 where
  -- before an instruction
  ready : Pose
  -- in the midst of an operation
  midst : (d : Doing) → Pose
  -- in the midst of a call: before the frame of the routine, which has these parameters, and in it, with these left
  enters : (r : Routine) (parameters : List Content) → Pose
  binds_from : (text slot : ℕ) (left : List Content) → Pose

abbrev pub pose_of : Job → Pose
pose_of (resuming p d) = midst d
pose_of (entering p r vs) = enters r vs
pose_of (binding p r from slot vs) = binds_from r.text slot vs
pose_of _ = ready

abbrev pub posed : Code → Pose → ℕ → List Item → List Environ → Bool → State
posed code ready k base ch g = idle k base ch
posed code (midst d) k base ch g = follows (idle k [] ch) g base d
posed code (enters r vs) k base ch g = enters_body (idle k base ch) r (record { slot = 0; left = reverse vs }) ch
posed code (binds_from text slot vs) k base ch g = binds code.texts (idle k base ch) text slot vs ch

-- whether a step leaves a value, where the clause does so or not
abbrev pub step_gives : Steps → Bool → Bool
step_gives (last_step labels t) g = g
step_gives (step labels t more) g = false
step_gives (exit labels t more) g = g

-- whether the parts at hand leave values, where the whole does so or not
abbrev pub parts_give : Job → Bool → Bool
parts_give (operating p op o) g = true
parts_give (resuming p d) g = g
parts_give ending g = g
parts_give (at_step all here) g = step_gives here g
parts_give (ranged out yields) g = g
parts_give (choosing p if_true if_false) g = true
parts_give (casing p arms out) g = true
parts_give (conforming p union yields specs out) g = true
parts_give chosen g = g
parts_give (limiting l) g = true
parts_give (counting l) g = true
parts_give (testing c l) g = true
parts_give (calling p yields) g = true
parts_give (inside p yields from) g = g
parts_give _ g = false

-- the stack on which the parts at hand are done, where the whole ends at b in the chain home
abbrev pub inner : Job → ℕ → List Environ → List Item → List Item
inner (specifying p yields v t) b home base = item.Value v ∷ base
inner (tagging p yields v t) b home base = item.Value v ∷ base
inner (passing v t) b home base = item.Value v ∷ base
inner (stepping c l) b home base = item.Counter c ∷ base
inner (turning c l) b home base = item.Counter c ∷ base
inner (opening c l) b home base = item.Counter c ∷ base
inner (naming c l) b home base = item.Counter c ∷ base
inner (indexing c l) b home base = item.Value (plain (value.Int c.at)) ∷ (item.Counter c ∷ base)
inner (ranging c l at slots test) b home base = item.Counter c ∷ base
inner (testing c l) b home base = item.Counter c ∷ base
inner (running c l) b home base = item.Counter c ∷ base
inner (advancing n c l) b home base = item.Counter c ∷ base
inner (quitting n p c) b home base = item.Counter c ∷ base
inner (leaving c) b home base = item.Counter c ∷ base
inner (binding p r from slot vs) b home base = item.Caller (record { to = b; chain = home }) ∷ base
inner (inside p yields from) b home base = item.Caller (record { to = b; chain = home }) ∷ base
inner _ b home base = base

-- the clauses about the parts at hand: those about the whole, and the whole where it is one, whose steps stand at these places;
-- in the body of a routine none
abbrev pub landings : Job → (places : List ℕ) → List Landing → List Item → List Environ → List Landing
landings (at_step all here) places ls base ch = landing all places base ch ∷ ls
landings (inside p yields from) places ls base ch = []
landings _ places ls base ch = ls

-- the instruction of an operation, from k up to b
pub record OperationAt (code : Code) (p : ℕ) (op : Operation) (n : ℕ) (k b : ℕ) (g : Bool) : Type 0 where
  pub gives : g ≡ leaves code.modes op
  pub enough : takes (does_of op n) ≡ n
  pub has : Has code p (does_of op n) k b

-- an operation that goes on like this stands from k up to b
abbrev pub Continues : Code → ℕ → Doing → List Environ → ℕ → ℕ → List Environ → Bool → Type 0
Continues code p (doing.Yields v) ch k b home g = (suc k ≡ b) × (ch ≡ home)
Continues code p (doing.Asks w next) ch k b home g = (op : Operation) × (n : ℕ) × OperationAt code p op n k b g × (ch ≡ home) × (is_fork w ≡ false)
Continues code p (doing.Meets why) ch k b home g = (d : Does) × (slice_get code.list k ≡ Some (record { place = p; does = d }))

abbrev pub bit_of : Bool → ℕ
bit_of c = if c then 1 else 0

-- a loop's stretch, from its Step at t up to b; its counter lies on this stack
pub record LoopAt (code : Code) (ls : List Landing) (base : List Item) (home : List Environ) (l : LoopTurns) (t b : ℕ) : Type 0 where
  pub lie : Lie
  pub agrees : Agrees lie ls base home
  pub t' : ℕ
  pub u : ℕ
  pub w : ℕ
  pub x : ℕ
  pub n : ℕ
  pub n' : ℕ
  pub v : ℕ
  pub f : ℕ
  pub e : ℕ
  pub step : Has code l.place (does.Step e) t t'
  pub turn : Has code l.place does.Turn t' u
  pub index : Indexes code l.counts l.place u w
  pub tests : Tests code (deeper_by (bit_of l.counts) (above true lie)) l.test l.place f w x
  pub body_at : Stands code (deeper_by (depth l) (above true lie)) false l.body x n
  pub out : Leaves code l.place (depth l) n n'
  pub advance : Has code l.place (does.Advance t) n' v
  pub jump : Has code l.place (does.Jump e) v f
  pub quit : Leaves code l.place (depth l) f e
  pub forget : Has code l.place does.Forget e b

-- so many frames outwards is that in which the whole ends
abbrev pub Hangs : ℕ → List Environ → List Environ → Type 0
Hangs n ch home = back n ch ≡ Some home

-- the body of the routine's text leaves a value or none, as `g` says
abbrev pub Fits : Code → Routine → Bool → Type 0
Fits code r g = (e : RoutineEntrance) → slice_get code.texts r.text ≡ Some e → e.yields ≡ g

-- the members of a union, by its number
abbrev pub members_in : Code → (union : ℕ) → List ℕ
members_in code union = members_of (shape_at code.modes union)

-- what stands behind a step of a clause, which ends at b
abbrev pub Rest : Code → Lie → Bool → (place : ℕ) → Steps → (k b : ℕ) → Type 0
Rest code lie g place (last_step labels t) k b = k ≡ b
Rest code lie g place (step labels t more) k b = (ps : List ℕ) × StandSteps code lie g place b more ps k b
Rest code lie g place (exit labels t more) k b = (n : ℕ) × Has code place (does.Jump b) k n × (k < b)

-- a clause with labels, whose steps stand at these places up to b
pub record ClauseAt (code : Code) (ls : List Landing) (places : List ℕ) (all : Steps) (base : List Item) (ch : List Environ) (g : Bool) (b : ℕ) : Type 0 where
  pub place : ℕ
  pub begin : ℕ
  pub lie : Lie
  pub agrees : Agrees lie ls base ch
  pub stands : StandSteps code (in_clause all places lie) g place b all places begin b

-- What stands behind the parts at hand, of which there are n, from k up to the end b of the whole, which lies on this stack; of
-- a clause with labels the steps stand at these places.
abbrev pub Tail : Code → List Landing → Job → (places : List ℕ) → ℕ → List Environ → ℕ → ℕ → List Item → List Environ → Bool → Type 0
Tail code ls (operating p op o) places n ch k b base home g = OperationAt code p op n k b g × (ch ≡ home)
Tail code ls (resuming p d) places n ch k b base home g = (n ≡ 0) × Continues code p d ch k b home g
Tail code ls (preceding final) places n ch k b base home g = (ch ≡ home) × Lies code ls g final k b base ch
Tail code ls gathering places n ch k b base home g = (g ≡ false) × (k ≡ b) × (ch ≡ home)
Tail code ls ending places n ch k b base home g = (n ≡ 1) × (k ≡ b) × (ch ≡ home)
Tail code ls (at_step all here) places n ch k b base home g =
    (n ≡ 1) × (ch ≡ home) × (c : ClauseAt code ls places all base ch g b) × Rest code (in_clause all places c.lie) g c.place here k b
Tail code ls (ranged out yields) places n ch k b base home g = (n ≡ 1) × (g ≡ yields) × Has code out (leave g) k b × (outwards ch ≡ home)
Tail code ls (choosing p if_true if_false) places n ch k b base home g =
    (ch ≡ home) × (n ≡ 1) × (lie : Lie) × Agrees lie ls base ch × (m' j x : ℕ) × Has code p (does.Unless x) k m' × Stands code lie g if_true m' j
    × Has code p (does.Jump b) j x × Stands code lie g if_false x b
Tail code ls (casing p arms out) places n ch k b base home g =
    (ch ≡ home) × (n ≡ 1) × (lie : Lie) × Agrees lie ls base ch × (m x : ℕ) × (ps : List ℕ) × Has code p (does.Case (with_last ps x)) k m
    × StandArms code lie g p b arms ps m x × Stands code lie g out x b
Tail code ls (conforming p union yields specs out) places n ch k b base home g =
    (ch ≡ home) × (n ≡ 1) × (g ≡ yields) × (lie : Lie) × Agrees lie ls base ch × (m x : ℕ) × (ps : List ℕ)
    × Has code p (does.Member union (member_places (members_in code union) specs ps x) (wholes_of (members_in code union) specs)) k m
    × StandSpecs code lie g p b specs ps m x × Stands code lie g out x b
Tail code ls (specifying p yields v t) places n ch k b base home g =
    (ch ≡ home) × (g ≡ yields) × (lie : Lie) × Agrees lie ls base ch × (m q r : ℕ) × Has code p (does.Enter 1) k m × Has code p (does.Bind 0) m q
    × Stands code (deeper_by 1 lie) g t q r × Has code p (leave g) r b
Tail code ls (tagging p yields v t) places n ch k b base home g =
    (outwards ch ≡ home) × (g ≡ yields) × (q r : ℕ) × Has code p (does.Bind 0) k q × Lies code ls g t q r base ch × Has code p (leave g) r b
Tail code ls (passing v t) places n ch k b base home g = (ch ≡ home) × (p m : ℕ) × Has code p does.Drop k m × Lies code ls g t m b base ch
Tail code ls chosen places n ch k b base home g = (ch ≡ home) × (n ≡ 1) × ((k ≡ b) ⊎ ((p x : ℕ) × Has code p (does.Jump b) k x × (k < b)))
Tail code ls (limiting l) places n ch k b base home g =
    (g ≡ false) × (ch ≡ home) × (n ≡ 3) × (m t : ℕ) × Has code l.place (does.Apply 26) k m × Has code l.place does.Counter m t × LoopAt code ls base home l t b
Tail code ls (counting l) places n ch k b base home g =
    (g ≡ false) × (ch ≡ home) × (n ≡ 3) × (t : ℕ) × Has code l.place does.Counter k t × LoopAt code ls base home l t b
Tail code ls (stepping c l) places n ch k b base home g = (g ≡ false) × (ch ≡ home) × LoopAt code ls base home l k b
Tail code ls (turning c l) places n ch k b base home g = (g ≡ false) × (ch ≡ home) × (t : ℕ) × (x : LoopAt code ls base home l t b) × (k ≡ x.t')
Tail code ls (opening c l) places n ch k b base home g =
    (g ≡ false) × (ch ≡ home) × (t : ℕ) × (x : LoopAt code ls base home l t b) × (k ≡ x.u) × (l.counts ≡ true)
Tail code ls (naming c l) places n ch k b base home g =
    (g ≡ false) × Hangs 1 ch home × (t : ℕ) × (x : LoopAt code ls base home l t b) × (l.counts ≡ true) × (i : ℕ) × Has code l.place does.Index k i
    × Has code l.place (does.Bind 0) i x.w
Tail code ls (indexing c l) places n ch k b base home g =
    (g ≡ false) × Hangs 1 ch home × (t : ℕ) × (x : LoopAt code ls base home l t b) × (l.counts ≡ true) × Has code l.place (does.Bind 0) k x.w
Tail code ls (ranging c l at slots test) places n ch k b base home g =
    (g ≡ false) × Hangs (bit_of l.counts) ch home × (t : ℕ) × (x : LoopAt code ls base home l t b) × (depth l ≡ suc (bit_of l.counts)) × (m m' : ℕ)
    × Has code at (does.Enter slots) k m × Stands code (deeper_by 1 (deeper_by (bit_of l.counts) (above true x.lie))) true test m m' × Has code l.place (does.Unless x.f) m' x.x
Tail code ls (testing c l) places n ch k b base home g =
    (g ≡ false) × Hangs (depth l) ch home × (n ≡ 1) × (t : ℕ) × (x : LoopAt code ls base home l t b) × Has code l.place (does.Unless x.f) k x.x
Tail code ls (running c l) places n ch k b base home g = (g ≡ false) × Hangs (depth l) ch home × (t : ℕ) × (x : LoopAt code ls base home l t b) × (k ≡ x.n)
Tail code ls (advancing j c l) places n ch k b base home g =
    (g ≡ false) × Hangs j ch home × (t : ℕ) × (x : LoopAt code ls base home l t b) × Leaves code l.place j k x.n'
Tail code ls (quitting j p c) places n ch k b base home g = (g ≡ false) × Hangs j ch home × (e : ℕ) × Leaves code p j k e × Has code p does.Forget e b
Tail code ls (leaving c) places n ch k b base home g =
    (g ≡ false) × (ch ≡ home) × (p : ℕ) × (Has code p does.Forget k b ⊎ ((e f : ℕ) × Has code p (does.Jump e) k f × (k < e) × Has code p does.Forget e b))
Tail code ls (calling p yields) places n ch k b base home g = (g ≡ yields) × (ch ≡ home) × (j : ℕ) × (n ≡ suc j) × Has code p (does.Call j yields) k b
Tail code ls (entering p r vs) places n ch k b base home g = (n ≡ 0) × (ch ≡ home) × Fits code r g × (d : Does) × Has code p d k b
Tail code ls (binding p r from slot vs) places n ch k b base home g = (n ≡ 0) × (from ≡ home) × Fits code r g × (d : Does) × Has code p d k b
Tail code ls (inside p yields from) places n ch k b base home g =
    (g ≡ yields) × (from ≡ home) × (n ≡ 1) × (slice_get code.list k ≡ Some (record { place = p; does = does.Return }))
Tail code ls (forking p numbers) places n ch k b base home g =
    (g ≡ false) × (ch ≡ home) × (entrances : List ℕ) × AreEntrances code.units numbers entrances × Has code p (does.Fork entrances) k b
-- a strand that waits for units, and one that ends as a unit, are no part of a strand's own work
Tail code ls joining places n ch k b base home g = ⊥
Tail code ls (closing p) places n ch k b base home g = ⊥

-- the strand is about to begin a tree
pub record Begins (code : Code) (ls : List Landing) (tree : Tree) (c : List Environ) (b : ℕ) (base : List Item) (home : List Environ) (g : Bool) (st : State) : Type 0 where
  pub a : ℕ
  pub lie : Lie
  pub agrees : Agrees lie ls base home
  pub stands : Stands code lie g tree a b
  pub chain : c ≡ home
  pub state : st ≡ idle a base home

-- the strand does the parts, from the first unfinished one on; behind them is k
abbrev pub DoesParts : Code → List Landing → Terms → ℕ → List Item → List Environ → Bool → Pose → State → Type 0
DoesParts code ls no_terms k base ch g d st = st ≡ posed code d k base ch g
DoesParts code ls (yielded v and_term ts) k base ch g d st = DoesParts code ls ts k (push g v base) ch g d st
DoesParts code ls (todo tree c and_term ts) k base ch g d st = (m : ℕ) × (d ≡ ready) × Behind code ls g ts m k base ch × Begins code ls tree c m base ch g st
DoesParts code ls (part job c ps and_term ts) k base ch g d st =
    (m : ℕ) × (d ≡ ready) × Behind code ls g ts m k base ch × (places : List ℕ) × (k2 : ℕ)
    × DoesParts code (landings job places ls (inner job m ch base) c) ps k2 (inner job m ch base) c (parts_give job g) (pose_of job) st
    × Tail code ls job places (count_terms ps) c k2 m base ch g
DoesParts code ls (unit_of s t and_term ts) k base ch g d st = ⊥

-- The strand does the term, within these clauses with labels: once that has yielded, the strand is at b, in the chain home, and
-- what it leaves is on base.
abbrev pub Sim : Code → List Landing → ℕ → List Item → List Environ → Bool → Term → State → Type 0
Sim code ls b base home g (todo tree c) st = Begins code ls tree c b base home g st
Sim code ls b base home g (yielded v) st = st ≡ idle b (push g v base) home
Sim code ls b base home g (part job c ps) st =
    (places : List ℕ) × (k : ℕ) × DoesParts code (landings job places ls (inner job b home base) c) ps k (inner job b home base) c (parts_give job g) (pose_of job) st
    × Tail code ls job places (count_terms ps) c k b base home g
Sim code ls b base home g (unit_of s t) st = ⊥

-- yielded parts in front, the last one first
abbrev pub yields : List Content → Terms → Terms
yields [] ts = ts
yields (v ∷ acc) ts = yields acc (yielded v and_term ts)

-- what they leave
abbrev pub left : Bool → List Content → List Item → List Item
left g [] base = base
left g (v ∷ acc) base = push g v (left g acc base)

abbrev pub onto : List Content → List Content → List Content
onto [] vs = vs
onto (v ∷ acc) vs = onto acc (v ∷ vs)

pub does_yields : (code : Code) (ls : List Landing) (acc : List Content) (ts : Terms) (k : ℕ) (base : List Item) (ch : List Environ) (g : Bool) (d : Pose) (st : State)
    → DoesParts code ls ts k (left g acc base) ch g d st → DoesParts code ls (yields acc ts) k base ch g d st
does_yields code ls [] ts k base ch g d st x = x
does_yields code ls (v ∷ acc) ts k base ch g d st x = does_yields code ls acc (yielded v and_term ts) k base ch g d st x

-- the parts of which the first has just been reached
pub does_todos : (code : Code) (ls : List Landing) (lie : Lie) (ts : Terms) (a k : ℕ) (base : List Item) (ch : List Environ) (g : Bool) (st : State) → Agrees lie ls base ch
    → AllTodo code lie g ts a k ch → st ≡ idle a base ch → DoesParts code ls ts k base ch g ready st
does_todos code ls lie no_terms a k base ch g st agrees all e = e ∙ ap (λ n. idle n base ch) all
does_todos code ls lie (todo tree c and_term ts) a k base ch g st agrees all e =
    (all.0, refl, (lie, agrees, all.3), record { a = a; lie = lie; agrees = agrees; stands = all.1; chain = all.2; state = e })
does_todos code ls lie (part job c ps and_term ts) a k base ch g st agrees all e = absurd all
does_todos code ls lie (yielded v and_term ts) a k base ch g st agrees all e = absurd all
does_todos code ls lie (unit_of s t and_term ts) a k base ch g st agrees all e = absurd all

-- those behind a part that has yielded
pub does_behind : (code : Code) (ls : List Landing) (v : Content) (ts : Terms) (m k : ℕ) (base : List Item) (ch : List Environ) (g : Bool) (d : Pose) (st : State) → d ≡ ready
    → Behind code ls g ts m k base ch → st ≡ idle m (push g v base) ch → DoesParts code ls ts k (push g v base) ch g d st
does_behind code ls v ts m k base ch g d st none behind e =
    subst (λ (x : Pose). DoesParts code ls ts k (push g v base) ch g x st) (sym none)
    (does_todos code ls (above g behind.0) ts m k (push g v base) ch g st (agrees_push g behind.0 ls v base ch behind.1) behind.2 e)

pub does_first : (code : Code) (ls : List Landing) (t : Term) (ts : Terms) (m k : ℕ) (base : List Item) (ch : List Environ) (g : Bool) (d : Pose) (st : State) → d ≡ ready
    → Behind code ls g ts m k base ch → Sim code ls m base ch g t st → DoesParts code ls (t and_term ts) k base ch g d st
does_first code ls (yielded v) ts m k base ch g d st none behind s = does_behind code ls v ts m k base ch g d st none behind s
does_first code ls (todo tree c) ts m k base ch g d st none behind s = (m, none, behind, s)
does_first code ls (part job c ps) ts m k base ch g d st none behind s = (m, none, behind, s.0, s.1, s.2, s.3)
does_first code ls (unit_of x t) ts m k base ch g d st none behind s = absurd s

pub same_count : (acc : List Content) (xs ys : Terms) → count_terms xs ≡ count_terms ys → count_terms (yields acc xs) ≡ count_terms (yields acc ys)
same_count [] xs ys e = e
same_count (v ∷ acc) xs ys e = same_count acc (yielded v and_term xs) (yielded v and_term ys) (ap (λ n. suc n) e)

pub values_yields : (acc : List Content) (ts : Terms) (vs : List Content) → values ts ≡ Some vs → values (yields acc ts) ≡ Some (onto acc vs)
values_yields [] ts vs e = e
values_yields (v ∷ acc) ts vs e = values_yields acc (yielded v and_term ts) (v ∷ vs) (ap (option_map (λ us. v ∷ us)) e)

abbrev pub size : List Content → ℕ
size [] = 0
size (v ∷ acc) = suc (size acc)

-- what the machine pops are the values of the parts
pub pops_left : (acc : List Content) (base : List Item) (vs : List Content) → pop_values (size acc) (left true acc base) vs ≡ Some (onto acc vs, base)
pops_left [] base vs = refl
pops_left (v ∷ acc) base vs = pops_left acc base (v ∷ vs)

pub count_yields : (acc : List Content) (ts : Terms) → count_terms (yields acc ts) ≡ size acc + count_terms ts
count_yields [] ts = omega arith
count_yields (v ∷ acc) ts = let e = count_yields acc (yielded v and_term ts) in omega (arith, e)

pub left_none : (acc : List Content) (base : List Item) → left false acc base ≡ base
left_none [] base = refl
left_none (v ∷ acc) base = left_none acc base

pub todos_all : (code : Code) (lie : Lie) (g : Bool) (trees : Trees) (a b : ℕ) (ch : List Environ) → StandAll code lie g trees a b → AllTodo code lie g (todos trees ch) a b ch
todos_all code lie g no_trees a b ch s = s
todos_all code lie g (tree and_tree trees) a b ch s = (s.0, s.1, refl, todos_all code (above g lie) g trees s.0 b ch s.2)

pub count_todos : (trees : Trees) (ch : List Environ) → count_terms (todos trees ch) ≡ count trees
count_todos no_trees ch = refl
count_todos (tree and_tree trees) ch = ap (λ n. suc n) (count_todos trees ch)

pub callers_push : (g : Bool) (v : Content) (base : List Item) → callers (push g v base) ≡ callers base
callers_push true v base = refl
callers_push false v base = refl

pub callers_left : (g : Bool) (acc : List Content) (base : List Item) → callers (left g acc base) ≡ callers base
callers_left g [] base = refl
callers_left g (v ∷ acc) base = callers_push g v (left g acc base) ∙ callers_left g acc base

-- the steps of a clause from the one behind a label on
pub steps_from : (code : Code) (lie : Lie) (g : Bool) (place e label : ℕ) (steps : Steps) (ps : List ℕ) (a b to : ℕ) → StandSteps code lie g place e steps ps a b
    → place_of label steps ps ≡ Some to → (qs : List ℕ) × StandSteps code lie g place e (from_label label steps) qs to b
steps_from code lie g place e label (last_step ls t) [] a b to s f = absurd s
steps_from code lie g place e label (step ls t more) [] a b to s f = absurd s
steps_from code lie g place e label (exit ls t more) [] a b to s f = absurd s
steps_from code lie g place e label (last_step ls t) (p ∷ (q ∷ ps)) a b to s f = absurd s
steps_from code lie g place e label (last_step ls t) (p ∷ []) a b to s f = by_test (is_label_in label ls) f
  where
    by_test : (x : Bool) → (if x then Some p else None) ≡ Some to → (qs : List ℕ) × StandSteps code lie g place e (last_step ls t) qs to b
    by_test true f = let same : p ≡ to = cc in (p ∷ [], subst (λ (y : ℕ). StandSteps code lie g place e (last_step ls t) (p ∷ []) y b) (sym s.0 ∙ same) s)
    by_test false f = absurd (cc)
steps_from code lie g place e label (step ls t more) (p ∷ ps) a b to s f = by_test (λ h. steps_from code lie g place e label more ps s.0 b to s.3 h) (is_label_in label ls) f
  where
    by_test : (place_of label more ps ≡ Some to → (qs : List ℕ) × StandSteps code lie g place e (from_label label more) qs to b)
        → (x : Bool) → (if x then Some p else place_of label more ps) ≡ Some to → (qs : List ℕ) × StandSteps code lie g place e (if x then step ls t more else from_label label more) qs to b
    by_test later true f = let same : p ≡ to = cc in (p ∷ ps, subst (λ (y : ℕ). StandSteps code lie g place e (step ls t more) (p ∷ ps) y b) (sym s.1 ∙ same) s)
    by_test later false f = later f
steps_from code lie g place e label (exit ls t more) (p ∷ ps) a b to s f = by_test (λ h. steps_from code lie g place e label more ps s.1 b to s.5 h) (is_label_in label ls) f
  where
    by_test : (place_of label more ps ≡ Some to → (qs : List ℕ) × StandSteps code lie g place e (from_label label more) qs to b)
        → (x : Bool) → (if x then Some p else place_of label more ps) ≡ Some to → (qs : List ℕ) × StandSteps code lie g place e (if x then exit ls t more else from_label label more) qs to b
    by_test later true f = let same : p ≡ to = cc in (p ∷ ps, subst (λ (y : ℕ). StandSteps code lie g place e (exit ls t more) (p ∷ ps) y b) (sym s.2 ∙ same) s)
    by_test later false f = later f
