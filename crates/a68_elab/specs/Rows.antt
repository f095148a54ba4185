-- The rules of elaboration: what comes next for a term.
use Rattle.std.specs.Prelude.{ℕ, zero, suc, Bool, true, false, ◌&&◌, ◌||◌, nat_eq, List, [], ◌∷◌, length, map, None, Some, Ok, Err, slice_get, nat_lt, if◌then◌else◌}
use Rattle.std.specs.Option.{option_map, option_map_or}
use Rattle.std.specs.declared.option.Option.{Option}
use Rattle.std.specs.declared.result.Result.{Result}
use Rattle.a68_signs.specs.declared.operators.TheConstants as operators
use Rattle.a68_acts.specs.Operations.{start, resumed, called, tested, case_of, counter_of, has_turn, advanced}
use Rattle.a68_acts.specs.declared.operation.Counter.{Counter}
use Rattle.a68_acts.specs.declared.operation.Doing.{Doing}
use Rattle.a68_acts.specs.declared.operation.Doing.TheVariants as doing
use Rattle.a68_acts.specs.declared.want.Reply.{Reply}
use Rattle.a68_acts.specs.declared.want.Reply.TheVariants as reply
use Rattle.a68_acts.specs.declared.want.Want.{Want}
use Rattle.a68_acts.specs.declared.want.Want.TheVariants as want
use Rattle.a68_elab.specs.Terms.{Job, operating, resuming, gathering, preceding, ending, at_step, ranged, choosing, casing, conforming, specifying, tagging, passing, chosen, limiting, counting, stepping, turning, opening, naming, indexing, ranging, testing, running, advancing, quitting, leaving, calling, entering, binding, inside, forking, joining, closing, Term, todo, part, yielded, unit_of, no_terms, ◌and_term◌, only, todos, unit_terms, values, last_of}
use Rattle.a68_elab.specs.Trees.{Tree, operation, together, phrases, labelled, jump, range, choice, cases, conformity, loop, call, parallel, meaningless, Trees, no_trees, ◌and_tree◌, count, Steps, last_step, step, exit, first, Specs, no_specs, spec, Test, no_test, while_in, LoopTurns, depth, Body, ParallelUnit, Program, texts_of, units_of}
use Rattle.a68_acts.specs.Members.{member_of}
use Rattle.a68_modes.specs.Nodes.{shape_at}
use Rattle.a68_modes.specs.declared.shape.Shape.{Shape}
use Rattle.a68_ops.specs.Applied.{applied}
use Rattle.a68_values.specs.Content.{Content, plain, united, void, scope_of}
use Rattle.a68_values.specs.declared.act.FaultKind.{FaultKind}
use Rattle.a68_values.specs.declared.act.FaultKind.TheVariants as fault
use Rattle.a68_values.specs.declared.chain.Environ.{Environ}
use Rattle.a68_values.specs.declared.plain.Plain.TheVariants as value
use Rattle.a68_values.specs.declared.plain.Routine.{Routine}

-- what comes next: a silent change, an act with what follows its reply, or a fault. An act and a fault are those of the
-- construct that begins at this place.
pub data Then (A : Type 0) : Type 0 where
  goes : A → Then A
  acts : (place : ℕ) → Want → (Reply → A) → Then A
  meets : FaultKind → (place : ℕ) → Then A

-- on with a result, where it is no fault
abbrev pub goes_with : {A : Type 0} → (place : ℕ) → (A → Term) → Result A FaultKind → Then Term
goes_with place f (Ok x) = goes (f x)
goes_with place f (Err kind) = meets kind place

-- ---- operations

-- an operation yields, meets a fault, or asks for an act and goes on with the reply
abbrev pub operates : List Shape → (place : ℕ) → List Environ → Doing → Then Term
operates modes place chain (doing.Yields v) = goes (yielded v)
operates modes place chain (doing.Asks w next) = acts place w (λ r. part (resuming place (resumed modes next r)) chain no_terms)
operates modes place chain (doing.Meets kind) = meets kind place

-- behind a reply to another act, which no store gives, there is the fault Kind (own)
abbrev pub misled : (place : ℕ) → List Environ → Term
misled place chain = part (resuming place (doing.Meets fault.Kind)) chain no_terms

-- ---- frames

-- within a new frame, which stands before those within which it was made (Report, 3.2.2.b)
abbrev pub within_frame : (place : ℕ) → List Environ → (List Environ → Term) → Reply → Term
within_frame place chain go (reply.Frame (e ∷ about)) = go (e ∷ chain)
within_frame place chain go _ = misled place chain

-- a range makes its frame within the innermost one, newer in scope by one (Report, 3.2.2.b)
abbrev pub enters : (place slots : ℕ) → List Environ → (List Environ → Term) → Then Term
enters place slots [] go = meets fault.Kind place
enters place slots (e ∷ outer) go = acts place (want.Enter e.frame (suc e.scope) slots) (within_frame place (e ∷ outer) go)

-- a frame is left, and the value that is yielded, where there is one, may not be newer in scope than the frame about it
-- (Report, 3.2.2.a)
abbrev pub leaves : (place : ℕ) (yields : Bool) → List Environ → Content → Then Term
leaves place yields (inner ∷ e ∷ outer) v = if yields && nat_lt e.scope (scope_of v) then meets fault.Scope place else goes (yielded v)
leaves place yields _ v = meets fault.Kind place

-- ---- serial clauses with labels (Report, 3.2.2)

-- a clause at one of its steps
abbrev pub stands_at : (all here : Steps) → List Environ → Term
stands_at all here chain = part (at_step all here) chain (only (todo (first here) chain))

-- a step has yielded: the clause goes on with the next one, or with that yield it ends
abbrev pub goes_behind : (all here : Steps) → List Environ → Content → Then Term
goes_behind all (last_step labels t) chain v = goes (yielded v)
goes_behind all (step labels t more) chain v = goes (stands_at all more chain)
goes_behind all (exit labels t more) chain v = goes (yielded v)

-- ---- choices

-- the chosen part, whose yield is that of the clause
abbrev pub chooses : List Environ → Tree → Term
chooses chain t = part chosen chain (only (todo t chain))

-- the part of this number from 0; the other one where there is none
abbrev pub arm : Trees → ℕ → (out : Tree) → Tree
arm no_trees k out = out
arm (t and_tree ts) zero out = t
arm (t and_tree ts) (suc k) out = arm ts k out

-- ---- choices by the mode of a united value (Report, 3.4)

abbrev pub is_among : (m : ℕ) → List ℕ → Bool
is_among m [] = false
is_among m (n ∷ ns) = nat_eq m n || is_among m ns

-- whether a specification that takes these members takes a value
abbrev pub takes_value : (takes : List ℕ) → Content → Bool
takes_value takes (united m v) = is_among m takes
takes_value takes v = false

-- what it takes of the value: the value united in it, or the united one
abbrev pub taken : (whole : Bool) → Content → Content
taken false (united m v) = v
taken whole v = v

-- the part of a specification: its tag is bound to the value, or the value is let go
abbrev pub specified : (place : ℕ) (yields tagged : Bool) → List Environ → Content → Tree → Term
specified place yields true chain v t = part (specifying place yields v t) chain no_terms
specified place yields false chain v t = part (passing v t) chain no_terms

-- the part of the first specification that takes the value; the other one where there is none (own)
abbrev pub conforms : (place : ℕ) (yields : Bool) → List Environ → Specs → (out : Tree) → Content → Term
conforms place yields chain no_specs out v = chooses chain out
conforms place yields chain (spec takes tagged whole t behind) out v =
    if takes_value takes v then part chosen chain (only (specified place yields tagged chain (taken whole v) t)) else conforms place yields chain behind out v

-- ---- loops

-- TO is looked at alone: it is the operand of a monadic + (own)
abbrev pub limits : LoopTurns → List Environ → List Content → Then Term
limits l chain (from ∷ by ∷ to ∷ []) =
    goes_with l.place (λ t. part (counting l) chain (yielded from and_term (yielded by and_term only (yielded t)))) (applied operators.POSITIVE void to)
limits l chain _ = meets fault.Kind l.place

-- the counter of the values of FROM, BY and TO (Report, 3.5.2)
abbrev pub counted : List Content → Result Counter FaultKind
counted (from ∷ by ∷ to ∷ []) = counter_of from by to
counted _ = Err fault.Kind

-- a turn has been taken
abbrev pub turned : (place : ℕ) → List Environ → Term → Reply → Term
turned place chain t reply.Go = t
turned place chain t _ = misled place chain

-- a turn: WHILE, in a frame where it has slots, or at once the body
abbrev pub in_turn : Test → Counter → LoopTurns → List Environ → Term
in_turn no_test c l chain = part (running c l) chain (only (todo l.body chain))
in_turn (while_in at zero test) c l chain = part (testing c l) chain (only (todo test chain))
in_turn (while_in at (suc n) test) c l chain = part (ranging c l at (suc n) test) chain no_terms

-- the tag of a specification is bound to the value
abbrev pub binds_tag : (place : ℕ) (yields : Bool) → Content → Tree → List Environ → Then Term
binds_tag place yields v t [] = meets fault.Kind place
binds_tag place yields v t (e ∷ outer) =
    acts place (want.Bind e.frame 0 v) (turned place (e ∷ outer) (part (ranged place yields) (e ∷ outer) (only (todo t (e ∷ outer)))))

-- FOR's tag is the count
abbrev pub binds_count : Counter → LoopTurns → List Environ → Then Term
binds_count c l [] = meets fault.Kind l.place
binds_count c l (e ∷ outer) = acts l.place (want.Bind e.frame 0 (plain (value.Int c.at))) (turned l.place (e ∷ outer) (in_turn l.test c l (e ∷ outer)))

-- a frame is left that yields nothing
abbrev pub goes_out : (place : ℕ) → List Environ → (List Environ → Term) → Then Term
goes_out place (inner ∷ (e ∷ outer)) f = goes (f (e ∷ outer))
goes_out place _ f = meets fault.Kind place

-- ---- calls (Report, 5.4.3.2)

-- a routine is called: a turn, and then its frame
abbrev pub call_of : (place : ℕ) → List Environ → (parameters : List Content) → Result Routine FaultKind → Then Term
call_of place chain vs (Ok r) = acts place want.Turn (turned place chain (part (entering place r vs) chain no_terms))
call_of place chain vs (Err kind) = meets kind place

abbrev pub calls : List Body → (place : ℕ) (yields : Bool) → List Environ → List Content → Then Term
calls texts place yields chain [] = meets fault.Kind place
calls texts place yields chain (v ∷ vs) = call_of place chain vs (called (map (λ (b : Body). b.yields) texts) yields v)

-- within the routine's frame
abbrev pub within_body : (place : ℕ) → Routine → (parameters : List Content) → (from : List Environ) → Reply → Term
within_body place r vs from (reply.Frame inner) = part (binding place r from 0 vs) inner no_terms
within_body place r vs from _ = misled place from

-- the routine's frame stands within that in which its text was met, and is newer in scope by one than that of the caller
abbrev pub enters_body : (place : ℕ) → Routine → (parameters : List Content) → List Environ → Then Term
enters_body place r vs [] = meets fault.Kind place
enters_body place r vs (e ∷ outer) = acts place (want.Enter r.frame (suc e.scope) (length vs)) (within_body place r vs (e ∷ outer))

-- the body, where it is there
abbrev pub body_in : (place : ℕ) (from inner : List Environ) → Option Body → Then Term
body_in place from inner None = meets fault.Kind place
body_in place from inner (Some body) = goes (part (inside body.place body.yields from) inner (only (todo body.tree inner)))

-- the next parameter is bound in the routine's frame; behind the last one comes the body
abbrev pub binds_next : List Body → (place : ℕ) → Routine → (from : List Environ) → (slot : ℕ) → (left : List Content) → List Environ → Then Term
binds_next texts place r from slot [] chain = body_in place from chain (slice_get texts r.text)
binds_next texts place r from slot (v ∷ left) [] = meets fault.Kind place
binds_next texts place r from slot (v ∷ left) (e ∷ outer) =
    acts place (want.Bind e.frame slot v) (turned place (e ∷ outer) (part (binding place r from (suc slot) left) (e ∷ outer) no_terms))

-- the yield of a body goes to the caller's frame, and may not be newer in scope; the place is that of the routine text
abbrev pub returned : (place : ℕ) (yields : Bool) → List Environ → Content → Then Term
returned place false from v = goes (yielded v)
returned place true [] v = meets fault.Kind place
returned place true (e ∷ outer) v = if nat_lt e.scope (scope_of v) then meets fault.Scope place else goes (yielded v)

-- ---- parallel clauses (Report, 3.3.2)

-- the units, as the strands from the first new one on
abbrev pub joins : List ParallelUnit → (place : ℕ) → List Environ → (numbers : List ℕ) → Reply → Term
joins units place chain numbers (reply.Base first) = part joining chain (unit_terms units first numbers chain)
joins units place chain numbers _ = misled place chain

-- each unit has a strand of its own; where it begins in a code is no matter of the elaboration, which names its number
abbrev pub forks : List ParallelUnit → (place : ℕ) → List Environ → (numbers : List ℕ) → Then Term
forks units place chain numbers = acts place (want.Fork numbers) (joins units place chain numbers)

-- ---- the rules

-- what a construct does first that is to be elaborated; nothing where another one does it
abbrev pub begin : Tree → List Environ → Option (Then Term)
-- an operation: its parts (Report, 5.2.1.2 and 5.4.2.2)
begin (operation place op order parts) chain = Some (goes (part (operating place op order) chain (todos parts chain)))
-- parts at any time (Report, 3.3.2)
begin (together parts) chain = Some (goes (part gathering chain (todos parts chain)))
-- a serial clause: the phrases before the last one (Report, 3.2.2)
begin (phrases place before final) chain = Some (goes (part (preceding final) chain (todos before chain)))
-- a serial clause with labels: its first step; and a jump, which the clause does that has its label (Report, 3.2.2 and 5.4.4)
begin (labelled place steps) chain = Some (goes (stands_at steps steps chain))
begin (jump place label frames height yields) chain = None
-- a range: its frame, and within it its construct (Report, 3.2.2)
begin (range place out slots yields within) chain = Some (enters place slots chain (λ inner. part (ranged out yields) inner (only (todo within inner))))
-- a conditional clause: the enquiry (Report, 3.4.2)
begin (choice place enquiry if_true if_false) chain = Some (goes (part (choosing place if_true if_false) chain (only (todo enquiry chain))))
-- a case clause: the enquiry (Report, 3.4.2)
begin (cases place enquiry arms out) chain = Some (goes (part (casing place arms out) chain (only (todo enquiry chain))))
-- a conformity clause: the enquiry (Report, 3.4.2)
begin (conformity place union members yields enquiry specs out) chain = Some (goes (part (conforming place union yields specs out) chain (only (todo enquiry chain))))
-- a loop clause: FROM, BY and TO (Report, 3.5.2)
begin (loop place controls true counts test body) chain =
    Some (goes (part (limiting (record { place = place; counts = counts; test = test; body = body })) chain (todos controls chain)))
begin (loop place controls false counts test body) chain =
    Some (goes (part (counting (record { place = place; counts = counts; test = test; body = body })) chain (todos controls chain)))
-- a call: the routine and its parameters (Report, 5.4.3.2)
begin (call place yields parts) chain = Some (goes (part (calling place yields) chain (todos parts chain)))
-- a parallel clause: its strands (Report, 3.3.2)
begin (parallel place numbers) chain = Some (goes (part (forking place numbers) chain no_terms))
-- what stands for no construct has no rule; no program that fits comes here (own)
begin meaningless chain = Some (meets fault.Kind 0)

-- what a construct does whose parts at hand have yielded these values
abbrev pub finish : Program → Job → List Environ → List Content → Then Term
-- an operation begins with the values of its parts, and goes on
finish program (operating place op order) chain vs = operates program.modes place chain (start program.modes op chain vs)
finish program (resuming place d) chain vs = operates program.modes place chain d
-- nothing comes behind them
finish program gathering chain vs = goes (yielded void)
-- the last phrase comes, and its yield is that of the clause (Report, 3.2.2)
finish program (preceding final) chain vs = goes (part ending chain (only (todo final chain)))
finish program ending chain vs = goes (yielded (last_of vs))
-- behind a step comes the next one; the yield of the last one, and of one before EXIT, is that of the clause (Report, 3.2.2)
finish program (at_step all here) chain vs = goes_behind all here chain (last_of vs)
-- a range leaves its frame
finish program (ranged out yields) chain vs = leaves out yields chain (last_of vs)
-- the enquiry chooses a part, and its yield is that of the clause (Report, 3.4.2)
finish program (choosing place if_true if_false) chain vs =
    goes_with place (λ b. chooses chain (if b then if_true else if_false)) (tested (last_of vs))
finish program (casing place arms out) chain vs = goes_with place (λ k. chooses chain (arm arms k out)) (case_of (count arms) (last_of vs))
finish program (conforming place union yields specs out) chain vs =
    goes_with place (λ k. conforms place yields chain specs out (last_of vs)) (member_of (shape_at program.modes union) (last_of vs))
-- a specification with a tag makes a frame for it
finish program (specifying place yields v t) chain vs = enters place 1 chain (λ inner. part (tagging place yields v t) inner no_terms)
finish program (tagging place yields v t) chain vs = binds_tag place yields v t chain
finish program (passing v t) chain vs = goes (todo t chain)
finish program chosen chain vs = goes (yielded (last_of vs))
-- A loop counts; where TO is there, it is looked at before FROM and BY. While the loop has a turn it takes one: FOR makes
-- a frame in which its tag is the count, and WHILE makes one where it has slots. Where the test holds, or there is none,
-- the body is done. Behind it and behind a test that fails the frames are left. A loop yields nothing (Report, 3.5.2).
finish program (limiting l) chain vs = limits l chain vs
finish program (counting l) chain vs = goes_with l.place (λ c. part (stepping c l) chain no_terms) (counted vs)
finish program (stepping c l) chain vs = goes (if has_turn c then part (turning c l) chain no_terms else part (leaving c) chain no_terms)
finish program (turning c l) chain vs =
    acts l.place want.Turn (turned l.place chain (if l.counts then part (opening c l) chain no_terms else in_turn l.test c l chain))
finish program (opening c l) chain vs = enters l.place 1 chain (λ inner. part (naming c l) inner no_terms)
finish program (naming c l) chain vs = goes (part (indexing c l) chain no_terms)
finish program (indexing c l) chain vs = binds_count c l chain
finish program (ranging c l at slots test) chain vs = enters at slots chain (λ inner. part (testing c l) inner (only (todo test inner)))
finish program (testing c l) chain vs =
    goes_with l.place (λ b. if b then part (running c l) chain (only (todo l.body chain)) else part (quitting (depth l) l.place c) chain no_terms)
    (tested (last_of vs))
finish program (running c l) chain vs = goes (part (advancing (depth l) c l) chain no_terms)
finish program (advancing zero c l) chain vs =
    goes (option_map_or (λ next. part (stepping next l) chain no_terms) (advanced c) (part (leaving c) chain no_terms))
finish program (advancing (suc n) c l) chain vs = goes_out l.place chain (λ out. part (advancing n c l) out no_terms)
finish program (quitting zero place c) chain vs = goes (part (leaving c) chain no_terms)
finish program (quitting (suc n) place c) chain vs = goes_out place chain (λ out. part (quitting n place c) out no_terms)
finish program (leaving c) chain vs = goes (yielded void)
-- A call: a turn, the frame, the parameters in order, the body, and the check of its yield (Report, 5.4.3.2)
finish program (calling place yields) chain vs = calls (texts_of program) place yields chain vs
finish program (entering place r ps) chain vs = enters_body place r ps chain
finish program (binding place r from slot left) chain vs = binds_next (texts_of program) place r from slot left chain
finish program (inside place yields from) chain vs = returned place yields from (last_of vs)
-- A parallel clause: its strands, and nothing behind the end of its units. A unit ends by an act of its own (Report, 3.3.2).
finish program (forking place numbers) chain vs = forks (units_of program) place chain numbers
finish program joining chain vs = goes (yielded void)
finish program (closing place) chain vs = acts place want.Close (turned place chain (yielded void))

-- what comes next for a term itself; none while its parts have not yielded, for a yield, for a unit as a whole, and for a jump
abbrev pub row : Program → Term → Option (Then Term)
row program (todo tree chain) = begin tree chain
row program (part job chain parts) = option_map (finish program job chain) (values parts)
row program (yielded v) = None
row program (unit_of strand t) = None
