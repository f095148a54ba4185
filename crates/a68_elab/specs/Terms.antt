-- Terms: how far the elaboration of a program has come.
use Rattle.std.specs.Prelude.{ℕ, suc, Bool, false, List, [], ◌∷◌, None, Some, slice_get}
use Rattle.std.specs.Option.{option_map}
use Rattle.std.specs.declared.option.Option.{Option}
use Rattle.a68_acts.specs.Operations.{Operation}
use Rattle.a68_acts.specs.declared.operation.Counter.{Counter}
use Rattle.a68_acts.specs.declared.operation.Doing.{Doing}
use Rattle.a68_elab.specs.Trees.{Order, collateral, serial, Tree, Trees, Specs, Steps, LoopTurns, meaningless, no_trees, ◌and_tree◌, has_label, ParallelUnit}
use Rattle.a68_values.specs.Content.{Content, void}
use Rattle.a68_values.specs.declared.chain.Environ.{Environ}
use Rattle.a68_values.specs.declared.plain.Routine.{Routine}

-- what is done once the parts at hand have yielded
pub data Job : Type 0 where
  -- an operation on their values
  operating : (place : ℕ) (op : Operation) (order : Order) → Job
  -- an operation that has begun, and has no parts left, goes on like this
  resuming : (place : ℕ) (doing : Doing) → Job
  -- nothing behind the parts
  gathering : Job
  -- the last phrase, behind those before it
  preceding : (final : Tree) → Job
  -- the yield of the last phrase
  ending : Job
  -- a step of a serial clause with labels, which are all these steps: the step at hand and those behind it
  at_step : (all here : Steps) → Job
  -- the frame of a range is left
  ranged : (out : ℕ) (yields : Bool) → Job
  -- one of two parts, by the value of an enquiry
  choosing : (place : ℕ) (if_true if_false : Tree) → Job
  -- one of several parts, by a number
  casing : (place : ℕ) (arms : Trees) (out : Tree) → Job
  -- one of several parts, by the member that the value of an enquiry has
  conforming : (place union : ℕ) (yields : Bool) (specs : Specs) (out : Tree) → Job
  -- the frame of a specification, and its tag, which is bound to the value
  specifying : (place : ℕ) (yields : Bool) (v : Content) (part : Tree) → Job
  tagging : (place : ℕ) (yields : Bool) (v : Content) (part : Tree) → Job
  -- the part of a specification without a tag: the value is let go
  passing : (v : Content) (part : Tree) → Job
  -- the yield of the chosen part
  chosen : Job
  -- FROM, BY and TO are there, and TO alone is looked at
  limiting : (l : LoopTurns) → Job
  -- the counter of a loop, of the values of FROM, BY and TO
  counting : (l : LoopTurns) → Job
  -- the question whether the counter has one more turn
  stepping : (counter : Counter) (l : LoopTurns) → Job
  -- a turn
  turning : (counter : Counter) (l : LoopTurns) → Job
  -- the frame of FOR
  opening : (counter : Counter) (l : LoopTurns) → Job
  -- the count, which is the value of FOR's tag
  naming : (counter : Counter) (l : LoopTurns) → Job
  indexing : (counter : Counter) (l : LoopTurns) → Job
  -- the frame of WHILE
  ranging : (counter : Counter) (l : LoopTurns) (at slots : ℕ) (test : Tree) → Job
  -- the body, by the value of WHILE
  testing : (counter : Counter) (l : LoopTurns) → Job
  -- the end of a turn
  running : (counter : Counter) (l : LoopTurns) → Job
  -- so many frames are left, and the counter of the next turn comes
  advancing : (frames : ℕ) (counter : Counter) (l : LoopTurns) → Job
  -- so many frames are left, and the loop ends
  quitting : (frames place : ℕ) (counter : Counter) → Job
  -- the end of the loop, with the counter that it had
  leaving : (counter : Counter) → Job
  -- the call of a routine, which is there with its parameters
  calling : (place : ℕ) (yields : Bool) → Job
  -- its frame
  entering : (place : ℕ) (r : Routine) (parameters : List Content) → Job
  -- its parameters that are left, from this slot on; it is called from this chain
  binding : (place : ℕ) (r : Routine) (from : List Environ) (slot : ℕ) (left : List Content) → Job
  -- the yield of its body
  inside : (place : ℕ) (yields : Bool) (from : List Environ) → Job
  -- the strands of a parallel clause, for its units by their numbers
  forking : (place : ℕ) (numbers : List ℕ) → Job
  -- the end of all units
  joining : Job
  -- the end of a unit
  closing : (place : ℕ) → Job

-- A construct that is to be elaborated, one that is being elaborated, with its parts at hand, the yield of one, or a unit of
-- a parallel clause, which has a strand of its own. A construct stands in a chain of frames, the innermost first: an environ
-- of the Report (2.1.1.1.c).
mutual
  pub data Term : Type 0 where
    todo : (tree : Tree) (chain : List Environ) → Term
    part : (job : Job) (chain : List Environ) (parts : Terms) → Term
    yielded : (v : Content) → Term
    unit_of : (strand : ℕ) (inner : Term) → Term

  pub data Terms : Type 0 where
    no_terms : Terms
    ◌and_term◌ : Term → Terms → Terms

infixr 50 ◌and_term◌
abbrev pub only : Term → Terms
only t = t and_term no_terms

abbrev pub todos : Trees → List Environ → Terms
todos no_trees chain = no_terms
todos (tree and_tree trees) chain = todo tree chain and_term todos trees chain

-- a unit, with its end behind it; what stands for no construct where there is none (own)
abbrev pub unit_term : List Environ → Option ParallelUnit → Term
unit_term chain None = todo meaningless chain
unit_term chain (Some unit) = part (closing unit.place) chain (only (todo unit.tree chain))

-- the units of these numbers, as the strands from one on
abbrev pub unit_terms : List ParallelUnit → (strand : ℕ) → (numbers : List ℕ) → List Environ → Terms
unit_terms units n [] chain = no_terms
unit_terms units n (k ∷ ks) chain = unit_of n (unit_term chain (slice_get units k)) and_term unit_terms units (suc n) ks chain

-- how the parts at hand are elaborated: those of an operation as the tree says, those of a collateral and of a parallel
-- clause, of a call and FROM, BY and TO at any time, and all others one after another (Report, 2.1.4.2, 3.3.2, 3.5.2 and
-- 5.4.3.2)
abbrev pub order_of : Job → Order
order_of (operating place op order) = order
order_of gathering = collateral
order_of (limiting l) = collateral
order_of (counting l) = collateral
order_of (calling place yields) = collateral
order_of joining = collateral
order_of _ = serial

-- whether this is a serial clause that has a label
abbrev pub has : (label : ℕ) → Job → Bool
has label (at_step all here) = has_label label all
has label _ = false

-- the values of parts that have all yielded; a unit has once it has ended
abbrev pub values : Terms → Option (List Content)
values no_terms = Some []
values (yielded v and_term ts) = option_map (λ vs. v ∷ vs) (values ts)
values (unit_of strand (yielded v) and_term ts) = option_map (λ vs. v ∷ vs) (values ts)
values (_ and_term ts) = None

-- the last one; nothing where there is none
abbrev pub last_of : List Content → Content
last_of [] = void
last_of (v ∷ []) = v
last_of (v ∷ (w ∷ vs)) = last_of (w ∷ vs)
