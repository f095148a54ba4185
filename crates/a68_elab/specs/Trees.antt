-- The tree of a program as elaboration and translation see it: one form for each way in which the rules let a construct
-- go on, and one for all constructs that do something with the values of their parts.
use Rattle.std.specs.Prelude.{ℕ, zero, suc, Bool, false, List, [], ◌∷◌, ◌++◌, ◌||◌, nat_eq, if◌then◌else◌}
use Rattle.a68_acts.specs.Operations.{Operation}
use Rattle.a68_modes.specs.declared.shape.Shape.{Shape}

-- how the parts of a construct are elaborated: each at any time, or one after another (Report, 2.1.4.2)
pub data Order : Type 0 where
  collateral : Order
  serial : Order

mutual
  -- `place` is the byte of the text at which the construct begins
  pub data Tree : Type 0 where
    -- an operation on the values of its parts: denotations, tags, coercions, formulas (Report, 5.4.2), assignations
    -- (5.2.1), what a declaration makes and binds (4.4.2), and prints
    operation : (place : ℕ) (op : Operation) (order : Order) (parts : Trees) → Tree
    -- parts at any time, and nothing behind them: a collateral clause of VOID (Report, 3.3), joined definitions (4.1), and
    -- without parts what is not elaborated
    together : (parts : Trees) → Tree
    -- a serial clause without labels: its phrases but the last, and the last (Report, 3.2)
    phrases : (place : ℕ) (before : Trees) (final : Tree) → Tree
    -- a serial clause with labels: its steps (Report, 3.2)
    labelled : (place : ℕ) (steps : Steps) → Tree
    -- a jump to the step behind a label, whose clause has its frame so many frames outwards and began over so many values of
    -- the activation; `yields` tells whether a value is asked of it (Report, 5.4.4). The elaboration does not look at the numbers.
    jump : (place label frames height : ℕ) (yields : Bool) → Tree
    -- a range that makes a frame of so many slots: it is entered at one place of the text and left at another, and
    -- `yields` tells whether it yields a value (Report, 3.2.2)
    range : (place out slots : ℕ) (yields : Bool) (within : Tree) → Tree
    -- a conditional clause: the enquiry, and the part for each answer (Report, 3.4)
    choice : (place : ℕ) (enquiry if_true if_false : Tree) → Tree
    -- a case clause: the enquiry, the part for each number from 1, and the part for no number (Report, 3.4)
    cases : (place : ℕ) (enquiry : Tree) (arms : Trees) (out : Tree) → Tree
    -- a choice by the mode of a united value: the mode of the union and its members, whether a value is yielded, the enquiry,
    -- the specifications with their parts, and the part for none of them (Report, 3.4)
    conformity : (place union : ℕ) (members : List ℕ) (yields : Bool) (enquiry : Tree) (specs : Specs) (out : Tree) → Tree
    -- a loop clause: FROM, BY and TO, whether TO is there, whether FOR is there, whose frame has one slot, WHILE, and DO
    -- (Report, 3.5)
    loop : (place : ℕ) (controls : Trees) (limited counts : Bool) (test : Test) (body : Tree) → Tree
    -- a call: the routine, and its parameters; `yields` tells whether a value comes back (Report, 5.4.3)
    call : (place : ℕ) (yields : Bool) (parts : Trees) → Tree
    -- a parallel clause: its units, by their numbers (Report, 3.3)
    parallel : (place : ℕ) (units : List ℕ) → Tree
    -- what stands for no construct: no program that fits has one, and no code is its translation (own)
    meaningless : Tree

  pub data Trees : Type 0 where
    no_trees : Trees
    ◌and_tree◌ : Tree → Trees → Trees

  -- specifications: the members of the union that the first one takes, whether it has a tag, whether it takes the united
  -- value, the part that it chooses, and those behind it
  pub data Specs : Type 0 where
    no_specs : Specs
    spec : (takes : List ℕ) (tagged united : Bool) (part : Tree) (behind : Specs) → Specs

  pub data Test : Type 0 where
    -- a loop without WHILE
    no_test : Test
    -- where the range of WHILE begins, the slots of its frame, which also spans DO and is made where there are some, and
    -- the enquiry
    while_in : (at slots : ℕ) (test : Tree) → Test

  -- The steps of a serial clause, each with the labels before it: the last one; one behind which the clause goes on; one
  -- before EXIT, with whose yield the clause ends.
  pub data Steps : Type 0 where
    last_step : (labels : List ℕ) (tree : Tree) → Steps
    step : (labels : List ℕ) (tree : Tree) (behind : Steps) → Steps
    exit : (labels : List ℕ) (tree : Tree) (behind : Steps) → Steps

infixr 50 ◌and_tree◌
-- the first step
abbrev pub first : Steps → Tree
first (last_step labels t) = t
first (step labels t more) = t
first (exit labels t more) = t

abbrev pub is_label_in : (label : ℕ) → List ℕ → Bool
is_label_in label [] = false
is_label_in label (l ∷ ls) = nat_eq label l || is_label_in label ls

-- all labels of a clause
abbrev pub labels_of : Steps → List ℕ
labels_of (last_step ls t) = ls
labels_of (step ls t more) = ls ++ labels_of more
labels_of (exit ls t more) = ls ++ labels_of more

-- whether a label stands before one of these steps
abbrev pub has_label : (label : ℕ) → Steps → Bool
has_label label (last_step ls t) = is_label_in label ls
has_label label (step ls t more) = is_label_in label ls || has_label label more
has_label label (exit ls t more) = is_label_in label ls || has_label label more

-- the steps from the one behind a label on; the last one where there is none
abbrev pub from_label : (label : ℕ) → Steps → Steps
from_label label (last_step ls t) = last_step ls t
from_label label (step ls t more) = if is_label_in label ls then step ls t more else from_label label more
from_label label (exit ls t more) = if is_label_in label ls then exit ls t more else from_label label more

abbrev pub count : Trees → ℕ
count no_trees = 0
count (tree and_tree trees) = suc (count trees)

-- the turns of a loop: where it begins, whether FOR is there, its test and its body
pub record LoopTurns : Type 0 where
  pub place : ℕ
  pub counts : Bool
  pub test : Test
  pub body : Tree

-- one frame more where there are slots
abbrev pub deeper : (slots n : ℕ) → ℕ
deeper zero n = n
deeper (suc s) n = suc n

abbrev pub deeper_in : Test → ℕ → ℕ
deeper_in no_test n = n
deeper_in (while_in at slots test) n = deeper slots n

-- how many frames a turn makes: that of FOR, and that of WHILE
abbrev pub depth_of : (counts : Bool) → Test → ℕ
depth_of counts test = deeper_in test (if counts then 1 else 0)

abbrev pub depth : LoopTurns → ℕ
depth l = depth_of l.counts l.test

-- a routine text: where it begins, whether its body leaves a value, and the body (Report, 5.4.1)
pub record Body : Type 0 where
  pub place : ℕ
  pub yields : Bool
  pub tree : Tree

-- a unit of a parallel clause: where the clause begins, and the unit (Report, 3.3)
pub record ParallelUnit : Type 0 where
  pub place : ℕ
  pub tree : Tree

-- what stands apart from the tree of a program
pub data Apart : Type 0 where
  routine_text : (body : Body) → Apart
  parallel_unit : (unit : ParallelUnit) → Apart

-- the routine texts and the units among these
abbrev pub bodies : List Apart → List Body
bodies [] = []
bodies (routine_text body ∷ more) = body ∷ bodies more
bodies (parallel_unit unit ∷ more) = bodies more

abbrev pub units : List Apart → List ParallelUnit
units [] = []
units (routine_text body ∷ more) = units more
units (parallel_unit unit ∷ more) = unit ∷ units more

-- a program: where it begins, its tree, its routine texts and the units of its parallel clauses in order of text, and the
-- modes that its operations name
pub record Program : Type 0 where
  pub place : ℕ
  pub tree : Tree
  pub apart : List Apart
  pub modes : List Shape

-- a routine text and a unit are each known by their number among their like
abbrev pub texts_of : Program → List Body
texts_of program = bodies program.apart

abbrev pub units_of : Program → List ParallelUnit
units_of program = units program.apart
