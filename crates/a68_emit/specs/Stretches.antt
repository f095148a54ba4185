-- Translation: which instructions a construct becomes, and where they stand.
use Rattle.std.specs.Prelude.{◌≡◌, ◌≤◌, ℕ, zero, suc, ◌+◌, Bool, true, false, List, [], ◌∷◌, length, map, None, Some, slice_get, if◌then◌else◌}
use Rattle.a68_signs.specs.declared.operators.TheConstants as operators
use Rattle.a68_acts.specs.Operations.{Operation, constant, skip, nil, routine, tag, make, heap, bind, deref, store, apply, same, slice, display, vacuum, compose, select, unite, row_up, row_up_name, widen, drop, print, whole, leaves}
use Rattle.std.specs.declared.option.Option.{Option}
use Rattle.a68_acts.specs.Members.{members_of}
use Rattle.a68_base.specs.declared.limits.TheConstants.{MOST_INSTRUCTIONS}
use Rattle.a68_code.specs.Flow.{takes, one_if}
use Rattle.a68_code.specs.declared.code.Code.{Code}
use Rattle.a68_code.specs.declared.code.RoutineEntrance.{RoutineEntrance}
use Rattle.a68_code.specs.declared.does.Does.{Does}
use Rattle.a68_code.specs.declared.does.Does.TheVariants as does
use Rattle.a68_elab.specs.Rows.{is_among}
use Rattle.a68_modes.specs.Nodes.{shape_at}
use Rattle.a68_elab.specs.Trees.{Tree, Trees, operation, together, phrases, labelled, jump, range, choice, cases, conformity, loop, call, parallel, meaningless, no_trees, ◌and_tree◌, count, Steps, last_step, step, exit, has_label, is_label_in, Specs, no_specs, spec, Test, no_test, while_in, deeper, depth_of, Apart, routine_text, parallel_unit, Program}

-- the instruction of an operation on so many values
abbrev pub does_of : Operation → ℕ → Does
does_of (constant v) n = does.Push v
does_of (skip mode) n = does.Skip mode
does_of nil n = does.Nil
does_of (routine text distance) n = does.Routine text distance
does_of (tag hops slot) n = does.Tag hops slot
does_of (make mode bounds) n = does.Make mode bounds
does_of (heap mode bounds) n = does.Heap mode bounds
does_of (bind slot) n = does.Bind slot
does_of (deref mode) n = does.Deref mode
does_of (store mode) n = does.Store mode
does_of (apply row) n = does.Apply row
does_of (same negated) n = does.Same negated
does_of (slice forms) n = does.Slice forms
does_of (display count mode) n = does.Display count mode
does_of (vacuum mode) n = does.Vacuum mode
does_of (compose count) n = does.Compose count
does_of (select mode field) n = does.Select mode field
does_of (unite mode) n = does.Unite mode
does_of (row_up mode) n = does.RowUp mode
does_of (row_up_name mode) n = does.RowUpName mode
does_of widen n = does.Widen
does_of drop n = does.Drop
does_of print n = does.Print n
does_of whole n = does.Whole

-- one instruction, which stands at a, where b is the next place
abbrev pub Has : Code → (place : ℕ) → Does → (a b : ℕ) → Type 0
Has code place d a b = (slice_get code.list a ≡ Some (record { place = place; does = d })) × (a + 1 ≡ b)

-- a Leave checks the value that is yielded, where there is one
abbrev pub leave : Bool → Does
leave gives = does.Leave (if gives then 1 else 0)

-- where TO is there: Apply 26
abbrev pub Limits : Code → (limited : Bool) → (place a b : ℕ) → Type 0
Limits code false place a b = a ≡ b
Limits code true place a b = Has code place (does.Apply operators.POSITIVE) a b

-- with FOR: Enter 1, Index, Bind 0
abbrev pub Indexes : Code → (counts : Bool) → (place a b : ℕ) → Type 0
Indexes code false place a b = a ≡ b
Indexes code true place a b = (m n : ℕ) × Has code place (does.Enter 1) a m × Has code place does.Index m n × Has code place (does.Bind 0) n b

-- with slots: Enter
abbrev pub EntersSlots : Code → (slots place a b : ℕ) → Type 0
EntersSlots code zero place a b = a ≡ b
EntersSlots code (suc n) place a b = Has code place (does.Enter (suc n)) a b

-- so many Leave 0
abbrev pub Leaves : Code → (place count a b : ℕ) → Type 0
Leaves code place zero a b = a ≡ b
Leaves code place (suc n) a b = (m : ℕ) × Has code place (does.Leave 0) a m × Leaves code place n m b

-- places, and one more behind them
abbrev pub with_last : List ℕ → ℕ → List ℕ
with_last [] e = e ∷ []
with_last (p ∷ ps) e = p ∷ with_last ps e

-- where a member of a union is taken: the place of the first specification that takes it; that for none where there is none
abbrev pub place_for : (m : ℕ) → Specs → (places : List ℕ) → (none : ℕ) → ℕ
place_for m (spec takes tagged united t behind) (p ∷ ps) none = if is_among m takes then p else place_for m behind ps none
place_for m _ ps none = none

-- 1 where the united value is left there
abbrev pub whole_for : (m : ℕ) → Specs → ℕ
whole_for m no_specs = 0
whole_for m (spec takes tagged united t behind) = if is_among m takes then one_if united else whole_for m behind

-- that of each member, and that for none
abbrev pub member_places : List ℕ → Specs → (places : List ℕ) → (none : ℕ) → List ℕ
member_places [] specs ps none = none ∷ []
member_places (m ∷ ms) specs ps none = place_for m specs ps none ∷ member_places ms specs ps none

abbrev pub wholes_of : List ℕ → Specs → List ℕ
wholes_of [] specs = []
wholes_of (m ∷ ms) specs = whole_for m specs ∷ wholes_of ms specs

-- these are the entrances of the units of these numbers
abbrev pub AreEntrances : (units numbers entrances : List ℕ) → Type 0
AreEntrances units numbers entrances = map (λ n. slice_get units n) numbers ≡ map (λ e. Some e) entrances

-- ---- how a stretch lies

-- A serial clause with labels about a place: how many frames outwards its own stands, how many values of the activation lay on the
-- stack where it began, its steps, and where they stand.
pub record Around : Type 0 where
  pub frames : ℕ
  pub height : ℕ
  pub steps : Steps
  pub places : List ℕ

-- how many values of the activation lie on the stack where a stretch begins, and the clauses with labels about it, the innermost
-- first
pub record Lie : Type 0 where
  pub height : ℕ
  pub around : List Around

-- one value more, where there is one
abbrev pub above : Bool → Lie → Lie
above true lie = record { height = suc lie.height; around = lie.around }
above false lie = lie

-- so many frames further in
abbrev pub further_in : ℕ → Around → Around
further_in n c = record { frames = n + c.frames; height = c.height; steps = c.steps; places = c.places }

abbrev pub deeper_by : ℕ → Lie → Lie
deeper_by n lie = record { height = lie.height; around = map (further_in n) lie.around }

-- within a clause whose steps stand at these places
abbrev pub in_clause : Steps → (places : List ℕ) → Lie → Lie
in_clause steps places lie = record { height = lie.height; around = record { frames = 0; height = lie.height; steps = steps; places = places } ∷ lie.around }

-- at the beginning of an activation
abbrev pub outermost : Lie
outermost = record { height = 0; around = [] }

-- the innermost clause that has a label
abbrev pub about : (label : ℕ) → List Around → Option Around
about label [] = None
about label (c ∷ cs) = if has_label label c.steps then Some c else about label cs

-- where the step behind a label stands
abbrev pub place_of : (label : ℕ) → Steps → (places : List ℕ) → Option ℕ
place_of label (last_step ls t) (p ∷ ps) = if is_label_in label ls then Some p else None
place_of label (step ls t more) (p ∷ ps) = if is_label_in label ls then Some p else place_of label more ps
place_of label (exit ls t more) (p ∷ ps) = if is_label_in label ls then Some p else place_of label more ps
place_of label _ _ = None

-- The stretch of a tree stands from a up to b. It leaves a value or none, as `gives` says.
abbrev mutual
  pub Stands : Code → Lie → (gives : Bool) → Tree → (a b : ℕ) → Type 0
  -- the parts, and the instruction of the operation, which takes their values
  Stands code lie gives (operation place op order parts) a b =
      (m : ℕ) × (gives ≡ leaves code.modes op) × (takes (does_of op (count parts)) ≡ count parts)
      × StandAll code lie true parts a m × Has code place (does_of op (count parts)) m b
  -- the parts
  Stands code lie gives (together parts) a b = (gives ≡ false) × StandAll code lie false parts a b
  -- the phrases
  Stands code lie gives (phrases place before final) a b = (m : ℕ) × StandAll code lie false before a m × Stands code lie gives final m b
  -- the steps, with Jump b behind each step before EXIT
  Stands code lie gives (labelled place steps) a b = (places : List ℕ) × StandSteps code (in_clause steps places lie) gives place b steps places a b
  -- Goto, to the first instruction of the step behind the label
  Stands code lie gives (jump place label frames height yields) a b =
      (c : Around) × (to : ℕ) × (about label lie.around ≡ Some c) × (place_of label c.steps c.places ≡ Some to) × (frames ≡ c.frames)
      × (height ≡ c.height) × (gives ≡ yields) × Has code place (does.Goto to frames height yields) a b
  -- Enter, the construct, Leave
  Stands code lie gives (range place out slots yields within) a b =
      (a' b' : ℕ) × (gives ≡ yields) × Has code place (does.Enter slots) a a' × Stands code (deeper_by 1 lie) gives within a' b' × Has code out (leave gives) b' b
  -- the enquiry, Unless x, one part, Jump b, x: the other part, b:
  Stands code lie gives (choice place enquiry if_true if_false) a b =
      (m m' n x : ℕ) × Stands code lie true enquiry a m × Has code place (does.Unless x) m m' × Stands code lie gives if_true m' n
      × Has code place (does.Jump b) n x × Stands code lie gives if_false x b
  -- the enquiry, Case, each part and Jump b, x: the part for no number, b:
  Stands code lie gives (cases place enquiry arms out) a b =
      (m m' x : ℕ) × (places : List ℕ) × Stands code lie true enquiry a m × Has code place (does.Case (with_last places x)) m m'
      × StandArms code lie gives place b arms places m' x × Stands code lie gives out x b
  -- the enquiry, Member, each part with its frame and Jump b, x: the part for none, b:
  Stands code lie gives (conformity place union members yields enquiry specs out) a b =
      (m m' x : ℕ) × (places : List ℕ) × (gives ≡ yields) × (members ≡ members_of (shape_at code.modes union)) × Stands code lie true enquiry a m
      × Has code place (does.Member union (member_places members specs places x) (wholes_of members specs)) m m'
      × StandSpecs code lie gives place b specs places m' x × Stands code lie gives out x b
  -- FROM, BY and TO, TO's own step, Counter, t: Step e, Turn, the frame of FOR, WHILE, the body, a Leave for each
  -- frame, Advance t, Jump e, f: a Leave for each frame, e: Forget
  Stands code lie gives (loop place controls limited counts test body) a b =
      (c c' t t' u w x n n' v f e : ℕ) × (gives ≡ false) × (count controls ≡ 3) × StandAll code lie true controls a c × Limits code limited place c c'
      × Has code place does.Counter c' t × Has code place (does.Step e) t t' × Has code place does.Turn t' u
      × Indexes code counts place u w × Tests code (deeper_by (if counts then 1 else 0) (above true lie)) test place f w x
      × Stands code (deeper_by (depth_of counts test) (above true lie)) false body x n
      × Leaves code place (depth_of counts test) n n' × Has code place (does.Advance t) n' v × Has code place (does.Jump e) v f
      × Leaves code place (depth_of counts test) f e × Has code place does.Forget e b
  -- the routine, its parameters, and Call
  Stands code lie gives (call place yields no_trees) a b = ⊥
  Stands code lie gives (call place yields (primary and_tree parts)) a b =
      (m : ℕ) × (gives ≡ yields) × StandAll code lie true (primary and_tree parts) a m × Has code place (does.Call (count parts) yields) m b
  -- Fork, which names the entrances of the units; these stand apart
  Stands code lie gives (parallel place numbers) a b =
      (entrances : List ℕ) × (gives ≡ false) × (2 ≤ length numbers) × AreEntrances code.units numbers entrances × Has code place (does.Fork entrances) a b
  -- what stands for no construct stands nowhere
  Stands code lie gives meaningless a b = ⊥

  -- the stretches of trees, one behind the other
  pub StandAll : Code → Lie → (gives : Bool) → Trees → (a b : ℕ) → Type 0
  StandAll code lie gives no_trees a b = a ≡ b
  StandAll code lie gives (tree and_tree trees) a b = (m : ℕ) × Stands code lie gives tree a m × StandAll code (above gives lie) gives trees m b

  -- parts that are chosen among, each at its place, with Jump e behind it
  pub StandArms : Code → Lie → (gives : Bool) → (place e : ℕ) → Trees → (places : List ℕ) → (a b : ℕ) → Type 0
  StandArms code lie gives place e no_trees [] a b = a ≡ b
  StandArms code lie gives place e (tree and_tree trees) (p ∷ ps) a b =
      (m n : ℕ) × (p ≡ a) × Stands code lie gives tree a m × Has code place (does.Jump e) m n × StandArms code lie gives place e trees ps n b
  StandArms code lie gives place e _ _ a b = ⊥

  -- specifications, each at its place: with a tag Enter 1, Bind 0, the part, Leave, without one Drop and the part; and Jump e
  pub StandSpecs : Code → Lie → (gives : Bool) → (place e : ℕ) → Specs → (places : List ℕ) → (a b : ℕ) → Type 0
  StandSpecs code lie gives place e no_specs [] a b = a ≡ b
  StandSpecs code lie gives place e (spec takes true united tree behind) (p ∷ ps) a b =
      (m n q r s : ℕ) × (p ≡ a) × Has code place (does.Enter 1) a m × Has code place (does.Bind 0) m n × Stands code (deeper_by 1 lie) gives tree n q
      × Has code place (leave gives) q r × Has code place (does.Jump e) r s × StandSpecs code lie gives place e behind ps s b
  StandSpecs code lie gives place e (spec takes false united tree behind) (p ∷ ps) a b =
      (m n q : ℕ) × (p ≡ a) × Has code place does.Drop a m × Stands code lie gives tree m n × Has code place (does.Jump e) n q
      × StandSpecs code lie gives place e behind ps q b
  StandSpecs code lie gives place e _ _ a b = ⊥

  -- steps, each at its place
  pub StandSteps : Code → Lie → (gives : Bool) → (place e : ℕ) → Steps → (places : List ℕ) → (a b : ℕ) → Type 0
  StandSteps code lie gives place e (last_step labels tree) (p ∷ []) a b = (p ≡ a) × Stands code lie gives tree a b
  StandSteps code lie gives place e (step labels tree more) (p ∷ ps) a b =
      (m : ℕ) × (p ≡ a) × Stands code lie false tree a m × StandSteps code lie gives place e more ps m b
  StandSteps code lie gives place e (exit labels tree more) (p ∷ ps) a b =
      (m n : ℕ) × (p ≡ a) × Stands code lie gives tree a m × Has code place (does.Jump e) m n × StandSteps code lie gives place e more ps n b
  StandSteps code lie gives place e _ _ a b = ⊥

  -- the frame of WHILE, the enquiry, and Unless f
  pub Tests : Code → Lie → Test → (place f a b : ℕ) → Type 0
  Tests code lie no_test place f a b = a ≡ b
  Tests code lie (while_in at slots test) place f a b = (m n : ℕ) × EntersSlots code slots at a m × Stands code (deeper_by (deeper slots 0) lie) true test m n × Has code place (does.Unless f) n b

-- What stands apart, one stretch behind the other: a routine text at its entrance, with Return behind its body, and a unit
-- of a parallel clause, which yields nothing, at its entrance, with Close behind it.
abbrev pub StandApart : Code → List Apart → (texts : List RoutineEntrance) → (units : List ℕ) → (a b : ℕ) → Type 0
StandApart code [] [] [] a b = a ≡ b
StandApart code (routine_text body ∷ more) (e ∷ es) us a b =
    (m n : ℕ) × (e ≡ record { at = a; yields = body.yields }) × Stands code outermost body.yields body.tree a m × Has code body.place does.Return m n
    × StandApart code more es us n b
StandApart code (parallel_unit unit ∷ more) es (u ∷ us) a b =
    (m n : ℕ) × (u ≡ a) × Stands code outermost false unit.tree a m × Has code unit.place does.Close m n × StandApart code more es us n b
StandApart code _ _ _ a b = ⊥

-- The code is the stretch of the program, which yields nothing, End behind it, what stands apart behind that, and no more; it
-- has at most 1,048,576 instructions, and its modes are those of the program.
pub record Translates (program : Program) (code : Code) : Type 0 where
  pub end : ℕ
  pub last : ℕ
  pub stands : Stands code outermost false program.tree 0 end
  pub ends : Has code program.place does.End end (end + 1)
  pub apart : StandApart code program.apart code.texts code.units (end + 1) last
  pub no_more : length code.list ≡ last
  pub short : length code.list ≤ MOST_INSTRUCTIONS
  pub modes : code.modes ≡ program.modes
