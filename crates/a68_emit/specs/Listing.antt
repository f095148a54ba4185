-- The code of a program: the instructions of each construct, in order.
use Rattle.std.specs.Prelude.{ℕ, zero, suc, Bool, true, false, ◌+◌, List, [], ◌∷◌, ◌++◌, length, map, if◌then◌else◌}
use Rattle.a68_signs.specs.declared.operators.TheConstants as operators
use Rattle.a68_builder.specs.Labels.{far, settled}
use Rattle.a68_builder.specs.Linking.{linked}
use Rattle.a68_code.specs.declared.code.Instr.{Instr}
use Rattle.a68_code.specs.declared.code.RoutineEntrance.{RoutineEntrance}
use Rattle.a68_code.specs.declared.does.Does.{Does}
use Rattle.a68_code.specs.declared.does.Does.TheVariants as does
use Rattle.a68_elab.specs.Trees.{Tree, Trees, operation, together, phrases, labelled, jump, range, choice, cases, conformity, loop, call, parallel, meaningless, no_trees, ◌and_tree◌, count, Steps, last_step, step, exit, Specs, no_specs, spec, Test, no_test, while_in, depth_of, Apart, routine_text, parallel_unit, Program}
use Rattle.a68_emit.specs.Stretches.{does_of, leave, member_places, wholes_of, with_last}

-- an instruction keeps the place of its construct
abbrev pub instr : (place : ℕ) → Does → Instr
instr place d = record { place = place; does = d }

-- where TO is there: Apply 26
abbrev pub limits : (limited : Bool) (place : ℕ) → List Instr
limits false place = []
limits true place = instr place (does.Apply operators.POSITIVE) ∷ []

-- with FOR: Enter 1, Index, Bind 0
abbrev pub indexes : (counts : Bool) (place : ℕ) → List Instr
indexes false place = []
indexes true place = instr place (does.Enter 1) ∷ instr place does.Index ∷ instr place (does.Bind 0) ∷ []

-- with slots: Enter
abbrev pub opens : (slots place : ℕ) → List Instr
opens zero place = []
opens (suc n) place = instr place (does.Enter (suc n)) ∷ []

-- so many Leave 0
abbrev pub leaves : (place count : ℕ) → List Instr
leaves place zero = []
leaves place (suc n) = instr place (does.Leave 0) ∷ leaves place n

-- ---- trees

-- how many instructions a tree becomes: the same wherever it stands
abbrev mutual
  pub size : Tree → ℕ
  size (operation place op order parts) = sizes parts + 1
  size (together parts) = sizes parts
  size (phrases place before final) = sizes before + size final
  size (labelled place steps) = step_sizes steps
  size (jump place label frames height yields) = 1
  size (range place out slots yields within) = size within + 2
  size (choice place enquiry if_true if_false) = size enquiry + 1 + size if_true + 1 + size if_false
  size (cases place enquiry arms out) = size enquiry + 1 + sizes arms + count arms + size out
  size (conformity place union members yields enquiry specs out) = size enquiry + 1 + spec_sizes specs + size out
  size (loop place controls limited counts test body) =
      sizes controls + length (limits limited place) + 3 + length (indexes counts place) + test_size test + size body + depth_of counts test + 2 + depth_of counts test + 1
  size (call place yields no_trees) = 0
  size (call place yields (primary and_tree parts)) = sizes (primary and_tree parts) + 1
  size (parallel place numbers) = 1
  size meaningless = 0

  pub sizes : Trees → ℕ
  sizes no_trees = 0
  sizes (tree and_tree trees) = size tree + sizes trees

  -- with a tag Enter, Bind and Leave, without one Drop; and a Jump
  pub spec_sizes : Specs → ℕ
  spec_sizes no_specs = 0
  spec_sizes (spec takes tagged united part behind) = (if tagged then 3 else 1) + size part + 1 + spec_sizes behind

  pub test_size : Test → ℕ
  test_size no_test = 0
  test_size (while_in at slots test) = length (opens slots at) + size test + 1

  -- with a Jump behind each step before EXIT
  pub step_sizes : Steps → ℕ
  step_sizes (last_step labels tree) = size tree
  step_sizes (step labels tree more) = size tree + step_sizes more
  step_sizes (exit labels tree more) = size tree + 1 + step_sizes more

-- the places of parts that are chosen among, from this one on, each with a Jump behind it
abbrev pub arm_places : Trees → (at : ℕ) → List ℕ
arm_places no_trees at = []
arm_places (tree and_tree trees) at = at ∷ arm_places trees (at + size tree + 1)

-- those of specifications
abbrev pub spec_places : Specs → (at : ℕ) → List ℕ
spec_places no_specs at = []
spec_places (spec takes tagged united part behind) at = at ∷ spec_places behind (at + ((if tagged then 3 else 1) + size part + 1))

-- the labels before steps, with the places of the steps from this one on
abbrev pub label_places : Steps → (at : ℕ) → List (ℕ × ℕ)
label_places (last_step labels tree) at = map (λ label. (label, at)) labels
label_places (step labels tree more) at = map (λ label. (label, at)) labels ++ label_places more (at + size tree)
label_places (exit labels tree more) at = map (λ label. (label, at)) labels ++ label_places more (at + size tree + 1)

-- The instructions of a tree, where the first of them is number `at`. Units of parallel clauses are named by their numbers,
-- since it is not known yet where they begin; so are labels of clauses about the tree.
abbrev mutual
  pub stretch : Tree → (at : ℕ) → List Instr
  -- the parts, and then the instruction of the operation, which takes their values
  stretch (operation place op order parts) at = stretches parts at ++ instr place (does_of op (count parts)) ∷ []
  -- the parts
  stretch (together parts) at = stretches parts at
  -- the phrases
  stretch (phrases place before final) at = stretches before at ++ stretch final (at + sizes before)
  -- the steps, whose labels have their places
  stretch (labelled place steps) at = map (settled (label_places steps at)) (step_stretches place (at + step_sizes steps) steps at)
  -- Goto, which names the label
  stretch (jump place label frames height yields) at = instr place (does.Goto (far + label) frames height yields) ∷ []
  -- Enter, the construct, Leave
  stretch (range place out slots yields within) at = instr place (does.Enter slots) ∷ (stretch within (at + 1) ++ instr out (leave yields) ∷ [])
  -- the enquiry, Unless x, the one part, Jump e, x: the other part, e:
  stretch (choice place enquiry if_true if_false) at =
      let m = at + size enquiry + 1 in
      let x = m + size if_true + 1 in
      stretch enquiry at ++ (instr place (does.Unless x) ∷ (stretch if_true m ++ (instr place (does.Jump (x + size if_false)) ∷ stretch if_false x)))
  -- the enquiry, Case, each part and Jump e, x: the part for no number, e:
  stretch (cases place enquiry arms out) at =
      let m = at + size enquiry + 1 in
      let x = m + sizes arms + count arms in
      stretch enquiry at ++ (instr place (does.Case (with_last (arm_places arms m) x)) ∷ (arm_stretches place (x + size out) arms m ++ stretch out x))
  -- the enquiry, Member, each part with its frame and Jump e, x: the part for none, e:
  stretch (conformity place union members yields enquiry specs out) at =
      let m = at + size enquiry + 1 in
      let x = m + spec_sizes specs in
      stretch enquiry at ++ (instr place (does.Member union (member_places members specs (spec_places specs m) x) (wholes_of members specs))
      ∷ (spec_stretches place (x + size out) yields specs m ++ stretch out x))
  -- FROM, BY and TO, TO's own step, Counter, t: Step e, Turn, the frame of FOR, WHILE, the body, a Leave for each
  -- frame, Advance t, Jump e, f: a Leave for each frame, e: Forget
  stretch (loop place controls limited counts test body) at =
      let out = leaves place (depth_of counts test) in
      let t = at + sizes controls + length (limits limited place) + 1 in
      let w = t + 2 + length (indexes counts place) in
      let x = w + test_size test in
      let f = x + size body + depth_of counts test + 2 in
      let e = f + depth_of counts test in
      stretches controls at ++ (limits limited place ++ (instr place does.Counter ∷ instr place (does.Step e) ∷ instr place does.Turn ∷ (indexes counts place
      ++ (test_stretch place f test w ++ (stretch body x ++ (out ++ instr place (does.Advance t) ∷ instr place (does.Jump e) ∷ (out ++ instr place does.Forget ∷ [])))))))
  -- the routine, its parameters, and Call
  stretch (call place yields no_trees) at = []
  stretch (call place yields (primary and_tree parts)) at = stretches (primary and_tree parts) at ++ instr place (does.Call (count parts) yields) ∷ []
  -- Fork, which names the units by their numbers
  stretch (parallel place numbers) at = instr place (does.Fork numbers) ∷ []
  -- what stands for no construct has none
  stretch meaningless at = []

  -- those of trees, one behind the other
  pub stretches : Trees → (at : ℕ) → List Instr
  stretches no_trees at = []
  stretches (tree and_tree trees) at = stretch tree at ++ stretches trees (at + size tree)

  -- parts that are chosen among, each with Jump e behind it
  pub arm_stretches : (place e : ℕ) → Trees → (at : ℕ) → List Instr
  arm_stretches place e no_trees at = []
  arm_stretches place e (tree and_tree trees) at = stretch tree at ++ (instr place (does.Jump e) ∷ arm_stretches place e trees (at + size tree + 1))

  -- specifications, each with Jump e behind it
  pub spec_stretches : (place e : ℕ) (yields : Bool) → Specs → (at : ℕ) → List Instr
  spec_stretches place e yields no_specs at = []
  spec_stretches place e yields (spec takes true united part behind) at =
      instr place (does.Enter 1) ∷ instr place (does.Bind 0) ∷ (stretch part (at + 2) ++ (instr place (leave yields) ∷ instr place (does.Jump e)
      ∷ spec_stretches place e yields behind (at + (3 + size part + 1))))
  spec_stretches place e yields (spec takes false united part behind) at =
      instr place does.Drop ∷ (stretch part (at + 1) ++ (instr place (does.Jump e) ∷ spec_stretches place e yields behind (at + (1 + size part + 1))))

  -- the frame of WHILE, the enquiry, and Unless f
  pub test_stretch : (place f : ℕ) → Test → (at : ℕ) → List Instr
  test_stretch place f no_test at = []
  test_stretch place f (while_in begin slots test) at = opens slots begin ++ (stretch test (at + length (opens slots begin)) ++ instr place (does.Unless f) ∷ [])

  -- steps, with Jump e behind each before EXIT
  pub step_stretches : (place e : ℕ) → Steps → (at : ℕ) → List Instr
  step_stretches place e (last_step labels tree) at = stretch tree at
  step_stretches place e (step labels tree more) at = stretch tree at ++ step_stretches place e more (at + size tree)
  step_stretches place e (exit labels tree more) at = stretch tree at ++ (instr place (does.Jump e) ∷ step_stretches place e more (at + size tree + 1))

-- ---- what stands apart

-- how many instructions it becomes: a routine text its body and Return, a unit itself and Close
abbrev pub apart_size : Apart → ℕ
apart_size (routine_text body) = size body.tree + 1
apart_size (parallel_unit unit) = size unit.tree + 1

-- the instructions of one
abbrev pub apart_stretch : Apart → (at : ℕ) → List Instr
apart_stretch (routine_text body) at = stretch body.tree at ++ instr body.place does.Return ∷ []
apart_stretch (parallel_unit unit) at = stretch unit.tree at ++ instr unit.place does.Close ∷ []

-- those of all, one behind the other
abbrev pub apart_stretches : List Apart → (at : ℕ) → List Instr
apart_stretches [] at = []
apart_stretches (x ∷ xs) at = apart_stretch x at ++ apart_stretches xs (at + apart_size x)

-- and where each routine text and each unit begins
abbrev pub text_entrances : List Apart → (at : ℕ) → List RoutineEntrance
text_entrances [] at = []
text_entrances (routine_text body ∷ more) at = record { at = at; yields = body.yields } ∷ text_entrances more (at + (size body.tree + 1))
text_entrances (parallel_unit unit ∷ more) at = text_entrances more (at + (size unit.tree + 1))

abbrev pub unit_entrances : List Apart → (at : ℕ) → List ℕ
unit_entrances [] at = []
unit_entrances (routine_text body ∷ more) at = unit_entrances more (at + (size body.tree + 1))
unit_entrances (parallel_unit unit ∷ more) at = at ∷ unit_entrances more (at + (size unit.tree + 1))

-- ---- programs

-- the instructions of a program, which yields nothing, End behind them, and those of what stands apart
abbrev pub written : Program → List Instr
written program = stretch program.tree 0 ++ (instr program.place does.End ∷ apart_stretches program.apart (size program.tree + 1))

-- the entrances of its routine texts, and of its units
abbrev pub texts_entered : Program → List RoutineEntrance
texts_entered program = text_entrances program.apart (size program.tree + 1)

abbrev pub units_entered : Program → List ℕ
units_entered program = unit_entrances program.apart (size program.tree + 1)

-- the instructions with the entrances of units in the place of their numbers
abbrev pub listing : Program → List Instr
listing program = map (linked (units_entered program)) (written program)
