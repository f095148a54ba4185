-- Inner: the headline does not rest on this file.
-- Where the constructs of a program begin.
use Rattle.std.specs.Prelude.{ℕ, ◌≤◌, List, [], ◌∷◌}
use Rattle.a68_elab.specs.Trees.{Tree, Trees, operation, together, phrases, labelled, jump, range, choice, cases, conformity, loop, call, parallel, meaningless, Specs, no_specs, spec, Test, no_test, while_in, no_trees, ◌and_tree◌, Steps, last_step, step, exit, Apart, routine_text, parallel_unit, Program}

-- each construct of the tree begins at this byte or before it
abbrev mutual
  pub BeginsBy : (end : ℕ) → Tree → Type 0
  BeginsBy end (operation place op order parts) = (place ≤ end) × AllBeginBy end parts
  BeginsBy end (together parts) = AllBeginBy end parts
  BeginsBy end (phrases place before final) = (place ≤ end) × AllBeginBy end before × BeginsBy end final
  BeginsBy end (labelled place steps) = (place ≤ end) × StepsBeginBy end steps
  BeginsBy end (jump place label frames height yields) = place ≤ end
  BeginsBy end (range place out slots yields within) = (place ≤ end) × (out ≤ end) × BeginsBy end within
  BeginsBy end (choice place enquiry if_true if_false) = (place ≤ end) × BeginsBy end enquiry × BeginsBy end if_true × BeginsBy end if_false
  BeginsBy end (cases place enquiry arms out) = (place ≤ end) × BeginsBy end enquiry × AllBeginBy end arms × BeginsBy end out
  BeginsBy end (conformity place union members yields enquiry specs out) = (place ≤ end) × BeginsBy end enquiry × SpecsBeginBy end specs × BeginsBy end out
  BeginsBy end (loop place controls limited counts test body) = (place ≤ end) × AllBeginBy end controls × TestBeginsBy end test × BeginsBy end body
  BeginsBy end (call place yields parts) = (place ≤ end) × AllBeginBy end parts
  BeginsBy end (parallel place numbers) = place ≤ end
  BeginsBy end meaningless = Unit {0}

  pub AllBeginBy : (end : ℕ) → Trees → Type 0
  AllBeginBy end no_trees = Unit {0}
  AllBeginBy end (tree and_tree trees) = BeginsBy end tree × AllBeginBy end trees

  pub StepsBeginBy : (end : ℕ) → Steps → Type 0
  StepsBeginBy end (last_step labels t) = BeginsBy end t
  StepsBeginBy end (step labels t more) = BeginsBy end t × StepsBeginBy end more
  StepsBeginBy end (exit labels t more) = BeginsBy end t × StepsBeginBy end more

  pub SpecsBeginBy : (end : ℕ) → Specs → Type 0
  SpecsBeginBy end no_specs = Unit {0}
  SpecsBeginBy end (spec takes tagged united part behind) = BeginsBy end part × SpecsBeginBy end behind

  pub TestBeginsBy : (end : ℕ) → Test → Type 0
  TestBeginsBy end no_test = Unit {0}
  TestBeginsBy end (while_in at slots test) = (at ≤ end) × BeginsBy end test

-- so do routine texts, units of parallel clauses, and the constructs in them
abbrev pub ApartBeginBy : (end : ℕ) → List Apart → Type 0
ApartBeginBy end [] = Unit {0}
ApartBeginBy end (routine_text body ∷ more) = ((body.place ≤ end) × BeginsBy end body.tree) × ApartBeginBy end more
ApartBeginBy end (parallel_unit unit ∷ more) = ((unit.place ≤ end) × BeginsBy end unit.tree) × ApartBeginBy end more

-- the program and each construct in it begin there or before
pub record ProgramBeginsBy (end : ℕ) (program : Program) : Type 0 where
  pub place : program.place ≤ end
  pub tree : BeginsBy end program.tree
  pub apart : ApartBeginBy end program.apart
