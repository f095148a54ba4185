-- Inner: the headline does not rest on this file.
-- Trees whose operations have operands that the instructions may have.
use Rattle.std.specs.Prelude.{⊤, ℕ, IsTrue, List, [], ◌∷◌, length, nat_lt}
use Rattle.a68_code.specs.Operands.{is_well_made}
use Rattle.a68_elab.specs.Trees.{Tree, Trees, operation, together, phrases, labelled, jump, range, choice, cases, conformity, loop, call, parallel, meaningless, Steps, last_step, step, exit, Specs, no_specs, spec, Test, no_test, while_in, no_trees, ◌and_tree◌, count, Apart, routine_text, parallel_unit}
use Rattle.a68_emit.specs.Stretches.{does_of}
use Rattle.a68_modes.specs.declared.shape.Shape.{Shape}

-- The instruction of each operation in the tree is well made. No such instruction names a place, so it does not matter how
-- many instructions there are.
abbrev mutual
  pub FitsModes : List Shape → (texts : ℕ) → Tree → Type 0
  FitsModes modes texts (operation place op order parts) = IsTrue (is_well_made modes texts 0 (does_of op (count parts))) × FitAll modes texts parts
  FitsModes modes texts (together parts) = FitAll modes texts parts
  FitsModes modes texts (phrases place before final) = FitAll modes texts before × FitsModes modes texts final
  FitsModes modes texts (labelled place steps) = StepsFitModes modes texts steps
  FitsModes modes texts (jump place label frames height yields) = ⊤
  FitsModes modes texts (range place out slots yields within) = FitsModes modes texts within
  FitsModes modes texts (choice place enquiry if_true if_false) = FitsModes modes texts enquiry × FitsModes modes texts if_true × FitsModes modes texts if_false
  FitsModes modes texts (cases place enquiry arms out) = FitsModes modes texts enquiry × FitAll modes texts arms × FitsModes modes texts out
  FitsModes modes texts (conformity place union members yields enquiry specs out) =
      IsTrue (nat_lt union (length modes)) × FitsModes modes texts enquiry × SpecsFitModes modes texts specs × FitsModes modes texts out
  FitsModes modes texts (loop place controls limited counts test body) = FitAll modes texts controls × TestFitsModes modes texts test × FitsModes modes texts body
  FitsModes modes texts (call place yields parts) = FitAll modes texts parts
  FitsModes modes texts (parallel place numbers) = ⊤
  FitsModes modes texts meaningless = ⊥

  pub FitAll : List Shape → (texts : ℕ) → Trees → Type 0
  FitAll modes texts no_trees = ⊤
  FitAll modes texts (tree and_tree trees) = FitsModes modes texts tree × FitAll modes texts trees

  pub SpecsFitModes : List Shape → (texts : ℕ) → Specs → Type 0
  SpecsFitModes modes texts no_specs = ⊤
  SpecsFitModes modes texts (spec takes tagged united part behind) = FitsModes modes texts part × SpecsFitModes modes texts behind

  pub TestFitsModes : List Shape → (texts : ℕ) → Test → Type 0
  TestFitsModes modes texts no_test = ⊤
  TestFitsModes modes texts (while_in at slots test) = FitsModes modes texts test

  pub StepsFitModes : List Shape → (texts : ℕ) → Steps → Type 0
  StepsFitModes modes texts (last_step labels tree) = FitsModes modes texts tree
  StepsFitModes modes texts (step labels tree more) = FitsModes modes texts tree × StepsFitModes modes texts more
  StepsFitModes modes texts (exit labels tree more) = FitsModes modes texts tree × StepsFitModes modes texts more

-- and so have those in the bodies of routine texts, and in units
abbrev pub ApartFitsModes : List Shape → (texts : ℕ) → List Apart → Type 0
ApartFitsModes modes texts [] = ⊤
ApartFitsModes modes texts (routine_text body ∷ more) = FitsModes modes texts body.tree × ApartFitsModes modes texts more
ApartFitsModes modes texts (parallel_unit unit ∷ more) = FitsModes modes texts unit.tree × ApartFitsModes modes texts more
