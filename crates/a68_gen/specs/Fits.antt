-- Inner: the headline does not rest on this file.
-- Trees whose parts leave what is taken of them.
use Rattle.std.specs.Prelude.{◌≡◌, ◌≤◌, ℕ, Bool, IsTrue, true, false, List, [], ◌∷◌, length, nat_lt}
use Rattle.std.specs.List.{list_all}
use Rattle.a68_acts.specs.Operations.{leaves}
use Rattle.a68_code.specs.Flow.{takes}
use Rattle.a68_elab.specs.Trees.{Tree, Trees, operation, together, phrases, labelled, jump, range, choice, cases, conformity, loop, call, parallel, meaningless, Steps, last_step, step, exit, Specs, no_specs, spec, Test, no_test, while_in, no_trees, ◌and_tree◌, count, Apart, routine_text, parallel_unit}
use Rattle.a68_emit.specs.Stretches.{does_of}
use Rattle.a68_acts.specs.Members.{members_of}
use Rattle.a68_modes.specs.Nodes.{shape_at}
use Rattle.a68_modes.specs.declared.shape.Shape.{Shape}

-- The tree yields a value or none, as `gives` says, each operation in it has as many parts as it takes values, each parallel
-- clause two units at least, of those that there are, and all of it is built.
abbrev mutual
  pub Fits : List Shape → (units : ℕ) → (gives : Bool) → Tree → Type 0
  Fits modes units gives (operation place op order parts) =
      (gives ≡ leaves modes op) × (takes (does_of op (count parts)) ≡ count parts) × AllFit modes units true parts
  Fits modes units gives (together parts) = (gives ≡ false) × AllFit modes units false parts
  Fits modes units gives (phrases place before final) = AllFit modes units false before × Fits modes units gives final
  Fits modes units gives (labelled place steps) = StepsFit modes units gives steps
  Fits modes units gives (jump place label frames height yields) = gives ≡ yields
  Fits modes units gives (range place out slots yields within) = (gives ≡ yields) × Fits modes units gives within
  Fits modes units gives (choice place enquiry if_true if_false) =
      Fits modes units true enquiry × Fits modes units gives if_true × Fits modes units gives if_false
  Fits modes units gives (cases place enquiry arms out) = Fits modes units true enquiry × AllFit modes units gives arms × Fits modes units gives out
  Fits modes units gives (conformity place union members yields enquiry specs out) =
      (gives ≡ yields) × (members ≡ members_of (shape_at modes union)) × Fits modes units true enquiry × SpecsFit modes units gives specs × Fits modes units gives out
  Fits modes units gives (loop place controls limited counts test body) =
      (gives ≡ false) × (count controls ≡ 3) × AllFit modes units true controls × TestFits modes units test × Fits modes units false body
  Fits modes units gives (call place yields no_trees) = ⊥
  Fits modes units gives (call place yields (primary and_tree parts)) = (gives ≡ yields) × AllFit modes units true (primary and_tree parts)
  Fits modes units gives (parallel place numbers) = (gives ≡ false) × (2 ≤ length numbers) × IsTrue (list_all (λ n. nat_lt n units) numbers)
  Fits modes units gives meaningless = ⊥

  pub AllFit : List Shape → (units : ℕ) → (gives : Bool) → Trees → Type 0
  AllFit modes units gives no_trees = Unit {0}
  AllFit modes units gives (tree and_tree trees) = Fits modes units gives tree × AllFit modes units gives trees

  pub SpecsFit : List Shape → (units : ℕ) → (gives : Bool) → Specs → Type 0
  SpecsFit modes units gives no_specs = Unit {0}
  SpecsFit modes units gives (spec takes tagged united part behind) = Fits modes units gives part × SpecsFit modes units gives behind

  pub TestFits : List Shape → (units : ℕ) → Test → Type 0
  TestFits modes units no_test = Unit {0}
  TestFits modes units (while_in at slots test) = Fits modes units true test

  -- the last step and each before EXIT yield what the clause does, and the others nothing
  pub StepsFit : List Shape → (units : ℕ) → (gives : Bool) → Steps → Type 0
  StepsFit modes units gives (last_step labels tree) = Fits modes units gives tree
  StepsFit modes units gives (step labels tree more) = Fits modes units false tree × StepsFit modes units gives more
  StepsFit modes units gives (exit labels tree more) = Fits modes units gives tree × StepsFit modes units gives more

-- and so do the bodies of routine texts, and the units of parallel clauses
abbrev pub ApartFits : List Shape → (units : ℕ) → List Apart → Type 0
ApartFits modes units [] = Unit {0}
ApartFits modes units (routine_text body ∷ more) = Fits modes units body.yields body.tree × ApartFits modes units more
ApartFits modes units (parallel_unit unit ∷ more) = Fits modes units false unit.tree × ApartFits modes units more
