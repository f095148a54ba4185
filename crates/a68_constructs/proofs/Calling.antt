-- Calls with the numbers of the jumps in them.
use Rattle.std.proofs.Common.{◌≡◌, ◌<◌, ℕ, Bool, true, false, List, ◌∷◌, length, get_or, drop, refl, sym, ◌∙◌, ap}
use Rattle.std.specs.Prelude.{if◌then◌else◌}
use Rattle.a68_acts.specs.Operations.{print, whole}
use Rattle.a68_annot.specs.declared.annotated.Annotated.{Annotated}
use Rattle.a68_constructs.proofs.Constructs.{some_parts}
use Rattle.a68_constructs.proofs.Lying.{rises}
use Rattle.a68_elab.specs.Made.{call_of, called, is_one_of, items_at, printers, trees_at, wholes}
use Rattle.a68_elab.specs.Programs.{behind}
use Rattle.a68_elab.specs.Trees.{Tree, Trees, call, collateral, operation}
use Rattle.a68_emit.specs.Views.{lying, rising, tree_of}
use Rattle.a68_emit.specs.declared.view.View.{View}

module _ (v : View) (a : Annotated) (id place : ℕ) (yields : Bool) where
  abbrev called_so : List ℕ → Tree
  called_so ids = lying v (call_of a (behind id (tree_of v)) place yields ids)

  -- a call, by what is called
  by_name : (i : ℕ) (ids : List ℕ) (prints words : Bool) → is_one_of printers (called a i) ≡ prints → is_one_of wholes (called a i) ≡ words
      → called_so (i ∷ ids)
      ≡ lying v (if prints then operation place print collateral (trees_at (behind id (tree_of v)) (items_at a ids))
      else (if words then operation place whole collateral (trees_at (behind id (tree_of v)) ids) else call place yields (trees_at (behind id (tree_of v)) (i ∷ ids))))
  by_name i ids prints words p w =
      let f = behind id (tree_of v) in
      let items = operation place print collateral (trees_at f (items_at a ids)) in
      let other : Bool → Tree = λ b. if b then operation place whole collateral (trees_at f ids) else call place yields (trees_at f (i ∷ ids)) in
      ap (λ (b : Bool). lying v (if b then items else other (is_one_of wholes (called a i)))) p ∙ ap (λ (b : Bool). lying v (if prints then items else other b)) w

  pub prints_lie : (ids : List ℕ) → 0 < length ids → is_one_of printers (called a (get_or ids 0 0)) ≡ true → called_so ids ≡ operation place print collateral (rising v id (items_at a (drop 1 ids)))
  prints_lie ids some p =
      let i = get_or ids 0 0 in
      let rest = drop 1 ids in
      ap (λ (l : List ℕ). called_so l) (some_parts ids some) ∙ by_name i rest true (is_one_of wholes (called a i)) p refl ∙ ap (λ (ts : Trees). operation place print collateral ts) (rises v id (items_at a rest))

  pub wholes_lie : (ids : List ℕ) → 0 < length ids → is_one_of printers (called a (get_or ids 0 0)) ≡ false → is_one_of wholes (called a (get_or ids 0 0)) ≡ true
      → called_so ids ≡ operation place whole collateral (rising v id (drop 1 ids))
  wholes_lie ids some p w =
      ap (λ (l : List ℕ). called_so l) (some_parts ids some) ∙ by_name (get_or ids 0 0) (drop 1 ids) false true p w ∙ ap (λ (ts : Trees). operation place whole collateral ts) (rises v id (drop 1 ids))

  pub routines_lie : (ids : List ℕ) → 0 < length ids → is_one_of printers (called a (get_or ids 0 0)) ≡ false → is_one_of wholes (called a (get_or ids 0 0)) ≡ false → called_so ids ≡ call place yields (rising v id ids)
  routines_lie ids some p w =
      ap (λ (l : List ℕ). called_so l) (some_parts ids some) ∙ by_name (get_or ids 0 0) (drop 1 ids) false false p w
      ∙ ap (λ (l : List ℕ). lying v (call place yields (trees_at (behind id (tree_of v)) l))) (sym (some_parts ids some)) ∙ ap (λ (ts : Trees). call place yields ts) (rises v id ids)
