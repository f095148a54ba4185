-- Inner: the headline does not rest on this file.
-- New names with what is assigned to them.
use Rattle.std.specs.Prelude.{ℕ, Bool, List}
use Rattle.a68_acts.specs.Operations.{bind, store}
use Rattle.a68_annot.specs.declared.annotated.Annotated.{Annotated}
use Rattle.a68_elab.specs.Made.{bound_trees, first_bounds, new_name, only}
use Rattle.a68_elab.specs.Trees.{Tree, operation, serial, ◌and_tree◌}

-- a new name, with the bounds of the first of these nodes, where it is a declarer
abbrev pub named : Annotated → (g : (frames id : ℕ) → Tree) (f : ℕ → Tree) → (in_heap : Bool) (place mode : ℕ) → List ℕ → Tree
named a g f in_heap place mode ids = new_name in_heap place mode (bound_trees g f place (first_bounds a ids))

-- a new name, to which the source is assigned, and to which the slot is bound
abbrev pub assigned_tree : (new : Tree) (place mode slot : ℕ) (source : Tree) → Tree
assigned_tree new place mode slot source = operation place (bind slot) serial (only (operation place (store mode) serial (new and_tree only source)))
