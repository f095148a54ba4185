-- Declarations of several forms, a name in the heap and items of two modes: the program of an annotated text, and its
-- listing, by hand.
use Rattle.std.proofs.Common.{◌≡◌, ℕ, false, [], ◌∷◌, Some, refl}
use Rattle.std.specs.Prelude.{codes}
use Rattle.a68_acts.specs.Operations.{constant, tag, heap, bind, deref, store, unite, print}
use Rattle.a68_annot.specs.declared.annotated.Annotated.{Annotated}
use Rattle.a68_annot.specs.declared.note.Note.{Note}
use Rattle.a68_code.specs.declared.does.Does.TheVariants as does
use Rattle.a68_layout.specs.Rooms.{bounds_needed}
use Rattle.a68_elab.specs.Made.{most_bounds}
use Rattle.a68_elab.specs.Programs.{program_of, tree_in}
use Rattle.a68_elab.specs.Runs.{outcome}
use Rattle.a68_elab.specs.Trees.{Tree, operation, together, phrases, range, no_trees, ◌and_tree◌, collateral, serial, Program}
use Rattle.a68_emit.specs.Listing.{listing}
use Rattle.a68_modes.specs.Nodes.{standard_shapes}
use Rattle.a68_modes.specs.declared.coercion.Coercion.TheVariants.{Deref, Unite}
use Rattle.a68_sim.proofs.Examples.{instr, whole}
use Rattle.a68_sim.proofs.Texts.{node, has_mode}
use Rattle.a68_tree.specs.declared.kind.NodeKind.TheVariants as kind
use Rattle.a68_values.specs.Content.{layout}
use Rattle.a68_values.specs.declared.plain.Layout.TheVariants.{Newline}

-- a tag or a definition with this slot
abbrev in_slot : ℕ → Note → Note
in_slot slot note = record note { step = record { hops = 0; slot = slot } }

-- BEGIN HEAP INT x := 5; INT y = x, z = 2; print((y, newline)) END
abbrev declared : Annotated
declared = record {
  tree = record {
    nodes =
        node kind.Closed 0 64 0 (1 ∷ []) ∷ node kind.Serial 6 60 0 (13 ∷ 7 ∷ 2 ∷ []) ∷ node kind.Call 41 60 1 (6 ∷ 3 ∷ []) ∷ node kind.Collateral 47 59 0 (5 ∷ 4 ∷ [])
        ∷ node kind.Tag 51 58 2 [] ∷ node kind.Tag 48 49 3 [] ∷ node kind.Tag 41 46 1 [] ∷ node kind.Joined 23 39 0 (10 ∷ 8 ∷ []) ∷ node kind.IdentityDefinition 34 39 4 (12 ∷ 9 ∷ [])
        ∷ node kind.Denotation 38 39 5 [] ∷ node kind.IdentityDefinition 27 32 3 (12 ∷ 11 ∷ []) ∷ node kind.Tag 31 32 6 [] ∷ node kind.Declarer 23 26 7 []
        ∷ node kind.Variable 6 21 6 (16 ∷ 15 ∷ 14 ∷ []) ∷ node kind.Denotation 20 21 8 [] ∷ node kind.Declarer 11 14 7 [] ∷ node kind.Heap 6 10 9 [] ∷ [];
    spellings = codes "BEGIN" ∷ codes "print" ∷ codes "newline" ∷ codes "y" ∷ codes "z" ∷ codes "2" ∷ codes "x" ∷ codes "INT" ∷ codes "5" ∷ codes "HEAP" ∷ [];
    starts = [];
  };
  modes = standard_shapes;
  notes =
      has_mode 0 [] 0 ∷ record (has_mode 0 [] 0) { slots = 3 } ∷ has_mode 0 [] 0 ∷ has_mode 0 [] 0 ∷ has_mode 6 (Unite 6 ∷ []) 8
      ∷ record (in_slot 1 (has_mode 1 (Unite 1 ∷ []) 8)) { definition = Some 10 } ∷ has_mode 0 [] 0 ∷ has_mode 0 [] 0 ∷ in_slot 2 (has_mode 1 [] 0) ∷ has_mode 1 [] 1
      ∷ in_slot 1 (has_mode 1 [] 0) ∷ record (in_slot 0 (has_mode 9 (Deref ∷ []) 1)) { definition = Some 13 } ∷ has_mode 1 [] 0 ∷ in_slot 0 (has_mode 9 [] 0) ∷ has_mode 1 [] 1
      ∷ has_mode 1 [] 0 ∷ has_mode 0 [] 0 ∷ [];
  noted = refl;
}

abbrev number : (place n : ℕ) → Tree
number place n = operation place (constant (whole n)) serial no_trees

abbrev by_hand : Program
by_hand = record {
  place = 0;
  tree =
      let variable = operation 6 (bind 0) serial (operation 6 (store 1) serial (operation 6 (heap 1 0) collateral no_trees and_tree (number 20 5 and_tree no_trees)) and_tree no_trees) in
      let y = operation 27 (bind 1) serial (operation 31 (deref 1) serial (operation 31 (tag 0 0) serial no_trees and_tree no_trees) and_tree no_trees) in
      let z = operation 34 (bind 2) serial (number 38 2 and_tree no_trees) in
      let item_y = operation 48 (unite 1) serial (operation 48 (tag 0 1) serial no_trees and_tree no_trees) in
      let item_newline = operation 51 (unite 6) serial (operation 51 (constant (layout Newline)) serial no_trees and_tree no_trees) in
      range 6 6 3 false (phrases 6 (variable and_tree (together (y and_tree (z and_tree no_trees)) and_tree no_trees)) (operation 41 print collateral (item_y and_tree (item_newline and_tree no_trees))));
  apart = [];
  modes = standard_shapes;
}

pub made_by_hand : program_of declared ≡ by_hand
unfolding tree_in outcome bounds_needed most_bounds
made_by_hand = refl

pub listed_by_hand : listing by_hand
    ≡ instr 6 (does.Enter 3) ∷ instr 6 (does.Heap 1 0) ∷ instr 20 (does.Push (whole 5)) ∷ instr 6 (does.Store 1) ∷ instr 6 (does.Bind 0)
    ∷ instr 31 (does.Tag 0 0) ∷ instr 31 (does.Deref 1) ∷ instr 27 (does.Bind 1) ∷ instr 38 (does.Push (whole 2)) ∷ instr 34 (does.Bind 2)
    ∷ instr 48 (does.Tag 0 1) ∷ instr 48 (does.Unite 1) ∷ instr 51 (does.Push (layout Newline)) ∷ instr 51 (does.Unite 6) ∷ instr 41 (does.Print 2)
    ∷ instr 6 (does.Leave 0) ∷ instr 0 does.End ∷ []
listed_by_hand = refl
