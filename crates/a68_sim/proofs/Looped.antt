-- A loop with all its parts: the program of an annotated text, and its listing, by hand.
use Rattle.std.proofs.Common.{◌≡◌, ℕ, true, [], ◌∷◌, Some, refl}
use Rattle.std.specs.Prelude.{codes}
use Rattle.a68_acts.specs.Operations.{constant, tag, bind, apply, unite, print}
use Rattle.a68_annot.specs.declared.annotated.Annotated.{Annotated}
use Rattle.a68_code.specs.declared.does.Does.TheVariants as does
use Rattle.a68_layout.specs.Rooms.{bounds_needed}
use Rattle.a68_elab.specs.Made.{most_bounds}
use Rattle.a68_elab.specs.Programs.{program_of, tree_in}
use Rattle.a68_elab.specs.Runs.{outcome}
use Rattle.a68_elab.specs.Trees.{Tree, operation, phrases, loop, while_in, no_trees, ◌and_tree◌, collateral, serial, Program}
use Rattle.a68_emit.specs.Listing.{listing}
use Rattle.a68_modes.specs.Nodes.{standard_shapes}
use Rattle.a68_modes.specs.declared.coercion.Coercion.TheVariants.{Unite}
use Rattle.a68_sim.proofs.Examples.{instr, whole}
use Rattle.a68_sim.proofs.Texts.{node, has_mode}
use Rattle.a68_tree.specs.declared.kind.NodeKind.TheVariants as kind

-- FOR i FROM 3 BY 2 TO 9 WHILE INT k = i; k < 8 DO print(k) OD
abbrev looped : Annotated
looped = record {
  tree = record {
    nodes =
        node kind.Loop 0 60 0 (19 ∷ 17 ∷ 15 ∷ 13 ∷ 5 ∷ 1 ∷ []) ∷ node kind.Serial 49 57 0 (2 ∷ []) ∷ node kind.Call 49 57 1 (4 ∷ 3 ∷ []) ∷ node kind.Tag 55 56 2 []
        ∷ node kind.Tag 49 54 1 [] ∷ node kind.While 24 45 0 (6 ∷ []) ∷ node kind.Serial 30 45 0 (10 ∷ 7 ∷ []) ∷ node kind.Dyadic 41 46 3 (9 ∷ 8 ∷ [])
        ∷ node kind.Denotation 45 46 4 [] ∷ node kind.Tag 41 42 2 [] ∷ node kind.IdentityDefinition 34 39 2 (12 ∷ 11 ∷ []) ∷ node kind.Tag 38 39 5 [] ∷ node kind.Declarer 30 33 6 []
        ∷ node kind.To 19 23 0 (14 ∷ []) ∷ node kind.Denotation 22 23 7 [] ∷ node kind.By 14 18 0 (16 ∷ []) ∷ node kind.Denotation 17 18 8 []
        ∷ node kind.From 6 12 0 (18 ∷ []) ∷ node kind.Denotation 11 12 9 [] ∷ node kind.For 0 5 5 [] ∷ [];
    spellings =
        codes "FOR" ∷ codes "print" ∷ codes "k" ∷ codes "<" ∷ codes "8" ∷ codes "i" ∷ codes "INT" ∷ codes "9" ∷ codes "2" ∷ codes "3" ∷ [];
    starts = [];
  };
  modes = standard_shapes;
  notes =
      has_mode 0 [] 0 ∷ has_mode 0 [] 0 ∷ has_mode 0 [] 0 ∷ record (has_mode 1 (Unite 1 ∷ []) 8) { definition = Some 10 } ∷ has_mode 0 [] 0
      ∷ has_mode 0 [] 0 ∷ record (has_mode 2 [] 2) { slots = 1 } ∷ record (has_mode 2 [] 2) { op = Some 11 } ∷ has_mode 1 [] 1 ∷ record (has_mode 1 [] 1) { definition = Some 10 }
      ∷ has_mode 1 [] 0 ∷ record (has_mode 1 [] 1) { definition = Some 19; step = record { hops = 1; slot = 0 } } ∷ has_mode 1 [] 0
      ∷ has_mode 1 [] 1 ∷ has_mode 1 [] 1 ∷ has_mode 1 [] 1 ∷ has_mode 1 [] 1 ∷ has_mode 1 [] 1 ∷ has_mode 1 [] 1 ∷ has_mode 1 [] 0 ∷ [];
  noted = refl;
}

abbrev number : (place n : ℕ) → Tree
number place n = operation place (constant (whole n)) serial no_trees

abbrev by_hand : Program
by_hand = record {
  place = 0;
  tree =
      let k = operation 34 (bind 0) serial (operation 38 (tag 1 0) serial no_trees and_tree no_trees) in
      let less = operation 41 (apply 11) collateral (operation 41 (tag 0 0) serial no_trees and_tree (number 45 8 and_tree no_trees)) in
      let item = operation 55 (unite 1) serial (operation 55 (tag 0 0) serial no_trees and_tree no_trees) in
      loop 0 (number 11 3 and_tree (number 17 2 and_tree (number 22 9 and_tree no_trees))) true true (while_in 30 1 (phrases 30 (k and_tree no_trees) less))
      (phrases 49 no_trees (operation 49 print collateral (item and_tree no_trees)));
  apart = [];
  modes = standard_shapes;
}

pub made_by_hand : program_of looped ≡ by_hand
unfolding tree_in outcome bounds_needed most_bounds
made_by_hand = refl

-- the loop's Step is instruction 5; a test that fails goes to 24, and a loop that has no more turns to 26
pub listed_by_hand : listing by_hand
    ≡ instr 11 (does.Push (whole 3)) ∷ instr 17 (does.Push (whole 2)) ∷ instr 22 (does.Push (whole 9)) ∷ instr 0 (does.Apply 26) ∷ instr 0 does.Counter
    ∷ instr 0 (does.Step 26) ∷ instr 0 does.Turn ∷ instr 0 (does.Enter 1) ∷ instr 0 does.Index ∷ instr 0 (does.Bind 0)
    ∷ instr 30 (does.Enter 1) ∷ instr 38 (does.Tag 1 0) ∷ instr 34 (does.Bind 0) ∷ instr 41 (does.Tag 0 0) ∷ instr 45 (does.Push (whole 8)) ∷ instr 41 (does.Apply 11)
    ∷ instr 0 (does.Unless 24) ∷ instr 55 (does.Tag 0 0) ∷ instr 55 (does.Unite 1) ∷ instr 49 (does.Print 1)
    ∷ instr 0 (does.Leave 0) ∷ instr 0 (does.Leave 0) ∷ instr 0 (does.Advance 5) ∷ instr 0 (does.Jump 26)
    ∷ instr 0 (does.Leave 0) ∷ instr 0 (does.Leave 0) ∷ instr 0 does.Forget ∷ instr 0 does.End ∷ []
listed_by_hand = refl
