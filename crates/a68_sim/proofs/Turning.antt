-- The journal of a loop with FOR and with a range of WHILE, computed by hand.
use Rattle.std.proofs.Common.{◌+◌, ℕ, true, List, [], ◌∷◌, ◌++◌, Some, refl, arith}
use Rattle.a68_acts.specs.Does.{does}
use Rattle.a68_acts.specs.Operations.{constant, tag, bind, drop, start, resumed, tested, counter_of, has_turn, advanced}
use Rattle.a68_acts.specs.Store.{Frame, Store, standard_frame, chain_of}
use Rattle.a68_ops.specs.Applied.{applied}
use Rattle.a68_code.specs.declared.code.Code.{Code}
use Rattle.a68_code.specs.declared.does.Does.TheVariants as does
use Rattle.a68_elab.specs.Permitted.{Permitted}
use Rattle.a68_elab.specs.Trees.{Tree, operation, phrases, loop, while_in, no_trees, ◌and_tree◌, serial, Program}
use Rattle.a68_emit.specs.Stretches.{Translates}
use Rattle.a68_modes.specs.Nodes.{standard_shapes}
use Rattle.a68_sim.proofs.Examples.{instr, entry, whole}
use Rattle.a68_sim.proofs.Whole.{law}
use Rattle.a68_strand.specs.Ends as run
use Rattle.a68_instructions.specs.Machine.{State, stack_of, settle}
use Rattle.a68_strand.specs.RunOf.{RunOf}
use Rattle.a68_instructions.specs.declared.ask.Stance.TheVariants.{Idle}
use Rattle.a68_values.specs.Content.{Content, plain}
use Rattle.a68_values.specs.declared.act.Act.TheVariants as act
use Rattle.a68_values.specs.declared.act.Entry.{Entry}
use Rattle.a68_values.specs.declared.kept.End.TheVariants as ends
use Rattle.a68_values.specs.declared.kept.Kept.{Kept}
use Rattle.a68_values.specs.declared.plain.Plain.TheVariants as value

abbrev number : (place n : ℕ) → Tree
number place n = operation place (constant (whole n)) serial no_trees

abbrev yes_it_is : Content
yes_it_is = plain (value.Bool true)

-- FOR i TO 2 WHILE INT j = i; TRUE DO j OD
abbrev program : Program
program = record {
  place = 0;
  tree =
      loop 0 (number 0 1 and_tree number 0 1 and_tree number 9 2 and_tree no_trees) true true
      (while_in 17 1 (phrases 17 (operation 17 (bind 0) serial (operation 25 (tag 1 0) serial no_trees and_tree no_trees) and_tree no_trees) (operation 28 (constant yes_it_is) serial no_trees)))
      (operation 36 drop serial (operation 36 (tag 0 0) serial no_trees and_tree no_trees));
  apart = [];
  modes = standard_shapes;
}

abbrev code : Code
code = record {
  list =
      instr 0 (does.Push (whole 1)) ∷ instr 0 (does.Push (whole 1)) ∷ instr 9 (does.Push (whole 2)) ∷ instr 0 (does.Apply 26) ∷ instr 0 does.Counter ∷ instr 0 (does.Step 23) ∷ instr 0 does.Turn
      ∷ instr 0 (does.Enter 1) ∷ instr 0 does.Index ∷ instr 0 (does.Bind 0) ∷ instr 17 (does.Enter 1) ∷ instr 25 (does.Tag 1 0) ∷ instr 17 (does.Bind 0)
      ∷ instr 28 (does.Push yes_it_is) ∷ instr 0 (does.Unless 21) ∷ instr 36 (does.Tag 0 0) ∷ instr 36 does.Drop ∷ instr 0 (does.Leave 0) ∷ instr 0 (does.Leave 0)
      ∷ instr 0 (does.Advance 5) ∷ instr 0 (does.Jump 23) ∷ instr 0 (does.Leave 0) ∷ instr 0 (does.Leave 0) ∷ instr 0 does.Forget ∷ instr 0 does.End ∷ [];
  texts = [];
  units = [];
  modes = standard_shapes;
}

translates : Translates program code
translates = record {
  end = 24;
  last = 25;
  stands = (
    3,
    4,
    5,
    6,
    7,
    10,
    15,
    17,
    19,
    20,
    21,
    23,
    refl,
    refl,
    (1, (0, refl, refl, refl, (refl, refl)), (2, (1, refl, refl, refl, (refl, refl)), (3, (2, refl, refl, refl, (refl, refl)), refl))),
    (refl, refl),
    (refl, refl),
    (refl, refl),
    (refl, refl),
    (8, 9, (refl, refl), (refl, refl), (refl, refl)),
    (11, 14, (refl, refl), (13, (13, (12, refl, refl, (12, (11, refl, refl, refl, (refl, refl)), refl), (refl, refl)), refl), (13, refl, refl, refl, (refl, refl))), (refl, refl)),
    (16, refl, refl, (16, (15, refl, refl, refl, (refl, refl)), refl), (refl, refl)),
    (18, (refl, refl), (19, (refl, refl), refl)),
    (refl, refl),
    (refl, refl),
    (22, (refl, refl), (23, (refl, refl), refl)),
    (refl, refl),
  );
  ends = (refl, refl);
  no_more = refl;
  short = omega arith;
  apart = refl;
  modes = refl;
}

-- a turn, whose frames are this one and the next
abbrev turn : (f : ℕ) → List Entry
turn f =
    entry act.Turn ∷ entry (act.Enter f) ∷ entry (act.Bind f 0) ∷ entry (act.Enter (f + 1)) ∷ entry (act.Look f 0) ∷ entry (act.Bind (f + 1) 0) ∷ entry (act.Look (f + 1) 0) ∷ []

abbrev kept : Kept
kept = record { journal = record { entries = turn 1 ++ turn 3; text = [] }; cells = []; outer = Some (whole 1) ∷ []; end = ends.Done }

-- a frame with the count
abbrev counts : (outer scope n : ℕ) → Frame
counts outer scope n = record { outer = outer; scope = scope; slots = Some (whole n) ∷ [] }

abbrev last_store : Store
last_store = record { cells = []; frames = standard_frame ∷ counts 0 1 1 ∷ counts 1 2 1 ∷ counts 0 1 2 ∷ counts 3 2 2 ∷ []; text = []; strands = 1 }

abbrev last_state : State
last_state = record { at = 24; stack = stack_of []; chain = record { frame = 0; scope = 0 } ∷ []; stance = Idle }

ran : RunOf code 1000 kept
unfolding does settle start resumed chain_of tested counter_of has_turn advanced applied
ran = record {
  world = record { store = last_store; strands = last_state ∷ [] };
  runs = (refl, (refl, (refl, (refl, (refl, (refl, (refl, (refl, (refl, (refl, (refl, (refl, (refl, (refl, refl))))))))))))));
  keeps = record { text = refl; cells = refl; outer = refl };
  within = omega arith;
  ends = run.done (record { st = last_state; there = refl; idle = refl });
}

pub turned_twice : Permitted program 1000 kept
turned_twice = law program code 1000 kept translates ran
