-- The journal of a loop, computed by hand.
use Rattle.std.proofs.Common.{◌≡◌, ℕ, pos, false, List, [], ◌∷◌, ◌++◌, Some, refl, sym, subst, arith}
use Rattle.a68_acts.specs.Does.{does}
use Rattle.a68_acts.specs.Operations.{constant, skip, tag, make, bind, deref, store, apply, drop, print, start, resumed, tested, counter_of, has_turn, advanced}
use Rattle.a68_layout.specs.Rooms.{bounds_needed, planned}
use Rattle.a68_layout.specs.Widths.{cells_of}
use Rattle.a68_ops.specs.Printed.{item_text, whole_text}
use Rattle.a68_acts.specs.Store.{Store, standard_frame, chain_of}
use Rattle.a68_acts.specs.declared.operation.Next.TheVariants as next
use Rattle.a68_acts.specs.declared.want.Want.TheVariants as want
use Rattle.a68_ops.specs.Applied.{applied}
use Rattle.a68_code.specs.declared.code.Code.{Code}
use Rattle.a68_code.specs.declared.does.Does.TheVariants as does
use Rattle.a68_elab.specs.Made.{most_bounds}
use Rattle.a68_elab.specs.Programs.{program_of, tree_in}
use Rattle.a68_elab.specs.Runs.{outcome}
use Rattle.a68_elab.specs.Permitted.{Permitted}
use Rattle.a68_elab.specs.Trees.{Tree, operation, phrases, range, loop, while_in, no_trees, ◌and_tree◌, collateral, serial, Program}
use Rattle.a68_emit.specs.Stretches.{Translates}
use Rattle.a68_modes.specs.Nodes.{standard_shapes}
use Rattle.a68_sim.proofs.Examples.{instr, entry, whole, digit_text, printed_digit}
use Rattle.a68_sim.proofs.Texts.{three_counted}
use Rattle.a68_sim.proofs.Whole.{law}
use Rattle.a68_strand.specs.Ends as run
use Rattle.a68_instructions.specs.Machine.{State, stack_of, settle}
use Rattle.a68_strand.specs.RunOf.{RunOf}
use Rattle.a68_exec.specs.Runs.{World, IfNext, acted}
use Rattle.a68_instructions.specs.declared.ask.Stance.TheVariants.{Idle, Asking}
use Rattle.a68_instructions.specs.declared.ask.Waiting.TheVariants as waiting
use Rattle.a68_values.specs.Content.{plain}
use Rattle.a68_values.specs.declared.act.Act.TheVariants as act
use Rattle.a68_values.specs.declared.act.Entry.{Entry}
use Rattle.a68_values.specs.declared.held.Held.TheVariants as held
use Rattle.a68_values.specs.declared.kept.End.TheVariants as ends
use Rattle.a68_values.specs.declared.kept.Kept.{Kept}
use Rattle.a68_values.specs.declared.plain.Plain.TheVariants as value

abbrev number : (place n : ℕ) → Tree
number place n = operation place (constant (whole n)) serial no_trees

abbrev name : (place : ℕ) → Tree
name place = operation place (tag 0 0) serial no_trees

abbrev its_value : (place : ℕ) → Tree
its_value place = operation place (deref 1) serial (name place and_tree no_trees)

-- BEGIN INT i := 0; WHILE i < 3 DO i := i + 1 OD; print(i) END
abbrev declaration : Tree
declaration = operation 6 (bind 0) serial (operation 6 (store 1) serial (operation 6 (make 1 0) collateral no_trees and_tree number 15 0 and_tree no_trees) and_tree no_trees)

abbrev assignation : Tree
assignation =
    operation 33 drop serial
    (operation 33 (store 1) collateral (name 33 and_tree operation 38 (apply 15) collateral (its_value 38 and_tree number 42 1 and_tree no_trees) and_tree no_trees) and_tree no_trees)

abbrev counting : Tree
counting =
    loop 18 (number 18 1 and_tree number 18 1 and_tree operation 18 (skip 1) serial no_trees and_tree no_trees) false false
    (while_in 24 0 (phrases 24 no_trees (operation 24 (apply 11) collateral (its_value 24 and_tree number 28 3 and_tree no_trees)))) (phrases 33 no_trees assignation)

abbrev program : Program
program = record {
  place = 0;
  tree = range 6 6 1 false (phrases 6 (declaration and_tree counting and_tree no_trees) (operation 48 print collateral (its_value 54 and_tree no_trees)));
  apart = [];
  modes = standard_shapes;
}

-- it is that of the annotated text
is_program_of : program_of three_counted ≡ program
unfolding tree_in outcome bounds_needed most_bounds
is_program_of = refl

abbrev code : Code
code = record {
  list =
      instr 6 (does.Enter 1) ∷ instr 6 (does.Make 1 0) ∷ instr 15 (does.Push (whole 0)) ∷ instr 6 (does.Store 1) ∷ instr 6 (does.Bind 0)
      ∷ instr 18 (does.Push (whole 1)) ∷ instr 18 (does.Push (whole 1)) ∷ instr 18 (does.Skip 1) ∷ instr 18 does.Counter ∷ instr 18 (does.Step 25)
      ∷ instr 18 does.Turn ∷ instr 24 (does.Tag 0 0) ∷ instr 24 (does.Deref 1) ∷ instr 28 (does.Push (whole 3)) ∷ instr 24 (does.Apply 11)
      ∷ instr 18 (does.Unless 25) ∷ instr 33 (does.Tag 0 0) ∷ instr 38 (does.Tag 0 0) ∷ instr 38 (does.Deref 1) ∷ instr 42 (does.Push (whole 1))
      ∷ instr 38 (does.Apply 15) ∷ instr 33 (does.Store 1) ∷ instr 33 does.Drop ∷ instr 18 (does.Advance 9) ∷ instr 18 (does.Jump 25)
      ∷ instr 18 does.Forget ∷ instr 54 (does.Tag 0 0) ∷ instr 54 (does.Deref 1) ∷ instr 48 (does.Print 1) ∷ instr 6 (does.Leave 0)
      ∷ instr 0 does.End ∷ [];
  texts = [];
  units = [];
  modes = standard_shapes;
}

translates : Translates program code
translates = record {
  end = 30;
  last = 31;
  stands = (
    1,
    29,
    refl,
    (refl, refl),
    (
      26,
      (
        5,
        (4, refl, refl, (4, (3, refl, refl, (2, (1, refl, refl, refl, (refl, refl)), (3, (2, refl, refl, refl, (refl, refl)), refl)), (refl, refl)), refl), (refl, refl)),
        (
          26,
          (
            8,
            8,
            9,
            10,
            11,
            11,
            16,
            23,
            23,
            24,
            25,
            25,
            refl,
            refl,
            (6, (5, refl, refl, refl, (refl, refl)), (7, (6, refl, refl, refl, (refl, refl)), (8, (7, refl, refl, refl, (refl, refl)), refl))),
            refl,
            (refl, refl),
            (refl, refl),
            (refl, refl),
            refl,
            (11, 15, refl, (11, refl, (14, refl, refl, (13, (12, refl, refl, (12, (11, refl, refl, refl, (refl, refl)), refl), (refl, refl)), (14, (13, refl, refl, refl, (refl, refl)), refl)), (refl, refl))), (refl, refl)),
            (
              16,
              refl,
              (
                22,
                refl,
                refl,
                (
                  22,
                  (
                    21,
                    refl,
                    refl,
                    (
                      17,
                      (16, refl, refl, refl, (refl, refl)),
                      (
                        21,
                        (20, refl, refl, (19, (18, refl, refl, (18, (17, refl, refl, refl, (refl, refl)), refl), (refl, refl)), (20, (19, refl, refl, refl, (refl, refl)), refl)), (refl, refl)),
                        refl,
                      ),
                    ),
                    (refl, refl),
                  ),
                  refl,
                ),
                (refl, refl),
              ),
            ),
            refl,
            (refl, refl),
            (refl, refl),
            refl,
            (refl, refl),
          ),
          refl,
        ),
      ),
      (28, refl, refl, (28, (27, refl, refl, (27, (26, refl, refl, refl, (refl, refl)), refl), (refl, refl)), refl), (refl, refl)),
    ),
    (refl, refl),
  );
  ends = (refl, refl);
  no_more = refl;
  short = omega arith;
  apart = refl;
  modes = refl;
}

-- a turn, and the test
abbrev tests : List Entry
tests = entry act.Turn ∷ entry (act.Look 1 0) ∷ entry (act.Fetch 0) ∷ []

abbrev adds : List Entry
adds = entry (act.Look 1 0) ∷ entry (act.Look 1 0) ∷ entry (act.Fetch 0) ∷ entry (act.Assign 0) ∷ []

abbrev text : List ℕ
text = digit_text 3

-- 31 entries
abbrev kept : Kept
kept = record {
  journal = record {
    entries =
        (entry (act.Enter 1) ∷ entry (act.Make 0 1) ∷ entry (act.Assign 0) ∷ entry (act.Bind 1 0) ∷ [])
        ++ tests ++ adds ++ tests ++ adds ++ tests ++ adds ++ tests ++ entry (act.Look 1 0) ∷ entry (act.Fetch 0) ∷ entry (act.Print 0 20) ∷ [];
    text = text;
  };
  cells = held.Plain (value.Int (pos 3)) ∷ [];
  outer = Some (plain (value.Name (record { cell = 0; scope = 1 }))) ∷ [];
  end = ends.Done;
}

abbrev last_store : Store
last_store = record {
  cells = held.Plain (value.Int (pos 3)) ∷ [];
  frames = standard_frame ∷ record { outer = 0; scope = 1; slots = Some (plain (value.Name (record { cell = 0; scope = 1 }))) ∷ [] } ∷ [];
  text = text;
  strands = 1;
}

abbrev last_state : State
last_state = record { at = 30; stack = stack_of []; chain = record { frame = 0; scope = 0 } ∷ []; stance = Idle }

abbrev before_print : List ℕ → World
before_print printed = record {
  store = record last_store { text = [] };
  strands = record last_state { at = 28; chain = record { frame = 1; scope = 1 } ∷ record { frame = 0; scope = 0 } ∷ []; stance = Asking (want.Print printed) (waiting.Operation (next.Printing [])) } ∷ [];
}

printed_three : whole_text (pos 3) (pos 20) ≡ text
printed_three = printed_digit 3 (omega arith)

prints_three : IfNext (acted code (before_print (whole_text (pos 3) (pos 20))) 0) (act.Print 0 20) (λ behind. behind ≡ record { store = last_store; strands = last_state ∷ [] })
unfolding does settle start resumed chain_of item_text applied
prints_three =
    subst (λ (t : List ℕ). IfNext (acted code (before_print t) 0) (act.Print 0 20) (λ behind. behind ≡ record { store = last_store; strands = last_state ∷ [] }))
    (sym printed_three) (refl, refl)

ran : RunOf code 1000 kept
unfolding does settle start resumed chain_of item_text tested counter_of has_turn advanced applied planned bounds_needed cells_of
ran = record {
  world = record { store = last_store; strands = last_state ∷ [] };
  runs = (refl, (refl, (refl, (refl, (refl, (refl, (refl, (refl, (refl, (refl, (refl, (refl, (refl, (refl, (refl, (refl, (refl, (refl, (refl, (refl, (refl, (refl, (refl, (refl, (refl, (refl, (refl, (refl, (refl, (refl, prints_three))))))))))))))))))))))))))))));
  keeps = record { text = refl; cells = refl; outer = refl };
  within = omega arith;
  ends = run.done (record { st = last_state; there = refl; idle = refl });
}

pub counted : Permitted (program_of three_counted) 1000 kept
counted = subst (λ (p : Program). Permitted p 1000 kept) (sym is_program_of) (law program code 1000 kept translates ran)
