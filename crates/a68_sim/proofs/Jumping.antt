-- The journals of jumps that leave a loop and a frame, and an operand, computed by hand.
use Rattle.std.proofs.Common.{◌+◌, ℕ, true, false, List, [], ◌∷◌, Some, refl, arith}
use Rattle.a68_acts.specs.Does.{does}
use Rattle.a68_acts.specs.Operations.{constant, skip, bind, apply, drop, start, resumed, counter_of, has_turn}
use Rattle.a68_acts.specs.Store.{Frame, Store, opening_store, standard_frame, chain_of}
use Rattle.a68_ops.specs.Applied.{applied}
use Rattle.a68_code.specs.declared.code.Code.{Code}
use Rattle.a68_code.specs.declared.does.Does.TheVariants as does
use Rattle.a68_elab.specs.Elaborations.{Elaborates, stays, silently, by_act}
use Rattle.a68_elab.specs.Permitted.{Permitted}
use Rattle.a68_elab.specs.Positions.{here, within, in_this, jumps, jumps_within, jumps_in_this, jumps_beside, by_jump}
use Rattle.a68_elab.specs.Terms.{todo, yielded}
use Rattle.a68_elab.specs.Trees.{Tree, operation, phrases, labelled, jump, range, loop, no_test, no_trees, ◌and_tree◌, collateral, serial, Steps, last_step, step, exit, Program}
use Rattle.a68_emit.specs.Stretches.{Translates}
use Rattle.a68_modes.specs.Nodes.{standard_shapes}
use Rattle.a68_sim.proofs.Examples.{instr, entry, whole}
use Rattle.a68_sim.proofs.Whole.{law}
use Rattle.a68_strand.specs.Ends as run
use Rattle.a68_instructions.specs.Machine.{State, stack_of, settle}
use Rattle.a68_strand.specs.RunOf.{RunOf}
use Rattle.a68_instructions.specs.declared.ask.Stance.TheVariants.{Idle}
use Rattle.a68_values.specs.Content.{void}
use Rattle.a68_values.specs.declared.act.Act.TheVariants as act
use Rattle.a68_values.specs.declared.kept.End.TheVariants as ends
use Rattle.a68_values.specs.declared.kept.Kept.{Kept}

abbrev number : (place n : ℕ) → Tree
number place n = operation place (constant (whole n)) serial no_trees

-- a range in which a tag is bound to a number
abbrev ranged : (place n : ℕ) → Tree → Tree
ranged place n final = range place place 1 false (phrases place (operation place (bind 0) serial (number (place + 8) n and_tree no_trees) and_tree no_trees) final)

abbrev skipped : (place : ℕ) → Tree
skipped place = operation place (skip 0) serial no_trees

-- BEGIN TO 2 DO (INT k = 7; GOTO out) OD; (INT n = 8; SKIP) EXIT out: (INT m = 9; SKIP) END
abbrev steps : Steps
steps =
    step []
    (loop 6 (number 6 1 and_tree number 6 1 and_tree number 9 2 and_tree no_trees) true false no_test (ranged 15 7 (jump 26 12 1 0 false)))
    (exit [] (ranged 41 8 (skipped 52)) (last_step (12 ∷ []) (ranged 69 9 (skipped 80))))

abbrev program : Program
program = record { place = 0; tree = labelled 6 steps; apart = []; modes = standard_shapes }

-- the step behind the label stands at 21
abbrev code : Code
code = record {
  list =
      instr 6 (does.Push (whole 1)) ∷ instr 6 (does.Push (whole 1)) ∷ instr 9 (does.Push (whole 2)) ∷ instr 6 (does.Apply 26) ∷ instr 6 does.Counter ∷ instr 6 (does.Step 14)
      ∷ instr 6 does.Turn ∷ instr 15 (does.Enter 1) ∷ instr 23 (does.Push (whole 7)) ∷ instr 15 (does.Bind 0) ∷ instr 26 (does.Goto 21 1 0 false) ∷ instr 15 (does.Leave 0)
      ∷ instr 6 (does.Advance 5) ∷ instr 6 (does.Jump 14) ∷ instr 6 does.Forget
      ∷ instr 41 (does.Enter 1) ∷ instr 49 (does.Push (whole 8)) ∷ instr 41 (does.Bind 0) ∷ instr 52 (does.Skip 0) ∷ instr 41 (does.Leave 0) ∷ instr 6 (does.Jump 26)
      ∷ instr 69 (does.Enter 1) ∷ instr 77 (does.Push (whole 9)) ∷ instr 69 (does.Bind 0) ∷ instr 80 (does.Skip 0) ∷ instr 69 (does.Leave 0) ∷ instr 0 does.End ∷ [];
  texts = [];
  units = [];
  modes = standard_shapes;
}

abbrev places : List ℕ
places = 0 ∷ 15 ∷ 21 ∷ []

translates : Translates program code
translates = record {
  end = 26;
  last = 27;
  stands = (
    places,
    (
      15,
      refl,
      (
        3,
        4,
        5,
        6,
        7,
        7,
        7,
        12,
        12,
        13,
        14,
        14,
        refl,
        refl,
        (1, (0, refl, refl, refl, (refl, refl)), (2, (1, refl, refl, refl, (refl, refl)), (3, (2, refl, refl, refl, (refl, refl)), refl))),
        (refl, refl),
        (refl, refl),
        (refl, refl),
        (refl, refl),
        refl,
        refl,
        (
          8,
          11,
          refl,
          (refl, refl),
          (
            10,
            (10, (9, refl, refl, (9, (8, refl, refl, refl, (refl, refl)), refl), (refl, refl)), refl),
            (record { frames = 1; height = 0; steps = steps; places = places }, 21, refl, refl, refl, refl, refl, (refl, refl)),
          ),
          (refl, refl),
        ),
        refl,
        (refl, refl),
        (refl, refl),
        refl,
        (refl, refl),
      ),
      (
        20,
        21,
        refl,
        (16, 19, refl, (refl, refl), (18, (18, (17, refl, refl, (17, (16, refl, refl, refl, (refl, refl)), refl), (refl, refl)), refl), (18, refl, refl, refl, (refl, refl))), (refl, refl)),
        (refl, refl),
        (
          refl,
          (22, 25, refl, (refl, refl), (24, (24, (23, refl, refl, (23, (22, refl, refl, refl, (refl, refl)), refl), (refl, refl)), refl), (24, refl, refl, refl, (refl, refl))), (refl, refl)),
        ),
      ),
    ),
  );
  ends = (refl, refl);
  no_more = refl;
  short = omega arith;
  apart = refl;
  modes = refl;
}

-- the turn of the loop, and that of the jump; the frame behind it stands within that of the program
abbrev kept : Kept
kept = record {
  journal = record {
    entries = entry act.Turn ∷ entry (act.Enter 1) ∷ entry (act.Bind 1 0) ∷ entry act.Turn ∷ entry (act.Enter 2) ∷ entry (act.Bind 2 0) ∷ [];
    text = [];
  };
  cells = [];
  outer = Some (whole 7) ∷ [];
  end = ends.Done;
}

abbrev with_number : ℕ → Frame
with_number n = record { outer = 0; scope = 1; slots = Some (whole n) ∷ [] }

abbrev last_store : Store
last_store = record { cells = []; frames = standard_frame ∷ with_number 7 ∷ with_number 9 ∷ []; text = []; strands = 1 }

abbrev last_state : State
last_state = record { at = 26; stack = stack_of []; chain = record { frame = 0; scope = 0 } ∷ []; stance = Idle }

ran : RunOf code 6 kept
unfolding does settle start resumed chain_of counter_of has_turn applied
ran = record {
  world = record { store = last_store; strands = last_state ∷ [] };
  runs = (refl, (refl, (refl, (refl, (refl, (refl, refl))))));
  keeps = record { text = refl; cells = refl; outer = refl };
  within = omega arith;
  ends = run.done (record { st = last_state; there = refl; idle = refl });
}

pub jumped_out : Permitted program 6 kept
jumped_out = law program code 6 kept translates ran

-- ---- BEGIN 1 + (GOTO out); out: SKIP END

abbrev operand_steps : Steps
operand_steps =
    step [] (operation 6 drop serial (operation 6 (apply 15) collateral (number 6 1 and_tree jump 11 12 0 0 true and_tree no_trees) and_tree no_trees)) (last_step (12 ∷ []) (skipped 27))

abbrev operand_program : Program
operand_program = record { place = 0; tree = labelled 6 operand_steps; apart = []; modes = standard_shapes }

-- the left operand lies on the stack, and is gone behind the jump
abbrev operand_code : Code
operand_code = record {
  list =
      instr 6 (does.Push (whole 1)) ∷ instr 11 (does.Goto 4 0 0 true) ∷ instr 6 (does.Apply 15) ∷ instr 6 does.Drop ∷ instr 27 (does.Skip 0) ∷ instr 0 does.End ∷ [];
  texts = [];
  units = [];
  modes = standard_shapes;
}

abbrev operand_places : List ℕ
operand_places = 0 ∷ 4 ∷ []

operand_translates : Translates operand_program operand_code
operand_translates = record {
  end = 5;
  last = 6;
  stands = (
    operand_places,
    (
      4,
      refl,
      (
        3,
        refl,
        refl,
        (
          3,
          (
            2,
            refl,
            refl,
            (
              1,
              (0, refl, refl, refl, (refl, refl)),
              (2, (record { frames = 0; height = 0; steps = operand_steps; places = operand_places }, 4, refl, refl, refl, refl, refl, (refl, refl)), refl),
            ),
            (refl, refl),
          ),
          refl,
        ),
        (refl, refl),
      ),
      (refl, (4, refl, refl, refl, (refl, refl))),
    ),
  );
  ends = (refl, refl);
  no_more = refl;
  short = omega arith;
  apart = refl;
  modes = refl;
}

abbrev operand_kept : Kept
operand_kept = record { journal = record { entries = entry act.Turn ∷ []; text = [] }; cells = []; outer = []; end = ends.Done }

abbrev operand_state : State
operand_state = record { at = 5; stack = stack_of []; chain = record { frame = 0; scope = 0 } ∷ []; stance = Idle }

operand_ran : RunOf operand_code 1 operand_kept
unfolding does settle start resumed chain_of
operand_ran = record {
  world = record { store = opening_store; strands = operand_state ∷ [] };
  runs = (refl, refl);
  keeps = record { text = refl; cells = refl; outer = refl };
  within = omega arith;
  ends = run.done (record { st = operand_state; there = refl; idle = refl });
}

pub jumped_behind : Permitted operand_program 1 operand_kept
jumped_behind = law operand_program operand_code 1 operand_kept operand_translates operand_ran

-- the elaboration may jump before the left operand has begun
jumped_first : Elaborates operand_program (todo operand_program.tree (record { frame = 0; scope = 0 } ∷ [])) opening_store (entry act.Turn ∷ []) (yielded void) opening_store
unfolding does start resumed
jumped_first =
    silently here refl
    (silently (within (in_this here)) refl
    (silently (within (in_this (within (in_this here)))) refl
    (by_act here (by_jump refl (jumps_in_this (jumps_within refl (jumps_in_this (jumps_within refl (jumps_beside (jumps_in_this jumps))))))) refl
    (silently (within (in_this here)) refl
    (silently (within (in_this here)) refl
    (silently here refl stays))))))
