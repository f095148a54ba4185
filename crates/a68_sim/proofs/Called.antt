-- The journals of calls with parameters, computed by hand.
use Rattle.std.proofs.Common.{◌≡◌, ℕ, pos, true, false, List, [], ◌∷◌, Some, None, refl, sym, subst, arith}
use Rattle.a68_acts.specs.Does.{does}
use Rattle.a68_acts.specs.Operations.{constant, skip, routine, tag, make, bind, apply, drop, print, start, resumed, called, tested}
use Rattle.a68_ops.specs.Printed.{item_text, whole_text}
use Rattle.a68_acts.specs.Store.{Frame, Store, standard_frame, chain_of}
use Rattle.a68_acts.specs.declared.operation.Next.TheVariants as next
use Rattle.a68_acts.specs.declared.want.Want.TheVariants as want
use Rattle.a68_ops.specs.Applied.{applied}
use Rattle.a68_code.specs.declared.code.Code.{Code}
use Rattle.a68_code.specs.declared.does.Does.TheVariants as does
use Rattle.a68_elab.specs.Elaborations.{Elaborates, stays, silently, by_act}
use Rattle.a68_elab.specs.Permitted.{Permitted}
use Rattle.a68_elab.specs.Positions.{here, within, in_this, beside, by_rule}
use Rattle.a68_elab.specs.Terms.{todo, yielded}
use Rattle.a68_elab.specs.Trees.{Tree, operation, phrases, range, choice, call, no_trees, ◌and_tree◌, collateral, serial, routine_text, Program}
use Rattle.a68_emit.specs.Stretches.{Translates}
use Rattle.a68_layout.specs.Rooms.{bounds_needed, planned}
use Rattle.a68_layout.specs.Widths.{cells_of}
use Rattle.a68_modes.specs.Nodes.{standard_shapes}
use Rattle.a68_sim.proofs.Examples.{instr, entry, whole, digit_text, printed_digit, not_ended}
use Rattle.a68_sim.proofs.Whole.{law}
use Rattle.a68_stack.specs.declared.stack.Item.TheVariants as item
use Rattle.a68_strand.specs.Ends as run
use Rattle.a68_instructions.specs.Machine.{State, stack_of, settle}
use Rattle.a68_strand.specs.RunOf.{RunOf}
use Rattle.a68_exec.specs.Runs.{World, IfNext, acted}
use Rattle.a68_instructions.specs.declared.ask.Stance.TheVariants.{Idle, Asking, Failed}
use Rattle.a68_instructions.specs.declared.ask.Waiting.TheVariants as waiting
use Rattle.a68_values.specs.Content.{Content, void, plain}
use Rattle.a68_values.specs.declared.act.Act.TheVariants as act
use Rattle.a68_values.specs.declared.act.FaultKind.TheVariants as fault
use Rattle.a68_values.specs.declared.chain.Environ.{Environ}
use Rattle.a68_values.specs.declared.held.Held.TheVariants as held
use Rattle.a68_values.specs.declared.kept.End.TheVariants as ends
use Rattle.a68_values.specs.declared.kept.Kept.{Kept}
use Rattle.a68_values.specs.declared.plain.Plain.TheVariants as value

abbrev number : (place n : ℕ) → Tree
number place n = operation place (constant (whole n)) serial no_trees

abbrev name : (place hops slot : ℕ) → Tree
name place hops slot = operation place (tag hops slot) serial no_trees

-- the routine of the text 0, met in frame 1
abbrev the_routine : (scope : ℕ) → Content
the_routine scope = plain (value.Routine (record { text = 0; frame = 1; scope = scope }))

abbrev newest : ℕ → Environ
newest n = record { frame = n; scope = n }

-- frame 1 within that of the standard environ, with the routine
abbrev with_routine : (scope : ℕ) → Frame
with_routine scope = record { outer = 0; scope = 1; slots = Some (the_routine scope) ∷ [] }

-- ---- (PROC f = (INT n) INT: IF n = 0 THEN 5 ELSE f(n - 1) FI; print(f(1)))

abbrev program : Program
program = record {
  place = 0;
  tree =
      range 1 1 1 false
      (phrases 1 (operation 6 (bind 0) serial (operation 10 (routine 0 (Some 0)) serial no_trees and_tree no_trees) and_tree no_trees)
      (operation 57 print collateral (call 63 true (name 63 0 0 and_tree number 65 1 and_tree no_trees) and_tree no_trees)));
  apart =
      routine_text (record {
        place = 10;
        yields = true;
        tree =
            choice 23 (operation 26 (apply 9) collateral (name 26 0 0 and_tree number 30 0 and_tree no_trees)) (number 37 5)
            (call 44 true (name 44 1 0 and_tree operation 46 (apply 16) collateral (name 46 0 0 and_tree number 50 1 and_tree no_trees) and_tree no_trees));
      })
      ∷ [];
  modes = standard_shapes;
}

abbrev code : Code
code = record {
  list =
      instr 1 (does.Enter 1) ∷ instr 10 (does.Routine 0 (Some 0)) ∷ instr 6 (does.Bind 0) ∷ instr 63 (does.Tag 0 0) ∷ instr 65 (does.Push (whole 1)) ∷ instr 63 (does.Call 1 true)
      ∷ instr 57 (does.Print 1) ∷ instr 1 (does.Leave 0) ∷ instr 0 does.End
      ∷ instr 26 (does.Tag 0 0) ∷ instr 30 (does.Push (whole 0)) ∷ instr 26 (does.Apply 9) ∷ instr 23 (does.Unless 15) ∷ instr 37 (does.Push (whole 5)) ∷ instr 23 (does.Jump 20)
      ∷ instr 44 (does.Tag 1 0) ∷ instr 46 (does.Tag 0 0) ∷ instr 50 (does.Push (whole 1)) ∷ instr 46 (does.Apply 16) ∷ instr 44 (does.Call 1 true) ∷ instr 10 does.Return ∷ [];
  texts = record { at = 9; yields = true } ∷ [];
  units = [];
  modes = standard_shapes;
}

translates : Translates program code
translates = record {
  end = 8;
  last = 21;
  stands = (
    1,
    7,
    refl,
    (refl, refl),
    (
      3,
      (3, (2, refl, refl, (2, (1, refl, refl, refl, (refl, refl)), refl), (refl, refl)), refl),
      (6, refl, refl, (6, (5, refl, (4, (3, refl, refl, refl, (refl, refl)), (5, (4, refl, refl, refl, (refl, refl)), refl)), (refl, refl)), refl), (refl, refl)),
    ),
    (refl, refl),
  );
  ends = (refl, refl);
  apart = (
    20,
    21,
    refl,
    (
      12,
      13,
      14,
      15,
      (11, refl, refl, (10, (9, refl, refl, refl, (refl, refl)), (11, (10, refl, refl, refl, (refl, refl)), refl)), (refl, refl)),
      (refl, refl),
      (13, refl, refl, refl, (refl, refl)),
      (refl, refl),
      (
        19,
        refl,
        (
          16,
          (15, refl, refl, refl, (refl, refl)),
          (19, (18, refl, refl, (17, (16, refl, refl, refl, (refl, refl)), (18, (17, refl, refl, refl, (refl, refl)), refl)), (refl, refl)), refl),
        ),
        (refl, refl),
      ),
    ),
    (refl, refl),
    refl,
  );
  no_more = refl;
  short = omega arith;
  modes = refl;
}

abbrev text : List ℕ
text = digit_text 5

-- f is called with 1, which calls it with 0: a turn, a frame and a parameter each time
abbrev kept : Kept
kept = record {
  journal = record {
    entries =
        entry (act.Enter 1) ∷ entry (act.Bind 1 0) ∷ entry (act.Look 1 0) ∷ entry act.Turn ∷ entry (act.Enter 2) ∷ entry (act.Bind 2 0) ∷ entry (act.Look 2 0)
        ∷ entry (act.Look 1 0) ∷ entry (act.Look 2 0) ∷ entry act.Turn ∷ entry (act.Enter 3) ∷ entry (act.Bind 3 0) ∷ entry (act.Look 3 0) ∷ entry (act.Print 0 20) ∷ [];
    text = text;
  };
  cells = [];
  outer = Some (the_routine 1) ∷ [];
  end = ends.Done;
}

-- both frames of f stand within that in which f was met
abbrev last_store : Store
last_store = record {
  cells = [];
  frames =
      standard_frame ∷ with_routine 1 ∷ record { outer = 1; scope = 2; slots = Some (whole 1) ∷ [] } ∷ record { outer = 1; scope = 3; slots = Some (whole 0) ∷ [] } ∷ [];
  text = text;
  strands = 1;
}

abbrev last_state : State
last_state = record { at = 8; stack = stack_of []; chain = newest 0 ∷ []; stance = Idle }

abbrev before_print : List ℕ → World
before_print printed = record {
  store = record last_store { text = [] };
  strands = record last_state { at = 6; chain = newest 1 ∷ newest 0 ∷ []; stance = Asking (want.Print printed) (waiting.Operation (next.Printing [])) } ∷ [];
}

printed_five : whole_text (pos 5) (pos 20) ≡ text
printed_five = printed_digit 5 (omega arith)

prints_five : IfNext (acted code (before_print (whole_text (pos 5) (pos 20))) 0) (act.Print 0 20) (λ behind. behind ≡ record { store = last_store; strands = last_state ∷ [] })
unfolding does settle start resumed chain_of item_text applied
prints_five =
    subst (λ (t : List ℕ). IfNext (acted code (before_print t) 0) (act.Print 0 20) (λ behind. behind ≡ record { store = last_store; strands = last_state ∷ [] }))
    (sym printed_five) (refl, refl)

ran : RunOf code 100 kept
unfolding does settle start resumed chain_of item_text applied called tested
ran = record {
  world = record { store = last_store; strands = last_state ∷ [] };
  runs = (refl, (refl, (refl, (refl, (refl, (refl, (refl, (refl, (refl, (refl, (refl, (refl, (refl, prints_five)))))))))))));
  keeps = record { text = refl; cells = refl; outer = refl };
  within = omega arith;
  ends = run.done (record { st = last_state; there = refl; idle = refl });
}

pub called_within : Permitted program 100 kept
called_within = law program code 100 kept translates ran

-- ---- (PROC p = (INT a, b) VOID: print(a - b); p(7, 2)), where no value comes back

abbrev void_program : Program
void_program = record {
  place = 0;
  tree =
      range 1 1 1 false
      (phrases 1 (operation 6 (bind 0) serial (operation 10 (routine 0 None) serial no_trees and_tree no_trees) and_tree no_trees)
      (call 41 false (name 41 0 0 and_tree number 43 7 and_tree number 46 2 and_tree no_trees)));
  apart =
      routine_text (record {
        place = 10;
        yields = false;
        tree = operation 27 print collateral (operation 33 (apply 16) collateral (name 33 0 0 and_tree name 37 0 1 and_tree no_trees) and_tree no_trees);
      })
      ∷ [];
  modes = standard_shapes;
}

abbrev void_code : Code
void_code = record {
  list =
      instr 1 (does.Enter 1) ∷ instr 10 (does.Routine 0 None) ∷ instr 6 (does.Bind 0) ∷ instr 41 (does.Tag 0 0) ∷ instr 43 (does.Push (whole 7)) ∷ instr 46 (does.Push (whole 2))
      ∷ instr 41 (does.Call 2 false) ∷ instr 1 (does.Leave 0) ∷ instr 0 does.End
      ∷ instr 33 (does.Tag 0 0) ∷ instr 37 (does.Tag 0 1) ∷ instr 33 (does.Apply 16) ∷ instr 27 (does.Print 1) ∷ instr 10 does.Return ∷ [];
  texts = record { at = 9; yields = false } ∷ [];
  units = [];
  modes = standard_shapes;
}

void_translates : Translates void_program void_code
void_translates = record {
  end = 8;
  last = 14;
  stands = (
    1,
    7,
    refl,
    (refl, refl),
    (
      3,
      (3, (2, refl, refl, (2, (1, refl, refl, refl, (refl, refl)), refl), (refl, refl)), refl),
      (6, refl, (4, (3, refl, refl, refl, (refl, refl)), (5, (4, refl, refl, refl, (refl, refl)), (6, (5, refl, refl, refl, (refl, refl)), refl))), (refl, refl)),
    ),
    (refl, refl),
  );
  ends = (refl, refl);
  apart = (
    13,
    14,
    refl,
    (12, refl, refl, (12, (11, refl, refl, (10, (9, refl, refl, refl, (refl, refl)), (11, (10, refl, refl, refl, (refl, refl)), refl)), (refl, refl)), refl), (refl, refl)),
    (refl, refl),
    refl,
  );
  no_more = refl;
  short = omega arith;
  modes = refl;
}

-- the parameters are bound in order
abbrev void_kept : Kept
void_kept = record {
  journal = record {
    entries =
        entry (act.Enter 1) ∷ entry (act.Bind 1 0) ∷ entry (act.Look 1 0) ∷ entry act.Turn ∷ entry (act.Enter 2) ∷ entry (act.Bind 2 0) ∷ entry (act.Bind 2 1)
        ∷ entry (act.Look 2 0) ∷ entry (act.Look 2 1) ∷ entry (act.Print 0 20) ∷ [];
    text = text;
  };
  cells = [];
  outer = Some (the_routine 0) ∷ [];
  end = ends.Done;
}

abbrev void_store : Store
void_store = record {
  cells = [];
  frames = standard_frame ∷ with_routine 0 ∷ record { outer = 1; scope = 2; slots = Some (whole 7) ∷ Some (whole 2) ∷ [] } ∷ [];
  text = text;
  strands = 1;
}

abbrev in_routine : List ℕ → World
in_routine printed = record {
  store = record void_store { text = [] };
  strands = record {
    at = 12;
    stack = stack_of (item.Caller (record { to = 7; chain = newest 1 ∷ newest 0 ∷ [] }) ∷ []);
    chain = newest 2 ∷ newest 1 ∷ newest 0 ∷ [];
    stance = Asking (want.Print printed) (waiting.Operation (next.Printing []));
  } ∷ [];
}

prints_there : IfNext (acted void_code (in_routine (whole_text (pos 5) (pos 20))) 0) (act.Print 0 20) (λ behind. behind ≡ record { store = void_store; strands = last_state ∷ [] })
unfolding does settle start resumed chain_of item_text applied
prints_there =
    subst (λ (t : List ℕ). IfNext (acted void_code (in_routine t) 0) (act.Print 0 20) (λ behind. behind ≡ record { store = void_store; strands = last_state ∷ [] }))
    (sym printed_five) (refl, refl)

void_ran : RunOf void_code 10 void_kept
unfolding does settle start resumed chain_of item_text applied called
void_ran = record {
  world = record { store = void_store; strands = last_state ∷ [] };
  runs = (refl, (refl, (refl, (refl, (refl, (refl, (refl, (refl, (refl, prints_there)))))))));
  keeps = record { text = refl; cells = refl; outer = refl };
  within = omega arith;
  ends = run.done (record { st = last_state; there = refl; idle = refl });
}

pub called_for_nothing : Permitted void_program 10 void_kept
called_for_nothing = law void_program void_code 10 void_kept void_translates void_ran

-- ---- (PROC f = REF INT: LOC INT; f), where the body yields a name that would outlive its frame

abbrev newer_program : Program
newer_program = record {
  place = 0;
  tree =
      range 1 1 1 false
      (phrases 1 (operation 6 (bind 0) serial (operation 10 (routine 0 None) serial no_trees and_tree no_trees) and_tree no_trees)
      (operation 28 drop serial (call 28 true (name 28 0 0 and_tree no_trees) and_tree no_trees)));
  apart = routine_text (record { place = 10; yields = true; tree = operation 19 (make 1 0) collateral no_trees }) ∷ [];
  modes = standard_shapes;
}

abbrev newer_code : Code
newer_code = record {
  list =
      instr 1 (does.Enter 1) ∷ instr 10 (does.Routine 0 None) ∷ instr 6 (does.Bind 0) ∷ instr 28 (does.Tag 0 0) ∷ instr 28 (does.Call 0 true) ∷ instr 28 does.Drop
      ∷ instr 1 (does.Leave 0) ∷ instr 0 does.End ∷ instr 19 (does.Make 1 0) ∷ instr 10 does.Return ∷ [];
  texts = record { at = 8; yields = true } ∷ [];
  units = [];
  modes = standard_shapes;
}

newer_translates : Translates newer_program newer_code
newer_translates = record {
  end = 7;
  last = 10;
  stands = (
    1,
    6,
    refl,
    (refl, refl),
    (
      3,
      (3, (2, refl, refl, (2, (1, refl, refl, refl, (refl, refl)), refl), (refl, refl)), refl),
      (5, refl, refl, (5, (4, refl, (4, (3, refl, refl, refl, (refl, refl)), refl), (refl, refl)), refl), (refl, refl)),
    ),
    (refl, refl),
  );
  ends = (refl, refl);
  apart = (9, 10, refl, (8, refl, refl, refl, (refl, refl)), (refl, refl), refl);
  no_more = refl;
  short = omega arith;
  modes = refl;
}

-- the fault is that of the routine text at byte 10
abbrev newer_kept : Kept
newer_kept = record {
  journal = record {
    entries = entry (act.Enter 1) ∷ entry (act.Bind 1 0) ∷ entry (act.Look 1 0) ∷ entry act.Turn ∷ entry (act.Enter 2) ∷ entry (act.Make 0 1) ∷ [];
    text = [];
  };
  cells = held.Plain value.Unset ∷ [];
  outer = Some (the_routine 0) ∷ [];
  end = ends.Fault fault.Scope 10 0;
}

abbrev newer_state : State
newer_state = record { at = 9; stack = stack_of []; chain = newest 2 ∷ newest 1 ∷ newest 0 ∷ []; stance = Failed fault.Scope }

abbrev newer_world : World
newer_world = record {
  store = record { cells = held.Plain value.Unset ∷ []; frames = standard_frame ∷ with_routine 0 ∷ record { outer = 1; scope = 2; slots = [] } ∷ []; text = []; strands = 1 };
  strands = newer_state ∷ [];
}

newer_ran : RunOf newer_code 100 newer_kept
unfolding does settle start resumed chain_of item_text applied called planned bounds_needed cells_of
newer_ran = record {
  world = newer_world;
  runs = (refl, (refl, (refl, (refl, (refl, (refl, refl))))));
  keeps = record { text = refl; cells = refl; outer = refl };
  within = omega arith;
  ends = run.fault {strand = 0} {st = newer_state} (not_ended newer_world newer_state refl (λ e. absurd (cc))) refl refl refl;
}

pub returned_newer : Permitted newer_program 100 newer_kept
returned_newer = law newer_program newer_code 100 newer_kept newer_translates newer_ran

-- ---- the routine and its parameters in any order

abbrev standard : List Environ
standard = newest 0 ∷ []

-- a routine with one parameter, whose body does nothing
abbrev quiet_program : Program
quiet_program = record {
  place = 0;
  tree = call 0 false (name 0 0 0 and_tree name 2 0 1 and_tree no_trees);
  apart = routine_text (record { place = 10; yields = false; tree = operation 12 (skip 0) serial no_trees }) ∷ [];
  modes = standard_shapes;
}

-- it is in the first slot, and a number in the second
abbrev frame_of_both : Frame
frame_of_both = record standard_frame { slots = Some (plain (value.Routine (record { text = 0; frame = 0; scope = 0 }))) ∷ Some (whole 5) ∷ [] }

abbrev of_both : Store
of_both = record { cells = []; frames = frame_of_both ∷ []; text = []; strands = 1 }

abbrev behind_call : Store
behind_call = record { cells = []; frames = frame_of_both ∷ record { outer = 0; scope = 1; slots = Some (whole 5) ∷ [] } ∷ []; text = []; strands = 1 }

-- the elaboration may look at the parameter first
parameter_first :
    Elaborates quiet_program (todo quiet_program.tree standard) of_both
    (entry (act.Look 0 1) ∷ entry (act.Look 0 0) ∷ entry act.Turn ∷ entry (act.Enter 1) ∷ entry (act.Bind 1 0) ∷ []) (yielded void) behind_call
unfolding does start resumed chain_of called
parameter_first =
    silently here refl
    (silently (within (beside (in_this here))) refl
    (by_act (within (beside (in_this here))) (by_rule refl) refl
    (silently (within (beside (in_this here))) refl
    (silently (within (in_this here)) refl
    (by_act (within (in_this here)) (by_rule refl) refl
    (silently (within (in_this here)) refl
    (by_act here (by_rule refl) refl
    (by_act here (by_rule refl) refl
    (by_act here (by_rule refl) refl
    (silently here refl
    (silently (within (in_this here)) refl
    (silently (within (in_this here)) refl
    (silently here refl stays)))))))))))))
