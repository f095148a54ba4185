-- The journals of a choice by a number, and of a loop without WHILE, computed by hand.
use Rattle.std.proofs.Common.{◌≡◌, ℕ, pos, true, false, List, [], ◌∷◌, refl, sym, subst, arith}
use Rattle.a68_acts.specs.Does.{does}
use Rattle.a68_acts.specs.Operations.{constant, skip, print, start, resumed, case_of, counter_of, has_turn, advanced}
use Rattle.a68_ops.specs.Printed.{item_text, whole_text}
use Rattle.a68_acts.specs.Store.{Store, opening_store, chain_of}
use Rattle.a68_acts.specs.declared.operation.Next.TheVariants as next
use Rattle.a68_acts.specs.declared.want.Want.TheVariants as want
use Rattle.a68_ops.specs.Applied.{applied}
use Rattle.a68_code.specs.declared.code.Code.{Code}
use Rattle.a68_code.specs.declared.does.Does.TheVariants as does
use Rattle.a68_elab.specs.Permitted.{Permitted}
use Rattle.a68_elab.specs.Trees.{Tree, operation, cases, loop, no_test, no_trees, ◌and_tree◌, collateral, serial, Program}
use Rattle.a68_emit.specs.Stretches.{Translates}
use Rattle.a68_modes.specs.Nodes.{standard_shapes}
use Rattle.a68_sim.proofs.Examples.{instr, entry, whole, digit_text, printed_digit, not_ended}
use Rattle.a68_sim.proofs.Whole.{law}
use Rattle.a68_strand.specs.Ends as run
use Rattle.a68_instructions.specs.Machine.{State, stack_of, settle}
use Rattle.a68_strand.specs.RunOf.{RunOf}
use Rattle.a68_exec.specs.Runs.{World, IfNext, acted}
use Rattle.a68_instructions.specs.declared.ask.Stance.TheVariants.{Idle, Asking, Failed}
use Rattle.a68_instructions.specs.declared.ask.Waiting.TheVariants as waiting
use Rattle.a68_values.specs.declared.act.Act.TheVariants as act
use Rattle.a68_values.specs.declared.act.FaultKind.TheVariants as fault
use Rattle.a68_values.specs.declared.kept.End.TheVariants as ends
use Rattle.a68_values.specs.declared.kept.Kept.{Kept}

abbrev number : (place n : ℕ) → Tree
number place n = operation place (constant (whole n)) serial no_trees

abbrev prints : (place n : ℕ) → Tree
prints place n = operation place print collateral (number place n and_tree no_trees)

-- CASE 2 IN print(1), print(2) OUT print(3) ESAC
abbrev program : Program
program = record { place = 0; tree = cases 0 (number 5 2) (prints 10 1 and_tree prints 20 2 and_tree no_trees) (prints 30 3); apart = []; modes = standard_shapes }

abbrev code : Code
code = record {
  list =
      instr 5 (does.Push (whole 2)) ∷ instr 0 (does.Case (2 ∷ 5 ∷ 8 ∷ [])) ∷ instr 10 (does.Push (whole 1)) ∷ instr 10 (does.Print 1) ∷ instr 0 (does.Jump 10)
      ∷ instr 20 (does.Push (whole 2)) ∷ instr 20 (does.Print 1) ∷ instr 0 (does.Jump 10) ∷ instr 30 (does.Push (whole 3)) ∷ instr 30 (does.Print 1) ∷ instr 0 does.End ∷ [];
  texts = [];
  units = [];
  modes = standard_shapes;
}

translates : Translates program code
translates = record {
  end = 10;
  last = 11;
  stands = (
    1,
    2,
    8,
    2 ∷ 5 ∷ [],
    (0, refl, refl, refl, (refl, refl)),
    (refl, refl),
    (
      4,
      5,
      refl,
      (3, refl, refl, (3, (2, refl, refl, refl, (refl, refl)), refl), (refl, refl)),
      (refl, refl),
      (7, 8, refl, (6, refl, refl, (6, (5, refl, refl, refl, (refl, refl)), refl), (refl, refl)), (refl, refl), refl),
    ),
    (9, refl, refl, (9, (8, refl, refl, refl, (refl, refl)), refl), (refl, refl)),
  );
  ends = (refl, refl);
  no_more = refl;
  short = omega arith;
  apart = refl;
  modes = refl;
}

-- the second part is chosen
abbrev text : List ℕ
text = digit_text 2

abbrev kept : Kept
kept = record { journal = record { entries = entry (act.Print 0 20) ∷ []; text = text }; cells = []; outer = []; end = ends.Done }

abbrev last_store : Store
last_store = record opening_store { text = text }

abbrev last_state : State
last_state = record { at = 10; stack = stack_of []; chain = record { frame = 0; scope = 0 } ∷ []; stance = Idle }

abbrev before_print : List ℕ → World
before_print printed = record {
  store = opening_store;
  strands = record last_state { at = 6; stance = Asking (want.Print printed) (waiting.Operation (next.Printing [])) } ∷ [];
}

printed_two : whole_text (pos 2) (pos 20) ≡ text
printed_two = printed_digit 2 (omega arith)

prints_two : IfNext (acted code (before_print (whole_text (pos 2) (pos 20))) 0) (act.Print 0 20) (λ behind. behind ≡ record { store = last_store; strands = last_state ∷ [] })
unfolding does settle start resumed chain_of item_text applied
prints_two =
    subst (λ (t : List ℕ). IfNext (acted code (before_print t) 0) (act.Print 0 20) (λ behind. behind ≡ record { store = last_store; strands = last_state ∷ [] }))
    (sym printed_two) (refl, refl)

ran : RunOf code 1 kept
unfolding does settle start resumed chain_of item_text case_of applied
ran = record {
  world = record { store = last_store; strands = last_state ∷ [] };
  runs = prints_two;
  keeps = record { text = refl; cells = refl; outer = refl };
  within = omega arith;
  ends = run.done (record { st = last_state; there = refl; idle = refl });
}

pub second_chosen : Permitted program 1 kept
second_chosen = law program code 1 kept translates ran

-- ---- TO 2 DO SKIP OD

abbrev turning : Program
turning = record {
  place = 0;
  tree = loop 0 (number 0 1 and_tree number 0 1 and_tree number 3 2 and_tree no_trees) true false no_test (operation 8 (skip 0) serial no_trees);
  apart = [];
  modes = standard_shapes;
}

abbrev turning_code : Code
turning_code = record {
  list =
      instr 0 (does.Push (whole 1)) ∷ instr 0 (does.Push (whole 1)) ∷ instr 3 (does.Push (whole 2)) ∷ instr 0 (does.Apply 26) ∷ instr 0 does.Counter ∷ instr 0 (does.Step 10)
      ∷ instr 0 does.Turn ∷ instr 8 (does.Skip 0) ∷ instr 0 (does.Advance 5) ∷ instr 0 (does.Jump 10) ∷ instr 0 does.Forget ∷ instr 0 does.End ∷ [];
  texts = [];
  units = [];
  modes = standard_shapes;
}

turning_translates : Translates turning turning_code
turning_translates = record {
  end = 11;
  last = 12;
  stands = (
    3,
    4,
    5,
    6,
    7,
    7,
    7,
    8,
    8,
    9,
    10,
    10,
    refl,
    refl,
    (1, (0, refl, refl, refl, (refl, refl)), (2, (1, refl, refl, refl, (refl, refl)), (3, (2, refl, refl, refl, (refl, refl)), refl))),
    (refl, refl),
    (refl, refl),
    (refl, refl),
    (refl, refl),
    refl,
    refl,
    (7, refl, refl, refl, (refl, refl)),
    refl,
    (refl, refl),
    (refl, refl),
    refl,
    (refl, refl),
  );
  ends = (refl, refl);
  no_more = refl;
  short = omega arith;
  apart = refl;
  modes = refl;
}

abbrev turning_kept : Kept
turning_kept = record { journal = record { entries = entry act.Turn ∷ entry act.Turn ∷ []; text = [] }; cells = []; outer = []; end = ends.Done }

abbrev turned : State
turned = record { at = 11; stack = stack_of []; chain = record { frame = 0; scope = 0 } ∷ []; stance = Idle }

turning_ran : RunOf turning_code 9 turning_kept
unfolding does settle start resumed chain_of item_text counter_of has_turn advanced applied
turning_ran = record {
  world = record { store = opening_store; strands = turned ∷ [] };
  runs = (refl, (refl, refl));
  keeps = record { text = refl; cells = refl; outer = refl };
  within = omega arith;
  ends = run.done (record { st = turned; there = refl; idle = refl });
}

pub turned_without_while : Permitted turning 9 turning_kept
turned_without_while = law turning turning_code 9 turning_kept turning_translates turning_ran

-- ---- FROM SKIP TO SKIP DO SKIP OD: TO is looked at first, and the loop meets the fault before it counts

abbrev unlimited : Program
unlimited = record {
  place = 0;
  tree =
      loop 0 (operation 5 (skip 1) serial no_trees and_tree number 0 1 and_tree operation 13 (skip 1) serial no_trees and_tree no_trees) true false no_test (operation 21 (skip 0) serial no_trees);
  apart = [];
  modes = standard_shapes;
}

abbrev unlimited_code : Code
unlimited_code = record {
  list =
      instr 5 (does.Skip 1) ∷ instr 0 (does.Push (whole 1)) ∷ instr 13 (does.Skip 1) ∷ instr 0 (does.Apply 26) ∷ instr 0 does.Counter ∷ instr 0 (does.Step 10)
      ∷ instr 0 does.Turn ∷ instr 21 (does.Skip 0) ∷ instr 0 (does.Advance 5) ∷ instr 0 (does.Jump 10) ∷ instr 0 does.Forget ∷ instr 0 does.End ∷ [];
  texts = [];
  units = [];
  modes = standard_shapes;
}

unlimited_translates : Translates unlimited unlimited_code
unlimited_translates = record {
  end = 11;
  last = 12;
  stands = (
    3,
    4,
    5,
    6,
    7,
    7,
    7,
    8,
    8,
    9,
    10,
    10,
    refl,
    refl,
    (1, (0, refl, refl, refl, (refl, refl)), (2, (1, refl, refl, refl, (refl, refl)), (3, (2, refl, refl, refl, (refl, refl)), refl))),
    (refl, refl),
    (refl, refl),
    (refl, refl),
    (refl, refl),
    refl,
    refl,
    (7, refl, refl, refl, (refl, refl)),
    refl,
    (refl, refl),
    (refl, refl),
    refl,
    (refl, refl),
  );
  ends = (refl, refl);
  no_more = refl;
  short = omega arith;
  apart = refl;
  modes = refl;
}

abbrev unlimited_kept : Kept
unlimited_kept = record { journal = record { entries = []; text = [] }; cells = []; outer = []; end = ends.Fault fault.Unset 0 0 }

-- the strand stands at the limit's own step
abbrev stopped : State
stopped = record { at = 3; stack = stack_of []; chain = record { frame = 0; scope = 0 } ∷ []; stance = Failed fault.Unset }

unlimited_ran : RunOf unlimited_code 9 unlimited_kept
unfolding does settle start resumed chain_of item_text counter_of has_turn advanced applied
unlimited_ran = record {
  world = record { store = opening_store; strands = stopped ∷ [] };
  runs = refl;
  keeps = record { text = refl; cells = refl; outer = refl };
  within = omega arith;
  ends = run.fault {strand = 0} {st = stopped} (not_ended (record { store = opening_store; strands = stopped ∷ [] }) stopped refl (λ e. absurd (cc))) refl refl refl;
}

pub limit_first : Permitted unlimited 9 unlimited_kept
limit_first = law unlimited unlimited_code 9 unlimited_kept unlimited_translates unlimited_ran
