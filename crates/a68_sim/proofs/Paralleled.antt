-- The journals of parallel clauses, computed by hand.
use Rattle.std.proofs.Common.{◌≡◌, ◌+◌, ℕ, zero, suc, false, List, [], ◌∷◌, None, Some, refl, arith}
use Rattle.std.specs.Prelude.{pos}
use Rattle.a68_acts.specs.Does.{does}
use Rattle.a68_acts.specs.Operations.{apply, bind, tag, constant, skip, start, resumed}
use Rattle.a68_acts.specs.Store.{Store, opening_store, standard_frame, chain_of}
use Rattle.a68_acts.specs.declared.operation.Next.TheVariants as next
use Rattle.a68_acts.specs.declared.want.Want.TheVariants as want
use Rattle.a68_code.specs.declared.code.Code.{Code}
use Rattle.a68_code.specs.declared.does.Does.TheVariants as does
use Rattle.a68_elab.specs.Permitted.{Permitted}
use Rattle.a68_elab.specs.Trees.{ParallelUnit, operation, phrases, range, parallel, no_trees, ◌and_tree◌, collateral, serial, parallel_unit, Program}
use Rattle.a68_emit.specs.Stretches.{Translates}
use Rattle.a68_modes.specs.Nodes.{standard_shapes}
use Rattle.a68_ops.specs.Applied.{applied}
use Rattle.a68_sim.proofs.Examples.{instr, whole, not_ended}
use Rattle.a68_sim.proofs.Whole.{law}
use Rattle.a68_strand.specs.Ends as run
use Rattle.a68_strand.specs.Ends.{CanActNow, fault_of}
use Rattle.a68_instructions.specs.Machine.{State, stack_of, settle}
use Rattle.a68_strand.specs.RunOf.{RunOf}
use Rattle.a68_exec.specs.Runs.{World}
use Rattle.a68_instructions.specs.declared.ask.Stance.{Stance}
use Rattle.a68_instructions.specs.declared.ask.Stance.TheVariants.{Idle, Asking, Waits, Closed}
use Rattle.a68_instructions.specs.declared.ask.Waiting.TheVariants as waiting
use Rattle.a68_values.specs.Content.{plain}
use Rattle.a68_values.specs.declared.act.Act.{Act}
use Rattle.a68_values.specs.declared.act.Act.TheVariants as act
use Rattle.a68_values.specs.declared.act.Entry.{Entry}
use Rattle.a68_values.specs.declared.chain.Environ.{Environ}
use Rattle.a68_values.specs.declared.held.Held.TheVariants as held
use Rattle.a68_values.specs.declared.kept.End.{End}
use Rattle.a68_values.specs.declared.kept.End.TheVariants as ends
use Rattle.a68_values.specs.declared.kept.Kept.{Kept}
use Rattle.a68_values.specs.declared.plain.Plain.TheVariants as value

-- ---- (SEMA s = LEVEL 0; PAR (DOWN s, UP s)), where the second operator is that of a row: 35 is UP, 36 DOWN

-- an operator on the semaphore
abbrev on_s : (place row : ℕ) → ParallelUnit
on_s place row = record { place = 19; tree = operation place (apply row) collateral (operation (5 + place) (tag 0 0) serial no_trees and_tree no_trees) }

abbrev program : (row : ℕ) → Program
program row = record {
  place = 0;
  tree =
      range 1 1 1 false
      (phrases 1 (operation 6 (bind 0) serial (operation 10 (apply 34) collateral (operation 16 (constant (whole 0)) serial no_trees and_tree no_trees) and_tree no_trees) and_tree no_trees)
      (parallel 19 (0 ∷ 1 ∷ [])));
  apart = parallel_unit (on_s 24 36) ∷ parallel_unit (on_s 32 row) ∷ [];
  modes = standard_shapes;
}

abbrev code : (row : ℕ) → Code
code row = record {
  list =
      instr 1 (does.Enter 1) ∷ instr 16 (does.Push (whole 0)) ∷ instr 10 (does.Apply 34) ∷ instr 6 (does.Bind 0) ∷ instr 19 (does.Fork (7 ∷ 10 ∷ [])) ∷ instr 1 (does.Leave 0)
      ∷ instr 0 does.End ∷ instr 29 (does.Tag 0 0) ∷ instr 24 (does.Apply 36) ∷ instr 19 does.Close ∷ instr 37 (does.Tag 0 0) ∷ instr 32 (does.Apply row) ∷ instr 19 does.Close ∷ [];
  texts = [];
  units = 7 ∷ 10 ∷ [];
  modes = standard_shapes;
}

translates_up : Translates (program 35) (code 35)
translates_up = record {
  end = 6;
  last = 13;
  stands = (
    1,
    5,
    refl,
    (refl, refl),
    (
      4,
      (4, (3, refl, refl, (3, (2, refl, refl, (2, (1, refl, refl, refl, (refl, refl)), refl), (refl, refl)), refl), (refl, refl)), refl),
      (7 ∷ 10 ∷ [], refl, omega arith, refl, (refl, refl)),
    ),
    (refl, refl),
  );
  ends = (refl, refl);
  apart = (
    9,
    10,
    refl,
    (8, refl, refl, (8, (7, refl, refl, refl, (refl, refl)), refl), (refl, refl)),
    (refl, refl),
    (12, 13, refl, (11, refl, refl, (11, (10, refl, refl, refl, (refl, refl)), refl), (refl, refl)), (refl, refl), refl),
  );
  no_more = refl;
  short = omega arith;
  modes = refl;
}

translates_down : Translates (program 36) (code 36)
translates_down = record {
  end = 6;
  last = 13;
  stands = (
    1,
    5,
    refl,
    (refl, refl),
    (
      4,
      (4, (3, refl, refl, (3, (2, refl, refl, (2, (1, refl, refl, refl, (refl, refl)), refl), (refl, refl)), refl), (refl, refl)), refl),
      (7 ∷ 10 ∷ [], refl, omega arith, refl, (refl, refl)),
    ),
    (refl, refl),
  );
  ends = (refl, refl);
  apart = (
    9,
    10,
    refl,
    (8, refl, refl, (8, (7, refl, refl, refl, (refl, refl)), refl), (refl, refl)),
    (refl, refl),
    (12, 13, refl, (11, refl, refl, (11, (10, refl, refl, refl, (refl, refl)), refl), (refl, refl)), (refl, refl), refl),
  );
  no_more = refl;
  short = omega arith;
  modes = refl;
}

abbrev by : ℕ → Act → Entry
by strand a = record { strand = strand; act = a }

-- up to the Fork
abbrev before : List Entry → List Entry
before more = by 0 (act.Enter 1) ∷ by 0 (act.Make 0 1) ∷ by 0 (act.Assign 0) ∷ by 0 (act.Bind 1 0) ∷ by 0 (act.Fork 1 2) ∷ more

-- the count of the semaphore is 0, and there are three strands
abbrev last_store : Store
last_store = record {
  cells = held.Plain (value.Int (pos 0)) ∷ [];
  frames = standard_frame ∷ record { outer = 0; scope = 1; slots = Some (plain (value.Sema 0)) ∷ [] } ∷ [];
  text = [];
  strands = 3;
}

abbrev standard : List Environ
standard = record { frame = 0; scope = 0 } ∷ []

abbrev within : List Environ
within = record { frame = 1; scope = 1 } ∷ standard

abbrev bare : ℕ → List Environ → Stance → State
bare at chain stance = record { at = at; stack = stack_of []; chain = chain; stance = stance }

-- ---- the unit with UP comes between the two acts of the other one; behind the end of both the program goes on

abbrev raised_kept : Kept
raised_kept = record {
  journal = record {
    entries =
        before (by 1 (act.Look 1 0) ∷ by 2 (act.Look 1 0) ∷ by 2 (act.Up 0) ∷ by 1 (act.Down 0) ∷ by 1 act.Close ∷ by 2 act.Close ∷ []);
    text = [];
  };
  cells = held.Plain (value.Int (pos 0)) ∷ [];
  outer = Some (plain (value.Sema 0)) ∷ [];
  end = ends.Done;
}

abbrev raised_world : World
raised_world = record { store = last_store; strands = bare 6 standard Idle ∷ bare 9 within Closed ∷ bare 12 within Closed ∷ [] }

raised_ran : RunOf (code 35) 11 raised_kept
unfolding does settle start resumed chain_of applied
raised_ran = record {
  world = raised_world;
  runs = (refl, (refl, (refl, (refl, (refl, (refl, (refl, (refl, (refl, (refl, (refl, refl)))))))))));
  keeps = record { text = refl; cells = refl; outer = refl };
  within = omega arith;
  ends = run.done (record { st = bare 6 standard Idle; there = refl; idle = refl });
}

pub raised : Permitted (program 35) 11 raised_kept
raised = law (program 35) (code 35) 11 raised_kept translates_up raised_ran

-- ---- with DOWN in both units all are halted

abbrev halted_kept : Kept
halted_kept = record {
  journal = record { entries = before (by 2 (act.Look 1 0) ∷ by 1 (act.Look 1 0) ∷ []); text = [] };
  cells = held.Plain (value.Int (pos 0)) ∷ [];
  outer = Some (plain (value.Sema 0)) ∷ [];
  end = ends.AllHalted;
}

abbrev at_down : Stance
at_down = Asking (want.Down 0) (waiting.Operation next.Void)

abbrev halted_world : World
halted_world = record { store = last_store; strands = bare 4 within (Waits 1 2) ∷ bare 8 within at_down ∷ bare 11 within at_down ∷ [] }

none_acts : (n : ℕ) → CanActNow (code 36) halted_world n → ⊥
unfolding does
none_acts zero can = can refl
none_acts (suc zero) can = can refl
none_acts (suc (suc zero)) can = can refl
none_acts (suc (suc (suc n))) can = can refl

none_fails : (n : ℕ) → fault_of halted_world n ≡ None
unfolding does
none_fails zero = refl
none_fails (suc zero) = refl
none_fails (suc (suc zero)) = refl
none_fails (suc (suc (suc n))) = refl

halted_ran : RunOf (code 36) 100 halted_kept
unfolding does settle start resumed chain_of applied
halted_ran = record {
  world = halted_world;
  runs = (refl, (refl, (refl, (refl, (refl, (refl, (refl, refl)))))));
  keeps = record { text = refl; cells = refl; outer = refl };
  within = omega arith;
  ends = run.all_halted (not_ended halted_world (bare 4 within (Waits 1 2)) refl (λ e. absurd (cc))) none_acts none_fails;
}

pub all_halted : Permitted (program 36) 100 halted_kept
all_halted = law (program 36) (code 36) 100 halted_kept translates_down halted_ran

-- ---- PAR (PAR (SKIP, SKIP), SKIP): the inner clause has the strands 3 and 4

abbrev nothing : (place : ℕ) → ParallelUnit
nothing place = record { place = 5; tree = operation place (skip 0) serial no_trees }

abbrev nested_program : Program
nested_program = record {
  place = 0;
  tree = parallel 0 (0 ∷ 1 ∷ []);
  apart = parallel_unit (record { place = 0; tree = parallel 5 (2 ∷ 3 ∷ []) }) ∷ parallel_unit (nothing 23) ∷ parallel_unit (nothing 10) ∷ parallel_unit (nothing 16) ∷ [];
  modes = standard_shapes;
}

abbrev nested_code : Code
nested_code = record {
  list =
      instr 0 (does.Fork (2 ∷ 4 ∷ [])) ∷ instr 0 does.End ∷ instr 5 (does.Fork (6 ∷ 8 ∷ [])) ∷ instr 0 does.Close ∷ instr 23 (does.Skip 0) ∷ instr 5 does.Close
      ∷ instr 10 (does.Skip 0) ∷ instr 5 does.Close ∷ instr 16 (does.Skip 0) ∷ instr 5 does.Close ∷ [];
  texts = [];
  units = 2 ∷ 4 ∷ 6 ∷ 8 ∷ [];
  modes = standard_shapes;
}

nested_translates : Translates nested_program nested_code
nested_translates = record {
  end = 1;
  last = 10;
  stands = (2 ∷ 4 ∷ [], refl, omega arith, refl, (refl, refl));
  ends = (refl, refl);
  apart = (
    3,
    4,
    refl,
    (6 ∷ 8 ∷ [], refl, omega arith, refl, (refl, refl)),
    (refl, refl),
    (
      5,
      6,
      refl,
      (4, refl, refl, refl, (refl, refl)),
      (refl, refl),
      (7, 8, refl, (6, refl, refl, refl, (refl, refl)), (refl, refl), (9, 10, refl, (8, refl, refl, refl, (refl, refl)), (refl, refl), refl)),
    ),
  );
  no_more = refl;
  short = omega arith;
  modes = refl;
}

abbrev but_last : List Entry → List Entry
but_last more = by 0 (act.Fork 1 2) ∷ by 1 (act.Fork 3 2) ∷ by 4 act.Close ∷ by 2 act.Close ∷ by 3 act.Close ∷ more

abbrev nested_kept : List Entry → End → Kept
nested_kept more end = record { journal = record { entries = but_last more; text = [] }; cells = []; outer = []; end = end }

abbrev nested_world : (outer inner : State) → World
nested_world outer inner = record {
  store = record opening_store { strands = 5 };
  strands = outer ∷ inner ∷ bare 5 standard Closed ∷ bare 7 standard Closed ∷ bare 9 standard Closed ∷ [];
}

nested_ran : RunOf nested_code 6 (nested_kept (by 1 act.Close ∷ []) ends.Done)
unfolding does settle start resumed chain_of
nested_ran = record {
  world = nested_world (bare 1 standard Idle) (bare 3 standard Closed);
  runs = (refl, (refl, (refl, (refl, (refl, (refl, refl))))));
  keeps = record { text = refl; cells = refl; outer = refl };
  within = omega arith;
  ends = run.done (record { st = bare 1 standard Idle; there = refl; idle = refl });
}

pub nested : Permitted nested_program 6 (nested_kept (by 1 act.Close ∷ []) ends.Done)
nested = law nested_program nested_code 6 (nested_kept (by 1 act.Close ∷ []) ends.Done) nested_translates nested_ran

-- with less fuel the run ends before the last Close, which can be done

abbrev spent_world : World
spent_world = nested_world (bare 0 standard (Waits 1 2)) (bare 3 standard (Asking want.Close waiting.Close))

can_close : CanActNow nested_code spent_world 1
unfolding does
can_close e = absurd (cc)

spent_ran : RunOf nested_code 5 (nested_kept [] ends.Spent)
unfolding does settle start resumed chain_of
spent_ran = record {
  world = spent_world;
  runs = (refl, (refl, (refl, (refl, (refl, refl)))));
  keeps = record { text = refl; cells = refl; outer = refl };
  within = omega arith;
  ends = run.spent 1 (not_ended spent_world (bare 0 standard (Waits 1 2)) refl (λ e. absurd (cc))) refl can_close;
}

pub spent_within : Permitted nested_program 5 (nested_kept [] ends.Spent)
spent_within = law nested_program nested_code 5 (nested_kept [] ends.Spent) nested_translates spent_ran
