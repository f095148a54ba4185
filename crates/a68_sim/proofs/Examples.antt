-- Journals that were computed by hand.
use Rattle.std.proofs.Common.{◌≡◌, ◌≢◌, ◌<◌, ◌+◌, ℕ, pos, List, [], ◌∷◌, Some, None, refl, sym, ap, ◌∙◌, subst, arith, false, le-ltb}
use Rattle.std.proofs.lemmas.Fmt.{decimal_digit}
use Rattle.std.proofs.lemmas.Option.{same_Some}
use Rattle.std.specs.Prelude.{◌++◌, replicate, slice_get, int_lt}
use Rattle.std.specs.declared.option.Option.{Option}
use Rattle.a68_acts.specs.Does.{did, does}
use Rattle.a68_acts.specs.Operations.{tag, apply, start, resumed}
use Rattle.a68_layout.specs.Rooms.{bounds_needed, planned}
use Rattle.a68_layout.specs.Widths.{cells_of}
use Rattle.a68_ops.specs.Printed.{item_text, set_right, whole_text}
use Rattle.a68_acts.specs.Store.{Store, opening_store, standard_frame, chain_of}
use Rattle.a68_acts.specs.declared.operation.Next.TheVariants as next
use Rattle.a68_acts.specs.declared.want.Want.{Want}
use Rattle.a68_acts.specs.declared.want.Want.TheVariants as want
use Rattle.a68_ops.specs.Applied.{applied}
use Rattle.a68_code.specs.declared.code.Code.{Code}
use Rattle.a68_code.specs.declared.code.Instr.{Instr}
use Rattle.a68_code.specs.declared.does.Does.{Does}
use Rattle.a68_code.specs.declared.does.Does.TheVariants as does
use Rattle.a68_elab.specs.Made.{most_bounds}
use Rattle.a68_elab.specs.Programs.{program_of, tree_in}
use Rattle.a68_elab.specs.Runs.{outcome}
use Rattle.a68_elab.specs.Elaborations.{Elaborates, stays, silently, by_act}
use Rattle.a68_elab.specs.Permitted.{Permitted}
use Rattle.a68_elab.specs.Positions.{here, within, in_this, beside, by_rule}
use Rattle.a68_elab.specs.Rows.{Then, acts}
use Rattle.a68_elab.specs.Terms.{Term, todo, yielded}
use Rattle.a68_elab.specs.Trees.{Tree, operation, no_trees, ◌and_tree◌, collateral, Program}
use Rattle.a68_emit.specs.Stretches.{Translates}
use Rattle.a68_modes.specs.Nodes.{standard_shapes}
use Rattle.a68_sim.proofs.Texts.{five_printed, unset_printed, newer_yielded}
use Rattle.a68_sim.proofs.Whole.{law}
use Rattle.a68_strand.specs.Ends as run
use Rattle.a68_instructions.specs.Machine.{State, stack_of, settle}
use Rattle.a68_strand.specs.RunOf.{RunOf}
use Rattle.a68_exec.specs.Runs.{World, IfNext, acted}
use Rattle.a68_instructions.specs.declared.ask.Stance.TheVariants.{Idle, Asking, Failed}
use Rattle.a68_instructions.specs.declared.ask.Waiting.TheVariants as waiting
use Rattle.a68_values.specs.Content.{Content, plain}
use Rattle.a68_values.specs.declared.act.Act.{Act}
use Rattle.a68_values.specs.declared.act.Act.TheVariants as act
use Rattle.a68_values.specs.declared.act.Entry.{Entry}
use Rattle.a68_values.specs.declared.act.FaultKind.TheVariants as fault
use Rattle.a68_values.specs.declared.chain.Environ.{Environ}
use Rattle.a68_values.specs.declared.held.Held.TheVariants as held
use Rattle.a68_values.specs.declared.kept.End.TheVariants as ends
use Rattle.a68_values.specs.declared.kept.Kept.{Kept}
use Rattle.a68_values.specs.declared.plain.Plain.TheVariants as value

abbrev pub instr : ℕ → Does → Instr
instr place d = record { place = place; does = d }

abbrev pub entry : Act → Entry
entry a = record { strand = 0; act = a }

abbrev pub whole : ℕ → Content
whole n = plain (value.Int (pos n))

abbrev five : Content
five = whole 5

-- a number of one digit as it is printed
abbrev pub digit_text : ℕ → List ℕ
digit_text d = replicate 18 32 ++ 43 ∷ (48 + d) ∷ []

pub printed_digit : (d : ℕ) → d < 10 → whole_text (pos d) (pos 20) ≡ digit_text d
unfolding whole_text
printed_digit d less = rw (not_below d) (ap (λ s. set_right 20 (43 ∷ s)) (decimal_digit d less))
  where
    not_below : (n : ℕ) → int_lt (pos n) (pos 0) ≡ false
    not_below n = le-ltb n 0 (omega arith)

-- a strand that is about something has not ended
pub not_ended : (w : World) (st : State) → slice_get w.strands 0 ≡ Some st → (st.stance ≡ Idle → ⊥) → run.HasEnded w 0 → ⊥
not_ended w st there about h = about (ap (λ (x : State). x.stance) (same_Some st h.st (sym there ∙ h.there)) ∙ h.idle)

-- BEGIN INT x := 5; print(x) END
abbrev program : Program
program = program_of five_printed

abbrev code : Code
code = record {
  list =
      instr 6 (does.Enter 1) ∷ instr 6 (does.Make 1 0) ∷ instr 15 (does.Push five) ∷ instr 6 (does.Store 1) ∷ instr 6 (does.Bind 0)
      ∷ instr 24 (does.Tag 0 0) ∷ instr 24 (does.Deref 1) ∷ instr 18 (does.Print 1) ∷ instr 6 (does.Leave 0) ∷ instr 0 does.End ∷ [];
  texts = [];
  units = [];
  modes = standard_shapes;
}

translates : Translates program code
unfolding tree_in outcome bounds_needed most_bounds
translates = record {
  end = 9;
  last = 10;
  stands = (
    1,
    8,
    refl,
    (refl, refl),
    (
      5,
      (5, (4, refl, refl, (4, (3, refl, refl, (2, (1, refl, refl, refl, (refl, refl)), (3, (2, refl, refl, refl, (refl, refl)), refl)), (refl, refl)), refl), (refl, refl)), refl),
      (7, refl, refl, (7, (6, refl, refl, (6, (5, refl, refl, refl, (refl, refl)), refl), (refl, refl)), refl), (refl, refl)),
    ),
    (refl, refl),
  );
  ends = (refl, refl);
  no_more = refl;
  short = omega arith;
  apart = refl;
  modes = refl;
}

abbrev text : List ℕ
text = digit_text 5

abbrev kept : Kept
kept = record {
  journal = record {
    entries =
        entry (act.Enter 1) ∷ entry (act.Make 0 1) ∷ entry (act.Assign 0) ∷ entry (act.Bind 1 0) ∷ entry (act.Look 1 0) ∷ entry (act.Fetch 0) ∷ entry (act.Print 0 20) ∷ [];
    text = text;
  };
  cells = held.Plain (value.Int (pos 5)) ∷ [];
  outer = Some (plain (value.Name (record { cell = 0; scope = 1 }))) ∷ [];
  end = ends.Done;
}

abbrev last_store : Store
last_store = record {
  cells = held.Plain (value.Int (pos 5)) ∷ [];
  frames = standard_frame ∷ record { outer = 0; scope = 1; slots = Some (plain (value.Name (record { cell = 0; scope = 1 }))) ∷ [] } ∷ [];
  text = text;
  strands = 1;
}

abbrev last_state : State
last_state = record { at = 9; stack = stack_of []; chain = record { frame = 0; scope = 0 } ∷ []; stance = Idle }

-- the world in which a text is about to be printed
abbrev before_print : List ℕ → World
before_print printed = record {
  store = record last_store { text = [] };
  strands = record last_state { at = 7; chain = record { frame = 1; scope = 1 } ∷ record { frame = 0; scope = 0 } ∷ []; stance = Asking (want.Print printed) (waiting.Operation (next.Printing [])) } ∷ [];
}

printed_five : whole_text (pos 5) (pos 20) ≡ text
printed_five = printed_digit 5 (omega arith)

prints_five : IfNext (acted code (before_print (whole_text (pos 5) (pos 20))) 0) (act.Print 0 20) (λ behind. behind ≡ record { store = last_store; strands = last_state ∷ [] })
unfolding does settle start resumed chain_of item_text applied
prints_five =
    subst (λ (t : List ℕ). IfNext (acted code (before_print t) 0) (act.Print 0 20) (λ behind. behind ≡ record { store = last_store; strands = last_state ∷ [] }))
    (sym printed_five) (refl, refl)

ran : RunOf code 7 kept
unfolding does settle start resumed chain_of item_text applied planned bounds_needed cells_of
ran = record {
  world = record { store = last_store; strands = last_state ∷ [] };
  runs = (refl, (refl, (refl, (refl, (refl, (refl, prints_five))))));
  keeps = record { text = refl; cells = refl; outer = refl };
  within = omega arith;
  ends = run.done (record { st = last_state; there = refl; idle = refl });
}

-- the seven entries of the run are permitted
pub seven : Permitted program 7 kept
seven = law program code 7 kept translates ran

-- ---- the same with less fuel

abbrev kept_at_six : Kept
kept_at_six = record {
  journal = record {
    entries = entry (act.Enter 1) ∷ entry (act.Make 0 1) ∷ entry (act.Assign 0) ∷ entry (act.Bind 1 0) ∷ entry (act.Look 1 0) ∷ entry (act.Fetch 0) ∷ [];
    text = [];
  };
  cells = held.Plain (value.Int (pos 5)) ∷ [];
  outer = Some (plain (value.Name (record { cell = 0; scope = 1 }))) ∷ [];
  end = ends.Spent;
}

can_print : acted code (before_print (whole_text (pos 5) (pos 20))) 0 ≢ None
unfolding does settle start resumed chain_of item_text applied
can_print = subst (λ (t : List ℕ). acted code (before_print t) 0 ≢ None) (sym printed_five) (λ e. absurd (cc))

ran_at_six : RunOf code 6 kept_at_six
unfolding does settle start resumed chain_of item_text applied planned bounds_needed cells_of
ran_at_six = record {
  world = before_print (whole_text (pos 5) (pos 20));
  runs = (refl, (refl, (refl, (refl, (refl, (refl, refl))))));
  keeps = record { text = refl; cells = refl; outer = refl };
  within = omega arith;
  ends = run.spent 0 (not_ended (before_print (whole_text (pos 5) (pos 20))) _ refl (λ e. absurd (cc))) refl can_print;
}

pub six : Permitted program 6 kept_at_six
six = law program code 6 kept_at_six translates ran_at_six

-- ---- BEGIN INT x; print(x) END

abbrev unset_program : Program
unset_program = program_of unset_printed

abbrev unset_code : Code
unset_code = record {
  list =
      instr 6 (does.Enter 1) ∷ instr 6 (does.Make 1 0) ∷ instr 6 (does.Bind 0) ∷ instr 19 (does.Tag 0 0) ∷ instr 19 (does.Deref 1)
      ∷ instr 13 (does.Print 1) ∷ instr 6 (does.Leave 0) ∷ instr 0 does.End ∷ [];
  texts = [];
  units = [];
  modes = standard_shapes;
}

unset_translates : Translates unset_program unset_code
unfolding tree_in outcome bounds_needed most_bounds
unset_translates = record {
  end = 7;
  last = 8;
  stands = (
    1,
    6,
    refl,
    (refl, refl),
    (
      3,
      (3, (2, refl, refl, (2, (1, refl, refl, refl, (refl, refl)), refl), (refl, refl)), refl),
      (5, refl, refl, (5, (4, refl, refl, (4, (3, refl, refl, refl, (refl, refl)), refl), (refl, refl)), refl), (refl, refl)),
    ),
    (refl, refl),
  );
  ends = (refl, refl);
  no_more = refl;
  short = omega arith;
  apart = refl;
  modes = refl;
}

-- the value that is printed is not there: the fault is that of the call at byte 13
abbrev kept_unset : Kept
kept_unset = record {
  journal = record {
    entries = entry (act.Enter 1) ∷ entry (act.Make 0 1) ∷ entry (act.Bind 1 0) ∷ entry (act.Look 1 0) ∷ entry (act.Fetch 0) ∷ [];
    text = [];
  };
  cells = held.Plain value.Unset ∷ [];
  outer = Some (plain (value.Name (record { cell = 0; scope = 1 }))) ∷ [];
  end = ends.Fault fault.Unset 13 0;
}

abbrev unset_state : State
unset_state = record { at = 5; stack = stack_of []; chain = record { frame = 1; scope = 1 } ∷ record { frame = 0; scope = 0 } ∷ []; stance = Failed fault.Unset }

abbrev unset_world : World
unset_world = record {
  store = record {
    cells = held.Plain value.Unset ∷ [];
    frames = standard_frame ∷ record { outer = 0; scope = 1; slots = Some (plain (value.Name (record { cell = 0; scope = 1 }))) ∷ [] } ∷ [];
    text = [];
    strands = 1;
  };
  strands = unset_state ∷ [];
}

unset_ran : RunOf unset_code 100 kept_unset
unfolding does settle start resumed chain_of item_text applied planned bounds_needed cells_of
unset_ran = record {
  world = unset_world;
  runs = (refl, (refl, (refl, (refl, (refl, refl)))));
  keeps = record { text = refl; cells = refl; outer = refl };
  within = omega arith;
  ends = run.fault {strand = 0} {st = unset_state} (not_ended unset_world unset_state refl (λ e. absurd (cc))) refl refl refl;
}

pub unset : Permitted unset_program 100 kept_unset
unset = law unset_program unset_code 100 kept_unset unset_translates unset_ran

-- ---- BEGIN (INT x; x) END, where the clause yields a name that would outlive its frame

abbrev newer_program : Program
newer_program = program_of newer_yielded

abbrev newer_code : Code
newer_code = record {
  list =
      instr 7 (does.Enter 1) ∷ instr 7 (does.Make 1 0) ∷ instr 7 (does.Bind 0) ∷ instr 14 (does.Tag 0 0) ∷ instr 7 (does.Leave 1)
      ∷ instr 6 does.Drop ∷ instr 0 does.End ∷ [];
  texts = [];
  units = [];
  modes = standard_shapes;
}

newer_translates : Translates newer_program newer_code
unfolding tree_in outcome bounds_needed most_bounds
newer_translates = record {
  end = 6;
  last = 7;
  stands = (
    0,
    refl,
    (
      5,
      refl,
      refl,
      (
        5,
        (1, 4, refl, (refl, refl), (3, (3, (2, refl, refl, (2, (1, refl, refl, refl, (refl, refl)), refl), (refl, refl)), refl), (3, refl, refl, refl, (refl, refl))), (refl, refl)),
        refl,
      ),
      (refl, refl),
    ),
  );
  ends = (refl, refl);
  no_more = refl;
  short = omega arith;
  apart = refl;
  modes = refl;
}

-- the fault is that of the serial clause at byte 7
abbrev kept_newer : Kept
kept_newer = record {
  journal = record { entries = entry (act.Enter 1) ∷ entry (act.Make 0 1) ∷ entry (act.Bind 1 0) ∷ entry (act.Look 1 0) ∷ []; text = [] };
  cells = held.Plain value.Unset ∷ [];
  outer = Some (plain (value.Name (record { cell = 0; scope = 1 }))) ∷ [];
  end = ends.Fault fault.Scope 7 0;
}

abbrev newer_state : State
newer_state = record { at = 4; stack = stack_of []; chain = record { frame = 1; scope = 1 } ∷ record { frame = 0; scope = 0 } ∷ []; stance = Failed fault.Scope }

abbrev newer_world : World
newer_world = record {
  store = record {
    cells = held.Plain value.Unset ∷ [];
    frames = standard_frame ∷ record { outer = 0; scope = 1; slots = Some (plain (value.Name (record { cell = 0; scope = 1 }))) ∷ [] } ∷ [];
    text = [];
    strands = 1;
  };
  strands = newer_state ∷ [];
}

newer_ran : RunOf newer_code 100 kept_newer
unfolding does settle start resumed chain_of item_text applied planned bounds_needed cells_of
newer_ran = record {
  world = newer_world;
  runs = (refl, (refl, (refl, (refl, refl))));
  keeps = record { text = refl; cells = refl; outer = refl };
  within = omega arith;
  ends = run.fault {strand = 0} {st = newer_state} (not_ended newer_world newer_state refl (λ e. absurd (cc))) refl refl refl;
}

pub newer : Permitted newer_program 100 kept_newer
newer = law newer_program newer_code 100 kept_newer newer_translates newer_ran

-- ---- operands in any order

-- a formula of two tags, in a frame that has them
abbrev standard : List Environ
standard = record { frame = 0; scope = 0 } ∷ []

abbrev of_both : Store
of_both = record { cells = []; frames = record standard_frame { slots = Some five ∷ Some five ∷ [] } ∷ []; text = []; strands = 1 }

abbrev operand : ℕ → Tree
operand slot = operation slot (tag 0 slot) collateral no_trees

abbrev sum : Tree
sum = operation 2 (apply 15) collateral (operand 0 and_tree operand 1 and_tree no_trees)

-- the elaboration may look at the right operand first
right_first : Elaborates program (todo sum standard) of_both (entry (act.Look 0 1) ∷ entry (act.Look 0 0) ∷ []) (yielded (plain (value.Int (pos 10)))) of_both
unfolding does start resumed applied
right_first =
    silently here refl
    (silently (within (beside (in_this here))) refl
    (by_act (within (beside (in_this here))) (by_rule refl) refl
    (silently (within (beside (in_this here))) refl
    (silently (within (in_this here)) refl
    (by_act (within (in_this here)) (by_rule refl) refl
    (silently (within (in_this here)) refl
    (silently here refl stays)))))))

-- ---- what is not permitted

-- the act that comes next
abbrev want_of : Option (Then Term) → Want
want_of (Some (acts place w next)) = w
want_of _ = want.Turn

-- no elaboration of the first program has another first act than that which makes its frame
frame_first : (t : Term) (s : Store) (e : Entry) (es : List Entry) → Elaborates program (todo program.tree standard) opening_store (e ∷ es) t s → e ≡ entry (act.Enter 1)
unfolding does chain_of tree_in outcome bounds_needed most_bounds
frame_first t s e es (silently here goes rest) = absurd (cc)
frame_first t s e es (by_act {w = w} {act = a} {r = r} {s' = s'} here (by_rule asks) done rest) =
    let same : want.Enter 0 1 1 ≡ w = ap want_of asks in
    let is : does (want.Enter 0 1 1) opening_store ≡ did a r s' = ap (λ (x : Want). does x opening_store) same ∙ done in
    let act_is : act.Enter 1 ≡ a = cc in
    ap entry (sym act_is)
