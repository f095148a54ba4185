-- An operation, in the machine and in the elaboration.
use Rattle.std.proofs.Common.{◌≡◌, ℕ, suc, arith, Bool, true, false, List, [], Some, refl, sym, ap, ◌∙◌, inl}
use Rattle.std.specs.Option.{option_map_or}
use Rattle.std.specs.declared.option.Option.{Option}
use Rattle.a68_acts.specs.Operations.{Operation, constant, skip, nil, routine, tag, make, heap, bind, deref, store, apply, same, slice, display, vacuum, compose, select, unite, row_up, row_up_name, widen, drop, print, whole, leaves, resumed}
use Rattle.a68_acts.specs.declared.operation.Doing.{Doing}
use Rattle.a68_acts.specs.declared.operation.Doing.TheVariants as doing
use Rattle.a68_acts.specs.declared.operation.Next.{Next}
use Rattle.a68_acts.specs.declared.want.Reply.{Reply}
use Rattle.a68_acts.specs.declared.want.Want.{Want}
use Rattle.a68_code.specs.Flow.{takes}
use Rattle.a68_code.specs.declared.code.Code.{Code}
use Rattle.a68_code.specs.declared.does.Does.{Does}
use Rattle.a68_code.specs.declared.does.Does.TheVariants as does
use Rattle.a68_elab.specs.Positions.{here}
use Rattle.a68_elab.specs.Rows.{Then, acts, meets, row}
use Rattle.a68_elab.specs.Rows as rows
use Rattle.a68_elab.specs.Terms.{Term, resuming, part, no_terms}
use Rattle.a68_elab.specs.Trees.{Program}
use Rattle.a68_emit.specs.Stretches.{does_of}
use Rattle.a68_modes.specs.declared.shape.Shape.{Shape}
use Rattle.a68_sim.proofs.Asking.{idle, seen, ask, place_is, does_is, is_inside, next_is}
use Rattle.a68_sim.proofs.Landings.{Landing}
use Rattle.a68_heights.proofs.Forks.{resumed_forkless}
use Rattle.a68_heights.proofs.ForksOfSteps.{Forkless}
use Rattle.a68_sim.proofs.Quiet.{still, quietly, Progress, finishes, moves_on, moves_act, moves_fault}
use Rattle.a68_sim.proofs.Relation.{push, callers_push, OperationAt, Continues, Sim}
use Rattle.a68_instructions.specs.Machine.{State, exec, operation_of, controls, operates, follows, at_end, does_leave, leaves_at, asks_for, told_by}
use Rattle.a68_instructions.specs.declared.ask.Stance.TheVariants.{Asking}
use Rattle.a68_instructions.specs.declared.ask.Waiting.TheVariants as waiting
use Rattle.a68_stack.specs.Values.{callers}
use Rattle.a68_stack.specs.declared.stack.Item.{Item}
use Rattle.a68_values.specs.Content.{Content}
use Rattle.a68_values.specs.declared.chain.Environ.{Environ}

-- an instruction has the operation that it was made for
operation_is : (op : Operation) (n : ℕ) → operation_of (does_of op n) ≡ Some op
operation_is (constant v) n = refl
operation_is (skip m) n = refl
operation_is nil n = refl
operation_is (routine text distance) n = refl
operation_is (tag hops slot) n = refl
operation_is (make m bounds) n = refl
operation_is (heap m bounds) n = refl
operation_is (bind slot) n = refl
operation_is (deref m) n = refl
operation_is (store m) n = refl
operation_is (apply r) n = refl
operation_is (same negated) n = refl
operation_is (slice forms) n = refl
operation_is (display count mode) n = refl
operation_is (vacuum mode) n = refl
operation_is (compose fields) n = refl
operation_is (select m field) n = refl
operation_is (unite m) n = refl
operation_is (row_up mode) n = refl
operation_is (row_up_name mode) n = refl
operation_is widen n = refl
operation_is drop n = refl
operation_is print n = refl
operation_is whole n = refl

-- the instruction of an operation does it
pub exec_of : (code : Code) (op : Operation) (n : ℕ) (st : State) → takes (does_of op n) ≡ n → exec code (does_of op n) st ≡ operates code.modes st op n
exec_of code op n st e =
    ap (λ (o : Option Operation). option_map_or (λ found. operates code.modes st found (takes (does_of op n))) o (controls code.modes code.texts (does_of op n) st)) (operation_is op n)
    ∙ ap (operates code.modes st op) e

-- the end has no operation
is_no_end : (d : Does) (op : Operation) → operation_of d ≡ Some op → at_end (Some d) ≡ false
is_no_end does.End op e = absurd (cc)
is_no_end _ op e = refl

pub not_end : (op : Operation) (n : ℕ) → at_end (Some (does_of op n)) ≡ false
not_end op n = is_no_end (does_of op n) op (operation_is op n)

leaves_of : (modes : List Shape) (op : Operation) (n : ℕ) → does_leave modes (does_of op n) ≡ leaves modes op
leaves_of modes op n = ap (λ (o : Option Operation). option_map_or (leaves modes) o false) (operation_is op n)

-- what an operation does leaves the stack and the mode behind
follows_any : (st : State) (g : Bool) (items : List Item) (d : Doing) → follows st g items d ≡ follows (idle st.at [] st.chain) g items d
follows_any st true items (doing.Yields v) = refl
follows_any st false items (doing.Yields v) = refl
follows_any st g items (doing.Asks w next) = refl
follows_any st g items (doing.Meets why) = refl

yields_is : (st : State) (g : Bool) (items : List Item) (v : Content) → follows st g items (doing.Yields v) ≡ idle (suc st.at) (push g v items) st.chain
yields_is st true items v = refl
yields_is st false items v = refl

module _ (program : Program) (code : Code) (ls : List Landing) (same : code.modes ≡ program.modes) (b : ℕ) (base : List Item) (home : List Environ) (g : Bool) where
  continues : (p : ℕ) (op : Operation) (n k : ℕ) (ch : List Environ) → OperationAt code p op n k b g → ch ≡ home → (d : Doing) → Forkless d → Continues code p d ch k b home g
  continues p op n k ch at ec (doing.Yields v) plain = (next_is k b at.has.1, ec)
  continues p op n k ch at ec (doing.Asks w next) plain = (op, n, at, ec, plain)
  continues p op n k ch at ec (doing.Meets why) plain = (does_of op n, at.has.0)

  leaves_is : (p : ℕ) (op : Operation) (n k : ℕ) → OperationAt code p op n k b g → leaves_at code k ≡ g
  leaves_is p op n k at =
      ap (λ (o : Option Does). option_map_or (does_leave code.modes) o false) (does_is code k p (does_of op n) at.has.0)
      ∙ leaves_of code.modes op n ∙ sym at.gives

  -- an operation goes on with the reply to its act
  told_continues : (p : ℕ) (op : Operation) (n k : ℕ) (ch : List Environ) (items : List Item) (w : Want) (next : Next) → OperationAt code p op n k b g → ch ≡ home
      → (r : Reply) → Sim code ls b base home g (part (resuming p (resumed program.modes next r)) ch no_terms)
      (told_by code (asks_for (idle k items ch) base (Asking w (waiting.Operation next))) (waiting.Operation next) r)
  told_continues p op n k ch items w next at ec r =
      let st = asks_for (idle k items ch) base (Asking w (waiting.Operation next)) in (
        [],
        k,
        ap (λ (x : Bool). follows st x base (resumed code.modes next r)) (leaves_is p op n k at) ∙ follows_any st g base (resumed code.modes next r)
            ∙ ap (λ (modes : List Shape). follows (idle k [] ch) g base (resumed modes next r)) same,
        (refl, continues p op n k ch at ec (resumed program.modes next r) (resumed_forkless program.modes next r)),
      )

  -- an operation of which all parts have yielded
  pub operation_begins : (p : ℕ) (op : Operation) (n k : ℕ) (ch : List Environ) (items : List Item) (t : Term) (d : Doing) → OperationAt code p op n k b g → ch ≡ home
      → callers base ≡ callers items → row program t ≡ Some (rows.operates program.modes p ch d) → ask code (idle k items ch) ≡ Some (seen code (follows (idle k items ch) g base d))
      → Forkless d
      → Progress program code ls (Sim code ls b base home g) t (idle k items ch)
  operation_begins p op n k ch items t (doing.Yields v) at ec calls e a plain =
      moves_on program code ls _ t _ _ (idle (suc k) (push g v base) ch) e (a ∙ ap (λ s. Some (seen code s)) (yields_is (idle k items ch) g base v))
      (is_inside code k p (does_of op n) at.has.0) (inl (callers_push g v base ∙ calls, inl (omega arith)))
      (ap (λ x. idle x (push g v base) ch) (next_is k b at.has.1) ∙ ap (λ c. idle b (push g v base) c) ec)
  operation_begins p op n k ch items t (doing.Asks w next) at ec calls e a plain =
      let st = asks_for (idle k items ch) base (Asking w (waiting.Operation next)) in
      moves_act program code ls _ t _ p w _ (told_by code st (waiting.Operation next)) e
      (a ∙ ap (λ x. Some (acts x w (told_by code st (waiting.Operation next)))) (place_is code k p (does_of op n) at.has.0))
      (is_inside code k p (does_of op n) at.has.0) (λ r. told_continues p op n k ch items w next at ec r) plain
  operation_begins p op n k ch items t (doing.Meets why) at ec calls e a plain =
      moves_fault program code ls _ t _ why p e (a ∙ ap (λ x. Some (meets why x)) (place_is code k p (does_of op n) at.has.0))
      (is_inside code k p (does_of op n) at.has.0)

  -- an operation that is between two acts
  pub operation_goes_on : (p k : ℕ) (ch : List Environ) (d : Doing) → Continues code p d ch k b home g
      → Progress program code ls (Sim code ls b base home g) (part (resuming p d) ch no_terms) (follows (idle k [] ch) g base d)
  operation_goes_on p k ch (doing.Yields v) c =
      finishes v (quietly (λ own. here) refl still)
      (yields_is (idle k [] ch) g base v ∙ ap (λ x. idle x (push g v base) ch) c.0 ∙ ap (λ x. idle b (push g v base) x) c.1)
  operation_goes_on p k ch (doing.Asks w next) c =
      let st = asks_for (idle k [] ch) base (Asking w (waiting.Operation next)) in
      let has = c.2.has.0 in
      moves_act program code ls _ _ st p w _ (told_by code st (waiting.Operation next)) refl
      (ap (λ x. Some (acts x w (told_by code st (waiting.Operation next)))) (place_is code k p (does_of c.0 c.1) has))
      (is_inside code k p (does_of c.0 c.1) has) (λ r. told_continues p c.0 c.1 k ch [] w next c.2 c.3 r) c.4
  operation_goes_on p k ch (doing.Meets why) c =
      moves_fault program code ls _ _ _ why p refl (ap (λ x. Some (meets why x)) (place_is code k p c.0 c.1)) (is_inside code k p c.0 c.1)
