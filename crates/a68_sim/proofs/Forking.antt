-- What comes next in a parallel clause: its strands are made.
use Rattle.std.proofs.Common.{◌≡◌, ℕ, Bool, List, Some, refl, sym, ap, ◌∙◌}
use Rattle.std.proofs.lemmas.List.{length-map}
use Rattle.std.specs.Prelude.{length, slice_get}
use Rattle.a68_acts.specs.Store.{Store}
use Rattle.a68_acts.specs.declared.want.Reply.{Reply}
use Rattle.a68_acts.specs.declared.want.Reply.TheVariants as reply
use Rattle.a68_acts.specs.declared.want.Want.{Want}
use Rattle.a68_acts.specs.declared.want.Want.TheVariants as want
use Rattle.a68_code.specs.declared.code.Code.{Code}
use Rattle.a68_code.specs.declared.does.Does.{Does}
use Rattle.a68_code.specs.declared.does.Does.TheVariants as instr
use Rattle.a68_elab.specs.Positions.{by_rule}
use Rattle.a68_elab.specs.Rows.{acts, joins as joined_by}
use Rattle.a68_elab.specs.Terms.{forking, Term, part, no_terms}
use Rattle.a68_elab.specs.Trees.{Program, units_of}
use Rattle.a68_emit.specs.Stretches.{AreEntrances}
use Rattle.a68_sim.proofs.Asking.{idle, at_instr, place_is, is_inside, next_is}
use Rattle.a68_sim.proofs.Forks.{fork_tells, same_forks}
use Rattle.a68_sim.proofs.Landings.{Landing}
use Rattle.a68_sim.proofs.Jobs.{Done, row_done, on_bare}
use Rattle.a68_sim.proofs.Quiet.{still, open_here, Kept, joins, moves}
use Rattle.a68_sim.proofs.Relation.{push, Sim, yields}
use Rattle.a68_instructions.specs.Machine.{State, asks_for, told_by}
use Rattle.a68_instructions.specs.declared.ask.Stance.TheVariants.{Asking}
use Rattle.a68_instructions.specs.declared.ask.Waiting.TheVariants as waiting
use Rattle.a68_stack.specs.declared.stack.Item.{Item}
use Rattle.a68_values.specs.Content.{void}
use Rattle.a68_values.specs.declared.chain.Environ.{Environ}

-- as many entrances as units
as_many : (units numbers entrances : List ℕ) → AreEntrances units numbers entrances → length numbers ≡ length entrances
as_many units numbers entrances e = sym (length-map numbers (λ n. slice_get units n)) ∙ ap length e ∙ length-map entrances (λ x. Some x)

module _ (program : Program) (code : Code) (ls : List Landing) (b : ℕ) (base : List Item) (home : List Environ) (g : Bool) where
  pub forking_done : (p : ℕ) (numbers : List ℕ) (ch : List Environ) (k : ℕ) → Done program code ls (forking p numbers) ch k b base home g
  forking_done p numbers ch k acc tail =
      on_bare program code ls b base home g (forking p numbers) ch k acc base (moves (record {
        what = acts p w told;
        asks = at_instr code k p base ch d tail.4.0 refl ∙ ap (λ x. Some (acts x w told)) (place_is code k p d tail.4.0);
        follows = record {
          now = t;
          quiet = still;
          wants = want.Fork numbers;
          alike = same_forks numbers tail.2 (as_many code.units numbers tail.2 tail.3);
          next = joined_by (units_of program) p ch numbers;
          open_at = open_here program t _ (by_rule (row_done program (forking p numbers) ch acc));
          keeps = λ s s2 act r done. by_reply s r (fork_tells tail.2 s s2 act r done).0;
        };
        inside = is_inside code k p d tail.4.0;
        forth = tt;
      }))
    where
      w : Want
      w = want.Fork tail.2

      d : Does
      d = instr.Fork tail.2

      t : Term
      t = part (forking p numbers) ch (yields acc no_terms)

      told : Reply → State
      told = told_by code (asks_for (idle k base ch) base (Asking (want.Fork tail.2) (waiting.Fork (length tail.2)))) (waiting.Fork (length tail.2))

      by_reply : (s : Store) (r : Reply) → r ≡ reply.Base s.strands
          → Kept program code (Sim code ls b base home g) s (want.Fork tail.2) (λ u. u) (joined_by (units_of program) p ch numbers r)
          (told_by code (asks_for (idle k base ch) base (Asking (want.Fork tail.2) (waiting.Fork (length tail.2)))) (waiting.Fork (length tail.2)) r)
      by_reply s r is = joins (record {
        at = k;
        items = base;
        chain = ch;
        numbers = numbers;
        entrances = tail.2;
        forks = refl;
        begin = tail.3;
        units = ap (joined_by (units_of program) p ch numbers) is;
        state = ap (told_by code (asks_for (idle k base ch) base (Asking (want.Fork tail.2) (waiting.Fork (length tail.2)))) (waiting.Fork (length tail.2))) is;
        goes_on =
            ap (λ n. idle n base ch) (next_is k b tail.4.1) ∙ ap (λ c. idle b base c) tail.1
            ∙ ap (λ (x : Bool). idle b (push x void base) home) (sym tail.0);
      })
