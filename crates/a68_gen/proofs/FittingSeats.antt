-- Trees fit with the numbers of their jumps.
use Rattle.std.proofs.Common.{◌≡◌, ℕ, Bool, true, false, List, sym, subst, None, Some}
use Rattle.std.specs.Prelude.{IsTrue}
use Rattle.std.specs.declared.option.Option.{Option}
use Rattle.a68_code.specs.Flow.{takes}
use Rattle.a68_code.specs.Operands.{is_well_made}
use Rattle.a68_constructs.proofs.Lying.{count_lies}
use Rattle.a68_elab.specs.Programs.{Mark, Seat, all_seated, further_in, in_clause, jump_by, mark_of, misfit, one_if, over, seated, specs_seated, steps_seated, test_seated}
use Rattle.a68_elab.specs.Trees.{Tree, Trees, operation, together, phrases, labelled, jump, range, choice, cases, conformity, loop, call, parallel, meaningless, no_trees, ◌and_tree◌, count, Steps, last_step, step, exit, labels_of, Specs, no_specs, spec, Test, no_test, while_in, deeper, depth_of}
use Rattle.a68_emit.specs.Stretches.{does_of}
use Rattle.a68_gen.proofs.Fitted.{AreFit, IsFit, SpecsAreFit, StepsAreFit, misfit-fits}
use Rattle.a68_gen.proofs.FittingChoices.{IsTestFit}
use Rattle.a68_modes.specs.declared.shape.Shape.{Shape}

module _ (ms : List Shape) (texts units : ℕ) where
  jump-seated : (place label depth : ℕ) (gives yields : Bool) (o : Option Mark) → gives ≡ yields → IsFit ms texts units gives (jump_by place label yields depth o)
  jump-seated place label depth gives yields None e = subst (λ (w : Bool). IsFit ms texts units w (misfit place yields)) (sym e) (misfit-fits ms texts units place yields)
  jump-seated place label depth gives yields (Some m) e = record { fits = e; operands = tt }

  mutual
    pub seated-fits : (s : Seat) (gives : Bool) (t : Tree) → IsFit ms texts units gives t → IsFit ms texts units gives (seated s t)
    seated-fits s gives (operation place op order parts) a =
        let x = all-seated s true true parts (record { fits = a.fits.2; operands = a.operands.1 }) in
        let many = sym (count_lies s true parts) in
        record {
          fits = (a.fits.0, subst (λ (n : ℕ). takes (does_of op n) ≡ n) many a.fits.1, x.fits);
          operands = (subst (λ (n : ℕ). IsTrue (is_well_made ms texts 0 (does_of op n))) many a.operands.0, x.operands);
        }
    seated-fits s gives (together parts) a = let x = all-seated s false false parts (record { fits = a.fits.1; operands = a.operands }) in record { fits = (a.fits.0, x.fits); operands = x.operands }
    seated-fits s gives (phrases place before final) a =
        let x = all-seated s false false before (record { fits = a.fits.0; operands = a.operands.0 }) in
        let y = seated-fits s gives final (record { fits = a.fits.1; operands = a.operands.1 }) in
        record { fits = (x.fits, y.fits); operands = (x.operands, y.operands) }
    seated-fits s gives (labelled place steps) a =
        let x = these-seated (in_clause (labels_of steps) s) gives steps (record { fits = a.fits; operands = a.operands }) in record { fits = x.fits; operands = x.operands }
    seated-fits s gives (jump place label frames height yields) a = jump-seated place label s.depth gives yields (mark_of label s.marks) a.fits
    seated-fits s gives (range place out slots yields within) a =
        let x = seated-fits (further_in 1 s) gives within (record { fits = a.fits.1; operands = a.operands }) in record { fits = (a.fits.0, x.fits); operands = x.operands }
    seated-fits s gives (choice place enquiry if_true if_false) a =
        let x = seated-fits s true enquiry (record { fits = a.fits.0; operands = a.operands.0 }) in
        let y = seated-fits s gives if_true (record { fits = a.fits.1; operands = a.operands.1 }) in
        let z = seated-fits s gives if_false (record { fits = a.fits.2; operands = a.operands.2 }) in
        record { fits = (x.fits, y.fits, z.fits); operands = (x.operands, y.operands, z.operands) }
    seated-fits s gives (cases place enquiry arms out) a =
        let x = seated-fits s true enquiry (record { fits = a.fits.0; operands = a.operands.0 }) in
        let y = all-seated s false gives arms (record { fits = a.fits.1; operands = a.operands.1 }) in
        let z = seated-fits s gives out (record { fits = a.fits.2; operands = a.operands.2 }) in
        record { fits = (x.fits, y.fits, z.fits); operands = (x.operands, y.operands, z.operands) }
    seated-fits s gives (conformity place union members yields enquiry specs out) a =
        let x = seated-fits s true enquiry (record { fits = a.fits.2; operands = a.operands.1 }) in
        let y = specs-seated s gives specs (record { fits = a.fits.3; operands = a.operands.2 }) in
        let z = seated-fits s gives out (record { fits = a.fits.4; operands = a.operands.3 }) in
        record { fits = (a.fits.0, a.fits.1, x.fits, y.fits, z.fits); operands = (a.operands.0, x.operands, y.operands, z.operands) }
    seated-fits s gives (loop place controls limited counts test body) a =
        let x = all-seated s true true controls (record { fits = a.fits.2; operands = a.operands.0 }) in
        let y = test-seated (further_in (one_if counts) (over true s)) test (record { fits = a.fits.3; operands = a.operands.1 }) in
        let z = seated-fits (further_in (depth_of counts test) (over true s)) false body (record { fits = a.fits.4; operands = a.operands.2 }) in
        let many : count (all_seated s true controls) ≡ 3 = subst (λ (n : ℕ). n ≡ 3) (sym (count_lies s true controls)) a.fits.1 in
        record { fits = (a.fits.0, many, x.fits, y.fits, z.fits); operands = (x.operands, y.operands, z.operands) }
    seated-fits s gives (call place yields no_trees) a = absurd a.fits
    seated-fits s gives (call place yields (primary and_tree parts)) a =
        let x = all-seated s true true (primary and_tree parts) (record { fits = a.fits.1; operands = a.operands }) in record { fits = (a.fits.0, x.fits); operands = x.operands }
    seated-fits s gives (parallel place numbers) a = a
    seated-fits s gives meaningless a = absurd a.fits

    all-seated : (s : Seat) (leave gives : Bool) (ts : Trees) → AreFit ms texts units gives ts → AreFit ms texts units gives (all_seated s leave ts)
    all-seated s leave gives no_trees a = a
    all-seated s leave gives (t and_tree ts) a =
        let x = seated-fits s gives t (record { fits = a.fits.0; operands = a.operands.0 }) in
        let y = all-seated (over leave s) leave gives ts (record { fits = a.fits.1; operands = a.operands.1 }) in
        record { fits = (x.fits, y.fits); operands = (x.operands, y.operands) }

    specs-seated : (s : Seat) (gives : Bool) (specs : Specs) → SpecsAreFit ms texts units gives specs → SpecsAreFit ms texts units gives (specs_seated s specs)
    specs-seated s gives no_specs a = a
    specs-seated s gives (spec takes tagged united part behind) a =
        let x = seated-fits (further_in (one_if tagged) s) gives part (record { fits = a.fits.0; operands = a.operands.0 }) in
        let y = specs-seated s gives behind (record { fits = a.fits.1; operands = a.operands.1 }) in
        record { fits = (x.fits, y.fits); operands = (x.operands, y.operands) }

    test-seated : (s : Seat) (test : Test) → IsTestFit ms texts units test → IsTestFit ms texts units (test_seated s test)
    test-seated s no_test a = a
    test-seated s (while_in at slots t) a =
        let x = seated-fits (further_in (deeper slots 0) s) true t (record { fits = a.fits; operands = a.operands }) in record { fits = x.fits; operands = x.operands }

    these-seated : (s : Seat) (gives : Bool) (steps : Steps) → StepsAreFit ms texts units gives steps → StepsAreFit ms texts units gives (steps_seated s steps)
    these-seated s gives (last_step labels t) a =
        let x = seated-fits s gives t (record { fits = a.fits; operands = a.operands }) in record { fits = x.fits; operands = x.operands }
    these-seated s gives (step labels t more) a =
        let x = seated-fits s false t (record { fits = a.fits.0; operands = a.operands.0 }) in
        let y = these-seated s gives more (record { fits = a.fits.1; operands = a.operands.1 }) in
        record { fits = (x.fits, y.fits); operands = (x.operands, y.operands) }
    these-seated s gives (exit labels t more) a =
        let x = seated-fits s gives t (record { fits = a.fits.0; operands = a.operands.0 }) in
        let y = these-seated s gives more (record { fits = a.fits.1; operands = a.operands.1 }) in
        record { fits = (x.fits, y.fits); operands = (x.operands, y.operands) }
