-- A stretch goes forward, as far as its tree tells.
use Rattle.std.proofs.Common.{◌≡◌, ◌≤◌, ◌+◌, ℕ, zero, suc, arith, Bool, true, false, List, [], ◌∷◌, length}
use Rattle.std.specs.Prelude.{if◌then◌else◌}
use Rattle.a68_code.specs.declared.code.Code.{Code}
use Rattle.a68_code.specs.declared.code.RoutineEntrance.{RoutineEntrance}
use Rattle.a68_elab.specs.Trees.{Tree, Trees, operation, together, phrases, labelled, jump, range, choice, cases, conformity, loop, call, parallel, meaningless, no_trees, ◌and_tree◌, count, Steps, last_step, step, exit, Specs, no_specs, spec, Test, no_test, while_in, deeper, depth_of, Apart, routine_text, parallel_unit}
use Rattle.a68_emit.proofs.Sizes.{apart_sizes}
use Rattle.a68_emit.specs.Listing.{indexes, limits, opens, size, sizes, spec_sizes, step_sizes, test_size}
use Rattle.a68_emit.specs.Stretches.{Limits, Indexes, EntersSlots, Leaves, Lie, above, deeper_by, in_clause, outermost, Stands, StandAll, StandApart, StandArms, StandSpecs, StandSteps, Tests}

ends_limit : (code : Code) (c : Bool) (p a b : ℕ) → Limits code c p a b → b ≡ a + length (limits c p)
ends_limit code false p a b s = omega arith
ends_limit code true p a b s = let x = s.1 in omega arith

ends_index : (code : Code) (c : Bool) (p a b : ℕ) → Indexes code c p a b → b ≡ a + length (indexes c p)
ends_index code false p a b s = omega arith
ends_index code true p a b s = let x = s.2.1 in let y = s.3.1 in let z = s.4.1 in omega arith

ends_open : (code : Code) (n p a b : ℕ) → EntersSlots code n p a b → b ≡ a + length (opens n p)
ends_open code zero p a b s = omega arith
ends_open code (suc n) p a b s = let x = s.1 in omega arith

ends_leaves : (code : Code) (p n a b : ℕ) → Leaves code p n a b → b ≡ a + n
ends_leaves code p zero a b s = omega arith
ends_leaves code p (suc n) a b s = let x = s.1.1 in let y = ends_leaves code p n s.0 b s.2 in omega arith

mutual
  pub ends : (code : Code) (lie : Lie) (g : Bool) (t : Tree) (a b : ℕ) → Stands code lie g t a b → b ≡ a + size t
  ends code lie g (operation p op o parts) a b s = let x = ends_all code lie true parts a s.0 s.3 in let y = s.4.1 in omega arith
  ends code lie g (together parts) a b s = ends_all code lie false parts a b s.1
  ends code lie g (phrases p before final) a b s =
      let x = ends_all code lie false before a s.0 s.1 in let y = ends code lie g final s.0 b s.2 in omega arith
  ends code lie g (labelled p steps) a b s = ends_steps code (in_clause steps s.0 lie) g p b steps s.0 a b s.1
  ends code lie g (jump p label frames height yields) a b s = let x = s.7.1 in omega arith
  ends code lie g (range p out n yields within) a b s =
      let y = ends code (deeper_by 1 lie) g within s.0 s.1 s.4 in let z = s.3.1 in let w = s.5.1 in omega arith
  ends code lie g (choice p enquiry if_true if_false) a b s =
      let x = ends code lie true enquiry a s.0 s.4 in let y = ends code lie g if_true s.1 s.2 s.6 in let z = ends code lie g if_false s.3 b s.8 in
      let v = s.5.1 in let w = s.7.1 in omega arith
  ends code lie g (cases p enquiry arms out) a b s =
      let x = ends code lie true enquiry a s.0 s.4 in let y = ends_arms code lie g p b arms s.3 s.1 s.2 s.6 in let z = ends code lie g out s.2 b s.7 in
      let v = s.5.1 in omega arith
  ends code lie g (conformity p union members yields enquiry specs out) a b s =
      let x = ends code lie true enquiry a s.0 s.6 in let y = ends_specs code lie g p b specs s.3 s.1 s.2 s.8 in let z = ends code lie g out s.2 b s.9 in
      let v = s.7.1 in omega arith
  ends code lie g (loop p controls limited counts test body) a b s =
      let x = ends_all code lie true controls a s.0 s.14 in let y = ends_limit code limited p s.0 s.1 s.15 in let i = ends_index code counts p s.4 s.5 s.19 in
      let o = ends_test code (deeper_by (if counts then 1 else 0) (above true lie)) test p s.10 s.5 s.6 s.20 in
      let z = ends code (deeper_by (depth_of counts test) (above true lie)) false body s.6 s.7 s.21 in
      let l = ends_leaves code p (depth_of counts test) s.7 s.8 s.22 in let r = ends_leaves code p (depth_of counts test) s.10 s.11 s.25 in
      let p1 = s.16.1 in let p2 = s.17.1 in let p3 = s.18.1 in let p4 = s.23.1 in let p5 = s.24.1 in let p6 = s.26.1 in omega arith
  ends code lie g (call p yields no_trees) a b s = absurd s
  ends code lie g (call p yields (primary and_tree parts)) a b s =
      let x = ends_all code lie true (primary and_tree parts) a s.0 s.2 in let y = s.3.1 in omega arith
  ends code lie g (parallel p numbers) a b s = let x = s.4.1 in omega arith
  ends code lie g meaningless a b s = absurd s

  ends_all : (code : Code) (lie : Lie) (g : Bool) (ts : Trees) (a b : ℕ) → StandAll code lie g ts a b → b ≡ a + sizes ts
  ends_all code lie g no_trees a b s = omega arith
  ends_all code lie g (t and_tree ts) a b s = let x = ends code lie g t a s.0 s.1 in let y = ends_all code (above g lie) g ts s.0 b s.2 in omega arith

  ends_arms : (code : Code) (lie : Lie) (g : Bool) (p e : ℕ) (ts : Trees) (ps : List ℕ) (a b : ℕ) → StandArms code lie g p e ts ps a b → b ≡ a + sizes ts + count ts
  ends_arms code lie g p e no_trees [] a b s = omega arith
  ends_arms code lie g p e no_trees (q ∷ ps) a b s = absurd s
  ends_arms code lie g p e (t and_tree ts) [] a b s = absurd s
  ends_arms code lie g p e (t and_tree ts) (q ∷ ps) a b s =
      let x = ends code lie g t a s.0 s.3 in let y = ends_arms code lie g p e ts ps s.1 b s.5 in let z = s.4.1 in omega arith

  ends_specs : (code : Code) (lie : Lie) (g : Bool) (p e : ℕ) (specs : Specs) (ps : List ℕ) (a b : ℕ) → StandSpecs code lie g p e specs ps a b → b ≡ a + spec_sizes specs
  ends_specs code lie g p e no_specs [] a b s = omega arith
  ends_specs code lie g p e no_specs (q ∷ ps) a b s = absurd s
  ends_specs code lie g p e (spec takes true united t behind) [] a b s = absurd s
  ends_specs code lie g p e (spec takes false united t behind) [] a b s = absurd s
  ends_specs code lie g p e (spec takes true united t behind) (q ∷ ps) a b s =
      let x = ends code (deeper_by 1 lie) g t s.1 s.2 s.8 in let y = ends_specs code lie g p e behind ps s.4 b s.11 in
      let i = s.6.1 in let j = s.7.1 in let v = s.9.1 in let w = s.10.1 in omega arith
  ends_specs code lie g p e (spec takes false united t behind) (q ∷ ps) a b s =
      let x = ends code lie g t s.0 s.1 s.5 in let y = ends_specs code lie g p e behind ps s.2 b s.7 in
      let v = s.4.1 in let w = s.6.1 in omega arith

  pub ends_steps : (code : Code) (lie : Lie) (g : Bool) (p e : ℕ) (steps : Steps) (ps : List ℕ) (a b : ℕ) → StandSteps code lie g p e steps ps a b → b ≡ a + step_sizes steps
  ends_steps code lie g p e (last_step ls t) [] a b s = absurd s
  ends_steps code lie g p e (step ls t more) [] a b s = absurd s
  ends_steps code lie g p e (exit ls t more) [] a b s = absurd s
  ends_steps code lie g p e (last_step ls t) (q ∷ (r ∷ ps)) a b s = absurd s
  ends_steps code lie g p e (last_step ls t) (q ∷ []) a b s = ends code lie g t a b s.1
  ends_steps code lie g p e (step ls t more) (q ∷ ps) a b s =
      let x = ends code lie false t a s.0 s.2 in let y = ends_steps code lie g p e more ps s.0 b s.3 in omega arith
  ends_steps code lie g p e (exit ls t more) (q ∷ ps) a b s =
      let x = ends code lie g t a s.0 s.3 in let y = ends_steps code lie g p e more ps s.1 b s.5 in let z = s.4.1 in omega arith

  ends_test : (code : Code) (lie : Lie) (t : Test) (p f a b : ℕ) → Tests code lie t p f a b → b ≡ a + test_size t
  ends_test code lie no_test p f a b s = omega arith
  ends_test code lie (while_in at slots t) p f a b s =
      let x = ends_open code slots at a s.0 s.2 in let y = ends code (deeper_by (deeper slots 0) lie) true t s.0 s.1 s.3 in let z = s.4.1 in omega arith

pub ends_apart : (code : Code) (xs : List Apart) (es : List RoutineEntrance) (us : List ℕ) (a b : ℕ) → StandApart code xs es us a b → b ≡ a + apart_sizes xs
ends_apart code [] [] [] a b s = omega arith
ends_apart code [] [] (u ∷ us) a b s = absurd s
ends_apart code [] (e ∷ es) us a b s = absurd s
ends_apart code (routine_text body ∷ more) [] us a b s = absurd s
ends_apart code (routine_text body ∷ more) (e ∷ es) us a b s =
    let x = ends code outermost body.yields body.tree a s.0 s.3 in let y = ends_apart code more es us s.1 b s.5 in let z = s.4.1 in omega arith
ends_apart code (parallel_unit unit ∷ more) es [] a b s = absurd s
ends_apart code (parallel_unit unit ∷ more) es (u ∷ us) a b s =
    let x = ends code outermost false unit.tree a s.0 s.3 in let y = ends_apart code more es us s.1 b s.5 in let z = s.4.1 in omega arith

-- ---- forward

pub forward_limit : (code : Code) (c : Bool) (p a b : ℕ) → Limits code c p a b → a ≤ b
forward_limit code c p a b s = let e = ends_limit code c p a b s in omega arith

pub forward_index : (code : Code) (c : Bool) (p a b : ℕ) → Indexes code c p a b → a ≤ b
forward_index code c p a b s = let e = ends_index code c p a b s in omega arith

pub forward_leaves : (code : Code) (p n a b : ℕ) → Leaves code p n a b → a ≤ b
forward_leaves code p n a b s = let e = ends_leaves code p n a b s in omega arith

pub forward : (code : Code) (lie : Lie) (g : Bool) (t : Tree) (a b : ℕ) → Stands code lie g t a b → a ≤ b
forward code lie g t a b s = let e = ends code lie g t a b s in omega arith

pub forward_all : (code : Code) (lie : Lie) (g : Bool) (ts : Trees) (a b : ℕ) → StandAll code lie g ts a b → a ≤ b
forward_all code lie g ts a b s = let e = ends_all code lie g ts a b s in omega arith

pub forward_arms : (code : Code) (lie : Lie) (g : Bool) (p e : ℕ) (ts : Trees) (ps : List ℕ) (a b : ℕ) → StandArms code lie g p e ts ps a b → a ≤ b
forward_arms code lie g p e ts ps a b s = let x = ends_arms code lie g p e ts ps a b s in omega arith

pub forward_specs : (code : Code) (lie : Lie) (g : Bool) (p e : ℕ) (specs : Specs) (ps : List ℕ) (a b : ℕ) → StandSpecs code lie g p e specs ps a b → a ≤ b
forward_specs code lie g p e specs ps a b s = let x = ends_specs code lie g p e specs ps a b s in omega arith

pub forward_steps : (code : Code) (lie : Lie) (g : Bool) (p e : ℕ) (steps : Steps) (ps : List ℕ) (a b : ℕ) → StandSteps code lie g p e steps ps a b → a ≤ b
forward_steps code lie g p e steps ps a b s = let x = ends_steps code lie g p e steps ps a b s in omega arith

pub forward_test : (code : Code) (lie : Lie) (t : Test) (p f a b : ℕ) → Tests code lie t p f a b → a ≤ b
forward_test code lie t p f a b s = let e = ends_test code lie t p f a b s in omega arith
