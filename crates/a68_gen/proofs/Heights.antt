-- How many values are on the stack at each place of a stretch.
use Rattle.std.proofs.Common.{◌≡◌, ◌<◌, ◌≤◌, ◌⊎◌, ◌+◌, ℕ, zero, suc, arith, Bool, true, false, List, [], ◌∷◌, refl, sym, ap, ◌∙◌, subst, inl, inr, ⊎_elim}
use Rattle.std.proofs.lemmas.Bool.{cases_lt, false≢true}
use Rattle.a68_code.specs.declared.code.Code.{Code}
use Rattle.a68_elab.specs.Trees.{Tree, Trees, operation, together, phrases, labelled, jump, range, choice, cases, conformity, loop, call, parallel, meaningless, no_trees, ◌and_tree◌, count, Steps, last_step, step, exit, Specs, no_specs, spec, Test, no_test, while_in, deeper, depth_of}
use Rattle.a68_emit.specs.Stretches.{Limits, Indexes, EntersSlots, Leaves, Lie, above, deeper_by, in_clause, Stands, StandAll, StandArms, StandSpecs, StandSteps, Tests}
use Rattle.std.specs.Prelude.{if◌then◌else◌}

abbrev pub bit : Bool → ℕ
bit true = 1
bit false = 0

-- what trees leave on so many values
abbrev pub after : Bool → Trees → ℕ → ℕ
after g no_trees base = base
after g (t and_tree ts) base = after g ts (base + bit g)

pub after_true : (ts : Trees) (base : ℕ) → after true ts base ≡ base + count ts
after_true no_trees base = omega arith
after_true (t and_tree ts) base = let e = after_true ts (base + 1) in omega arith

pub after_false : (ts : Trees) (base : ℕ) → after false ts base ≡ base
after_false no_trees base = refl
after_false (t and_tree ts) base = let e = after_false ts (base + 0) in omega arith

-- one place, with its height
abbrev pub At : (m c : ℕ) → ℕ → ℕ → Type 0
At m c k h = (k ≡ m) × (h ≡ c)

-- the height at TO's own step, over the values of FROM, BY and TO on so many
abbrev pub LimitHeights : (code : Code) (limited : Bool) (p a b : ℕ) → Limits code limited p a b → (base : ℕ) → ℕ → ℕ → Type 0
LimitHeights code false p a b s base k h = ⊥
LimitHeights code true p a b s base k h = At a (base + 3) k h

-- the heights at the frame of FOR, over a counter on so many values
abbrev pub IndexHeights : (code : Code) (counts : Bool) (p a b : ℕ) → Indexes code counts p a b → (base : ℕ) → ℕ → ℕ → Type 0
IndexHeights code false p a b s base k h = ⊥
IndexHeights code true p a b s base k h = At a (base + 1) k h ⊎ (At s.0 (base + 1) k h ⊎ At s.1 (base + 2) k h)

-- at an Enter
abbrev pub OpenHeights : (code : Code) (n p a b : ℕ) → EntersSlots code n p a b → (base : ℕ) → ℕ → ℕ → Type 0
OpenHeights code zero p a b s base k h = ⊥
OpenHeights code (suc n) p a b s base k h = At a base k h

-- at so many Leave
abbrev pub LeaveHeights : (code : Code) (p n a b : ℕ) → Leaves code p n a b → (base : ℕ) → ℕ → ℕ → Type 0
LeaveHeights code p zero a b s base k h = ⊥
LeaveHeights code p (suc n) a b s base k h = At a base k h ⊎ LeaveHeights code p n s.0 b s.2 base k h

-- the height at each place of a stretch that begins over so many values
abbrev mutual
  pub HeightsOf : (code : Code) (lie : Lie) (g : Bool) (t : Tree) (a b : ℕ) → Stands code lie g t a b → (base : ℕ) → ℕ → ℕ → Type 0
  HeightsOf code lie g (operation p op o parts) a b s base k h = AllHeights code lie true parts a s.0 s.3 base k h ⊎ At s.0 (after true parts base) k h
  HeightsOf code lie g (together parts) a b s base k h = AllHeights code lie false parts a b s.1 base k h
  HeightsOf code lie g (phrases p before final) a b s base k h = AllHeights code lie false before a s.0 s.1 base k h ⊎ HeightsOf code lie g final s.0 b s.2 base k h
  HeightsOf code lie g (labelled p steps) a b s base k h = StepHeights code (in_clause steps s.0 lie) g p b steps s.0 a b s.1 base k h
  HeightsOf code lie g (jump p label frames height yields) a b s base k h = At a base k h
  HeightsOf code lie g (range p out n yields within) a b s base k h =
      At a base k h ⊎ (HeightsOf code (deeper_by 1 lie) g within s.0 s.1 s.4 base k h ⊎ At s.1 (base + bit g) k h)
  HeightsOf code lie g (choice p enquiry if_true if_false) a b s base k h =
      HeightsOf code lie true enquiry a s.0 s.4 base k h
      ⊎ (At s.0 (base + 1) k h ⊎ (HeightsOf code lie g if_true s.1 s.2 s.6 base k h ⊎ (At s.2 (base + bit g) k h ⊎ HeightsOf code lie g if_false s.3 b s.8 base k h)))
  HeightsOf code lie g (cases p enquiry arms out) a b s base k h =
      HeightsOf code lie true enquiry a s.0 s.4 base k h
      ⊎ (At s.0 (base + 1) k h ⊎ (ArmHeights code lie g p b arms s.3 s.1 s.2 s.6 base k h ⊎ HeightsOf code lie g out s.2 b s.7 base k h))
  HeightsOf code lie g (conformity p union members yields enquiry specs out) a b s base k h =
      HeightsOf code lie true enquiry a s.0 s.6 base k h
      ⊎ (At s.0 (base + 1) k h ⊎ (SpecHeights code lie g p b specs s.3 s.1 s.2 s.8 base k h ⊎ HeightsOf code lie g out s.2 b s.9 base k h))
  HeightsOf code lie g (loop p controls limited counts test body) a b s base k h =
      AllHeights code lie true controls a s.0 s.14 base k h ⊎ (LimitHeights code limited p s.0 s.1 s.15 base k h ⊎ (At s.1 (base + 3) k h ⊎ (At s.2 (base + 1) k h
      ⊎ (At s.3 (base + 1) k h ⊎ (IndexHeights code counts p s.4 s.5 s.19 base k h ⊎ (TestHeights code (deeper_by (if counts then 1 else 0) (above true lie)) test p s.10 s.5 s.6 s.20 (base + 1) k h
      ⊎ (HeightsOf code (deeper_by (depth_of counts test) (above true lie)) false body s.6 s.7 s.21 (base + 1) k h ⊎ (LeaveHeights code p (depth_of counts test) s.7 s.8 s.22 (base + 1) k h ⊎ (At s.8 (base + 1) k h
      ⊎ (At s.9 (base + 1) k h ⊎ (LeaveHeights code p (depth_of counts test) s.10 s.11 s.25 (base + 1) k h ⊎ (At s.11 (base + 1) k h))))))))))))
  HeightsOf code lie g (call p yields no_trees) a b s base k h = ⊥
  HeightsOf code lie g (call p yields (primary and_tree parts)) a b s base k h =
      AllHeights code lie true (primary and_tree parts) a s.0 s.2 base k h ⊎ At s.0 (after true (primary and_tree parts) base) k h
  HeightsOf code lie g (parallel p numbers) a b s base k h = At a base k h
  HeightsOf code lie g meaningless a b s base k h = ⊥

  pub AllHeights : (code : Code) (lie : Lie) (g : Bool) (ts : Trees) (a b : ℕ) → StandAll code lie g ts a b → (base : ℕ) → ℕ → ℕ → Type 0
  AllHeights code lie g no_trees a b s base k h = ⊥
  AllHeights code lie g (t and_tree ts) a b s base k h = HeightsOf code lie g t a s.0 s.1 base k h ⊎ AllHeights code (above g lie) g ts s.0 b s.2 (base + bit g) k h

  -- at parts that are chosen among
  pub ArmHeights : (code : Code) (lie : Lie) (g : Bool) (p e : ℕ) (ts : Trees) (ps : List ℕ) (a b : ℕ) → StandArms code lie g p e ts ps a b → (base : ℕ) → ℕ → ℕ → Type 0
  ArmHeights code lie g p e no_trees [] a b s base k h = ⊥
  ArmHeights code lie g p e (t and_tree ts) (q ∷ ps) a b s base k h =
      HeightsOf code lie g t a s.0 s.3 base k h ⊎ (At s.0 (base + bit g) k h ⊎ ArmHeights code lie g p e ts ps s.1 b s.5 base k h)
  ArmHeights code lie g p e _ _ a b s base k h = ⊥

  -- at specifications, which find a value
  pub SpecHeights : (code : Code) (lie : Lie) (g : Bool) (p e : ℕ) (specs : Specs) (ps : List ℕ) (a b : ℕ) → StandSpecs code lie g p e specs ps a b → (base : ℕ) → ℕ → ℕ → Type 0
  SpecHeights code lie g p e no_specs [] a b s base k h = ⊥
  SpecHeights code lie g p e (spec takes true united t behind) (q ∷ ps) a b s base k h =
      At a (base + 1) k h ⊎ (At s.0 (base + 1) k h ⊎ (HeightsOf code (deeper_by 1 lie) g t s.1 s.2 s.8 base k h
      ⊎ (At s.2 (base + bit g) k h ⊎ (At s.3 (base + bit g) k h ⊎ SpecHeights code lie g p e behind ps s.4 b s.11 base k h))))
  SpecHeights code lie g p e (spec takes false united t behind) (q ∷ ps) a b s base k h =
      At a (base + 1) k h ⊎ (HeightsOf code lie g t s.0 s.1 s.5 base k h ⊎ (At s.1 (base + bit g) k h ⊎ SpecHeights code lie g p e behind ps s.2 b s.7 base k h))
  SpecHeights code lie g p e _ _ a b s base k h = ⊥

  -- at the test of a loop, over so many values
  pub TestHeights : (code : Code) (lie : Lie) (t : Test) (p f a b : ℕ) → Tests code lie t p f a b → (base : ℕ) → ℕ → ℕ → Type 0
  TestHeights code lie no_test p f a b s base k h = ⊥
  TestHeights code lie (while_in at slots t) p f a b s base k h =
      OpenHeights code slots at a s.0 s.2 base k h ⊎ (HeightsOf code (deeper_by (deeper slots 0) lie) true t s.0 s.1 s.3 base k h ⊎ At s.1 (base + 1) k h)

  -- at steps, each of which begins at the height of the clause
  pub StepHeights : (code : Code) (lie : Lie) (g : Bool) (p e : ℕ) (steps : Steps) (ps : List ℕ) (a b : ℕ) → StandSteps code lie g p e steps ps a b → (base : ℕ) → ℕ → ℕ → Type 0
  StepHeights code lie g p e (last_step ls t) (q ∷ []) a b s base k h = HeightsOf code lie g t a b s.1 base k h
  StepHeights code lie g p e (step ls t more) (q ∷ ps) a b s base k h = HeightsOf code lie false t a s.0 s.2 base k h ⊎ StepHeights code lie g p e more ps s.0 b s.3 base k h
  StepHeights code lie g p e (exit ls t more) (q ∷ ps) a b s base k h =
      HeightsOf code lie g t a s.0 s.3 base k h ⊎ (At s.0 (base + bit g) k h ⊎ StepHeights code lie g p e more ps s.1 b s.5 base k h)
  StepHeights code lie g p e _ _ a b s base k h = ⊥

-- each place from a up to b has one height, and no other place has any
pub record Piece (a b : ℕ) (P : ℕ → ℕ → Type 0) : Type 0 where
  pub forth : a ≤ b
  pub inside : (k h : ℕ) → P k h → (a ≤ k) × (k < b)
  pub unique : (k h h' : ℕ) → P k h → P k h' → h ≡ h'
  pub covers : (k : ℕ) → a ≤ k → k < b → (h : ℕ) × P k h

pub one : (m b c : ℕ) → m + 1 ≡ b → Piece m b (At m c)
one m b c e = record {
  forth = omega arith;
  inside = λ k h x. let y = x.0 in (omega arith, omega arith);
  unique = λ k h h' x y. x.1 ∙ sym y.1;
  covers = λ k l u. (c, (omega arith, refl));
}

pub nothing : (a b : ℕ) → a ≡ b → Piece a b (λ k h. ⊥)
nothing a b e = record {
  forth = omega arith;
  inside = λ k h x. absurd x;
  unique = λ k h h' x y. absurd x;
  covers = λ k l u. absurd (omega arith);
}

pub both : (a m b : ℕ) (P Q : ℕ → ℕ → Type 0) → Piece a m P → Piece m b Q → Piece a b (λ k h. P k h ⊎ Q k h)
both a m b P Q p q = record {
  forth = (let x = p.forth in let y = q.forth in omega arith);
  inside = λ k h. in_one k h;
  unique = λ k h h'. same_one k h h';
  covers = λ k l u. ⊎_elim (λ lt. let x = p.covers k l lt in (x.0, inl x.1)) (λ ge. let x = q.covers k ge u in (x.0, inr x.1)) (cases_lt k m);
}
  where
    in_one : (k h : ℕ) → P k h ⊎ Q k h → (a ≤ k) × (k < b)
    in_one k h (inl x) = let i = p.inside k h x in let l = i.0 in let u = i.1 in let y = q.forth in (omega arith, omega arith)
    in_one k h (inr x) = let i = q.inside k h x in let l = i.0 in let u = i.1 in let y = p.forth in (omega arith, omega arith)

    same_one : (k h h' : ℕ) → P k h ⊎ Q k h → P k h' ⊎ Q k h' → h ≡ h'
    same_one k h h' (inl x) (inl y) = p.unique k h h' x y
    same_one k h h' (inr x) (inr y) = q.unique k h h' x y
    same_one k h h' (inl x) (inr y) = let i = (p.inside k h x).1 in let j = (q.inside k h' y).0 in absurd (omega arith)
    same_one k h h' (inr x) (inl y) = let i = (q.inside k h x).0 in let j = (p.inside k h' y).1 in absurd (omega arith)

limit_piece : (code : Code) (limited : Bool) (p a b : ℕ) (s : Limits code limited p a b) (base : ℕ) → Piece a b (LimitHeights code limited p a b s base)
limit_piece code false p a b s base = nothing a b s
limit_piece code true p a b s base = one a b (base + 3) s.1

index_piece : (code : Code) (counts : Bool) (p a b : ℕ) (s : Indexes code counts p a b) (base : ℕ) → Piece a b (IndexHeights code counts p a b s base)
index_piece code false p a b s base = nothing a b s
index_piece code true p a b s base = both _ _ _ _ _ (one a s.0 (base + 1) s.2.1) (both _ _ _ _ _ (one s.0 s.1 (base + 1) s.3.1) (one s.1 b (base + 2) s.4.1))

open_piece : (code : Code) (n p a b : ℕ) (s : EntersSlots code n p a b) (base : ℕ) → Piece a b (OpenHeights code n p a b s base)
open_piece code zero p a b s base = nothing a b s
open_piece code (suc n) p a b s base = one a b base s.1

leave_piece : (code : Code) (p n a b : ℕ) (s : Leaves code p n a b) (base : ℕ) → Piece a b (LeaveHeights code p n a b s base)
leave_piece code p zero a b s base = nothing a b s
leave_piece code p (suc n) a b s base = both _ _ _ _ _ (one a s.0 base s.1.1) (leave_piece code p n s.0 b s.2 base)

mutual
  pub piece : (code : Code) (lie : Lie) (g : Bool) (t : Tree) (a b : ℕ) (s : Stands code lie g t a b) (base : ℕ) → Piece a b (HeightsOf code lie g t a b s base)
  piece code lie g (operation p op o parts) a b s base = both _ _ _ _ _ (pieces code lie true parts a s.0 s.3 base) (one s.0 b (after true parts base) s.4.1)
  piece code lie g (together parts) a b s base = pieces code lie false parts a b s.1 base
  piece code lie g (phrases p before final) a b s base = both _ _ _ _ _ (pieces code lie false before a s.0 s.1 base) (piece code lie g final s.0 b s.2 base)
  piece code lie g (labelled p steps) a b s base = steps_piece code (in_clause steps s.0 lie) g p b steps s.0 a b s.1 base
  piece code lie g (jump p label frames height yields) a b s base = one a b base s.7.1
  piece code lie g (range p out n yields within) a b s base =
      both _ _ _ _ _ (one a s.0 base s.3.1) (both _ _ _ _ _ (piece code (deeper_by 1 lie) g within s.0 s.1 s.4 base) (one s.1 b (base + bit g) s.5.1))
  piece code lie g (choice p enquiry if_true if_false) a b s base =
      both _ _ _ _ _ (piece code lie true enquiry a s.0 s.4 base)
      (both _ _ _ _ _ (one s.0 s.1 (base + 1) s.5.1)
      (both _ _ _ _ _ (piece code lie g if_true s.1 s.2 s.6 base) (both _ _ _ _ _ (one s.2 s.3 (base + bit g) s.7.1) (piece code lie g if_false s.3 b s.8 base))))
  piece code lie g (cases p enquiry arms out) a b s base =
      both _ _ _ _ _ (piece code lie true enquiry a s.0 s.4 base)
      (both _ _ _ _ _ (one s.0 s.1 (base + 1) s.5.1) (both _ _ _ _ _ (arms_piece code lie g p b arms s.3 s.1 s.2 s.6 base) (piece code lie g out s.2 b s.7 base)))
  piece code lie g (conformity p union members yields enquiry specs out) a b s base =
      both _ _ _ _ _ (piece code lie true enquiry a s.0 s.6 base)
      (both _ _ _ _ _ (one s.0 s.1 (base + 1) s.7.1) (both _ _ _ _ _ (specs_piece code lie g p b specs s.3 s.1 s.2 s.8 base) (piece code lie g out s.2 b s.9 base)))
  piece code lie g (loop p controls limited counts test body) a b s base =
      both _ _ _ _ _ (pieces code lie true controls a s.0 s.14 base)
      (both _ _ _ _ _ (limit_piece code limited p s.0 s.1 s.15 base)
      (both _ _ _ _ _ (one s.1 s.2 (base + 3) s.16.1)
      (both _ _ _ _ _ (one s.2 s.3 (base + 1) s.17.1)
      (both _ _ _ _ _ (one s.3 s.4 (base + 1) s.18.1)
      (both _ _ _ _ _ (index_piece code counts p s.4 s.5 s.19 base)
      (both _ _ _ _ _ (test_piece code (deeper_by (if counts then 1 else 0) (above true lie)) test p s.10 s.5 s.6 s.20 (base + 1))
      (both _ _ _ _ _ (piece code (deeper_by (depth_of counts test) (above true lie)) false body s.6 s.7 s.21 (base + 1))
      (both _ _ _ _ _ (leave_piece code p (depth_of counts test) s.7 s.8 s.22 (base + 1))
      (both _ _ _ _ _ (one s.8 s.9 (base + 1) s.23.1)
      (both _ _ _ _ _ (one s.9 s.10 (base + 1) s.24.1)
      (both _ _ _ _ _ (leave_piece code p (depth_of counts test) s.10 s.11 s.25 (base + 1))
      (one s.11 b (base + 1) s.26.1))))))))))))
  piece code lie g (call p yields no_trees) a b s base = absurd s
  piece code lie g (call p yields (primary and_tree parts)) a b s base =
      both _ _ _ _ _ (pieces code lie true (primary and_tree parts) a s.0 s.2 base) (one s.0 b (after true (primary and_tree parts) base) s.3.1)
  piece code lie g (parallel p numbers) a b s base = one a b base s.4.1
  piece code lie g meaningless a b s base = absurd s

  pieces : (code : Code) (lie : Lie) (g : Bool) (ts : Trees) (a b : ℕ) (s : StandAll code lie g ts a b) (base : ℕ) → Piece a b (AllHeights code lie g ts a b s base)
  pieces code lie g no_trees a b s base = nothing a b s
  pieces code lie g (t and_tree ts) a b s base = both _ _ _ _ _ (piece code lie g t a s.0 s.1 base) (pieces code (above g lie) g ts s.0 b s.2 (base + bit g))

  arms_piece : (code : Code) (lie : Lie) (g : Bool) (p e : ℕ) (ts : Trees) (ps : List ℕ) (a b : ℕ) (s : StandArms code lie g p e ts ps a b) (base : ℕ) → Piece a b (ArmHeights code lie g p e ts ps a b s base)
  arms_piece code lie g p e no_trees [] a b s base = nothing a b s
  arms_piece code lie g p e no_trees (q ∷ ps) a b s base = absurd s
  arms_piece code lie g p e (t and_tree ts) [] a b s base = absurd s
  arms_piece code lie g p e (t and_tree ts) (q ∷ ps) a b s base =
      both _ _ _ _ _ (piece code lie g t a s.0 s.3 base) (both _ _ _ _ _ (one s.0 s.1 (base + bit g) s.4.1) (arms_piece code lie g p e ts ps s.1 b s.5 base))

  specs_piece : (code : Code) (lie : Lie) (g : Bool) (p e : ℕ) (specs : Specs) (ps : List ℕ) (a b : ℕ) (s : StandSpecs code lie g p e specs ps a b) (base : ℕ) → Piece a b (SpecHeights code lie g p e specs ps a b s base)
  specs_piece code lie g p e no_specs [] a b s base = nothing a b s
  specs_piece code lie g p e no_specs (q ∷ ps) a b s base = absurd s
  specs_piece code lie g p e (spec takes true united t behind) [] a b s base = absurd s
  specs_piece code lie g p e (spec takes false united t behind) [] a b s base = absurd s
  specs_piece code lie g p e (spec takes true united t behind) (q ∷ ps) a b s base =
      both _ _ _ _ _ (one a s.0 (base + 1) s.6.1)
      (both _ _ _ _ _ (one s.0 s.1 (base + 1) s.7.1)
      (both _ _ _ _ _ (piece code (deeper_by 1 lie) g t s.1 s.2 s.8 base)
      (both _ _ _ _ _ (one s.2 s.3 (base + bit g) s.9.1) (both _ _ _ _ _ (one s.3 s.4 (base + bit g) s.10.1) (specs_piece code lie g p e behind ps s.4 b s.11 base)))))
  specs_piece code lie g p e (spec takes false united t behind) (q ∷ ps) a b s base =
      both _ _ _ _ _ (one a s.0 (base + 1) s.4.1)
      (both _ _ _ _ _ (piece code lie g t s.0 s.1 s.5 base) (both _ _ _ _ _ (one s.1 s.2 (base + bit g) s.6.1) (specs_piece code lie g p e behind ps s.2 b s.7 base)))

  test_piece : (code : Code) (lie : Lie) (t : Test) (p f a b : ℕ) (s : Tests code lie t p f a b) (base : ℕ) → Piece a b (TestHeights code lie t p f a b s base)
  test_piece code lie no_test p f a b s base = nothing a b s
  test_piece code lie (while_in at slots t) p f a b s base =
      both _ _ _ _ _ (open_piece code slots at a s.0 s.2 base) (both _ _ _ _ _ (piece code (deeper_by (deeper slots 0) lie) true t s.0 s.1 s.3 base) (one s.1 b (base + 1) s.4.1))

  steps_piece : (code : Code) (lie : Lie) (g : Bool) (p e : ℕ) (steps : Steps) (ps : List ℕ) (a b : ℕ) (s : StandSteps code lie g p e steps ps a b) (base : ℕ) → Piece a b (StepHeights code lie g p e steps ps a b s base)
  steps_piece code lie g p e (last_step ls t) [] a b s base = absurd s
  steps_piece code lie g p e (step ls t more) [] a b s base = absurd s
  steps_piece code lie g p e (exit ls t more) [] a b s base = absurd s
  steps_piece code lie g p e (last_step ls t) (q ∷ (r ∷ ps)) a b s base = absurd s
  steps_piece code lie g p e (last_step ls t) (q ∷ []) a b s base = piece code lie g t a b s.1 base
  steps_piece code lie g p e (step ls t more) (q ∷ ps) a b s base = both _ _ _ _ _ (piece code lie false t a s.0 s.2 base) (steps_piece code lie g p e more ps s.0 b s.3 base)
  steps_piece code lie g p e (exit ls t more) (q ∷ ps) a b s base =
      both _ _ _ _ _ (piece code lie g t a s.0 s.3 base) (both _ _ _ _ _ (one s.0 s.1 (base + bit g) s.4.1) (steps_piece code lie g p e more ps s.1 b s.5 base))

-- what leaves nothing adds nothing
pub nothing_more : (n : ℕ) (g : Bool) → g ≡ false → n ≡ n + bit g
nothing_more n g e = let x : n ≡ n + 0 = omega arith in x ∙ ap (λ (y : Bool). n + bit y) (sym e)

mutual
  -- a stretch begins at its height, or it is empty and leaves nothing
  pub starts : (code : Code) (lie : Lie) (g : Bool) (t : Tree) (a b : ℕ) (s : Stands code lie g t a b) (base : ℕ) → HeightsOf code lie g t a b s base a base ⊎ ((a ≡ b) × (g ≡ false))
  starts code lie g (operation p op o parts) a b s base = ⊎_elim (λ y. inl (inl y)) (λ e. inl (inr e)) (starts_all code lie true parts a s.0 s.3 base)
  starts code lie g (together parts) a b s base = ⊎_elim inl (λ e. inr (e.0, s.0)) (starts_all code lie false parts a b s.1 base)
  starts code lie g (phrases p before final) a b s base =
      ⊎_elim (λ y. inl (inl y))
      (λ e. ⊎_elim (λ y. inl (inr (subst (λ (x : ℕ). HeightsOf code lie g final s.0 b s.2 base x base) (sym e.0) y))) (λ f. inr (e.0 ∙ f.0, f.1)) (starts code lie g final s.0 b s.2 base))
      (starts_all code lie false before a s.0 s.1 base)
  starts code lie g (labelled p steps) a b s base = starts_steps code (in_clause steps s.0 lie) g p b steps s.0 a b s.1 base
  starts code lie g (jump p label frames height yields) a b s base = inl (refl, refl)
  starts code lie g (range p out n yields within) a b s base = inl (inl (refl, refl))
  starts code lie g (choice p enquiry if_true if_false) a b s base = ⊎_elim (λ y. inl (inl y)) (λ e. absurd (false≢true (sym e.1))) (starts code lie true enquiry a s.0 s.4 base)
  starts code lie g (cases p enquiry arms out) a b s base = ⊎_elim (λ y. inl (inl y)) (λ e. absurd (false≢true (sym e.1))) (starts code lie true enquiry a s.0 s.4 base)
  starts code lie g (conformity p union members yields enquiry specs out) a b s base = ⊎_elim (λ y. inl (inl y)) (λ e. absurd (false≢true (sym e.1))) (starts code lie true enquiry a s.0 s.6 base)
  starts code lie g (loop p controls limited counts test body) a b s base =
      ⊎_elim (λ y. inl (inl y)) (λ e. absurd (omega (arith, e.1 ∙ after_true controls base ∙ ap (λ (n : ℕ). base + n) s.13))) (starts_all code lie true controls a s.0 s.14 base)
  starts code lie g (call p yields no_trees) a b s base = absurd s
  starts code lie g (call p yields (primary and_tree parts)) a b s base =
      ⊎_elim (λ y. inl (inl y)) (λ e. inl (inr e)) (starts_all code lie true (primary and_tree parts) a s.0 s.2 base)
  starts code lie g (parallel p numbers) a b s base = inl (refl, refl)
  starts code lie g meaningless a b s base = absurd s

  pub starts_all : (code : Code) (lie : Lie) (g : Bool) (ts : Trees) (a b : ℕ) (s : StandAll code lie g ts a b) (base : ℕ) → AllHeights code lie g ts a b s base a base ⊎ ((a ≡ b) × (base ≡ after g ts base))
  starts_all code lie g no_trees a b s base = inr (s, refl)
  starts_all code lie g (t and_tree ts) a b s base =
      ⊎_elim (λ y. inl (inl y))
      (λ e. let f : base ≡ base + bit g = nothing_more base g e.1 in
      ⊎_elim (λ y. inl (inr (subst (λ (k : ℕ). AllHeights code (above g lie) g ts s.0 b s.2 (base + bit g) k base) (sym e.0)
      (subst (λ (h : ℕ). AllHeights code (above g lie) g ts s.0 b s.2 (base + bit g) s.0 h) (sym f) y))))
      (λ x. inr (e.0 ∙ x.0, f ∙ x.1)) (starts_all code (above g lie) g ts s.0 b s.2 (base + bit g)))
      (starts code lie g t a s.0 s.1 base)

  starts_steps : (code : Code) (lie : Lie) (g : Bool) (p e : ℕ) (steps : Steps) (ps : List ℕ) (a b : ℕ) (s : StandSteps code lie g p e steps ps a b) (base : ℕ)
      → StepHeights code lie g p e steps ps a b s base a base ⊎ ((a ≡ b) × (g ≡ false))
  starts_steps code lie g p e (last_step ls t) [] a b s base = absurd s
  starts_steps code lie g p e (step ls t more) [] a b s base = absurd s
  starts_steps code lie g p e (exit ls t more) [] a b s base = absurd s
  starts_steps code lie g p e (last_step ls t) (q ∷ (r ∷ ps)) a b s base = absurd s
  starts_steps code lie g p e (last_step ls t) (q ∷ []) a b s base = starts code lie g t a b s.1 base
  starts_steps code lie g p e (step ls t more) (q ∷ ps) a b s base =
      ⊎_elim (λ y. inl (inl y))
      (λ x. ⊎_elim (λ y. inl (inr (subst (λ (k : ℕ). StepHeights code lie g p e more ps s.0 b s.3 base k base) (sym x.0) y))) (λ f. inr (x.0 ∙ f.0, f.1))
      (starts_steps code lie g p e more ps s.0 b s.3 base))
      (starts code lie false t a s.0 s.2 base)
  starts_steps code lie g p e (exit ls t more) (q ∷ ps) a b s base =
      ⊎_elim (λ y. inl (inl y)) (λ x. inl (inr (inl (x.0, nothing_more base g x.1)))) (starts code lie g t a s.0 s.3 base)

-- such a stretch begins at its height, or there is none of it
pub starts_index : (code : Code) (counts : Bool) (p a b : ℕ) (s : Indexes code counts p a b) (base : ℕ) → IndexHeights code counts p a b s base a (base + 1) ⊎ (a ≡ b)
starts_index code false p a b s base = inr s
starts_index code true p a b s base = inl (inl (refl, refl))

pub starts_open : (code : Code) (n p a b : ℕ) (s : EntersSlots code n p a b) (base : ℕ) → OpenHeights code n p a b s base a base ⊎ (a ≡ b)
starts_open code zero p a b s base = inr s
starts_open code (suc n) p a b s base = inl (refl, refl)

pub starts_leave : (code : Code) (p n a b : ℕ) (s : Leaves code p n a b) (base : ℕ) → LeaveHeights code p n a b s base a base ⊎ (a ≡ b)
starts_leave code p zero a b s base = inr s
starts_leave code p (suc n) a b s base = inl (inl (refl, refl))

pub starts_limit : (code : Code) (limited : Bool) (p a b : ℕ) (s : Limits code limited p a b) (base : ℕ) → LimitHeights code limited p a b s base a (base + 3) ⊎ (a ≡ b)
starts_limit code false p a b s base = inr s
starts_limit code true p a b s base = inl (refl, refl)

pub starts_test : (code : Code) (lie : Lie) (t : Test) (p f a b : ℕ) (s : Tests code lie t p f a b) (base : ℕ) → TestHeights code lie t p f a b s base a base ⊎ (a ≡ b)
starts_test code lie no_test p f a b s base = inr s
starts_test code lie (while_in at slots t) p f a b s base =
    ⊎_elim (λ y. inl (inl y))
    (λ e. ⊎_elim (λ y. inl (inr (inl (subst (λ (x : ℕ). HeightsOf code (deeper_by (deeper slots 0) lie) true t s.0 s.1 s.3 base x base) (sym e) y)))) (λ f. absurd (false≢true (sym f.1)))
    (starts code (deeper_by (deeper slots 0) lie) true t s.0 s.1 s.3 base))
    (starts_open code slots at a s.0 s.2 base)
