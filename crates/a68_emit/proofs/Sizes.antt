-- How long a stretch is.
use Rattle.std.proofs.Common.{◌≡◌, ℕ, zero, suc, ◌+◌, Bool, true, false, List, [], ◌∷◌, ◌++◌, length, refl, ap, ◌∙◌, arith, length-append}
use Rattle.std.proofs.lemmas.List.{length-map}
use Rattle.a68_builder.specs.Labels.{settled}
use Rattle.a68_code.specs.declared.does.Does.TheVariants as does
use Rattle.a68_elab.specs.Trees.{Tree, Trees, operation, together, phrases, labelled, jump, range, choice, cases, conformity, loop, call, parallel, meaningless, no_trees, ◌and_tree◌, count, Steps, last_step, step, exit, Specs, no_specs, spec, Test, no_test, while_in, depth_of, Apart, routine_text, parallel_unit}
use Rattle.a68_emit.specs.Listing.{instr, limits, indexes, opens, leaves, size, sizes, spec_sizes, test_size, step_sizes, arm_places, spec_places, label_places, stretch, stretches, arm_stretches, spec_stretches, test_stretch, step_stretches, apart_size, apart_stretch, apart_stretches}
use Rattle.a68_emit.specs.Stretches.{does_of, leave, member_places, wholes_of, with_last}

pub size_leaves : (place n : ℕ) → length (leaves place n) ≡ n
size_leaves place zero = refl
size_leaves place (suc n) = ap (λ k. suc k) (size_leaves place n)

-- a tree has as many instructions as its size tells
mutual
  pub size_stretch : (tree : Tree) (at : ℕ) → length (stretch tree at) ≡ size tree
  size_stretch (operation place op order parts) at =
      let s = size_stretches parts at in omega (arith, length-append (stretches parts at) (instr place (does_of op (count parts)) ∷ []))
  size_stretch (together parts) at = size_stretches parts at
  size_stretch (phrases place before final) at =
      let m = at + sizes before in
      let s = size_stretches before at in let t = size_stretch final m in omega (arith, length-append (stretches before at) (stretch final m))
  size_stretch (labelled place steps) at =
      length-map (step_stretches place (at + step_sizes steps) steps at) (settled (label_places steps at)) ∙ size_steps place (at + step_sizes steps) steps at
  size_stretch (jump place label frames height yields) at = refl
  size_stretch (range place out slots yields within) at =
      let s = size_stretch within (at + 1) in omega (arith, length-append (stretch within (at + 1)) (instr out (leave yields) ∷ []))
  size_stretch (choice place enquiry if_true if_false) at =
      let m = at + size enquiry + 1 in
      let x = m + size if_true + 1 in
      let jump = instr place (does.Jump (x + size if_false)) in
      let behind = stretch if_true m ++ (jump ∷ stretch if_false x) in
      let s1 = size_stretch enquiry at in let s2 = size_stretch if_true m in let s3 = size_stretch if_false x in
      omega (arith, length-append (stretch enquiry at) (instr place (does.Unless x) ∷ behind), length-append (stretch if_true m) (jump ∷ stretch if_false x))
  size_stretch (cases place enquiry arms out) at =
      let m = at + size enquiry + 1 in
      let x = m + sizes arms + count arms in
      let e = x + size out in
      let s1 = size_stretch enquiry at in let s2 = size_arms place e arms m in let s3 = size_stretch out x in
      omega (
        arith,
        length-append (stretch enquiry at) (instr place (does.Case (with_last (arm_places arms m) x)) ∷ (arm_stretches place e arms m ++ stretch out x)),
        length-append (arm_stretches place e arms m) (stretch out x),
      )
  size_stretch (conformity place union members yields enquiry specs out) at =
      let m = at + size enquiry + 1 in
      let x = m + spec_sizes specs in
      let e = x + size out in
      let s1 = size_stretch enquiry at in let s2 = size_specs place e yields specs m in let s3 = size_stretch out x in
      omega (
        arith,
        length-append (stretch enquiry at)
            (instr place (does.Member union (member_places members specs (spec_places specs m) x) (wholes_of members specs)) ∷ (spec_stretches place e yields specs m ++ stretch out x)),
        length-append (spec_stretches place e yields specs m) (stretch out x),
      )
  size_stretch (loop place controls limited counts test body) at =
      let n = depth_of counts test in
      let out = leaves place n in
      let lim = limits limited place in
      let idx = indexes counts place in
      let t = at + sizes controls + length lim + 1 in
      let w = t + 2 + length idx in
      let x = w + test_size test in
      let f = x + size body + n + 2 in
      let e = f + n in
      let r5 = out ++ instr place does.Forget ∷ [] in
      let last = instr place (does.Advance t) ∷ instr place (does.Jump e) ∷ r5 in
      let r4 = out ++ last in
      let r3 = stretch body x ++ r4 in
      let r2 = test_stretch place f test w ++ r3 in
      let r1 = instr place does.Counter ∷ instr place (does.Step e) ∷ instr place does.Turn ∷ (idx ++ r2) in
      let s1 = size_stretches controls at in let s2 = size_test place f test w in let s3 = size_stretch body x in let s4 = size_leaves place n in
      omega (
        arith,
        length-append (stretches controls at) (lim ++ r1),
        length-append lim r1,
        length-append idx r2,
        length-append (test_stretch place f test w) r3,
        length-append (stretch body x) r4,
        length-append out last,
        length-append out (instr place does.Forget ∷ []),
      )
  size_stretch (call place yields no_trees) at = refl
  size_stretch (call place yields (primary and_tree parts)) at =
      let s = size_stretches (primary and_tree parts) at in
      omega (arith, length-append (stretches (primary and_tree parts) at) (instr place (does.Call (count parts) yields) ∷ []))
  size_stretch (parallel place numbers) at = refl
  size_stretch meaningless at = refl

  pub size_stretches : (trees : Trees) (at : ℕ) → length (stretches trees at) ≡ sizes trees
  size_stretches no_trees at = refl
  size_stretches (tree and_tree trees) at =
      let m = at + size tree in
      let s = size_stretch tree at in let t = size_stretches trees m in omega (arith, length-append (stretch tree at) (stretches trees m))

  pub size_arms : (place e : ℕ) (trees : Trees) (at : ℕ) → length (arm_stretches place e trees at) ≡ sizes trees + count trees
  size_arms place e no_trees at = refl
  size_arms place e (tree and_tree trees) at =
      let m = at + size tree + 1 in
      let s = size_stretch tree at in let t = size_arms place e trees m in
      omega (arith, length-append (stretch tree at) (instr place (does.Jump e) ∷ arm_stretches place e trees m))

  pub size_specs : (place e : ℕ) (yields : Bool) (specs : Specs) (at : ℕ) → length (spec_stretches place e yields specs at) ≡ spec_sizes specs
  size_specs place e yields no_specs at = refl
  size_specs place e yields (spec takes true united part behind) at =
      let rest = spec_stretches place e yields behind (at + (3 + size part + 1)) in
      let s = size_stretch part (at + 2) in let t = size_specs place e yields behind (at + (3 + size part + 1)) in
      omega (arith, length-append (stretch part (at + 2)) (instr place (leave yields) ∷ instr place (does.Jump e) ∷ rest))
  size_specs place e yields (spec takes false united part behind) at =
      let rest = spec_stretches place e yields behind (at + (1 + size part + 1)) in
      let s = size_stretch part (at + 1) in let t = size_specs place e yields behind (at + (1 + size part + 1)) in
      omega (arith, length-append (stretch part (at + 1)) (instr place (does.Jump e) ∷ rest))

  pub size_test : (place f : ℕ) (test : Test) (at : ℕ) → length (test_stretch place f test at) ≡ test_size test
  size_test place f no_test at = refl
  size_test place f (while_in begin slots test) at =
      let m = at + length (opens slots begin) in
      let unless = instr place (does.Unless f) ∷ [] in
      let s = size_stretch test m in
      omega (arith, length-append (opens slots begin) (stretch test m ++ unless), length-append (stretch test m) unless)

  pub size_steps : (place e : ℕ) (steps : Steps) (at : ℕ) → length (step_stretches place e steps at) ≡ step_sizes steps
  size_steps place e (last_step labels tree) at = size_stretch tree at
  size_steps place e (step labels tree more) at =
      let m = at + size tree in
      let s = size_stretch tree at in let t = size_steps place e more m in omega (arith, length-append (stretch tree at) (step_stretches place e more m))
  size_steps place e (exit labels tree more) at =
      let m = at + size tree + 1 in
      let s = size_stretch tree at in let t = size_steps place e more m in
      omega (arith, length-append (stretch tree at) (instr place (does.Jump e) ∷ step_stretches place e more m))

-- ---- what stands apart

pub size_one : (x : Apart) (at : ℕ) → length (apart_stretch x at) ≡ apart_size x
size_one (routine_text body) at = let s = size_stretch body.tree at in omega (arith, length-append (stretch body.tree at) (instr body.place does.Return ∷ []))
size_one (parallel_unit unit) at = let s = size_stretch unit.tree at in omega (arith, length-append (stretch unit.tree at) (instr unit.place does.Close ∷ []))

-- how many instructions all of it becomes
abbrev pub apart_sizes : List Apart → ℕ
apart_sizes [] = 0
apart_sizes (x ∷ xs) = apart_size x + apart_sizes xs

pub size_apart : (xs : List Apart) (at : ℕ) → length (apart_stretches xs at) ≡ apart_sizes xs
size_apart [] at = refl
size_apart (x ∷ xs) at =
    let m = at + apart_size x in
    let s = size_one x at in let t = size_apart xs m in omega (arith, length-append (apart_stretch x at) (apart_stretches xs m))
