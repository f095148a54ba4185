-- The instructions of a program begin where its constructs do.
use Rattle.std.proofs.Common.{◌≡◌, ℕ, zero, suc, ◌+◌, ◌≤◌, Bool, true, false, List, [], ◌∷◌, ◌++◌, length, Some, slice_get, sym, ap, ◌∙◌, subst}
use Rattle.std.proofs.lemmas.Option.{same_Some}
use Rattle.a68_base.specs.declared.refusal.Refusal.{Refusal}
use Rattle.std.specs.Prelude.{map}
use Rattle.a68_builder.specs.Labels.{settled}
use Rattle.a68_builder.specs.Linking.{linked}
use Rattle.a68_code.specs.declared.code.Code.{Code}
use Rattle.a68_code.specs.declared.code.Instr.{Instr}
use Rattle.a68_code.specs.declared.does.Does.TheVariants as does
use Rattle.a68_elab.specs.Places.{BeginsBy, AllBeginBy, SpecsBeginBy, StepsBeginBy, TestBeginsBy, ApartBeginBy, ProgramBeginsBy}
use Rattle.a68_elab.specs.Trees.{Tree, Trees, operation, together, phrases, labelled, jump, range, choice, cases, conformity, loop, call, parallel, meaningless, no_trees, ◌and_tree◌, count, Steps, last_step, step, exit, Specs, no_specs, spec, Test, no_test, while_in, depth_of, Apart, routine_text, parallel_unit, Program}
use Rattle.a68_emit.specs.Listing.{instr, limits, indexes, opens, leaves, size, sizes, spec_sizes, step_sizes, test_size, arm_places, spec_places, label_places, stretch, stretches, arm_stretches, spec_stretches, step_stretches, test_stretch, apart_stretch, apart_stretches, listing, units_entered, written}
use Rattle.a68_gen.proofs.Listed.{listed}
use Rattle.a68_emit.specs.Stretches.{does_of, leave, member_places, wholes_of, with_last, Translates}
use Rattle.a68_emit.specs.Writing.{IsTooLong, most, places}

-- the construct of each instruction begins at this byte or before it
abbrev LieBy : (end : ℕ) → List Instr → Type 0
LieBy end [] = Unit {0}
LieBy end (i ∷ list) = (i.place ≤ end) × LieBy end list

module _ (end : ℕ) where
  lie-append : (xs ys : List Instr) → LieBy end xs → LieBy end ys → LieBy end (xs ++ ys)
  lie-append [] ys p q = q
  lie-append (x ∷ xs) ys p q = (p.0, lie-append xs ys p.1 q)

  lie-get : (list : List Instr) (k p : ℕ) → LieBy end list → slice_get (places list) k ≡ Some p → p ≤ end
  lie-get [] k p l e = absurd (cc)
  lie-get (x ∷ list) zero p l e = subst (λ (z : ℕ). z ≤ end) (same_Some x.place p e) l.0
  lie-get (x ∷ list) (suc k) p l e = lie-get list k p l.1 e

  lie-at : (list : List Instr) (k : ℕ) (i : Instr) → LieBy end list → slice_get list k ≡ Some i → i.place ≤ end
  lie-at [] k i l e = absurd (cc)
  lie-at (x ∷ list) zero i l e = subst (λ (z : Instr). z.place ≤ end) (same_Some x i e) l.0
  lie-at (x ∷ list) (suc k) i l e = lie-at list k i l.1 e

  limit_lies : (limited : Bool) (place : ℕ) → place ≤ end → LieBy end (limits limited place)
  limit_lies false place p = tt
  limit_lies true place p = (p, tt)

  index_lies : (counts : Bool) (place : ℕ) → place ≤ end → LieBy end (indexes counts place)
  index_lies false place p = tt
  index_lies true place p = (p, (p, (p, tt)))

  open_lies : (slots place : ℕ) → place ≤ end → LieBy end (opens slots place)
  open_lies zero place p = tt
  open_lies (suc n) place p = (p, tt)

  leave_lies : (place n : ℕ) → place ≤ end → LieBy end (leaves place n)
  leave_lies place zero p = tt
  leave_lies place (suc n) p = (p, leave_lies place n p)

  -- places of labels change no place of the text
  settled_lie : (labels : List (ℕ × ℕ)) (list : List Instr) → LieBy end list → LieBy end (map (settled labels) list)
  settled_lie labels [] b = tt
  settled_lie labels (i ∷ list) b = (b.0, settled_lie labels list b.1)

  mutual
    lies : (tree : Tree) (at : ℕ) → BeginsBy end tree → LieBy end (stretch tree at)
    lies (operation place op order parts) at b = lie-append (stretches parts at) (instr place (does_of op (count parts)) ∷ []) (all_lie parts at b.1) (b.0, tt)
    lies (together parts) at b = all_lie parts at b
    lies (phrases place before final) at b =
        let m = at + sizes before in lie-append (stretches before at) (stretch final m) (all_lie before at b.1) (lies final m b.2)
    lies (labelled place steps) at b = settled_lie (label_places steps at) (step_stretches place (at + step_sizes steps) steps at) (steps_lie place (at + step_sizes steps) steps at b.0 b.1)
    lies (jump place label frames height yields) at b = (b, tt)
    lies (range place out slots yields within) at b =
        (b.0, lie-append (stretch within (at + 1)) (instr out (leave yields) ∷ []) (lies within (at + 1) b.2) (b.1, tt))
    lies (choice place enquiry if_true if_false) at b =
        let m = at + size enquiry + 1 in
        let x = m + size if_true + 1 in
        let third = stretch if_false x in
        let jump = instr place (does.Jump (x + size if_false)) in
        lie-append (stretch enquiry at) (instr place (does.Unless x) ∷ (stretch if_true m ++ (jump ∷ third))) (lies enquiry at b.1)
        (b.0, lie-append (stretch if_true m) (jump ∷ third) (lies if_true m b.2) (b.0, lies if_false x b.3))
    lies (cases place enquiry arms out) at b =
        let m = at + size enquiry + 1 in
        let x = m + sizes arms + count arms in
        let each = arm_stretches place (x + size out) arms m in
        lie-append (stretch enquiry at) (instr place (does.Case (with_last (arm_places arms m) x)) ∷ (each ++ stretch out x)) (lies enquiry at b.1)
        (b.0, lie-append each (stretch out x) (arms_lie place (x + size out) arms m b.0 b.2) (lies out x b.3))
    lies (conformity place union members yields enquiry specs out) at b =
        let m = at + size enquiry + 1 in
        let x = m + spec_sizes specs in
        let each = spec_stretches place (x + size out) yields specs m in
        lie-append (stretch enquiry at) (instr place (does.Member union (member_places members specs (spec_places specs m) x) (wholes_of members specs)) ∷ (each ++ stretch out x)) (lies enquiry at b.1)
        (b.0, lie-append each (stretch out x) (specs_lie place (x + size out) yields specs m b.0 b.2) (lies out x b.3))
    lies (loop place controls limited counts test body) at b =
        let n = depth_of counts test in
        let out = leaves place n in
        let lim = limits limited place in
        let idx = indexes counts place in
        let t = at + sizes controls + length lim + 1 in
        let w = t + 2 + length idx in
        let x = w + test_size test in
        let f = x + size body + n + 2 in
        let e = f + n in
        let out_lies = leave_lies place n b.0 in
        let last = instr place does.Forget ∷ [] in
        let tail = instr place (does.Advance t) ∷ instr place (does.Jump e) ∷ (out ++ last) in
        let tail_lies : LieBy end tail = (b.0, (b.0, lie-append out last out_lies (b.0, tt))) in
        let r3 = stretch body x ++ (out ++ tail) in
        let r3_lies : LieBy end r3 = lie-append (stretch body x) (out ++ tail) (lies body x b.3) (lie-append out tail out_lies tail_lies) in
        let r2 = test_stretch place f test w ++ r3 in
        let r2_lies : LieBy end r2 = lie-append (test_stretch place f test w) r3 (test_lies place f test w b.0 b.2) r3_lies in
        let head = instr place does.Counter ∷ instr place (does.Step e) ∷ instr place does.Turn ∷ (idx ++ r2) in
        let head_lies : LieBy end head = (b.0, (b.0, (b.0, lie-append idx r2 (index_lies counts place b.0) r2_lies))) in
        lie-append (stretches controls at) (lim ++ head) (all_lie controls at b.1) (lie-append lim head (limit_lies limited place b.0) head_lies)
    lies (call place yields no_trees) at b = tt
    lies (call place yields (primary and_tree parts)) at b =
        lie-append (stretches (primary and_tree parts) at) (instr place (does.Call (count parts) yields) ∷ []) (all_lie (primary and_tree parts) at b.1) (b.0, tt)
    lies (parallel place numbers) at b = (b, tt)
    lies meaningless at b = tt

    all_lie : (trees : Trees) (at : ℕ) → AllBeginBy end trees → LieBy end (stretches trees at)
    all_lie no_trees at b = tt
    all_lie (tree and_tree trees) at b =
        let m = at + size tree in lie-append (stretch tree at) (stretches trees m) (lies tree at b.0) (all_lie trees m b.1)

    arms_lie : (place e : ℕ) (trees : Trees) (at : ℕ) → place ≤ end → AllBeginBy end trees → LieBy end (arm_stretches place e trees at)
    arms_lie place e no_trees at p b = tt
    arms_lie place e (tree and_tree trees) at p b =
        let m = at + size tree + 1 in
        lie-append (stretch tree at) (instr place (does.Jump e) ∷ arm_stretches place e trees m) (lies tree at b.0) (p, arms_lie place e trees m p b.1)

    specs_lie : (place e : ℕ) (yields : Bool) (specs : Specs) (at : ℕ) → place ≤ end → SpecsBeginBy end specs → LieBy end (spec_stretches place e yields specs at)
    specs_lie place e yields no_specs at p b = tt
    specs_lie place e yields (spec takes true united part behind) at p b =
        let n = at + (3 + size part + 1) in (
          p,
          (
            p,
            lie-append (stretch part (at + 2)) (instr place (leave yields) ∷ instr place (does.Jump e) ∷ spec_stretches place e yields behind n) (lies part (at + 2) b.0)
                (p, (p, specs_lie place e yields behind n p b.1)),
          ),
        )
    specs_lie place e yields (spec takes false united part behind) at p b =
        let n = at + (1 + size part + 1) in
        (p, lie-append (stretch part (at + 1)) (instr place (does.Jump e) ∷ spec_stretches place e yields behind n) (lies part (at + 1) b.0) (p, specs_lie place e yields behind n p b.1))

    steps_lie : (place e : ℕ) (steps : Steps) (at : ℕ) → place ≤ end → StepsBeginBy end steps → LieBy end (step_stretches place e steps at)
    steps_lie place e (last_step labels tree) at p b = lies tree at b
    steps_lie place e (step labels tree more) at p b =
        let m = at + size tree in lie-append (stretch tree at) (step_stretches place e more m) (lies tree at b.0) (steps_lie place e more m p b.1)
    steps_lie place e (exit labels tree more) at p b =
        let m = at + size tree + 1 in
        lie-append (stretch tree at) (instr place (does.Jump e) ∷ step_stretches place e more m) (lies tree at b.0) (p, steps_lie place e more m p b.1)

    test_lies : (place f : ℕ) (test : Test) (at : ℕ) → place ≤ end → TestBeginsBy end test → LieBy end (test_stretch place f test at)
    test_lies place f no_test at p b = tt
    test_lies place f (while_in begin slots test) at p b =
        let m = at + length (opens slots begin) in
        lie-append (opens slots begin) (stretch test m ++ instr place (does.Unless f) ∷ []) (open_lies slots begin b.0)
        (lie-append (stretch test m) (instr place (does.Unless f) ∷ []) (lies test m b.1) (p, tt))

  apart_lie : (xs : List Apart) (at : ℕ) → ApartBeginBy end xs → LieBy end (apart_stretches xs at)
  apart_lie [] at b = tt
  apart_lie (routine_text body ∷ more) at b =
      let m = at + (size body.tree + 1) in
      let last = instr body.place does.Return ∷ [] in
      lie-append (apart_stretch (routine_text body) at) (apart_stretches more m) (lie-append (stretch body.tree at) last (lies body.tree at b.0.1) (b.0.0, tt)) (apart_lie more m b.1)
  apart_lie (parallel_unit unit ∷ more) at b =
      let m = at + (size unit.tree + 1) in
      let last = instr unit.place does.Close ∷ [] in
      lie-append (apart_stretch (parallel_unit unit) at) (apart_stretches more m) (lie-append (stretch unit.tree at) last (lies unit.tree at b.0.1) (b.0.0, tt)) (apart_lie more m b.1)

  -- entrances of units in the place of their numbers change no place of the text
  lie-linked : (units : List ℕ) (list : List Instr) → LieBy end list → LieBy end (map (linked units) list)
  lie-linked units [] b = tt
  lie-linked units (i ∷ list) b = (b.0, lie-linked units list b.1)

  program_lies : (program : Program) → ProgramBeginsBy end program → LieBy end (listing program)
  program_lies program b =
      let m = size program.tree + 1 in
      lie-linked (units_entered program) (written program)
      (lie-append (stretch program.tree 0) (instr program.place does.End ∷ apart_stretches program.apart m) (lies program.tree 0 b.tree) (b.place, apart_lie program.apart m b.apart))

-- a program that is too long is refused at one of its constructs
pub refused_by : (program : Program) (end : ℕ) (refusal : Refusal) → ProgramBeginsBy end program → IsTooLong (listing program) refusal → refusal.place ≤ end
refused_by program end refusal b t = lie-get end (listing program) most refusal.place (program_lies end program b) t.place

-- each instruction of the code of a program begins where a construct of it does
pub code_begins_by : (program : Program) (code : Code) (end : ℕ) → Translates program code → ProgramBeginsBy end program → (at : ℕ) (i : Instr) → slice_get code.list at ≡ Some i → i.place ≤ end
code_begins_by program code end t b at i e =
    lie-at end (listing program) at i (program_lies end program b) (ap (λ (list : List Instr). slice_get list at) (sym (listed program code t)) ∙ e)
