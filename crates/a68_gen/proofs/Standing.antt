-- A tree's instructions stand where they were listed.
use Rattle.std.proofs.Common.{◌≡◌, ◌<◌, ◌≤◌, ℕ, zero, suc, ◌+◌, Bool, true, false, List, [], ◌∷◌, ◌++◌, length, refl, sym, ◌∙◌, ap, subst, arith, length-append, Some, slice_get}
use Rattle.std.proofs.lemmas.Bool.{false≢true}
use Rattle.std.specs.Prelude.{⊤, map}
use Rattle.a68_base.specs.declared.limits.TheConstants.{MOST_INSTRUCTIONS}
use Rattle.a68_builder.proofs.Knowing.{far_is}
use Rattle.a68_builder.specs.Labels.{far, settled, settled_does}
use Rattle.a68_builder.specs.Linking.{entrances_numbered, linked, linked_does}
use Rattle.a68_code.specs.declared.code.Code.{Code}
use Rattle.a68_code.specs.declared.code.Instr.{Instr}
use Rattle.a68_code.specs.declared.code.RoutineEntrance.{RoutineEntrance}
use Rattle.a68_code.specs.declared.does.Does.{Does}
use Rattle.a68_code.specs.declared.does.Does.TheVariants as does
use Rattle.a68_elab.specs.Programs.{Seat, first_seat, over, further_in, one_if}
use Rattle.a68_elab.specs.Programs.{in_clause as seat_in_clause}
use Rattle.a68_elab.specs.Trees.{Tree, Trees, operation, together, phrases, labelled, jump, range, choice, cases, conformity, loop, call, parallel, meaningless, no_trees, ◌and_tree◌, count, Steps, last_step, step, exit, labels_of, Specs, no_specs, spec, Test, no_test, while_in, deeper, depth_of, Apart, routine_text, parallel_unit, Program}
use Rattle.a68_modes.specs.declared.shape.Shape.{Shape}
use Rattle.a68_emit.specs.Listing.{instr, limits, indexes, opens, leaves, size, sizes, spec_sizes, step_sizes, test_size, arm_places, spec_places, label_places, stretch, stretches, arm_stretches, spec_stretches, step_stretches, test_stretch, apart_stretch, apart_stretches, text_entrances, unit_entrances, written, texts_entered, units_entered}
use Rattle.a68_gen.proofs.Heights.{bit}
use Rattle.a68_gen.proofs.Seated.{AreSeated, IsSeated, Matches, SpecsSeated, StepsSeated, TestSeated, matches_clause, matches_further, matches_level, matches_on, matches_over}
use Rattle.a68_gen.proofs.Settling.{AreNear, goes_to, near_places, settled_none, settled_twice, step_places, unsettled}
use Rattle.a68_gen.specs.Fits.{Fits, AllFit, SpecsFit, StepsFit, TestFits, ApartFits}
use Rattle.a68_emit.specs.Stretches.{does_of, leave, Has, Limits, Indexes, EntersSlots, Leaves, Lie, above, deeper_by, in_clause, outermost, Stands, StandAll, StandArms, StandSpecs, StandSteps, Tests, StandApart, member_places, wholes_of, with_last, Translates}
use Rattle.a68_emit.proofs.Fronts.{get-behind, get-front}
use Rattle.a68_emit.proofs.Entering.{are_entrances, get-map, map-long, unlinked}
use Rattle.a68_emit.proofs.Sizes.{apart_sizes, size_apart, size_leaves, size_one, size_stretch, size_stretches, size_arms, size_specs, size_test}

-- the instructions stand in the code from a place on, with the entrances of units in the place of their numbers, and with the
-- places of these labels
pub record Holds (code : Code) (labels : List (ℕ × ℕ)) (at : ℕ) (list : List Instr) : Type 0 where
  pub each : (k : ℕ) (i : Instr) → slice_get list k ≡ Some i → slice_get code.list (at + k) ≡ Some (linked code.units (settled labels i))

-- a list that stands is one front that stands, and one rest
pub holds-front : {code : Code} {labels : List (ℕ × ℕ)} {at : ℕ} (xs ys : List Instr) → Holds code labels at (xs ++ ys) → Holds code labels at xs
holds-front xs ys h = record { each = λ k i p. h.each k i (get-front xs ys k i p) }

pub holds-behind : {code : Code} {labels : List (ℕ × ℕ)} {at : ℕ} (xs ys : List Instr) → Holds code labels at (xs ++ ys) → Holds code labels (at + length xs) ys
holds-behind {code = code} {labels = labels} {at = at} xs ys h =
    record { each = λ k i p. let e : at + length xs + k ≡ at + (length xs + k) = omega arith in rw e (h.each (length xs + k) i (get-behind xs ys k ∙ p)) }

-- the rest behind a front of a known length
pub holds-on : {code : Code} {labels : List (ℕ × ℕ)} {at : ℕ} (n : ℕ) (xs ys : List Instr) → length xs ≡ n → Holds code labels at (xs ++ ys) → Holds code labels (at + n) ys
holds-on {code = code} {labels = labels} {at = at} n xs ys e h = subst (λ (k : ℕ). Holds code labels (at + k) ys) e (holds-behind xs ys h)

pub holds-tail : {code : Code} {labels : List (ℕ × ℕ)} {at : ℕ} (x : Instr) (xs : List Instr) → Holds code labels at (x ∷ xs) → Holds code labels (at + 1) xs
holds-tail {code = code} {labels = labels} {at = at} x xs h = record { each = λ k i p. let e : at + 1 + k ≡ at + suc k = omega arith in rw e (h.each (suc k) i p) }

pub holds-head : {code : Code} {labels : List (ℕ × ℕ)} {at : ℕ} (x : Instr) (xs : List Instr) → Holds code labels at (x ∷ xs) → slice_get code.list at ≡ Some (linked code.units (settled labels x))
holds-head {code = code} {labels = labels} {at = at} x xs h = let e : at + 0 ≡ at = omega arith in rw e at (h.each 0 x refl)

-- the labels of a clause have their places too
settled_holds : (code : Code) (labels own : List (ℕ × ℕ)) (at : ℕ) (xs : List Instr) → AreNear own → Holds code labels at (map (settled own) xs) → Holds code (own ++ labels) at xs
settled_holds code labels own at xs near h =
    record { each = λ k i p. h.each k (settled own i) (get-map (settled own) xs k i p) ∙ ap (λ (x : Instr). Some (linked code.units x)) (settled_twice own labels i near) }

-- a stretch that ends at one place ends at an equal one
to_end : (code : Code) (lie : Lie) (gives : Bool) (tree : Tree) (a : ℕ) {b c : ℕ} → b ≡ c → Stands code lie gives tree a b → Stands code lie gives tree a c
to_end code lie gives tree a e s = subst (λ z. Stands code lie gives tree a z) e s

all_to_end : (code : Code) (lie : Lie) (gives : Bool) (trees : Trees) (a : ℕ) {b c : ℕ} → b ≡ c → StandAll code lie gives trees a b → StandAll code lie gives trees a c
all_to_end code lie gives trees a e s = subst (λ z. StandAll code lie gives trees a z) e s

-- one instruction at the front of what stands
has : (code : Code) (labels : List (ℕ × ℕ)) (place : ℕ) (d : Does) (at : ℕ) (xs : List Instr) → Holds code labels at (instr place d ∷ xs) → Has code place (linked_does code.units (settled_does labels d)) at (at + 1)
has code labels place d at xs h = (holds-head (instr place d) xs h, refl)

-- TO's own step
limit_stands : (code : Code) (labels : List (ℕ × ℕ)) (limited : Bool) (place at : ℕ) → Holds code labels at (limits limited place) → Limits code limited place at (at + length (limits limited place))
limit_stands code labels false place at h = omega arith
limit_stands code labels true place at h = (holds-head (instr place (does.Apply 26)) [] h, refl)

-- the frame of FOR
index_stands : (code : Code) (labels : List (ℕ × ℕ)) (counts : Bool) (place at : ℕ) → Holds code labels at (indexes counts place) → Indexes code counts place at (at + length (indexes counts place))
index_stands code labels false place at h = omega arith
index_stands code labels true place at h =
    let enter = instr place (does.Enter 1) in
    let index = instr place does.Index in
    let bind = instr place (does.Bind 0) in
    let h1 = holds-tail {at = at} enter (index ∷ bind ∷ []) h in
    let h2 = holds-tail {at = at + 1} index (bind ∷ []) h1 in
    let e : at + 1 + 1 + 1 ≡ at + length (enter ∷ index ∷ bind ∷ []) = omega arith in
    (at + 1, at + 1 + 1, has code labels place (does.Enter 1) at (index ∷ bind ∷ []) h, has code labels place does.Index (at + 1) (bind ∷ []) h1, (holds-head {at = at + 1 + 1} bind [] h2, e))

-- a frame that is made
open_stands : (code : Code) (labels : List (ℕ × ℕ)) (slots place at : ℕ) → Holds code labels at (opens slots place) → EntersSlots code slots place at (at + length (opens slots place))
open_stands code labels zero place at h = omega arith
open_stands code labels (suc n) place at h =
    let e : at + 1 ≡ at + length (instr place (does.Enter (suc n)) ∷ []) = omega arith in (holds-head (instr place (does.Enter (suc n))) [] h, e)

-- frames that are left
leave_stands : (code : Code) (labels : List (ℕ × ℕ)) (place n at : ℕ) → Holds code labels at (leaves place n) → Leaves code place n at (at + n)
leave_stands code labels place zero at h = omega arith
leave_stands code labels place (suc n) at h =
    let i = instr place (does.Leave 0) in
    let e : at + 1 + n ≡ at + suc n = omega arith in
    (at + 1, has code labels place (does.Leave 0) at (leaves place n) h, subst (λ z. Leaves code place n (at + 1) z) e (leave_stands code labels place n (at + 1) (holds-tail {at = at} i (leaves place n) h)))

-- a tree that leaves a value has an instruction
mutual
  gives_some : (modes : List Shape) (units : ℕ) (tree : Tree) → Fits modes units true tree → 1 ≤ size tree
  gives_some modes units (operation place op order parts) f = omega arith
  gives_some modes units (together parts) f = absurd (false≢true (sym f.0))
  gives_some modes units (phrases place before final) f = let x = gives_some modes units final f.1 in omega arith
  gives_some modes units (labelled place steps) f = steps_some modes units steps f
  gives_some modes units (jump place label frames height yields) f = omega arith
  gives_some modes units (range place out slots yields within) f = omega arith
  gives_some modes units (choice place enquiry if_true if_false) f = omega arith
  gives_some modes units (cases place enquiry arms out) f = omega arith
  gives_some modes units (conformity place union members yields enquiry specs out) f = omega arith
  gives_some modes units (loop place controls limited counts test body) f = omega arith
  gives_some modes units (call place yields no_trees) f = absurd f
  gives_some modes units (call place yields (primary and_tree parts)) f = omega arith
  gives_some modes units (parallel place numbers) f = omega arith
  gives_some modes units meaningless f = absurd f

  steps_some : (modes : List Shape) (units : ℕ) (steps : Steps) → StepsFit modes units true steps → 1 ≤ step_sizes steps
  steps_some modes units (last_step labels tree) f = gives_some modes units tree f
  steps_some modes units (step labels tree more) f = let x = steps_some modes units more f.1 in omega arith
  steps_some modes units (exit labels tree more) f = omega arith

left_some : (modes : List Shape) (units : ℕ) (gives : Bool) (tree : Tree) → Fits modes units gives tree → bit gives ≤ size tree
left_some modes units true tree f = gives_some modes units tree f
left_some modes units false tree f = omega arith

one_few : (b : Bool) → one_if b ≤ 1
one_few true = omega arith
one_few false = omega arith

deeper_few : (slots n : ℕ) → deeper slots n ≤ n + 1
deeper_few zero n = omega arith
deeper_few (suc k) n = omega arith

depth_few : (counts : Bool) (test : Test) → depth_of counts test ≤ 2
depth_few counts no_test = let x = one_few counts in omega arith
depth_few counts (while_in at slots t) = let x = one_few counts in let y = deeper_few slots (one_if counts) in omega arith

-- the frame of WHILE has an instruction
deeper_opens : (slots place : ℕ) → deeper slots 0 ≤ length (opens slots place)
deeper_opens zero place = omega arith
deeper_opens (suc n) place = omega arith

mutual
  pub stands : (code : Code) (lie : Lie) (labels : List (ℕ × ℕ)) (s : Seat) (gives : Bool) (tree : Tree) (at : ℕ) → Matches s lie labels at → at + size tree < far → IsSeated s tree
      → Fits code.modes (length code.units) gives tree → Holds code labels at (stretch tree at) → Stands code lie gives tree at (at + size tree)
  stands code lie labels s gives (operation place op order parts) at lies near nums f h =
      let ps = stretches parts at in
      let i = instr place (does_of op (count parts)) in
      let e : at + sizes parts + 1 ≡ at + (sizes parts + 1) = omega arith in (
        at + sizes parts,
        f.0,
        f.1,
        all_stand code lie labels s true parts at lies (omega (arith, near)) nums f.2 (holds-front ps (i ∷ []) h),
        (
          holds-head i [] (holds-on (sizes parts) ps (i ∷ []) (size_stretches parts at) h)
              ∙ ap (λ (d : Does). Some (instr place d)) (ap (linked_does code.units) (unsettled labels op (count parts)) ∙ unlinked code.units op (count parts)),
          e,
        ),
      )
  stands code lie labels s gives (together parts) at lies near nums f h = (f.0, all_stand code lie labels s false parts at lies near nums f.1 h)
  stands code lie labels s gives (phrases place before final) at lies near nums f h =
      let m = at + sizes before in
      let first = stretches before at in
      let e : m + size final ≡ at + (sizes before + size final) = omega arith in (
        m,
        all_stand code lie labels s false before at lies (omega (arith, near)) nums.0 f.0 (holds-front first (stretch final m) h),
        to_end code lie gives final m e
            (stands code lie labels s gives final m (matches_on s lie labels at m (omega arith) lies) (omega (arith, near)) nums.1 f.1
            (holds-on (sizes before) first (stretch final m) (size_stretches before at) h)),
      )
  stands code lie labels s gives (labelled place steps) at lies near nums f h =
      let e = at + step_sizes steps in
      let own = label_places steps at in (
        step_places steps at,
        steps_stand code (in_clause steps (step_places steps at) lie) (own ++ labels) (seat_in_clause (labels_of steps) s) gives place e steps at (matches_clause steps s lie labels at lies)
            near nums f (settled_holds code labels own at (step_stretches place e steps at) (near_places steps at near) h),
      )
  stands code lie labels s gives (jump place label frames height yields) at lies near nums f h =
      let x = lies.found label nums.0 nums.1 in
      let same : frames ≡ x.clause.frames = (let d = nums.2 in let e = x.frames in omega arith) in (
        x.clause,
        x.to,
        x.is,
        x.stands,
        same,
        nums.3 ∙ x.height,
        f,
        (
          holds-head (instr place (does.Goto (far + label) frames height yields)) [] h
              ∙ ap (λ (n : ℕ). Some (instr place (does.Goto n frames height yields))) (goes_to labels label x.to x.settles),
          refl,
        ),
      )
  stands code lie labels s gives (range place out slots yields within) at lies near nums f h =
      let inside = stretch within (at + 1) in
      let l = instr out (leave yields) in
      let enter = instr place (does.Enter slots) in
      let h1 = holds-tail {at = at} enter (inside ++ l ∷ []) h in
      let h2 = holds-on {at = at + 1} (size within) inside (l ∷ []) (size_stretch within (at + 1)) h1 in
      let e : at + 1 + size within + 1 ≡ at + (size within + 2) = omega arith in (
        at + 1,
        at + 1 + size within,
        f.0,
        has code labels place (does.Enter slots) at (inside ++ l ∷ []) h,
        stands code (deeper_by 1 lie) labels (further_in 1 s) gives within (at + 1) (matches_further 1 s lie labels at (at + 1) (omega arith) (omega (arith, near)) lies) (omega (arith, near)) nums f.1
            (holds-front inside (l ∷ []) h1),
        (holds-head l [] h2 ∙ ap (λ (b : Bool). Some (instr out (leave b))) (sym f.0), e),
      )
  stands code lie labels s gives (choice place enquiry if_true if_false) at lies near nums f h =
      let m = at + size enquiry in
      let n = m + 1 + size if_true in
      let x = n + 1 in
      let first = stretch enquiry at in
      let second = stretch if_true (m + 1) in
      let third = stretch if_false x in
      let unless = instr place (does.Unless x) in
      let jump = instr place (does.Jump (x + size if_false)) in
      let behind = second ++ (jump ∷ third) in
      let h1 = holds-on {at = at} (size enquiry) first (unless ∷ behind) (size_stretch enquiry at) h in
      let h2 = holds-tail {at = m} unless behind h1 in
      let h3 = holds-on {at = m + 1} (size if_true) second (jump ∷ third) (size_stretch if_true (m + 1)) h2 in
      let e : x + size if_false ≡ at + (size enquiry + 1 + size if_true + 1 + size if_false) = omega arith in
      let jumps : slice_get code.list n ≡ Some (instr place (does.Jump (at + size (choice place enquiry if_true if_false)))) =
      holds-head {at = n} jump third h3 ∙ ap (λ (z : ℕ). Some (instr place (does.Jump z))) e in (
        m,
        m + 1,
        n,
        x,
        stands code lie labels s true enquiry at lies (omega (arith, near)) nums.0 f.0 (holds-front first (unless ∷ behind) h),
        has code labels place (does.Unless x) m behind h1,
        stands code lie labels s gives if_true (m + 1) (matches_on s lie labels at (m + 1) (omega arith) lies) (omega (arith, near)) nums.1 f.1 (holds-front second (jump ∷ third) h2),
        (jumps, refl),
        to_end code lie gives if_false x e
            (stands code lie labels s gives if_false x (matches_on s lie labels at x (omega arith) lies) (omega (arith, near)) nums.2 f.2 (holds-tail {at = n} jump third h3)),
      )
  stands code lie labels s gives (cases place enquiry arms out) at lies near nums f h =
      let m = at + size enquiry in
      let x = m + 1 + sizes arms + count arms in
      let e = x + size out in
      let b = at + size (cases place enquiry arms out) in
      let last : e ≡ b = omega arith in
      let first = stretch enquiry at in
      let second = arm_stretches place e arms (m + 1) in
      let third = stretch out x in
      let case = instr place (does.Case (with_last (arm_places arms (m + 1)) x)) in
      let h1 = holds-on {at = at} (size enquiry) first (case ∷ (second ++ third)) (size_stretch enquiry at) h in
      let h2 = holds-tail {at = m} case (second ++ third) h1 in
      let h3 = holds-on {at = m + 1} (sizes arms + count arms) second third (size_arms place e arms (m + 1)) h2 in
      let same : m + 1 + (sizes arms + count arms) ≡ x = omega arith in
      let h4 : Holds code labels x third = subst (λ z. Holds code labels z third) same h3 in
      let each = arms_stand code lie labels s gives place e arms (m + 1) (matches_on s lie labels at (m + 1) (omega arith) lies) (omega (arith, near)) nums.1 f.1 (holds-front second third h2) in (
        m,
        m + 1,
        x,
        arm_places arms (m + 1),
        stands code lie labels s true enquiry at lies (omega (arith, near)) nums.0 f.0 (holds-front first (case ∷ (second ++ third)) h),
        has code labels place (does.Case (with_last (arm_places arms (m + 1)) x)) m (second ++ third) h1,
        subst (λ z. StandArms code lie gives place z arms (arm_places arms (m + 1)) (m + 1) x) last each,
        to_end code lie gives out x last (stands code lie labels s gives out x (matches_on s lie labels at x (omega arith) lies) (omega (arith, near)) nums.2 f.2 h4),
      )
  stands code lie labels s gives (conformity place union members yields enquiry specs out) at lies near nums f h =
      let m = at + size enquiry in
      let x = m + 1 + spec_sizes specs in
      let e = x + size out in
      let b = at + size (conformity place union members yields enquiry specs out) in
      let last : e ≡ b = omega arith in
      let ps = spec_places specs (m + 1) in
      let first = stretch enquiry at in
      let second = spec_stretches place e yields specs (m + 1) in
      let third = stretch out x in
      let d = does.Member union (member_places members specs ps x) (wholes_of members specs) in
      let member = instr place d in
      let h1 = holds-on {at = at} (size enquiry) first (member ∷ (second ++ third)) (size_stretch enquiry at) h in
      let h2 = holds-tail {at = m} member (second ++ third) h1 in
      let h3 = holds-on {at = m + 1} (spec_sizes specs) second third (size_specs place e yields specs (m + 1)) h2 in
      let each = specs_stand code lie labels s gives yields place e specs (m + 1) (matches_on s lie labels at (m + 1) (omega arith) lies) (omega (arith, near)) nums.1 f.0 f.3 (holds-front second third h2) in (
        m,
        m + 1,
        x,
        ps,
        f.0,
        f.1,
        stands code lie labels s true enquiry at lies (omega (arith, near)) nums.0 f.2 (holds-front first (member ∷ (second ++ third)) h),
        has code labels place d m (second ++ third) h1,
        subst (λ z. StandSpecs code lie gives place z specs ps (m + 1) x) last each,
        to_end code lie gives out x last (stands code lie labels s gives out x (matches_on s lie labels at x (omega arith) lies) (omega (arith, near)) nums.2 f.4 h3),
      )
  stands code lie labels s gives (loop place controls limited counts test body) at lies near nums f h =
      let k = depth_of counts test in
      let lim = limits limited place in
      let idx = indexes counts place in
      let out = leaves place k in
      let c = at + sizes controls in
      let c' = c + length lim in
      let t = c' + 1 in
      let u = t + 2 in
      let w = u + length idx in
      let x = w + test_size test in
      let n = x + size body in
      let n' = n + k in
      let q = n' + 2 in
      let e = q + k in
      let first = stretches controls at in
      let asks = test_stretch place q test w in
      let does_body = stretch body x in
      let counter = instr place does.Counter in
      let step = instr place (does.Step e) in
      let turn = instr place does.Turn in
      let advance = instr place (does.Advance t) in
      let jump = instr place (does.Jump e) in
      let forget = instr place does.Forget in
      let rest5 = out ++ (forget ∷ []) in
      let rest4 = out ++ (advance ∷ jump ∷ rest5) in
      let rest3 = does_body ++ rest4 in
      let rest2 = asks ++ rest3 in
      let rest1 = idx ++ rest2 in
      let head = counter ∷ step ∷ turn ∷ rest1 in
      let h0 = holds-on {at = at} (sizes controls) first (lim ++ head) (size_stretches controls at) h in
      let h1 = holds-behind {at = c} lim head h0 in
      let h2 = holds-tail {at = c'} counter (step ∷ turn ∷ rest1) h1 in
      let h3 = holds-tail {at = t} step (turn ∷ rest1) h2 in
      let two : t + 1 + 1 ≡ u = omega arith in
      let h4 : Holds code labels u rest1 = subst (λ z. Holds code labels z rest1) two (holds-tail {at = t + 1} turn rest1 h3) in
      let h5 = holds-behind {at = u} idx rest2 h4 in
      let h6 = holds-on {at = w} (test_size test) asks rest3 (size_test place q test w) h5 in
      let h7 = holds-on {at = x} (size body) does_body rest4 (size_stretch body x) h6 in
      let h8 = holds-on {at = n} k out (advance ∷ jump ∷ rest5) (size_leaves place k) h7 in
      let h9 = holds-tail {at = n'} advance (jump ∷ rest5) h8 in
      let three : n' + 1 + 1 ≡ q = omega arith in
      let h10 : Holds code labels q rest5 = subst (λ z. Holds code labels z rest5) three (holds-tail {at = n' + 1} jump rest5 h9) in
      let h11 = holds-on {at = q} k out (forget ∷ []) (size_leaves place k) h10 in
      let last : e + 1 ≡ at + size (loop place controls limited counts test body) = omega arith in
      let far_t : t < far = omega (arith, near) in
      let far_w : w + test_size test < far = omega (arith, near) in
      let far_n : x + size body < far = omega (arith, near) in
      let few = one_few counts in
      let deep = depth_few counts test in
      let over_counter = matches_over true s lie labels at t (omega arith) far_t lies in
      let asked = matches_further (one_if counts) (over true s) (above true lie) labels t w (omega (arith, few)) (omega (arith, far_w)) over_counter in
      let turned = matches_further k (over true s) (above true lie) labels t x (omega (arith, deep)) (omega (arith, far_n)) over_counter in (
        c,
        c',
        t,
        t + 1,
        u,
        w,
        x,
        n,
        n',
        n' + 1,
        q,
        e,
        f.0,
        f.1,
        all_stand code lie labels s true controls at lies (omega (arith, near)) nums.0 f.2 (holds-front first (lim ++ head) h),
        limit_stands code labels limited place c (holds-front lim head h0),
        has code labels place does.Counter c' (step ∷ turn ∷ rest1) h1,
        has code labels place (does.Step e) t (turn ∷ rest1) h2,
        (holds-head {at = t + 1} turn rest1 h3, two),
        index_stands code labels counts place u (holds-front {at = u} idx rest2 h4),
        test_stands code (deeper_by (one_if counts) (above true lie)) labels (further_in (one_if counts) (over true s)) place q test w asked far_w nums.1 f.3 (holds-front asks rest3 h5),
        stands code (deeper_by k (above true lie)) labels (further_in k (over true s)) false body x turned far_n nums.2 f.4 (holds-front does_body rest4 h6),
        leave_stands code labels place k n (holds-front out (advance ∷ jump ∷ rest5) h7),
        has code labels place (does.Advance t) n' (jump ∷ rest5) h8,
        (holds-head {at = n' + 1} jump rest5 h9, three),
        leave_stands code labels place k q (holds-front out (forget ∷ []) h10),
        (holds-head {at = e} forget [] h11, last),
      )
  stands code lie labels s gives (call place yields no_trees) at lies near nums f h = absurd f
  stands code lie labels s gives (call place yields (primary and_tree parts)) at lies near nums f h =
      let ps = stretches (primary and_tree parts) at in
      let i = instr place (does.Call (count parts) yields) in
      let n = sizes (primary and_tree parts) in
      let e : at + n + 1 ≡ at + (n + 1) = omega arith in (
        at + n,
        f.0,
        all_stand code lie labels s true (primary and_tree parts) at lies (omega (arith, near)) nums f.1 (holds-front ps (i ∷ []) h),
        (holds-head i [] (holds-on n ps (i ∷ []) (size_stretches (primary and_tree parts) at) h), e),
      )
  stands code lie labels s gives (parallel place numbers) at lies near nums f h =
      (entrances_numbered code.units numbers, f.0, f.1, are_entrances code.units numbers f.2, (holds-head (instr place (does.Fork numbers)) [] h, refl))
  stands code lie labels s gives meaningless at lies near nums f h = absurd f

  pub all_stand : (code : Code) (lie : Lie) (labels : List (ℕ × ℕ)) (s : Seat) (gives : Bool) (trees : Trees) (at : ℕ) → Matches s lie labels at → at + sizes trees < far → AreSeated s gives trees
      → AllFit code.modes (length code.units) gives trees → Holds code labels at (stretches trees at) → StandAll code lie gives trees at (at + sizes trees)
  all_stand code lie labels s gives no_trees at lies near nums f h = omega arith
  all_stand code lie labels s gives (tree and_tree trees) at lies near nums f h =
      let m = at + size tree in
      let first = stretch tree at in
      let some = left_some code.modes (length code.units) gives tree f.0 in
      let e : m + sizes trees ≡ at + (size tree + sizes trees) = omega arith in (
        m,
        stands code lie labels s gives tree at lies (omega (arith, near)) nums.0 f.0 (holds-front first (stretches trees m) h),
        all_to_end code (above gives lie) gives trees m e
            (all_stand code (above gives lie) labels (over gives s) gives trees m (matches_over gives s lie labels at m (omega (arith, some)) (omega (arith, near)) lies) (omega (arith, near)) nums.1 f.1
            (holds-on (size tree) first (stretches trees m) (size_stretch tree at) h)),
      )

  arms_stand : (code : Code) (lie : Lie) (labels : List (ℕ × ℕ)) (s : Seat) (gives : Bool) (place e : ℕ) (trees : Trees) (at : ℕ) → Matches s lie labels at → at + sizes trees + count trees < far → AreSeated s false trees
      → AllFit code.modes (length code.units) gives trees → Holds code labels at (arm_stretches place e trees at)
      → StandArms code lie gives place e trees (arm_places trees at) at (at + sizes trees + count trees)
  arms_stand code lie labels s gives place e no_trees at lies near nums f h = omega arith
  arms_stand code lie labels s gives place e (tree and_tree trees) at lies near nums f h =
      let m = at + size tree in
      let first = stretch tree at in
      let jump = instr place (does.Jump e) in
      let rest = arm_stretches place e trees (m + 1) in
      let h1 = holds-on {at = at} (size tree) first (jump ∷ rest) (size_stretch tree at) h in
      let end : m + 1 + sizes trees + count trees ≡ at + (size tree + sizes trees) + suc (count trees) = omega arith in
      let each = arms_stand code lie labels s gives place e trees (m + 1) (matches_on s lie labels at (m + 1) (omega arith) lies) (omega (arith, near)) nums.1 f.1 (holds-tail {at = m} jump rest h1) in (
        m,
        m + 1,
        refl,
        stands code lie labels s gives tree at lies (omega (arith, near)) nums.0 f.0 (holds-front first (jump ∷ rest) h),
        has code labels place (does.Jump e) m rest h1,
        subst (λ z. StandArms code lie gives place e trees (arm_places trees (m + 1)) (m + 1) z) end each,
      )

  specs_stand : (code : Code) (lie : Lie) (labels : List (ℕ × ℕ)) (s : Seat) (gives yields : Bool) (place e : ℕ) (specs : Specs) (at : ℕ) → Matches s lie labels at → at + spec_sizes specs < far → SpecsSeated s specs → gives ≡ yields
      → SpecsFit code.modes (length code.units) gives specs → Holds code labels at (spec_stretches place e yields specs at) → StandSpecs code lie gives place e specs (spec_places specs at) at (at + spec_sizes specs)
  specs_stand code lie labels s gives yields place e no_specs at lies near nums eg f h = omega arith
  specs_stand code lie labels s gives yields place e (spec takes true united part behind) at lies near nums eg f h =
      let n = at + 2 in
      let q = n + size part in
      let z = at + (3 + size part + 1) in
      let enter = instr place (does.Enter 1) in
      let bind = instr place (does.Bind 0) in
      let l = instr place (leave yields) in
      let jump = instr place (does.Jump e) in
      let first = stretch part n in
      let rest = spec_stretches place e yields behind z in
      let two : at + 1 + 1 ≡ n = omega arith in
      let next : q + 1 + 1 ≡ z = omega arith in
      let h1 = holds-tail {at = at} enter (bind ∷ (first ++ (l ∷ jump ∷ rest))) h in
      let h2 : Holds code labels n (first ++ (l ∷ jump ∷ rest)) = subst (λ z. Holds code labels z (first ++ (l ∷ jump ∷ rest))) two (holds-tail {at = at + 1} bind (first ++ (l ∷ jump ∷ rest)) h1) in
      let h3 = holds-on {at = n} (size part) first (l ∷ jump ∷ rest) (size_stretch part n) h2 in
      let h4 = holds-tail {at = q} l (jump ∷ rest) h3 in
      let h5 : Holds code labels z rest = subst (λ z. Holds code labels z rest) next (holds-tail {at = q + 1} jump rest h4) in
      let end : z + spec_sizes behind ≡ at + (3 + size part + 1 + spec_sizes behind) = omega arith in
      let each = specs_stand code lie labels s gives yields place e behind z (matches_on s lie labels at z (omega arith) lies) (omega (arith, near)) nums.1 eg f.1 h5 in (
        at + 1,
        n,
        q,
        q + 1,
        z,
        refl,
        has code labels place (does.Enter 1) at (bind ∷ (first ++ (l ∷ jump ∷ rest))) h,
        (holds-head {at = at + 1} bind (first ++ (l ∷ jump ∷ rest)) h1, two),
        stands code (deeper_by 1 lie) labels (further_in 1 s) gives part n (matches_further 1 s lie labels at n (omega arith) (omega (arith, near)) lies) (omega (arith, near)) nums.0 f.0 (holds-front first (l ∷ jump ∷ rest) h2),
        (holds-head {at = q} l (jump ∷ rest) h3 ∙ ap (λ (b : Bool). Some (instr place (leave b))) (sym eg), refl),
        (holds-head {at = q + 1} jump rest h4, next),
        subst (λ y. StandSpecs code lie gives place e behind (spec_places behind z) z y) end each,
      )
  specs_stand code lie labels s gives yields place e (spec takes false united part behind) at lies near nums eg f h =
      let n = at + 1 in
      let q = n + size part in
      let z = at + (1 + size part + 1) in
      let drop_it = instr place does.Drop in
      let jump = instr place (does.Jump e) in
      let first = stretch part n in
      let rest = spec_stretches place e yields behind z in
      let next : q + 1 ≡ z = omega arith in
      let h1 = holds-tail {at = at} drop_it (first ++ (jump ∷ rest)) h in
      let h2 = holds-on {at = n} (size part) first (jump ∷ rest) (size_stretch part n) h1 in
      let h3 : Holds code labels z rest = subst (λ z. Holds code labels z rest) next (holds-tail {at = q} jump rest h2) in
      let end : z + spec_sizes behind ≡ at + (1 + size part + 1 + spec_sizes behind) = omega arith in
      let each = specs_stand code lie labels s gives yields place e behind z (matches_on s lie labels at z (omega arith) lies) (omega (arith, near)) nums.1 eg f.1 h3 in (
        n,
        q,
        z,
        refl,
        has code labels place does.Drop at (first ++ (jump ∷ rest)) h,
        stands code lie labels (further_in 0 s) gives part n (matches_level s lie labels at n (omega arith) (omega (arith, near)) lies) (omega (arith, near)) nums.0 f.0 (holds-front first (jump ∷ rest) h1),
        (holds-head {at = q} jump rest h2, next),
        subst (λ y. StandSpecs code lie gives place e behind (spec_places behind z) z y) end each,
      )

  steps_stand : (code : Code) (lie : Lie) (labels : List (ℕ × ℕ)) (s : Seat) (gives : Bool) (place e : ℕ) (steps : Steps) (at : ℕ) → Matches s lie labels at → at + step_sizes steps < far → StepsSeated s steps
      → StepsFit code.modes (length code.units) gives steps → Holds code labels at (step_stretches place e steps at) → StandSteps code lie gives place e steps (step_places steps at) at (at + step_sizes steps)
  steps_stand code lie labels s gives place e (last_step ls tree) at lies near nums f h = (refl, stands code lie labels s gives tree at lies near nums f h)
  steps_stand code lie labels s gives place e (step ls tree more) at lies near nums f h =
      let m = at + size tree in
      let first = stretch tree at in
      let rest = step_stretches place e more m in
      let end : m + step_sizes more ≡ at + (size tree + step_sizes more) = omega arith in (
        m,
        refl,
        stands code lie labels s false tree at lies (omega (arith, near)) nums.0 f.0 (holds-front first rest h),
        subst (λ z. StandSteps code lie gives place e more (step_places more m) m z) end
            (steps_stand code lie labels s gives place e more m (matches_on s lie labels at m (omega arith) lies) (omega (arith, near)) nums.1 f.1 (holds-on (size tree) first rest (size_stretch tree at) h)),
      )
  steps_stand code lie labels s gives place e (exit ls tree more) at lies near nums f h =
      let m = at + size tree in
      let first = stretch tree at in
      let jump = instr place (does.Jump e) in
      let rest = step_stretches place e more (m + 1) in
      let h1 = holds-on {at = at} (size tree) first (jump ∷ rest) (size_stretch tree at) h in
      let end : m + 1 + step_sizes more ≡ at + (size tree + 1 + step_sizes more) = omega arith in (
        m,
        m + 1,
        refl,
        stands code lie labels s gives tree at lies (omega (arith, near)) nums.0 f.0 (holds-front first (jump ∷ rest) h),
        has code labels place (does.Jump e) m rest h1,
        subst (λ z. StandSteps code lie gives place e more (step_places more (m + 1)) (m + 1) z) end
            (steps_stand code lie labels s gives place e more (m + 1) (matches_on s lie labels at (m + 1) (omega arith) lies) (omega (arith, near)) nums.1 f.1 (holds-tail {at = m} jump rest h1)),
      )

  test_stands : (code : Code) (lie : Lie) (labels : List (ℕ × ℕ)) (s : Seat) (place f : ℕ) (test : Test) (at : ℕ) → Matches s lie labels at → at + test_size test < far → TestSeated s test
      → TestFits code.modes (length code.units) test → Holds code labels at (test_stretch place f test at) → Tests code lie test place f at (at + test_size test)
  test_stands code lie labels s place f no_test at lies near nums fit h = omega arith
  test_stands code lie labels s place f (while_in begin slots test) at lies near nums fit h =
      let open_ = opens slots begin in
      let m = at + length open_ in
      let n = m + size test in
      let unless = instr place (does.Unless f) in
      let asks = stretch test m in
      let h1 = holds-behind {at = at} open_ (asks ++ unless ∷ []) h in
      let few = deeper_opens slots begin in
      let e : n + 1 ≡ at + (length open_ + size test + 1) = omega arith in (
        m,
        n,
        open_stands code labels slots begin at (holds-front open_ (asks ++ unless ∷ []) h),
        stands code (deeper_by (deeper slots 0) lie) labels (further_in (deeper slots 0) s) true test m
            (matches_further (deeper slots 0) s lie labels at m (omega (arith, few)) (omega (arith, near)) lies) (omega (arith, near)) nums fit (holds-front asks (unless ∷ []) h1),
        (holds-head unless [] (holds-on {at = m} (size test) asks (unless ∷ []) (size_stretch test m) h1), e),
      )

-- a list that is all of the code stands from its first place on
holds-all : (code : Code) (list : List Instr) → code.list ≡ map (linked code.units) list → Holds code [] 0 list
holds-all code list e =
    record {
      each = λ k i p.
          let z : 0 + k ≡ k = omega arith in
          rw (z, e) (get-map (linked code.units) list k i p) ∙ ap (λ (x : Instr). Some (linked code.units x)) (sym (settled_none i));
    }

-- ---- what stands apart

-- the jumps in it have their numbers
abbrev pub ApartSeated : List Apart → Type 0
ApartSeated [] = ⊤
ApartSeated (routine_text body ∷ more) = IsSeated first_seat body.tree × ApartSeated more
ApartSeated (parallel_unit unit ∷ more) = IsSeated first_seat unit.tree × ApartSeated more

-- no label is about the beginning of an activation
matches_first : (at : ℕ) → Matches first_seat outermost [] at
matches_first at = record { high = refl; low = omega arith; deep = omega arith; found = λ label mark is. absurd (cc) }

-- what stands apart stands behind one another
apart_stands : (code : Code) (xs : List Apart) (at : ℕ) → at + apart_sizes xs ≤ far → ApartSeated xs → ApartFits code.modes (length code.units) xs → Holds code [] at (apart_stretches xs at)
    → StandApart code xs (text_entrances xs at) (unit_entrances xs at) at (at + apart_sizes xs)
apart_stands code [] at near nums f h = omega arith
apart_stands code (routine_text body ∷ more) at near nums f h =
    let k = size body.tree in
    let n = at + (k + 1) in
    let x = routine_text body in
    let first = stretch body.tree at in
    let last = instr body.place does.Return in
    let rest = apart_stretches more n in
    let h1 = holds-front (apart_stretch x at) rest h in
    let h2 = holds-on {at = at} (k + 1) (apart_stretch x at) rest (size_one x at) h in
    let e : at + k + 1 ≡ n = omega arith in
    let end : n + apart_sizes more ≡ at + (k + 1 + apart_sizes more) = omega arith in (
      at + k,
      n,
      refl,
      stands code outermost [] first_seat body.yields body.tree at (matches_first at) (omega (arith, near)) nums.0 f.0 (holds-front first (last ∷ []) h1),
      (holds-head last [] (holds-on k first (last ∷ []) (size_stretch body.tree at) h1), e),
      subst (λ (z : ℕ). StandApart code more (text_entrances more n) (unit_entrances more n) n z) end (apart_stands code more n (omega (arith, near)) nums.1 f.1 h2),
    )
apart_stands code (parallel_unit unit ∷ more) at near nums f h =
    let k = size unit.tree in
    let n = at + (k + 1) in
    let x = parallel_unit unit in
    let first = stretch unit.tree at in
    let last = instr unit.place does.Close in
    let rest = apart_stretches more n in
    let h1 = holds-front (apart_stretch x at) rest h in
    let h2 = holds-on {at = at} (k + 1) (apart_stretch x at) rest (size_one x at) h in
    let e : at + k + 1 ≡ n = omega arith in
    let end : n + apart_sizes more ≡ at + (k + 1 + apart_sizes more) = omega arith in (
      at + k,
      n,
      refl,
      stands code outermost [] first_seat false unit.tree at (matches_first at) (omega (arith, near)) nums.0 f.0 (holds-front first (last ∷ []) h1),
      (holds-head last [] (holds-on k first (last ∷ []) (size_stretch unit.tree at) h1), e),
      subst (λ (z : ℕ). StandApart code more (text_entrances more n) (unit_entrances more n) n z) end (apart_stands code more n (omega (arith, near)) nums.1 f.1 h2),
    )

-- code that is the listing of a program whose parts fit, and whose jumps have their numbers, translates it
pub translated : (program : Program) (code : Code) → code.list ≡ map (linked code.units) (written program) → code.texts ≡ texts_entered program → code.units ≡ units_entered program
    → code.modes ≡ program.modes → length code.list ≤ MOST_INSTRUCTIONS → IsSeated first_seat program.tree → ApartSeated program.apart → Fits code.modes (length code.units) false program.tree
    → ApartFits code.modes (length code.units) program.apart → Translates program code
translated program code listed texts units modes short nums all_nums fits all_fit =
    let list = stretch program.tree 0 in
    let i = instr program.place does.End in
    let n = size program.tree in
    let rest = apart_stretches program.apart (n + 1) in
    let h = holds-all code (list ++ i ∷ rest) listed in
    let zero_end : 0 + n ≡ n = omega arith in
    let h1 : Holds code [] n (i ∷ rest) = subst (λ (z : ℕ). Holds code [] z (i ∷ rest)) zero_end (holds-on n list (i ∷ rest) (size_stretch program.tree 0) h) in
    let long = size_stretch program.tree 0 in
    let long_apart = size_apart program.apart (n + 1) in
    let front = length-append list (i ∷ rest) in
    let end = n + 1 + apart_sizes program.apart in
    let many : length code.list ≡ end = ap (λ (l : List Instr). length l) listed ∙ map-long (linked code.units) (list ++ i ∷ rest) ∙ omega (arith, front, long, long_apart) in
    let near : end ≤ far = (let most = far_is in omega (arith, many, short, most)) in
    let stand = apart_stands code program.apart (n + 1) near all_nums all_fit (holds-tail {at = n} i rest h1) in
    let by_texts = subst (λ (es : List RoutineEntrance). StandApart code program.apart es (units_entered program) (n + 1) end) (sym texts) stand in
    record {
      end = n;
      last = end;
      stands = to_end code outermost false program.tree 0 zero_end (stands code outermost [] first_seat false program.tree 0 (matches_first 0) (omega (arith, near)) nums fits (holds-front list (i ∷ rest) h));
      ends = (holds-head {at = n} i rest h1, refl);
      apart = subst (λ (us : List ℕ). StandApart code program.apart code.texts us (n + 1) end) (sym units) by_texts;
      no_more = many;
      short = short;
      modes = modes;
    }
