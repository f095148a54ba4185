-- Each instruction of a stretch finds what it takes, and goes on where the heights say so.
use Rattle.std.proofs.Common.{◌≡◌, ◌≢◌, ◌<◌, ◌≤◌, ◌⊎◌, ◌+◌, ◌-◌, ℕ, zero, suc, arith, Bool, true, false, IsTrue, List, [], ◌∷◌, length, get_or, None, Some, refl, sym, ap, ◌∙◌, subst, inl, inr, ⊎_elim, nat_lt, nat_eq}
use Rattle.std.proofs.lemmas.Bool.{le-leb, lt-ltb, eqb-true, eqb-false}
use Rattle.std.proofs.lemmas.Option.{same_Some, slice_get_read}
use Rattle.std.proofs.lemmas.List.Elements.{All-cons, All-contains, All-from_get_or, All-from_recursion, Contains-get_or, Contains-push_cases}
use Rattle.std.proofs.lemmas.List.Sums.{list_all-from_AllPass}
use Rattle.std.specs.List.{All, Contains}
use Rattle.std.specs.Option.{option_map}
use Rattle.std.specs.Prelude.{not, ◌||◌, if◌then◌else◌}
use Rattle.std.specs.declared.option.Option.{Option}
use Rattle.a68_acts.specs.Operations.{Operation, constant, skip, nil, routine, tag, make, heap, bind, deref, store, apply, same, slice, display, vacuum, compose, select, unite, row_up, row_up_name, widen, drop, print, whole, leaves}
use Rattle.a68_code.specs.Flow.{does_at, takes, one_if, MayMeet}
use Rattle.a68_code.specs.Flow as flow
use Rattle.a68_code.proofs.Mapping.{from_map}
use Rattle.a68_code.specs.Operands.{is_well_made}
use Rattle.a68_code.specs.Walk.{ways}
use Rattle.a68_code.specs.Order.{IsInOrder}
use Rattle.a68_code.specs.declared.code.Code.{Code}
use Rattle.a68_code.specs.declared.code.Instr.{Instr}
use Rattle.a68_code.specs.declared.does.Does.{Does}
use Rattle.a68_code.specs.declared.does.Does.TheVariants as does
use Rattle.a68_code.specs.declared.owner.Owner.{Owner}
use Rattle.a68_code.specs.declared.owner.Owner.TheVariants as owner
use Rattle.a68_elab.specs.Rows.{is_among}
use Rattle.a68_elab.specs.Trees.{Tree, Trees, operation, together, phrases, labelled, jump, range, choice, cases, conformity, loop, call, parallel, meaningless, no_trees, ◌and_tree◌, count, Steps, last_step, step, exit, has_label, is_label_in, Specs, no_specs, spec, Test, no_test, while_in, deeper, depth_of}
use Rattle.a68_gen.proofs.Forward.{forward, forward_index, forward_leaves, forward_arms, forward_specs, forward_steps, forward_test}
use Rattle.a68_emit.proofs.Entering.{IsUnit, each_is_unit, entrances_many}
use Rattle.a68_gen.proofs.Members.{both_true, each_served, last_is, taken_or, members_all}
use Rattle.a68_gen.proofs.Heights.{bit, after, after_true, after_false, At, LimitHeights, IndexHeights, OpenHeights, LeaveHeights, HeightsOf, AllHeights, ArmHeights, SpecHeights, StepHeights, TestHeights, nothing_more, starts, starts_all, starts_limit, starts_index, starts_leave, starts_test}
use Rattle.a68_gen.proofs.Seated.{about_nearer}
use Rattle.a68_gen.specs.Operands.{FitsModes, FitAll, SpecsFitModes, StepsFitModes, TestFitsModes}
use Rattle.a68_emit.specs.Stretches.{Around, Has, Limits, Indexes, EntersSlots, Leaves, Lie, about, above, deeper_by, in_clause, outermost, place_of, Stands, StandAll, StandArms, StandSpecs, StandSteps, Tests, place_for, member_places, wholes_of, with_last, does_of, leave}
use Rattle.a68_modes.specs.Nodes.{shape_at, is_void}
use Rattle.a68_modes.specs.declared.shape.Shape.{Shape}

pub none : (x : ℕ) → Contains [] x → ⊥
none x i = let h = i.1 in omega arith

pub only : (x to : ℕ) → Contains (x ∷ []) to → to ≡ x
only x to i = ⊎_elim (λ j. absurd (none to j)) (λ e. sym e) (Contains-push_cases [] x to i)

-- the same of places with their heights
pub no_way : (x : ℕ × ℕ) → Contains {X = ℕ × ℕ} [] x → ⊥
no_way x i = let h = i.1 in omega arith

one_way : (x to : ℕ × ℕ) → Contains {X = ℕ × ℕ} (x ∷ []) to → to ≡ x
one_way x to i = ⊎_elim (λ j. absurd (no_way to j)) (λ e. sym e) (Contains-push_cases [] x to i)

either : (x y to : ℕ × ℕ) → Contains {X = ℕ × ℕ} (x ∷ (y ∷ [])) to → (to ≡ x) ⊎ (to ≡ y)
either x y to i = ⊎_elim (λ j. inl (one_way x to j)) (λ e. inr (sym e)) (Contains-push_cases (x ∷ []) y to i)

-- the instruction of an operation goes on with the next one, names no place and forks no unit
pub record Straight (list : List Instr) (modes : List Shape) (texts count k : ℕ) (op : Operation) (d : Does) : Type 0 where
  pub lands : (below : ℕ) → ways modes k d below ≡ (k + 1, below + flow.leaves modes d) ∷ []
  pub ordered : IsInOrder list k d
  pub made : is_well_made modes texts count d ≡ is_well_made modes texts 0 d
  pub left : flow.leaves modes d ≡ bit (leaves modes op)
  pub alone : flow.forked_by d ≡ []

straight : (list : List Instr) (modes : List Shape) (texts c k : ℕ) (op : Operation) (n : ℕ) → Straight list modes texts c k op (does_of op n)
straight list modes texts c k (constant v) n = record { lands = λ below. refl; ordered = tt; made = refl; left = refl; alone = refl }
straight list modes texts c k (skip m) n = record { lands = λ below. refl; ordered = tt; made = refl; left = by_void (is_void (shape_at modes m)); alone = refl }
  where
    by_void : (x : Bool) → (if x then 0 else 1) ≡ bit (not x)
    by_void true = refl
    by_void false = refl
straight list modes texts c k (routine text distance) n = record { lands = λ below. refl; ordered = tt; made = refl; left = refl; alone = refl }
straight list modes texts c k nil n = record { lands = λ below. refl; ordered = tt; made = refl; left = refl; alone = refl }
straight list modes texts c k (tag hops slot) n = record { lands = λ below. refl; ordered = tt; made = refl; left = refl; alone = refl }
straight list modes texts c k (make m bounds) n = record { lands = λ below. refl; ordered = tt; made = refl; left = refl; alone = refl }
straight list modes texts c k (heap m bounds) n = record { lands = λ below. refl; ordered = tt; made = refl; left = refl; alone = refl }
straight list modes texts c k (bind slot) n = record { lands = λ below. refl; ordered = tt; made = refl; left = refl; alone = refl }
straight list modes texts c k (deref m) n = record { lands = λ below. refl; ordered = tt; made = refl; left = refl; alone = refl }
straight list modes texts c k (store m) n = record { lands = λ below. refl; ordered = tt; made = refl; left = refl; alone = refl }
straight list modes texts c k (apply r) n = record { lands = λ below. refl; ordered = tt; made = refl; left = by_row (nat_eq r 35 || nat_eq r 36); alone = refl }
  where
    by_row : (x : Bool) → (if x then 0 else 1) ≡ bit (not x)
    by_row true = refl
    by_row false = refl
straight list modes texts c k (same negated) n = record { lands = λ below. refl; ordered = tt; made = refl; left = refl; alone = refl }
straight list modes texts c k (slice forms) n = record { lands = λ below. refl; ordered = tt; made = refl; left = refl; alone = refl }
straight list modes texts c k (display many mode) n = record { lands = λ below. refl; ordered = tt; made = refl; left = refl; alone = refl }
straight list modes texts c k (vacuum mode) n = record { lands = λ below. refl; ordered = tt; made = refl; left = refl; alone = refl }
straight list modes texts c k (compose fields) n = record { lands = λ below. refl; ordered = tt; made = refl; left = refl; alone = refl }
straight list modes texts c k (select m field) n = record { lands = λ below. refl; ordered = tt; made = refl; left = refl; alone = refl }
straight list modes texts c k (unite m) n = record { lands = λ below. refl; ordered = tt; made = refl; left = refl; alone = refl }
straight list modes texts c k (row_up mode) n = record { lands = λ below. refl; ordered = tt; made = refl; left = refl; alone = refl }
straight list modes texts c k (row_up_name mode) n = record { lands = λ below. refl; ordered = tt; made = refl; left = refl; alone = refl }
straight list modes texts c k widen n = record { lands = λ below. refl; ordered = tt; made = refl; left = refl; alone = refl }
straight list modes texts c k drop n = record { lands = λ below. refl; ordered = tt; made = refl; left = refl; alone = refl }
straight list modes texts c k print n = record { lands = λ below. refl; ordered = tt; made = refl; left = refl; alone = refl }
straight list modes texts c k whole n = record { lands = λ below. refl; ordered = tt; made = refl; left = refl; alone = refl }

nil-cons : {l : ℕ × ℕ} {ls : List (ℕ × ℕ)} → ◌≡◌ {A = List (ℕ × ℕ)} (l ∷ ls) [] → ⊥
nil-cons e = let n = ap (λ (x : List (ℕ × ℕ)). length x) e in absurd (omega arith)

-- a way may meet what goes on
may_meet : (whose : Owner) (modes : List Shape) (d : Does) (h k below : ℕ) (l : ℕ × ℕ) (ls : List (ℕ × ℕ)) → ways modes k d below ≡ l ∷ ls → MayMeet whose d h
may_meet owner.Program modes does.Return h k below l ls e = absurd (nil-cons (sym e))
may_meet owner.Program modes does.Close h k below l ls e = absurd (nil-cons (sym e))
may_meet (owner.Texts yields) modes does.End h k below l ls e = absurd (nil-cons (sym e))
may_meet (owner.Texts yields) modes does.Return h k below l ls e = absurd (nil-cons (sym e))
may_meet (owner.Texts yields) modes does.Close h k below l ls e = absurd (nil-cons (sym e))
may_meet owner.Units modes does.End h k below l ls e = absurd (nil-cons (sym e))
may_meet owner.Units modes does.Return h k below l ls e = absurd (nil-cons (sym e))
may_meet owner.Units modes does.Close h k below l ls e = absurd (nil-cons (sym e))
may_meet whose modes d h k below l ls e = tt

case_meets : (whose : Owner) (places : List ℕ) (h : ℕ) → MayMeet whose (does.Case places) h
case_meets owner.Program places h = tt
case_meets (owner.Texts yields) places h = tt
case_meets owner.Units places h = tt

member_meets : (whose : Owner) (mode : ℕ) (places wholes : List ℕ) (h : ℕ) → MayMeet whose (does.Member mode places wholes) h
member_meets owner.Program mode places wholes h = tt
member_meets (owner.Texts yields) mode places wholes h = tt
member_meets owner.Units mode places wholes h = tt

pub bit_is : (b : Bool) → bit b ≡ one_if b
bit_is true = refl
bit_is false = refl

-- The instruction at k finds so many values and forks no strand but for units, ways of the owner may meet it, and W has the height of each place where it goes on
pub record Flows (code : Code) (whose : Owner) (W : ℕ → ℕ → Type 0) (k h : ℕ) : Type 0 where
  pub does : Does
  pub is : does_at code.list k ≡ Some does
  pub below : ℕ
  pub finds : below + takes does ≡ h
  pub leads : (to height : ℕ) → Contains (ways code.modes k does below) (to, height) → W to height
  pub meets : MayMeet whose does h
  pub made : IsTrue (is_well_made code.modes (length code.texts) (length code.list) does)
  pub ordered : IsInOrder code.list k does
  pub forks : (to : ℕ) → Contains (flow.forked_by does) to → IsUnit code.units to

-- what forks nothing forks nothing else
pub no_fork : (code : Code) (d : Does) → flow.forked_by d ≡ [] → (to : ℕ) → Contains (flow.forked_by d) to → IsUnit code.units to
no_fork code d alone to i = absurd (none to (subst (λ (l : List ℕ). Contains l to) alone i))

module _ (code : Code) (whose : Owner) (W : ℕ → ℕ → Type 0) (is_inside : (k h : ℕ) → W k h → k < length code.list) (unit_inside : (to : ℕ) → IsUnit code.units to → to < length code.list) where
  does_is : (k b p : ℕ) (d : Does) → Has code p d k b → does_at code.list k ≡ Some d
  does_is k b p d h = ap (λ (o : Option Instr). option_map (λ instr. instr.does) o) h.0

  at_place : (to to' h h' : ℕ) → to' ≡ to → h ≡ h' → W to h → W to' h'
  at_place to to' h h' e f w = subst (λ (x : ℕ). W x h') (sym e) (subst (W to) f w)

  -- a place to which the machine may jump
  is_place : (to h : ℕ) → W to h → IsTrue (nat_lt to (length code.list))
  is_place to h w = lt-ltb to (length code.list) (is_inside to h w)

  at_flows : (m c : ℕ) → Flows code whose W m c → (k h : ℕ) → At m c k h → Flows code whose W k h
  at_flows m c f k h x = subst (λ (y : ℕ). Flows code whose W y h) (sym x.0) (subst (Flows code whose W m) (sym x.1) f)

  -- a place with its height
  at_way : (to h : ℕ) (way : ℕ × ℕ) → ◌≡◌ {A = ℕ × ℕ} way (to, h) → W to h → W way.0 way.1
  at_way to h way e w = subst (λ (x : ℕ × ℕ). W x.0 x.1) (sym e) w

  -- an instruction that goes on with the next one
  next_by : (k b p : ℕ) (d : Does) (below c : ℕ) → Has code p d k b → ways code.modes k d below ≡ (k + 1, below + flow.leaves code.modes d) ∷ [] → below + takes d ≡ c → W b (below + flow.leaves code.modes d)
      → IsTrue (is_well_made code.modes (length code.texts) (length code.list) d) → IsInOrder code.list k d → ((to : ℕ) → Contains (flow.forked_by d) to → IsUnit code.units to) → Flows code whose W k c
  next_by k b p d below c has lands finds w made ordered forks = record {
    does = d;
    is = does_is k b p d has;
    below = below;
    finds = finds;
    leads = λ to h i. at_way (k + 1) (below + flow.leaves code.modes d) (to, h)
        (one_way (k + 1, below + flow.leaves code.modes d) (to, h) (subst (λ (l : List (ℕ × ℕ)). Contains {X = ℕ × ℕ} l (to, h)) lands i))
        (subst (λ (x : ℕ). W x (below + flow.leaves code.modes d)) (sym has.1) w);
    meets = may_meet whose code.modes d c k below (k + 1, below + flow.leaves code.modes d) [] lands;
    made = made;
    ordered = ordered;
    forks = forks;
  }

  -- and that forks nothing
  next : (k b p : ℕ) (d : Does) (below c : ℕ) → Has code p d k b → ways code.modes k d below ≡ (k + 1, below + flow.leaves code.modes d) ∷ [] → below + takes d ≡ c → W b (below + flow.leaves code.modes d)
      → IsTrue (is_well_made code.modes (length code.texts) (length code.list) d) → IsInOrder code.list k d → flow.forked_by d ≡ [] → Flows code whose W k c
  next k b p d below c has lands finds w made ordered alone = next_by k b p d below c has lands finds w made ordered (no_fork code d alone)

  -- an instruction that goes on with the next one or jumps
  branch : (k b p : ℕ) (d : Does) (below c to : ℕ) → Has code p d k b
      → ways code.modes k d below ≡ (k + 1, below + flow.leaves code.modes d) ∷ ((to, below + flow.leaves code.modes d) ∷ []) → below + takes d ≡ c → W b (below + flow.leaves code.modes d)
      → W to (below + flow.leaves code.modes d) → IsTrue (is_well_made code.modes (length code.texts) (length code.list) d) → IsInOrder code.list k d → flow.forked_by d ≡ [] → Flows code whose W k c
  branch k b p d below c x has lands finds w w' made ordered alone = record {
    does = d;
    is = does_is k b p d has;
    below = below;
    finds = finds;
    leads = λ to h i.
        let left = below + flow.leaves code.modes d in
        ⊎_elim (λ e. at_way (k + 1) left (to, h) e (subst (λ (x : ℕ). W x left) (sym has.1) w)) (λ e. at_way x left (to, h) e w')
        (either (k + 1, left) (x, left) (to, h) (subst (λ (l : List (ℕ × ℕ)). Contains {X = ℕ × ℕ} l (to, h)) lands i));
    meets = may_meet whose code.modes d c k below (k + 1, below + flow.leaves code.modes d) ((x, below + flow.leaves code.modes d) ∷ []) lands;
    made = made;
    ordered = ordered;
    forks = no_fork code d alone;
  }

  jumps : (k b p to h : ℕ) → Has code p (does.Jump to) k b → k < to → W to h → Flows code whose W k h
  jumps k b p x h has less w = record {
    does = does.Jump x;
    is = does_is k b p (does.Jump x) has;
    below = h;
    finds = omega arith;
    leads = λ to g i. at_way x (h + 0) (to, g) (one_way (x, h + 0) (to, g) i) (at_place x x h (h + 0) refl (omega arith) w);
    meets = may_meet whose code.modes (does.Jump x) h k h (x, h + 0) [] refl;
    made = is_place x h w;
    ordered = less;
    forks = no_fork code (does.Jump x) refl;
  }

  leave_made : (g : Bool) → IsTrue (is_well_made code.modes (length code.texts) (length code.list) (leave g))
  leave_made true = refl
  leave_made false = refl

  leave_takes : (g : Bool) → takes (leave g) ≡ bit g
  leave_takes true = refl
  leave_takes false = refl

  leave_leaves : (g : Bool) → flow.leaves code.modes (leave g) ≡ bit g
  leave_leaves true = refl
  leave_leaves false = refl

  -- TO's own step
  limit_flows : (limited : Bool) (p a b : ℕ) (s : Limits code limited p a b) (base : ℕ) → W b (base + 3) → (k h : ℕ) → LimitHeights code limited p a b s base k h → Flows code whose W k h
  limit_flows false p a b s base out k h x = absurd x
  limit_flows true p a b s base out k h x =
      at_flows a (base + 3)
      (next a b p (does.Apply 26) (base + 2) (base + 3) s refl (omega arith) (at_place b b (base + 3) (base + 2 + 1) refl (omega arith) out) refl tt refl) k h x

  -- the frame of FOR
  index_flows : (counts : Bool) (p a b : ℕ) (s : Indexes code counts p a b) (base : ℕ) → ((k h : ℕ) → IndexHeights code counts p a b s base k h → W k h) → W b (base + 1)
      → (k h : ℕ) → IndexHeights code counts p a b s base k h → Flows code whose W k h
  index_flows false p a b s base into out k h x = absurd x
  index_flows true p a b s base into out k h (inl x) =
      at_flows a (base + 1)
      (next a s.0 p (does.Enter 1) (base + 1) (base + 1) s.2 refl (omega arith) (at_place s.0 s.0 (base + 1) (base + 1 + 0) refl (omega arith) (into s.0 (base + 1) (inr (inl (refl, refl))))) refl tt refl) k h x
  index_flows true p a b s base into out k h (inr (inl x)) =
      at_flows s.0 (base + 1) (next s.0 s.1 p does.Index base (base + 1) s.3 refl refl (into s.1 (base + 2) (inr (inr (refl, refl)))) refl tt refl) k h x
  index_flows true p a b s base into out k h (inr (inr x)) =
      at_flows s.1 (base + 2)
      (next s.1 b p (does.Bind 0) (base + 1) (base + 2) s.4 refl (omega arith) (at_place b b (base + 1) (base + 1 + 0) refl (omega arith) out) refl tt refl) k h x

  -- a frame that is made
  open_flows : (n p a b : ℕ) (s : EntersSlots code n p a b) (base : ℕ) → W b base → (k h : ℕ) → OpenHeights code n p a b s base k h → Flows code whose W k h
  open_flows zero p a b s base out k h x = absurd x
  open_flows (suc n) p a b s base out k h x =
      at_flows a base (next a b p (does.Enter (suc n)) base base s refl (omega arith) (at_place b b base (base + 0) refl (omega arith) out) refl tt refl) k h x

  -- frames that are left
  leave_flows : (p n a b : ℕ) (s : Leaves code p n a b) (base : ℕ) → ((k h : ℕ) → LeaveHeights code p n a b s base k h → W k h) → W b base
      → (k h : ℕ) → LeaveHeights code p n a b s base k h → Flows code whose W k h
  leave_flows p zero a b s base into out k h x = absurd x
  leave_flows p (suc n) a b s base into out k h (inl x) =
      at_flows a base (next a s.0 p (does.Leave 0) base base s.1 refl (omega arith) (at_place s.0 s.0 base (base + 0) refl (omega arith) first) refl tt refl) k h x
    where
      first : W s.0 base
      first = ⊎_elim (λ y. into s.0 base (inr y)) (λ e. subst (λ (y : ℕ). W y base) (sym e) out) (starts_leave code p n s.0 b s.2 base)
  leave_flows p (suc n) a b s base into out k h (inr x) = leave_flows p n s.0 b s.2 base (λ k h y. into k h (inr y)) out k h x

  -- what holds where the parts of a choice begin, and at one place more, holds at all places of a list
  arms_all : (lie : Lie) (g : Bool) (p e : ℕ) (ts : Trees) (ps : List ℕ) (a b : ℕ) (s : StandArms code lie g p e ts ps a b) (base x : ℕ) (P : ℕ → Type 0)
      → ((k : ℕ) → a ≤ k → ArmHeights code lie g p e ts ps a b s base k base → P k) → P x → All P (with_last ps x)
  arms_all lie g p e no_trees [] a b s base x P each last = All-cons P x [] last (All-from_recursion P [] tt)
  arms_all lie g p e no_trees (q ∷ ps) a b s base x P each last = absurd s
  arms_all lie g p e (t and_tree ts) [] a b s base x P each last = absurd s
  arms_all lie g p e (t and_tree ts) (q ∷ ps) a b s base x P each last =
      All-cons P q (with_last ps x) (subst P (sym s.2) (each a (omega arith) (⊎_elim (λ y. inl y) (λ e. inr (inl (e.0, nothing_more base g e.1))) (starts code lie g t a s.0 s.3 base))))
      (arms_all lie g p e ts ps s.1 b s.5 base x P (λ k le y. each k (let f = forward code lie g t a s.0 s.3 in let z = s.4.1 in omega arith) (inr (inr y))) last)

  -- what holds where the specifications stand, over a value, and at one place more, holds where each member is taken
  specs_all : (lie : Lie) (g : Bool) (p e : ℕ) (specs : Specs) (ps : List ℕ) (a b : ℕ) (s : StandSpecs code lie g p e specs ps a b) (base : ℕ) (P : ℕ → Type 0)
      → ((k : ℕ) → a ≤ k → k < b → SpecHeights code lie g p e specs ps a b s base k (base + 1) → P k) → P b → (m : ℕ) → P (place_for m specs ps b)
  specs_all lie g p e no_specs [] a b s base P each last m = last
  specs_all lie g p e no_specs (q ∷ ps) a b s base P each last m = absurd s
  specs_all lie g p e (spec takes true united t behind) [] a b s base P each last m = absurd s
  specs_all lie g p e (spec takes false united t behind) [] a b s base P each last m = absurd s
  specs_all lie g p e (spec takes true united t behind) (q ∷ ps) a b s base P each last m =
      let f = forward code (deeper_by 1 lie) g t s.1 s.2 s.8 in let r = forward_specs code lie g p e behind ps s.4 b s.11 in
      let i = s.6.1 in let j = s.7.1 in let y = s.9.1 in let z = s.10.1 in
      taken_or P (is_among m takes) q (place_for m behind ps b) (subst P (sym s.5) (each a (omega arith) (omega arith) (inl (refl, refl))))
      (specs_all lie g p e behind ps s.4 b s.11 base P (λ k le less x. each k (omega arith) less (inr (inr (inr (inr (inr x)))))) last m)
  specs_all lie g p e (spec takes false united t behind) (q ∷ ps) a b s base P each last m =
      let f = forward code lie g t s.0 s.1 s.5 in let r = forward_specs code lie g p e behind ps s.2 b s.7 in
      let i = s.4.1 in let z = s.6.1 in
      taken_or P (is_among m takes) q (place_for m behind ps b) (subst P (sym s.3) (each a (omega arith) (omega arith) (inl (refl, refl))))
      (specs_all lie g p e behind ps s.2 b s.7 base P (λ k le less x. each k (omega arith) less (inr (inr (inr x)))) last m)

  -- a place of a Member, by whether it is that for none
  at_test : (to last base : ℕ) → (to ≡ last → W to base) → (to ≢ last → W to (base + 1)) → W to (base + (if nat_eq to last then 0 else 1))
  at_test to last base at_last elsewhere = by_test (nat_eq to last) (eqb-true to last) (eqb-false to last)
    where
      by_test : (t : Bool) → (t ≡ true → to ≡ last) → (t ≡ false → to ≢ last) → W to (base + (if t then 0 else 1))
      by_test true alike differ = at_place to to base (base + 0) refl (omega arith) (at_last (alike refl))
      by_test false alike differ = elsewhere (differ refl)

  some_last : (ps : List ℕ) (x : ℕ) → nat_lt 0 (length (with_last ps x)) ≡ true
  some_last [] x = refl
  some_last (p ∷ ps) x = lt-ltb 0 (length (with_last (p ∷ ps) x)) (omega arith)

  -- a tree is reached at its height, whether it is empty or not
  begun : (lie : Lie) (g : Bool) (t : Tree) (a b : ℕ) (s : Stands code lie g t a b) (base : ℕ) → ((k h : ℕ) → HeightsOf code lie g t a b s base k h → W k h) → W b (base + bit g) → W a base
  begun lie g t a b s base into out =
      ⊎_elim (λ y. into a base y)
      (λ e. at_place b a (base + bit g) base e.0 (sym (nothing_more base g e.1)) out)
      (starts code lie g t a b s base)

  begun_steps : (lie : Lie) (g : Bool) (p e : ℕ) (steps : Steps) (ps : List ℕ) (a b : ℕ) (s : StandSteps code lie g p e steps ps a b) (base : ℕ)
      → ((k h : ℕ) → StepHeights code lie g p e steps ps a b s base k h → W k h) → W b (base + bit g) → W a base
  begun_steps lie g p e (last_step ls t) [] a b s base into out = absurd s
  begun_steps lie g p e (step ls t more) [] a b s base into out = absurd s
  begun_steps lie g p e (exit ls t more) [] a b s base into out = absurd s
  begun_steps lie g p e (last_step ls t) (q ∷ (r ∷ ps)) a b s base into out = absurd s
  begun_steps lie g p e (last_step ls t) (q ∷ []) a b s base into out = begun lie g t a b s.1 base into out
  begun_steps lie g p e (step ls t more) (q ∷ ps) a b s base into out =
      begun lie false t a s.0 s.2 base (λ k h y. into k h (inl y))
      (at_place s.0 s.0 base (base + 0) refl (omega arith) (begun_steps lie g p e more ps s.0 b s.3 base (λ k h y. into k h (inr y)) out))
  begun_steps lie g p e (exit ls t more) (q ∷ ps) a b s base into out =
      begun lie g t a s.0 s.3 base (λ k h y. into k h (inl y)) (into s.0 (base + bit g) (inr (inl (refl, refl))))

  -- ---- labels

  here_or : (q to base : ℕ) (x : Bool) (later : Option ℕ) → (if x then Some q else later) ≡ Some to → W q base → (later ≡ Some to → W to base) → W to base
  here_or q to base true later is first more = subst (λ (n : ℕ). W n base) (same_Some q to is) first
  here_or q to base false later is first more = more is

  -- a label of a clause stands at the height of the clause
  steps_placed : (lie : Lie) (g : Bool) (p e : ℕ) (steps : Steps) (ps : List ℕ) (a b : ℕ) (s : StandSteps code lie g p e steps ps a b) (base : ℕ)
      → ((k h : ℕ) → StepHeights code lie g p e steps ps a b s base k h → W k h) → W b (base + bit g) → (label to : ℕ) → place_of label steps ps ≡ Some to → W to base
  steps_placed lie g p e (last_step ls t) [] a b s base into out label to is = absurd s
  steps_placed lie g p e (step ls t more) [] a b s base into out label to is = absurd s
  steps_placed lie g p e (exit ls t more) [] a b s base into out label to is = absurd s
  steps_placed lie g p e (last_step ls t) (q ∷ (r ∷ ps)) a b s base into out label to is = absurd s
  steps_placed lie g p e (last_step ls t) (q ∷ []) a b s base into out label to is =
      here_or q to base (is_label_in label ls) None is (subst (λ (n : ℕ). W n base) (sym s.0) (begun lie g t a b s.1 base into out)) (λ i. absurd (cc))
  steps_placed lie g p e (step ls t more) (q ∷ ps) a b s base into out label to is =
      here_or q to base (is_label_in label ls) (place_of label more ps) is (subst (λ (n : ℕ). W n base) (sym s.1) (begun_steps lie g p e (step ls t more) (q ∷ ps) a b s base into out))
      (steps_placed lie g p e more ps s.0 b s.3 base (λ k h y. into k h (inr y)) out label to)
  steps_placed lie g p e (exit ls t more) (q ∷ ps) a b s base into out label to is =
      here_or q to base (is_label_in label ls) (place_of label more ps) is (subst (λ (n : ℕ). W n base) (sym s.2) (begun_steps lie g p e (exit ls t more) (q ∷ ps) a b s base into out))
      (steps_placed lie g p e more ps s.1 b s.5 base (λ k h y. into k h (inr (inr y))) out label to)

  -- The activation has so many values where a tree begins. No clause with labels about it began over more, and each label stands
  -- at the height of its clause.
  pub record Rests (lie : Lie) (base : ℕ) : Type 0 where
    pub high : lie.height ≡ base
    pub low : (label : ℕ) (c : Around) → about label lie.around ≡ Some c → c.height ≤ base
    pub placed : (label : ℕ) (c : Around) (to : ℕ) → about label lie.around ≡ Some c → place_of label c.steps c.places ≡ Some to → W to c.height

  pub rests_first : Rests outermost 0
  rests_first = record { high = refl; low = λ label c is. absurd (cc); placed = λ label c to is at. absurd (cc) }

  rests_over : (g : Bool) (lie : Lie) (base : ℕ) → Rests lie base → Rests (above g lie) (base + bit g)
  rests_over true lie base r = record { high = (let e = r.high in omega arith); low = λ label c is. (let l = r.low label c is in omega arith); placed = r.placed }
  rests_over false lie base r = record { high = (let e = r.high in omega arith); low = λ label c is. (let l = r.low label c is in omega arith); placed = r.placed }

  rests_further : (n : ℕ) (lie : Lie) (base : ℕ) → Rests lie base → Rests (deeper_by n lie) base
  rests_further n lie base r = record {
    high = r.high;
    low = λ label c is. let d = about_nearer n label c lie.around is in let l = r.low label d.nearer d.is in let e = ap (λ (x : Around). x.height) d.same in omega arith;
    placed = λ label c to is at.
        let d = about_nearer n label c lie.around is in
        subst (λ (x : Around). W to x.height) (sym d.same) (r.placed label d.nearer to d.is (subst (λ (x : Around). place_of label x.steps x.places ≡ Some to) d.same at));
  }

  rests_clause : (steps : Steps) (places : List ℕ) (lie : Lie) (base : ℕ) → Rests lie base → ((label to : ℕ) → place_of label steps places ≡ Some to → W to base) → Rests (in_clause steps places lie) base
  rests_clause steps places lie base r each = record {
    high = r.high;
    low = λ label c is. low_by label c (has_label label steps) is;
    placed = λ label c to is at. placed_by label c to (has_label label steps) is at;
  }
    where
      here : Around
      here = record { frames = 0; height = lie.height; steps = steps; places = places }

      low_by : (label : ℕ) (c : Around) (x : Bool) → (if x then Some here else about label lie.around) ≡ Some c → c.height ≤ base
      low_by label c true is = let e = ap (λ (y : Around). y.height) (same_Some here c is) in let h = r.high in omega arith
      low_by label c false is = r.low label c is

      placed_by : (label : ℕ) (c : Around) (to : ℕ) (x : Bool) → (if x then Some here else about label lie.around) ≡ Some c → place_of label c.steps c.places ≡ Some to → W to c.height
      placed_by label c to true is at =
          let same : here ≡ c = same_Some here c is in
          subst (λ (y : Around). W to y.height) same (subst (W to) (sym r.high) (each label to (subst (λ (y : Around). place_of label y.steps y.places ≡ Some to) (sym same) at)))
      placed_by label c to false is at = r.placed label c to is at

  -- the places of a loop, in order
  in_loop : (lie : Lie) (g : Bool) (p : ℕ) (controls : Trees) (limited counts : Bool) (test : Test) (body : Tree) (a b : ℕ) (s : Stands code lie g (loop p controls limited counts test body) a b)
      → (s.2 < s.11) × (s.6 ≤ s.10) × (s.2 < s.8) × (s.8 < s.11) × (s.9 < s.11)
  in_loop lie g p controls limited counts test body a b s =
      let i = forward_index code counts p s.4 s.5 s.19 in let o = forward_test code (deeper_by (if counts then 1 else 0) (above true lie)) test p s.10 s.5 s.6 s.20 in let y = forward code (deeper_by (depth_of counts test) (above true lie)) false body s.6 s.7 s.21 in
      let l = forward_leaves code p (depth_of counts test) s.7 s.8 s.22 in let r = forward_leaves code p (depth_of counts test) s.10 s.11 s.25 in
      let p2 = s.17.1 in let p3 = s.18.1 in let p5 = s.23.1 in let p6 = s.24.1 in
      (omega arith, omega arith, omega arith, omega arith, omega arith)

  -- the places of a loop with their heights
  record LoopHeights (lie : Lie) (g : Bool) (p : ℕ) (controls : Trees) (limited counts : Bool) (test : Test) (body : Tree) (a b : ℕ) (s : Stands code lie g (loop p controls limited counts test body) a b) (base : ℕ) : Type 0 where
    at_c : W s.0 (base + 3)
    at_c' : W s.1 (base + 3)
    at_t : W s.2 (base + 1)
    at_t' : W s.3 (base + 1)
    at_u : W s.4 (base + 1)
    at_w : W s.5 (base + 1)
    at_x : W s.6 (base + 1)
    at_n : W s.7 (base + 1)
    at_n' : W s.8 (base + 1)
    at_v : W s.9 (base + 1)
    at_f : W s.10 (base + 1)
    at_e : W s.11 (base + 1)

  loop_heights : (lie : Lie) (g : Bool) (p : ℕ) (controls : Trees) (limited counts : Bool) (test : Test) (body : Tree) (a b : ℕ) (s : Stands code lie g (loop p controls limited counts test body) a b) (base : ℕ) → ((k h : ℕ) → HeightsOf code lie g (loop p controls limited counts test body) a b s base k h → W k h) → LoopHeights lie g p controls limited counts test body a b s base
  loop_heights lie g p controls limited counts test body a b s base into =
      let at_e : W s.11 (base + 1) = into s.11 (base + 1) (inr (inr (inr (inr (inr (inr (inr (inr (inr (inr (inr (inr (refl, refl))))))))))))) in
      let at_v : W s.9 (base + 1) = into s.9 (base + 1) (inr (inr (inr (inr (inr (inr (inr (inr (inr (inr (inl (refl, refl)))))))))))) in
      let at_n' : W s.8 (base + 1) = into s.8 (base + 1) (inr (inr (inr (inr (inr (inr (inr (inr (inr (inl (refl, refl))))))))))) in
      let at_n : W s.7 (base + 1) =
      ⊎_elim (λ y. into s.7 (base + 1) (inr (inr (inr (inr (inr (inr (inr (inr (inl y)))))))))) (λ e. subst (λ (y : ℕ). W y (base + 1)) (sym e) at_n') (starts_leave code p (depth_of counts test) s.7 s.8 s.22 (base + 1)) in
      let at_x : W s.6 (base + 1) =
      begun (deeper_by (depth_of counts test) (above true lie)) false body s.6 s.7 s.21 (base + 1) (λ k h y. into k h (inr (inr (inr (inr (inr (inr (inr (inl y))))))))) (at_place s.7 s.7 (base + 1) (base + 1 + 0) refl (omega arith) at_n) in
      let at_c' : W s.1 (base + 3) = into s.1 (base + 3) (inr (inr (inl (refl, refl)))) in
      let at_w : W s.5 (base + 1) = ⊎_elim (λ y. into s.5 (base + 1) (inr (inr (inr (inr (inr (inr (inl y)))))))) (λ e. subst (λ (y : ℕ). W y (base + 1)) (sym e) at_x) (starts_test code (deeper_by (if counts then 1 else 0) (above true lie)) test p s.10 s.5 s.6 s.20 (base + 1)) in
      record {
        at_c = ⊎_elim (λ y. into s.0 (base + 3) (inr (inl y))) (λ e. subst (λ (y : ℕ). W y (base + 3)) (sym e) at_c') (starts_limit code limited p s.0 s.1 s.15 base);
        at_c' = at_c';
        at_t = into s.2 (base + 1) (inr (inr (inr (inl (refl, refl)))));
        at_t' = into s.3 (base + 1) (inr (inr (inr (inr (inl (refl, refl))))));
        at_u = ⊎_elim (λ y. into s.4 (base + 1) (inr (inr (inr (inr (inr (inl y))))))) (λ e. subst (λ (y : ℕ). W y (base + 1)) (sym e) at_w) (starts_index code counts p s.4 s.5 s.19 base);
        at_w = at_w;
        at_x = at_x;
        at_n = at_n;
        at_n' = at_n';
        at_v = at_v;
        at_f = ⊎_elim (λ y. into s.10 (base + 1) (inr (inr (inr (inr (inr (inr (inr (inr (inr (inr (inr (inl y))))))))))))) (λ e. subst (λ (y : ℕ). W y (base + 1)) (sym e) at_e) (starts_leave code p (depth_of counts test) s.10 s.11 s.25 (base + 1));
        at_e = at_e;
      }

  mutual
    pub flows : (lie : Lie) (g : Bool) (t : Tree) (a b : ℕ) (s : Stands code lie g t a b) (base : ℕ) → Rests lie base → FitsModes code.modes (length code.texts) t → ((k h : ℕ) → HeightsOf code lie g t a b s base k h → W k h)
        → W b (base + bit g) → (k h : ℕ) → HeightsOf code lie g t a b s base k h → Flows code whose W k h
    flows lie g (operation p op o parts) a b s base rests fit into out k h (inl x) =
        flows_all lie true parts a s.0 s.3 base rests fit.1 (λ k h y. into k h (inl y)) (into s.0 (after true parts base) (inr (refl, refl))) k h x
    flows lie g (operation p op o parts) a b s base rests fit into out k h (inr x) = at_flows s.0 (after true parts base) here k h x
      where
        n : ℕ
        n = count parts

        straightly : Straight code.list code.modes (length code.texts) (length code.list) s.0 op (does_of op n)
        straightly = straight code.list code.modes (length code.texts) (length code.list) s.0 op n

        here : Flows code whose W s.0 (after true parts base)
        here =
            next s.0 b p (does_of op n) base _ s.4 (straightly.lands base) (ap (λ (x : ℕ). base + x) s.2 ∙ sym (after_true parts base))
            (subst (W b) (ap (λ (x : ℕ). base + x) (ap bit s.1 ∙ sym straightly.left)) out)
            (subst IsTrue (sym straightly.made) fit.0) straightly.ordered straightly.alone
    flows lie g (together parts) a b s base rests fit into out k h x =
        flows_all lie false parts a b s.1 base rests fit into (subst (W b) (sym (nothing_more base g s.0) ∙ sym (after_false parts base)) out) k h x
    flows lie g (phrases p before final) a b s base rests fit into out k h (inl x) =
        flows_all lie false before a s.0 s.1 base rests fit.0 (λ k h y. into k h (inl y))
        (subst (W s.0) (sym (after_false before base)) (begun lie g final s.0 b s.2 base (λ k h y. into k h (inr y)) out)) k h x
    flows lie g (phrases p before final) a b s base rests fit into out k h (inr x) = flows lie g final s.0 b s.2 base rests fit.1 (λ k h y. into k h (inr y)) out k h x
    flows lie g (labelled p steps) a b s base rests fit into out k h x =
        let inner = in_clause steps s.0 lie in
        steps_flow inner g p b steps s.0 a b s.1 base (rests_clause steps s.0 lie base rests (steps_placed inner g p b steps s.0 a b s.1 base into out)) fit into out out (omega arith) k h x
    flows lie g (jump p label frames height yields) a b s base rests fit into out k h x = at_flows a base here k h x
      where
        d : Does
        d = does.Goto s.1 frames height yields

        low : height ≤ base
        low = let l = rests.low label s.0 s.2 in let e = s.5 in omega arith

        under : ℕ
        under = base - height

        there : W s.1 height
        there = subst (W s.1) (sym s.5) (rests.placed label s.0 s.1 s.2 s.3)

        left : base + bit g ≡ under + (height + one_if yields)
        left = let e = ap bit s.6 ∙ bit_is yields in omega (arith, low, e)

        here : Flows code whose W a base
        here = record {
          does = d;
          is = does_is a b p d s.7;
          below = under;
          finds = omega (arith, low);
          leads = λ to h i.
              ⊎_elim (λ e. at_way s.1 height (to, h) e there)
              (λ e. at_way (a + 1) (under + (height + one_if yields)) (to, h) e (at_place b (a + 1) (base + bit g) (under + (height + one_if yields)) s.7.1 left out))
              (either (s.1, height) (a + 1, under + (height + one_if yields)) (to, h) i);
          meets = may_meet whose code.modes d base a under (s.1, height) ((a + 1, under + (height + one_if yields)) ∷ []) refl;
          made = is_place s.1 height there;
          ordered = tt;
          forks = no_fork code d refl;
        }
    flows lie g (range p left n yields within) a b s base rests fit into out k h (inl x) =
        at_flows a base
        (next a s.0 p (does.Enter n) base base s.3 refl (omega arith)
        (at_place s.0 s.0 base (base + 0) refl (omega arith) (begun (deeper_by 1 lie) g within s.0 s.1 s.4 base (λ k h y. into k h (inr (inl y))) (into s.1 (base + bit g) (inr (inr (refl, refl)))))) refl tt refl) k h x
    flows lie g (range p left n yields within) a b s base rests fit into out k h (inr (inl x)) =
        flows (deeper_by 1 lie) g within s.0 s.1 s.4 base (rests_further 1 lie base rests) fit (λ k h y. into k h (inr (inl y))) (into s.1 (base + bit g) (inr (inr (refl, refl)))) k h x
    flows lie g (range p left n yields within) a b s base rests fit into out k h (inr (inr x)) =
        at_flows s.1 (base + bit g)
        (next s.1 b left (leave g) base (base + bit g) s.5 refl (ap (λ (x : ℕ). base + x) (leave_takes g))
        (subst (W b) (ap (λ (x : ℕ). base + x) (sym (leave_leaves g))) out) (leave_made g) tt refl) k h x
    flows lie g (choice p enquiry if_true if_false) a b s base rests fit into out k h (inl x) =
        flows lie true enquiry a s.0 s.4 base rests fit.0 (λ k h y. into k h (inl y)) (into s.0 (base + 1) (inr (inl (refl, refl)))) k h x
    flows lie g (choice p enquiry if_true if_false) a b s base rests fit into out k h (inr (inl x)) = at_flows s.0 (base + 1) here k h x
      where
        yes : W s.1 base
        yes = begun lie g if_true s.1 s.2 s.6 base (λ k h y. into k h (inr (inr (inl y)))) (into s.2 (base + bit g) (inr (inr (inr (inl (refl, refl))))))

        no : W s.3 base
        no = begun lie g if_false s.3 b s.8 base (λ k h y. into k h (inr (inr (inr (inr y))))) out

        here : Flows code whose W s.0 (base + 1)
        here =
            branch s.0 s.1 p (does.Unless s.3) base (base + 1) s.3 s.5 refl refl (at_place s.1 s.1 base (base + 0) refl (omega arith) yes)
            (at_place s.3 s.3 base (base + 0) refl (omega arith) no) (is_place s.3 base no)
            (let x = forward code lie g if_true s.1 s.2 s.6 in let y = s.5.1 in let z = s.7.1 in omega arith) refl
    flows lie g (choice p enquiry if_true if_false) a b s base rests fit into out k h (inr (inr (inl x))) =
        flows lie g if_true s.1 s.2 s.6 base rests fit.1 (λ k h y. into k h (inr (inr (inl y)))) (into s.2 (base + bit g) (inr (inr (inr (inl (refl, refl)))))) k h x
    flows lie g (choice p enquiry if_true if_false) a b s base rests fit into out k h (inr (inr (inr (inl x)))) =
        at_flows s.2 (base + bit g) (jumps s.2 s.3 p b (base + bit g) s.7 (let x = forward code lie g if_false s.3 b s.8 in let y = s.7.1 in omega arith) out) k h x
    flows lie g (choice p enquiry if_true if_false) a b s base rests fit into out k h (inr (inr (inr (inr x)))) =
        flows lie g if_false s.3 b s.8 base rests fit.2 (λ k h y. into k h (inr (inr (inr (inr y))))) out k h x
    flows lie g (cases p enquiry arms final) a b s base rests fit into out k h (inl x) =
        flows lie true enquiry a s.0 s.4 base rests fit.0 (λ k h y. into k h (inl y)) (into s.0 (base + 1) (inr (inl (refl, refl)))) k h x
    flows lie g (cases p enquiry arms final) a b s base rests fit into out k h (inr (inl x)) = at_flows s.0 (base + 1) here k h x
      where
        places : List ℕ
        places = with_last s.3 s.2

        last : W s.2 base
        last = begun lie g final s.2 b s.7 base (λ k h y. into k h (inr (inr (inr y)))) out

        each : (k : ℕ) → ArmHeights code lie g p b arms s.3 s.1 s.2 s.6 base k base → W k base
        each k y = into k base (inr (inr (inl y)))

        behind : s.0 < s.2
        behind = let y = forward_arms code lie g p b arms s.3 s.1 s.2 s.6 in let z = s.5.1 in omega arith

        inside : All (λ to. nat_lt to (length code.list) ≡ true) (with_last s.3 s.2)
        inside = arms_all lie g p b arms s.3 s.1 s.2 s.6 base s.2 (λ to. nat_lt to (length code.list) ≡ true) (λ k le y. is_place k base (each k y)) (is_place s.2 base last)

        onward : All (λ to. nat_lt s.0 to ≡ true) (with_last s.3 s.2)
        onward = arms_all lie g p b arms s.3 s.1 s.2 s.6 base s.2 (λ to. nat_lt s.0 to ≡ true) (λ k le y. let z = s.5.1 in lt-ltb s.0 k (omega arith)) (lt-ltb s.0 s.2 behind)

        led : All (λ to. W to base) (with_last s.3 s.2)
        led = arms_all lie g p b arms s.3 s.1 s.2 s.6 base s.2 (λ to. W to base) (λ k le y. each k y) last

        here : Flows code whose W s.0 (base + 1)
        here = record {
          does = does.Case places;
          is = does_is s.0 s.1 p (does.Case places) s.5;
          below = base;
          finds = refl;
          leads = λ to h i.
              let w = from_map (λ (z : ℕ). (z, base + 0)) places (to, h) i in
              at_way w.0 (base + 0) (to, h) w.2 (at_place w.0 w.0 base (base + 0) refl (omega arith) (All-contains (λ z. W z base) places w.0 led w.1));
          meets = case_meets whose places (base + 1);
          made = both_true (some_last s.3 s.2) (list_all-from_AllPass (λ to. nat_lt to (length code.list)) places inside);
          ordered = list_all-from_AllPass (λ to. nat_lt s.0 to) places onward;
          forks = no_fork code (does.Case places) refl;
        }
    flows lie g (cases p enquiry arms final) a b s base rests fit into out k h (inr (inr (inl x))) =
        arms_flow lie g p b arms s.3 s.1 s.2 s.6 base rests fit.1 (λ k h y. into k h (inr (inr (inl y)))) out
        (let y = forward_arms code lie g p b arms s.3 s.1 s.2 s.6 in let z = forward code lie g final s.2 b s.7 in omega arith) k h x
    flows lie g (cases p enquiry arms final) a b s base rests fit into out k h (inr (inr (inr x))) =
        flows lie g final s.2 b s.7 base rests fit.2 (λ k h y. into k h (inr (inr (inr y)))) out k h x
    flows lie g (conformity p union members yields enquiry specs final) a b s base rests fit into out k h (inl x) =
        flows lie true enquiry a s.0 s.6 base rests fit.1 (λ k h y. into k h (inl y)) (into s.0 (base + 1) (inr (inl (refl, refl)))) k h x
    flows lie g (conformity p union members yields enquiry specs final) a b s base rests fit into out k h (inr (inl x)) = at_flows s.0 (base + 1) here k h x
      where
        places : List ℕ
        places = member_places members specs s.3 s.2

        last : W s.2 base
        last = begun lie g final s.2 b s.9 base (λ k h y. into k h (inr (inr (inr y)))) out

        each : (k : ℕ) → SpecHeights code lie g p b specs s.3 s.1 s.2 s.8 base k (base + 1) → W k (base + 1)
        each k y = into k (base + 1) (inr (inr (inl y)))

        behind : s.0 < s.2
        behind = let y = forward_specs code lie g p b specs s.3 s.1 s.2 s.8 in let z = s.7.1 in omega arith

        all : (P : ℕ → Type 0) → ((k : ℕ) → s.1 ≤ k → k < s.2 → SpecHeights code lie g p b specs s.3 s.1 s.2 s.8 base k (base + 1) → P k) → P s.2 → All P (member_places members specs s.3 s.2)
        all P one final_one = members_all P members specs s.3 s.2 (λ m. specs_all lie g p b specs s.3 s.1 s.2 s.8 base P one final_one m) final_one

        inside : All (λ to. nat_lt to (length code.list) ≡ true) (member_places members specs s.3 s.2)
        inside = all (λ to. nat_lt to (length code.list) ≡ true) (λ k le less y. is_place k (base + 1) (each k y)) (is_place s.2 base last)

        onward : All (λ to. nat_lt s.0 to ≡ true) (member_places members specs s.3 s.2)
        onward = all (λ to. nat_lt s.0 to ≡ true) (λ k le less y. let z = s.7.1 in lt-ltb s.0 k (omega arith)) (lt-ltb s.0 s.2 behind)

        led : All (λ to. W to (base + (if nat_eq to (flow.last_place (member_places members specs s.3 s.2)) then 0 else 1))) (member_places members specs s.3 s.2)
        led =
            rw (last_is members specs s.3 s.2)
            (all (λ to. W to (base + (if nat_eq to s.2 then 0 else 1)))
            (λ k le less y. at_test k s.2 base (λ e. absurd (omega arith)) (λ e. each k y))
            (at_test s.2 s.2 base (λ e. last) (λ e. absurd (e refl))))

        here : Flows code whose W s.0 (base + 1)
        here = record {
          does = does.Member union places (wholes_of members specs);
          is = does_is s.0 s.1 p (does.Member union places (wholes_of members specs)) s.7;
          below = base;
          finds = refl;
          leads = λ to h i.
              let w = from_map (λ (z : ℕ). (z, base + (if nat_eq z (flow.last_place places) then 0 else 1))) places (to, h) i in
              at_way w.0 (base + (if nat_eq w.0 (flow.last_place places) then 0 else 1)) (to, h) w.2
              (All-contains (λ z. W z (base + (if nat_eq z (flow.last_place places) then 0 else 1))) places w.0 led w.1);
          meets = member_meets whose union places (wholes_of members specs) (base + 1);
          made = both_true fit.0 (both_true (each_served (shape_at code.modes union) members specs s.3 s.2 s.5) (list_all-from_AllPass (λ to. nat_lt to (length code.list)) places inside));
          ordered = list_all-from_AllPass (λ to. nat_lt s.0 to) places onward;
          forks = no_fork code (does.Member union places (wholes_of members specs)) refl;
        }
    flows lie g (conformity p union members yields enquiry specs final) a b s base rests fit into out k h (inr (inr (inl x))) =
        specs_flow lie g p b specs s.3 s.1 s.2 s.8 base rests fit.2 (λ k h y. into k h (inr (inr (inl y)))) out
        (let y = forward code lie g final s.2 b s.9 in omega arith) k h x
    flows lie g (conformity p union members yields enquiry specs final) a b s base rests fit into out k h (inr (inr (inr x))) =
        flows lie g final s.2 b s.9 base rests fit.3 (λ k h y. into k h (inr (inr (inr y)))) out k h x
    flows lie g (loop p controls limited counts test body) a b s base rests fit into out k h (inl x) =
        let l = loop_heights lie g p controls limited counts test body a b s base into in
        flows_all lie true controls a s.0 s.14 base rests fit.0 (λ k h y. into k h (inl y)) (subst (W s.0) (sym (after_true controls base ∙ ap (λ (n : ℕ). base + n) s.13)) l.at_c) k h x
    flows lie g (loop p controls limited counts test body) a b s base rests fit into out k h (inr (inl x)) =
        let l = loop_heights lie g p controls limited counts test body a b s base into in
        limit_flows limited p s.0 s.1 s.15 base l.at_c' k h x
    flows lie g (loop p controls limited counts test body) a b s base rests fit into out k h (inr (inr (inl x))) =
        let l = loop_heights lie g p controls limited counts test body a b s base into in
        at_flows s.1 (base + 3) (next s.1 s.2 p does.Counter base (base + 3) s.16 refl refl l.at_t refl tt refl) k h x
    flows lie g (loop p controls limited counts test body) a b s base rests fit into out k h (inr (inr (inr (inl x)))) =
        let l = loop_heights lie g p controls limited counts test body a b s base into in
        at_flows s.2 (base + 1)
        (branch s.2 s.3 p (does.Step s.11) base (base + 1) s.11 s.17 refl refl l.at_t' l.at_e (is_place s.11 (base + 1) l.at_e) (in_loop lie g p controls limited counts test body a b s).0 refl) k h x
    flows lie g (loop p controls limited counts test body) a b s base rests fit into out k h (inr (inr (inr (inr (inl x))))) =
        let l = loop_heights lie g p controls limited counts test body a b s base into in
        at_flows s.3 (base + 1) (next s.3 s.4 p does.Turn (base + 1) (base + 1) s.18 refl (omega arith) (at_place s.4 s.4 (base + 1) (base + 1 + 0) refl (omega arith) l.at_u) refl tt refl) k h x
    flows lie g (loop p controls limited counts test body) a b s base rests fit into out k h (inr (inr (inr (inr (inr (inl x)))))) =
        let l = loop_heights lie g p controls limited counts test body a b s base into in
        index_flows counts p s.4 s.5 s.19 base (λ k h y. into k h (inr (inr (inr (inr (inr (inl y))))))) l.at_w k h x
    flows lie g (loop p controls limited counts test body) a b s base rests fit into out k h (inr (inr (inr (inr (inr (inr (inl x))))))) =
        let l = loop_heights lie g p controls limited counts test body a b s base into in
        test_flows (deeper_by (if counts then 1 else 0) (above true lie)) test p s.10 s.5 s.6 s.20 (base + 1)
        (rests_further (if counts then 1 else 0) (above true lie) (base + 1) (rests_over true lie base rests)) fit.1 (λ k h y. into k h (inr (inr (inr (inr (inr (inr (inl y)))))))) l.at_x l.at_f (in_loop lie g p controls limited counts test body a b s).1 k h x
    flows lie g (loop p controls limited counts test body) a b s base rests fit into out k h (inr (inr (inr (inr (inr (inr (inr (inl x)))))))) =
        let l = loop_heights lie g p controls limited counts test body a b s base into in
        flows (deeper_by (depth_of counts test) (above true lie)) false body s.6 s.7 s.21 (base + 1)
        (rests_further (depth_of counts test) (above true lie) (base + 1) (rests_over true lie base rests)) fit.2 (λ k h y. into k h (inr (inr (inr (inr (inr (inr (inr (inl y))))))))) (at_place s.7 s.7 (base + 1) (base + 1 + 0) refl (omega arith) l.at_n) k h x
    flows lie g (loop p controls limited counts test body) a b s base rests fit into out k h (inr (inr (inr (inr (inr (inr (inr (inr (inl x))))))))) =
        let l = loop_heights lie g p controls limited counts test body a b s base into in
        leave_flows p (depth_of counts test) s.7 s.8 s.22 (base + 1) (λ k h y. into k h (inr (inr (inr (inr (inr (inr (inr (inr (inl y)))))))))) l.at_n' k h x
    flows lie g (loop p controls limited counts test body) a b s base rests fit into out k h (inr (inr (inr (inr (inr (inr (inr (inr (inr (inl x)))))))))) =
        let l = loop_heights lie g p controls limited counts test body a b s base into in
        at_flows s.8 (base + 1)
        (branch s.8 s.9 p (does.Advance s.2) base (base + 1) s.2 s.23 refl refl l.at_v l.at_t (is_place s.2 (base + 1) l.at_t)
        (record {
          back = (in_loop lie g p controls limited counts test body a b s).2;
          behind = s.11;
          step = does_is s.2 s.3 p (does.Step s.11) s.17;
          turn = ap (does_at code.list) s.17.1 ∙ does_is s.3 s.4 p does.Turn s.18;
          leaves_loop = (in_loop lie g p controls limited counts test body a b s).3;
        }) refl) k h x
    flows lie g (loop p controls limited counts test body) a b s base rests fit into out k h (inr (inr (inr (inr (inr (inr (inr (inr (inr (inr (inl x))))))))))) =
        let l = loop_heights lie g p controls limited counts test body a b s base into in
        at_flows s.9 (base + 1) (jumps s.9 s.10 p s.11 (base + 1) s.24 (in_loop lie g p controls limited counts test body a b s).4 l.at_e) k h x
    flows lie g (loop p controls limited counts test body) a b s base rests fit into out k h (inr (inr (inr (inr (inr (inr (inr (inr (inr (inr (inr (inl x)))))))))))) =
        let l = loop_heights lie g p controls limited counts test body a b s base into in
        leave_flows p (depth_of counts test) s.10 s.11 s.25 (base + 1) (λ k h y. into k h (inr (inr (inr (inr (inr (inr (inr (inr (inr (inr (inr (inl y))))))))))))) l.at_e k h x
    flows lie g (loop p controls limited counts test body) a b s base rests fit into out k h (inr (inr (inr (inr (inr (inr (inr (inr (inr (inr (inr (inr x)))))))))))) =
        at_flows s.11 (base + 1) (next s.11 b p does.Forget base (base + 1) s.26 refl refl (subst (λ (y : Bool). W b (base + bit y)) s.12 out) refl tt refl) k h x
    flows lie g (call p yields no_trees) a b s base rests fit into out k h x = absurd s
    flows lie g (call p yields (primary and_tree parts)) a b s base rests fit into out k h (inl x) =
        flows_all lie true (primary and_tree parts) a s.0 s.2 base rests fit (λ k h y. into k h (inl y)) (into s.0 (after true (primary and_tree parts) base) (inr (refl, refl))) k h x
    flows lie g (call p yields (primary and_tree parts)) a b s base rests fit into out k h (inr x) =
        at_flows s.0 (after true (primary and_tree parts) base)
        (next s.0 b p (does.Call (count parts) yields) base _ s.3 refl (sym (after_true (primary and_tree parts) base))
        (subst (W b) (ap (λ (y : ℕ). base + y) (ap bit s.1 ∙ bit_is yields)) out) refl tt refl) k h x
    flows lie g (parallel p numbers) a b s base rests fit into out k h x = at_flows a base here k h x
      where
        many : 2 ≤ length s.0
        many = let e = entrances_many code.units numbers s.0 s.3 in let m = s.2 in omega arith

        unit : (to : ℕ) → Contains s.0 to → IsUnit code.units to
        unit to i = each_is_unit code.units numbers s.0 s.3 i.0 to (slice_get_read s.0 (length s.0) i.0 to refl i.1 (sym i.2))

        inside : All (λ to. nat_lt to (length code.list) ≡ true) s.0
        inside =
            All-from_get_or (λ to. nat_lt to (length code.list) ≡ true) s.0 0
            (λ i less. let to = get_or s.0 i 0 in lt-ltb to (length code.list) (unit_inside to (unit to (Contains-get_or s.0 i 0 less))))

        here : Flows code whose W a base
        here =
            next_by a b p (does.Fork s.0) base base s.4 refl (omega arith) (at_place b b base (base + 0) refl (omega arith) (subst (W b) (sym (nothing_more base g s.1)) out))
            (both_true (le-leb 2 (length s.0) many) (list_all-from_AllPass (λ to. nat_lt to (length code.list)) s.0 inside)) tt unit
    flows lie g meaningless a b s base rests fit into out k h x = absurd s

    pub flows_all : (lie : Lie) (g : Bool) (ts : Trees) (a b : ℕ) (s : StandAll code lie g ts a b) (base : ℕ) → Rests lie base → FitAll code.modes (length code.texts) ts → ((k h : ℕ) → AllHeights code lie g ts a b s base k h → W k h)
        → W b (after g ts base) → (k h : ℕ) → AllHeights code lie g ts a b s base k h → Flows code whose W k h
    flows_all lie g no_trees a b s base rests fit into out k h x = absurd x
    flows_all lie g (t and_tree ts) a b s base rests fit into out k h (inl x) =
        flows lie g t a s.0 s.1 base rests fit.0 (λ k h y. into k h (inl y)) first k h x
      where
        first : W s.0 (base + bit g)
        first =
            ⊎_elim (λ y. into s.0 (base + bit g) (inr y)) (λ e. at_place b s.0 (after g ts (base + bit g)) (base + bit g) e.0 (sym e.1) out)
            (starts_all code (above g lie) g ts s.0 b s.2 (base + bit g))
    flows_all lie g (t and_tree ts) a b s base rests fit into out k h (inr x) = flows_all (above g lie) g ts s.0 b s.2 (base + bit g) (rests_over g lie base rests) fit.1 (λ k h y. into k h (inr y)) out k h x

    -- parts that are chosen among
    arms_flow : (lie : Lie) (g : Bool) (p e : ℕ) (ts : Trees) (ps : List ℕ) (a b : ℕ) (s : StandArms code lie g p e ts ps a b) (base : ℕ) → Rests lie base → FitAll code.modes (length code.texts) ts
        → ((k h : ℕ) → ArmHeights code lie g p e ts ps a b s base k h → W k h) → W e (base + bit g) → b ≤ e → (k h : ℕ) → ArmHeights code lie g p e ts ps a b s base k h → Flows code whose W k h
    arms_flow lie g p e no_trees [] a b s base rests fit into quit le k h x = absurd x
    arms_flow lie g p e no_trees (q ∷ ps) a b s base rests fit into quit le k h x = absurd s
    arms_flow lie g p e (t and_tree ts) [] a b s base rests fit into quit le k h x = absurd s
    arms_flow lie g p e (t and_tree ts) (q ∷ ps) a b s base rests fit into quit le k h (inl x) =
        flows lie g t a s.0 s.3 base rests fit.0 (λ k h y. into k h (inl y)) (into s.0 (base + bit g) (inr (inl (refl, refl)))) k h x
    arms_flow lie g p e (t and_tree ts) (q ∷ ps) a b s base rests fit into quit le k h (inr (inl x)) =
        at_flows s.0 (base + bit g) (jumps s.0 s.1 p e (base + bit g) s.4 (let y = forward_arms code lie g p e ts ps s.1 b s.5 in let z = s.4.1 in omega arith) quit) k h x
    arms_flow lie g p e (t and_tree ts) (q ∷ ps) a b s base rests fit into quit le k h (inr (inr x)) =
        arms_flow lie g p e ts ps s.1 b s.5 base rests fit.1 (λ k h y. into k h (inr (inr y))) quit le k h x

    -- specifications
    specs_flow : (lie : Lie) (g : Bool) (p e : ℕ) (specs : Specs) (ps : List ℕ) (a b : ℕ) (s : StandSpecs code lie g p e specs ps a b) (base : ℕ) → Rests lie base → SpecsFitModes code.modes (length code.texts) specs
        → ((k h : ℕ) → SpecHeights code lie g p e specs ps a b s base k h → W k h) → W e (base + bit g) → b ≤ e → (k h : ℕ) → SpecHeights code lie g p e specs ps a b s base k h → Flows code whose W k h
    specs_flow lie g p e no_specs [] a b s base rests fit into quit le k h x = absurd x
    specs_flow lie g p e no_specs (q ∷ ps) a b s base rests fit into quit le k h x = absurd s
    specs_flow lie g p e (spec takes true united t behind) [] a b s base rests fit into quit le k h x = absurd s
    specs_flow lie g p e (spec takes false united t behind) [] a b s base rests fit into quit le k h x = absurd s
    specs_flow lie g p e (spec takes true united t behind) (q ∷ ps) a b s base rests fit into quit le k h (inl x) =
        at_flows a (base + 1)
        (next a s.0 p (does.Enter 1) (base + 1) (base + 1) s.6 refl (omega arith) (at_place s.0 s.0 (base + 1) (base + 1 + 0) refl (omega arith) (into s.0 (base + 1) (inr (inl (refl, refl))))) refl tt refl) k h x
    specs_flow lie g p e (spec takes true united t behind) (q ∷ ps) a b s base rests fit into quit le k h (inr (inl x)) =
        at_flows s.0 (base + 1)
        (next s.0 s.1 p (does.Bind 0) base (base + 1) s.7 refl refl
        (at_place s.1 s.1 base (base + 0) refl (omega arith)
        (begun (deeper_by 1 lie) g t s.1 s.2 s.8 base (λ k h y. into k h (inr (inr (inl y)))) (into s.2 (base + bit g) (inr (inr (inr (inl (refl, refl)))))))) refl tt refl) k h x
    specs_flow lie g p e (spec takes true united t behind) (q ∷ ps) a b s base rests fit into quit le k h (inr (inr (inl x))) =
        flows (deeper_by 1 lie) g t s.1 s.2 s.8 base (rests_further 1 lie base rests) fit.0 (λ k h y. into k h (inr (inr (inl y)))) (into s.2 (base + bit g) (inr (inr (inr (inl (refl, refl)))))) k h x
    specs_flow lie g p e (spec takes true united t behind) (q ∷ ps) a b s base rests fit into quit le k h (inr (inr (inr (inl x)))) =
        at_flows s.2 (base + bit g)
        (next s.2 s.3 p (leave g) base (base + bit g) s.9 refl (ap (λ (x : ℕ). base + x) (leave_takes g))
        (subst (W s.3) (ap (λ (x : ℕ). base + x) (sym (leave_leaves g))) (into s.3 (base + bit g) (inr (inr (inr (inr (inl (refl, refl)))))))) (leave_made g) tt refl) k h x
    specs_flow lie g p e (spec takes true united t behind) (q ∷ ps) a b s base rests fit into quit le k h (inr (inr (inr (inr (inl x))))) =
        at_flows s.3 (base + bit g) (jumps s.3 s.4 p e (base + bit g) s.10 (let y = forward_specs code lie g p e behind ps s.4 b s.11 in let z = s.10.1 in omega arith) quit) k h x
    specs_flow lie g p e (spec takes true united t behind) (q ∷ ps) a b s base rests fit into quit le k h (inr (inr (inr (inr (inr x))))) =
        specs_flow lie g p e behind ps s.4 b s.11 base rests fit.1 (λ k h y. into k h (inr (inr (inr (inr (inr y)))))) quit le k h x
    specs_flow lie g p e (spec takes false united t behind) (q ∷ ps) a b s base rests fit into quit le k h (inl x) =
        at_flows a (base + 1)
        (next a s.0 p does.Drop base (base + 1) s.4 refl refl
        (at_place s.0 s.0 base (base + 0) refl (omega arith)
        (begun lie g t s.0 s.1 s.5 base (λ k h y. into k h (inr (inl y))) (into s.1 (base + bit g) (inr (inr (inl (refl, refl))))))) refl tt refl) k h x
    specs_flow lie g p e (spec takes false united t behind) (q ∷ ps) a b s base rests fit into quit le k h (inr (inl x)) =
        flows lie g t s.0 s.1 s.5 base rests fit.0 (λ k h y. into k h (inr (inl y))) (into s.1 (base + bit g) (inr (inr (inl (refl, refl))))) k h x
    specs_flow lie g p e (spec takes false united t behind) (q ∷ ps) a b s base rests fit into quit le k h (inr (inr (inl x))) =
        at_flows s.1 (base + bit g) (jumps s.1 s.2 p e (base + bit g) s.6 (let y = forward_specs code lie g p e behind ps s.2 b s.7 in let z = s.6.1 in omega arith) quit) k h x
    specs_flow lie g p e (spec takes false united t behind) (q ∷ ps) a b s base rests fit into quit le k h (inr (inr (inr x))) =
        specs_flow lie g p e behind ps s.2 b s.7 base rests fit.1 (λ k h y. into k h (inr (inr (inr y)))) quit le k h x

    -- steps
    steps_flow : (lie : Lie) (g : Bool) (p e : ℕ) (steps : Steps) (ps : List ℕ) (a b : ℕ) (s : StandSteps code lie g p e steps ps a b) (base : ℕ) → Rests lie base → StepsFitModes code.modes (length code.texts) steps
        → ((k h : ℕ) → StepHeights code lie g p e steps ps a b s base k h → W k h) → W b (base + bit g) → W e (base + bit g) → b ≤ e → (k h : ℕ) → StepHeights code lie g p e steps ps a b s base k h → Flows code whose W k h
    steps_flow lie g p e (last_step ls t) [] a b s base rests fit into out quit le k h x = absurd s
    steps_flow lie g p e (step ls t more) [] a b s base rests fit into out quit le k h x = absurd s
    steps_flow lie g p e (exit ls t more) [] a b s base rests fit into out quit le k h x = absurd s
    steps_flow lie g p e (last_step ls t) (q ∷ (r ∷ ps)) a b s base rests fit into out quit le k h x = absurd s
    steps_flow lie g p e (last_step ls t) (q ∷ []) a b s base rests fit into out quit le k h x = flows lie g t a b s.1 base rests fit into out k h x
    steps_flow lie g p e (step ls t more) (q ∷ ps) a b s base rests fit into out quit le k h (inl x) =
        flows lie false t a s.0 s.2 base rests fit.0 (λ k h y. into k h (inl y))
        (at_place s.0 s.0 base (base + 0) refl (omega arith) (begun_steps lie g p e more ps s.0 b s.3 base (λ k h y. into k h (inr y)) out)) k h x
    steps_flow lie g p e (step ls t more) (q ∷ ps) a b s base rests fit into out quit le k h (inr x) =
        steps_flow lie g p e more ps s.0 b s.3 base rests fit.1 (λ k h y. into k h (inr y)) out quit le k h x
    steps_flow lie g p e (exit ls t more) (q ∷ ps) a b s base rests fit into out quit le k h (inl x) =
        flows lie g t a s.0 s.3 base rests fit.0 (λ k h y. into k h (inl y)) (into s.0 (base + bit g) (inr (inl (refl, refl)))) k h x
    steps_flow lie g p e (exit ls t more) (q ∷ ps) a b s base rests fit into out quit le k h (inr (inl x)) =
        at_flows s.0 (base + bit g) (jumps s.0 s.1 p e (base + bit g) s.4 (let y = forward_steps code lie g p e more ps s.1 b s.5 in let z = s.4.1 in omega arith) quit) k h x
    steps_flow lie g p e (exit ls t more) (q ∷ ps) a b s base rests fit into out quit le k h (inr (inr x)) =
        steps_flow lie g p e more ps s.1 b s.5 base rests fit.1 (λ k h y. into k h (inr (inr y))) out quit le k h x

    -- the test of a loop
    test_flows : (lie : Lie) (t : Test) (p f a b : ℕ) (s : Tests code lie t p f a b) (base : ℕ) → Rests lie base → TestFitsModes code.modes (length code.texts) t → ((k h : ℕ) → TestHeights code lie t p f a b s base k h → W k h)
        → W b base → W f base → b ≤ f → (k h : ℕ) → TestHeights code lie t p f a b s base k h → Flows code whose W k h
    test_flows lie no_test p f a b s base rests fit into out quit le k h x = absurd x
    test_flows lie (while_in at slots t) p f a b s base rests fit into out quit le k h (inl x) =
        open_flows slots at a s.0 s.2 base (begun (deeper_by (deeper slots 0) lie) true t s.0 s.1 s.3 base (λ k h y. into k h (inr (inl y))) (into s.1 (base + 1) (inr (inr (refl, refl))))) k h x
    test_flows lie (while_in at slots t) p f a b s base rests fit into out quit le k h (inr (inl x)) =
        flows (deeper_by (deeper slots 0) lie) true t s.0 s.1 s.3 base (rests_further (deeper slots 0) lie base rests) fit (λ k h y. into k h (inr (inl y))) (into s.1 (base + 1) (inr (inr (refl, refl)))) k h x
    test_flows lie (while_in at slots t) p f a b s base rests fit into out quit le k h (inr (inr x)) =
        at_flows s.1 (base + 1)
        (branch s.1 b p (does.Unless f) base (base + 1) f s.4 refl refl (at_place b b base (base + 0) refl (omega arith) out)
        (at_place f f base (base + 0) refl (omega arith) quit) (is_place f base quit) (let y = s.4.1 in omega arith) refl) k h x
