-- How many instructions the machine runs without a turn of a loop.
use Rattle.std.proofs.Common.{◌≡◌, ◌≢◌, ◌<◌, ◌≤◌, ◌⊎◌, ◌+◌, ◌-◌, ℕ, zero, suc, Bool, true, false, ◌||◌, ◌&&◌, eqb, IsTrue, nat_lt, List, [], ◌∷◌, length, Some, refl, sym, ap, ◌∙◌, add-zero, add-suc, zero-add, arith, inl, inr, ⊎_elim, subst}
use Rattle.std.specs.List.{Contains, list_all}
use Rattle.std.proofs.lemmas.List.Sums.{AllPass-from_list_all}
use Rattle.std.proofs.lemmas.Bool.{cases_eq, eqb-true, eq-eqb, ltb-true, or_cases}
use Rattle.std.proofs.lemmas.List.Elements.{All-contains, Contains-push_cases}
use Rattle.std.proofs.lemmas.Option.{same_Some}
use Rattle.a68_code.proofs.Reading.{does_at_within}
use Rattle.a68_code.specs.Flow.{does_at, landings}
use Rattle.a68_code.specs.Operands.{is_well_made}
use Rattle.a68_code.specs.Order.{EndsLoop, IsInOrder}
use Rattle.a68_code.specs.Valid.{IsValid}
use Rattle.a68_code.specs.declared.code.Code.{Code}
use Rattle.a68_code.specs.declared.code.Instr.{Instr}
use Rattle.a68_code.specs.declared.does.Does.{Does}
use Rattle.a68_code.specs.declared.does.Does.TheVariants.{Jump, Unless, Case, Member, Step, Turn, Advance, Return, Close, End}

-- a way leads from one place over so many instructions, none of which is a Turn, to another
pub data Walks (list : List Instr) : ℕ → ℕ → ℕ → Type 0 where
  stands : {at : ℕ} → Walks list at 0 at
  steps : {at to count end : ℕ} {does : Does} → does_at list at ≡ Some does → does ≢ Turn → Contains (landings at does) to → Walks list to count end → Walks list at (suc count) end

-- a way that goes on at its end
pub walks_on : {list : List Instr} {at count end to : ℕ} {does : Does} → Walks list at count end → does_at list end ≡ Some does → does ≢ Turn → Contains (landings end does) to → Walks list at (suc count) to
walks_on stands is differs i = steps is differs i stands
walks_on (steps is differs i w) is' differs' i' = steps is differs i (walks_on w is' differs' i')

abbrev ends : ℕ → Does → Bool
ends step (Advance to) = eqb to step
ends step _ = false

-- an Advance that lands at this step stands at this place or behind it
abbrev has_end : List Instr → ℕ → ℕ → Bool
has_end [] from step = false
has_end (i ∷ is) zero step = ends step i.does || has_end is zero step
has_end (i ∷ is) (suc from) step = has_end is from step

ends_here : (step : ℕ) (does : Does) → ends step does ≡ true → does ≡ Advance step
ends_here step (Advance to) e = ap (λ (n : ℕ). Advance n) (eqb-true to step e)
ends_here step _ e = absurd (cc)

has_end_from : (list : List Instr) (from step at : ℕ) → from ≤ at → does_at list at ≡ Some (Advance step) → has_end list from step ≡ true
has_end_from [] from step at le e = absurd (cc)
has_end_from (i ∷ is) zero step zero le e = let d : i.does ≡ Advance step = same_Some _ _ e in rw (d, eq-eqb step step refl) refl
has_end_from (i ∷ is) zero step (suc at) le e = or_right (ends step i.does) (has_end is zero step) (has_end_from is zero step at (omega arith) e)
  where
    or_right : (x y : Bool) → y ≡ true → (x || y) ≡ true
    or_right true y e = refl
    or_right false y e = e
has_end_from (i ∷ is) (suc from) step zero le e = absurd (omega arith)
has_end_from (i ∷ is) (suc from) step (suc at) le e = has_end_from is from step at (omega arith) e

end_of : (list : List Instr) (from step : ℕ) → has_end list from step ≡ true → (at : ℕ) × (from ≤ at) × (does_at list at ≡ Some (Advance step))
end_of [] from step e = absurd (cc)
end_of (i ∷ is) zero step e =
    ⊎_elim (λ h. (0, omega arith, ap (λ (d : Does). Some d) (ends_here step i.does h)))
    (λ h. let w = end_of is zero step h in (suc w.0, omega arith, w.2)) (or_cases (ends step i.does) (has_end is zero step) e)
end_of (i ∷ is) (suc from) step e = let w = end_of is from step e in (suc w.0, omega (arith, w.1), w.2)

abbrev bit : Bool → ℕ
bit true = 1
bit false = 0

none : (x : ℕ) → Contains [] x → ⊥
none x i = let h = i.1 in omega arith

only : (x to : ℕ) → Contains (x ∷ []) to → x ≡ to
only x to i = ⊎_elim (λ j. absurd (none to j)) (λ e. e) (Contains-push_cases [] x to i)

either : (x y to : ℕ) → Contains (x ∷ y ∷ []) to → (x ≡ to) ⊎ (y ≡ to)
either x y to i = ⊎_elim (λ j. inl (only x to j)) inr (Contains-push_cases (x ∷ []) y to i)

-- how many steps before place `below` have an end at `from` or behind it
abbrev opens : List Instr → ℕ → ℕ → ℕ
opens list from zero = 0
opens list from (suc below) = bit (has_end list from below) + opens list from below

bit_le : (list : List Instr) (a b k : ℕ) → a ≤ b → bit (has_end list b k) ≤ bit (has_end list a k)
bit_le list a b k le = go (has_end list b k) refl
  where
    go : (t : Bool) → has_end list b k ≡ t → bit (has_end list b k) ≤ bit (has_end list a k)
    go true e = let w = end_of list b k e in let f = has_end_from list a k w.0 (let l = w.1 in omega arith) w.2 in rw (e, f) (omega arith)
    go false e = rw e (omega arith)

opens_fewer : (list : List Instr) (a b k : ℕ) → a ≤ b → opens list b k ≤ opens list a k
opens_fewer list a b zero le = omega arith
opens_fewer list a b (suc k) le = let h = opens_fewer list a b k le in let d = bit_le list a b k le in omega arith

bit_most : (t : Bool) → bit t ≤ 1
bit_most true = omega arith
bit_most false = omega arith

-- one of them has its end before b
opens_one_fewer : (list : List Instr) (a b k step : ℕ) → a ≤ b → step < k → has_end list a step ≡ true → has_end list b step ≡ false → opens list b k < opens list a k
opens_one_fewer list a b zero step le lt is not = absurd (omega arith)
opens_one_fewer list a b (suc k) step le lt is not = go (cases_eq step k) (λ below. opens_one_fewer list a b k step le below is not)
  where
    go : (step ≡ k) ⊎ (step ≡ k → ⊥) → (step < k → opens list b k < opens list a k) → opens list b (suc k) < opens list a (suc k)
    go (inl e) more =
        let x : bit (has_end list b k) ≡ 0 = ap bit (ap (has_end list b) (sym e) ∙ not) in
        let y : bit (has_end list a k) ≡ 1 = ap bit (ap (has_end list a) (sym e) ∙ is) in
        let h = opens_fewer list a b k le in
        omega arith
    go (inr ne) more = let h = more (omega arith) in let d = bit_le list a b k le in omega arith

-- no more than the places that are looked at
opens_most : (list : List Instr) (from k d : ℕ) → opens list from (k + d) ≤ opens list from k + d
opens_most list from k zero = rw (add-zero k) (omega arith)
opens_most list from k (suc d) = rw (add-suc k d) (let h = opens_most list from k d in let b = bit_most (has_end list from (k + d)) in omega arith)

-- what holds of all places of a list
all_in : (p : ℕ → Bool) (places : List ℕ) (to : ℕ) → IsTrue (list_all p places) → Contains places to → IsTrue (p to)
all_in p places to e i = All-contains (λ x. p x ≡ true) places to (AllPass-from_list_all p places e) i

all_second : (x y : Bool) → IsTrue (x && y) → IsTrue y
all_second true y e = e
all_second false y e = absurd (cc)

-- how far the machine can still go: the places from this one on, and the steps before it to which it may go back
abbrev ahead : List Instr → ℕ → ℕ
ahead list at = (length list - at) + opens list at at

-- the next place, or the landing place of an instruction that has one
abbrev Landing : ℕ → ℕ → Does → Type 0
Landing at to does =
    (to ≡ at + 1) ⊎ ((does ≡ Jump to) ⊎ ((does ≡ Unless to) ⊎ ((does ≡ Step to) ⊎ ((does ≡ Advance to) ⊎ (((places : List ℕ) × (does ≡ Case places) × Contains places to) ⊎ ((mode : ℕ) × (places whole : List ℕ) × (does ≡ Member mode places whole) × Contains places to))))))

landing_cases : (at to : ℕ) (does : Does) → Contains (landings at does) to → Landing at to does
landing_cases at to (Jump x) i = inr (inl (ap (λ (n : ℕ). Jump n) (only x to i)))
landing_cases at to (Unless x) i = ⊎_elim (λ e. inl (sym e)) (λ e. inr (inr (inl (ap (λ (n : ℕ). Unless n) e)))) (either (at + 1) x to i)
landing_cases at to (Step x) i = ⊎_elim (λ e. inl (sym e)) (λ e. inr (inr (inr (inl (ap (λ (n : ℕ). Step n) e))))) (either (at + 1) x to i)
landing_cases at to (Advance x) i = ⊎_elim (λ e. inl (sym e)) (λ e. inr (inr (inr (inr (inl (ap (λ (n : ℕ). Advance n) e)))))) (either (at + 1) x to i)
landing_cases at to (Case places) i = inr (inr (inr (inr (inr (inl (places, refl, i))))))
landing_cases at to (Member mode places whole) i = inr (inr (inr (inr (inr (inr (mode, places, whole, refl, i))))))
landing_cases at to Return i = absurd (let h = i.1 in omega arith)
landing_cases at to Close i = absurd (let h = i.1 in omega arith)
landing_cases at to End i = absurd (let h = i.1 in omega arith)
landing_cases at to _ i = inl (sym (only (at + 1) to i))

-- at a place to which no end behind the next goes back, going forward leaves less ahead
forward : (list : List Instr) (at to : ℕ) → at < to → to ≤ length list → has_end list to at ≡ false → (opens list to to ≤ opens list to at + (to - suc at)) × (ahead list to < ahead list at)
forward list at to lt within not =
    let e : suc at + (to - suc at) ≡ to = omega arith in
    let most : opens list to to ≤ opens list to (suc at) + (to - suc at) = subst (λ (n : ℕ). opens list to n ≤ opens list to (suc at) + (to - suc at)) e (opens_most list to (suc at) (to - suc at)) in
    let zero_bit : bit (has_end list to at) ≡ 0 = ap bit not in
    let fewer = opens_fewer list at to at (omega arith) in
    let least : opens list to to ≤ opens list to at + (to - suc at) = omega arith in
    (least, omega arith)

module _ (code : Code) (valid : IsValid code) where
  -- an end that goes back to this place
  end_at : (from at : ℕ) → has_end code.list from at ≡ true → (c : ℕ) × (from ≤ c) × EndsLoop code.list c at
  end_at from at e = let w = end_of code.list from at e in (w.0, w.1, valid.in_order w.0 (Advance at) w.2)

  no_end : (to at : ℕ) (does : Does) → does_at code.list at ≡ Some does → ((x : ℕ) → does ≡ Step x → ⊥) → has_end code.list to at ≡ false
  no_end to at does is other = go (has_end code.list to at) refl
    where
      go : (t : Bool) → has_end code.list to at ≡ t → has_end code.list to at ≡ false
      go false e = e
      go true e = let w = end_at to at e in absurd (other w.2.behind (same_Some does (Step w.2.behind) (sym is ∙ w.2.step)))

  no_end_behind : (to at behind : ℕ) → does_at code.list at ≡ Some (Step behind) → behind ≤ to → has_end code.list to at ≡ false
  no_end_behind to at behind is le = go (has_end code.list to at) refl
    where
      go : (t : Bool) → has_end code.list to at ≡ t → has_end code.list to at ≡ false
      go false e = e
      go true e =
          let w = end_at to at e in
          let same : Step behind ≡ Step w.2.behind = same_Some (Step behind) (Step w.2.behind) (sym is ∙ w.2.step) in
          let far : behind ≡ w.2.behind = cc in
          let a = w.1 in
          let b = w.2.leaves_loop in
          absurd (omega arith)

  -- a walk does not go on from a Turn
  at_turn : {at count end : ℕ} → does_at code.list at ≡ Some Turn → Walks code.list at count end → count ≡ 0
  at_turn turn stands = refl
  at_turn turn (steps {does = does} is differs i w) = absurd (differs (same_Some does Turn (sym is ∙ turn)))

  some_ahead : (at : ℕ) (does : Does) → does_at code.list at ≡ Some does → 0 < ahead code.list at
  some_ahead at does is = let lt = does_at_within code.list at does is in omega arith

  -- back to the step of a loop, and out of it
  out_of_loop : (at step : ℕ) (l : EndsLoop code.list at step) → does_at code.list at ≡ Some (Advance step) → (ahead code.list l.behind + 2 ≤ ahead code.list at) × (2 ≤ ahead code.list at)
  out_of_loop at step l is =
      let inside = does_at_within code.list at (Advance step) is in
      let within = ltb-true l.behind (length code.list) (valid.well_made step (Step l.behind) l.step) in
      let none_here = no_end l.behind at (Advance step) is (λ x e. cc) in
      let goes = forward code.list at l.behind l.leaves_loop (omega arith) none_here in
      let fewer = opens_one_fewer code.list at l.behind at step (let b = l.leaves_loop in omega arith) l.back (has_end_from code.list at step at (omega arith) is) (no_end_behind l.behind step l.behind l.step (omega arith)) in
      let least = goes.0 in
      let lt = l.leaves_loop in
      (omega arith, omega arith)

  abbrev Short : ℕ → ℕ → Type 0
  Short at count = (count ≤ ahead code.list at) × ((advance : ℕ) → does_at code.list advance ≡ Some (Advance at) → suc count ≤ ahead code.list advance)

  inside_from : {to : ℕ} → IsTrue (nat_lt to (length code.list)) → to < length code.list
  inside_from {to} e = ltb-true to (length code.list) e

  -- one step more
  module _ (at to count end : ℕ) (does : Does) (is : does_at code.list at ≡ Some does) (w : Walks code.list to count end) (short : Short to count) where
    jumps : at < to → to < length code.list → has_end code.list to at ≡ false → suc count ≤ ahead code.list at
    jumps lt within not = let h = (forward code.list at to lt (omega arith) not).1 in let s = short.0 in omega arith

    next : to ≡ at + 1 → suc count ≤ ahead code.list at
    next e = go (has_end code.list to at) refl
      where
        inside : at < length code.list
        inside = does_at_within code.list at does is

        go : (t : Bool) → has_end code.list to at ≡ t → suc count ≤ ahead code.list at
        go false not = let lt : at < to = omega (arith, e) in let le : to ≤ length code.list = omega (arith, e, inside) in let h = (forward code.list at to lt le not).1 in let s = short.0 in omega arith
        go true is_end =
            let l = (end_at to at is_end).2 in
            let none_on : count ≡ 0 = at_turn (subst (λ (n : ℕ). does_at code.list n ≡ Some Turn) (sym e) l.turn) w in
            let some = some_ahead at does is in
            omega arith

    ordered : (kind : Does) → does ≡ kind → IsInOrder code.list at kind
    ordered kind e = subst (λ (d : Does). IsInOrder code.list at d) e (valid.in_order at does is)

    made : (kind : Does) → does ≡ kind → IsTrue (is_well_made code.modes (length code.texts) (length code.list) kind)
    made kind e = subst (λ (d : Does). IsTrue (is_well_made code.modes (length code.texts) (length code.list) d)) e (valid.well_made at does is)

    this : Landing at to does → suc count ≤ ahead code.list at
    this (inl e) = next e
    this (inr (inl j)) = jumps (ordered (Jump to) j) (inside_from (made (Jump to) j)) (no_end to at does is (λ x e. cc))
    this (inr (inr (inl u))) = jumps (ordered (Unless to) u) (inside_from (made (Unless to) u)) (no_end to at does is (λ x e. cc))
    this (inr (inr (inr (inl s)))) = jumps (ordered (Step to) s) (inside_from (made (Step to) s)) (no_end_behind to at to (is ∙ ap (λ (d : Does). Some d) s) (omega arith))
    this (inr (inr (inr (inr (inl a))))) = short.1 at (is ∙ ap (λ (d : Does). Some d) a)
    this (inr (inr (inr (inr (inr (inl (places, e, i))))))) =
        jumps (ltb-true at to (all_in (λ x. nat_lt at x) places to (ordered (Case places) e) i))
        (inside_from (all_in (λ x. nat_lt x (length code.list)) places to (all_second _ _ (made (Case places) e)) i)) (no_end to at does is (λ x f. cc))
    this (inr (inr (inr (inr (inr (inr (mode, places, whole, e, i))))))) =
        jumps (ltb-true at to (all_in (λ x. nat_lt at x) places to (ordered (Member mode places whole) e) i))
        (inside_from (all_in (λ x. nat_lt x (length code.list)) places to (all_second _ _ (all_second _ _ (made (Member mode places whole) e))) i)) (no_end to at does is (λ x f. cc))

    -- the step at which the walk stands leads behind the end that goes back to it
    behind_end : Landing at to does → (advance : ℕ) → does_at code.list advance ≡ Some (Advance at) → suc (suc count) ≤ ahead code.list advance
    behind_end c advance is_advance = go c
      where
        l : EndsLoop code.list advance at
        l = valid.in_order advance (Advance at) is_advance

        step : does ≡ Step l.behind
        step = same_Some does (Step l.behind) (sym is ∙ l.step)

        out : (ahead code.list l.behind + 2 ≤ ahead code.list advance) × (2 ≤ ahead code.list advance)
        out = out_of_loop advance at l is_advance

        go : Landing at to does → suc (suc count) ≤ ahead code.list advance
        go (inl e) =
            let none_on : count ≡ 0 = at_turn (subst (λ (n : ℕ). does_at code.list n ≡ Some Turn) (sym e) l.turn) w in
            let two = out.1 in
            omega arith
        go (inr (inl j)) = let e : Jump to ≡ Step l.behind = sym j ∙ step in absurd (cc)
        go (inr (inr (inl u))) = let e : Unless to ≡ Step l.behind = sym u ∙ step in absurd (cc)
        go (inr (inr (inr (inl s)))) =
            let e : Step to ≡ Step l.behind = sym s ∙ step in
            let same : to ≡ l.behind = cc in
            let h : ahead code.list to ≡ ahead code.list l.behind = ap (ahead code.list) same in
            let two = out.0 in
            let rest = short.0 in
            omega arith
        go (inr (inr (inr (inr (inl a))))) = let e : Advance to ≡ Step l.behind = sym a ∙ step in absurd (cc)
        go (inr (inr (inr (inr (inr (inl (places, f, i))))))) = let e : Case places ≡ Step l.behind = sym f ∙ step in absurd (cc)
        go (inr (inr (inr (inr (inr (inr (mode, places, whole, f, i))))))) = let e : Member mode places whole ≡ Step l.behind = sym f ∙ step in absurd (cc)

  short_walk : {at count end : ℕ} → Walks code.list at count end → Short at count
  short_walk stands = (omega arith, λ advance is. some_ahead advance _ is)
  short_walk (steps {at = at} {to = to} {count = count} {end = end} {does = does} is differs i w) =
      (this at to count end does is w (short_walk w) (landing_cases at to does i), behind_end at to count end does is w (short_walk w) (landing_cases at to does i))

  -- A way on which no Turn is run has at most as many instructions as the list: between two turns of loops the machine
  -- runs no more.
  pub walk_is_short : (at count end : ℕ) → Walks code.list at count end → count ≤ length code.list
  walk_is_short at zero end stands = omega arith
  walk_is_short at (suc count) end (steps {does = does} is differs i w) =
      let inside = does_at_within code.list at does is in
      let h = (short_walk (steps is differs i w)).0 in
      let most : opens code.list at at ≤ 0 + at = subst (λ (n : ℕ). opens code.list at n ≤ 0 + at) (zero-add at) (opens_most code.list at 0 at) in
      omega arith
