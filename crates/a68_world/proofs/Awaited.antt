-- A strand that has not closed is the first one, or a unit for which an earlier strand waits.
use Rattle.std.proofs.Common.{◌≡◌, ◌∙◌, ◌⊎◌, inl, inr, ℕ, zero, suc, ◌+◌, ◌<◌, ◌≤◌, Bool, true, false, List, ◌++◌, length, map, refl, ap, sym, subst, arith, true≢false}
use Rattle.std.specs.Prelude.{◌&&◌, Some, slice_get, slice_set, nat_lt, if◌then◌else◌}
use Rattle.std.specs.Option.{option_map_or}
use Rattle.std.proofs.Math.ListN.{length-set}
use Rattle.a68_acts.specs.Does.{did, refuses, does}
use Rattle.a68_acts.specs.Store.{Store, most_strands}
use Rattle.a68_acts.specs.declared.want.Reply.{Reply}
use Rattle.a68_acts.specs.declared.want.Reply.TheVariants as reply
use Rattle.a68_acts.specs.declared.want.Want.{Want}
use Rattle.a68_acts.specs.declared.want.Want.TheVariants as want
use Rattle.a68_code.specs.declared.code.Code.{Code}
use Rattle.a68_exec.proofs.Settled.{settle_still}
use Rattle.a68_exec.specs.Runs.{has_closed, is_closed, all_closed, woken}
use Rattle.a68_instructions.specs.Machine.{State, settle, replied, replied_in, told_by}
use Rattle.a68_instructions.specs.declared.ask.Stance.{Stance}
use Rattle.a68_instructions.specs.declared.ask.Stance.TheVariants.{Asking, Waits}
use Rattle.a68_instructions.specs.declared.ask.Waiting.{Waiting}
use Rattle.a68_instructions.specs.declared.ask.Waiting.TheVariants as waiting
use Rattle.a68_strand.proofs.Waking.{woken_still, woken_closed}
use Rattle.a68_values.specs.declared.act.Act.{Act}
use Rattle.a68_values.specs.declared.act.Act.TheVariants as act
use Rattle.a68_values.specs.declared.act.FaultKind.TheVariants as fault
use Rattle.a68_world.specs.Waking.{AllRest}
use Rattle.a68_world.proofs.Places.{get_mapped, get_map, get_front, get_other, get_one, is_within, parted, set_parted, set_same}

-- an earlier strand waits for it
pub record IsAwaited (strands : List State) (k : ℕ) : Type 0 where
  pub parent : ℕ
  pub st : State
  pub first : ℕ
  pub count : ℕ
  pub there : slice_get strands parent ≡ Some st
  pub waits : st.stance ≡ Waits first count
  pub before : parent < k
  pub from_on : first ≤ k
  pub below : k < first + count

abbrev pub AreAwaited : List State → Type 0
AreAwaited strands = (k : ℕ) (st : State) → slice_get strands k ≡ Some st → has_closed st.stance ≡ false → (k ≡ 0) ⊎ IsAwaited strands k

and-false : (b : Bool) → (b && false) ≡ false
and-false true = refl
and-false false = refl

past-first : (first k : ℕ) → first ≤ k → (first ≡ k → ⊥) → suc first ≤ k
past-first zero zero low ne = absurd (ne refl)
past-first zero (suc k) low ne = omega arith
past-first (suc f) zero low ne = absurd (omega (arith, low))
past-first (suc f) (suc k) low ne = let p = past-first f k (omega (arith, low)) (λ s. ne (ap suc s)) in omega (arith, p)

-- not all have closed where one has not
pub unit_open : (strands : List State) (first count k : ℕ) → first ≤ k → k < first + count → is_closed strands k ≡ false → all_closed strands first count ≡ false
unit_open strands first zero k low high e = absurd (omega (arith, low, high))
unit_open strands first (suc n) k low high e = by (is_closed strands first) refl (λ p. unit_open strands (suc first) n k p (omega (arith, high)) e)
  where
    by : (b : Bool) → is_closed strands first ≡ b → (suc first ≤ k → all_closed strands (suc first) n ≡ false) → (is_closed strands first && all_closed strands (suc first) n) ≡ false
    by false f more = ap (λ b. b && all_closed strands (suc first) n) f
    by true f more =
        rw (more (past-first first k low (λ s. true≢false (sym f ∙ ap (is_closed strands) s ∙ e)))) (and-false (is_closed strands first))

pub closed_there : (strands : List State) (k : ℕ) (st : State) → slice_get strands k ≡ Some st → is_closed strands k ≡ has_closed st.stance
closed_there strands k st e = ap (λ o. option_map_or (λ (x : State). has_closed x.stance) o false) e

-- one that waits for a unit which has not closed is not woken
still_waits : (code : Code) (all : List State) (p : ℕ) (st : State) (f c k : ℕ) (x : State) → AllRest code all → slice_get all p ≡ Some st → st.stance ≡ Waits f c → f ≤ k → k < f + c
    → slice_get all k ≡ Some x → has_closed x.stance ≡ false → woken code all st ≡ st
still_waits code all p st f c k x rest there waits low high at open_ =
    woken_still code all st (rest p st there) (λ a b e.
    let same : Waits a b ≡ Waits f c = sym e ∙ waits in
    let i : a ≡ f = cc in
    let j : b ≡ c = cc in
    unit_open all a b k (omega (arith, low, i)) (omega (arith, high, i, j)) (closed_there all k x at ∙ open_))

module _ (code : Code) (strands new : List State) (n : ℕ) (next s : State) (w : Want) (wait : Waiting) (rest : AllRest code (slice_set strands n next ++ new))
    (was : AreAwaited strands) (at : slice_get strands n ≡ Some s) (asks : s.stance ≡ Asking w wait)
    (forks : (i : ℕ) (x : State) → slice_get new i ≡ Some x → next.stance ≡ Waits (length strands) (length new)) where
  abbrev all : List State
  all = slice_set strands n next ++ new

  other : (k : ℕ) (x : State) → slice_get all k ≡ Some x → has_closed x.stance ≡ false → (k ≡ 0) ⊎ IsAwaited strands k → (k ≡ 0) ⊎ IsAwaited (map (woken code all) all) k
  other k x there open_ (inl z) = inl z
  other k x there open_ (inr a) =
      let apart : a.parent ≡ n → ⊥ = λ e.
      let is : a.st ≡ s = get_one strands n a.st s (sym (ap (slice_get strands) e) ∙ a.there) at in
      let both : Waits a.first a.count ≡ Asking w wait = sym a.waits ∙ ap (λ (y : State). y.stance) is ∙ asks in
      absurd (cc) in
      let here_ : slice_get all a.parent ≡ Some a.st = get_front (slice_set strands n next) new a.parent a.st (get_other strands n a.parent next a.st apart a.there) in
      let still : woken code all a.st ≡ a.st = still_waits code all a.parent a.st a.first a.count k x rest here_ a.waits a.from_on a.below there open_ in
      inr (record {
        parent = a.parent;
        st = a.st;
        first = a.first;
        count = a.count;
        there = get_map (woken code all) all a.parent a.st here_ ∙ ap (λ (y : State). Some y) still;
        waits = a.waits;
        before = a.before;
        from_on = a.from_on;
        below = a.below;
      })

  born : (k i : ℕ) (x : State) → slice_get all k ≡ Some x → has_closed x.stance ≡ false → k ≡ length (slice_set strands n next) + i → slice_get new i ≡ Some x → IsAwaited (map (woken code all) all) k
  born k i x there open_ is at_new =
      let waits = forks i x at_new in
      let long = length-set strands n next in
      let low = is_within strands n s at in
      let high = is_within new i x at_new in
      let here_ : slice_get all n ≡ Some next = get_front (slice_set strands n next) new n next (set_same strands n s next at) in
      let still : woken code all next ≡ next =
      still_waits code all n next (length strands) (length new) k x rest here_ waits (omega (arith, is, long)) (omega (arith, is, long, high)) there open_ in
      record {
        parent = n;
        st = next;
        first = length strands;
        count = length new;
        there = get_map (woken code all) all n next here_ ∙ ap (λ (y : State). Some y) still;
        waits = waits;
        before = omega (arith, low, is, long);
        from_on = omega (arith, is, long);
        below = omega (arith, is, long, high);
      }

  pub awaited_after : AreAwaited (map (woken code all) all)
  awaited_after k y e open_ =
      let x = get_mapped (woken code all) all k y e in
      let was_open : has_closed x.0.stance ≡ false = sym (woken_closed code all x.0 (rest k x.0 x.1)) ∙ ap (λ (z : State). has_closed z.stance) x.2 ∙ open_ in
      elim (parted (slice_set strands n next) new k x.0 x.1) [
        | inl front ↦ elim (set_parted strands n k next x.0 front) [
          | inl is ↦ other k x.0 x.1 was_open (subst (λ j. (j ≡ 0) ⊎ IsAwaited strands j) (sym is.0) (was n s at (ap has_closed asks)))
          | inr old ↦ other k x.0 x.1 was_open (was k x.0 old.1 was_open)
        ]
        | inr fresh ↦ inr (born k fresh.0 x.0 x.1 was_open fresh.1 fresh.2)
      ]

-- ---- a strand that asks for strands

forked : (es : List ℕ) (s t : Store) (done : Act) (told : Reply) (b : Bool)
    → (if b then refuses fault.Strands else did (act.Fork s.strands (length es)) (reply.Base s.strands) (record s { strands = s.strands + length es })) ≡ did done told t → told ≡ reply.Base s.strands
forked es s t done told true e = absurd (cc)
forked es s t done told false e = cc

pub fork_reply : (es : List ℕ) (s t : Store) (done : Act) (told : Reply) → does (want.Fork es) s ≡ did done told t → told ≡ reply.Base s.strands
unfolding does
fork_reply es s t done told e = forked es s t done told (nat_lt most_strands (s.strands + length es)) e

pub fork_waits : (code : Code) (st : State) (es : List ℕ) (wait : Waiting) (told : Reply) (first : ℕ) → st.stance ≡ Asking (want.Fork es) wait → wait ≡ waiting.Fork (length es)
    → told ≡ reply.Base first → (settle code (replied code st told)).stance ≡ Waits first (length es)
fork_waits code st es wait told first asks is e =
    let to : replied code st told ≡ record st { stance = Waits first (length es) } =
    ap (λ (m : Stance). replied_in m code st told) asks ∙ ap (λ (x : Waiting). told_by code st x told) is ∙ ap (λ (r : Reply). told_by code st (waiting.Fork (length es)) r) e in
    ap (λ (x : State). (settle code x).stance) to ∙ ap (λ (x : State). x.stance) (settle_still code (record st { stance = Waits first (length es) }) refl)
