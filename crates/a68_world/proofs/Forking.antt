-- What is kept of the strands that made others, as lists and over the strands of the machine.
use Rattle.std.proofs.Common.{◌≡◌, ◌∙◌, inl, inr, ℕ, zero, suc, ◌+◌, ◌<◌, ◌≤◌, Bool, true, false, List, [], ◌∷◌, length, map, refl, ap, sym, arith, true≢false}
use Rattle.std.proofs.lemmas.Bool.{false≢true}
use Rattle.std.specs.Prelude.{◌&&◌, None, Some, slice_get, slice_set, if◌then◌else◌}
use Rattle.std.specs.Option.{option_map_or}
use Rattle.a68_code.specs.declared.code.Code.{Code}
use Rattle.a68_exec.proofs.Alive.{active}
use Rattle.a68_exec.specs.Runs.{has_closed, is_passive, is_closed, all_closed, woken, woken_in}
use Rattle.a68_instructions.specs.Machine.{State, next_state, settle}
use Rattle.a68_instructions.specs.declared.ask.Stance.{Stance}
use Rattle.a68_instructions.specs.declared.ask.Stance.TheVariants.{Idle, Asking, Failed, Waits, Closed}
use Rattle.a68_strand.proofs.Waking.{woken_still}
use Rattle.a68_world.specs.Kin.{AreKin, OnlyBehind, forker_at, pending_at, with_pending}
use Rattle.a68_world.specs.Waking.{AllRest, IsReleased}
use Rattle.a68_world.specs.declared.kin.Kin.{Kin}
use Rattle.a68_world.proofs.Places.{below_or_not, get_mapped, is_there, length_map, set_same}
use Rattle.a68_world.proofs.Rousing.{closed_mapped}

-- ---- lists

forker-set : (kin : List Kin) (n k : ℕ) (y : Kin) → y.forker ≡ forker_at kin n → forker_at (slice_set kin n y) k ≡ forker_at kin k
forker-set [] n k y e = refl
forker-set (x ∷ kin) zero zero y e = e
forker-set (x ∷ kin) zero (suc k) y e = refl
forker-set (x ∷ kin) (suc n) zero y e = refl
forker-set (x ∷ kin) (suc n) (suc k) y e = forker-set kin n k y e

pending-set : (kin : List Kin) (n k : ℕ) (y : Kin) → (k ≡ n → ⊥) → pending_at (slice_set kin n y) k ≡ pending_at kin k
pending-set [] n k y ne = refl
pending-set (x ∷ kin) zero zero y ne = absurd (ne refl)
pending-set (x ∷ kin) zero (suc k) y ne = refl
pending-set (x ∷ kin) (suc n) zero y ne = refl
pending-set (x ∷ kin) (suc n) (suc k) y ne = pending-set kin n k y (λ e. ne (ap suc e))

pending-own : (kin : List Kin) (n : ℕ) (y : Kin) → n < length kin → pending_at (slice_set kin n y) n ≡ y.pending
pending-own kin n y h = let x = is_there kin n h in ap (λ o. option_map_or (λ (of : Kin). of.pending) o 0) (set_same kin n x.0 y x.1)

pub forker_kept : (kin : List Kin) (n pending k : ℕ) → forker_at (with_pending kin n pending) k ≡ forker_at kin k
forker_kept kin n pending k = forker-set kin n k (record { forker = forker_at kin n; pending = pending }) refl

pub pending_kept : (kin : List Kin) (n pending k : ℕ) → (k ≡ n → ⊥) → pending_at (with_pending kin n pending) k ≡ pending_at kin k
pending_kept kin n pending k ne = pending-set kin n k (record { forker = forker_at kin n; pending = pending }) ne

pub pending_set : (kin : List Kin) (n pending : ℕ) → n < length kin → pending_at (with_pending kin n pending) n ≡ pending
pending_set kin n pending h = pending-own kin n (record { forker = forker_at kin n; pending = pending }) h

-- ---- the strands of the machine

-- where none waits
pub kin_none : (kin : List Kin) (strands : List State) → length kin ≡ length strands → ((k : ℕ) (st : State) (f c : ℕ) → slice_get strands k ≡ Some st → st.stance ≡ Waits f c → ⊥) → AreKin kin strands
kin_none kin strands long none = record {
  long = long;
  within = λ k st f c e w. absurd (none k st f c e w);
  forker = λ k st f c e w i low high. absurd (none k st f c e w);
  closed = λ k st f c e w i low high. absurd (none k st f c e w);
}

-- one that waits once those that are due are woken has waited so before
waits-same : (code : Code) (all : List State) (st : State) (f c : ℕ) → next_state code st ≡ None → (woken code all st).stance ≡ Waits f c → st.stance ≡ Waits f c
waits-same code all st f c none w = by st.stance refl
  where
    same : ((a b : ℕ) → st.stance ≡ Waits a b → all_closed all a b ≡ false) → st.stance ≡ Waits f c
    same open_ = sym (ap (λ (x : State). x.stance) (woken_still code all st none open_)) ∙ w

    test : (a b : ℕ) (t : Bool) → all_closed all a b ≡ t → st.stance ≡ Waits a b → st.stance ≡ Waits f c
    test a b true t e =
        let woke : woken code all st ≡ settle code (record st { at = suc st.at; stance = Idle }) =
        ap (λ (m : Stance). settle code (woken_in all st m)) e ∙ ap (λ (x : Bool). settle code (if x then record st { at = suc st.at; stance = Idle } else st)) t in
        absurd (true≢false (sym (ap is_passive w) ∙ ap (λ (x : State). is_passive x.stance) woke ∙ active code (record st { at = suc st.at; stance = Idle }) refl))
    test a b false t e = same (λ x y g.
        let both : Waits x y ≡ Waits a b = sym g ∙ e in
        let p : x ≡ a = cc in
        let q : y ≡ b = cc in
        ap (λ z. all_closed all z y) p ∙ ap (λ z. all_closed all a z) q ∙ t)

    by : (m : Stance) → st.stance ≡ m → st.stance ≡ Waits f c
    by (Waits a b) e = test a b (all_closed all a b) refl e
    by Idle e = same (λ a b g. absurd (cc (e, g)))
    by (Asking want wait) e = same (λ a b g. absurd (cc (e, g)))
    by (Failed why) e = same (λ a b g. absurd (cc (e, g)))
    by Closed e = same (λ a b g. absurd (cc (e, g)))

pub kin_woken : (code : Code) (all : List State) → AllRest code all → (kin : List Kin) → AreKin kin all → AreKin kin (map (woken code all) all)
kin_woken code all rest kin are = record {
  long = are.long ∙ sym (length_map (woken code all) all);
  within = λ k st f c e w. let x = before k st f c e w in omega (arith, are.within k x.0 f c x.1 x.2, length_map (woken code all) all);
  forker = λ k st f c e w i low high. let x = before k st f c e w in are.forker k x.0 f c x.1 x.2 i low high;
  closed = λ k st f c e w i low high. let x = before k st f c e w in closed_mapped code all rest i ∙ are.closed k x.0 f c x.1 x.2 i low high;
}
  where
    before : (k : ℕ) (st : State) (f c : ℕ) → slice_get (map (woken code all) all) k ≡ Some st → st.stance ≡ Waits f c → (x : State) × (slice_get all k ≡ Some x) × (x.stance ≡ Waits f c)
    before k st f c e w =
        let x = get_mapped (woken code all) all k st e in
        (x.0, x.1, waits-same code all x.0 f c (rest k x.0 x.1) (ap (λ (y : State). y.stance) x.2 ∙ w))

-- ---- so many that have closed

all-and : (a b : Bool) → (a && b) ≡ true → (a ≡ true) × (b ≡ true)
all-and true b e = (refl, e)
all-and false b e = absurd (false≢true e)

pub closed_all : (strands : List State) (f c : ℕ) → all_closed strands f c ≡ true → (i : ℕ) → f ≤ i → i < f + c → is_closed strands i ≡ true
closed_all strands f zero all i low high = absurd (omega (arith, low, high))
closed_all strands f (suc c) all i low high =
    let both = all-and (is_closed strands f) (all_closed strands (suc f) c) all in
    elim (below_or_not f i) [
      | inl more ↦ closed_all strands (suc f) c both.1 i (omega (arith, more)) (omega (arith, high))
      | inr less ↦ let is : i ≡ f = omega (arith, low, less) in ap (is_closed strands) is ∙ both.0
    ]

pub all_by : (strands : List State) (f c : ℕ) → ((i : ℕ) → f ≤ i → i < f + c → is_closed strands i ≡ true) → all_closed strands f c ≡ true
all_by strands f zero each = refl
all_by strands f (suc c) each =
    ap (λ b. b && all_closed strands (suc f) c) (each f (omega arith) (omega arith)) ∙ all_by strands (suc f) c (λ i low high. each i (omega (arith, low)) (omega (arith, high)))

-- ---- who is due

pub only_forker : (kin : List Kin) (strands : List State) (n : ℕ) → AreKin kin strands → is_closed strands n ≡ true → OnlyBehind strands n → (k : ℕ) → IsReleased strands k → k ≡ forker_at kin n
only_forker kin strands n are closed only k r = elim (only k r) [
  | inl is ↦
      let open_ : is_closed strands n ≡ false =
      ap (λ j. is_closed strands j) (sym is) ∙ ap (λ o. option_map_or (λ (x : State). has_closed x.stance) o false) r.there ∙ ap has_closed r.waits in
      absurd (true≢false (sym closed ∙ open_))
  | inr q ↦ sym (are.forker k r.st r.first r.count r.there r.waits n q.1 q.2)
]

pub only_self : (strands : List State) (n : ℕ) → is_closed strands n ≡ false → OnlyBehind strands n → (k : ℕ) → IsReleased strands k → k ≡ n
only_self strands n open_ only k r = elim (only k r) [ inl is ↦ is | inr q ↦ absurd (true≢false (sym q.0 ∙ open_)) ]
