-- Each code has a run in which the strands take turns.
use Rattle.std.proofs.Common.{◌≡◌, ◌≤◌, ◌<◌, ◌⊎◌, ◌+◌, ◌-◌, inl, inr, ⊎_elim, ℕ, zero, suc, List, [], ◌∷◌, length, None, Some, refl, sym, ◌∙◌, ap, subst, arith, slice_get}
use Rattle.std.proofs.lemmas.Bool.{cases_lt}
use Rattle.std.proofs.lemmas.Option.{same_Some, slice_get_past}
use Rattle.std.specs.Option.{option_and_then}
use Rattle.std.specs.declared.option.Option.{Option}
use Rattle.a68_acts.specs.Keeping.{outer_slots}
use Rattle.a68_code.specs.declared.code.Code.{Code}
use Rattle.a68_strand.specs.Cyclic.{HasTurn, Sooner, IsFirstBehind, TakeTurns, IsTurnOf, EndsInTurn, last_of, Cyclic}
use Rattle.a68_strand.specs.Ends.{fault_of, fault_in, CanActNow, RunEndsWith, HasEnded, done, fault, all_halted, spent}
use Rattle.a68_instructions.specs.Machine.{State, place_at}
use Rattle.a68_instructions.specs.declared.ask.Stance.{Stance}
use Rattle.a68_instructions.specs.declared.ask.Stance.TheVariants.{Idle, Asking, Failed, Waits, Closed}
use Rattle.a68_strand.specs.RunOf.{RunOf}
use Rattle.a68_exec.specs.Runs.{World, Machine, IfNext, opening, acted, acts_in}
use Rattle.a68_values.specs.declared.act.Act.{Act}
use Rattle.a68_values.specs.declared.act.Entry.{Entry}
use Rattle.a68_values.specs.declared.act.FaultKind.{FaultKind}
use Rattle.a68_values.specs.declared.kept.End.{End}
use Rattle.a68_values.specs.declared.kept.End.TheVariants as ends
use Rattle.a68_values.specs.declared.kept.Kept.{Kept}
use Rattle.a68_workers.proofs.Turning.{one_turn_of, no_fault}

-- what comes of something is one thing
next_one : (o : Option (Act × World)) (a : Act) (P Q : World → Type 0) (R : Type 0) → ((v : World) → P v → Q v → R) → IfNext o a P → IfNext o a Q → R
next_one None a P Q R f p q = absurd p
next_one (Some next) a P Q R f p q = f next.1 p.1 q.1

-- entries lead to one world
machine_one : (code : Code) (es : List Entry) (w a b : World) → Machine code w es a → Machine code w es b → a ≡ b
machine_one code [] w a b x y = sym x ∙ y
machine_one code (e ∷ es) w a b x y =
    next_one (acted code w e.strand) e.act (λ v. Machine code v es a) (λ v. Machine code v es b) (a ≡ b) (λ v p q. machine_one code es v a b p q) x y

module _ (code : Code) where
  -- ---- the next strand

  -- a strand has something to do, or has not
  finds : (w : World) (n : ℕ) → HasTurn code w n ⊎ ((acted code w n ≡ None) × (fault_of w n ≡ None))
  finds w n = by_both (acted code w n) refl (fault_of w n) refl
    where
      by_both : (a : Option (Act × World)) → acted code w n ≡ a → (f : Option FaultKind) → fault_of w n ≡ f → HasTurn code w n ⊎ ((acted code w n ≡ None) × (fault_of w n ≡ None))
      by_both (Some next) e f g = inl (inl (λ none. let both : Some next ≡ None = sym e ∙ none in absurd (cc)))
      by_both None e (Some why) g = inl (inr (λ none. let both : Some why ≡ None = sym g ∙ none in absurd (cc)))
      by_both None e None g = inr (e, g)

  rests : (w : World) (n : ℕ) → (acted code w n ≡ None) × (fault_of w n ≡ None) → HasTurn code w n → ⊥
  rests w n none (inl can) = can none.0
  rests w n none (inr faults) = faults none.1

  -- no strand, nothing to do
  past_all : (w : World) (n : ℕ) → length w.strands ≤ n → HasTurn code w n → ⊥
  past_all w n past =
      let none = slice_get_past w.strands n past in
      rests w n (ap (option_and_then (λ (st : State). acts_in st.stance code w n st)) none, ap (option_and_then (λ (st : State). fault_in st.stance w.store)) none)

  -- the first of so many strands, from one on, that has something to do
  record First (w : World) (from count : ℕ) : Type 0 where
    pub off : ℕ
    pub less : off < count
    pub such : HasTurn code w (from + off)
    pub none : (k : ℕ) → k < off → HasTurn code w (from + k) → ⊥

  abbrev NoneOf : World → (from count : ℕ) → Type 0
  NoneOf w from count = (k : ℕ) → k < count → HasTurn code w (from + k) → ⊥

  one_on : (from k : ℕ) → suc from + k ≡ from + suc k
  one_on from k = omega arith

  search : (w : World) (count from : ℕ) → First w from count ⊎ NoneOf w from count
  search w zero from = inr (λ k less t. absurd (omega (arith, less)))
  search w (suc n) from = ⊎_elim at_once (later (search w n (suc from))) (finds w from)
    where
      same : from + 0 ≡ from
      same = omega arith

      at_once : HasTurn code w from → First w from (suc n) ⊎ NoneOf w from (suc n)
      at_once t = inl (record { off = 0; less = omega arith; such = subst (HasTurn code w) (sym same) t; none = λ k less u. absurd (omega (arith, less)) })

      none_before : (acted code w from ≡ None) × (fault_of w from ≡ None) → (off : ℕ) → ((k : ℕ) → k < off → HasTurn code w (suc from + k) → ⊥)
          → (k : ℕ) → k < suc off → HasTurn code w (from + k) → ⊥
      none_before none off others zero less t = rests w from none (subst (HasTurn code w) same t)
      none_before none off others (suc k) less t = others k (omega (arith, less)) (subst (HasTurn code w) (sym (one_on from k)) t)

      further : (acted code w from ≡ None) × (fault_of w from ≡ None) → First w (suc from) n → First w from (suc n)
      further none f = record {
        off = suc f.off;
        less = let l = f.less in omega (arith, l);
        such = subst (HasTurn code w) (one_on from f.off) f.such;
        none = none_before none f.off f.none;
      }

      later : First w (suc from) n ⊎ NoneOf w (suc from) n → (acted code w from ≡ None) × (fault_of w from ≡ None) → First w from (suc n) ⊎ NoneOf w from (suc n)
      later rest none = ⊎_elim (λ f. inl (further none f)) (λ others. inr (none_before none n others)) rest

  -- a strand so far behind another
  off_from : (from n : ℕ) → from ≤ n → from + (n - from) ≡ n
  off_from from n low = omega (arith, low)

  abbrev NoneAtAll : World → Type 0
  NoneAtAll w = (n : ℕ) → HasTurn code w n → ⊥

  abbrev NextBehind : World → (before : ℕ) → Type 0
  NextBehind w before = (n : ℕ) × IsFirstBehind (HasTurn code w) before n

  -- the strand is one with a higher number
  first_higher : (w : World) (before : ℕ) → First w (suc before) (length w.strands) → NextBehind w before
  first_higher w before f = (suc before + f.off, record { such = f.such; first = sooner })
    where
      sooner : (other : ℕ) → HasTurn code w other → Sooner before other (suc before + f.off) → ⊥
      sooner other t (inl (behind, inl low)) =
          f.none (other - suc before) (omega (arith, behind, low)) (subst (HasTurn code w) (sym (off_from (suc before) other (omega (arith, behind)))) t)
      sooner other t (inl (behind, inr high)) = absurd (omega (arith, high))
      sooner other t (inr (low, high)) = absurd (omega (arith, high))

  none_higher : (w : World) (before : ℕ) → NoneOf w (suc before) (length w.strands) → (other : ℕ) → before < other → HasTurn code w other → ⊥
  none_higher w before none other behind t =
      ⊎_elim
      (λ inside. none (other - suc before) (omega (arith, behind, inside)) (subst (HasTurn code w) (sym (off_from (suc before) other (omega (arith, behind)))) t))
      (λ past. past_all w other past t)
      (cases_lt other (length w.strands))

  -- it is the same one, or one with a lower number
  first_lower : (w : World) (before : ℕ) → NoneOf w (suc before) (length w.strands) → First w 0 (suc before) → NextBehind w before
  first_lower w before none f = (0 + f.off, record { such = f.such; first = sooner })
    where
      sooner : (other : ℕ) → HasTurn code w other → Sooner before other (0 + f.off) → ⊥
      sooner other t (inl (behind, further)) = none_higher w before none other behind t
      sooner other t (inr (low, high)) = f.none other (omega (arith, low)) (subst (HasTurn code w) (let e : other ≡ 0 + other = omega arith in e) t)

  none_anywhere : (w : World) (before : ℕ) → NoneOf w (suc before) (length w.strands) → NoneOf w 0 (suc before) → NoneAtAll w
  none_anywhere w before none others n t =
      ⊎_elim
      (λ behind. none_higher w before none n behind t)
      (λ low. others n (omega (arith, low)) (subst (HasTurn code w) (let e : n ≡ 0 + n = omega arith in e) t))
      (cases_lt before n)

  -- the strand whose turn it is behind another, where one has anything to do
  next_behind : (w : World) (before : ℕ) → NextBehind w before ⊎ NoneAtAll w
  next_behind w before =
      ⊎_elim
      (λ f. inl (first_higher w before f))
      (λ none. ⊎_elim (λ f. inl (first_lower w before none f)) (λ others. inr (none_anywhere w before none others)) (search w (suc before) 0))
      (search w (length w.strands) (suc before))

  -- the same where there is one strand, of which none has done anything
  next_first : (w : World) → length w.strands ≡ 1 → HasTurn code w 0 ⊎ NoneAtAll w
  next_first w one = ⊎_elim (λ t. inl t) (λ none. inr (none_there none)) (finds w 0)
    where
      none_there : (acted code w 0 ≡ None) × (fault_of w 0 ≡ None) → (n : ℕ) → HasTurn code w n → ⊥
      none_there none zero t = rests w 0 none t
      none_there none (suc n) t = past_all w (suc n) (omega (arith, one)) t

  -- ---- a run from a world on

  -- the rest of a run, with so much fuel: the entries, and where it ends
  record Goes (fuel : ℕ) (w : World) (before : Option ℕ) : Type 0 where
    pub entries : List Entry
    pub world : World
    pub end : End
    pub runs : Machine code w entries world
    pub turns : TakeTurns code w before entries
    pub within : length entries ≤ fuel
    pub ends : RunEndsWith code fuel entries world end
    pub in_turn : EndsInTurn code world (last_of before entries) end

  -- has the program ended?
  has_ended : (w : World) → HasEnded w 0 ⊎ (HasEnded w 0 → ⊥)
  has_ended w = by_strand (slice_get w.strands 0) refl
    where
      no_strand : slice_get w.strands 0 ≡ None → HasEnded w 0 → ⊥
      no_strand none h = let both : Some h.st ≡ None = sym h.there ∙ none in absurd (cc)

      other_stance : (st : State) → slice_get w.strands 0 ≡ Some st → (st.stance ≡ Idle → ⊥) → HasEnded w 0 → ⊥
      other_stance st there other h = other (ap (λ (x : State). x.stance) (same_Some st h.st (sym there ∙ h.there)) ∙ h.idle)

      by_stance : (st : State) → slice_get w.strands 0 ≡ Some st → (s : Stance) → st.stance ≡ s → HasEnded w 0 ⊎ (HasEnded w 0 → ⊥)
      by_stance st there Idle e = inl (record { st = st; there = there; idle = e })
      by_stance st there (Asking want waiting) e = inr (other_stance st there (λ f. absurd (cc)))
      by_stance st there (Failed why) e = inr (other_stance st there (λ f. absurd (cc)))
      by_stance st there (Waits first count) e = inr (other_stance st there (λ f. absurd (cc)))
      by_stance st there Closed e = inr (other_stance st there (λ f. absurd (cc)))

      by_strand : (o : Option State) → slice_get w.strands 0 ≡ o → HasEnded w 0 ⊎ (HasEnded w 0 → ⊥)
      by_strand None e = inr (no_strand e)
      by_strand (Some st) e = by_stance st e st.stance refl

  -- a strand that stands before a fault is there
  faulty : (w : World) (n : ℕ) (why : FaultKind) → fault_of w n ≡ Some why → (st : State) × (slice_get w.strands n ≡ Some st)
  faulty w n why f = by_strand (slice_get w.strands n) refl
    where
      by_strand : (o : Option State) → slice_get w.strands n ≡ o → (st : State) × (slice_get w.strands n ≡ Some st)
      by_strand None e =
          let none : fault_of w n ≡ None = ap (option_and_then (λ (st : State). fault_in st.stance w.store)) e in
          let both : Some why ≡ None = sym f ∙ none in absurd (cc)
      by_strand (Some st) e = (st, e)

  module _ (fuel : ℕ) (w : World) (before : Option ℕ) (unended : HasEnded w 0 → ⊥) where
    meets : (n : ℕ) → IsTurnOf code w before n → (why : FaultKind) → fault_of w n ≡ Some why → Goes fuel w before
    meets n turn why f =
        let s = faulty w n why f in
        record {
          entries = [];
          world = w;
          end = ends.Fault why (place_at code.list s.0.at) n;
          runs = refl;
          turns = tt;
          within = omega arith;
          ends = fault unended f s.1 refl;
          in_turn = turn;
        }

    halts : NoneAtAll w → Goes fuel w before
    halts none = record {
      entries = [];
      world = w;
      end = ends.AllHalted;
      runs = refl;
      turns = tt;
      within = omega arith;
      ends = all_halted unended (λ n can. none n (inl can)) (λ n. free n (fault_of w n) refl);
      in_turn = tt;
    }
      where
        free : (n : ℕ) (o : Option FaultKind) → fault_of w n ≡ o → fault_of w n ≡ None
        free n None e = e
        free n (Some why) e = absurd (none n (inr (λ f. let both : Some why ≡ None = sym e ∙ f in absurd (cc))))

  -- with no fuel left
  is_spent : (w : World) (before : Option ℕ) → (HasEnded w 0 → ⊥) → (n : ℕ) → IsTurnOf code w before n → CanActNow code w n → Goes 0 w before
  is_spent w before unended n turn can = record {
    entries = [];
    world = w;
    end = ends.Spent;
    runs = refl;
    turns = tt;
    within = omega arith;
    ends = spent n unended refl can;
    in_turn = λ m other. ap (fault_of w) (one_turn_of code w before m n other turn) ∙ no_fault code w n can;
  }

  -- one entry more
  goes_on : (fuel : ℕ) (w next : World) (before : Option ℕ) (n : ℕ) (act : Act) → IsTurnOf code w before n → acted code w n ≡ Some (act, next) → Goes fuel next (Some n) → Goes (suc fuel) w before
  goes_on fuel w next before n act turn is g = record {
    entries = record { strand = n; act = act } ∷ g.entries;
    world = g.world;
    end = g.end;
    runs = subst (λ o. IfNext o act (λ v. Machine code v g.entries g.world)) (sym is) (refl, g.runs);
    turns = (turn, subst (λ o. IfNext o act (λ v. TakeTurns code v (Some n) g.entries)) (sym is) (refl, g.turns));
    within = let l = g.within in omega (arith, l);
    ends = longer fuel g.entries g.world g.end (record { strand = n; act = act }) g.ends;
    in_turn = g.in_turn;
  }
    where
      longer : (fuel : ℕ) (es : List Entry) (v : World) (end : End) (e : Entry) → RunEndsWith code fuel es v end → RunEndsWith code (suc fuel) (e ∷ es) v end
      longer fuel es v ends.Done e (done h) = done h
      longer fuel es v (ends.Fault k p s) e (fault un f there at) = fault un f there at
      longer fuel es v ends.AllHalted e (all_halted un none free) = all_halted un none free
      longer fuel es v ends.Spent e (spent s un full can) = spent s un (ap suc full) can

  ended_here : (fuel : ℕ) (w : World) (before : Option ℕ) → HasEnded w 0 → Goes fuel w before
  ended_here fuel w before h =
      record { entries = []; world = w; end = ends.Done; runs = refl; turns = tt; within = omega arith; ends = done h; in_turn = tt }

  -- the run goes on with the strand whose turn it is
  from_turn : (fuel : ℕ) (w : World) (before : Option ℕ) → (HasEnded w 0 → ⊥) → (n : ℕ) → IsTurnOf code w before n → HasTurn code w n
      → ((k : ℕ) → fuel ≡ suc k → (v : World) → Goes k v (Some n)) → Goes fuel w before
  from_turn fuel w before un n turn has more = by_fault (fault_of w n) refl
    where
      by_act : (fuel : ℕ) → ((k : ℕ) → fuel ≡ suc k → (v : World) → Goes k v (Some n)) → CanActNow code w n → (o : Option (Act × World)) → acted code w n ≡ o → Goes fuel w before
      by_act fuel more can None e = absurd (can e)
      by_act zero more can (Some next) e = is_spent w before un n turn can
      by_act (suc k) more can (Some next) e = goes_on k w next.1 before n next.0 turn e (more k refl next.1)

      can_act : fault_of w n ≡ None → HasTurn code w n → CanActNow code w n
      can_act none (inl can) = can
      can_act none (inr faults) = absurd (faults none)

      by_fault : (o : Option FaultKind) → fault_of w n ≡ o → Goes fuel w before
      by_fault (Some why) e = meets fuel w before un n turn why e
      by_fault None e = by_act fuel more (can_act e has) (acted code w n) refl

  -- where a run from any world on has one entry less to do, this one has a rest too
  goes_so : (fuel : ℕ) → ((k : ℕ) → fuel ≡ suc k → (v : World) (n : ℕ) → Goes k v (Some n)) → (w : World) (before : ℕ) → Goes fuel w (Some before)
  goes_so fuel less w before = ⊎_elim (ended_here fuel w (Some before)) unended (has_ended w)
    where
      unended : (HasEnded w 0 → ⊥) → Goes fuel w (Some before)
      unended un =
          ⊎_elim
          (λ f. from_turn fuel w (Some before) un f.0 f.1 f.1.such (λ k e v. less k e v f.0))
          (halts fuel w (Some before) un)
          (next_behind w before)

  goes : (fuel : ℕ) (w : World) (before : ℕ) → Goes fuel w (Some before)
  goes zero w before = goes_so zero (λ k e v n. absurd (omega (arith, e))) w before
  goes (suc j) w before =
      goes_so (suc j) (λ k e v n. let same : j ≡ k = omega (arith, e) in subst (λ (x : ℕ). Goes x v (Some n)) same (goes j v n)) w before

  begins : (fuel : ℕ) → Goes fuel (opening code) None
  begins fuel = ⊎_elim (ended_here fuel (opening code) None) unended (has_ended (opening code))
    where
      unended : (HasEnded (opening code) 0 → ⊥) → Goes fuel (opening code) None
      unended un =
          ⊎_elim (λ t. from_turn fuel (opening code) None un 0 refl t (λ k e v. goes k v 0)) (halts fuel (opening code) None un) (next_first (opening code) refl)

-- with each fuel a code has a run in which the strands take turns
pub a_run : (code : Code) (fuel : ℕ) → (kept : Kept) × RunOf code fuel kept × Cyclic code kept
a_run code fuel =
    let g = begins code fuel in (
      record { journal = record { entries = g.entries; text = g.world.store.text }; cells = g.world.store.cells; outer = outer_slots g.world.store; end = g.end },
      record { world = g.world; runs = g.runs; keeps = record { text = refl; cells = refl; outer = refl }; within = g.within; ends = g.ends },
      record {
        turns = g.turns;
        ends = λ w runs. subst (λ (x : World). EndsInTurn code x (last_of None g.entries) g.end) (machine_one code g.entries (opening code) g.world w g.runs runs) g.in_turn;
      },
    )
