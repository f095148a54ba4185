-- Where no strand can act and none meets a fault, each has come to its end, or is halted.
use Rattle.std.proofs.Common.{◌≡◌, ℕ, suc, Bool, true, false, List, ◌∷◌, None, Some, refl, sym, ap, ◌∙◌, subst, true≢false}
use Rattle.std.specs.Option.{option_map, option_and_then, option_map_or}
use Rattle.std.specs.Prelude.{slice_get, ◌&&◌}
use Rattle.std.specs.declared.option.Option.{Option}
use Rattle.a68_acts.specs.Does.{Outcome, did, refuses, waits, refused, does}
use Rattle.a68_acts.specs.Store.{Store}
use Rattle.a68_acts.specs.declared.want.Want.{Want}
use Rattle.a68_code.specs.declared.code.Code.{Code}
use Rattle.a68_elab.specs.Permitted.{IsHalted, Halted, at_down, waits_for, UnitsHalted, not_begun, has_yielded, in_parts, ended, halted, AllHalted, no_parts, and_halted, IsUnended}
use Rattle.a68_elab.specs.Positions.{Opens, here, within, in_unit, HasOpen, Comes, by_rule, by_jump}
use Rattle.a68_elab.specs.Rows.{Then, acts, row, finish}
use Rattle.a68_elab.specs.Terms.{Term, todo, part, yielded, unit_of, gathering, joining, Terms, no_terms, ◌and_term◌, values}
use Rattle.a68_elab.specs.Trees.{Program}
use Rattle.a68_sim.proofs.Family.{QuietIn, in_hole, own_hole, quiet_at, QuietAll, all_still, all_on, all_first, all_behind, all_joining, Kin, single, parent, Kins, no_kins, ◌and_kin◌, number, how_many, Lives, LiveAll}
use Rattle.a68_sim.proofs.Finishing.{Finish, unit_end, Works, Closes}
use Rattle.a68_sim.proofs.Quiet.{IsOpen, ActsNext, has_open}
use Rattle.a68_sim.proofs.Settling.{Yields, SettledIn}
use Rattle.a68_strand.proofs.Waking.{IsCalm}
use Rattle.a68_strand.specs.Ends.{CanActNow, fault_in, fault_of}
use Rattle.a68_instructions.specs.Machine.{State, told_by, place_at}
use Rattle.a68_exec.specs.Runs.{World, has_closed, is_closed, all_closed, acts_in, after}
use Rattle.a68_instructions.specs.declared.ask.Stance.{Stance}
use Rattle.a68_instructions.specs.declared.ask.Stance.TheVariants.{Idle, Asking, Failed, Waits, Closed}
use Rattle.a68_instructions.specs.declared.ask.Waiting.{Waiting}
use Rattle.a68_values.specs.Content.{Content}
use Rattle.a68_values.specs.declared.chain.Environ.{Environ}

-- ---- what has an open position has not yielded

opens_yielded : {u u' : Term} {x own : ℕ} {t t' : Term} → Opens u u' x own t t' → (v : Content) → t ≡ yielded v → u ≡ yielded v
opens_yielded here v e = e
opens_yielded (within o) v e = absurd (cc)
opens_yielded (in_unit o) v e = absurd (cc)

-- nothing comes next for a yield
comes_unended : (program : Program) (t : Term) (what : Then Term) → Comes program t what → IsUnended t
comes_unended program t what (by_rule is) v e = let none : row program t ≡ None = ap (row program) e in absurd (cc)
comes_unended program t what (by_jump is path) v e = absurd (cc)

pub is_unended : (program : Program) (own : ℕ) (t : Term) (x : ℕ) (what : Then Term) → HasOpen program own t x what → IsUnended t
is_unended program own t x what o v e =
    comes_unended program o.spot what o.is v (opens_yielded (o.opens o.spot) v e)

halted_unended : (program : Program) (store : Store) (own : ℕ) (t : Term) → Halted program store own t → IsUnended t
halted_unended program store own t (at_down what o b none) v e = is_unended program own t own what o v e
halted_unended program store own t (waits_for {chain = ch} {ts = ts} o some all) v e =
    let q : part joining ch ts ≡ yielded v = opens_yielded o v e in absurd (cc)

-- ---- what comes next stands behind parts that have yielded

some_behind : (v : Content) (o : Option (List Content)) (vs : List Content) → option_map (λ us. v ∷ us) o ≡ Some vs → (us : List Content) × (o ≡ Some us)
some_behind v None vs e = absurd (cc)
some_behind v (Some us) vs e = (us, refl)

values_halted : (program : Program) (store : Store) (ts : Terms) (vs : List Content) → values ts ≡ Some vs → AllHalted program store ts
values_halted program store no_terms vs e = no_parts
values_halted program store (yielded v and_term ts) vs e =
    let x = some_behind v (values ts) vs e in and_halted has_yielded (values_halted program store ts x.0 x.1)
values_halted program store (unit_of s (yielded v) and_term ts) vs e =
    let x = some_behind v (values ts) vs e in and_halted ended (values_halted program store ts x.0 x.1)
values_halted program store (unit_of s (todo tree ch) and_term ts) vs e = absurd (cc)
values_halted program store (unit_of s (part job ch ps) and_term ts) vs e = absurd (cc)
values_halted program store (unit_of s (unit_of x t) and_term ts) vs e = absurd (cc)
values_halted program store (todo tree ch and_term ts) vs e = absurd (cc)
values_halted program store (part job ch ps and_term ts) vs e = absurd (cc)

row_halted : (program : Program) (store : Store) (t : Term) (what : Then Term) → row program t ≡ Some what → UnitsHalted program store t
row_halted program store (todo tree ch) what is = not_begun
row_halted program store (yielded v) what is = has_yielded
row_halted program store (unit_of s t) what is = absurd (cc)
row_halted program store (part job ch ts) what is = by_values (values ts) refl is
  where
    by_values : (o : Option (List Content)) → values ts ≡ o → option_map (finish program job ch) o ≡ Some what → UnitsHalted program store (part job ch ts)
    by_values None e f = absurd (cc)
    by_values (Some vs) e f = in_parts (values_halted program store ts vs e)

-- what waits is no jump
spot_halted : (program : Program) (store : Store) (t : Term) (what : Then Term) → Comes program t what → IsHalted store what → UnitsHalted program store t
unfolding does
spot_halted program store t what (by_rule is) waiting = row_halted program store t what is
spot_halted program store t what (by_jump is path) waiting = absurd (cc)

open_halted : (program : Program) (store : Store) (t : Term) (what : Then Term) → IsOpen program t what → IsHalted store what → UnitsHalted program store t
open_halted program store t what o waiting =
    subst (UnitsHalted program store) (sym o.whole) (o.adds program store o.spot (spot_halted program store o.spot what o.is waiting))

-- so no strand is halted beside a unit that can go on: as with `(PAR (UP s, UP s), DOWN s)`, whose left side has forked
pub beside_halted : (program : Program) (store : Store) (own strand : ℕ) (t d : Term) (ts : Terms) (ch home : List Environ)
    → Halted program store own (part gathering home (part joining ch (unit_of strand t and_term ts) and_term d and_term no_terms))
    → UnitsHalted program store (unit_of strand t)
beside_halted program store own strand t d ts ch home (at_down what o waiting (in_parts (and_halted (in_parts (and_halted unit more)) right))) = unit
beside_halted program store own strand t d ts ch home (waits_for o some (in_parts (and_halted (in_parts (and_halted unit more)) right))) = unit

-- a unit that counts has yielded
first_yielded : (s : ℕ) (t : Term) (ts : Terms) (vs : List Content) → values (unit_of s t and_term ts) ≡ Some vs → (v : Content) × (t ≡ yielded v)
first_yielded s (yielded v) ts vs e = (v, refl)
first_yielded s (todo tree ch) ts vs e = absurd (cc)
first_yielded s (part job ch ps) ts vs e = absurd (cc)
first_yielded s (unit_of x t) ts vs e = absurd (cc)

none_or : (o : Option (List Content)) → ((vs : List Content) → o ≡ Some vs → ⊥) → o ≡ None
none_or None h = refl
none_or (Some vs) h = absurd (h vs refl)

module _ (program : Program) (code : Code) (w : World) (calm : IsCalm code w.strands) (no_act : (n : ℕ) → CanActNow code w n → ⊥) (no_fault : (n : ℕ) → fault_of w n ≡ None) where
  abbrev store : Store
  store = w.store

  -- possibly after silent steps the strand is halted
  pub record Halts (own : ℕ) (t : Term) : Type 0 where
    pub term : Term
    pub quiet : QuietIn program own t term
    pub halted : Halted program store own term

  -- what is found of a strand
  pub data Finds (own : ℕ) (how : Finish) (t : Term) : Type 0 where
    at_end : (st : State) → slice_get w.strands own ≡ Some st → st.stance ≡ Idle → Yields program how t → Finds own how t
    has_closed_so : Closes how t → is_closed w.strands own ≡ true → Finds own how t
    halts : Halts own t → Finds own how t

  -- the units are halted, or have closed
  pub record AllHalt (first : ℕ) (units : Kins) (ts : Terms) : Type 0 where
    pub terms : Terms
    pub quiet : (own : ℕ) → QuietAll program own ts terms
    pub all : AllHalted program store terms
    pub closed_if : (vs : List Content) → values terms ≡ Some vs → all_closed w.strands first (how_many units) ≡ true

  asks_none : (own : ℕ) (st : State) → slice_get w.strands own ≡ Some st → (want : Want) (wait : Waiting) → st.stance ≡ Asking want wait → (o : Outcome) → does want store ≡ o
      → o ≡ waits
  asks_none own st there want wait e waits d = refl
  asks_none own st there want wait e (did act r s2) d = absurd (no_act own (λ none. absurd (is_some none)))
    where
      is_some : option_and_then (λ (x : State). acts_in x.stance code w own x) (slice_get w.strands own) ≡ None → ⊥
      is_some none =
          let a = sym (ap (option_and_then (λ (x : State). acts_in x.stance code w own x)) there) ∙ none in
          let b = sym (ap (λ (x : Stance). acts_in x code w own st) e) ∙ a in
          let c = sym (ap (after code w own st want) d) ∙ b in absurd (cc)
  asks_none own st there want wait e (refuses why) d =
      let a = sym (ap (option_and_then (λ (x : State). fault_in x.stance store)) there) ∙ no_fault own in
      let b = sym (ap (λ (x : Stance). fault_in x store) e) ∙ a in
      let c = sym (ap refused d) ∙ b in absurd (cc)

  by_stance : (own : ℕ) (how : Finish) (t : Term) (st : State) → slice_get w.strands own ≡ Some st → (s : Stance) → st.stance ≡ s → SettledIn program code how s t st
      → Finds own how t
  by_stance own how t st there Idle e s = at_end st there e s
  by_stance own how t st there (Asking want wait) e s =
      let f : ActsNext program code (Works code how) t (place_at code.list st.at) want (told_by code st wait) = s in
      let waiting : does f.wants store ≡ waits = f.alike store ∙ asks_none own st there want wait e (does want store) refl in
      halts (record {
        term = f.now;
        quiet = quiet_at f.quiet own;
        halted = at_down (acts (place_at code.list st.at) f.wants f.next) (has_open f.open_at own) waiting
            (open_halted program store f.now (acts (place_at code.list st.at) f.wants f.next) f.open_at waiting);
      })
  by_stance own how t st there (Failed why) e s =
      let a = sym (ap (option_and_then (λ (x : State). fault_in x.stance store)) there) ∙ no_fault own in
      let b = sym (ap (λ (x : Stance). fault_in x store) e) ∙ a in absurd (cc)
  by_stance own how t st there (Waits first count) e s = absurd s
  by_stance own how t st there Closed e s =
      has_closed_so s (ap (λ (o : Option State). option_map_or (λ (x : State). has_closed x.stance) o false) there ∙ ap has_closed e)

  -- a strand that waits for units of which some have not closed
  parent_halts : (own : ℕ) (units : Kins) (how : Finish) (t : Term) → (l : Lives program code w.strands (parent own units) how t) → AllHalt l.0 units l.2
      → Halts own t
  parent_halts own units how t l a =
      let j = l.3 in
      let due = calm.due own j.st l.0 (how_many units) j.there j.waits in
      record {
        term = j.put (part joining l.1 a.terms);
        quiet = subst (λ (x : Term). QuietIn program own x (j.put (part joining l.1 a.terms))) (sym j.whole) (in_hole j.put (own_hole j.put j.hole own) (all_joining l.1 (a.quiet own)));
        halted = waits_for (j.hole.opens own own (part joining l.1 a.terms) (part joining l.1 a.terms) (part joining l.1 a.terms) (part joining l.1 a.terms) here)
            (none_or (values a.terms) (λ vs e. true≢false (sym (a.closed_if vs e) ∙ due)))
            (j.adds program store (part joining l.1 a.terms) (in_parts a.all));
      }

  -- the first of the units has closed, or is halted
  one_closed : (first : ℕ) (kin : Kin) (more : Kins) (t : Term) (behind : Terms) → (v : Content) → t ≡ yielded v → is_closed w.strands first ≡ true
      → AllHalt (suc first) more behind → AllHalt first (kin and_kin more) (unit_of first t and_term behind)
  one_closed first kin more t behind v is c r = record {
    terms = unit_of first (yielded v) and_term r.terms;
    quiet = λ own.
        subst (λ (x : Term). QuietAll program own (unit_of first x and_term behind) (unit_of first (yielded v) and_term r.terms)) (sym is)
        (all_behind (unit_of first (yielded v)) (r.quiet own));
    all = and_halted ended r.all;
    closed_if = λ vs e.
        let x = some_behind v (values r.terms) vs e in
        ap (λ (b : Bool). b && all_closed w.strands (suc first) (how_many more)) c ∙ r.closed_if x.0 x.1;
  }

  one_halts : (first : ℕ) (kin : Kin) (more : Kins) (t : Term) (behind : Terms) → Halts first t → AllHalt (suc first) more behind
      → AllHalt first (kin and_kin more) (unit_of first t and_term behind)
  one_halts first kin more t behind h r = record {
    terms = unit_of first h.term and_term r.terms;
    quiet = λ own. all_on (all_first behind h.quiet) (all_behind (unit_of first h.term) (r.quiet own));
    all = and_halted (halted h.halted) r.all;
    closed_if = λ vs e. let x = first_yielded first h.term r.terms vs e in absurd (halted_unended program store first h.term h.halted x.0 x.1);
  }

  one_more : (first p k : ℕ) (ch : List Environ) (kin : Kin) (more : Kins) (t : Term) (behind : Terms) → Finds first (unit_end p k ch) t
      → AllHalt (suc first) more behind → AllHalt first (kin and_kin more) (unit_of first t and_term behind)
  one_more first p k ch kin more t behind (at_end st there e y) r = absurd y
  one_more first p k ch kin more t behind (has_closed_so y c) r = one_closed first kin more t behind y.0 y.1 c r
  one_more first p k ch kin more t behind (halts h) r = one_halts first kin more t behind h r

  mutual
    pub finds : (kin : Kin) (how : Finish) (t : Term) → Lives program code w.strands kin how t → Finds (number kin) how t
    finds (single own) how t l = by_stance own how t l.0 l.1 l.0.stance refl l.2
    finds (parent own units) how t l = halts (parent_halts own units how t l (all_halt units l.0 l.1 l.2 l.4))

    all_halt : (units : Kins) (first : ℕ) (ch : List Environ) (ts : Terms) → LiveAll program code w.strands first units ch ts → AllHalt first units ts
    all_halt no_kins first ch ts l =
        record { terms = ts; quiet = λ own. all_still; all = subst (AllHalted program store) (sym l) no_parts; closed_if = λ vs e. refl }
    all_halt (kin and_kin more) first ch ts l =
        subst (AllHalt first (kin and_kin more)) (sym l.6)
        (one_more first l.0 l.1 ch kin more l.2 l.3 (subst (λ (x : ℕ). Finds x (unit_end l.0 l.1 ch) l.2) l.4 (finds kin (unit_end l.0 l.1 ch) l.2 l.7))
        (all_halt more (suc first) ch l.3 l.8))
