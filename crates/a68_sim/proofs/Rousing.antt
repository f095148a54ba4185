-- Strands whose units have all closed go on, and the program's term follows.
use Rattle.std.proofs.Common.{◌≡◌, ◌≢◌, ℕ, suc, ◌<◌, ◌≤◌, arith, Bool, true, false, List, [], ◌∷◌, map, None, Some, refl, sym, ap, ◌∙◌, subst, ⊎_elim, true≢false}
use Rattle.std.specs.Option.{option_map, option_map_or}
use Rattle.std.specs.Prelude.{slice_get, ◌&&◌, if◌then◌else◌}
use Rattle.std.specs.declared.option.Option.{Option}
use Rattle.std.proofs.lemmas.Bool.{cases_eq}
use Rattle.a68_code.specs.declared.code.Code.{Code}
use Rattle.a68_elab.specs.Positions.{here}
use Rattle.a68_elab.specs.Rows.{finish}
use Rattle.a68_elab.specs.Terms.{Term, part, yielded, unit_of, joining, Terms, ◌and_term◌, values}
use Rattle.a68_elab.specs.Trees.{Program}
use Rattle.a68_sim.proofs.Family.{QuietIn, in_still, in_step, in_on, in_hole, own_hole, quiet_at, QuietAll, all_still, all_on, all_first, all_behind, all_joining, Kin, single, parent, Kins, no_kins, ◌and_kin◌, number, how_many, times, times_all, Lives, LiveAll}
use Rattle.a68_sim.proofs.Finishing.{Finish, unit_end, EndsAt}
use Rattle.a68_sim.proofs.Lists.{same_is, get_map}
use Rattle.a68_sim.proofs.Routines.{TextsStand}
use Rattle.a68_sim.proofs.Settling.{SettledIn, Settled, Arrives, settles}
use Rattle.a68_strand.proofs.Waking.{woken_still}
use Rattle.a68_instructions.specs.Machine.{State, next_state, settle}
use Rattle.a68_exec.specs.Runs.{has_closed, is_closed, all_closed, woken, woken_in}
use Rattle.a68_instructions.specs.declared.ask.Stance.{Stance}
use Rattle.a68_instructions.specs.declared.ask.Stance.TheVariants.{Idle, Asking, Failed, Waits, Closed}
use Rattle.a68_values.specs.Content.{Content, void}
use Rattle.a68_values.specs.declared.chain.Environ.{Environ}

both_true : (a b : Bool) → (a && b) ≡ true → (a ≡ true) × (b ≡ true)
both_true true true h = (refl, refl)
both_true true false h = absurd (true≢false (sym h))
both_true false b h = absurd (true≢false (sym h))

closed_is : (s : Stance) → has_closed s ≡ true → s ≡ Closed
closed_is Closed e = refl
closed_is Idle e = absurd (true≢false (sym e))
closed_is (Asking w wait) e = absurd (true≢false (sym e))
closed_is (Failed why) e = absurd (true≢false (sym e))
closed_is (Waits first count) e = absurd (true≢false (sym e))

-- a strand that has settled in its term does not wait
settled_goes : (program : Program) (code : Code) (how : Finish) (t : Term) (st : State) (first count : ℕ) → Settled program code how t st → st.stance ≢ Waits first count
settled_goes program code how t st first count s e = subst (λ (x : Stance). SettledIn program code how x t st) e s

closed_at : (sts : List State) (s : ℕ) (st : State) → is_closed sts s ≡ true → slice_get sts s ≡ Some st → st.stance ≡ Closed
closed_at sts s st c e =
    closed_is st.stance (sym (ap (λ (o : Option State). option_map_or (λ (x : State). has_closed x.stance) o false) e) ∙ c)

-- ---- units that have all closed

module _ (program : Program) (code : Code) (all : List State) where
  -- a unit that has closed is alone, and has yielded
  closed_unit : (kin : Kin) (p k : ℕ) (ch : List Environ) (t : Term) → is_closed all (number kin) ≡ true → Lives program code all kin (unit_end p k ch) t
      → ((v : Content) × (t ≡ yielded v)) × ((s : ℕ) (st : State) → 0 < times s kin → slice_get all s ≡ Some st → st.stance ≡ Closed)
  closed_unit (single own) p k ch t c l =
      let e = closed_at all own l.0 c l.1 in (
        subst (λ (x : Stance). SettledIn program code (unit_end p k ch) x t l.0) e l.2,
        λ s st less there. closed_at all own st c (ap (slice_get all) (sym (same_is s own less)) ∙ there),
      )
  closed_unit (parent own units) p k ch t c l =
      let e : Closed ≡ Waits l.0 (how_many units) = sym (closed_at all own l.3.st c l.3.there) ∙ l.3.waits in absurd (cc)

  pub closed_units : (units : Kins) (first : ℕ) (ch : List Environ) (ts : Terms) → all_closed all first (how_many units) ≡ true → LiveAll program code all first units ch ts
      → ((vs : List Content) × (values ts ≡ Some vs)) × ((s : ℕ) (st : State) → 0 < times_all s units → slice_get all s ≡ Some st → st.stance ≡ Closed)
  closed_units no_kins first ch ts c l = (([], ap values l), λ s st less there. absurd (omega arith))
  closed_units (kin and_kin more) first ch ts c l =
      let b = both_true (is_closed all first) (all_closed all (suc first) (how_many more)) c in
      let u = closed_unit kin l.0 l.1 ch l.2 (ap (is_closed all) l.4 ∙ b.0) l.7 in
      let r = closed_units more (suc first) ch l.3 b.1 l.8 in (
        (
          u.0.0 ∷ r.0.0,
          ap values l.6 ∙ ap (λ (x : Term). values (unit_of first x and_term l.3)) u.0.1 ∙ ap (option_map (λ vs. u.0.0 ∷ vs)) r.0.1,
        ),
        λ s st less there. ⊎_elim (λ none. r.1 s st (omega arith) there) (λ some. u.1 s st (omega arith) there) (cases_eq (times s kin) 0),
      )

-- ---- each strand that may go on does

module _ (program : Program) (code : Code) (same_modes : code.modes ≡ program.modes) (texts : TextsStand program code) (all : List State) (rests : (s : ℕ) (st : State) → slice_get all s ≡ Some st → next_state code st ≡ None) where
  abbrev sts' : List State
  sts' = map (woken code all) all

  -- those that the family has lost have closed
  abbrev Lost : (ℕ → ℕ) → (ℕ → ℕ) → Type 0
  Lost was is = (s : ℕ) (st : State) → 0 < was s → is s ≡ 0 → slice_get all s ≡ Some st → st.stance ≡ Closed

  pub record Woke (kin : Kin) (how : Finish) (t : Term) : Type 0 where
    pub kin' : Kin
    pub term : Term
    pub quiet : QuietIn program (number kin) t term
    pub lives : Lives program code sts' kin' how term
    pub root : number kin' ≡ number kin
    pub less : (s : ℕ) → times s kin' ≤ times s kin
    pub lost : Lost (λ s. times s kin) (λ s. times s kin')

  pub record WokeAll (first : ℕ) (units : Kins) (ch : List Environ) (ts : Terms) : Type 0 where
    pub units' : Kins
    pub terms : Terms
    pub quiet : (own : ℕ) → QuietAll program own ts terms
    pub lives : LiveAll program code sts' first units' ch terms
    pub long : how_many units' ≡ how_many units
    pub less : (s : ℕ) → times_all s units' ≤ times_all s units
    pub lost : Lost (λ s. times_all s units) (λ s. times_all s units')

  -- a strand that has no units stays
  wake_single : (own : ℕ) (how : Finish) (t : Term) → Lives program code all (single own) how t → Woke (single own) how t
  wake_single own how t l = record {
    kin' = single own;
    term = t;
    quiet = in_still;
    lives = (
      l.0,
      get_map (woken code all) all own l.0 l.1
          ∙ ap (λ (x : State). Some x) (woken_still code all l.0 (rests own l.0 l.1) (λ first count e. absurd (settled_goes program code how t l.0 first count l.2 e))),
      l.2,
    );
    root = refl;
    less = λ s. omega arith;
    lost = λ s st was is there. absurd (omega arith);
  }

  -- one whose units have closed goes on
  wake_parent : (own : ℕ) (units : Kins) (how : Finish) (t : Term) → EndsAt code how → (l : Lives program code all (parent own units) how t)
      → all_closed all l.0 (how_many units) ≡ true → Woke (parent own units) how t
  wake_parent own units how t ends l c =
      let j = l.3 in
      let closed = closed_units program code all units l.0 l.1 l.2 c l.4 in
      let next : State = record j.st { at = suc j.st.at; stance = Idle } in
      let later : Arrives program code how (j.put (yielded void)) (settle code next) = settles program code same_modes texts how ends (j.put (yielded void)) next j.goes_on in
      let first : QuietIn program own (j.put (part joining l.1 l.2)) (j.put (yielded void)) =
      in_step (j.hole.opens own own (part joining l.1 l.2) (yielded void) (part joining l.1 l.2) (yielded void) here) (ap (option_map (finish program joining l.1)) closed.0.1) in_still in
      record {
        kin' = single own;
        term = later.0;
        quiet = subst (λ (x : Term). QuietIn program own x later.0) (sym j.whole) (in_on first (quiet_at later.1 own));
        lives = (settle code next, get_map (woken code all) all own j.st j.there ∙ ap (λ (x : State). Some x) woke, later.2);
        root = refl;
        less = λ s. omega arith;
        lost = λ s st was is there. closed.1 s st (omega arith) there;
      }
    where
      woke : woken code all l.3.st ≡ settle code (record l.3.st { at = suc l.3.st.at; stance = Idle })
      woke =
          ap (λ (x : Stance). settle code (woken_in all l.3.st x)) l.3.waits
          ∙ ap (λ (b : Bool). settle code (if b then record l.3.st { at = suc l.3.st.at; stance = Idle } else l.3.st)) c

  -- one of whose units some have not closed waits on
  wake_waiting : (own : ℕ) (units : Kins) (how : Finish) (t : Term) → (l : Lives program code all (parent own units) how t)
      → all_closed all l.0 (how_many units) ≡ false → WokeAll l.0 units l.1 l.2 → Woke (parent own units) how t
  wake_waiting own units how t l c a =
      let j = l.3 in
      record {
        kin' = parent own a.units';
        term = j.put (part joining l.1 a.terms);
        quiet = subst (λ (x : Term). QuietIn program own x (j.put (part joining l.1 a.terms))) (sym j.whole) (in_hole j.put (own_hole j.put j.hole own) (all_joining l.1 (a.quiet own)));
        lives = (
          l.0,
          l.1,
          a.terms,
          record {
            st = j.st;
            there = get_map (woken code all) all own j.st j.there ∙ ap (λ (x : State). Some x) (woken_still code all j.st (rests own j.st j.there) due);
            waits = j.waits ∙ ap (Waits l.0) (sym a.long);
            put = j.put;
            hole = j.hole;
            adds = j.adds;
            whole = refl;
            goes_on = j.goes_on;
          },
          a.lives,
        );
        root = refl;
        less = λ s. let e = a.less s in omega arith;
        lost = λ s st was is there. a.lost s st (omega arith) (omega arith) there;
      }
    where
      due : (first count : ℕ) → l.3.st.stance ≡ Waits first count → all_closed all first count ≡ false
      due first count e =
          let q : Waits first count ≡ Waits l.0 (how_many units) = sym e ∙ l.3.waits in
          let q1 : first ≡ l.0 = cc in
          let q2 : count ≡ how_many units = cc in
          ap (λ (x : ℕ). all_closed all x count) q1 ∙ ap (all_closed all l.0) q2 ∙ c

  by_closed : (own : ℕ) (units : Kins) (how : Finish) (t : Term) → EndsAt code how → (l : Lives program code all (parent own units) how t)
      → WokeAll l.0 units l.1 l.2 → (b : Bool) → all_closed all l.0 (how_many units) ≡ b → Woke (parent own units) how t
  by_closed own units how t ends l a true c = wake_parent own units how t ends l c
  by_closed own units how t ends l a false c = wake_waiting own units how t l c a

  both_woke : (kin : Kin) (more : Kins) (first : ℕ) (ch : List Environ) (ts : Terms) → (l : LiveAll program code all first (kin and_kin more) ch ts)
      → Woke kin (unit_end l.0 l.1 ch) l.2 → WokeAll (suc first) more ch l.3 → WokeAll first (kin and_kin more) ch ts
  both_woke kin more first ch ts l u r = record {
    units' = u.kin' and_kin r.units';
    terms = unit_of first u.term and_term r.terms;
    quiet = λ own.
        subst (λ (x : Terms). QuietAll program own x (unit_of first u.term and_term r.terms)) (sym l.6)
        (all_on (all_first l.3 (subst (λ (x : ℕ). QuietIn program x l.2 u.term) l.4 u.quiet)) (all_behind (unit_of first u.term) (r.quiet own)));
    lives = (l.0, l.1, u.term, r.terms, u.root ∙ l.4, l.5, refl, u.lives, r.lives);
    long = ap (λ (n : ℕ). suc n) r.long;
    less = λ s. let a = u.less s in let b = r.less s in omega arith;
    lost = λ s st was is there.
        ⊎_elim (λ none. r.lost s st (omega arith) (omega arith) there) (λ some. u.lost s st (omega arith) (omega arith) there) (cases_eq (times s kin) 0);
  }

  mutual
    pub wake : (kin : Kin) (how : Finish) (t : Term) → EndsAt code how → Lives program code all kin how t → Woke kin how t
    wake (single own) how t ends l = wake_single own how t l
    wake (parent own units) how t ends l = by_closed own units how t ends l (wake_all units l.0 l.1 l.2 l.4) (all_closed all l.0 (how_many units)) refl

    wake_all : (units : Kins) (first : ℕ) (ch : List Environ) (ts : Terms) → LiveAll program code all first units ch ts → WokeAll first units ch ts
    wake_all no_kins first ch ts l = record {
      units' = no_kins;
      terms = ts;
      quiet = λ own. all_still;
      lives = l;
      long = refl;
      less = λ s. omega arith;
      lost = λ s st was is there. absurd (omega arith);
    }
    wake_all (kin and_kin more) first ch ts l = both_woke kin more first ch ts l (wake kin (unit_end l.0 l.1 ch) l.2 l.5 l.7) (wake_all more (suc first) ch l.3 l.8)
