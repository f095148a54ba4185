-- A strand that can go on is found in the program's term, and something else put there in its place.
use Rattle.std.proofs.Common.{◌≡◌, ◌≢◌, ℕ, suc, ◌+◌, ◌<◌, ◌≤◌, arith, List, Some, refl, sym, ap, ◌∙◌, subst, ⊎_elim}
use Rattle.std.specs.Prelude.{slice_get}
use Rattle.std.proofs.lemmas.Bool.{cases_eq}
use Rattle.std.proofs.lemmas.Option.{same_Some}
use Rattle.a68_code.specs.declared.code.Code.{Code}
use Rattle.a68_elab.specs.Positions.{Opens, OpensIn, within, in_unit, in_this, beside}
use Rattle.a68_elab.specs.Terms.{Term, part, unit_of, joining, Terms, ◌and_term◌}
use Rattle.a68_elab.specs.Trees.{collateral, Program}
use Rattle.a68_sim.proofs.Family.{Kin, single, parent, Kins, no_kins, ◌and_kin◌, number, how_many, times, times_all, Lives, LiveAll, HoleIn, frame, frame_all}
use Rattle.a68_sim.proofs.Finishing.{Finish, unit_end, EndsAt}
use Rattle.a68_sim.proofs.Lists.{same, same_self, same_other, same_is}
use Rattle.a68_sim.proofs.Settling.{Settled}
use Rattle.a68_instructions.specs.Machine.{State}
use Rattle.a68_instructions.specs.declared.ask.Stance.TheVariants.{Waits}
use Rattle.a68_values.specs.declared.chain.Environ.{Environ}

module _ (program : Program) (code : Code) (sts : List State) (x : ℕ) (st : State) where
  -- in another world the strands but x stand as they do here
  abbrev pub Others : (ℕ → ℕ) → List State → Type 0
  Others count sts' = (s : ℕ) (y : State) → s ≢ x → 0 < count s → slice_get sts s ≡ Some y → slice_get sts' s ≡ Some y

  -- where the strand x stands in the term of a family, and what comes of another term there
  pub record Spot (kin : Kin) (how : Finish) (t : Term) : Type 0 where
    pub finish : Finish
    pub ends : EndsAt code finish
    pub term : Term
    pub settled : Settled program code finish term st
    pub put : Term → Term
    pub hole : HoleIn (number kin) x put
    pub whole : t ≡ put term
    pub swap : Kin → Kin
    pub root : (k : Kin) → number k ≡ x → number (swap k) ≡ number kin
    pub counts : (s : ℕ) (k : Kin) → times s (swap k) + same s x ≡ times s kin + times s k
    pub back : (sts' : List State) (k : Kin) (t' : Term) → number k ≡ x → Others (λ s. times s kin) sts' → Lives program code sts' k finish t'
        → Lives program code sts' (swap k) how (put t')

  pub record SpotAll (first : ℕ) (units : Kins) (ch : List Environ) (ts : Terms) : Type 0 where
    pub finish : Finish
    pub ends : EndsAt code finish
    pub term : Term
    pub settled : Settled program code finish term st
    pub put : Term → Terms
    pub hole : (own y : ℕ) (u u' t t' : Term) → Opens u u' y x t t' → OpensIn u u' y own collateral (put t) (put t')
    pub whole : ts ≡ put term
    pub swap : Kin → Kins
    pub long : (k : Kin) → how_many (swap k) ≡ how_many units
    pub counts : (s : ℕ) (k : Kin) → times_all s (swap k) + same s x ≡ times_all s units + times s k
    pub back : (sts' : List State) (k : Kin) (t' : Term) → number k ≡ x → Others (λ s. times_all s units) sts' → Lives program code sts' k finish t'
        → LiveAll program code sts' first (swap k) ch (put t')

  module _ (there : slice_get sts x ≡ Some st) (goes : (first count : ℕ) → st.stance ≢ Waits first count) where
    spot_single : (own : ℕ) (how : Finish) (t : Term) → EndsAt code how → x ≡ own → Lives program code sts (single own) how t → Spot (single own) how t
    spot_single own how t ends is l = record {
      finish = how;
      ends = ends;
      term = t;
      settled = subst (Settled program code how t) (same_Some l.0 st (sym l.1 ∙ ap (slice_get sts) (sym is) ∙ there)) l.2;
      put = λ u. u;
      hole = record { opens = λ y u u' a b o. subst (λ (z : ℕ). Opens u u' y z a b) is o };
      whole = refl;
      swap = λ k. k;
      root = λ k e. e ∙ is;
      counts = λ s k. let e : same s x ≡ same s own = ap (same s) is in omega arith;
      back = λ sts' k t' e keep l'. l';
    }

    spot_parent : (own : ℕ) (units : Kins) (how : Finish) (t : Term) → x ≢ own → (l : Lives program code sts (parent own units) how t)
        → SpotAll l.0 units l.1 l.2 → Spot (parent own units) how t
    spot_parent own units how t ne l a = record {
      finish = a.finish;
      ends = a.ends;
      term = a.term;
      settled = a.settled;
      put = λ u. l.3.put (part joining l.1 (a.put u));
      hole = record { opens = λ y u u' t1 t2 o. l.3.hole.opens own y u u' (part joining l.1 (a.put t1)) (part joining l.1 (a.put t2)) (within (a.hole own y u u' t1 t2 o)) };
      whole = l.3.whole ∙ ap (λ (z : Terms). l.3.put (part joining l.1 z)) a.whole;
      swap = λ k. parent own (a.swap k);
      root = λ k e. refl;
      counts = λ s k. let e = a.counts s k in omega arith;
      back = λ sts' k t' e keep l'. (
        l.0,
        l.1,
        a.put t',
        record {
          st = l.3.st;
          there = keep own l.3.st (λ q. ne (sym q)) (let z = same_self own in omega arith) l.3.there;
          waits = l.3.waits ∙ ap (Waits l.0) (sym (a.long k));
          put = l.3.put;
          hole = l.3.hole;
          adds = l.3.adds;
          whole = refl;
          goes_on = l.3.goes_on;
        },
        a.back sts' k t' e (λ s y n less. keep s y n (omega arith)) l',
      );
    }

    -- in the first unit of several
    spot_first : (first : ℕ) (kin : Kin) (more : Kins) (ch : List Environ) (ts : Terms) → (l : LiveAll program code sts first (kin and_kin more) ch ts)
        → times_all x more ≡ 0 → Spot kin (unit_end l.0 l.1 ch) l.2 → SpotAll first (kin and_kin more) ch ts
    spot_first first kin more ch ts l none a = record {
      finish = a.finish;
      ends = a.ends;
      term = a.term;
      settled = a.settled;
      put = λ u. unit_of first (a.put u) and_term l.3;
      hole = λ own y u u' t1 t2 o.
          in_this (in_unit (subst (λ (z : ℕ). Opens u u' y z (a.put t1) (a.put t2)) l.4 (a.hole.opens y u u' t1 t2 o)));
      whole = l.6 ∙ ap (λ (z : Term). unit_of first z and_term l.3) a.whole;
      swap = λ k. a.swap k and_kin more;
      long = λ k. refl;
      counts = λ s k. let e = a.counts s k in omega arith;
      back = λ sts' k t' e keep l'. (
        l.0,
        l.1,
        a.put t',
        l.3,
        a.root k e ∙ l.4,
        l.5,
        refl,
        a.back sts' k t' e (λ s y n less. keep s y n (omega arith)) l',
        frame_all program code sts sts' more (suc first) ch l.3
            (λ s y less. keep s y (λ q. let z : times_all s more ≡ 0 = ap (λ (n : ℕ). times_all n more) q ∙ none in absurd (omega arith)) (omega arith)) l.8,
      );
    }

    -- in one behind it
    spot_behind : (first : ℕ) (kin : Kin) (more : Kins) (ch : List Environ) (ts : Terms) → (l : LiveAll program code sts first (kin and_kin more) ch ts)
        → times x kin ≡ 0 → SpotAll (suc first) more ch l.3 → SpotAll first (kin and_kin more) ch ts
    spot_behind first kin more ch ts l none a = record {
      finish = a.finish;
      ends = a.ends;
      term = a.term;
      settled = a.settled;
      put = λ u. unit_of first l.2 and_term a.put u;
      hole = λ own y u u' t1 t2 o. beside (a.hole own y u u' t1 t2 o);
      whole = l.6 ∙ ap (λ (z : Terms). unit_of first l.2 and_term z) a.whole;
      swap = λ k. kin and_kin a.swap k;
      long = λ k. ap (λ (n : ℕ). suc n) (a.long k);
      counts = λ s k. let e = a.counts s k in omega arith;
      back = λ sts' k t' e keep l'. (
        l.0,
        l.1,
        l.2,
        a.put t',
        l.4,
        l.5,
        refl,
        frame program code sts sts' kin (unit_end l.0 l.1 ch) l.2
            (λ s y less. keep s y (λ q. let z : times s kin ≡ 0 = ap (λ (n : ℕ). times n kin) q ∙ none in absurd (omega arith)) (omega arith)) l.7,
        a.back sts' k t' e (λ s y n less. keep s y n (omega arith)) l',
      );
    }

    mutual
      pub locate : (kin : Kin) (how : Finish) (t : Term) → EndsAt code how → Lives program code sts kin how t → 0 < times x kin → ((s : ℕ) → times s kin ≤ 1)
          → Spot kin how t
      locate (single own) how t ends l less once = spot_single own how t ends (same_is x own less) l
      locate (parent own units) how t ends l less once =
          ⊎_elim
          (λ e. absurd (goes l.0 (how_many units) (ap (λ (y : State). y.stance) (same_Some st l.3.st (sym there ∙ ap (slice_get sts) e ∙ l.3.there)) ∙ l.3.waits)))
          (λ ne. spot_parent own units how t ne l
          (let z = same_other x own ne in locate_all units l.0 l.1 l.2 l.4 (omega arith) (λ s. let o = once s in omega arith)))
          (cases_eq x own)

      locate_all : (units : Kins) (first : ℕ) (ch : List Environ) (ts : Terms) → LiveAll program code sts first units ch ts → 0 < times_all x units
          → ((s : ℕ) → times_all s units ≤ 1) → SpotAll first units ch ts
      locate_all no_kins first ch ts l less once = absurd (omega arith)
      locate_all (kin and_kin more) first ch ts l less once =
          ⊎_elim
          (λ none. spot_behind first kin more ch ts l none (locate_all more (suc first) ch l.3 l.8 (omega arith) (λ s. let o = once s in omega arith)))
          (λ some. spot_first first kin more ch ts l (let o = once x in omega arith)
          (locate kin (unit_end l.0 l.1 ch) l.2 l.5 l.7 (omega arith) (λ s. let o = once s in omega arith)))
          (cases_eq (times x kin) 0)
