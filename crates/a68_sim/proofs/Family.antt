-- The strands of a world, and the parts of the program's term that they do.
use Rattle.std.proofs.Common.{◌≡◌, ℕ, suc, ◌+◌, ◌<◌, arith, List, Some, ap, ◌∙◌, ⊎_elim}
use Rattle.std.specs.Prelude.{slice_get}
use Rattle.std.proofs.lemmas.Bool.{cases_eq}
use Rattle.a68_code.specs.declared.code.Code.{Code}
use Rattle.a68_elab.specs.Elaborations.{Elaborates, silently}
use Rattle.a68_elab.specs.Positions.{Opens, OpensIn, within, in_unit, in_this, beside}
use Rattle.a68_elab.specs.Rows.{goes, row}
use Rattle.a68_elab.specs.Terms.{Term, part, yielded, unit_of, joining, Terms, no_terms, ◌and_term◌}
use Rattle.a68_elab.specs.Trees.{collateral, Program}
use Rattle.a68_acts.specs.Store.{Store}
use Rattle.a68_sim.proofs.Finishing.{Finish, unit_end, EndsAt, Works}
use Rattle.a68_sim.proofs.Lists.{same, same_self, same_other, same_is}
use Rattle.a68_sim.proofs.Quiet.{Quiet, still, quietly, Hole, AddsNone}
use Rattle.a68_sim.proofs.Settling.{Settled}
use Rattle.a68_instructions.specs.Machine.{State}
use Rattle.a68_instructions.specs.declared.ask.Stance.TheVariants.{Idle, Waits}
use Rattle.a68_values.specs.Content.{void}
use Rattle.a68_values.specs.declared.act.Entry.{Entry}
use Rattle.a68_values.specs.declared.chain.Environ.{Environ}

-- ---- silent steps of any strands

pub data QuietIn (program : Program) (own : ℕ) : Term → Term → Type 0 where
  in_still : {t : Term} → QuietIn program own t t
  in_step : {u u' t t' t2 : Term} {x : ℕ} → Opens u u' x own t t' → row program u ≡ Some (goes u') → QuietIn program own t' t2 → QuietIn program own t t2

pub in_on : {program : Program} {own : ℕ} {t t1 t2 : Term} → QuietIn program own t t1 → QuietIn program own t1 t2 → QuietIn program own t t2
in_on in_still q = q
in_on (in_step o e p) q = in_step o e (in_on p q)

-- putting a term, of one strand, at a place of a whole, of another, keeps its open positions open
pub record HoleIn (outer inner : ℕ) (f : Term → Term) : Type 0 where
  pub opens : (x : ℕ) (u u' t t' : Term) → Opens u u' x inner t t' → Opens u u' x outer (f t) (f t')

pub in_hole : {program : Program} {outer inner : ℕ} (f : Term → Term) → HoleIn outer inner f → {t t' : Term} → QuietIn program inner t t' → QuietIn program outer (f t) (f t')
in_hole f h in_still = in_still
in_hole f h (in_step {u = u} {u' = v} {t = t} {t' = t'} {x = x} o e p) = in_step (h.opens x u v t t' o) e (in_hole f h p)

abbrev pub own_hole : (f : Term → Term) → Hole f → (own : ℕ) → HoleIn own own f
own_hole f h own = record { opens = λ x u u' t t' o. h.opens own x u u' t t' o }

pub quiet_at : {program : Program} {t t' : Term} → Quiet program t t' → (own : ℕ) → QuietIn program own t t'
quiet_at still own = in_still
quiet_at (quietly o e p) own = in_step (o own) e (quiet_at p own)

pub in_elaborates : {program : Program} {t t' t2 : Term} {s s2 : Store} {es : List Entry} → QuietIn program 0 t t'
    → Elaborates program t' s es t2 s2 → Elaborates program t s es t2 s2
in_elaborates in_still e = e
in_elaborates (in_step o r q) e = silently o r (in_elaborates q e)

-- silent steps of the units of a parallel clause
pub data QuietAll (program : Program) (own : ℕ) : Terms → Terms → Type 0 where
  all_still : {ts : Terms} → QuietAll program own ts ts
  all_step : {u u' : Term} {ts ts' ts2 : Terms} {x : ℕ} → OpensIn u u' x own collateral ts ts' → row program u ≡ Some (goes u') → QuietAll program own ts' ts2
      → QuietAll program own ts ts2

pub all_on : {program : Program} {own : ℕ} {ts ts1 ts2 : Terms} → QuietAll program own ts ts1 → QuietAll program own ts1 ts2 → QuietAll program own ts ts2
all_on all_still q = q
all_on (all_step o e p) q = all_step o e (all_on p q)

pub all_first : {program : Program} {own x : ℕ} {t t' : Term} (ts : Terms) → QuietIn program x t t' → QuietAll program own (unit_of x t and_term ts) (unit_of x t' and_term ts)
all_first ts in_still = all_still
all_first ts (in_step o e p) = all_step (in_this (in_unit o)) e (all_first ts p)

pub all_behind : {program : Program} {own : ℕ} (t : Term) {ts ts' : Terms} → QuietAll program own ts ts' → QuietAll program own (t and_term ts) (t and_term ts')
all_behind t all_still = all_still
all_behind t (all_step o e p) = all_step (beside o) e (all_behind t p)

pub all_joining : {program : Program} {own : ℕ} (ch : List Environ) {ts ts' : Terms} → QuietAll program own ts ts' → QuietIn program own (part joining ch ts) (part joining ch ts')
all_joining ch all_still = in_still
all_joining ch (all_step o e p) = in_step (within o) e (all_joining ch p)

-- ---- families of strands

-- a strand by its number, alone or with those of the units for which it waits
mutual
  pub data Kin : Type 0 where
    single : (own : ℕ) → Kin
    parent : (own : ℕ) (units : Kins) → Kin

  pub data Kins : Type 0 where
    no_kins : Kins
    ◌and_kin◌ : Kin → Kins → Kins

infixr 50 ◌and_kin◌
abbrev pub number : Kin → ℕ
number (single own) = own
number (parent own units) = own

abbrev pub how_many : Kins → ℕ
how_many no_kins = 0
how_many (kin and_kin more) = suc (how_many more)

-- how often a strand is in a family
abbrev mutual
  pub times : ℕ → Kin → ℕ
  times s (single own) = same s own
  times s (parent own units) = same s own + times_all s units

  pub times_all : ℕ → Kins → ℕ
  times_all s no_kins = 0
  times_all s (kin and_kin more) = times s kin + times_all s more

-- the strand waits at its units, of which it is told once they have closed
pub record Joined (code : Code) (sts : List State) (own first count : ℕ) (how : Finish) (ch : List Environ) (t : Term) (ts : Terms) : Type 0 where
  pub st : State
  pub there : slice_get sts own ≡ Some st
  pub waits : st.stance ≡ Waits first count
  pub put : Term → Term
  pub hole : Hole put
  pub adds : AddsNone put
  pub whole : t ≡ put (part joining ch ts)
  pub goes_on : Works code how (put (yielded void)) (record st { at = suc st.at; stance = Idle })

-- Each strand of the family stands among the strands as its part of the term does: it has settled, or waits for its units.
abbrev mutual
  pub Lives : Program → Code → List State → Kin → Finish → Term → Type 0
  Lives program code sts (single own) how t = (st : State) × (slice_get sts own ≡ Some st) × Settled program code how t st
  Lives program code sts (parent own units) how t =
      (first : ℕ) × (ch : List Environ) × (ts : Terms) × Joined code sts own first (how_many units) how ch t ts × LiveAll program code sts first units ch ts

  pub LiveAll : Program → Code → List State → (first : ℕ) → Kins → List Environ → Terms → Type 0
  LiveAll program code sts first no_kins ch ts = ts ≡ no_terms
  LiveAll program code sts first (kin and_kin more) ch ts =
      (p k : ℕ) × (t : Term) × (behind : Terms) × (number kin ≡ first) × EndsAt code (unit_end p k ch) × (ts ≡ unit_of first t and_term behind)
      × Lives program code sts kin (unit_end p k ch) t × LiveAll program code sts (suc first) more ch behind

pub times_own : (kin : Kin) → 0 < times (number kin) kin
times_own (single own) = let e = same_self own in omega arith
times_own (parent own units) = let e = same_self own in omega arith

module _ (program : Program) (code : Code) (sts : List State) where
  -- each strand of the family is there
  mutual
    pub present : (kin : Kin) (how : Finish) (t : Term) → Lives program code sts kin how t → (s : ℕ) → 0 < times s kin → (st : State) × (slice_get sts s ≡ Some st)
    present (single own) how t l s less = (l.0, ap (slice_get sts) (same_is s own less) ∙ l.1)
    present (parent own units) how t l s less =
        ⊎_elim
        (λ e. (l.3.st, ap (slice_get sts) e ∙ l.3.there))
        (λ ne. let z = same_other s own ne in present_all units l.0 l.1 l.2 l.4 s (omega arith))
        (cases_eq s own)

    present_all : (units : Kins) (first : ℕ) (ch : List Environ) (ts : Terms) → LiveAll program code sts first units ch ts → (s : ℕ) → 0 < times_all s units
        → (st : State) × (slice_get sts s ≡ Some st)
    present_all no_kins first ch ts l s less = absurd (omega arith)
    present_all (kin and_kin more) first ch ts l s less =
        ⊎_elim
        (λ none. present_all more (suc first) ch l.3 l.8 s (omega arith))
        (λ some. present kin (unit_end l.0 l.1 ch) l.2 l.7 s (omega arith))
        (cases_eq (times s kin) 0)

-- the strands of the family stand alike in two worlds
module _ (program : Program) (code : Code) (sts sts' : List State) where
  abbrev pub Keeps : (ℕ → ℕ) → Type 0
  Keeps count = (s : ℕ) (st : State) → 0 < count s → slice_get sts s ≡ Some st → slice_get sts' s ≡ Some st

  mutual
    pub frame : (kin : Kin) (how : Finish) (t : Term) → Keeps (λ s. times s kin) → Lives program code sts kin how t → Lives program code sts' kin how t
    frame (single own) how t keep l = (l.0, keep own l.0 (let e = same_self own in omega arith) l.1, l.2)
    frame (parent own units) how t keep l = (
      l.0,
      l.1,
      l.2,
      record {
        st = l.3.st;
        there = keep own l.3.st (let e = same_self own in omega arith) l.3.there;
        waits = l.3.waits;
        put = l.3.put;
        hole = l.3.hole;
        adds = l.3.adds;
        whole = l.3.whole;
        goes_on = l.3.goes_on;
      },
      frame_all units l.0 l.1 l.2 (λ s st less. keep s st (omega arith)) l.4,
    )

    pub frame_all : (units : Kins) (first : ℕ) (ch : List Environ) (ts : Terms) → Keeps (λ s. times_all s units) → LiveAll program code sts first units ch ts
        → LiveAll program code sts' first units ch ts
    frame_all no_kins first ch ts keep l = l
    frame_all (kin and_kin more) first ch ts keep l = (
      l.0,
      l.1,
      l.2,
      l.3,
      l.4,
      l.5,
      l.6,
      frame kin (unit_end l.0 l.1 ch) l.2 (λ s st less. keep s st (omega arith)) l.7,
      frame_all more (suc first) ch l.3 (λ s st less. keep s st (omega arith)) l.8,
    )
