-- What the rules of the language permit a run to have done.
use Rattle.std.specs.Prelude.{◌≡◌, ◌≢◌, ◌≤◌, ℕ, List, [], ◌∷◌, length, None}
use Rattle.a68_acts.specs.Does.{did, refuses, waits, does}
use Rattle.a68_acts.specs.Keeping.{IsKept}
use Rattle.a68_acts.specs.Store.{Store, opening_store}
use Rattle.a68_acts.specs.declared.want.Reply.{Reply}
use Rattle.a68_elab.specs.Elaborations.{Elaborates}
use Rattle.a68_elab.specs.Positions.{Opens, HasOpen}
use Rattle.a68_elab.specs.Rows.{Then, goes, acts, meets}
use Rattle.a68_elab.specs.Terms.{Job, Term, Terms, todo, part, yielded, unit_of, joining, no_terms, ◌and_term◌, values}
use Rattle.a68_elab.specs.Trees.{Tree, Program}
use Rattle.a68_values.specs.Content.{Content}
use Rattle.a68_values.specs.declared.act.Act.{Act}
use Rattle.a68_values.specs.declared.act.FaultKind.{FaultKind}
use Rattle.a68_values.specs.declared.chain.Environ.{Environ}
use Rattle.a68_values.specs.declared.kept.End.{End}
use Rattle.a68_values.specs.declared.kept.End.TheVariants as ends
use Rattle.a68_values.specs.declared.kept.Kept.{Kept}

-- what comes next meets this fault of the construct that begins at this place: its own, or that of its act
abbrev pub Faults : Store → Then Term → FaultKind → (place : ℕ) → Type 0
Faults store (goes t) why place = ⊥
Faults store (acts p want next) why place = (does want store ≡ refuses why) × (p ≡ place)
Faults store (meets found p) why place = (found ≡ why) × (p ≡ place)

-- what comes next is an act that can be done
abbrev pub CanAct : Store → Then Term → Type 0
CanAct store (acts place want next) = (act : Act) × (reply : Reply) × (after : Store) × (does want store ≡ did act reply after)
CanAct store _ = ⊥

-- what comes next is an act that has to wait: a DOWN of zero
abbrev pub IsHalted : Store → Then Term → Type 0
IsHalted store (acts place want next) = does want store ≡ waits
IsHalted store _ = ⊥

-- t, which is of the strand `own`, has come to a DOWN of zero; or it waits for the units of a parallel clause, some of
-- which have not ended. Besides, no unit that stands anywhere in it can go on (Report, 10.2.4; own).
mutual
  pub data Halted (program : Program) (store : Store) : (own : ℕ) → Term → Type 0 where
    at_down : {own : ℕ} {t : Term} (what : Then Term) → HasOpen program own t own what → IsHalted store what → UnitsHalted program store t
        → Halted program store own t
    waits_for : {own : ℕ} {t : Term} {chain : List Environ} {ts : Terms} → Opens (part joining chain ts) (part joining chain ts) own own t t
        → values ts ≡ None → UnitsHalted program store t → Halted program store own t

  -- each unit that stands in the term, and in no other unit, has ended or is halted
  pub data UnitsHalted (program : Program) (store : Store) : Term → Type 0 where
    not_begun : {tree : Tree} {chain : List Environ} → UnitsHalted program store (todo tree chain)
    has_yielded : {v : Content} → UnitsHalted program store (yielded v)
    in_parts : {job : Job} {chain : List Environ} {ts : Terms} → AllHalted program store ts → UnitsHalted program store (part job chain ts)
    ended : {strand : ℕ} {v : Content} → UnitsHalted program store (unit_of strand (yielded v))
    halted : {strand : ℕ} {t : Term} → Halted program store strand t → UnitsHalted program store (unit_of strand t)

  pub data AllHalted (program : Program) (store : Store) : Terms → Type 0 where
    no_parts : AllHalted program store no_terms
    and_halted : {t : Term} {ts : Terms} → UnitsHalted program store t → AllHalted program store ts → AllHalted program store (t and_term ts)

-- strand 0 has not ended: the program has not yielded
abbrev pub IsUnended : Term → Type 0
IsUnended t = (v : Content) → t ≢ yielded v

-- An elaboration that has come to this term and store by so many entries has this end. Done: the program has yielded.
-- A fault: it has not, and an open position of the strand meets it. All halted: the program is halted. Spent: there are as
-- many entries as there was fuel, and possibly after silent steps the program has not yielded and an act can be done (own).
pub data EndsWith (program : Program) (fuel entries : ℕ) (t : Term) (store : Store) : End → Type 0 where
  done : (v : Content) → t ≡ yielded v → EndsWith program fuel entries t store ends.Done
  fault : {kind : FaultKind} {place strand : ℕ} (what : Then Term) → IsUnended t → HasOpen program 0 t strand what → Faults store what kind place
      → EndsWith program fuel entries t store (ends.Fault kind place strand)
  all_halted : Halted program store 0 t → EndsWith program fuel entries t store ends.AllHalted
  spent : (t2 : Term) (x : ℕ) (what : Then Term) → entries ≡ fuel → Elaborates program t store [] t2 store → IsUnended t2 → HasOpen program 0 t2 x what
      → CanAct store what → EndsWith program fuel entries t store ends.Spent

-- The rules of the language permit that a run of the program, with this fuel, leaves this: there is an elaboration of
-- the program in the standard environ whose acts are the entries of the journal; the text, the cells and the outermost
-- slots are those to which it comes, and so is the end.
pub record Permitted (program : Program) (fuel : ℕ) (kept : Kept) : Type 0 where
  pub term : Term
  pub store : Store
  pub elaborated : Elaborates program (todo program.tree (record { frame = 0; scope = 0 } ∷ [])) opening_store kept.journal.entries term store
  pub keeps : IsKept store kept
  pub within : length kept.journal.entries ≤ fuel
  pub ends : EndsWith program fuel (length kept.journal.entries) term store kept.end
