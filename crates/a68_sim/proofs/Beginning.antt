-- The units of a parallel clause that has just begun.
use Rattle.std.proofs.Common.{◌≡◌, ℕ, zero, suc, ◌+◌, List, [], ◌∷◌, length, None, Some, refl, sym, ap, subst}
use Rattle.std.specs.Prelude.{slice_get}
use Rattle.std.specs.declared.option.Option.{Option}
use Rattle.std.proofs.lemmas.Option.{same_Some}
use Rattle.a68_code.specs.declared.code.Code.{Code}
use Rattle.a68_elab.specs.Terms.{Term, todo, part, closing, only, unit_of, unit_term, unit_terms, Terms, no_terms, ◌and_term◌}
use Rattle.a68_elab.specs.Trees.{ParallelUnit, Program, units_of}
use Rattle.a68_emit.specs.Stretches.{outermost, AreEntrances}
use Rattle.a68_sim.proofs.Family.{QuietAll, all_still, all_on, all_first, all_behind, quiet_at, single, Kins, no_kins, ◌and_kin◌, how_many, times_all, LiveAll}
use Rattle.a68_sim.proofs.Finishing.{unit_end, works}
use Rattle.a68_sim.proofs.Landings.{agrees_alone}
use Rattle.a68_sim.proofs.Lists.{same}
use Rattle.a68_sim.proofs.Routines.{TextsStand, FoundUnit, UnitAt}
use Rattle.a68_sim.proofs.Settling.{Arrives, settles}
use Rattle.a68_instructions.specs.Machine.{State, beginning, settle}
use Rattle.a68_values.specs.declared.chain.Environ.{Environ}

-- how often a number is among so many, from the first one on
abbrev pub times_from : (s first count : ℕ) → ℕ
times_from s first zero = 0
times_from s first (suc n) = same s first + times_from s (suc first) n

module _ (program : Program) (code : Code) (same_modes : code.modes ≡ program.modes) (texts : TextsStand program code) where
  -- they stand at their first acts, and so do their terms
  pub record Begun (sts : List State) (first : ℕ) (numbers entrances : List ℕ) (ch : List Environ) : Type 0 where
    pub kins : Kins
    pub terms : Terms
    pub quiet : (own : ℕ) → QuietAll program own (unit_terms (units_of program) first numbers ch) terms
    pub lives : LiveAll program code sts first kins ch terms
    pub long : how_many kins ≡ length entrances
    pub counts : (s : ℕ) → times_all s kins ≡ times_from s first (length entrances)

  -- they stand in the list from a place on
  abbrev pub StandFrom : List State → (first : ℕ) → (entrances : List ℕ) → List Environ → Type 0
  StandFrom sts first [] ch = Unit {0}
  StandFrom sts first (e ∷ es) ch = (slice_get sts first ≡ Some (settle code (beginning e ch))) × StandFrom sts (suc first) es ch

  one_more : (sts : List State) (first n e : ℕ) (ns es : List ℕ) (ch : List Environ) → (unit : ParallelUnit) → slice_get (units_of program) n ≡ Some unit
      → UnitAt code unit e → slice_get sts first ≡ Some (settle code (beginning e ch)) → Begun sts (suc first) ns es ch → Begun sts first (n ∷ ns) (e ∷ es) ch
  one_more sts first n e ns es ch unit is at there r =
      let how = unit_end unit.place at.end ch in
      let term : Term = part (closing unit.place) ch (only (todo unit.tree ch)) in
      let later : Arrives program code how term (settle code (beginning e ch)) =
      settles program code same_modes texts how at.close term (beginning e ch) (works (todo unit.tree ch) refl (record { a = e; lie = outermost; agrees = agrees_alone ch; stands = at.stands; chain = refl; state = refl })) in
      record {
        kins = single first and_kin r.kins;
        terms = unit_of first later.0 and_term r.terms;
        quiet = λ own.
            subst (λ (o : Option ParallelUnit). QuietAll program own (unit_of first (unit_term ch o) and_term unit_terms (units_of program) (suc first) ns ch) (unit_of first later.0 and_term r.terms)) (sym is)
            (all_on (all_first (unit_terms (units_of program) (suc first) ns ch) (quiet_at later.1 first)) (all_behind (unit_of first later.0) (r.quiet own)));
        lives = (unit.place, at.end, later.0, r.terms, refl, at.close, refl, (settle code (beginning e ch), there, later.2), r.lives);
        long = ap (λ (x : ℕ). suc x) r.long;
        counts = λ s. ap (λ (x : ℕ). same s first + x) (r.counts s);
      }

  by_unit : (sts : List State) (first n e : ℕ) (ns es : List ℕ) (ch : List Environ) → (o : Option ParallelUnit) → slice_get (units_of program) n ≡ o
      → (o2 : Option ℕ) → o2 ≡ Some e → FoundUnit code o o2 → slice_get sts first ≡ Some (settle code (beginning e ch)) → Begun sts (suc first) ns es ch
      → Begun sts first (n ∷ ns) (e ∷ es) ch
  by_unit sts first n e ns es ch (Some unit) is (Some e2) is2 found there r =
      one_more sts first n e ns es ch unit is (subst (UnitAt code unit) (same_Some e2 e is2) found) there r
  by_unit sts first n e ns es ch None is None is2 found there r = absurd (cc)
  by_unit sts first n e ns es ch None is (Some e2) is2 found there r = absurd found
  by_unit sts first n e ns es ch (Some unit) is None is2 found there r = absurd found

  pub begin : (sts : List State) (first : ℕ) (numbers entrances : List ℕ) (ch : List Environ) → AreEntrances code.units numbers entrances → StandFrom sts first entrances ch
      → Begun sts first numbers entrances ch
  begin sts first [] [] ch e stand = record { kins = no_kins; terms = no_terms; quiet = λ own. all_still; lives = refl; long = refl; counts = λ s. refl }
  begin sts first [] (x ∷ es) ch e stand = absurd (cc)
  begin sts first (n ∷ ns) [] ch e stand = absurd (cc)
  begin sts first (n ∷ ns) (x ∷ es) ch e stand =
      let head : slice_get code.units n ≡ Some x = cc in
      let tail : AreEntrances code.units ns es = cc in
      by_unit sts first n x ns es ch (slice_get (units_of program) n) refl (slice_get code.units n) head (texts.units n) stand.0 (begin sts (suc first) ns es ch tail stand.1)
