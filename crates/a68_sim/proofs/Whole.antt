-- From one entry to whole journals, and to their ends.
use Rattle.std.proofs.Common.{◌≡◌, ℕ, zero, suc, arith, List, [], ◌∷◌, length, None, Some, refl, sym, ap, ◌∙◌, subst, true≢false, false}
use Rattle.std.proofs.lemmas.Option.{same_Some}
use Rattle.std.specs.Prelude.{slice_get}
use Rattle.a68_acts.specs.Store.{Store}
use Rattle.a68_code.specs.declared.code.Code.{Code}
use Rattle.a68_elab.specs.Elaborations.{Elaborates, stays, silently, by_act}
use Rattle.a68_elab.specs.Permitted.{Permitted}
use Rattle.a68_elab.specs.Terms.{Term, todo}
use Rattle.a68_elab.specs.Trees.{Program}
use Rattle.a68_emit.specs.Stretches.{outermost, Translates}
use Rattle.a68_sim.proofs.Ending.{ends_too}
use Rattle.a68_sim.proofs.Family.{QuietIn, in_elaborates, quiet_at, single, times}
use Rattle.a68_sim.proofs.Finishing.{Finish, program_end, EndsAt}
use Rattle.a68_sim.proofs.Landings.{agrees_alone}
use Rattle.a68_sim.proofs.Lists.{same_most, same_self}
use Rattle.a68_sim.proofs.Routines.{TextsStand, texts_stand}
use Rattle.a68_sim.proofs.Settling.{Arrives, settles}
use Rattle.a68_sim.proofs.Worlds.{next_acts, Joint, steps}
use Rattle.a68_exec.proofs.Alive.{active}
use Rattle.a68_exec.proofs.Settled.{settle_rests}
use Rattle.a68_strand.proofs.Waking.{IsCalm}
use Rattle.a68_instructions.specs.Machine.{State, beginning, settle, next_state}
use Rattle.a68_strand.specs.RunOf.{RunOf}
use Rattle.a68_exec.specs.Runs.{World, Machine, opening, all_closed, is_passive}
use Rattle.a68_instructions.specs.declared.ask.Stance.TheVariants.{Waits, Closed}
use Rattle.a68_values.specs.declared.act.Entry.{Entry}
use Rattle.a68_values.specs.declared.chain.Environ.{Environ}
use Rattle.a68_values.specs.declared.kept.Kept.{Kept}

elaborates_on : {program : Program} {t t2 t3 : Term} {s s2 : Store} {es : List Entry} → Elaborates program t s es t2 s2 → QuietIn program 0 t2 t3
    → Elaborates program t s es t3 s2
elaborates_on stays q = in_elaborates q stays
elaborates_on (silently o r e) q = silently o r (elaborates_on e q)
elaborates_on (by_act o r d e) q = by_act o r d (elaborates_on e q)

module _ (program : Program) (code : Code) (same_modes : code.modes ≡ program.modes) (texts : TextsStand program code) (how : Finish) (end : EndsAt code how) where
  abbrev Runs : List Entry → Term → World → World → Type 0
  Runs es t w w2 = (t2 : Term) × Elaborates program t w.store es t2 w2.store × Joint program code same_modes texts how end t2 w2

  follow_run : (es : List Entry) (t : Term) (w w2 : World) → Joint program code same_modes texts how end t w → Machine code w es w2 → Runs es t w w2
  follow_run [] t w w2 j m = (t, subst (λ (x : World). Elaborates program t w.store [] t x.store) m stays, subst (Joint program code same_modes texts how end t) m j)
  follow_run (e ∷ es) t w w2 j m =
      let x = next_acts code w e.strand e.act (λ behind. Machine code behind es w2) m in
      let s = steps program code same_modes texts how end t w e.strand e.act x.0 j x.2 in
      let rest = follow_run es s.term x.0 w2 s.joint x.1 in
      (rest.0, s.leads es rest.0 w2.store rest.1, rest.2)

-- the strand of a program, at its first act
first_calm : (code : Code) (home : List Environ) → IsCalm code (settle code (beginning 0 home) ∷ [])
first_calm code home = record { rests = λ k st e. rests k st e; due = λ k st first count e waits. due k st first count e waits }
  where
    is_first : (k : ℕ) (st : State) → slice_get (settle code (beginning 0 home) ∷ []) k ≡ Some st → settle code (beginning 0 home) ≡ st
    is_first zero st e = same_Some (settle code (beginning 0 home)) st e
    is_first (suc k) st e = absurd (cc)

    rests : (k : ℕ) (st : State) → slice_get (settle code (beginning 0 home) ∷ []) k ≡ Some st → next_state code st ≡ None
    rests k st e = subst (λ (x : State). next_state code x ≡ None) (is_first k st e) (settle_rests code (beginning 0 home))

    due : (k : ℕ) (st : State) (first count : ℕ) → slice_get (settle code (beginning 0 home) ∷ []) k ≡ Some st → st.stance ≡ Waits first count
        → all_closed (settle code (beginning 0 home) ∷ []) first count ≡ false
    due k st first count e waits =
        absurd (true≢false (sym (ap is_passive waits) ∙ sym (ap (λ (x : State). is_passive x.stance) (is_first k st e)) ∙ active code (beginning 0 home) refl))

only_one : (code : Code) (home : List Environ) (s : ℕ) (st : State) → slice_get (settle code (beginning 0 home) ∷ []) s ≡ Some st → times s (single 0) ≡ 0 → st.stance ≡ Closed
only_one code home zero st e z = let q = same_self 0 in absurd (omega arith)
only_one code home (suc s) st e z = absurd (cc)

-- ---- a program and its code

module _ (program : Program) (code : Code) (tr : Translates program code) where
  abbrev home : List Environ
  home = record { frame = 0; scope = 0 } ∷ []

  abbrev texts_of_code : TextsStand program code
  texts_of_code = texts_stand program code tr

  abbrev how_ends : Finish
  how_ends = program_end tr.end home

  end_is : EndsAt code how_ends
  end_is = (program.place, tr.ends.0)

  begins_so : Arrives program code how_ends (todo program.tree home) (settle code (beginning 0 home))
  begins_so = settles program code tr.modes texts_of_code how_ends end_is (todo program.tree home) (beginning 0 home) (record { a = 0; lie = outermost; agrees = agrees_alone home; stands = tr.stands; chain = refl; state = refl })

  -- the elaboration is as far as the world in which the program begins
  begun : Joint program code tr.modes texts_of_code how_ends end_is begins_so.0 (opening code)
  begun = record {
    kin = single 0;
    root = refl;
    lives = (settle code (beginning 0 home), refl, begins_so.2);
    once = λ s. same_most s 0;
    gone = λ s st e z. only_one code home s st e z;
    counted = refl;
    calm = first_calm code home;
  }

  pub law_so : (fuel : ℕ) (kept : Kept) → RunOf code fuel kept → Permitted program fuel kept
  law_so fuel kept r =
      let all = follow_run program code tr.modes texts_of_code how_ends end_is kept.journal.entries begins_so.0 (opening code) r.world begun r.runs in
      let last = ends_too program code tr.modes texts_of_code tr.end home end_is fuel (length kept.journal.entries) all.0 r.world all.2 kept.journal.entries kept.end refl r.ends in
      record {
        term = last.0;
        store = r.world.store;
        elaborated = in_elaborates {t2 = last.0} (quiet_at begins_so.1 0) (elaborates_on {t2 = all.0} {t3 = last.0} all.1 last.1);
        keeps = r.keeps;
        within = r.within;
        ends = last.2;
      }

pub law : (program : Program) (code : Code) (fuel : ℕ) (kept : Kept) → Translates program code → RunOf code fuel kept → Permitted program fuel kept
law program code fuel kept tr r = law_so program code tr fuel kept r
