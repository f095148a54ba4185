-- What is owed of a run, by how it was made.
use Rattle.std.proofs.Common.{◌≡◌, ℕ, List, subst, sym}
use Rattle.a68_code.specs.declared.code.Code.{Code}
use Rattle.a68_strand.specs.RunOf.{RunOf}
use Rattle.a68_base.specs.declared.refusal.Rule.TheVariants.{Q3}
use Rattle.a68_replay.specs.Replays.{IsStuck, Replays}
use Rattle.a68_replay.specs.declared.turning.Replayed.{Replayed}
use Rattle.a68_replay.specs.declared.turning.Replayed.TheVariants as comes
use Rattle.a68_top.specs.Answer.{AreRaces, HasRun, IsPicked, IsRefusal, IsTurned}
use Rattle.a68_top.specs.Commands.{HasFollowed, HasRaced, IsWritten, beyond, followed, no_end, told}
use Rattle.a68_top.specs.Ended.{Finishes, TellsRaces, tells, crowds}
use Rattle.a68_top.specs.declared.finish.Asked.{Asked}
use Rattle.a68_top.specs.declared.finish.Made.{Made}
use Rattle.a68_top.specs.declared.finish.Owed.{Owed}
use Rattle.a68_top.specs.declared.finish.Telling.TheVariants.{EndAlone}
use Rattle.a68_top.specs.declared.finish.Writing.TheVariants.{Printed}
use Rattle.a68_values.specs.declared.kept.Kept.{Kept}

-- the same code was handed back
module _ (made : Made) (new : Code) (same : new ≡ made.code) where
  abbrev moved : Made
  moved = record { program = made.program; code = new }

  -- a run whose strands come in this order is owed so
  pub has_run : (fuel : ℕ) (IsInOrder : Code → Kept → Type 0) (kept : Kept) (asked : Asked) (due : Owed) → RunOf made.code fuel kept → IsInOrder made.code kept
      → Finishes moved kept asked due → HasRun made fuel IsInOrder (IsWritten asked.writing) asked.telling due.finish due.out due.notes
  has_run fuel IsInOrder kept asked due machine in_order f =
      let g : Finishes made kept asked due = subst (λ (x : Code). Finishes (record { program = made.program; code = x }) kept asked due) same f in
      record {
        kept = kept;
        machine = machine;
        in_order = in_order;
        finish_is = g.ends.finish_is;
        out_is = subst (IsWritten asked.writing kept) (sym g.ends.out_is) g.written;
        notes_are = g.ends.notes_are;
      }

  -- so are its races
  pub has_raced : (workers fuel : ℕ) (kept : Kept) (due : Owed) → RunOf made.code fuel kept → IsTurned workers made.code kept
      → TellsRaces moved kept due → HasRaced made workers fuel due.finish due.out due.notes
  has_raced workers fuel kept due machine in_order t =
      go (subst (λ (x : Code). TellsRaces (record { program = made.program; code = x }) kept due) same t)
    where
      go : TellsRaces made kept due → HasRaced made workers fuel due.finish due.out due.notes
      go (tells out races ends) =
          told (record {
            kept = kept;
            machine = machine;
            in_order = in_order;
            finish_is = ends.finish_is;
            out_is = subst (AreRaces kept) (sym ends.out_is) races;
            notes_are = ends.notes_are;
          })
      go (crowds place first says) = beyond place (record { kept = kept; machine = machine; in_order = in_order; beyond = first }) says

-- what comes of picks, with the code that is handed back
module _ (made : Made) (picks : List ℕ) (r : Replayed) (comes_so : Replays made.code picks r) where
  pub has_followed : (new : Code) (kept : Kept) (due : Owed) → r ≡ comes.Ran new kept
      → Finishes (record { program = made.program; code = new }) kept (record { writing = Printed; telling = EndAlone }) due → HasFollowed made picks due.finish due.out due.notes
  has_followed new kept due e f =
      let p = subst (Replays made.code picks) e comes_so in
      followed (has_run made new p.0 16000000 (IsPicked picks) kept (record { writing = Printed; telling = EndAlone }) due p.1 p.2 f)

  pub has_stuck : (new : Code) (place : ℕ) → r ≡ comes.Stuck new place → IsStuck made.code picks place
  has_stuck new place e = let p = subst (Replays made.code picks) e comes_so in p.1

  pub has_no_end : (new : Code) (count : ℕ) (due : Owed) → r ≡ comes.Short new count → IsRefusal (record { rule = Q3; place = count }) due.finish due.out due.notes
      → HasFollowed made picks due.finish due.out due.notes
  has_no_end new count due e says =
      let p = subst (Replays made.code picks) e comes_so in
      no_end p.2 (subst (λ n. IsRefusal (record { rule = Q3; place = n }) due.finish due.out due.notes) p.1 says)
