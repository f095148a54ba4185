-- A fault lies where a construct of the program begins.
use Rattle.std.proofs.Common.{◌≡◌, ◌≤◌, ℕ, arith, List, None, Some, refl, sym, ap, subst}
use Rattle.std.specs.Option.{option_map_or}
use Rattle.std.specs.Prelude.{slice_get}
use Rattle.std.specs.declared.option.Option.{Option}
use Rattle.a68_code.specs.declared.code.Code.{Code}
use Rattle.a68_code.specs.declared.code.Instr.{Instr}
use Rattle.a68_elab.specs.Places.{ProgramBeginsBy}
use Rattle.a68_elab.specs.Trees.{Program}
use Rattle.a68_gen.proofs.Places.{code_begins_by}
use Rattle.a68_emit.specs.Stretches.{Translates}
use Rattle.a68_strand.specs.Ends.{RunEndsWith, done, fault, all_halted, spent}
use Rattle.a68_instructions.specs.Machine.{place_at}
use Rattle.a68_strand.specs.RunOf.{RunOf}
use Rattle.a68_exec.specs.Runs.{World}
use Rattle.a68_values.specs.declared.act.Entry.{Entry}
use Rattle.a68_values.specs.declared.act.FaultKind.{FaultKind}
use Rattle.a68_values.specs.declared.kept.End.{End}
use Rattle.a68_values.specs.declared.kept.End.TheVariants as ends
use Rattle.a68_values.specs.declared.kept.Kept.{Kept}

-- the place of an end that has one
abbrev place_of : End → ℕ
place_of (ends.Fault why place strand) = place
place_of _ = 0

module _ (program : Program) (code : Code) (end : ℕ) (t : Translates program code) (begins : ProgramBeginsBy end program) where
  place_lies : (at : ℕ) → place_at code.list at ≤ end
  place_lies at = by_instr (slice_get code.list at) (λ i there. code_begins_by program code end t begins at i there)
    where
      by_instr : (o : Option Instr) → ((i : Instr) → o ≡ Some i → i.place ≤ end) → option_map_or (λ (i : Instr). i.place) o 0 ≤ end
      by_instr None h = omega arith
      by_instr (Some i) h = h i refl

  end_lies : (fuel : ℕ) (entries : List Entry) (w : World) (k : End) → RunEndsWith code fuel entries w k → place_of k ≤ end
  end_lies fuel entries w k (done h) = omega arith
  end_lies fuel entries w k (fault {st = st} unended f there is) = subst (λ (x : ℕ). x ≤ end) (sym is) (place_lies st.at)
  end_lies fuel entries w k (all_halted unended no_act no_fault) = omega arith
  end_lies fuel entries w k (spent strand unended full can) = omega arith

pub fault_lies : (program : Program) (code : Code) (fuel end place strand : ℕ) (why : FaultKind) (kept : Kept) → Translates program code → ProgramBeginsBy end program
    → RunOf code fuel kept → kept.end ≡ ends.Fault why place strand → place ≤ end
fault_lies program code fuel end place strand why kept t begins r is =
    subst (λ (x : ℕ). x ≤ end) (ap place_of is) (end_lies program code end t begins fuel kept.journal.entries r.world kept.end r.ends)
