-- Inner: the headline does not rest on this file.
-- The instructions of serial clauses with labels, piece by piece.
use Rattle.std.specs.Prelude.{◌≡◌, ◌+◌, ℕ, List, [], ◌∷◌, ◌++◌, length, None, if◌then◌else◌}
use Rattle.std.specs.declared.option.Option.{Option}
use Rattle.a68_annot.specs.declared.annotated.Annotated.{Annotated}
use Rattle.a68_base.specs.declared.refusal.Stop.{Stop}
use Rattle.a68_code.specs.declared.code.Instr.{Instr}
use Rattle.a68_code.specs.declared.does.Does.TheVariants as does
use Rattle.a68_elab.specs.Made.{is_exit, is_label, kind_at}
use Rattle.a68_elab.specs.Programs.{behind}
use Rattle.a68_elab.specs.Trees.{Steps, last_step, step, exit}
use Rattle.a68_emit.specs.Listing.{instr, size, stretch}
use Rattle.a68_emit.specs.Views.{laid_of}
use Rattle.a68_emit.specs.Writing.{Writes}
use Rattle.a68_emit.specs.declared.view.View.{View}

-- where the jumps to the end stand
abbrev pub exit_jumps : Steps → (at : ℕ) → List ℕ
exit_jumps (last_step labels tree) at = []
exit_jumps (step labels tree more) at = exit_jumps more (at + size tree)
exit_jumps (exit labels tree more) at = (at + size tree) ∷ exit_jumps more (at + size tree + 1)

-- how many nodes a label or a step takes: with EXIT behind it two
abbrev pub step_width : Annotated → (part next : ℕ) → ℕ
step_width a part next = if is_label (kind_at a part) then 1 else (if is_exit (kind_at a next) then 2 else 1)

-- what is written for a label or a step, before that node
abbrev pub step_list : View → (id place part next at : ℕ) → List Instr
step_list v id place part next at =
    if is_label (kind_at v.of.now part) then []
    else (if is_exit (kind_at v.of.now next) then stretch (behind id (laid_of v) part) at ++ instr place (does.Jump 0) ∷ [] else stretch (behind id (laid_of v) part) at)

-- and what is kept of it
abbrev pub labels_kept : View → (part at : ℕ) → List (ℕ × ℕ)
labels_kept v part at = if is_label (kind_at v.of.now part) then (part, at) ∷ [] else []

abbrev pub jumps_kept : View → (id part next at : ℕ) → List ℕ
jumps_kept v id part next at =
    if is_label (kind_at v.of.now part) then [] else (if is_exit (kind_at v.of.now next) then (at + size (behind id (laid_of v) part)) ∷ [] else [])

pub record IsStep (v : View) (id place part next : ℕ) (stop : Option Stop) (list : List Instr) (placed : List (ℕ × ℕ)) (jumps : List ℕ)
    (stop' : Option Stop) (list' : List Instr) (placed' : List (ℕ × ℕ)) (jumps' : List ℕ) : Type 0 where
  pub writes : Writes stop stop' list list' (step_list v id place part next (length list))
  pub labels : stop' ≡ None → placed' ≡ placed ++ labels_kept v part (length list)
  pub leaps : stop' ≡ None → jumps' ≡ jumps ++ jumps_kept v id part next (length list)
