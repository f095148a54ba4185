-- A text that is compiled is not refused, and is compiled in one way.
use Rattle.std.proofs.Common.{◌≡◌, ℕ, ◌≤◌, List, length, ap, subst, ◌∙◌}
use Rattle.a68_annot.specs.declared.annotated.Annotated.{Annotated}
use Rattle.a68_base.specs.declared.refusal.Refusal.{Refusal}
use Rattle.a68_code.specs.declared.code.Code.{Code}
use Rattle.a68_elab.specs.Programs.{program_of}
use Rattle.a68_elab.specs.Trees.{Program}
use Rattle.a68_gen.specs.Refusals.{IsNotGenerated}
use Rattle.a68_emit.specs.Stretches.{Translates}
use Rattle.a68_emit.specs.Writing.{most}
use Rattle.a68_top.proofs.One.{Laws, same_program, compiled_late}
use Rattle.a68_top.specs.Compiles.{Compiles, RefusedAs}
use Rattle.a68_top.specs.declared.finish.Made.{Made}

-- what the laws of translation say
pub record Codes : Type 0 where
  pub code : (program : Program) (code other : Code) → Translates program code → Translates program other → other ≡ code
  pub apart : (program : Annotated) (code : Code) (r : Refusal) → Translates (program_of program) code → length code.list ≤ most → IsNotGenerated program r → ⊥

module _ (laws : Laws) (codes : Codes) (text : List ℕ) where
  pub not_refused : (made : Made) (r : Refusal) → Compiles text made → RefusedAs text r → ⊥
  not_refused made r c q = codes.apart made.program made.code r c.translated c.short (compiled_late laws text made.program r c.program q)

  pub one_made : (a b : Made) → Compiles text a → Compiles text b → a ≡ b
  one_made a b c d =
      let program : a.program ≡ b.program = same_program laws text a.program b.program c.program d.program in
      let moved : Translates (program_of b.program) a.code = subst (λ (p : Annotated). Translates (program_of p) a.code) program c.translated in
      let code : a.code ≡ b.code = codes.code (program_of b.program) b.code a.code d.translated moved in
      ap {A = Annotated} {B = Made} (λ p. record { program = p; code = a.code }) program ∙ ap {A = Code} {B = Made} (λ x. record { program = b.program; code = x }) code
