-- Which programs no code is made of.
use Rattle.a68_annot.specs.declared.annotated.Annotated.{Annotated}
use Rattle.a68_base.specs.declared.refusal.Refusal.{Refusal}
use Rattle.a68_elab.specs.Programs.{program_of}
use Rattle.a68_emit.specs.Listing.{listing}
use Rattle.a68_emit.specs.Writing.{IsTooLong}

-- those of too many instructions (own)
abbrev pub IsNotGenerated : (a : Annotated) (refusal : Refusal) → Type 0
IsNotGenerated a refusal = IsTooLong (listing (program_of a)) refusal
