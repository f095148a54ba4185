-- Inner: the headline does not rest on this file.
-- Declarers whose bounds are yet to be added.
use Rattle.std.specs.Prelude.{ℕ, zero, suc, ◌+◌, List, [], ◌∷◌, ◌++◌, length, map, slice_get}
use Rattle.std.specs.declared.option.Option.{Option}
use Rattle.std.specs.declared.option.Option.TheVariants.{None, Some}
use Rattle.a68_annot.specs.declared.annotated.Annotated.{Annotated}
use Rattle.a68_elab.specs.Made.{bounds_within, parts_at, row_bounds, word_bounds}
use Rattle.a68_elab.specs.declared.bound.Bound.{Bound}
use Rattle.a68_elab.specs.declared.bound.Bound.TheVariants as bound
use Rattle.a68_runs.specs.Bounds.{seen_from}
use Rattle.a68_runs.specs.declared.bounds.Open.{Open}

-- the bounds of one
abbrev pub those_of : Annotated → Open → List Bound
those_of a o = map (seen_from o.frames) (bounds_within o.depth a o.id)

-- those of all, of the next one first
abbrev pub all_of : Annotated → List Open → List Bound
all_of a [] = []
all_of a (o ∷ opens) = those_of a o ++ all_of a opens

-- the declarer that stands before a field, if any
abbrev pub listed : (depth : ℕ) (frames : Option ℕ) → Option ℕ → List Open
listed depth frames None = []
listed depth frames (Some n) = record { depth = depth; frames = frames; id = n } ∷ []

-- a mark for a declarer and for each that is looked at within it, which lie at most so deep
abbrev pub marks_within : (depth : ℕ) → Annotated → (id : ℕ) → List Bound
marks_within zero a id = bound.Meant 0 ∷ []
marks_within (suc n) a id = bound.Meant 0 ∷ (row_bounds a (marks_within n a) (parts_at a id) ++ word_bounds a (marks_within n a) (slice_get a.notes id) (parts_at a id))

-- how many declarers are yet to be looked at, with those within them
abbrev pub looks_of : Annotated → List Open → ℕ
looks_of a [] = 0
looks_of a (o ∷ opens) = length (marks_within o.depth a o.id) + looks_of a opens
