-- Inner: the headline does not rest on this file.
-- The labels of serial clauses about what is written.
use Rattle.std.specs.Prelude.{◌≡◌, ℕ, Bool, None, Some, List, [], ◌∷◌, ◌++◌, ◌&&◌, map, nat_eq, if◌then◌else◌}
use Rattle.std.specs.List.{list_any}
use Rattle.std.specs.declared.option.Option.{Option}
use Rattle.a68_annot.specs.declared.annotated.Annotated.{Annotated}
use Rattle.a68_elab.specs.Made.{is_label, kind_at, parts_at}
use Rattle.a68_elab.specs.Programs.{Mark}
use Rattle.a68_elab.specs.Trees.{is_label_in}
use Rattle.a68_emit.specs.declared.seat.Clause.{Clause}

-- the labels among these nodes of a serial clause, which does not end with one
abbrev pub labels_among : Annotated → List ℕ → List ℕ
labels_among a [] = []
labels_among a (id ∷ []) = []
labels_among a (id ∷ (i ∷ ids)) = if is_label (kind_at a id) then id ∷ labels_among a (i ∷ ids) else labels_among a (i ∷ ids)

-- a clause has a label, by these pairs of clauses and labels
abbrev pub has_pair : List (ℕ × ℕ) → (clause label : ℕ) → Bool
has_pair pairs clause label = list_any (λ pair. nat_eq clause pair.0 && nat_eq label pair.1) pairs

-- these pairs are all clauses with their labels
abbrev pub AreLabels : Annotated → List (ℕ × ℕ) → Type 0
AreLabels a pairs = (clause label : ℕ) → has_pair pairs clause label ≡ is_label_in label (labels_among a (parts_at a clause))

-- the labels of a clause, where it began
abbrev pub marks_in : Annotated → Clause → List Mark
marks_in a c = map (λ l. record { label = l; depth = c.depth; height = c.height }) (labels_among a (parts_at a c.id))

-- those of these clauses, the innermost first
abbrev pub marks_of : Annotated → List Clause → List Mark
marks_of a [] = []
marks_of a (c ∷ cs) = marks_in a c ++ marks_of a cs

-- what is found of a label among the clauses is what is found among their labels
abbrev pub AreSameNumbers : Option Mark → Option Clause → Type 0
AreSameNumbers None None = Unit {0}
AreSameNumbers (Some m) (Some c) = (m.depth ≡ c.depth) × (m.height ≡ c.height)
AreSameNumbers _ _ = ⊥
