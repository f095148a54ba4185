-- The annotated tree of a text, and why another text is refused (Report, 3 to 8; the order of the rules is own).
use Rattle.std.specs.Prelude.{◌≡◌, ℕ, List}
use Rattle.a68_annot.specs.declared.annotated.Annotated.{Annotated}
use Rattle.a68_annot.specs.declared.note.Note.{Note}
use Rattle.a68_base.specs.declared.refusal.Refusal.{Refusal}
use Rattle.a68_declare.specs.Outcome.{ByNode}
use Rattle.a68_meaning.specs.Meaning.{IsMisused, IsUnbroken}
use Rattle.a68_modes.specs.declared.shape.Shape.{Shape}
use Rattle.a68_notes.specs.Notes.{AreNotes}
use Rattle.a68_notes.specs.Rows.{with_rows}
use Rattle.a68_op_ident.specs.Lacking.{IsUnshaped}
use Rattle.a68_op_ident.specs.Shapes.{Shaped}
use Rattle.a68_ranges.specs.Twice.{IsTwice, RefusesTwice}
use Rattle.a68_refusals.specs.First.{Asked}
use Rattle.a68_tree.specs.Trees.{Built}

-- no range declares a word of one sort twice, and no structure has two fields of one tag
abbrev pub DeclaresOnce : Built → Type 0
DeclaresOnce tree = (id : ℕ) → IsTwice tree id → ⊥

-- The modes of a tree whose formulas are shaped, with the rows by way of which values become rows of several dimensions, and what is
-- known of its nodes: none of them breaks a rule.
pub record AreKnown (shaped : Built) (modes : List Shape) (notes : List Note) : Type 0 where
  pub once : DeclaresOnce shaped
  pub of : ByNode
  pub asked : Asked
  pub tree_is : asked.tree ≡ shaped
  pub fine : IsUnbroken of asked
  pub modes_are : modes ≡ with_rows asked.nodes
  pub notes_are : AreNotes of asked notes

-- The annotated tree of a flat one: its formulas are shaped, and its nodes are known.
pub record Annotates (flat : Built) (program : Annotated) : Type 0 where
  pub once : DeclaresOnce flat
  pub shaped : Shaped flat program.tree
  pub known : AreKnown program.tree program.modes program.notes

-- The rule that a flat tree breaks: a word is declared twice; else a sign between two operands has no priority; else, once its
-- formulas are shaped, a rule of declarers, operators, tags, coercions or counts.
pub data Refuses (flat : Built) (refusal : Refusal) : Type 0 where
  declared_twice : RefusesTwice flat refusal → Refuses flat refusal
  unshaped : DeclaresOnce flat → IsUnshaped flat refusal → Refuses flat refusal
  misused : (shaped : Built) → DeclaresOnce flat → Shaped flat shaped → IsMisused shaped refusal → Refuses flat refusal
