-- Actual declarers (Report, 4.6.1): of variables, generators and mode definitions, and those within them that are no part of
-- a name, a procedure or a union.
use Rattle.std.specs.Prelude.{◌≡◌, ◌<◌, ◌⊎◌, ◌↔◌, ℕ, Bool, true, false, List, length, slice_index_or}
use Rattle.std.specs.List.{Contains}
use Rattle.a68_declarers.specs.declared.actual.Holders.{Holders}
use Rattle.a68_declarers.specs.declared.actual.Holders.TheVariants as holders
use Rattle.a68_declarers.specs.declared.form.DeclarerForm.{DeclarerForm}
use Rattle.a68_declarers.specs.declared.form.DeclarerForm.TheVariants as forms
use Rattle.a68_declarers.specs.Declarers.{form_at, is_mode_definition, IsDeclarerAt}
use Rattle.a68_ranges.specs.Nodes.{kind_at, IsPart}
use Rattle.a68_tree.specs.Trees.{Built}
use Rattle.a68_tree.specs.declared.kind.NodeKind.{NodeKind}
use Rattle.a68_tree.specs.declared.kind.NodeKind.TheVariants as kind

-- these have actual declarers
abbrev pub has_actual : NodeKind → Bool
has_actual kind.Variable = true
has_actual kind.Generator = true
has_actual kind.ModeDefinition = true
has_actual _ = false

-- all that have them, or mode definitions alone
abbrev pub is_holder : Holders → NodeKind → Bool
is_holder holders.All form = has_actual form
is_holder holders.ModeDefinitions form = is_mode_definition form

-- declarers within a row and a structure are actual where these are
abbrev pub hands_on : DeclarerForm → Bool
hands_on (forms.Row flex) = true
hands_on forms.Structure = true
hands_on _ = false

-- an actual declarer of one of these, or one within it
pub data IsActual (tree : Built) (which : Holders) : ℕ → Type 0 where
  whole : {top d : ℕ} → is_holder which (kind_at tree top) ≡ true → IsPart tree top d → IsDeclarerAt tree d → IsActual tree which d
  inner : {d e : ℕ} → IsActual tree which d → hands_on (form_at tree d) ≡ true → IsPart tree d e → IsDeclarerAt tree e → IsActual tree which e

-- the actual declarers are marked, and no others
pub record AreActual (tree : Built) (which : Holders) (marks : List Bool) : Type 0 where
  pub long : length marks ≡ length tree.nodes
  pub exact : (d : ℕ) → (slice_index_or marks d false ≡ true) ↔ IsActual tree which d

-- the declarers among a node's parts are actual
abbrev pub IsSource : Built → Holders → ℕ → Type 0
IsSource tree which n = (is_holder which (kind_at tree n) ≡ true) ⊎ (IsActual tree which n × (hands_on (form_at tree n) ≡ true))

-- a declarer is marked by one of the nodes before a number
abbrev pub IsMarkedBefore : Built → Holders → (count : ℕ) → ℕ → Type 0
IsMarkedBefore tree which count d = (n : ℕ) × (n < count) × IsSource tree which n × IsPart tree n d × IsDeclarerAt tree d

-- the declarers among these nodes are marked, and no others are new
pub record AreMarked (tree : Built) (nodes : List ℕ) (old new : List Bool) : Type 0 where
  pub long : length new ≡ length old
  pub exact : (d : ℕ) → (slice_index_or new d false ≡ true) ↔ ((slice_index_or old d false ≡ true) ⊎ (Contains nodes d × IsDeclarerAt tree d))
