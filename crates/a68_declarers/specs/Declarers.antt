-- What a declarer is made of, by its first symbol (Report, 4.6.1).
use Rattle.std.specs.Prelude.{◌≡◌, ◌<◌, ℕ, List, [], ◌∷◌, length, Option, Some, None, Bool, true, false, codes}
use Rattle.std.specs.Option.{option_and_then}
use Rattle.a68_base.specs.Tables.{find}
use Rattle.a68_declarers.specs.declared.form.DeclarerForm.{DeclarerForm}
use Rattle.a68_declarers.specs.declared.form.DeclarerForm.TheVariants as forms
use Rattle.a68_ranges.specs.Nodes.{kind_at, spelling_at, IsPart}
use Rattle.a68_tree.specs.Trees.{Built}
use Rattle.a68_tree.specs.declared.kind.NodeKind.{NodeKind}
use Rattle.a68_tree.specs.declared.kind.NodeKind.TheVariants as kind

-- the reserved words and the bracket that begin declarers; STRING is FLEX [] CHAR, and behind LONG stands
-- INT
unfoldable pub known_forms : List (List ℕ × DeclarerForm)
known_forms =
    (codes "INT", forms.Standard 1 1) ∷ (codes "BOOL", forms.Standard 2 2) ∷ (codes "CHAR", forms.Standard 3 3) ∷
    (codes "BITS", forms.Standard 4 4) ∷ (codes "SEMA", forms.Standard 5 5) ∷ (codes "STRING", forms.Standard 12 7) ∷
    (codes "LONG", forms.Standard 13 13) ∷
    (codes "REF", forms.Name) ∷ (codes "[", forms.Row false) ∷ (codes "FLEX", forms.Row true) ∷
    (codes "STRUCT", forms.Structure) ∷ (codes "UNION", forms.Union) ∷ (codes "PROC", forms.Procedure) ∷ []

abbrev pub or_word : Option DeclarerForm → DeclarerForm
or_word (Some form) = form
or_word None = forms.Word

-- the form of a declarer; every other first symbol is a mode word
abbrev pub form_at : Built → (declarer : ℕ) → DeclarerForm
form_at tree d = or_word (option_and_then (find known_forms) (spelling_at tree d))

abbrev pub is_declarer : NodeKind → Bool
is_declarer kind.Declarer = true
is_declarer _ = false

abbrev pub is_field : NodeKind → Bool
is_field kind.Field = true
is_field _ = false

abbrev pub is_mode_definition : NodeKind → Bool
is_mode_definition kind.ModeDefinition = true
is_mode_definition _ = false

abbrev pub is_word : DeclarerForm → Bool
is_word forms.Word = true
is_word _ = false

abbrev pub is_united : DeclarerForm → Bool
is_united forms.Union = true
is_united _ = false

-- a declarer
abbrev pub IsDeclarerAt : Built → ℕ → Type 0
IsDeclarerAt tree d = is_declarer (kind_at tree d) ≡ true

-- VOID in the place of a declarer
abbrev pub IsVoidWord : Built → ℕ → Type 0
IsVoidWord tree d = kind_at tree d ≡ kind.VoidWord

-- every part stands behind its node
abbrev pub PartsFollow : Built → Type 0
PartsFollow tree = (n p : ℕ) → IsPart tree n p → (n < p) × (p < length tree.nodes)
