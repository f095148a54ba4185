-- The one mode that a node has to find, beyond those that are given, before it can say what it asks of its parts.
use Rattle.std.specs.Prelude.{◌≡◌, ◌-◌, ◌&&◌, ℕ, List, length, nat_eq, nat_lt, Option, None, Some, if◌then◌else◌}
use Rattle.a68_coerce.specs.declared.form.ModeForm.TheVariants as form
use Rattle.a68_definitions.specs.Defined.{part_from_end}
use Rattle.a68_definitions.specs.Tags.{called_by}
use Rattle.a68_equiv.specs.Related.{without_flex}
use Rattle.a68_identify.specs.declared.identified.Identified.{Identified}
use Rattle.a68_identify.specs.declared.identified.Identified.TheVariants.{Declared, Standard}
use Rattle.a68_mode_table.specs.Growing.{IsNode, IsNumberInterned, IsRowInterned}
use Rattle.a68_modes.specs.Nodes.{shape_at}
use Rattle.a68_modes.specs.declared.coercion.Sort.TheVariants as by
use Rattle.a68_modes.specs.declared.shape.Shape.{Shape}
use Rattle.a68_modes.specs.declared.shape.Shape.TheVariants.{Ref, Rows}
use Rattle.a68_positions.specs.declared.aside.Aside.{Aside}
use Rattle.a68_positions.specs.declared.aside.Aside.TheVariants as aside
use Rattle.a68_positions.specs.declared.position.Position.{Position}
use Rattle.a68_positions.specs.declared.position.Position.TheVariants as position
use Rattle.a68_ranges.specs.Nodes.{parts_at}
use Rattle.a68_ranges.specs.declared.tags.TheConstants as tags
use Rattle.a68_tree.specs.declared.kind.NodeKind.{NodeKind}
use Rattle.a68_tree.specs.declared.kind.NodeKind.TheVariants as kind
use Rattle.a68_yields.specs.Found.{IsFound}
use Rattle.a68_yields.specs.Yields.{Known}
use Rattle.a68_yields.specs.declared.sought.Sought.TheVariants as sought
use Rattle.a68_yields.specs.declared.sought.Expectation.TheVariants as want
use Rattle.a68_yields.specs.declared.yielding.Finding.{Finding}
use Rattle.a68_yields.specs.declared.yielding.Finding.TheVariants as finding
use Rattle.a68_yields.specs.declared.yielding.Yielding.{Yielding}

-- what a name refers to, without its FLEX (5.2.1.1)
abbrev pub referred : Shape → Aside
referred (Ref a) = aside.WithoutFlex a
referred shape = aside.Nothing

abbrev pub of_source : List Shape → Finding → Aside
of_source nodes (finding.Mode (Some name)) = referred (shape_at nodes name)
of_source nodes _ = aside.Nothing

-- the units of the display of a row of several dimensions are rows of one dimension fewer (3.3.1)
abbrev pub row_within : Shape → Aside
row_within (Rows dims flex of) = if nat_lt 1 dims then aside.Row (dims - 1) flex of else aside.Nothing
row_within shape = aside.Nothing

abbrev pub of_display : List Shape → (own : Position) → Aside
of_display nodes (position.Goal m setter) = row_within (shape_at nodes m)
of_display nodes _ = aside.Nothing

-- LWB and UPB take every row, or the name of one (10.2.3.1)
abbrev pub of_operator : (last : ℕ) → Identified → Aside
of_operator last (Declared d) = aside.Nothing
of_operator last (Standard o) = if nat_eq o.right 0 then aside.AnyRow last else aside.Nothing

abbrev pub of_formula : (last : ℕ) → Finding → Aside
of_formula last (finding.Operator (Some o)) = of_operator last o
of_formula last _ = aside.Nothing

-- whole takes an INT or a LONG INT (10.3.2.1)
abbrev pub of_call : (called : Option ℕ) → (count : ℕ) → Aside
of_call None count = aside.Nothing
of_call (Some c) count = if nat_eq c tags.WHOLE && nat_eq count 3 then aside.Number else aside.Nothing

-- what a node of that kind has to find, by what is asked of it and what is found of its parts
abbrev pub aside_by : Known → List Shape → (n : ℕ) → (own : Position) → Finding → NodeKind → Aside
aside_by k nodes n own found kind.Assignation = of_source nodes found
aside_by k nodes n own found kind.Collateral = of_display nodes own
aside_by k nodes n own found kind.Monadic = of_formula (part_from_end (parts_at k.tree n) 1) found
aside_by k nodes n own found kind.Dyadic = of_formula (part_from_end (parts_at k.tree n) 1) found
aside_by k nodes n own found kind.Call = of_call (called_by k.tree k.tags n) (length (parts_at k.tree n))
aside_by k nodes n own found _ = aside.Nothing

-- VOID where no mode is found
abbrev pub mode_or_void : Finding → ℕ
mode_or_void (finding.Mode (Some m)) = m
mode_or_void _ = 0

-- the row, or name of one, to which the units of a part are weakly balanced
abbrev pub IsAnyRow : Known → List Shape → List Yielding → (part : ℕ) → ℕ → Type 0
IsAnyRow k nodes ys part m = (found : Finding) × IsFound k.tree nodes k.of ys part (sought.Part by.Weak (want.ModeForm form.Row) part) found × (m ≡ mode_or_void found)

-- the mode that is set aside, among modes that may grow by it; VOID where none is
abbrev pub IsSetAside : Known → List Shape → List Yielding → Aside → List Shape → ℕ → Type 0
IsSetAside k nodes ys aside.Nothing after m = (after ≡ nodes) × (m ≡ 0)
IsSetAside k nodes ys (aside.WithoutFlex of) after m = (after ≡ nodes) × IsNode nodes (without_flex of) m
IsSetAside k nodes ys (aside.Row dims flex of) after m = IsRowInterned nodes dims flex of after m
IsSetAside k nodes ys (aside.AnyRow part) after m = (after ≡ nodes) × IsAnyRow k nodes ys part m
IsSetAside k nodes ys aside.Number after m = IsNumberInterned nodes after m
