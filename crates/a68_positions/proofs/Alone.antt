-- What is asked of the nodes of a tree is one, and so are the modes that join the others.
use Rattle.std.proofs.Common.{◌≡◌, ◌<◌, ◌≤◌, ◌-◌, ◌^◌, ◌∙◌, ℕ, List, Bool, true, false, Option, None, Some, length, if◌then◌else◌, refl, sym, ap, arith, subst}
use Rattle.std.specs.Prelude.{◌&&◌, nat_eq, nat_lt}
use Rattle.a68_base.specs.declared.limits.TheConstants.{MOST_MODES}
use Rattle.a68_declare.proofs.Standing.{fifteen}
use Rattle.a68_definitions.proofs.Alone.{AreLonger, longer_on, same_longer}
use Rattle.a68_definitions.proofs.Defining.{IsLonger, all_longer}
use Rattle.a68_definitions.specs.Defined.{AllBelow, part_from_end}
use Rattle.a68_definitions.specs.Tags.{called_by}
use Rattle.a68_equiv.specs.Dimensions.{HaveDimensions, HasDimensions}
use Rattle.a68_equiv.specs.Related.{without_flex}
use Rattle.a68_equiv.specs.declared.mode.Mode.{Mode}
use Rattle.a68_identify.specs.Operators.{NumbersAreThere}
use Rattle.a68_identify.specs.declared.identified.Identified.{Identified}
use Rattle.a68_identify.specs.declared.identified.Identified.TheVariants.{Declared, Standard}
use Rattle.a68_mode_table.proofs.Numbers.{numbers_keep, numbers_keep_node, numbers_one, numbers_sound}
use Rattle.a68_mode_table.proofs.Once.{row_keeps, row_keeps_node, row_sound, rows_one}
use Rattle.a68_mode_table.proofs.Shapes.{one_node}
use Rattle.a68_mode_table.specs.Growing.{AreSound, IsNode}
use Rattle.a68_modes.specs.Nodes.{shape_at}
use Rattle.a68_modes.specs.declared.shape.Shape.{Shape}
use Rattle.a68_modes.specs.declared.shape.Shape.TheVariants.{Ref, Rows}
use Rattle.a68_positions.proofs.Bounds.{aside_within, fixed_below, parts_within, start_within}
use Rattle.a68_positions.proofs.Longer.{aside_longer, position_longer, positions_longer, tables_longer, there_longer}
use Rattle.a68_positions.specs.Aside.{IsAnyRow, IsSetAside, aside_by, mode_or_void, of_call, of_display, of_formula, of_operator, of_source, referred, row_within}
use Rattle.a68_positions.specs.Below.{ArePositionsBelow, IsAsideBelow}
use Rattle.a68_positions.specs.Given.{finding_at, position_at}
use Rattle.a68_positions.specs.Positions.{ArePositionsFrom, asker_at, at_start, none_yet, one_more, with_parts}
use Rattle.a68_positions.specs.declared.aside.Aside.{Aside}
use Rattle.a68_positions.specs.declared.aside.Aside.TheVariants as aside
use Rattle.a68_positions.specs.declared.position.Position.{Position}
use Rattle.a68_positions.specs.declared.position.Position.TheVariants as position
use Rattle.a68_ranges.specs.Nodes.{kind_at, parts_at}
use Rattle.a68_tree.specs.declared.kind.NodeKind.{NodeKind}
use Rattle.a68_tree.specs.declared.kind.NodeKind.TheVariants as kind
use Rattle.a68_yields.proofs.Alike.{found_one}
use Rattle.a68_yields.proofs.Tabling.{finding_longer}
use Rattle.a68_yields.specs.Below.{AreTablesBelow}
use Rattle.a68_yields.specs.Yields.{Known}
use Rattle.a68_yields.specs.declared.yielding.Finding.{Finding}
use Rattle.a68_yields.specs.declared.yielding.Finding.TheVariants as finding
use Rattle.a68_yields.specs.declared.yielding.Yielding.{Yielding}

-- ---- what is set aside

module _ (k : Known) (ys : List Yielding) (nodes : List Shape) (sound : AreSound nodes) where
  any_row_one : (part m next : ℕ) → IsAnyRow k nodes ys part m → IsAnyRow k nodes ys part next → m ≡ next
  any_row_one part m next p q = p.2 ∙ ap mode_or_void (found_one nodes sound k.tree k.of part ys p.1 q.1 refl) ∙ sym q.2

  aside_one : (a : Aside) (after other : List Shape) (m next : ℕ) → IsAsideBelow (length nodes) a → IsSetAside k nodes ys a after m
      → IsSetAside k nodes ys a other next → (after ≡ other) × (m ≡ next)
  aside_one aside.Nothing after other m next below p q = (p.0 ∙ sym q.0, p.1 ∙ sym q.1)
  aside_one (aside.WithoutFlex of) after other m next below p q = (p.0 ∙ sym q.0, one_node nodes sound (without_flex of) m next p.1 q.1)
  aside_one (aside.Row dims flex of) after other m next below p q = rows_one nodes after other dims flex of m next sound below.1 p q
  aside_one (aside.AnyRow part) after other m next below p q = (p.0 ∙ sym q.0, any_row_one part m next p.1 q.1)
  aside_one aside.Number after other m next below p q = numbers_one nodes after other m next sound p q

-- the old modes stay where they were
aside_keeps : (k : Known) (nodes : List Shape) (ys : List Yielding) (a : Aside) (after : List Shape) (m : ℕ) → IsSetAside k nodes ys a after m → AreLonger nodes after
aside_keeps k nodes ys aside.Nothing after m is = same_longer nodes after is.0
aside_keeps k nodes ys (aside.WithoutFlex of) after m is = same_longer nodes after is.0
aside_keeps k nodes ys (aside.Row dims flex of) after m is = let r = row_keeps nodes after dims flex of m is in record { long = r.longer; kept = r.kept }
aside_keeps k nodes ys (aside.AnyRow part) after m is = same_longer nodes after is.0
aside_keeps k nodes ys aside.Number after m is = let n = numbers_keep nodes after m is in record { long = n.longer; kept = n.kept }

-- the dimensions of a row that is set aside are a number of 32 bits
abbrev pub IsSmall : Aside → Type 0
IsSmall (aside.Row dims flex of) = dims < 2 ^ 32
IsSmall a = Unit {0}

row_small : (s : Shape) → HasDimensions s → IsSmall (row_within s)
row_small (Rows dims flex of) has = by (nat_lt 1 dims)
  where
    by : (t : Bool) → IsSmall (if t then aside.Row (dims - 1) flex of else aside.Nothing)
    by true = omega (arith, has.1)
    by false = tt
row_small _ has = tt

referred_small : (s : Shape) → IsSmall (referred s)
referred_small (Ref a) = tt
referred_small _ = tt

source_small : (nodes : List Shape) (f : Finding) → IsSmall (of_source nodes f)
source_small nodes (finding.Mode (Some name)) = referred_small (shape_at nodes name)
source_small nodes _ = tt

display_small : (nodes : List Shape) (own : Position) → HaveDimensions nodes → IsSmall (of_display nodes own)
display_small nodes (position.Goal m setter) have = row_small (shape_at nodes m) (have m)
display_small nodes _ have = tt

operator_small : (last : ℕ) (o : Identified) → IsSmall (of_operator last o)
operator_small last (Declared d) = tt
operator_small last (Standard o) = by (nat_eq o.right 0)
  where
    by : (t : Bool) → IsSmall (if t then aside.AnyRow last else aside.Nothing)
    by true = tt
    by false = tt

formula_small : (last : ℕ) (f : Finding) → IsSmall (of_formula last f)
formula_small last (finding.Operator (Some o)) = operator_small last o
formula_small last _ = tt

call_small : (called : Option ℕ) (count : ℕ) → IsSmall (of_call called count)
call_small None count = tt
call_small (Some c) count = by (nat_eq c 8 && nat_eq count 3)
  where
    by : (t : Bool) → IsSmall (if t then aside.Number else aside.Nothing)
    by true = tt
    by false = tt

aside_small : (k : Known) (nodes : List Shape) (node : ℕ) (own : Position) (f : Finding) (form : NodeKind) → HaveDimensions nodes → IsSmall (aside_by k nodes node own f form)
aside_small k nodes node own f kind.Assignation have = source_small nodes f
aside_small k nodes node own f kind.Collateral have = display_small nodes own have
aside_small k nodes node own f kind.Monadic have = formula_small (part_from_end (parts_at k.tree node) 1) f
aside_small k nodes node own f kind.Dyadic have = formula_small (part_from_end (parts_at k.tree node) 1) f
aside_small k nodes node own f kind.Call have = call_small (called_by k.tree k.tags node) (length (parts_at k.tree node))
aside_small k nodes node own f _ have = tt

aside_sound : (k : Known) (nodes : List Shape) (ys : List Yielding) (a : Aside) (after : List Shape) (m : ℕ) → AreSound nodes → length after ≤ MOST_MODES → IsAsideBelow (length nodes) a → IsSmall a
    → IsSetAside k nodes ys a after m → AreSound after
aside_sound k nodes ys aside.Nothing after m sound few below small is = subst AreSound (sym is.0) sound
aside_sound k nodes ys (aside.WithoutFlex of) after m sound few below small is = subst AreSound (sym is.0) sound
aside_sound k nodes ys (aside.Row dims flex of) after m sound few below small is = row_sound nodes after dims flex of m sound few below.0 small below.1 is
aside_sound k nodes ys (aside.AnyRow part) after m sound few below small is = subst AreSound (sym is.0) sound
aside_sound k nodes ys aside.Number after m sound few below small is = numbers_sound nodes after m sound few is

aside_node : (k : Known) (nodes : List Shape) (ys : List Yielding) (a : Aside) (after : List Shape) (m : ℕ) → AreSound nodes → length after ≤ MOST_MODES → IsAsideBelow (length nodes) a → IsSmall a
    → IsSetAside k nodes ys a after m → (mode : Mode) (node : ℕ) → mode.id < length nodes → IsNode nodes mode node → IsNode after mode node
aside_node k nodes ys aside.Nothing after m sound few below small is mode node h was = subst (λ (xs : List Shape). IsNode xs mode node) (sym is.0) was
aside_node k nodes ys (aside.WithoutFlex of) after m sound few below small is mode node h was = subst (λ (xs : List Shape). IsNode xs mode node) (sym is.0) was
aside_node k nodes ys (aside.Row dims flex of) after m sound few below small is mode node h was = row_keeps_node nodes after dims flex of m sound few below.0 small below.1 is mode node h was
aside_node k nodes ys (aside.AnyRow part) after m sound few below small is mode node h was = subst (λ (xs : List Shape). IsNode xs mode node) (sym is.0) was
aside_node k nodes ys aside.Number after m sound few below small is mode node h was = numbers_keep_node nodes after m sound is mode node h was

-- ---- all nodes, from the first to the last

module _ (k : Known) (ys : List Yielding) (fs : List Finding) (start : List Shape) where
  -- what a node sets aside
  needed : (n : ℕ) (before : List Shape) (those : List Position) → Aside
  needed n before those = aside_by k before n (position_at those n) (finding_at fs n) (kind_at k.tree n)

  pub run_longer : {count : ℕ} {nodes : List Shape} {ps : List Position} → ArePositionsFrom k ys fs start count nodes ps → AreLonger start nodes
  run_longer {nodes = nodes} (none_yet here same begun) = same_longer start nodes same
  run_longer {nodes = nodes} (one_more n m before those rest set is next) =
      longer_on start before nodes (run_longer rest) (aside_keeps k before ys (aside_by k before n (position_at those n) (finding_at fs n) (kind_at k.tree n)) nodes m set)

  -- what is known of the modes and the positions so far
  pub record AreGood (nodes : List Shape) (ps : List Position) : Type 0 where
    pub sound : AreSound nodes
    pub of : NumbersAreThere k.tree nodes k.of
    pub defined : AllBelow (length nodes) k.defined
    pub tables : AreTablesBelow (length nodes) (length k.tree.nodes) ys fs
    pub below : ArePositionsBelow (length nodes) ps

  many : (nodes : List Shape) → AreSound nodes → 8 < length nodes
  many nodes sound = omega (arith, fifteen nodes sound.holds)

  good_more : (n m : ℕ) (before nodes : List Shape) (those ps : List Position) → AreGood before those → length nodes ≤ MOST_MODES
      → IsSetAside k before ys (aside_by k before n (position_at those n) (finding_at fs n) (kind_at k.tree n)) nodes m
      → ps ≡ with_parts k nodes (asker_at fs those n m) 0 (parts_at k.tree n) those → AreGood nodes ps
  good_more n m before nodes those ps good few set is =
      let a : Aside = aside_by k before n (position_at those n) (finding_at fs n) (kind_at k.tree n) in
      let below : IsAsideBelow (length before) a =
      aside_within before good.sound.holds (many before good.sound) k n (position_at those n) (finding_at fs n) (kind_at k.tree n) (good.below n) (good.tables.found n) in
      let some : 15 ≤ length before = fifteen before good.sound.holds in
      let long : IsLonger before nodes m = aside_longer k before ys a nodes m some set in
      let sound : AreSound nodes = aside_sound k before ys a nodes m good.sound few below (aside_small k before n (position_at those n) (finding_at fs n) (kind_at k.tree n) good.sound.rows) set in
      let of : NumbersAreThere k.tree nodes k.of = there_longer k.tree before nodes k.of long.long good.of in
      let defined : AllBelow (length nodes) k.defined = all_longer (length before) (length nodes) k.defined long.long good.defined in
      let more : 0 < length nodes = omega (arith, many nodes sound) in
      record {
        sound = sound;
        of = of;
        defined = defined;
        tables = tables_longer (length before) (length nodes) long.long (length k.tree.nodes) ys fs good.tables;
        below = subst (ArePositionsBelow (length nodes)) (sym is)
            (parts_within nodes sound.holds (many nodes sound) k (asker_at fs those n m) 0 (parts_at k.tree n) those (fixed_below k.tree nodes k.of more of) defined
            (position_longer (length before) (length nodes) long.long (position_at those n) (good.below n)) (finding_longer (length before) (length nodes) (finding_at fs n) long.long (good.tables.found n))
            long.there (positions_longer (length before) (length nodes) long.long those good.below));
      }

  module _ (sound : AreSound start) (of : NumbersAreThere k.tree start k.of) (defined : AllBelow (length start) k.defined) (tables : AreTablesBelow (length start) (length k.tree.nodes) ys fs) where
    good_begun : (nodes : List Shape) (ps : List Position) → nodes ≡ start → ps ≡ at_start (length k.tree.nodes) → AreGood nodes ps
    good_begun nodes ps same begun =
        let good : AreGood start (at_start (length k.tree.nodes)) =
        record { sound = sound; of = of; defined = defined; tables = tables; below = start_within (length start) (many start sound) (length k.tree.nodes) } in
        subst (AreGood nodes) (sym begun) (subst (λ (xs : List Shape). AreGood xs (at_start (length k.tree.nodes))) (sym same) good)

    pub good : {count : ℕ} {nodes : List Shape} {ps : List Position} → ArePositionsFrom k ys fs start count nodes ps → length nodes ≤ MOST_MODES → AreGood nodes ps
    good {nodes = nodes} {ps = ps} (none_yet here same begun) few = good_begun nodes ps same begun
    good {nodes = nodes} {ps = ps} (one_more n m before those rest set is next) few =
        let l = (aside_keeps k before ys (aside_by k before n (position_at those n) (finding_at fs n) (kind_at k.tree n)) nodes m set).long in
        good_more n m before nodes those ps (good rest (omega arith)) few set is

    pub kept_node : {count : ℕ} {nodes : List Shape} {ps : List Position} → ArePositionsFrom k ys fs start count nodes ps → length nodes ≤ MOST_MODES → (mode : Mode) (node : ℕ) → mode.id < length start
        → IsNode start mode node → IsNode nodes mode node
    kept_node (none_yet here same begun) few mode node h was = subst (λ (xs : List Shape). IsNode xs mode node) (sym same) was
    kept_node {nodes = nodes} (one_more n m before those rest set is next) few mode node h was =
        let l = (aside_keeps k before ys (aside_by k before n (position_at those n) (finding_at fs n) (kind_at k.tree n)) nodes m set).long in
        let r = (run_longer rest).long in
        let g : AreGood before those = good rest (omega arith) in
        aside_node k before ys (aside_by k before n (position_at those n) (finding_at fs n) (kind_at k.tree n)) nodes m g.sound few
        (aside_within before g.sound.holds (many before g.sound) k n (position_at those n) (finding_at fs n) (kind_at k.tree n) (g.below n) (g.tables.found n))
        (aside_small k before n (position_at those n) (finding_at fs n) (kind_at k.tree n) g.sound.rows) set mode node (omega arith) (kept_node rest (omega arith) mode node h was)

    one_step : (n m next : ℕ) (before nodes others : List Shape) (those ps qs : List Position) → AreGood before those
        → IsSetAside k before ys (aside_by k before n (position_at those n) (finding_at fs n) (kind_at k.tree n)) nodes m
        → ps ≡ with_parts k nodes (asker_at fs those n m) 0 (parts_at k.tree n) those
        → IsSetAside k before ys (aside_by k before n (position_at those n) (finding_at fs n) (kind_at k.tree n)) others next
        → qs ≡ with_parts k others (asker_at fs those n next) 0 (parts_at k.tree n) those → (nodes ≡ others) × (ps ≡ qs)
    one_step n m next before nodes others those ps qs good p e q f =
        let below : IsAsideBelow (length before) (aside_by k before n (position_at those n) (finding_at fs n) (kind_at k.tree n)) =
        aside_within before good.sound.holds (many before good.sound) k n (position_at those n) (finding_at fs n) (kind_at k.tree n) (good.below n) (good.tables.found n) in
        let same : (nodes ≡ others) × (m ≡ next) =
        aside_one k ys before good.sound (aside_by k before n (position_at those n) (finding_at fs n) (kind_at k.tree n)) nodes others m next below p q in (
          same.0,
          e ∙ ap (λ (xs : List Shape). with_parts k xs (asker_at fs those n m) 0 (parts_at k.tree n) those) same.0
              ∙ ap (λ (x : ℕ). with_parts k others (asker_at fs those n x) 0 (parts_at k.tree n) those) same.1 ∙ sym f,
        )

    moved_on : (n j next : ℕ) (before other nodes : List Shape) (those these : List Position) → n ≡ j → before ≡ other → those ≡ these
        → IsSetAside k other ys (aside_by k other j (position_at these j) (finding_at fs j) (kind_at k.tree j)) nodes next
        → IsSetAside k before ys (aside_by k before n (position_at those n) (finding_at fs n) (kind_at k.tree n)) nodes next
    moved_on n j next before other nodes those these e f g set = rw (e, f, g) set

    moved_parts : (n j next : ℕ) (others : List Shape) (those these qs : List Position) → n ≡ j → those ≡ these → qs ≡ with_parts k others (asker_at fs these j next) 0 (parts_at k.tree j) these
        → qs ≡ with_parts k others (asker_at fs those n next) 0 (parts_at k.tree n) those
    moved_parts n j next others those these qs e f is = rw (e, f) is

    pub one_run : {count at : ℕ} {nodes others : List Shape} {ps qs : List Position} → ArePositionsFrom k ys fs start count nodes ps → ArePositionsFrom k ys fs start at others qs
        → count ≡ at → length nodes ≤ MOST_MODES → length others ≤ MOST_MODES → (nodes ≡ others) × (ps ≡ qs)
    one_run (none_yet here same begun) (none_yet there equal start_is) e few less = (same ∙ sym equal, begun ∙ sym start_is)
    one_run (none_yet here same begun) (one_more n m before those rest set is next) e few less = absurd (omega (arith, here, next, e))
    one_run (one_more n m before those rest set is next) (none_yet there equal start_is) e few less = absurd (omega (arith, there, next, e))
    one_run {nodes = nodes} {others = others} {ps = ps} {qs = qs} (one_more n m before those rest set is next) (one_more j x other these more put was after) e few less =
        let l = (aside_keeps k before ys (aside_by k before n (position_at those n) (finding_at fs n) (kind_at k.tree n)) nodes m set).long in
        let r = (aside_keeps k other ys (aside_by k other j (position_at these j) (finding_at fs j) (kind_at k.tree j)) others x put).long in
        let same_node : n ≡ j = omega (arith, next, after, e) in
        let same : (before ≡ other) × (those ≡ these) = one_run rest more same_node (omega arith) (omega arith) in
        one_step n m x before nodes others those ps qs (good rest (omega arith)) set is
        (moved_on n j x before other others those these same_node same.0 same.1 put) (moved_parts n j x others those these qs same_node same.1 was)
