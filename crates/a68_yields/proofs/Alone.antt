-- What the nodes of a tree yield is one, and what is found at them, and the modes that join the others.
use Rattle.std.proofs.Common.{◌≡◌, ◌<◌, ◌≤◌, ◌^◌, ◌∙◌, ℕ, zero, suc, List, Bool as Truth, true, false, length, refl, sym, ap, arith, subst}
use Rattle.std.specs.Prelude.{◌&&◌, not, slice_set}
use Rattle.a68_base.specs.declared.limits.TheConstants.{MOST_MODES}
use Rattle.a68_coerce.specs.declared.leaf.Leaf.TheVariants as leaf
use Rattle.a68_declare.proofs.Standing.{fifteen}
use Rattle.a68_definitions.proofs.Alone.{AreLonger, KeepNodes, keeps_on, longer_on, same_keeps, same_longer}
use Rattle.a68_definitions.proofs.Defining.{all_longer}
use Rattle.a68_definitions.specs.Defined.{AllBelow}
use Rattle.a68_definitions.specs.Tags.{called_by}
use Rattle.a68_mode_table.proofs.Once.{name_keeps_node, name_sound, row_keeps, row_keeps_node, row_sound, rows_one, shape_keeps, shapes_one}
use Rattle.a68_mode_table.specs.Growing.{AreSound}
use Rattle.a68_modes.specs.declared.shape.Shape.{Shape}
use Rattle.a68_modes.specs.declared.shape.Shape.TheVariants.{Ref}
use Rattle.a68_ranges.specs.Nodes.{kind_at, parts_at}
use Rattle.a68_tree.specs.Trees.{AllBetween}
use Rattle.a68_yields.proofs.Alike.{found_one, found_there}
use Rattle.a68_yields.proofs.Dimensions.{IsPartTold, part_told}
use Rattle.a68_yields.proofs.Looking.{sought_below}
use Rattle.a68_yields.proofs.Tabling.{tables_begun, tables_more}
use Rattle.a68_yields.proofs.Telling.{told_below}
use Rattle.a68_yields.specs.Below.{AreTablesBelow, IsFindingBelow, IsSoughtBelow, IsToldBelow, IsYieldingBelow}
use Rattle.a68_yields.specs.Found.{IsFound}
use Rattle.a68_yields.specs.Parts.{IsNamedPart, IsModeOfPart, IsRowPart}
use Rattle.a68_yields.specs.Sought.{sought_at}
use Rattle.a68_yields.specs.Yields.{AreYieldsFrom, IsToldYield, Known, none_yet, one_more, told}
use Rattle.a68_yields.specs.declared.parts.Part.{Part}
use Rattle.a68_yields.specs.declared.told.Told.{Told}
use Rattle.a68_yields.specs.declared.told.Told.TheVariants as tell
use Rattle.a68_yields.specs.declared.yielding.Finding.{Finding}
use Rattle.a68_yields.specs.declared.yielding.Yielding.{Yielding}
use Rattle.a68_yields.specs.declared.yielding.Yielding.TheVariants as yields

-- ---- a part

row_longer : (nodes after : List Shape) (dims : ℕ) (flex : Truth) (of m : ℕ) → IsRowPart nodes dims flex of after m → AreLonger nodes after
row_longer nodes after zero flex of m p = same_longer nodes after p.0
row_longer nodes after (suc dims) flex of m p = let k = row_keeps nodes after (suc dims) flex of m p in record { long = k.longer; kept = k.kept }

named_longer : (nodes after : List Shape) (named : Truth) (of m : ℕ) → IsNamedPart named nodes of after m → AreLonger nodes after
named_longer nodes after false of m p = same_longer nodes after p.0
named_longer nodes after true of m p = let k = shape_keeps nodes after (Ref of) m p in record { long = k.longer; kept = k.kept }

part_longer : (nodes after : List Shape) (part : Part) (m : ℕ) → IsModeOfPart nodes part after m → AreLonger nodes after
part_longer nodes after part m p =
    longer_on nodes p.between after (row_longer nodes p.between part.dims (part.flex && not part.named) part.of p.row p.row_is) (named_longer p.between after part.named p.row m p.is)

row_there : (nodes after : List Shape) (dims : ℕ) (flex : Truth) (of m : ℕ) → of < length nodes → IsRowPart nodes dims flex of after m → m < length after
row_there nodes after zero flex of m h p = rw (p.0, p.1) h
row_there nodes after (suc dims) flex of m h p = (row_keeps nodes after (suc dims) flex of m p).there

row_part_one : (nodes after other : List Shape) (dims : ℕ) (flex : Truth) (of m next : ℕ) → AreSound nodes → of < length nodes → IsRowPart nodes dims flex of after m
    → IsRowPart nodes dims flex of other next → (after ≡ other) × (m ≡ next)
row_part_one nodes after other zero flex of m next sound h p q = (p.0 ∙ sym q.0, p.1 ∙ sym q.1)
row_part_one nodes after other (suc dims) flex of m next sound h p q = rows_one nodes after other (suc dims) flex of m next sound h p q

row_part_sound : (nodes after : List Shape) (dims : ℕ) (flex : Truth) (of m : ℕ) → AreSound nodes → length after ≤ MOST_MODES → dims < 2 ^ 32 → of < length nodes
    → IsRowPart nodes dims flex of after m → AreSound after
row_part_sound nodes after zero flex of m sound few small h p = subst AreSound (sym p.0) sound
row_part_sound nodes after (suc dims) flex of m sound few small h p = row_sound nodes after (suc dims) flex of m sound few (omega arith) small h p

named_one : (nodes after other : List Shape) (named : Truth) (of m next : ℕ) → AreSound nodes → IsNamedPart named nodes of after m → IsNamedPart named nodes of other next
    → (after ≡ other) × (m ≡ next)
named_one nodes after other false of m next sound p q = (p.0 ∙ sym q.0, p.1 ∙ sym q.1)
named_one nodes after other true of m next sound p q = shapes_one nodes after other (Ref of) m next sound p q

named_sound : (nodes after : List Shape) (named : Truth) (of m : ℕ) → AreSound nodes → length after ≤ MOST_MODES → of < length nodes → IsNamedPart named nodes of after m → AreSound after
named_sound nodes after false of m sound few h p = subst AreSound (sym p.0) sound
named_sound nodes after true of m sound few h p = name_sound nodes after of m sound few h p

module _ (nodes : List Shape) (sound : AreSound nodes) (part : Part) (there : part.of < length nodes) (small : part.dims < 2 ^ 32) where
  between_sound : (after : List Shape) (m : ℕ) → length after ≤ MOST_MODES → (p : IsModeOfPart nodes part after m) → AreSound p.between
  between_sound after m few p =
      let l = (named_longer p.between after part.named p.row m p.is).long in
      row_part_sound nodes p.between part.dims (part.flex && not part.named) part.of p.row sound (omega arith) small there p.row_is

  part_sound : (after : List Shape) (m : ℕ) → length after ≤ MOST_MODES → IsModeOfPart nodes part after m → AreSound after
  part_sound after m few p =
      named_sound p.between after part.named p.row m (between_sound after m few p) few (row_there nodes p.between part.dims (part.flex && not part.named) part.of p.row there p.row_is) p.is

  part_one : (after other : List Shape) (m next : ℕ) → length after ≤ MOST_MODES → IsModeOfPart nodes part after m → IsModeOfPart nodes part other next → (after ≡ other) × (m ≡ next)
  part_one after other m next few p q =
      let same = row_part_one nodes q.between p.between part.dims (part.flex && not part.named) part.of q.row p.row sound there q.row_is p.row_is in
      named_one p.between after other part.named p.row m next (between_sound after m few p) p.is
      (subst (λ xs. IsNamedPart part.named xs p.row other next) same.0 (subst (λ i. IsNamedPart part.named q.between i other next) same.1 q.is))

-- ---- a yield

yield_longer : (nodes after : List Shape) (t : Told) (y : Yielding) → IsToldYield nodes t after y → AreLonger nodes after
yield_longer nodes after (tell.Yields x) y p = same_longer nodes after p.0
yield_longer nodes after (tell.PartOf part) y p = part_longer nodes after part p.0 p.1

yield_sound : (nodes after : List Shape) (t : Told) (y : Yielding) → AreSound nodes → length after ≤ MOST_MODES → IsPartTold (length nodes) t → IsToldYield nodes t after y → AreSound after
yield_sound nodes after (tell.Yields x) y sound few there p = subst AreSound (sym p.0) sound
yield_sound nodes after (tell.PartOf part) y sound few there p = part_sound nodes sound part there.0 there.1 after p.0 few p.1

yield_one : (nodes after other : List Shape) (t : Told) (y z : Yielding) → AreSound nodes → length after ≤ MOST_MODES → IsPartTold (length nodes) t → IsToldYield nodes t after y
    → IsToldYield nodes t other z → (after ≡ other) × (y ≡ z)
yield_one nodes after other (tell.Yields x) y z sound few there p q = (p.0 ∙ sym q.0, p.1 ∙ sym q.1)
yield_one nodes after other (tell.PartOf part) y z sound few there p q =
    let same = part_one nodes sound part there.0 there.1 after other p.0 q.0 few p.1 q.1 in
    (same.0, p.2 ∙ ap (λ m. yields.Unit (leaf.Mode m)) same.1 ∙ sym q.2)

-- ---- all nodes, from the last to the first

module _ (k : Known) (start : List Shape) where
  pub yields_longer : {from : ℕ} {nodes : List Shape} {ys : List Yielding} {fs : List Finding} → AreYieldsFrom k start from nodes ys fs → AreLonger start nodes
  yields_longer {nodes = nodes} (none_yet here same none nothing) = same_longer start nodes same
  yields_longer {from = from} {nodes = nodes} (one_more before those others found y rest is yield e f) =
      longer_on start before nodes (yields_longer rest) (yield_longer before nodes (told k before those from found (kind_at k.tree from)) y yield)

  within : {from : ℕ} {nodes : List Shape} {ys : List Yielding} {fs : List Finding} → AreYieldsFrom k start from nodes ys fs → from ≤ length k.tree.nodes
  within (none_yet here same none nothing) = omega arith
  within (one_more before those others found y rest is yield e f) = let h = within rest in omega arith

  module _ (sound : AreSound start) where
    told_there : (n : ℕ) (before : List Shape) (those : List Yielding) (found : Finding) → AreSound before → IsFound k.tree before k.of those n (sought_at k.tree k.tags n) found
        → IsPartTold (length before) (told k before those n found (kind_at k.tree n))
    told_there n before those found good is =
        let many : 15 ≤ length before = fifteen before good.holds in
        let some : 2 < length before = omega arith in
        let below : IsSoughtBelow (length before) (sought_at k.tree k.tags n) = sought_below (length before) some k.tree (called_by k.tree k.tags n) (kind_at k.tree n) (parts_at k.tree n) in
        part_told before good.rows good.holds many k those n found (kind_at k.tree n) (found_there k.tree before k.of those n many below is)

    pub yields_sound : {from : ℕ} {nodes : List Shape} {ys : List Yielding} {fs : List Finding} → AreYieldsFrom k start from nodes ys fs → length nodes ≤ MOST_MODES → AreSound nodes
    yields_sound {nodes = nodes} (none_yet here same none nothing) few = subst AreSound (sym same) sound
    yields_sound {from = from} {nodes = nodes} (one_more before those others found y rest is yield e f) few =
        let l = (yield_longer before nodes (told k before those from found (kind_at k.tree from)) y yield).long in
        let good = yields_sound rest (omega arith) in
        yield_sound before nodes (told k before those from found (kind_at k.tree from)) y good few (told_there from before those found good is) yield

    pub record AreSame (nodes others : List Shape) (ys zs : List Yielding) (fs gs : List Finding) : Type 0 where
      pub modes : nodes ≡ others
      pub yields_are : ys ≡ zs
      pub findings : fs ≡ gs

    -- one node more, behind the same
    one_step : (n : ℕ) (before nodes others : List Shape) (those : List Yielding) (found next : Finding) (y z : Yielding) (noted : List Finding) (ys zs : List Yielding) (fs gs : List Finding)
        → AreSound before → length nodes ≤ MOST_MODES
        → IsFound k.tree before k.of those n (sought_at k.tree k.tags n) found → IsToldYield before (told k before those n found (kind_at k.tree n)) nodes y → ys ≡ slice_set those n y → fs ≡ slice_set noted n found
        → IsFound k.tree before k.of those n (sought_at k.tree k.tags n) next → IsToldYield before (told k before those n next (kind_at k.tree n)) others z → zs ≡ slice_set those n z → gs ≡ slice_set noted n next
        → AreSame nodes others ys zs fs gs
    one_step n before nodes others those found next y z noted ys zs fs gs good few is yield e f at given g h =
        let same : next ≡ found = found_one before good k.tree k.of n those at is refl in
        let one = yield_one before nodes others (told k before those n found (kind_at k.tree n)) y z good few (told_there n before those found good is) yield
        (subst (λ x. IsToldYield before (told k before those n x (kind_at k.tree n)) others z) same given) in
        record { modes = one.0; yields_are = e ∙ ap (λ x. slice_set those n x) one.1 ∙ sym g; findings = f ∙ ap (λ x. slice_set noted n x) (sym same) ∙ sym h }

    moved_on : (n at : ℕ) (before other nodes : List Shape) (those ones : List Yielding) (noted marked gs : List Finding) (next : Finding) (z : Yielding) (zs : List Yielding) → n ≡ at
        → AreSame before other those ones noted marked
        → IsFound k.tree other k.of ones at (sought_at k.tree k.tags at) next → IsToldYield other (told k other ones at next (kind_at k.tree at)) nodes z → zs ≡ slice_set ones at z → gs ≡ slice_set marked at next
        → IsFound k.tree before k.of those n (sought_at k.tree k.tags n) next × IsToldYield before (told k before those n next (kind_at k.tree n)) nodes z × (zs ≡ slice_set those n z) × (gs ≡ slice_set noted n next)
    moved_on n at before other nodes those ones noted marked gs next z zs e same is yield f g = rw (e, same.modes, same.yields_are, same.findings) (is, yield, f, g)

    pub one_run : {from at : ℕ} {nodes others : List Shape} {ys zs : List Yielding} {fs gs : List Finding} → AreYieldsFrom k start from nodes ys fs → AreYieldsFrom k start at others zs gs
        → from ≡ at → length nodes ≤ MOST_MODES → length others ≤ MOST_MODES → AreSame nodes others ys zs fs gs
    one_run (none_yet here same none nothing) (none_yet there equal never null) e few less =
        record { modes = same ∙ sym equal; yields_are = none ∙ sym never; findings = nothing ∙ sym null }
    one_run (none_yet here same none nothing) (one_more before those noted found y rest is yield f g) e few less = let h = within rest in absurd (omega arith)
    one_run (one_more before those noted found y rest is yield f g) (none_yet there equal never null) e few less = let h = within rest in absurd (omega arith)
    one_run {from = from} {at = at} {nodes = nodes} {others = others} {ys = ys} {zs = zs} {fs = fs} {gs = gs}
        (one_more before those noted found y rest is yield f g) (one_more other ones marked next z more was given i j) e few less =
        let l = (yield_longer before nodes (told k before those from found (kind_at k.tree from)) y yield).long in
        let m = (yield_longer other others (told k other ones at next (kind_at k.tree at)) z given).long in
        let same = one_run rest more (ap suc e) (omega arith) (omega arith) in
        let moved = moved_on from at before other others those ones noted marked gs next z zs e same was given i j in
        one_step from before nodes others those found next y z noted ys zs fs gs (yields_sound rest (omega arith)) few is yield f g moved.0 moved.1 moved.2 moved.3

-- ---- what is known of these tables

named_there : (nodes after : List Shape) (named : Truth) (of m : ℕ) → of < length nodes → IsNamedPart named nodes of after m → m < length after
named_there nodes after false of m h p = rw (p.0, p.1) h
named_there nodes after true of m h p = (shape_keeps nodes after (Ref of) m p).there

part_there : (nodes after : List Shape) (part : Part) (m : ℕ) → part.of < length nodes → IsModeOfPart nodes part after m → m < length after
part_there nodes after part m h p =
    named_there p.between after part.named p.row m (row_there nodes p.between part.dims (part.flex && not part.named) part.of p.row h p.row_is) p.is

yield_below : (nodes after : List Shape) (count n : ℕ) (t : Told) (y : Yielding) → IsToldBelow (length nodes) count n t → IsToldYield nodes t after y → IsYieldingBelow (length after) count n y
yield_below nodes after count n (tell.Yields x) y below p = rw (p.0, p.1) below
yield_below nodes after count n (tell.PartOf part) y below p = rw p.2 (part_there nodes after part p.0 below p.1)

module _ (k : Known) (start : List Shape) (sound : AreSound start) (defined : AllBelow (length start) k.defined)
    (behind : (n : ℕ) → AllBetween n (length k.tree.nodes) (parts_at k.tree n)) where
  pub tables_below : {from : ℕ} {nodes : List Shape} {ys : List Yielding} {fs : List Finding} → AreYieldsFrom k start from nodes ys fs → length nodes ≤ MOST_MODES
      → AreTablesBelow (length nodes) (length k.tree.nodes) ys fs
  tables_below {nodes = nodes} {ys = ys} {fs = fs} (none_yet here same none nothing) few = tables_begun (length nodes) (length k.tree.nodes) ys fs none nothing
  tables_below {from = from} {nodes = nodes} (one_more before those others found y rest is yield e f) few =
      let l = (yield_longer before nodes (told k before those from found (kind_at k.tree from)) y yield).long in
      let g = (yields_longer k start rest).long in
      let good = yields_sound k start sound rest (omega arith) in
      let many : 15 ≤ length before = fifteen before good.holds in
      let some : 2 < length before = omega arith in
      let below : IsSoughtBelow (length before) (sought_at k.tree k.tags from) = sought_below (length before) some k.tree (called_by k.tree k.tags from) (kind_at k.tree from) (parts_at k.tree from) in
      let there : IsFindingBelow (length before) found = found_there k.tree before k.of those from many below is in
      let at = told_below before good.holds many (length k.tree.nodes) from k those found (kind_at k.tree from) (all_longer (length start) (length before) k.defined g defined) there (behind from) in
      rw (e, f) (tables_more (length before) (length nodes) (length k.tree.nodes) from those others y found l (tables_below rest (omega arith))
      (yield_below before nodes (length k.tree.nodes) from (told k before those from found (kind_at k.tree from)) y at yield) there)

-- ---- nodes of old modes

row_part_keeps : (nodes after : List Shape) (dims : ℕ) (flex : Truth) (of m : ℕ) → AreSound nodes → length after ≤ MOST_MODES → dims < 2 ^ 32 → of < length nodes
    → IsRowPart nodes dims flex of after m → KeepNodes nodes after
row_part_keeps nodes after zero flex of m sound few small h p = same_keeps nodes after p.0
row_part_keeps nodes after (suc dims) flex of m sound few small h p = row_keeps_node nodes after (suc dims) flex of m sound few (omega arith) small h p

named_keeps : (nodes after : List Shape) (named : Truth) (of m : ℕ) → AreSound nodes → of < length nodes → IsNamedPart named nodes of after m → KeepNodes nodes after
named_keeps nodes after false of m sound h p = same_keeps nodes after p.0
named_keeps nodes after true of m sound h p = name_keeps_node nodes after of m sound h p

part_keeps : (nodes after : List Shape) (part : Part) (m : ℕ) → AreSound nodes → length after ≤ MOST_MODES → part.of < length nodes → part.dims < 2 ^ 32 → IsModeOfPart nodes part after m
    → KeepNodes nodes after
part_keeps nodes after part m sound few there small p =
    let l = (named_longer p.between after part.named p.row m p.is).long in
    keeps_on nodes p.between after (row_longer nodes p.between part.dims (part.flex && not part.named) part.of p.row p.row_is).long
    (row_part_keeps nodes p.between part.dims (part.flex && not part.named) part.of p.row sound (omega arith) small there p.row_is)
    (named_keeps p.between after part.named p.row m (between_sound nodes sound part there small after m few p)
    (row_there nodes p.between part.dims (part.flex && not part.named) part.of p.row there p.row_is) p.is)

yield_keeps : (nodes after : List Shape) (t : Told) (y : Yielding) → AreSound nodes → length after ≤ MOST_MODES → IsPartTold (length nodes) t → IsToldYield nodes t after y → KeepNodes nodes after
yield_keeps nodes after (tell.Yields x) y sound few there p = same_keeps nodes after p.0
yield_keeps nodes after (tell.PartOf part) y sound few there p = part_keeps nodes after part p.0 sound few there.0 there.1 p.1

module _ (k : Known) (start : List Shape) (sound : AreSound start) where
  pub yields_keep : {from : ℕ} {nodes : List Shape} {ys : List Yielding} {fs : List Finding} → AreYieldsFrom k start from nodes ys fs → length nodes ≤ MOST_MODES → KeepNodes start nodes
  yields_keep {nodes = nodes} (none_yet here same none nothing) few = same_keeps start nodes same
  yields_keep {from = from} {nodes = nodes} (one_more before those others found y rest is yield e f) few =
      let l = (yield_longer before nodes (told k before those from found (kind_at k.tree from)) y yield).long in
      let good = yields_sound k start sound rest (omega arith) in
      keeps_on start before nodes (yields_longer k start rest).long (yields_keep rest (omega arith))
      (yield_keeps before nodes (told k before those from found (kind_at k.tree from)) y good few (told_there k start sound from before those found good is) yield)
