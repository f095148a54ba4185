-- What is among some modes is among more.
use Rattle.std.proofs.Common.{◌<◌, ◌≤◌, ℕ, List, None, Some, length, arith}
use Rattle.a68_definitions.proofs.Defining.{IsLonger, interned_long}
use Rattle.std.specs.Prelude.{slice_index_or}
use Rattle.a68_declare.specs.Outcome.{ByNode}
use Rattle.a68_identify.specs.Operators.{NumbersAreThere}
use Rattle.a68_modes.specs.declared.shape.Shape.{Shape}
use Rattle.a68_mode_table.proofs.Numbers.{numbers_keep}
use Rattle.a68_positions.specs.Aside.{IsSetAside, mode_or_void}
use Rattle.a68_positions.specs.Given.{finding_at, position_at}
use Rattle.a68_positions.specs.Below.{ArePositionsBelow, IsPositionBelow}
use Rattle.a68_positions.specs.declared.aside.Aside.{Aside}
use Rattle.a68_positions.specs.declared.aside.Aside.TheVariants as aside
use Rattle.a68_positions.specs.declared.position.Position.{Position}
use Rattle.a68_positions.specs.declared.position.Position.TheVariants as position
use Rattle.a68_tree.specs.Trees.{Built}
use Rattle.a68_yields.proofs.Alike.{found_there}
use Rattle.a68_yields.proofs.Tabling.{finding_longer, leaf_longer}
use Rattle.a68_yields.specs.Below.{AreTablesBelow, IsFindingBelow}
use Rattle.a68_yields.specs.Yields.{Known}
use Rattle.a68_yields.specs.declared.yielding.Finding.{Finding}
use Rattle.a68_yields.specs.declared.yielding.Finding.TheVariants as finding
use Rattle.a68_yields.specs.declared.yielding.Yielding.{Yielding}

module _ (n more : ℕ) (longer : n ≤ more) where
  pub tables_longer : (count : ℕ) (ys : List Yielding) (fs : List Finding) → AreTablesBelow n count ys fs → AreTablesBelow more count ys fs
  tables_longer count ys fs tables = record {
    long = tables.long;
    found_long = tables.found_long;
    ahead = tables.ahead;
    units = λ node l is. leaf_longer n more l longer (tables.units node l is);
    found = λ node. finding_longer n more (finding_at fs node) longer (tables.found node);
  }

  pub position_longer : (p : Position) → IsPositionBelow n p → IsPositionBelow more p
  position_longer (position.Goal m setter) h = omega arith
  position_longer (position.Asks s (Some m)) h = omega arith
  position_longer _ h = tt

  pub positions_longer : (ps : List Position) → ArePositionsBelow n ps → ArePositionsBelow more ps
  positions_longer ps all node = position_longer (position_at ps node) (all node)

pub there_longer : (tree : Built) (nodes more : List Shape) (of : ByNode) → length nodes ≤ length more → NumbersAreThere tree nodes of → NumbersAreThere tree more of
there_longer tree nodes more of longer there = record {
  long = there.long;
  fixed_long = there.fixed_long;
  there = λ k d h. let below : slice_index_or of.without_flex k d < length nodes = there.there k d h in omega arith;
}

row_there : (nodes : List Shape) (f : Finding) → 0 < length nodes → IsFindingBelow (length nodes) f → mode_or_void f < length nodes
row_there nodes (finding.Mode (Some m)) some below = below
row_there nodes (finding.Mode None) some below = some
row_there nodes (finding.Operator o) some below = some
row_there nodes finding.Nothing some below = some

-- a mode that is set aside is there, and no mode is lost
pub aside_longer : (k : Known) (nodes : List Shape) (ys : List Yielding) (a : Aside) (after : List Shape) (m : ℕ) → 15 ≤ length nodes → IsSetAside k nodes ys a after m → IsLonger nodes after m
aside_longer k nodes ys aside.Nothing after m some is = rw is.0 (record { long = omega arith; there = omega (arith, is.1) })
aside_longer k nodes ys (aside.WithoutFlex of) after m some is = rw is.0 (record { long = omega arith; there = is.1.there })
aside_longer k nodes ys (aside.Row dims flex of) after m some is =
    let first = interned_long _ _ _ _ is.fixed_is in
    let second = interned_long _ _ _ _ is.is in
    record { long = omega (arith, first.long, second.long); there = second.there }
aside_longer k nodes ys (aside.AnyRow part) after m some is = rw is.0 (record { long = omega arith; there = rw is.1.2 (row_there nodes is.1.0 (omega arith) (found_there k.tree nodes k.of ys part some tt is.1.1)) })
aside_longer k nodes ys aside.Number after m some is = let keeps = numbers_keep nodes after m is in record { long = keeps.longer; there = keeps.there }
