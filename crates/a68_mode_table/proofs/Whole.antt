-- Modes of which each thing is known are sound.
use Rattle.std.proofs.Common.{ℕ, List, get_or}
use Rattle.a68_declare.specs.Clean.{AreClean, AreFixed, CleanMembersHaveNoFlex}
use Rattle.a68_equiv.specs.Dimensions.{HaveDimensions}
use Rattle.a68_equiv.specs.Ways.{AreWellFormed}
use Rattle.a68_mode_table.specs.Growing.{AreSound}
use Rattle.a68_modes.specs.declared.shape.Shape.{Shape}

pub all_sound : (nodes : List Shape) (fixed : List ℕ) → AreClean nodes → AreWellFormed nodes → HaveDimensions nodes → CleanMembersHaveNoFlex nodes → AreFixed nodes fixed → AreSound nodes
all_sound nodes fixed clean formed rows members are = record {
  holds = clean.holds;
  clean = clean;
  formed = formed;
  rows = rows;
  members = members;
  fixed = λ m h. (get_or fixed m 0, are.each m h);
}
