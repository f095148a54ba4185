-- Inner: the headline does not rest on this file.
-- The fields of a table of modes (own).
use Rattle.std.specs.Prelude.{ℕ, List}
use Rattle.a68_declare.specs.Clean.{AreFixed}
use Rattle.a68_equiv.specs.Classes.{AreKept, Classified}
use Rattle.a68_mode_table.specs.Growing.{AreSound}
use Rattle.a68_modes.specs.declared.shape.Shape.{Shape}

-- the modes are sound, and their classes and the node of each without its FLEX are kept
pub record IsTable (modes : List Shape) (classes : Classified) (fixed : List ℕ) : Type 0 where
  pub sound : AreSound modes
  pub kept : AreKept modes classes
  pub fixed_are : AreFixed modes fixed
