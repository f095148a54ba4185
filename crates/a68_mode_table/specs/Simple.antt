-- Inner: the headline does not rest on this file.
-- Shapes that can be read as they stand.
use Rattle.a68_modes.specs.declared.shape.Shape.{Shape}
use Rattle.a68_modes.specs.declared.shape.Shape.TheVariants.{Union, Same, Blank}

-- neither a union nor a mode word, and not blank
abbrev pub IsSimple : Shape → Type 0
IsSimple (Union members) = ⊥
IsSimple (Same m) = ⊥
IsSimple Blank = ⊥
IsSimple shape = Unit {0}
