-- Inner: the headline does not rest on this file.
-- Goals that are to do something with what was read.
use Rattle.std.specs.Prelude.{Bool, true, false}
use Rattle.a68_unit_productions.specs.declared.goal.Goal.{Goal}
use Rattle.a68_unit_productions.specs.declared.goal.Goal.TheVariants as g

abbrev pub is_acting : Goal → Bool
is_acting g.Begin = true
is_acting g.Leave = true
is_acting (g.Wrap j) = true
is_acting g.Relate = true
is_acting g.WrapLong = true
is_acting g.Leap = true
is_acting (g.Close j) = true
is_acting (g.SetAside j) = true
is_acting g.Share = true
is_acting g.Forget = true
is_acting g.Join = true
is_acting goal = false
