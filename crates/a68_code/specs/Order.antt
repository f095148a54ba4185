-- Inner: the headline does not rest on this file.
-- Instructions go forward, but for the end of a loop and jumps to labels.
use Rattle.std.specs.Prelude.{◌≡◌, ◌<◌, ◌+◌, ⊤, ℕ, List, Some, IsTrue, nat_lt}
use Rattle.std.specs.List.{list_all}
use Rattle.a68_code.specs.Flow.{does_at}
use Rattle.a68_code.specs.declared.code.Instr.{Instr}
use Rattle.a68_code.specs.declared.does.Does.{Does}
use Rattle.a68_code.specs.declared.does.Does.TheVariants.{Jump, Unless, Case, Member, Step, Turn, Advance}

-- An Advance at this place goes back to the Step of its loop: a Turn stands behind that Step, and the Step itself goes
-- to a place behind the Advance.
pub record EndsLoop (list : List Instr) (at to : ℕ) : Type 0 where
  pub back : to < at
  pub behind : ℕ
  pub step : does_at list to ≡ Some (Step behind)
  pub turn : does_at list (to + 1) ≡ Some Turn
  pub leaves_loop : at < behind

-- the instruction at this place goes forward, ends a loop, or is a jump to a label, which may go anywhere
abbrev pub IsInOrder : List Instr → ℕ → Does → Type 0
IsInOrder list at (Jump to) = at < to
IsInOrder list at (Unless to) = at < to
IsInOrder list at (Case places) = IsTrue (list_all (λ to. nat_lt at to) places)
IsInOrder list at (Member mode places whole) = IsTrue (list_all (λ to. nat_lt at to) places)
IsInOrder list at (Step to) = at < to
IsInOrder list at (Advance to) = EndsLoop list at to
IsInOrder list at _ = ⊤
