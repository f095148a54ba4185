-- Inner: the headline does not rest on this file.
-- Numbers of a graph whose unfoldings end.
use Rattle.std.specs.Prelude.{◌≡◌, ◌≢◌, ◌<◌, ℕ, zero, suc, List, length, slice_index, Bool, Some, Vec}
use Rattle.std.specs.Global.{Global}
use Rattle.std.specs.List.{Contains}
use Rattle.a68_partition.specs.Rows.{row_at}
use Rattle.a68_partition.specs.Rounds.{at_key, IsRowKey}

-- it has a class
abbrev pub IsSettled : List ℕ → ℕ → Type 0
IsSettled classes v = slice_index classes v ≢ 4294967295

-- it has a class, or another one without a class stands in it
abbrev pub LeadsOn : List (Bool × List ℕ) → List ℕ → ℕ → Type 0
LeadsOn rows classes v = slice_index classes v ≡ 4294967295 → (w : ℕ) × Contains (row_at rows v).1 w × (slice_index classes w ≡ 4294967295)

-- the unfolding ends before this depth
abbrev pub UnfoldingEnds : List (Bool × List ℕ) → ℕ → ℕ → Type 0
UnfoldingEnds rows zero v = ⊥
UnfoldingEnds rows (suc depth) v = (w : ℕ) → Contains (row_at rows v).1 w → UnfoldingEnds rows depth w

-- unfoldings that have a class end, and one key has one class
pub record Ended (heads : List ℕ) (rows : List (Bool × List ℕ)) (table : List (Vec ℕ Global × ℕ)) (classes : List ℕ) : Type 0 where
  pub long : length classes ≡ length rows
  pub parts : (v : ℕ) → v < length rows → IsSettled classes v → (w : ℕ) → Contains (row_at rows v).1 w → IsSettled classes w
  pub depth : ℕ
  pub ends : (v : ℕ) → v < length rows → IsSettled classes v → UnfoldingEnds rows depth v
  pub known : (v : ℕ) → v < length rows → IsSettled classes v → (key : Vec ℕ Global) × IsRowKey classes (slice_index heads v) (row_at rows v).0 (row_at rows v).1 key.items × (at_key table key.items ≡ Some (slice_index classes v))
  pub found : (key : Vec ℕ Global) (f : ℕ) → at_key table key.items ≡ Some f → f ≢ 4294967295
