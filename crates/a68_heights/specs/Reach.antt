-- Inner: the headline does not rest on this file.
-- Heights that no way passes, and numbers that do not grow along the ways.
use Rattle.std.specs.Prelude.{◌≡◌, ◌<◌, ◌+◌, ℕ, Bool, List, Some, IsTrue, length, nat_le, slice_index_or}
use Rattle.std.specs.List.{list_all}
use Rattle.a68_code.specs.Flow.{does_at, takes}
use Rattle.a68_code.specs.Walk.{ways}
use Rattle.a68_code.specs.declared.code.Code.{Code}
use Rattle.a68_code.specs.declared.does.Does.{Does}

-- whether a way comes to its place with no more than is told of that; where nothing is, that is 0
abbrev pub is_low : (heights : List ℕ) → ℕ × ℕ → Bool
is_low heights way = nat_le way.1 (slice_index_or heights way.0 0)

-- the ways behind the instruction at this place come so, where it finds what is told of its own place
abbrev pub IsSettledAt : Code → (heights : List ℕ) → (at : ℕ) → Type 0
IsSettledAt code heights at =
    (does : Does) → does_at code.list at ≡ Some does → (below : ℕ) × (below + takes does ≡ slice_index_or heights at 0) × IsTrue (list_all (is_low heights) (ways code.modes at does below))

abbrev pub AreSettled : Code → (heights : List ℕ) → Type 0
AreSettled code heights = (at : ℕ) → at < length code.list → IsSettledAt code heights at

-- whether the number of the place to which a way comes is no more than this
abbrev pub falls_to : (most : ℕ → ℕ) → (number : ℕ) → ℕ × ℕ → Bool
falls_to most number way = nat_le (most way.0) number

-- what is told of this place is less than its number, and those of the places to which the ways behind its instruction come are no more
pub record IsFallingAt (code : Code) (heights : List ℕ) (most : ℕ → ℕ) (at : ℕ) : Type 0 where
  pub above : slice_index_or heights at 0 < most at
  pub falls : (does : Does) → does_at code.list at ≡ Some does → (below : ℕ) × (below + takes does ≡ slice_index_or heights at 0)
      × IsTrue (list_all (falls_to most (most at)) (ways code.modes at does below))

abbrev pub AreFalling : Code → (heights : List ℕ) → (most : ℕ → ℕ) → Type 0
AreFalling code heights most = (at : ℕ) → at < length code.list → IsFallingAt code heights most at
