-- Inner: the headline does not rest on this file.
-- What a walk through a graph has reached.
use Rattle.std.specs.Prelude.{◌≡◌, ◌≤◌, ◌+◌, ◌*◌, ◌⊎◌, ◌↔◌, ℕ, suc, List, [], ◌∷◌, Bool, true, false, length, slice_index_or}
use Rattle.std.specs.List.{Contains}
use Rattle.a68_equiv.specs.Ways.{Way}

-- the nodes to which a way leads from the root are marked, and no others
pub record AreReached (graph : List (List ℕ)) (root : ℕ) (seen : List Bool) : Type 0 where
  pub long : length seen ≡ length graph
  pub exact : (b : ℕ) → (slice_index_or seen b false ≡ true) ↔ Way graph root b

-- how many are not marked
abbrev pub unmarked : List Bool → ℕ
unmarked [] = 0
unmarked (true ∷ bs) = unmarked bs
unmarked (false ∷ bs) = suc (unmarked bs)

-- the nodes are marked, and what was not marked before is noted
pub record Visited (nodes : List ℕ) (seen : List Bool) (todo : List ℕ) (marked : List Bool) (noted : List ℕ) : Type 0 where
  pub long : length marked ≡ length seen
  pub kept : (x : ℕ) → slice_index_or seen x false ≡ true → slice_index_or marked x false ≡ true
  pub all : (x : ℕ) → Contains nodes x → slice_index_or marked x false ≡ true
  pub only : (x : ℕ) → slice_index_or marked x false ≡ true → (slice_index_or seen x false ≡ true) ⊎ Contains nodes x
  pub onward : (x : ℕ) → Contains todo x → Contains noted x
  pub fresh : (x : ℕ) → slice_index_or marked x false ≡ true → (slice_index_or seen x false ≡ true) ⊎ Contains noted x
  pub from : (x : ℕ) → Contains noted x → Contains todo x ⊎ Contains nodes x
  pub less : 2 * unmarked marked + length noted ≤ 2 * unmarked seen + length todo
