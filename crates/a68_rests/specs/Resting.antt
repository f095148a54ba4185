-- Inner: the headline does not rest on this file.
-- Numbers that rest, some of which are held at cells.
use Rattle.std.specs.Prelude.{◌≡◌, ◌≤◌, ◌<◌, ◌⊎◌, ℕ, true, List}
use Rattle.std.specs.BTreeSet.{BTreeSet}
use Rattle.std.specs.List.{Contains}
use Rattle.a68_marks.specs.Marked.{is_marked}
use Rattle.a68_rests.specs.Waiting.{has}
use Rattle.a68_rests.specs.declared.waiters.Waiter.{Waiter}

-- the words of the set of those that are listed; those that are held at cells; the cells that are open
abbrev pub Resting : Type 0
Resting = List ℕ × (BTreeSet Waiter × List ℕ)

abbrev pub IsListed : Resting → ℕ → Type 0
IsListed r n = is_marked r.0 n ≡ true

abbrev pub IsHeld : Resting → (n cell : ℕ) → Type 0
IsHeld r n cell = has r.1.0 cell n ≡ true

abbrev pub IsOpen : Resting → (cell : ℕ) → Type 0
IsOpen r cell = Contains r.1.1 cell

-- the number rests: it is listed, and held at no cell that is open
pub record Rests (r : Resting) (n : ℕ) : Type 0 where
  pub listed : IsListed r n
  pub shut : (cell : ℕ) → IsOpen r cell → IsHeld r n cell → ⊥

-- those that are held stay so
abbrev pub StayHeld : (old new : Resting) → Type 0
StayHeld old new = (k cell : ℕ) → IsHeld old k cell → IsHeld new k cell

-- cells that are open stay so
abbrev pub StayOpen : (old new : Resting) → Type 0
StayOpen old new = (cell : ℕ) → IsOpen old cell → IsOpen new cell

-- no more are listed than were
abbrev pub AreFewer : (old new : Resting) → Type 0
AreFewer old new = (k : ℕ) → IsListed new k → IsListed old k

-- no more are listed than were, but for this one
pub record ListsToo (old : Resting) (n : ℕ) (new : Resting) : Type 0 where
  pub listed : (k : ℕ) → IsListed new k → IsListed old k ⊎ (k ≡ n)
  pub held : StayHeld old new
  pub open_ : StayOpen old new

-- the same, and this one is held at the cell
pub record HoldsToo (old : Resting) (n cell : ℕ) (new : Resting) : Type 0 where
  pub listed : (k : ℕ) → IsListed new k → IsListed old k ⊎ ((k ≡ n) × IsHeld new n cell)
  pub held : StayHeld old new
  pub open_ : StayOpen old new

-- this one is not listed, and no more are than were
pub record Unlists (old : Resting) (n : ℕ) (new : Resting) : Type 0 where
  pub roused : IsListed new n → ⊥
  pub fewer : AreFewer old new
  pub held : StayHeld old new
  pub open_ : StayOpen old new

-- the same, where others that are held stay so
pub record Leaves (old : Resting) (n : ℕ) (new : Resting) : Type 0 where
  pub roused : IsListed new n → ⊥
  pub fewer : AreFewer old new
  pub held : (k cell : ℕ) → (k ≡ n → ⊥) → IsHeld old k cell → IsHeld new k cell
  pub open_ : StayOpen old new

-- the cell is open, where one that is listed is held there
pub record Opens (old : Resting) (cell : ℕ) (new : Resting) : Type 0 where
  pub opened : (k : ℕ) → IsListed new k → IsHeld old k cell → IsOpen new cell
  pub fewer : AreFewer old new
  pub held : (k c : ℕ) → IsListed new k → IsHeld old k c → IsHeld new k c
  pub open_ : StayOpen old new

-- other cells that are open stay so
pub record Closes (old : Resting) (cell : ℕ) (new : Resting) : Type 0 where
  pub fewer : AreFewer old new
  pub held : StayHeld old new
  pub open_ : (c : ℕ) → IsOpen old c → (c ≡ cell) ⊎ IsOpen new c

-- from one number on up to another only those that rest are passed
pub record Passes (r : Resting) (from to n : ℕ) : Type 0 where
  pub from_on : from ≤ n
  pub within : n ≤ to
  pub passed : (k : ℕ) → from ≤ k → k < n → Rests r k
