-- Modes that are found and yielded are among those that are there.
use Rattle.std.specs.Prelude.{◌≡◌, ◌<◌, ◌++◌, ℕ, List, Bool, true, false, length, slice_index_or, Some}
use Rattle.a68_coerce.specs.Below.{IsLeafBelow}
use Rattle.a68_coerce.specs.declared.leaf.Leaf.{Leaf}
use Rattle.a68_identify.specs.declared.identified.Identified.{Identified}
use Rattle.a68_identify.specs.declared.identified.Identified.TheVariants.{Declared, Standard}
use Rattle.a68_tree.specs.Trees.{Built}
use Rattle.a68_yields.specs.Leaves.{AllHaveLeaves, HasLeaves, HasNoLeaves, yield_at}
use Rattle.a68_yields.specs.declared.sought.Sought.{Sought}
use Rattle.a68_yields.specs.declared.sought.Sought.TheVariants as sought
use Rattle.a68_yields.specs.declared.sought.Expectation.{Expectation}
use Rattle.a68_yields.specs.declared.sought.Expectation.TheVariants as want
use Rattle.a68_yields.specs.declared.told.Told.{Told}
use Rattle.a68_yields.specs.declared.told.Told.TheVariants as tell
use Rattle.a68_yields.specs.declared.yielding.Finding.{Finding}
use Rattle.a68_yields.specs.declared.yielding.Finding.TheVariants as finding
use Rattle.a68_yields.specs.declared.yielding.Yielding.{Yielding}
use Rattle.a68_yields.specs.declared.yielding.Yielding.TheVariants as yields

-- the mode that an operator of the standard environ yields is among the first n
abbrev pub IsOperatorBelow : ℕ → Identified → Type 0
IsOperatorBelow n (Standard o) = (o.left < n) × (o.right < n) × (o.result < n)
IsOperatorBelow n (Declared d) = Unit {0}

-- the mode that is found is among the first n
abbrev pub IsFindingBelow : ℕ → Finding → Type 0
IsFindingBelow n (finding.Mode (Some m)) = m < n
IsFindingBelow n (finding.Operator (Some found)) = IsOperatorBelow n found
IsFindingBelow n found = Unit {0}

-- the mode of a unit is among the first n, and a part that is handed on stands behind its node
abbrev pub IsYieldingBelow : (n nodes node : ℕ) → Yielding → Type 0
IsYieldingBelow n nodes node (yields.Unit l) = IsLeafBelow n l
IsYieldingBelow n nodes node (yields.Part p) = (node < p) × (p < nodes)
IsYieldingBelow n nodes node y = Unit {0}

-- the modes of units are among the first n
abbrev pub AreUnitsBelow : ℕ → List Yielding → Type 0
AreUnitsBelow n ys = (node : ℕ) (l : Leaf) → yield_at ys node ≡ yields.Unit l → IsLeafBelow n l

-- a part that is handed on stands behind its node
abbrev pub AreAhead : (nodes : ℕ) → List Yielding → Type 0
AreAhead nodes ys = (node p : ℕ) → yield_at ys node ≡ yields.Part p → (node < p) × (p < nodes)

-- the leaves of a node are added to those that were there; or it has none
abbrev pub IsCollected : Built → List Yielding → (n : ℕ) → (old new : List Leaf) → (known : Bool) → Type 0
IsCollected tree ys n old new true = (leaves : List Leaf) × HasLeaves tree ys n leaves × (new ≡ old ++ leaves)
IsCollected tree ys n old new false = HasNoLeaves tree ys n

-- the same of all these
abbrev pub AreCollected : Built → List Yielding → List ℕ → (old new : List Leaf) → (known : Bool) → Type 0
AreCollected tree ys ns old new true = (leaves : List Leaf) × AllHaveLeaves tree ys ns leaves × (new ≡ old ++ leaves)
AreCollected tree ys ns old new false = (leaves : List Leaf) → AllHaveLeaves tree ys ns leaves → ⊥

-- what is looked for is among the first n modes
abbrev pub IsExpectationBelow : ℕ → Expectation → Type 0
IsExpectationBelow n (want.Mode m) = m < n
IsExpectationBelow n (want.ModeForm f) = Unit {0}

abbrev pub IsSoughtBelow : ℕ → Sought → Type 0
IsSoughtBelow n (sought.Part by w p) = IsExpectationBelow n w
IsSoughtBelow n s = Unit {0}

-- so it is with what is told
abbrev pub IsToldBelow : (n nodes node : ℕ) → Told → Type 0
IsToldBelow n nodes node (tell.Yields y) = IsYieldingBelow n nodes node y
IsToldBelow n nodes node (tell.PartOf part) = part.of < n

-- the tables of yields and findings so far
pub record AreTablesBelow (n nodes : ℕ) (ys : List Yielding) (fs : List Finding) : Type 0 where
  pub long : length ys ≡ nodes
  pub found_long : length fs ≡ nodes
  pub ahead : AreAhead nodes ys
  pub units : AreUnitsBelow n ys
  pub found : (node : ℕ) → IsFindingBelow n (slice_index_or fs node finding.Nothing)
