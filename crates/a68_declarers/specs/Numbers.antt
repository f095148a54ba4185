-- The nodes of the modes of declarers (own): two for each declarer behind the standard ones, in the order of the tree.
use Rattle.std.specs.Prelude.{◌≡◌, ◌+◌, ◌*◌, ◌%◌, ℕ, zero, suc, List, length, slice_index_or, Bool, true, false, nat_eq, nat_lt, if◌then◌else◌}
use Rattle.a68_modes.specs.declared.standard.TheConstants as standard
use Rattle.a68_declarers.specs.Declarers.{is_declarer}
use Rattle.a68_ranges.specs.Nodes.{kind_at}
use Rattle.a68_tree.specs.Trees.{Built}

-- one where it is so
abbrev pub one_if : Bool → ℕ
one_if true = 1
one_if false = 0

-- how many of the first so many nodes are declarers
abbrev pub declarers : Built → (count : ℕ) → ℕ
declarers tree zero = 0
declarers tree (suc n) = declarers tree n + one_if (is_declarer (kind_at tree n))

-- the node of a declarer's mode as it stands; VOID for all that is no declarer
abbrev pub first_number : Built → ℕ → ℕ
first_number tree d = if is_declarer (kind_at tree d) then standard.STANDARD + 2 * declarers tree d else 0

-- the next node, but for VOID
abbrev pub next_number : ℕ → ℕ
next_number n = if nat_eq n 0 then 0 else n + 1

abbrev pub of_two : (fixed : Bool) → ℕ → ℕ
of_two false n = n
of_two true n = next_number n

-- the node of a declarer's mode, as it stands or without its FLEX
abbrev pub mode_number : Built → (d : ℕ) → (fixed : Bool) → ℕ
mode_number tree d fixed = of_two fixed (first_number tree d)

-- The node of the mode of a node without its FLEX: the second of the two of a declarer, which has an even number; [] CHAR for
-- STRING; and every other standard mode itself.
abbrev pub twin_of : ℕ → ℕ
twin_of m = if nat_lt m standard.STRING then m else if nat_eq m standard.STRING then standard.ROW_OF_CHAR else if nat_lt m standard.STANDARD then m else m + m % 2

-- the same, by the first nodes of all
abbrev pub number_at : List ℕ → (d : ℕ) → (fixed : Bool) → ℕ
number_at numbers d fixed = of_two fixed (slice_index_or numbers d 0)

-- the first nodes of the modes of all declarers
pub record AreNumbers (tree : Built) (numbers : List ℕ) : Type 0 where
  pub long : length numbers ≡ length tree.nodes
  pub each : (d : ℕ) → slice_index_or numbers d 0 ≡ first_number tree d
