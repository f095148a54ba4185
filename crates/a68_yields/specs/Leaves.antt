-- The units that a node may yield, one or several (Report, 3.2.1, 3.3.1 and 3.4.1).
use Rattle.std.specs.Prelude.{◌≡◌, ◌++◌, ℕ, List, [], ◌∷◌, slice_index_or, Bool, true, false, if◌then◌else◌, not, ◌||◌}
use Rattle.a68_coerce.specs.declared.leaf.Leaf.{Leaf}
use Rattle.a68_coerce.specs.declared.leaf.Leaf.TheVariants as leaf
use Rattle.a68_definitions.specs.Defined.{part_from_end}
use Rattle.a68_ranges.specs.Nodes.{kind_at, parts_at}
use Rattle.a68_tree.specs.Trees.{Built}
use Rattle.a68_tree.specs.declared.kind.NodeKind.{NodeKind}
use Rattle.a68_tree.specs.declared.kind.NodeKind.TheVariants as kind
use Rattle.a68_yields.specs.declared.yielding.Yielding.{Yielding}
use Rattle.a68_yields.specs.declared.yielding.Yielding.TheVariants as yields

abbrev pub yield_at : List Yielding → ℕ → Yielding
yield_at ys n = slice_index_or ys n yields.Unknown

abbrev pub is_spec : NodeKind → Bool
is_spec kind.Spec = true
is_spec _ = false

-- those of these parts that are chosen among
abbrev pub unspecified : Built → List ℕ → List ℕ
unspecified tree [] = []
unspecified tree (p ∷ ps) = if is_spec (kind_at tree p) then unspecified tree ps else p ∷ unspecified tree ps

abbrev pub behind_first : List ℕ → List ℕ
behind_first [] = []
behind_first (p ∷ ps) = ps

-- the parts among which a choice chooses: all but the enquiry, and the specs
abbrev pub choices : Built → List ℕ → List ℕ
choices tree parts = unspecified tree (behind_first parts)

abbrev pub is_exit : NodeKind → Bool
is_exit kind.Exit = true
is_exit _ = false

abbrev pub has_exit : Built → List ℕ → Bool
has_exit tree [] = false
has_exit tree (p ∷ ps) = is_exit (kind_at tree p) || has_exit tree ps

-- a serial clause may yield a unit behind which nothing stands, or EXIT
abbrev pub ends : Built → (behind : List ℕ) → Bool
ends tree [] = true
ends tree (p ∷ ps) = is_exit (kind_at tree p)

-- the units that it may yield: the last one, and those before EXIT
abbrev pub endings : Built → List ℕ → List ℕ
endings tree [] = []
endings tree (p ∷ ps) = if ends tree ps then p ∷ endings tree ps else endings tree ps

abbrev pub is_serial : NodeKind → Bool
is_serial kind.Serial = true
is_serial _ = false

-- the parts among which a node chooses
abbrev pub chosen : Built → ℕ → List ℕ
chosen tree n = if is_serial (kind_at tree n) then endings tree (parts_at tree n) else choices tree (parts_at tree n)

abbrev pub is_out : NodeKind → Bool
is_out kind.Out = true
is_out _ = false

abbrev pub is_conditional : NodeKind → Bool
is_conditional kind.Conditional = true
is_conditional _ = false

-- a choice without ELSE or OUT: an IF of two parts, or another one whose last part is no Out; a serial clause is none
abbrev pub is_open : Built → NodeKind → List ℕ → Bool
is_open tree kind.Conditional (q ∷ a ∷ []) = true
is_open tree kind.Conditional parts = false
is_open tree kind.Serial parts = false
is_open tree k parts = not (is_out (kind_at tree (part_from_end parts 1)))

-- in the place of ELSE or OUT stands a skip
abbrev pub left_out : Bool → List Leaf
left_out true = leaf.StrongOnly ∷ []
left_out false = []

mutual
  -- the units that a node may yield, in order of text
  pub data HasLeaves (tree : Built) (ys : List Yielding) : ℕ → List Leaf → Type 0 where
    one : {n : ℕ} {leaves : List Leaf} (l : Leaf) → yield_at ys n ≡ yields.Unit l → leaves ≡ l ∷ [] → HasLeaves tree ys n leaves
    handed : {n : ℕ} {leaves : List Leaf} (p : ℕ) → yield_at ys n ≡ yields.Part p → HasLeaves tree ys p leaves → HasLeaves tree ys n leaves
    several : {n : ℕ} {leaves : List Leaf} (those : List Leaf) → yield_at ys n ≡ yields.Choice → AllHaveLeaves tree ys (chosen tree n) those
        → leaves ≡ those ++ left_out (is_open tree (kind_at tree n) (parts_at tree n)) → HasLeaves tree ys n leaves

  pub data AllHaveLeaves (tree : Built) (ys : List Yielding) : List ℕ → List Leaf → Type 0 where
    no_more : {leaves : List Leaf} → leaves ≡ [] → AllHaveLeaves tree ys [] leaves
    and_more : {p : ℕ} {ps : List ℕ} {leaves : List Leaf} (those others : List Leaf) → HasLeaves tree ys p those → AllHaveLeaves tree ys ps others
        → leaves ≡ those ++ others → AllHaveLeaves tree ys (p ∷ ps) leaves

abbrev pub HasNoLeaves : Built → List Yielding → ℕ → Type 0
HasNoLeaves tree ys n = (leaves : List Leaf) → HasLeaves tree ys n leaves → ⊥
