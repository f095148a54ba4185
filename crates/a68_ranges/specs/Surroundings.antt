-- The ranges about a node (Report, 3.0.2, 3.2, 3.4, 3.5 and 5.4.1: where nests get a new layer). A range is named by a node: a
-- Serial, a RoutineText, a Loop (the range of the tag behind FOR) or a Spec (that of its tag).
use Rattle.std.specs.Prelude.{◌≡◌, ◌<◌, ◌≤◌, ◌⊎◌, ◌-◌, ℕ, Bool, true, false, nat_eq, List, [], ◌∷◌, ◌++◌, slice_get, if◌then◌else◌}
use Rattle.std.specs.Option.{option_map_or}
use Rattle.a68_ranges.specs.Nodes.{IsPartAt, parts_at, kind_at}
use Rattle.a68_tree.specs.Trees.{Built}
use Rattle.a68_tree.specs.declared.kind.NodeKind.{NodeKind}
use Rattle.a68_tree.specs.declared.kind.NodeKind.TheVariants as kind

-- the first part, where there is one
abbrev pub first_of : List ℕ → List ℕ
first_of [] = []
first_of (p ∷ ps) = p ∷ []

abbrev pub is_while : NodeKind → Bool
is_while kind.While = true
is_while _ = false

-- the Serial of the While among the parts of a loop
abbrev pub while_serial : Built → List ℕ → List ℕ
while_serial tree [] = []
while_serial tree (p ∷ ps) = if is_while (kind_at tree p) then first_of (parts_at tree p) else while_serial tree ps

abbrev pub is_spec : NodeKind → Bool
is_spec kind.Spec = true
is_spec _ = false

-- a Spec that stands directly before the part at a place
abbrev pub spec_before : Built → List ℕ → (place : ℕ) → List ℕ
spec_before tree parts place =
    if nat_eq place 0 then [] else option_map_or (λ s. if is_spec (kind_at tree s) then s ∷ [] else []) (slice_get parts (place - 1)) []

-- behind the enquiry: the range of the enquiry includes the parts that it chooses among (3.4.1)
abbrev pub behind_enquiry : List ℕ → (place : ℕ) → List ℕ
behind_enquiry parts place = if nat_eq place 0 then [] else first_of parts

-- about a part of a loop of that kind: the tag behind FOR is there in WHILE and DO, and the range of WHILE includes DO (3.5.1)
unfoldable pub in_loop : Built → (n : ℕ) → List ℕ → NodeKind → List ℕ
in_loop tree n parts kind.While = n ∷ []
in_loop tree n parts kind.Serial = while_serial tree parts ++ n ∷ []
in_loop tree n parts _ = []

-- the ranges that a node of that kind puts about its part at a place, the innermost first
unfoldable pub entered : Built → NodeKind → (n : ℕ) → List ℕ → (k p : ℕ) → List ℕ
entered tree kind.Serial n parts k p = n ∷ []
entered tree kind.RoutineText n parts k p = n ∷ []
entered tree kind.Conditional n parts k p = behind_enquiry parts k
entered tree kind.Case n parts k p = behind_enquiry parts k
entered tree kind.Conformity n parts k p = spec_before tree parts k ++ behind_enquiry parts k
entered tree kind.Loop n parts k p = in_loop tree n parts (kind_at tree p)
entered tree _ n parts k p = []

-- The node that p is the k-th part of; where several definitions share p, the first of them, which has the greatest number.
pub record IsUnder (tree : Built) (n k p : ℕ) : Type 0 where
  pub part : IsPartAt tree n k p
  pub first : (m j : ℕ) → IsPartAt tree m j p → (m < n) ⊎ ((m ≡ n) × (k ≤ j))

-- A node lies in these ranges, the innermost first; one that is no part, as that of the program, in none. Outside them all is
-- the standard environ.
pub data Lies (tree : Built) : ℕ → List ℕ → Type 0 where
  alone : {p : ℕ} → ((n k : ℕ) → IsPartAt tree n k p → ⊥) → Lies tree p []
  part : {n p : ℕ} {outer ranges : List ℕ} (k : ℕ) → Lies tree n outer → IsUnder tree n k p → ranges ≡ entered tree (kind_at tree n) n (parts_at tree n) k p ++ outer → Lies tree p ranges
