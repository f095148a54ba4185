-- Inner: the headline does not rest on this file.
-- How contracts see what is drafted.
use Rattle.std.specs.Prelude.{ℕ, ◌-◌, ◌≤◌, List, [], ◌∷◌, map, reverse, take, drop}
use Rattle.a68_tree.specs.Nodes.{Entry}
use Rattle.a68_nodes.specs.declared.draft.Draft.{Draft}
use Rattle.a68_nodes.specs.declared.draft.Piece.{Piece}
use Rattle.a68_nodes.specs.declared.draft.Section.{Section}
use Rattle.a68_nodes.specs.declared.draft.OpenLayer.{OpenLayer}

abbrev pub view : Draft → Entry
view d = record { kind = d.kind; before = d.before; after = d.after; named = d.named; parts = d.parts.items }

abbrev pub views : List Draft → List Entry
views ds = map view ds

-- A layer as it is kept: how many pieces stood before its own, how many symbols were left where it began, and the numbers
-- of the nodes that are set aside for it.
pub record Opened : Type 0 where
  pub first : ℕ
  pub before : ℕ
  pub kept : List ℕ

-- the numbers of that stretch
abbrev pub stretch : List ℕ → Section → List ℕ
stretch asides s = take (s.to - s.from) (drop s.from asides)

abbrev pub opened : List ℕ → OpenLayer → Opened
opened asides f = record { first = f.first; before = f.before; kept = stretch asides f.kept }

-- the innermost first
abbrev pub all_opened : List ℕ → List OpenLayer → List Opened
all_opened asides fs = reverse (map (opened asides) fs)

-- the numbers that what is opened now begins with
abbrev pub inherited : List Opened → List ℕ
inherited [] = []
inherited (o ∷ os) = o.kept

-- how many pieces stand before those of the innermost layer
abbrev pub first_of : List Opened → ℕ
first_of [] = 0
first_of (o ∷ os) = o.first

-- a stretch among so many
abbrev pub IsWithin : ℕ → Section → Type 0
IsWithin n s = (s.from ≤ s.to) × (s.to ≤ n)

abbrev pub AllWithin : ℕ → List OpenLayer → Type 0
AllWithin n [] = Unit {0}
AllWithin n (f ∷ fs) = IsWithin n f.kept × AllWithin n fs

-- the nodes, the layers, the innermost first, and the pieces of all layers, those of the innermost last
pub record DraftState : Type 0 where
  pub drafts : List Entry
  pub frames : List Opened
  pub pieces : List Piece
