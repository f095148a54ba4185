-- Inner: the headline does not rest on this file.
-- Programs as they are seen from where they are written, or from within a bound of a definition.
use Rattle.std.specs.Prelude.{◌≡◌, ℕ, zero, suc, List, [], ◌∷◌, length}
use Rattle.a68_annot.specs.declared.note.Note.{Note}
use Rattle.a68_elab.specs.Made.{bound_tree, further, seen}
use Rattle.a68_elab.specs.Programs.{Seat, behind, defined_bound, seated, tree_in}
use Rattle.a68_elab.specs.Trees.{Tree, Trees, no_trees, ◌and_tree◌}
use Rattle.a68_elab.specs.declared.bound.Bound.{Bound}
use Rattle.a68_elab.specs.declared.sight.Sight.{Sight}
use Rattle.a68_elab.specs.declared.sight.Sight.TheVariants as sight
use Rattle.a68_emit.specs.Seats.{marks_of}
use Rattle.a68_emit.specs.declared.view.View.{View}

-- the tree of a node as it is seen
abbrev pub tree_of : View → (id : ℕ) → Tree
tree_of v = tree_in v.of.now v.sight

-- the tree of a bound of a definition
abbrev pub bound_of : View → (frames id : ℕ) → Tree
bound_of v = defined_bound v.of.now v.sight

-- what is known of a node, as it is seen
abbrev pub note_of : View → Note → Note
note_of v note = seen v.of.now v.sight note

-- More nodes than there are may still be looked at, where bounds of definitions may: none within these.
abbrev pub left_in : Sight → (nodes : ℕ) → ℕ
left_in sight.Here nodes = suc nodes
left_in (sight.Within frames bytes) nodes = 0

abbrev pub extra : View → ℕ
extra v = left_in v.sight (length v.of.now.tree.nodes)

-- another view of the same program, from within which as many nodes may be looked at
pub record IsAlike (v w : View) : Type 0 where
  pub of : w.of ≡ v.of
  pub sight : w.sight ≡ v.sight
  pub nodes : length w.of.now.tree.nodes ≡ length v.of.now.tree.nodes
  pub left : extra w ≡ extra v

-- ---- how what is written lies

abbrev pub seat_of : View → Seat
seat_of v = record { height = v.height; depth = v.depth; marks = marks_of v.of.now v.clauses.now }

-- over one value more
abbrev pub raised : View → View
raised v = record v { height = further 1 v.height }

-- so many frames further in
abbrev pub deeper : (frames : ℕ) → View → View
deeper frames v = record v { depth = further frames v.depth }

-- within a range with so many slots
abbrev pub depth_within : (slots depth : ℕ) → ℕ
depth_within zero depth = depth
depth_within (suc n) depth = further 1 depth

abbrev pub within : (slots : ℕ) → View → View
within slots v = record v { depth = depth_within slots v.depth }

-- a tree with the numbers of its jumps, where it is written
abbrev pub lying : View → Tree → Tree
lying v t = seated (seat_of v) t

-- that of a node
abbrev pub laid_of : View → (id : ℕ) → Tree
laid_of v id = lying v (tree_of v id)

-- those of nodes behind one, each over the values of those before it
abbrev pub rising : View → (id : ℕ) → List ℕ → Trees
rising v id [] = no_trees
rising v id (part ∷ parts) = behind id (laid_of v) part and_tree rising (raised v) id parts

-- over all of these values
abbrev pub behind_values : View → List ℕ → View
behind_values v [] = v
behind_values v (part ∷ parts) = behind_values (raised v) parts

-- the trees of bounds of a node, each over the values of those before it
abbrev pub rising_bounds : View → (id place : ℕ) → List Bound → Trees
rising_bounds v id place [] = no_trees
rising_bounds v id place (b ∷ bounds) = lying v (bound_tree (bound_of v) (behind id (tree_of v)) place b) and_tree rising_bounds (raised v) id place bounds
