-- Inner: the headline does not rest on this file.
-- What stands for the layers that are open.
use Rattle.std.specs.Prelude.{◌≡◌, List, [], ◌∷◌, ◌++◌, length}
use Rattle.a68_symbols.specs.declared.sym.Sym.{Sym}
use Rattle.a68_tree.specs.Forest.{Forest, spells}
use Rattle.a68_tree.specs.Nodes.{nodes}
use Rattle.a68_nodes.specs.Stack.{Layer, begun, text_of}
use Rattle.a68_nodes.specs.Pieces.{pieces_of, kept_behind}
use Rattle.a68_nodes.specs.Views.{DraftState, inherited}

-- with a layer in which that forest has been read, where that text is left
abbrev pub behind : DraftState → Forest → List Sym → DraftState
behind s f left = record {
  drafts = nodes s.drafts (inherited s.frames) f left;
  frames = record { first = length s.pieces; before = length (spells f left); kept = kept_behind s.drafts (inherited s.frames) f left } ∷ s.frames;
  pieces = s.pieces ++ pieces_of s.drafts (inherited s.frames) f left;
}

-- with all these layers
unfoldable pub state_of : List Layer → List Sym → DraftState
state_of [] left = record { drafts = []; frames = []; pieces = [] }
state_of (l ∷ ls) left = behind (state_of ls (begun l.bracket l.forest left)) l.forest left

-- The state stands for these layers of that whole text, where that text is left.
pub record IsDraftOf (whole : List Sym) (ls : List Layer) (left : List Sym) (s : DraftState) : Type 0 where
  pub stands : s ≡ state_of ls left
  pub spelled : whole ≡ text_of ls left
