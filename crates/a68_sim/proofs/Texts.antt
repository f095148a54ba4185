-- The annotated trees of small texts, by hand. A later one of two parts has the smaller number.
use Rattle.std.proofs.Common.{ℕ, List, [], ◌∷◌, None, Some, refl}
use Rattle.a68_annot.specs.declared.annotated.Annotated.{Annotated}
use Rattle.a68_annot.specs.declared.note.Note.{Note}
use Rattle.a68_modes.specs.Nodes.{standard_shapes}
use Rattle.a68_modes.specs.declared.coercion.Coercion.{Coercion}
use Rattle.a68_modes.specs.declared.coercion.Coercion.TheVariants.{Deref, Drop}
use Rattle.a68_tree.specs.declared.kind.NodeKind.{NodeKind}
use Rattle.a68_tree.specs.declared.kind.NodeKind.TheVariants as kind
use Rattle.a68_tree.specs.declared.node.Node.{Node}

abbrev pub node : NodeKind → (from to name : ℕ) → List ℕ → Node
node k from to name parts = record { kind = k; span = record { from = from; to = to }; name = name; parts = parts }

-- a unit or a clause of a mode under these coercions, behind which it has that mode
abbrev pub has_mode : ℕ → List Coercion → (goal : ℕ) → Note
has_mode mode path goal = record { mode = mode; path = path; goal = goal; op = None; definition = None; step = record { hops = 0; slot = 0 }; slots = 0; need = None }

-- a range of a mode with one slot
abbrev has_slot : ℕ → Note
has_slot mode = record (has_mode mode [] mode) { slots = 1 }

-- a formula of a mode by a row of the table of operators
abbrev has_row : (mode row : ℕ) → Note
has_row mode row = record (has_mode mode [] mode) { op = Some row }

-- a tag or an operator that this node defines
abbrev of_node : ℕ → Note → Note
of_node d note = record note { definition = Some d }

-- VOID, INT, BOOL and REF INT
abbrev void : ℕ
void = 0

abbrev int : ℕ
int = 1

abbrev bool : ℕ
bool = 2

abbrev ref_int : ℕ
ref_int = 9

-- BEGIN INT x := 5; print(x) END
abbrev pub five_printed : Annotated
five_printed = record {
  tree = record {
    nodes =
        node kind.Closed 0 30 0 (1 ∷ []) ∷ node kind.Serial 6 26 0 (5 ∷ 2 ∷ []) ∷ node kind.Call 18 26 0 (4 ∷ 3 ∷ []) ∷ node kind.Tag 24 25 0 [] ∷ node kind.Tag 18 23 1 []
        ∷ node kind.Variable 6 16 0 (7 ∷ 6 ∷ []) ∷ node kind.Denotation 15 16 2 [] ∷ node kind.Declarer 6 9 3 [] ∷ [];
    spellings = (120 ∷ []) ∷ (112 ∷ 114 ∷ 105 ∷ 110 ∷ 116 ∷ []) ∷ (53 ∷ []) ∷ (73 ∷ 78 ∷ 84 ∷ []) ∷ [];
    starts = 0 ∷ 6 ∷ 10 ∷ 12 ∷ 15 ∷ 16 ∷ 18 ∷ 23 ∷ 24 ∷ 25 ∷ 27 ∷ [];
  };
  modes = standard_shapes;
  notes =
      has_mode void [] void ∷ has_slot void ∷ has_mode void [] void ∷ of_node 5 (has_mode ref_int (Deref ∷ []) int) ∷ has_mode void [] void ∷ has_mode ref_int [] void ∷ has_mode int [] int ∷ has_mode int [] void ∷ [];
  noted = refl;
}

-- BEGIN INT x; print(x) END
abbrev pub unset_printed : Annotated
unset_printed = record {
  tree = record {
    nodes =
        node kind.Closed 0 25 0 (1 ∷ []) ∷ node kind.Serial 6 21 0 (5 ∷ 2 ∷ []) ∷ node kind.Call 13 21 0 (4 ∷ 3 ∷ []) ∷ node kind.Tag 19 20 0 [] ∷ node kind.Tag 13 18 1 []
        ∷ node kind.Variable 6 11 0 (6 ∷ []) ∷ node kind.Declarer 6 9 2 [] ∷ [];
    spellings = (120 ∷ []) ∷ (112 ∷ 114 ∷ 105 ∷ 110 ∷ 116 ∷ []) ∷ (73 ∷ 78 ∷ 84 ∷ []) ∷ [];
    starts = 0 ∷ 6 ∷ 10 ∷ 11 ∷ 13 ∷ 18 ∷ 19 ∷ 20 ∷ 22 ∷ [];
  };
  modes = standard_shapes;
  notes = has_mode void [] void ∷ has_slot void ∷ has_mode void [] void ∷ of_node 5 (has_mode ref_int (Deref ∷ []) int) ∷ has_mode void [] void ∷ has_mode ref_int [] void ∷ has_mode int [] void ∷ [];
  noted = refl;
}

-- BEGIN (INT x; x) END
abbrev pub newer_yielded : Annotated
newer_yielded = record {
  tree = record {
    nodes =
        node kind.Closed 0 20 0 (1 ∷ []) ∷ node kind.Serial 6 16 0 (2 ∷ []) ∷ node kind.Closed 6 16 0 (3 ∷ []) ∷ node kind.Serial 7 15 0 (5 ∷ 4 ∷ []) ∷ node kind.Tag 14 15 0 []
        ∷ node kind.Variable 7 12 0 (6 ∷ []) ∷ node kind.Declarer 7 10 1 [] ∷ [];
    spellings = (120 ∷ []) ∷ (73 ∷ 78 ∷ 84 ∷ []) ∷ [];
    starts = 0 ∷ 6 ∷ 7 ∷ 11 ∷ 12 ∷ 14 ∷ 15 ∷ 17 ∷ [];
  };
  modes = standard_shapes;
  notes = has_mode void [] void ∷ has_mode void [] void ∷ has_mode ref_int (Drop ∷ []) void ∷ has_slot ref_int ∷ of_node 5 (has_mode ref_int [] ref_int) ∷ has_mode ref_int [] void ∷ has_mode int [] void ∷ [];
  noted = refl;
}

-- BEGIN INT i := 0; WHILE i < 3 DO i := i + 1 OD; print(i) END
abbrev pub three_counted : Annotated
three_counted = record {
  tree = record {
    nodes =
        node kind.Closed 0 60 0 (1 ∷ []) ∷ node kind.Serial 6 56 0 (17 ∷ 5 ∷ 2 ∷ []) ∷ node kind.Call 48 56 0 (4 ∷ 3 ∷ []) ∷ node kind.Tag 54 55 0 [] ∷ node kind.Tag 48 53 1 []
        ∷ node kind.Loop 18 46 0 (12 ∷ 6 ∷ []) ∷ node kind.Serial 33 43 0 (7 ∷ []) ∷ node kind.Assignation 33 43 0 (11 ∷ 8 ∷ []) ∷ node kind.Dyadic 38 43 5 (10 ∷ 9 ∷ [])
        ∷ node kind.Denotation 42 43 3 [] ∷ node kind.Tag 38 39 0 [] ∷ node kind.Tag 33 34 0 [] ∷ node kind.While 18 29 0 (13 ∷ []) ∷ node kind.Serial 24 29 0 (14 ∷ [])
        ∷ node kind.Dyadic 24 29 6 (16 ∷ 15 ∷ []) ∷ node kind.Denotation 28 29 4 [] ∷ node kind.Tag 24 25 0 [] ∷ node kind.Variable 6 16 0 (19 ∷ 18 ∷ [])
        ∷ node kind.Denotation 15 16 2 [] ∷ node kind.Declarer 6 9 7 [] ∷ [];
    spellings =
        (105 ∷ []) ∷ (112 ∷ 114 ∷ 105 ∷ 110 ∷ 116 ∷ []) ∷ (48 ∷ []) ∷ (49 ∷ []) ∷ (51 ∷ []) ∷ (43 ∷ []) ∷ (60 ∷ []) ∷ (73 ∷ 78 ∷ 84 ∷ []) ∷ [];
    starts = 0 ∷ 6 ∷ 10 ∷ 12 ∷ 15 ∷ 16 ∷ 18 ∷ 24 ∷ 26 ∷ 28 ∷ 30 ∷ 33 ∷ 35 ∷ 38 ∷ 40 ∷ 42 ∷ 44 ∷ 46 ∷ 48 ∷ 53 ∷ 54 ∷ 55 ∷ 57 ∷ [];
  };
  modes = standard_shapes;
  notes =
      has_mode void [] void ∷ has_slot void ∷ has_mode void [] void ∷ of_node 17 (has_mode ref_int (Deref ∷ []) int) ∷ has_mode void [] void ∷ has_mode void [] void ∷ has_mode void [] void ∷ has_mode ref_int (Drop ∷ []) void ∷ has_row int 15 ∷ has_mode int [] int ∷ of_node 17 (has_mode ref_int (Deref ∷ []) int) ∷ of_node 17 (has_mode ref_int [] ref_int) ∷ has_mode bool [] void ∷ has_mode bool [] bool ∷ has_row bool 11 ∷ has_mode int [] int ∷ of_node 17 (has_mode ref_int (Deref ∷ []) int) ∷ has_mode ref_int [] void ∷ has_mode int [] int ∷ has_mode int [] void ∷ [];
  noted = refl;
}
