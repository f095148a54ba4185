-- The tree of a node is made of the trees of the nodes behind it.
use Rattle.std.proofs.Common.{◌≡◌, ◌≢◌, ◌<◌, ◌≤◌, ◌⊎◌, ℕ, zero, suc, ◌+◌, Bool, List, [], ◌∷◌, refl, sym, ◌∙◌, ap, arith, Some, slice_get, ⊎_elim, eq-eqb, ne_eqb, le-ltb, lt-ltb}
use Rattle.std.proofs.Math.Path.{fun_ext}
use Rattle.std.proofs.lemmas.Bool.{cases_lt}
use Rattle.std.specs.Prelude.{if◌then◌else◌}
use Rattle.a68_annot.specs.declared.annotated.Annotated.{Annotated}
use Rattle.a68_annot.specs.declared.note.Note.{Note}
use Rattle.a68_elab.specs.Made.{bytes_of, seen, trees_at}
use Rattle.a68_elab.specs.Programs.{fitting, behind, defined_bound, no_bound, tree_from, tree_in, unit}
use Rattle.a68_elab.specs.declared.sight.Sight.{Sight}
use Rattle.a68_elab.specs.declared.sight.Sight.TheVariants as sight
use Rattle.a68_elab.specs.Trees.{Tree, Trees, meaningless, ◌and_tree◌}
use Rattle.a68_tree.specs.Trees.{AllBetween}
use Rattle.a68_tree.specs.declared.node.Node.{Node}

-- ---- the trees behind a node

pub behind_is : (id i : ℕ) (f : ℕ → Tree) → id < i → behind id f i ≡ f i
behind_is id i f less = ap (λ (b : Bool). if b then f i else meaningless) (lt-ltb id i less)

behind_none : (id i : ℕ) (f : ℕ → Tree) → i ≤ id → behind id f i ≡ meaningless
behind_none id i f le = ap (λ (b : Bool). if b then f i else meaningless) (le-ltb id i le)

-- those of nodes that all stand behind it
pub behind_all : (id end : ℕ) (f : ℕ → Tree) (ids : List ℕ) → AllBetween id end ids → trees_at (behind id f) ids ≡ trees_at f ids
behind_all id end f [] all = refl
behind_all id end f (i ∷ ids) all =
    ap (λ (t : Tree). t and_tree trees_at (behind id f) ids) (behind_is id i f all.0) ∙ ap (λ (ts : Trees). f i and_tree ts) (behind_all id end f ids all.2)

-- behind a later node nothing more is seen
behind_twice : (base id : ℕ) (f : ℕ → Tree) → base ≤ id → behind id (behind base f) ≡ behind id f
behind_twice base id f le = fun_ext (λ i. same i (cases_lt id i))
  where
    same : (i : ℕ) → (id < i) ⊎ (i ≤ id) → behind id (behind base f) i ≡ behind id f i
    same i c =
        ⊎_elim (λ h. behind_is id i (behind base f) h ∙ behind_is base i f (omega arith) ∙ sym (behind_is id i f h))
        (λ h. behind_none id i (behind base f) h ∙ sym (behind_none id i f h)) c

-- ---- the trees of a list of nodes

module _ (a : Annotated) (sight : Sight) (g : (frames id : ℕ) → Tree) where
  -- a node other than the first
  skips : (base : ℕ) (node : Node) (nodes : List Node) (note : Note) (notes : List Note) (id : ℕ) → id ≢ base
      → tree_from a sight g base (node ∷ nodes) (note ∷ notes) id ≡ tree_from a sight g (suc base) nodes notes id
  skips base node nodes note notes id ne =
      let rest = tree_from a sight g (suc base) nodes notes in
      ap (λ (b : Bool). if b then fitting a node note (unit a g rest node (seen a sight note)) else rest id) (ne_eqb id base ne)

  -- a node before all of them
  before_all : (base : ℕ) (nodes : List Node) (notes : List Note) (id : ℕ) → id < base → tree_from a sight g base nodes notes id ≡ meaningless
  before_all base [] notes id less = refl
  before_all base (node ∷ nodes) [] id less = refl
  before_all base (node ∷ nodes) (note ∷ notes) id less =
      let ne : id ≢ base = λ e. omega arith in skips base node nodes note notes id ne ∙ before_all (suc base) nodes notes id (omega arith)

  -- the nodes but the first are those behind it
  rest_is : (base : ℕ) (node : Node) (nodes : List Node) (note : Note) (notes : List Note)
      → tree_from a sight g (suc base) nodes notes ≡ behind base (tree_from a sight g base (node ∷ nodes) (note ∷ notes))
  rest_is base node nodes note notes = fun_ext (λ i. same i (cases_lt base i))
    where
      same : (i : ℕ) → (base < i) ⊎ (i ≤ base) → tree_from a sight g (suc base) nodes notes i ≡ behind base (tree_from a sight g base (node ∷ nodes) (note ∷ notes)) i
      same i c =
          let all = tree_from a sight g base (node ∷ nodes) (note ∷ notes) in
          ⊎_elim (λ h. let ne : i ≢ base = λ e. omega arith in sym (skips base node nodes note notes i ne) ∙ sym (behind_is base i all h))
          (λ h. before_all (suc base) nodes notes i (omega arith) ∙ sym (behind_none base i all h)) c

  tree_of_node : (base : ℕ) (nodes : List Node) (notes : List Note) (k : ℕ) (node : Node) (note : Note) → slice_get nodes k ≡ Some node → slice_get notes k ≡ Some note
      → tree_from a sight g base nodes notes (base + k) ≡ fitting a node note (unit a g (behind (base + k) (tree_from a sight g base nodes notes)) node (seen a sight note))
  tree_of_node base [] notes k node note e f = absurd (cc)
  tree_of_node base (n ∷ nodes) [] k node note e f = absurd (cc)
  tree_of_node base (first ∷ nodes) (about ∷ notes) zero node note e f =
      let all = tree_from a sight g base (first ∷ nodes) (about ∷ notes) in
      let rest = tree_from a sight g (suc base) nodes notes in
      let is : first ≡ node = cc in
      let is_note : about ≡ note = cc in
      let q : base + 0 ≡ base = omega arith in
      ap all q
      ∙ ap (λ (b : Bool). if b then fitting a first about (unit a g rest first (seen a sight about)) else rest base) (eq-eqb base base refl)
      ∙ ap (λ (t : ℕ → Tree). fitting a first about (unit a g t first (seen a sight about))) (rest_is base first nodes about notes)
      ∙ ap (λ (n : ℕ). fitting a first about (unit a g (behind n all) first (seen a sight about))) (sym q)
      ∙ ap (λ (n : Node). fitting a n about (unit a g (behind (base + 0) all) n (seen a sight about))) is
      ∙ ap (λ (n : Note). fitting a node n (unit a g (behind (base + 0) all) node (seen a sight n))) is_note
  tree_of_node base (first ∷ nodes) (about ∷ notes) (suc k) node note e f =
      let all = tree_from a sight g base (first ∷ nodes) (about ∷ notes) in
      let q : base + suc k ≡ suc base + k = omega arith in
      let ne : base + suc k ≢ base = λ x. omega arith in
      skips base first nodes about notes (base + suc k) ne
      ∙ ap (tree_from a sight g (suc base) nodes notes) q
      ∙ tree_of_node (suc base) nodes notes k node note e f
      ∙ ap (λ (t : ℕ → Tree). fitting a node note (unit a g (behind (suc base + k) t) node (seen a sight note))) (rest_is base first nodes about notes)
      ∙ ap (λ (t : ℕ → Tree). fitting a node note (unit a g t node (seen a sight note))) (behind_twice base (suc base + k) all (omega arith))
      ∙ ap (λ (n : ℕ). fitting a node note (unit a g (behind n all) node (seen a sight note))) (sym q)

pub tree_of_nodes : (program : Annotated) (sight : Sight) (id : ℕ) (node : Node) (note : Note) → slice_get program.tree.nodes id ≡ Some node → slice_get program.notes id ≡ Some note
    → tree_in program sight id ≡ fitting program node note (unit program (defined_bound program sight) (behind id (tree_in program sight)) node (seen program sight note))
unfolding tree_in
tree_of_nodes program sight id node note e f =
    let g = defined_bound program sight in
    let all = tree_from program sight g 0 program.tree.nodes program.notes in
    let q : 0 + id ≡ id = omega arith in
    ap all (sym q) ∙ tree_of_node program sight g 0 program.tree.nodes program.notes id node note e f ∙ ap (λ (n : ℕ). fitting program node note (unit program g (behind n all) node (seen program sight note))) q

-- a bound of a definition is one that is seen from within it
pub defined_is : (program : Annotated) (frames id : ℕ) → defined_bound program sight.Here frames id ≡ tree_in program (sight.Within frames (bytes_of program id)) id
unfolding tree_in
defined_is program frames id =
    let from_within = sight.Within frames (bytes_of program id) in
    let same : no_bound ≡ defined_bound program from_within = fun_ext (λ hops. fun_ext (λ k. refl)) in
    ap (λ (g : (hops k : ℕ) → Tree). tree_from program from_within g 0 program.tree.nodes program.notes id) same
