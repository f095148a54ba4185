-- The next choice of a chain.
use Rattle.std.proofs.Common.{◌≡◌, ◌≢◌, ◌<◌, Bool, ℕ, List, [], ◌∷◌, length, get_or, sym, ◌∙◌, ap, subst, arith, None, Some, slice_get, refl}
use Rattle.std.proofs.lemmas.Option.{same_Some}
use Rattle.std.specs.Option.{option_map, option_map_or}
use Rattle.std.specs.Prelude.{IfSome, MatchOption, not, if◌then◌else◌, true, false}
use Rattle.std.specs.declared.option.Option.{Option}
use Rattle.a68_annot.specs.declared.annotated.Annotated.{Annotated}
use Rattle.a68_annot.specs.declared.note.Note.{Note}
use Rattle.a68_elab.proofs.Nodes.{tree_of_nodes, behind_is, behind_all}
use Rattle.a68_elab.specs.Made.{before_out, begun_by, case_of, choice_of, coerced, framed, left_out, made, out_of, parts_at, phrases_of, seen, trees_at, with_enquiry}
use Rattle.a68_elab.specs.Runs.{agrees, agrees_at, is_outcome, left_by, outcome, outcome_at, outcome_by, runs}
use Rattle.a68_elab.specs.Programs.{fitting, misfit, unit, behind, defined_bound, tree_in}
use Rattle.a68_elab.specs.declared.sight.Sight.{Sight}
use Rattle.a68_elab.specs.Trees.{Tree, Trees, cases, choice, meaningless}
use Rattle.a68_emit.specs.Chains.{enquiry_tree, LinkIsWithin, link_tree, other_tree}
use Rattle.a68_emit.specs.declared.chains.Link.{Link}
use Rattle.a68_modes.specs.Nodes.{shape_at, is_void}
use Rattle.a68_modes.specs.declared.coercion.Coercion.{Coercion}
use Rattle.a68_parts.proofs.Between.{between-above}
use Rattle.a68_tree.specs.Trees.{AllBetween}
use Rattle.a68_tree.specs.declared.kind.NodeKind.{NodeKind}
use Rattle.a68_tree.specs.declared.kind.NodeKind.TheVariants as kind
use Rattle.a68_tree.specs.declared.node.Node.{Node}

-- the parts of a node that is there
pub parts_are : (o : Option Node) (ids : List ℕ) → option_map (λ (n : Node). n.parts) o ≡ Some ids → option_map_or (λ (n : Node). n.parts) o [] ≡ ids
parts_are None ids w = absurd (cc)
parts_are (Some n) ids w = same_Some n.parts ids w

-- ---- links of chains

pub choice_none : (a : Annotated) (f : ℕ → Tree) (place goal : ℕ) (yields : Bool) (ids : List ℕ) → length ids ≢ 2 → length ids ≢ 3 → meaningless ≡ choice_of a f place goal yields ids
choice_none a f place goal yields [] n m = refl
choice_none a f place goal yields (x ∷ []) n m = refl
choice_none a f place goal yields (x ∷ y ∷ []) n m = absurd (n refl)
choice_none a f place goal yields (x ∷ y ∷ z ∷ []) n m = absurd (m refl)
choice_none a f place goal yields (x ∷ y ∷ z ∷ u ∷ ids) n m = refl

pub choice_two : (a : Annotated) (f : ℕ → Tree) (place goal : ℕ) (yields : Bool) (ids : List ℕ) → length ids ≡ 2
    → choice_of a f place goal yields ids ≡ with_enquiry a f place yields (get_or ids 0 0) (λ e. choice place e (f (get_or ids 1 0)) (left_out place goal))
choice_two a f place goal yields [] e = absurd (omega arith)
choice_two a f place goal yields (x ∷ []) e = absurd (omega arith)
choice_two a f place goal yields (x ∷ y ∷ []) e = refl
choice_two a f place goal yields (x ∷ y ∷ z ∷ ids) e = absurd (omega arith)

pub choice_three : (a : Annotated) (f : ℕ → Tree) (place goal : ℕ) (yields : Bool) (ids : List ℕ) → length ids ≡ 3
    → choice_of a f place goal yields ids ≡ with_enquiry a f place yields (get_or ids 0 0) (λ e. choice place e (f (get_or ids 1 0)) (f (get_or ids 2 0)))
choice_three a f place goal yields [] e = absurd (omega arith)
choice_three a f place goal yields (x ∷ []) e = absurd (omega arith)
choice_three a f place goal yields (x ∷ y ∷ []) e = absurd (omega arith)
choice_three a f place goal yields (x ∷ y ∷ z ∷ []) e = refl
choice_three a f place goal yields (x ∷ y ∷ z ∷ u ∷ ids) e = absurd (omega arith)

-- the choice of a node is made of the trees behind it
pub other_behind : (id count place goal : ℕ) (f : ℕ → Tree) (o : Option ℕ) → IfSome o (λ p. (id < p) × (p < count)) → option_map_or (behind id f) o (left_out place goal) ≡ option_map_or f o (left_out place goal)
other_behind id count place goal f None h = refl
other_behind id count place goal f (Some p) h = behind_is id p f h.0

pub link_behind : (a : Annotated) (id : ℕ) (f : ℕ → Tree) (l : Link) → LinkIsWithin a l → l.id ≡ id → link_tree a (behind id f) l ≡ link_tree a f l
link_behind a id f l within same =
    let n = length a.tree.nodes in
    let e : id < l.enquiry = subst (λ (k : ℕ). k < l.enquiry) same within.enquiry.0 in
    let p : id < l.part = subst (λ (k : ℕ). k < l.part) same within.part.0 in
    let o : IfSome l.other (λ p. (id < p) × (p < n)) = subst (λ (k : ℕ). IfSome l.other (λ p. (k < p) × (p < n))) same within.other in
    let ids = parts_at a l.enquiry in
    let g = behind id f in
    let whole : Tree → Tree → Tree → Tree = λ x y z. framed l.at l.place l.slots l.yields (choice l.place x y z) in
    ap (λ (ts : Trees). whole (phrases_of l.at ts) (g l.part) (other_tree g l)) (behind_all id n f ids (between-above id l.enquiry n ids e within.phrases))
    ∙ ap (λ (t : Tree). whole (enquiry_tree a f l) t (other_tree g l)) (behind_is id l.part f p)
    ∙ ap (λ (t : Tree). whole (enquiry_tree a f l) (f l.part) t) (other_behind id n l.place l.goal f l.other o)

-- what stands for a node that runs is its unit, and a misfit stands for another one
runs_is : (a : Annotated) (id : ℕ) (node : Node) (note : Note) → slice_get a.tree.nodes id ≡ Some node → slice_get a.notes id ≡ Some note
    → runs a id ≡ agrees (outcome_by a node note node.kind) (left_by a node note)
unfolding runs
runs_is a id node note e f = ap (λ (o : Option Node). agrees_at a o (slice_get a.notes id)) e ∙ ap (λ (o : Option Note). agrees_at a (Some node) o) f

run_fitting : (a : Annotated) (id : ℕ) (node : Node) (note : Note) (t : Tree) → slice_get a.tree.nodes id ≡ Some node → slice_get a.notes id ≡ Some note → runs a id ≡ true
    → fitting a node note t ≡ t
run_fitting a id node note t e f run =
    ap (λ (b : Bool). if b then t else misfit node.span.from (is_outcome true (outcome_by a node note node.kind))) (sym (runs_is a id node note e f) ∙ run)

unrun_fitting : (a : Annotated) (id : ℕ) (node : Node) (note : Note) (t : Tree) → slice_get a.tree.nodes id ≡ Some node → slice_get a.notes id ≡ Some note → runs a id ≡ false
    → fitting a node note t ≡ misfit node.span.from (is_outcome true (outcome a id))
unfolding outcome
unrun_fitting a id node note t e f run =
    let asked : outcome a id ≡ outcome_by a node note node.kind =
    ap (λ (o : Option Node). outcome_at a o (slice_get a.notes id)) e ∙ ap (λ (o : Option Note). outcome_at a (Some node) o) f in
    ap (λ (b : Bool). if b then t else misfit node.span.from (is_outcome true (outcome_by a node note node.kind))) (sym (runs_is a id node note e f) ∙ run)
    ∙ ap (λ (o : Option Bool). misfit node.span.from (is_outcome true o)) (sym asked)

pub tree_run : (a : Annotated) (s : Sight) (id : ℕ) (node : Node) (note : Note) → slice_get a.tree.nodes id ≡ Some node → slice_get a.notes id ≡ Some note → runs a id ≡ true
    → tree_in a s id ≡ unit a (defined_bound a s) (behind id (tree_in a s)) node (seen a s note)
tree_run a s id node note e f run =
    tree_of_nodes a s id node note e f ∙ run_fitting a id node note (unit a (defined_bound a s) (behind id (tree_in a s)) node (seen a s note)) e f run

pub tree_misfit : (a : Annotated) (s : Sight) (id : ℕ) (node : Node) (note : Note) → slice_get a.tree.nodes id ≡ Some node → slice_get a.notes id ≡ Some note → runs a id ≡ false
    → tree_in a s id ≡ misfit node.span.from (is_outcome true (outcome a id))
tree_misfit a s id node note e f run =
    tree_of_nodes a s id node note e f ∙ unrun_fitting a id node note (unit a (defined_bound a s) (behind id (tree_in a s)) node (seen a s note)) e f run

-- the tree of a node that is a choice without coercions
pub next_tree : (program : Annotated) (s : Sight) (id : ℕ) (node : Node) (note : Note) (o : Option Link) (place goal : ℕ) (ids : List ℕ) → slice_get program.tree.nodes id ≡ Some node
    → slice_get program.notes id ≡ Some note → runs program id ≡ true → node.kind ≡ kind.Conditional → note.path ≡ [] → place ≡ node.span.from → goal ≡ note.goal → ids ≡ node.parts
    → ((f : ℕ → Tree) → MatchOption o (choice_of program f place goal (not (is_void (shape_at program.modes goal))) ids ≡ meaningless)
    (λ l. choice_of program f place goal (not (is_void (shape_at program.modes goal))) ids ≡ link_tree program f l))
    → IfSome o (LinkIsWithin program) → IfSome o (λ l. l.id ≡ id) → IfSome o (λ l. tree_in program s l.id ≡ link_tree program (tree_in program s) l)
next_tree program s id node note None place goal ids e f run is_choice bare at asked these m within same = tt
next_tree program s id node note (Some l) place goal ids e f run is_choice bare at asked these m within same =
    let g = behind id (tree_in program s) in
    let b = defined_bound program s in
    let of : ℕ → ℕ → List ℕ → Tree = λ p q is. choice_of program g p q (not (is_void (shape_at program.modes q))) is in
    ap (tree_in program s) same ∙ tree_run program s id node note e f run
    ∙ ap (λ (path : List Coercion). coerced program.modes node.span.from note.goal note.mode path (made program b g node (seen program s note) node.kind)) bare
    ∙ ap (λ (k : NodeKind). made program b g node (seen program s note) k) is_choice
    ∙ ap (λ (p : ℕ). of p note.goal node.parts) (sym at) ∙ ap (λ (q : ℕ). of place q node.parts) (sym asked) ∙ ap (λ (is : List ℕ). of place goal is) (sym these) ∙ m g
    ∙ link_behind program id (tree_in program s) l within same

-- the enquiry of a node with these phrases is made of the trees behind it
pub enquiry_is : (a : Annotated) (f : ℕ → Tree) (enquiry at : ℕ) (ids : List ℕ) → option_map (λ (n : Node). n.parts) (slice_get a.tree.nodes enquiry) ≡ Some ids → AllBetween enquiry (length a.tree.nodes) ids
    → phrases_of at (trees_at (behind enquiry f) ids) ≡ phrases_of at (trees_at f (parts_at a enquiry))
enquiry_is a f enquiry at ids is all =
    ap (λ (ts : Trees). phrases_of at ts) (behind_all enquiry (length a.tree.nodes) f ids all)
    ∙ ap (λ (l : List ℕ). phrases_of at (trees_at f l)) (sym (parts_are (slice_get a.tree.nodes enquiry) ids is))

-- a choice by a number is made of the trees behind its node
pub case_is : (a : Annotated) (f : ℕ → Tree) (id place goal : ℕ) (yields : Bool) (e : ℕ) (rest ids units : List ℕ) (other : Option ℕ) (node : Node) (note : Note) → slice_get a.tree.nodes e ≡ Some node
    → slice_get a.notes e ≡ Some note → option_map (λ (n : Node). n.parts) (slice_get a.tree.nodes e) ≡ Some ids → AllBetween e (length a.tree.nodes) ids → id < e
    → units ≡ before_out a rest → other ≡ out_of a rest → IfSome other (λ p. (id < p) × (p < length a.tree.nodes))
    → framed node.span.from place note.slots yields (cases place (phrases_of node.span.from (trees_at (behind e f) ids)) (trees_at (behind id f) units)
    (option_map_or f other (left_out place goal)))
    ≡ case_of a (behind id f) place goal yields (e ∷ rest)
case_is a f id place goal yields e rest ids units other node note is noted parts all below eu eo within =
    let n = length a.tree.nodes in
    let g = behind id f in
    let at = node.span.from in
    let whole : Trees → Trees → Tree → Tree = λ ph us o. framed at place note.slots yields (cases place (phrases_of at ph) us o) in
    let same : node.parts ≡ ids = ap (λ (o : Option Node). option_map_or (λ (n : Node). n.parts) o []) (sym is) ∙ parts_are (slice_get a.tree.nodes e) ids parts in
    let phrases : trees_at (behind e f) ids ≡ trees_at g node.parts =
    behind_all e n f ids all ∙ sym (behind_all id n f ids (between-above id e n ids below all)) ∙ ap (λ (l : List ℕ). trees_at g l) (sym same) in
    let out : option_map_or f other (left_out place goal) ≡ option_map_or g (out_of a rest) (left_out place goal) =
    sym (other_behind id n place goal f other within) ∙ ap (λ (o : Option ℕ). option_map_or g o (left_out place goal)) eo in
    let go : Tree → Tree = λ q. cases place q (trees_at g (before_out a rest)) (option_map_or g (out_of a rest) (left_out place goal)) in
    ap (λ (ph : Trees). whole ph (trees_at g units) (option_map_or f other (left_out place goal))) phrases
    ∙ ap (λ (us : List ℕ). whole (trees_at g node.parts) (trees_at g us) (option_map_or f other (left_out place goal))) eu
    ∙ ap (λ (o : Tree). whole (trees_at g node.parts) (trees_at g (before_out a rest)) o) out
    ∙ sym (ap (λ (o : Option Node). begun_by g place yields o (slice_get a.notes e) go) is ∙ ap (λ (m : Option Note). begun_by g place yields (Some node) m go) noted)
