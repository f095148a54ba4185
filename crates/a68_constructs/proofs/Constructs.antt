-- What each function that writes a construct has written, and what is refused midway.
use Rattle.std.proofs.Common.{◌≡◌, ◌≢◌, ℕ, zero, suc, ◌+◌, ◌-◌, ◌<◌, ◌≤◌, ne_eqb, nat_lt, Bool, true, false, List, [], ◌∷◌, ◌++◌, length, drop, take, get_or, refl, sym, ◌∙◌, ap, arith, append_assoc, append-nil, drop-cons, add-one, length-append, None, Some, slice_get}
use Rattle.std.proofs.lemmas.Bool.{false≢true, ltb-true, ltb-false}
use Rattle.std.proofs.lemmas.List.{take_all}
use Rattle.std.specs.Option.{is_some, option_map, option_map_or}
use Rattle.std.specs.Prelude.{not, ◌&&◌, if◌then◌else◌}
use Rattle.std.specs.declared.option.Option.{Option}
use Rattle.a68_base.specs.declared.refusal.Stop.{Stop}
use Rattle.a68_annot.specs.declared.annotated.Annotated.{Annotated}
use Rattle.a68_annot.specs.declared.note.Note.{Note}
use Rattle.a68_tree.specs.declared.node.Node.{Node}
use Rattle.a68_code.specs.declared.code.Instr.{Instr}
use Rattle.a68_acts.specs.Operations.{bind, tag, compose, display, row_up, row_up_name, select, Operation}
use Rattle.a68_code.specs.declared.does.Does.{Does}
use Rattle.a68_code.specs.declared.does.Does.TheVariants as does
use Rattle.a68_elab.specs.Made as made
use Rattle.a68_elab.specs.Programs as programs
use Rattle.a68_elab.specs.Programs.{Seat, test_seated}
use Rattle.a68_elab.specs.Made.{coerced, behind_proc, behind_ref, leaf, only, rowed_to, trees_at, all_but_last, last_tree}
use Rattle.a68_elab.specs.Programs.{tree_in}
use Rattle.a68_elab.specs.declared.bound.Bound.{Bound}
use Rattle.a68_elab.specs.declared.sight.Sight.{Sight}
use Rattle.a68_elab.specs.Trees.{Tree, Trees, operation, together, collateral, serial, call, meaningless, no_trees, ◌and_tree◌, count, Test, no_test, while_in}
use Rattle.a68_emit.specs.Coercing.{coercions, are_built}
use Rattle.a68_emit.specs.Forms.{form_of}
use Rattle.a68_emit.specs.declared.single.CollateralForm.TheVariants as form
use Rattle.a68_emit.specs.Listing.{instr, opens, size, sizes, stretch, stretches, test_stretch}
use Rattle.a68_constructs.proofs.Lying.{behind_lies, count_rising}
use Rattle.a68_constructs.specs.Loops.{asked, unless_at}
use Rattle.a68_constructs.specs.Sources.{assigned_tree}
use Rattle.a68_emit.specs.Stretches.{does_of}
use Rattle.a68_emit.proofs.Linking.{parts_are}
use Rattle.a68_emit.proofs.Sizes.{size_stretch}
use Rattle.a68_emit.specs.Views.{laid_of, lying, raised, rising}
use Rattle.a68_emit.specs.Writing.{Writes}
use Rattle.a68_emit.specs.declared.view.View.{View}
use Rattle.a68_modes.specs.Nodes.{shape_at, is_void}
use Rattle.a68_modes.specs.declared.coercion.Coercion.{Coercion}
use Rattle.a68_modes.specs.declared.coercion.Coercion.TheVariants as coercion
use Rattle.a68_modes.specs.declared.shape.Shape.{Shape}
use Rattle.a68_modes.specs.declared.shape.Shape.TheVariants as shape

-- ---- units

one_more : (xs ys : List Instr) (x : Instr) → ((xs ++ []) ++ x ∷ []) ++ ys ≡ xs ++ (x ∷ ys)
one_more xs ys x = ap (λ l. (l ++ x ∷ []) ++ ys) (append-nil xs) ∙ append_assoc xs (x ∷ []) ys

abbrev row_of : (place : ℕ) (op : ℕ → Operation) (t : Tree) (m : ℕ) → Tree
row_of place op t m = operation place (op m) serial (only t)

-- a rowing to a mode that is there, where what is behind it is as it should be
rowed_list : (place at : ℕ) (op : ℕ → Operation) (t : Tree) (o : Option ℕ) (built : Bool) (go : ℕ → Tree → Tree) (behind : ℕ → List Instr)
    → (built ≡ true → (m : ℕ) (u : Tree) → stretch (go m u) at ≡ stretch u at ++ behind m) → (is_some o && built) ≡ true
    → stretch (option_map_or (λ m. go m (row_of place op t m)) o meaningless) at
    ≡ stretch t at ++ (instr place (does_of (op (option_map_or (λ m. m) o 0)) 1) ∷ behind (option_map_or (λ m. m) o 0))
rowed_list place at op t None built go behind each is = absurd (false≢true is)
rowed_list place at op t (Some m) built go behind each is = each is m (row_of place op t m) ∙ one_more (stretch t at) (behind m) (instr place (does_of (op m) 1))

-- the instructions of a unit are those of its construct and of its coercions, where these are built
pub coerced_list : (modes : List Shape) (place goal mode at : ℕ) (path : List Coercion) (t : Tree) → are_built modes goal path ≡ true
    → stretch (coerced modes place goal mode path t) at ≡ stretch t at ++ coercions modes place goal mode path
coerced_list modes place goal mode at [] t built = sym (append-nil (stretch t at))
coerced_list modes place goal mode at (coercion.Deref ∷ path) t built =
    let m = behind_ref (shape_at modes mode) in
    coerced_list modes place goal m at path _ built ∙ one_more (stretch t at) (coercions modes place goal m path) (instr place (does.Deref m))
coerced_list modes place goal mode at (coercion.Deproc ∷ path) t built =
    let m = behind_proc (shape_at modes mode) in
    let gives = not (is_void (shape_at modes m)) in
    coerced_list modes place goal m at path _ built ∙ one_more (stretch t at) (coercions modes place goal m path) (instr place (does.Call 0 gives))
coerced_list modes place goal mode at (coercion.Unite m ∷ path) t built =
    coerced_list modes place goal m at path _ built ∙ one_more (stretch t at) (coercions modes place goal m path) (instr place (does.Unite m))
coerced_list modes place goal mode at (coercion.Widen ∷ path) t built =
    coerced_list modes place goal 11 at path _ built ∙ one_more (stretch t at) (coercions modes place goal 11 path) (instr place does.Widen)
coerced_list modes place goal mode at (coercion.RowUp ∷ path) t built =
    rowed_list place at (λ m. row_up m) t (rowed_to modes goal path) (are_built modes goal path) (λ m u. coerced modes place goal m path u) (λ m. coercions modes place goal m path)
    (λ b m u. coerced_list modes place goal m at path u b) built
coerced_list modes place goal mode at (coercion.RowUpName ∷ path) t built =
    rowed_list place at (λ m. row_up_name m) t (rowed_to modes goal path) (are_built modes goal path) (λ m u. coerced modes place goal m path u) (λ m. coercions modes place goal m path)
    (λ b m u. coerced_list modes place goal m at path u b) built
coerced_list modes place goal mode at (coercion.Drop ∷ path) t built =
    coerced_list modes place goal 0 at path _ built ∙ one_more (stretch t at) (coercions modes place goal 0 path) (instr place does.Drop)

rowed_none : (o : Option ℕ) (built : Bool) (go : ℕ → Tree) → (built ≡ false → (m : ℕ) → go m ≡ meaningless) → (is_some o && built) ≡ false → option_map_or go o meaningless ≡ meaningless
rowed_none None built go each none = refl
rowed_none (Some m) built go each none = each none m

-- with others the unit stands for no construct
pub coerced_meaningless : (modes : List Shape) (place goal mode : ℕ) (path : List Coercion) (t : Tree) → are_built modes goal path ≡ false → coerced modes place goal mode path t ≡ meaningless
coerced_meaningless modes place goal mode [] t none = absurd (false≢true (sym none))
coerced_meaningless modes place goal mode (coercion.Deref ∷ path) t none = coerced_meaningless modes place goal _ path _ none
coerced_meaningless modes place goal mode (coercion.Deproc ∷ path) t none = coerced_meaningless modes place goal _ path _ none
coerced_meaningless modes place goal mode (coercion.Unite m ∷ path) t none = coerced_meaningless modes place goal m path _ none
coerced_meaningless modes place goal mode (coercion.Widen ∷ path) t none = coerced_meaningless modes place goal 11 path _ none
coerced_meaningless modes place goal mode (coercion.RowUp ∷ path) t none =
    rowed_none (rowed_to modes goal path) (are_built modes goal path) (λ m. coerced modes place goal m path (row_of place (λ n. row_up n) t m))
    (λ b m. coerced_meaningless modes place goal m path _ b) none
coerced_meaningless modes place goal mode (coercion.RowUpName ∷ path) t none =
    rowed_none (rowed_to modes goal path) (are_built modes goal path) (λ m. coerced modes place goal m path (row_of place (λ n. row_up_name n) t m))
    (λ b m. coerced_meaningless modes place goal m path _ b) none
coerced_meaningless modes place goal mode (coercion.Drop ∷ path) t none = coerced_meaningless modes place goal 0 path _ none

-- ---- parts

-- the parts from one on
pub part-cons : (f : ℕ → Tree) (at i : ℕ) (ids : List ℕ) → i < length ids
    → stretches (trees_at f (drop i ids)) at ≡ stretch (f (get_or ids i 0)) at ++ stretches (trees_at f (drop (i + 1) ids)) (at + length (stretch (f (get_or ids i 0)) at))
part-cons f at i ids p = rw (add-one, drop-cons ids i 0, size_stretch (f (get_or ids i 0)) at) refl

pub two_parts : (ids : List ℕ) → length ids ≡ 2 → ids ≡ get_or ids 0 0 ∷ get_or ids 1 0 ∷ []
two_parts [] e = absurd (omega arith)
two_parts (a ∷ []) e = absurd (omega arith)
two_parts (a ∷ b ∷ []) e = refl
two_parts (a ∷ b ∷ c ∷ ids) e = absurd (omega arith)

-- ---- definitions and calls

pub definition_whole : (place slot at : ℕ) (t : Tree) → stretch t at ++ instr place (does.Bind slot) ∷ [] ≡ stretch (operation place (bind slot) serial (only t)) at
definition_whole place slot at t = ap (λ l. l ++ instr place (does.Bind slot) ∷ []) (sym (append-nil (stretch t at)))

pub last_is : (f : ℕ → Tree) (ids : List ℕ) → 0 < length ids → last_tree (trees_at f ids) ≡ f (get_or ids (length ids - 1) 0)
last_is f [] some = absurd (omega arith)
last_is f (a ∷ []) some = refl
last_is f (a ∷ (b ∷ ids)) some =
    let e : length (a ∷ (b ∷ ids)) - 1 ≡ suc (length (b ∷ ids) - 1) = omega arith in
    last_is f (b ∷ ids) (omega arith) ∙ sym (ap (λ n. f (get_or (a ∷ (b ∷ ids)) n 0)) e)

pub count_trees : (f : ℕ → Tree) (ids : List ℕ) → count (trees_at f ids) ≡ length ids
count_trees f [] = refl
count_trees f (i ∷ ids) = ap (λ n. suc n) (count_trees f ids)

-- a call of the first part with the others
pub call_list : (v : View) (id : ℕ) (ids : List ℕ) (place n at : ℕ) (yields : Bool) → 0 < length ids → n ≡ length ids - 1
    → stretches (rising v id ids) at ++ instr place (does.Call n yields) ∷ [] ≡ stretch (call place yields (rising v id ids)) at
call_list v id [] place n at yields some e = absurd (omega arith)
call_list v id (i ∷ ids) place n at yields some e =
    let many : n ≡ count (rising (raised v) id ids) = (let c = count_rising (raised v) id ids in omega arith) in
    ap (λ (k : ℕ). stretches (rising v id (i ∷ ids)) at ++ instr place (does.Call k yields) ∷ []) many

-- a call of what a tag stands for
pub applied_list : (ts : Trees) (place hops slot n at : ℕ) (yields : Bool) → n ≡ count ts
    → (instr place (does.Tag hops slot) ∷ []) ++ (stretches ts (at + 1) ++ instr place (does.Call n yields) ∷ [])
    ≡ stretch (call place yields (leaf place (tag hops slot) and_tree ts)) at
applied_list ts place hops slot n at yields many =
    ap (λ (k : ℕ). (instr place (does.Tag hops slot) ∷ []) ++ (stretches ts (at + 1) ++ instr place (does.Call k yields) ∷ [])) many

-- ---- bounds

-- the instruction of a new name
abbrev pub new_does : (in_heap : Bool) (mode bounds : ℕ) → Does
new_does in_heap mode bounds = if in_heap then does.Heap mode bounds else does.Make mode bounds

pub new_list : (in_heap : Bool) (place mode at : ℕ) (bounds : Trees)
    → stretches bounds at ++ instr place (new_does in_heap mode (count bounds)) ∷ [] ≡ stretch (made.new_name in_heap place mode bounds) at
new_list true place mode at bounds = refl
new_list false place mode at bounds = refl

pub count_bounds : (g : (frames id : ℕ) → Tree) (f : ℕ → Tree) (place : ℕ) (bounds : List Bound) → count (made.bound_trees g f place bounds) ≡ length bounds
count_bounds g f place [] = refl
count_bounds g f place (b ∷ bounds) = ap (λ n. suc n) (count_bounds g f place bounds)

-- bounds from one on
pub bound-cons : (g : (frames id : ℕ) → Tree) (f : ℕ → Tree) (place at i : ℕ) (bounds : List Bound) (d : Bound) → i < length bounds
    → stretches (made.bound_trees g f place (drop i bounds)) at
    ≡ stretch (made.bound_tree g f place (get_or bounds i d)) at
    ++ stretches (made.bound_trees g f place (drop (i + 1) bounds)) (at + length (stretch (made.bound_tree g f place (get_or bounds i d)) at))
bound-cons g f place at i bounds d p = rw (add-one, drop-cons bounds i d, size_stretch (made.bound_tree g f place (get_or bounds i d)) at) refl

-- a number of no node has no tree
tree-past : (a : Annotated) (s : Sight) (g : (frames id : ℕ) → Tree) (base k : ℕ) (nodes : List Node) (notes : List Note) → base + length nodes ≤ k → programs.tree_from a s g base nodes notes k ≡ meaningless
tree-past a s g base k [] notes past = refl
tree-past a s g base k (n ∷ nodes) [] past = refl
tree-past a s g base k (n ∷ nodes) (m ∷ notes) past =
    let f = programs.tree_from a s g (suc base) nodes notes in
    let other : k ≢ base = λ e. omega (arith, past, e) in
    ap (λ (b : Bool). if b then programs.fitting a n m (programs.unit a g f n (made.seen a s m)) else f k) (ne_eqb k base other) ∙ tree-past a s g (suc base) k nodes notes (omega (arith, past))

pub none-past : (a : Annotated) (s : Sight) (k : ℕ) → length a.tree.nodes ≤ k → tree_in a s k ≡ meaningless
unfolding tree_in
none-past a s k past = tree-past a s (programs.defined_bound a s) 0 k a.tree.nodes a.notes (omega (arith, past))

-- nor has one that does not stand behind a node
pub none-behind : (a : Annotated) (s : Sight) (id k : ℕ) → (nat_lt id k && nat_lt k (length a.tree.nodes)) ≡ false → programs.behind id (tree_in a s) k ≡ meaningless
none-behind a s id k is = go (nat_lt id k) is
  where
    go : (b : Bool) → (b && nat_lt k (length a.tree.nodes)) ≡ false → (if b then tree_in a s k else meaningless) ≡ meaningless
    go true e = none-past a s k (ltb-false k (length a.tree.nodes) e)
    go false e = refl

pub none_laid : (v : View) (id k : ℕ) → (nat_lt id k && nat_lt k (length v.of.now.tree.nodes)) ≡ false → programs.behind id (laid_of v) k ≡ meaningless
none_laid v id k is = sym (behind_lies v id k) ∙ ap (λ (t : Tree). lying v t) (none-behind v.of.now v.sight id k is)

pub stands-behind : (id k n : ℕ) → (nat_lt id k && nat_lt k n) ≡ true → (id < k) × (k < n)
stands-behind id k n is = go (nat_lt id k) (nat_lt k n) refl refl is
  where
    go : (b c : Bool) → nat_lt id k ≡ b → nat_lt k n ≡ c → (b && c) ≡ true → (id < k) × (k < n)
    go true true p q e = (ltb-true id k p, ltb-true k n q)
    go true false p q e = absurd (false≢true e)
    go false c p q e = absurd (false≢true e)

-- ---- indexes

pub index-units-next : (a : Annotated) (f : ℕ → Tree) (at i : ℕ) (ids : List ℕ) → i < length ids
    → stretches (trees_at f (made.index_units a (drop i ids))) at
    ≡ stretches (trees_at f (made.parts_at a (get_or ids i 0))) at
    ++ stretches (trees_at f (made.index_units a (drop (i + 1) ids))) (at + length (stretches (trees_at f (made.parts_at a (get_or ids i 0))) at))
index-units-next a f at i ids less =
    rw (add-one, drop-cons ids i 0) (both-lists f (made.parts_at a (get_or ids i 0)) (made.index_units a (drop (suc i) ids)) at)
  where
    both-lists : (f : ℕ → Tree) (xs ys : List ℕ) (at : ℕ)
        → stretches (trees_at f (xs ++ ys)) at ≡ stretches (trees_at f xs) at ++ stretches (trees_at f ys) (at + length (stretches (trees_at f xs) at))
    both-lists f [] ys at = let z : at + 0 ≡ at = omega arith in rw z refl
    both-lists f (x ∷ xs) ys at =
        let m = at + size (f x) in
        let s = stretches (trees_at f xs) m in
        let long : length (stretch (f x) at ++ s) ≡ size (f x) + length s = length-append (stretch (f x) at) s ∙ ap (λ n. n + length s) (size_stretch (f x) at) in
        let z : at + length (stretch (f x) at ++ s) ≡ m + length s = omega (arith, long) in
        rw z (ap (λ l. stretch (f x) at ++ l) (both-lists f xs ys m) ∙ sym (append_assoc (stretch (f x) at) s (stretches (trees_at f ys) (m + length s))))

pub slice_list : (a : Annotated) (f : ℕ → Tree) (place at : ℕ) (ids : List ℕ) → 0 < length ids
    → stretch (f (get_or ids 0 0)) at
    ++ (stretches (trees_at f (made.index_units a (drop 1 ids))) (at + length (stretch (f (get_or ids 0 0)) at)) ++ instr place (does.Slice (made.forms_of a (drop 1 ids))) ∷ [])
    ≡ stretch (made.slice_of a f place ids) at
slice_list a f place at [] some = absurd (omega arith)
slice_list a f place at (x ∷ ids) some =
    let s = stretch (f x) at in
    let rest = stretches (trees_at f (made.index_units a ids)) (at + size (f x)) in
    rw (size_stretch (f x) at) (sym (append_assoc s rest (instr place (does.Slice (made.forms_of a ids)) ∷ [])))

-- ---- structures

-- a collateral clause of a mode, by what that is
pub void_collateral : (s : Shape) (place mode : ℕ) (ts : Trees) → form_of s ≡ form.Void → made.collateral_of s place mode ts ≡ together ts
void_collateral shape.Void place mode ts e = refl
void_collateral (shape.Struct fields) place mode ts e = absurd (cc)
void_collateral (shape.Rows dims flex of) place mode ts e = absurd (cc)
void_collateral _ place mode ts e = absurd (cc)

pub structure_collateral : (s : Shape) (place mode : ℕ) (ts : Trees) → form_of s ≡ form.Structure → made.collateral_of s place mode ts ≡ operation place (compose (count ts)) collateral ts
structure_collateral shape.Void place mode ts e = absurd (cc)
structure_collateral (shape.Struct fields) place mode ts e = refl
structure_collateral (shape.Rows dims flex of) place mode ts e = absurd (cc)
structure_collateral _ place mode ts e = absurd (cc)

pub row_collateral : (s : Shape) (place mode : ℕ) (ts : Trees) → form_of s ≡ form.Row → made.collateral_of s place mode ts ≡ operation place (display (count ts) mode) collateral ts
row_collateral shape.Void place mode ts e = absurd (cc)
row_collateral (shape.Struct fields) place mode ts e = absurd (cc)
row_collateral (shape.Rows dims flex of) place mode ts e = refl
row_collateral _ place mode ts e = absurd (cc)

pub other_collateral : (s : Shape) (place mode : ℕ) (ts : Trees) → form_of s ≡ form.Other → made.collateral_of s place mode ts ≡ meaningless
other_collateral shape.Void place mode ts e = absurd (cc)
other_collateral (shape.Struct fields) place mode ts e = absurd (cc)
other_collateral (shape.Rows dims flex of) place mode ts e = absurd (cc)
other_collateral _ place mode ts e = refl

pub select_whole : (place mode field at : ℕ) (t : Tree) → stretch t at ++ instr place (does.Select mode field) ∷ [] ≡ stretch (operation place (select mode field) serial (only t)) at
select_whole place mode field at t = ap (λ l. l ++ instr place (does.Select mode field) ∷ []) (sym (append-nil (stretch t at)))

-- ---- serial clauses

pub phrases_list : (t : Tree) (ts : Trees) (at : ℕ)
    → stretches (all_but_last (t and_tree ts)) at ++ stretch (last_tree (t and_tree ts)) (at + sizes (all_but_last (t and_tree ts))) ≡ stretches (t and_tree ts) at
phrases_list t no_trees at = let e : at + 0 ≡ at = omega arith in rw e (sym (append-nil (stretch t at)))
phrases_list t (u and_tree ts) at =
    let s = stretch t at in
    let m = at + size t in
    let before = stretches (all_but_last (u and_tree ts)) m in
    let n = sizes (all_but_last (u and_tree ts)) in
    let e : at + (size t + n) ≡ m + n = omega arith in
    rw e (append_assoc s before (stretch (last_tree (u and_tree ts)) (m + n)) ∙ ap (λ l. s ++ l) (phrases_list u ts m))

-- a clause without a frame
pub plain_serial : (place slots at : ℕ) (yields : Bool) (t : Tree) (ts : Trees) → slots ≡ 0
    → stretches (t and_tree ts) at ≡ stretch (made.serial_of place slots yields (t and_tree ts)) at
plain_serial place zero at yields t ts e = sym (phrases_list t ts at)
plain_serial place (suc n) at yields t ts e = absurd (omega arith)

-- a clause with a frame
pub framed_serial : (place slots at kept : ℕ) (yields : Bool) (t : Tree) (ts : Trees) → slots ≢ 0 → kept ≡ (if yields then 1 else 0)
    → (instr place (does.Enter slots) ∷ []) ++ (stretches (t and_tree ts) (at + 1) ++ instr place (does.Leave kept) ∷ []) ≡ stretch (made.serial_of place slots yields (t and_tree ts)) at
framed_serial place zero at kept yields t ts n e = absurd (n refl)
framed_serial place (suc n) at kept yields t ts ne e =
    let l = instr place (does.Leave (if yields then 1 else 0)) in
    ap (λ k. instr place (does.Enter (suc n)) ∷ (stretches (t and_tree ts) (at + 1) ++ instr place (does.Leave k) ∷ [])) e
    ∙ ap (λ x. instr place (does.Enter (suc n)) ∷ (x ++ l ∷ [])) (sym (phrases_list t ts (at + 1)))

-- a construct in a frame
pub framed_whole : (place slots at kept : ℕ) (yields : Bool) (t : Tree) → slots ≢ 0 → kept ≡ (if yields then 1 else 0)
    → (instr place (does.Enter slots) ∷ []) ++ (stretch t (at + 1) ++ instr place (does.Leave kept) ∷ []) ≡ stretch (made.framed place place slots yields t) at
framed_whole place zero at kept yields t n e = absurd (n refl)
framed_whole place (suc n) at kept yields t ne e = ap (λ k. instr place (does.Enter (suc n)) ∷ (stretch t (at + 1) ++ instr place (does.Leave k) ∷ [])) e

-- ---- variables

pub declared_plain : (f : ℕ → Tree) (new : Tree) (begins : Bool) (place mode slot at : ℕ) (ids : List ℕ) → begins ≡ true → length ids ≡ 1
    → stretch new at ++ instr place (does.Bind slot) ∷ [] ≡ stretch (made.variable_of new begins place mode slot (trees_at f ids)) at
declared_plain f new false place mode slot at ids is e = absurd (false≢true is)
declared_plain f new true place mode slot at [] is e = absurd (omega arith)
declared_plain f new true place mode slot at (a ∷ []) is e = ap (λ l. l ++ instr place (does.Bind slot) ∷ []) (sym (append-nil (stretch new at)))
declared_plain f new true place mode slot at (a ∷ (b ∷ ids)) is e = absurd (omega arith)

pub declared_none : (f : ℕ → Tree) (new : Tree) (begins : Bool) (place mode slot : ℕ) (ids : List ℕ) → begins ≡ true → length ids ≢ 1 → length ids ≢ 2
    → meaningless ≡ made.variable_of new begins place mode slot (trees_at f ids)
declared_none f new false place mode slot ids is n m = absurd (false≢true is)
declared_none f new true place mode slot [] is n m = refl
declared_none f new true place mode slot (a ∷ []) is n m = absurd (n refl)
declared_none f new true place mode slot (a ∷ (b ∷ [])) is n m = absurd (m refl)
declared_none f new true place mode slot (a ∷ (b ∷ (c ∷ ids))) is n m = refl

pub begun_none : (f : ℕ → Tree) (new : Tree) (begins : Bool) (place mode slot : ℕ) (ids : List ℕ) → begins ≡ false → length ids ≢ 1
    → meaningless ≡ made.variable_of new begins place mode slot (trees_at f ids)
begun_none f new true place mode slot ids is n = absurd (false≢true (sym is))
begun_none f new false place mode slot [] is n = refl
begun_none f new false place mode slot (a ∷ []) is n = absurd (n refl)
begun_none f new false place mode slot (a ∷ (b ∷ ids)) is n = refl

pub begun_tree : (f : ℕ → Tree) (new : Tree) (begins : Bool) (place mode slot : ℕ) (ids : List ℕ) → begins ≡ false → length ids ≡ 1
    → assigned_tree new place mode slot (f (get_or ids 0 0)) ≡ made.variable_of new begins place mode slot (trees_at f ids)
begun_tree f new true place mode slot ids is n = absurd (false≢true (sym is))
begun_tree f new false place mode slot [] is n = absurd (omega arith)
begun_tree f new false place mode slot (a ∷ []) is n = refl
begun_tree f new false place mode slot (a ∷ (b ∷ ids)) is n = absurd (omega arith)

pub declared_tree : (f : ℕ → Tree) (new : Tree) (begins : Bool) (place mode slot : ℕ) (ids : List ℕ) → begins ≡ true → length ids ≡ 2
    → assigned_tree new place mode slot (f (get_or ids 1 0)) ≡ made.variable_of new begins place mode slot (trees_at f ids)
declared_tree f new false place mode slot ids is n = absurd (false≢true is)
declared_tree f new true place mode slot [] is n = absurd (omega arith)
declared_tree f new true place mode slot (a ∷ []) is n = absurd (omega arith)
declared_tree f new true place mode slot (a ∷ (b ∷ [])) is n = refl
declared_tree f new true place mode slot (a ∷ (b ∷ (c ∷ ids))) is n = absurd (omega arith)

set_list : (n s : List Instr) (k b : Instr) → n ++ (s ++ k ∷ b ∷ []) ≡ (((n ++ (s ++ [])) ++ k ∷ []) ++ []) ++ b ∷ []
set_list n s k b =
    sym (ap (λ l. l ++ b ∷ []) (append-nil ((n ++ (s ++ [])) ++ k ∷ []))
    ∙ ap (λ l. ((n ++ l) ++ k ∷ []) ++ b ∷ []) (append-nil s)
    ∙ append_assoc (n ++ s) (k ∷ []) (b ∷ [])
    ∙ append_assoc n s (k ∷ b ∷ []))

pub assigned_list : (new : Tree) (place mode slot at : ℕ) (source : Tree)
    → stretch new at ++ (stretch source (at + length (stretch new at)) ++ instr place (does.Store mode) ∷ instr place (does.Bind slot) ∷ [])
    ≡ stretch (assigned_tree new place mode slot source) at
assigned_list new place mode slot at source =
    rw (size_stretch new at) (set_list (stretch new at) (stretch source (at + size new)) (instr place (does.Store mode)) (instr place (does.Bind slot)))

-- ---- what stands for no construct

pub only_none : (f : ℕ → Tree) (ids : List ℕ) → length ids ≢ 1 → meaningless ≡ made.only_of (trees_at f ids)
only_none f [] n = refl
only_none f (a ∷ []) n = absurd (n refl)
only_none f (a ∷ b ∷ ids) n = refl

pub one_part : (ids : List ℕ) → length ids ≡ 1 → ids ≡ get_or ids 0 0 ∷ []
one_part [] e = absurd (omega arith)
one_part (a ∷ []) e = refl
one_part (a ∷ b ∷ ids) e = absurd (omega arith)

pub three_parts : (ids : List ℕ) → length ids ≡ 3 → ids ≡ get_or ids 0 0 ∷ get_or ids 1 0 ∷ get_or ids 2 0 ∷ []
three_parts [] e = absurd (omega arith)
three_parts (a ∷ []) e = absurd (omega arith)
three_parts (a ∷ b ∷ []) e = absurd (omega arith)
three_parts (a ∷ b ∷ c ∷ []) e = refl
three_parts (a ∷ b ∷ c ∷ d ∷ ids) e = absurd (omega arith)

-- those behind the first
pub rest_parts : (ids : List ℕ) → 0 < length ids → ids ≡ get_or ids 0 0 ∷ take (length ids - 1) (drop 1 ids)
rest_parts [] some = absurd (omega arith)
rest_parts (a ∷ ids) some = ap (λ (l : List ℕ). a ∷ l) (sym (take_all (length (a ∷ ids) - 1) ids (omega arith)))

pub some_parts : (ids : List ℕ) → 0 < length ids → ids ≡ get_or ids 0 0 ∷ drop 1 ids
some_parts [] e = absurd (omega arith)
some_parts (a ∷ ids) e = refl

-- ---- loops

-- FROM, BY or TO, or what is meant where it is left out
pub control_list : (f : ℕ → Tree) (place at : ℕ) (part : Option ℕ) (op : Operation)
    → option_map_or (λ p. stretch (f p) at) part (instr place (does_of op 0) ∷ []) ≡ stretch (option_map_or f part (leaf place op)) at
control_list f place at (Some p) op = refl
control_list f place at None op = refl

pub three_list : (x y z : Tree) (at : ℕ) (rest : List Instr)
    → stretch x at ++ (stretch y (at + length (stretch x at)) ++ (stretch z (at + length (stretch x at) + length (stretch y (at + length (stretch x at)))) ++ rest))
    ≡ stretches (x and_tree (y and_tree (z and_tree no_trees))) at ++ rest
three_list x y z at rest =
    let m = at + size x in
    let n = m + size y in
    rw (size_stretch x at, size_stretch y m)
    (sym (append_assoc (stretch x at) (stretch y m ++ (stretch z n ++ [])) rest
    ∙ ap (λ k. stretch x at ++ k) (append_assoc (stretch y m) (stretch z n ++ []) rest ∙ ap (λ k. stretch y m ++ k) (append_assoc (stretch z n) [] rest))))

-- the phrases of a clause
pub phrases_whole : (place at : ℕ) (ts : Trees) → stretches ts at ≡ stretch (made.phrases_of place ts) at
phrases_whole place at no_trees = refl
phrases_whole place at (t and_tree ts) = sym (phrases_list t ts at)

-- an enquiry up to its Unless, and the Unless
pub asked_whole : (place at : ℕ) (u : Test) → (u ≡ no_test → ⊥) → asked u at ++ instr place (does.Unless 0) ∷ [] ≡ test_stretch place 0 u at
asked_whole place at no_test there = absurd (there refl)
asked_whole place at (while_in begin slots t) there = append_assoc (opens slots begin) (stretch t (at + length (opens slots begin))) (instr place (does.Unless 0) ∷ [])

-- where its Unless stands
pub unless_stands : (at : ℕ) (u : Test) → (u ≡ no_test → ⊥) → Some (at + length (asked u at)) ≡ unless_at u at
unless_stands at no_test there = absurd (there refl)
unless_stands at (while_in begin slots t) there =
    let o = opens slots begin in
    let long = size_stretch t (at + length o) in
    ap (λ n. Some n) (omega (arith, length-append o (stretch t (at + length o)), long))

enquiry_of_there : (s : Seat) (f : ℕ → Tree) (node : Option Node) (noted : Option Note) → test_seated s (made.enquiry_of f node noted) ≡ no_test → ⊥
enquiry_of_there s f (Some node) (Some note) e = absurd (cc)
enquiry_of_there s f (Some node) None e = absurd (cc)
enquiry_of_there s f None noted e = absurd (cc)

pub enquiry_there : (s : Seat) (a : Annotated) (f : ℕ → Tree) (clause : Option ℕ) → test_seated s (made.enquiry_at a f clause) ≡ no_test → ⊥
enquiry_there s a f (Some clause) e = enquiry_of_there s f (slice_get a.tree.nodes clause) (slice_get a.notes clause) e
enquiry_there s a f None e = absurd (cc)

-- the test of a loop with WHILE
pub test_is : (a : Annotated) (f : ℕ → Tree) (test : Option ℕ) (part : ℕ) (ids : List ℕ) → test ≡ Some part → option_map (λ (n : Node). n.parts) (slice_get a.tree.nodes part) ≡ Some ids
    → made.test_of a f test ≡ made.enquiry_at a f (made.only_id ids)
test_is a f test part ids e there =
    let parts : made.parts_at a part ≡ ids = parts_are (slice_get a.tree.nodes part) ids there in
    ap (λ (o : Option ℕ). made.test_of a f o) e ∙ ap (λ (l : List ℕ). made.enquiry_at a f (made.only_id l)) parts

-- ---- a writer that has stopped writes nothing

pub stopped_writes : (s : Option Stop) (l l' written : List Instr) → is_some s ≡ true → Writes s s l l' written
stopped_writes None l l' written e = absurd (false≢true e)
stopped_writes (Some stop) l l' written e = refl
