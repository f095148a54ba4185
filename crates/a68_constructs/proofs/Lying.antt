-- Trees with the numbers of their jumps, where they are written.
use Rattle.std.proofs.Common.{◌≡◌, ◌<◌, ◌+◌, ℕ, zero, suc, Bool, true, false, List, [], ◌∷◌, ◌++◌, length, length-append, append_assoc, drop, drop-cons, get_or, add-one, arith, refl, sym, ap, subst, ◌∙◌, None, Some, nat_lt}
use Rattle.std.specs.Option.{option_map_or}
use Rattle.std.specs.Prelude.{IfSome, pos, if◌then◌else◌}
use Rattle.std.specs.declared.option.Option.{Option}
use Rattle.a68_acts.specs.Operations.{constant, heap, make, skip, slice}
use Rattle.a68_annot.specs.declared.annotated.Annotated.{Annotated}
use Rattle.a68_elab.specs.Made.{all_but_last, bound_tree, bound_trees, forms_of, index_units, new_name, slice_of, variable_of, coerced, controls_of, denoted, leaf, framed, is_exit, is_label, kind_at, last_tree, left_out, only_of, parts_at, phrases_of, rowed_to, serial_of, steps_of, trees_at}
use Rattle.a68_elab.specs.Programs.{Seat, all_seated, behind, further_in, misfit, over, seated, steps_seated, test_seated}
use Rattle.a68_elab.specs.Trees.{Tree, Trees, collateral, operation, choice, phrases, meaningless, no_trees, ◌and_tree◌, count, Steps, last_step, step, exit, Test, no_test, while_in, depth_of}
use Rattle.a68_elab.specs.Trees.{deeper as frames_of}
use Rattle.a68_elab.specs.declared.bound.Bound.{Bound}
use Rattle.a68_emit.proofs.Sizes.{size_stretch}
use Rattle.a68_emit.specs.Chains.{enquiry_tree, link_tree, other_tree}
use Rattle.a68_code.specs.declared.does.Does.TheVariants as does
use Rattle.a68_constructs.specs.Sources.{assigned_tree}
use Rattle.a68_emit.specs.Listing.{instr, size, stretch, stretches}
use Rattle.a68_emit.specs.Views.{IsAlike, behind_values, bound_of, deeper, extra, laid_of, lying, raised, rising, rising_bounds, seat_of, tree_of, within}
use Rattle.a68_emit.specs.declared.chains.Link.{Link}
use Rattle.a68_emit.specs.declared.view.View.{View}
use Rattle.a68_modes.specs.declared.coercion.Coercion.{Coercion}
use Rattle.a68_modes.specs.declared.coercion.Coercion.TheVariants as coercion
use Rattle.a68_modes.specs.declared.shape.Shape.{Shape}
use Rattle.a68_tree.specs.Trees.{AllBetween}
use Rattle.a68_values.specs.Content.{Content, plain}
use Rattle.a68_values.specs.declared.plain.Plain.TheVariants as value

-- ---- misfits, coercions

pub misfit_lies : (s : Seat) (place : ℕ) (wanted : Bool) → seated s (misfit place wanted) ≡ misfit place wanted
misfit_lies s place true = refl
misfit_lies s place false = refl

pub denoted_lies : (s : Seat) (place : ℕ) (o : Option Content) → seated s (denoted place o) ≡ denoted place o
denoted_lies s place None = refl
denoted_lies s place (Some v) = refl

rowed_lies : (s : Seat) (o : Option ℕ) (go go2 : ℕ → Tree) → ((m : ℕ) → seated s (go m) ≡ go2 m) → seated s (option_map_or go o meaningless) ≡ option_map_or go2 o meaningless
rowed_lies s None go go2 each = refl
rowed_lies s (Some m) go go2 each = each m

pub coerced_lies : (s : Seat) (modes : List Shape) (place goal mode : ℕ) (path : List Coercion) (t : Tree) → seated s (coerced modes place goal mode path t) ≡ coerced modes place goal mode path (seated s t)
coerced_lies s modes place goal mode [] t = refl
coerced_lies s modes place goal mode (coercion.Deref ∷ path) t = coerced_lies s modes place goal _ path _
coerced_lies s modes place goal mode (coercion.Deproc ∷ path) t = coerced_lies s modes place goal _ path _
coerced_lies s modes place goal mode (coercion.Unite from ∷ path) t = coerced_lies s modes place goal from path _
coerced_lies s modes place goal mode (coercion.Widen ∷ path) t = coerced_lies s modes place goal _ path _
coerced_lies s modes place goal mode (coercion.RowUp ∷ path) t = rowed_lies s (rowed_to modes goal path) _ _ (λ m. coerced_lies s modes place goal m path _)
coerced_lies s modes place goal mode (coercion.RowUpName ∷ path) t = rowed_lies s (rowed_to modes goal path) _ _ (λ m. coerced_lies s modes place goal m path _)
coerced_lies s modes place goal mode (coercion.Drop ∷ path) t = coerced_lies s modes place goal _ path _

-- ---- parts

pub behind_lies : (v : View) (id i : ℕ) → lying v (behind id (tree_of v) i) ≡ behind id (laid_of v) i
behind_lies v id i = go (nat_lt id i)
  where
    go : (b : Bool) → lying v (if b then tree_of v i else meaningless) ≡ (if b then laid_of v i else meaningless)
    go true = refl
    go false = refl

-- parts that leave nothing
pub level : (v : View) (id : ℕ) (ids : List ℕ) → all_seated (seat_of v) false (trees_at (behind id (tree_of v)) ids) ≡ trees_at (behind id (laid_of v)) ids
level v id [] = refl
level v id (i ∷ ids) =
    ap (λ (t : Tree). t and_tree all_seated (seat_of v) false (trees_at (behind id (tree_of v)) ids)) (behind_lies v id i)
    ∙ ap (λ (ts : Trees). behind id (laid_of v) i and_tree ts) (level v id ids)

-- parts that leave a value each
pub rises : (v : View) (id : ℕ) (ids : List ℕ) → all_seated (seat_of v) true (trees_at (behind id (tree_of v)) ids) ≡ rising v id ids
rises v id [] = refl
rises v id (i ∷ ids) =
    ap (λ (t : Tree). t and_tree all_seated (seat_of (raised v)) true (trees_at (behind id (tree_of v)) ids)) (behind_lies v id i)
    ∙ ap (λ (ts : Trees). behind id (laid_of v) i and_tree ts) (rises (raised v) id ids)

pub bounds_rise : (v : View) (id place : ℕ) (bounds : List Bound) → all_seated (seat_of v) true (bound_trees (bound_of v) (behind id (tree_of v)) place bounds) ≡ rising_bounds v id place bounds
bounds_rise v id place [] = refl
bounds_rise v id place (b ∷ bounds) = ap (λ (ts : Trees). lying v (bound_tree (bound_of v) (behind id (tree_of v)) place b) and_tree ts) (bounds_rise (raised v) id place bounds)

pub count_lies : (s : Seat) (leave : Bool) (ts : Trees) → count (all_seated s leave ts) ≡ count ts
count_lies s leave no_trees = refl
count_lies s leave (t and_tree ts) = ap (λ n. suc n) (count_lies (over leave s) leave ts)

pub last_lies : (s : Seat) (ts : Trees) → seated s (last_tree ts) ≡ last_tree (all_seated s false ts)
last_lies s no_trees = refl
last_lies s (t and_tree no_trees) = refl
last_lies s (t and_tree (u and_tree ts)) = last_lies s (u and_tree ts)

but_last_lies : (s : Seat) (ts : Trees) → all_seated s false (all_but_last ts) ≡ all_but_last (all_seated s false ts)
but_last_lies s no_trees = refl
but_last_lies s (t and_tree no_trees) = refl
but_last_lies s (t and_tree (u and_tree ts)) = ap (λ (x : Trees). seated s t and_tree x) (but_last_lies s (u and_tree ts))

pub only_lies : (s : Seat) (ts : Trees) → seated s (only_of ts) ≡ only_of (all_seated s false ts)
only_lies s no_trees = refl
only_lies s (t and_tree no_trees) = refl
only_lies s (t and_tree (u and_tree ts)) = refl

pub phrases_lie : (s : Seat) (place : ℕ) (ts : Trees) → seated s (phrases_of place ts) ≡ phrases_of place (all_seated s false ts)
phrases_lie s place no_trees = refl
phrases_lie s place (t and_tree ts) =
    ap (λ (x : Trees). phrases place x (seated s (last_tree (t and_tree ts)))) (but_last_lies s (t and_tree ts))
    ∙ ap (λ (x : Tree). phrases place (all_but_last (all_seated s false (t and_tree ts))) x) (last_lies s (t and_tree ts))

pub framed_lies : (v : View) (at place slots : ℕ) (yields : Bool) (t : Tree) → lying v (framed at place slots yields t) ≡ framed at place slots yields (lying (within slots v) t)
framed_lies v at place zero yields t = refl
framed_lies v at place (suc n) yields t = refl

pub serial_lies : (v : View) (place slots : ℕ) (yields : Bool) (ts : Trees) → lying v (serial_of place slots yields ts) ≡ serial_of place slots yields (all_seated (seat_of (within slots v)) false ts)
serial_lies v place slots yields no_trees = refl
serial_lies v place slots yields (t and_tree ts) = framed_lies v place place slots yields (phrases_of place (t and_tree ts)) ∙ ap (framed place place slots yields) (phrases_lie (seat_of (within slots v)) place (t and_tree ts))

-- ---- steps

steps_if : (b : Bool) (x y x2 y2 : Steps) (s : Seat) → steps_seated s x ≡ x2 → steps_seated s y ≡ y2 → steps_seated s (if b then x else y) ≡ (if b then x2 else y2)
steps_if true x y x2 y2 s p q = p
steps_if false x y x2 y2 s p q = q

pub steps_lie : (v : View) (a : Annotated) (id : ℕ) (labels ids : List ℕ) → steps_seated (seat_of v) (steps_of a (behind id (tree_of v)) labels ids) ≡ steps_of a (behind id (laid_of v)) labels ids
steps_lie v a id labels [] = refl
steps_lie v a id labels (i ∷ []) = ap (λ (t : Tree). last_step labels t) (behind_lies v id i)
steps_lie v a id labels (i ∷ (j ∷ ids)) =
    steps_if (is_label (kind_at a i)) _ _ _ _ (seat_of v) (steps_lie v a id (labels ++ i ∷ []) (j ∷ ids))
    (steps_if (is_exit (kind_at a j)) _ _ _ _ (seat_of v)
    (ap (λ (t : Tree). exit labels t (steps_seated (seat_of v) (steps_of a (behind id (tree_of v)) [] ids))) (behind_lies v id i) ∙ ap (λ (x : Steps). exit labels (behind id (laid_of v) i) x) (steps_lie v a id [] ids))
    (ap (λ (t : Tree). step labels t (steps_seated (seat_of v) (steps_of a (behind id (tree_of v)) [] (j ∷ ids)))) (behind_lies v id i)
    ∙ ap (λ (x : Steps). step labels (behind id (laid_of v) i) x) (steps_lie v a id [] (j ∷ ids))))

-- ---- serial clauses

pub serial_is : (v : View) (id place slots : ℕ) (yields : Bool) (ids : List ℕ)
    → lying v (serial_of place slots yields (trees_at (behind id (tree_of v)) ids)) ≡ serial_of place slots yields (trees_at (behind id (laid_of (within slots v))) ids)
serial_is v id place slots yields ids = serial_lies v place slots yields (trees_at (behind id (tree_of v)) ids) ∙ ap (λ (ts : Trees). serial_of place slots yields ts) (level (within slots v) id ids)

pub within_none : (slots : ℕ) (v : View) → slots ≡ 0 → within slots v ≡ v
within_none zero v e = refl
within_none (suc n) v e = absurd (omega arith)

pub within_some : (slots : ℕ) (v : View) → (slots ≡ 0 → ⊥) → within slots v ≡ deeper 1 v
within_some zero v some = absurd (some refl)
within_some (suc n) v some = refl

-- ---- choices

all_level : (v : View) (ids : List ℕ) → all_seated (seat_of v) false (trees_at (tree_of v) ids) ≡ trees_at (laid_of v) ids
all_level v [] = refl
all_level v (i ∷ ids) = ap (λ (ts : Trees). laid_of v i and_tree ts) (all_level v ids)

pub other_lies : (v : View) (o : Option ℕ) (place goal : ℕ) → lying v (option_map_or (tree_of v) o (left_out place goal)) ≡ option_map_or (laid_of v) o (left_out place goal)
other_lies v None place goal = refl
other_lies v (Some i) place goal = refl

pub other_behind_lies : (v : View) (id : ℕ) (o : Option ℕ) (place goal : ℕ)
    → lying v (option_map_or (behind id (tree_of v)) o (left_out place goal)) ≡ option_map_or (behind id (laid_of v)) o (left_out place goal)
other_behind_lies v id None place goal = refl
other_behind_lies v id (Some i) place goal = behind_lies v id i

pub link_lies : (v : View) (a : Annotated) (l : Link) → lying v (link_tree a (tree_of v) l) ≡ link_tree a (laid_of (within l.slots v)) l
link_lies v a l =
    let w = within l.slots v in
    let whole : Tree → Tree → Tree = λ x y. framed l.at l.place l.slots l.yields (choice l.place x (laid_of w l.part) y) in
    framed_lies v l.at l.place l.slots l.yields (choice l.place (enquiry_tree a (tree_of v) l) (tree_of v l.part) (other_tree (tree_of v) l))
    ∙ ap (λ (t : Tree). whole t (lying w (other_tree (tree_of v) l))) (phrases_lie (seat_of w) l.at (trees_at (tree_of v) (parts_at a l.enquiry)) ∙ ap (phrases_of l.at) (all_level w (parts_at a l.enquiry)))
    ∙ ap (λ (t : Tree). whole (enquiry_tree a (laid_of w) l) t) (other_lies w l.other l.place l.goal)

-- ---- parts that leave values

pub count_rising : (v : View) (id : ℕ) (ids : List ℕ) → count (rising v id ids) ≡ length ids
count_rising v id [] = refl
count_rising v id (i ∷ ids) = ap (λ n. suc n) (count_rising (raised v) id ids)

pub count_rising_bounds : (v : View) (id place : ℕ) (bounds : List Bound) → count (rising_bounds v id place bounds) ≡ length bounds
count_rising_bounds v id place [] = refl
count_rising_bounds v id place (b ∷ bounds) = ap (λ n. suc n) (count_rising_bounds (raised v) id place bounds)

-- the parts from one on
pub rising-cons : (v : View) (id at i : ℕ) (ids : List ℕ) → i < length ids
    → stretches (rising v id (drop i ids)) at
    ≡ stretch (behind id (laid_of v) (get_or ids i 0)) at ++ stretches (rising (raised v) id (drop (i + 1) ids)) (at + length (stretch (behind id (laid_of v) (get_or ids i 0)) at))
rising-cons v id at i ids p = let next : i + 1 ≡ suc i = add-one i in rw (next, drop-cons ids i 0, size_stretch (behind id (laid_of v) (get_or ids i 0)) at) refl

pub rising-bounds-cons : (v : View) (id place at i : ℕ) (bounds : List Bound) (d : Bound) → i < length bounds
    → stretches (rising_bounds v id place (drop i bounds)) at
    ≡ stretch (lying v (bound_tree (bound_of v) (behind id (tree_of v)) place (get_or bounds i d))) at
    ++ stretches (rising_bounds (raised v) id place (drop (i + 1) bounds)) (at + length (stretch (lying v (bound_tree (bound_of v) (behind id (tree_of v)) place (get_or bounds i d))) at))
rising-bounds-cons v id place at i bounds d p =
    let next : i + 1 ≡ suc i = add-one i in
    rw (next, drop-cons bounds i d, size_stretch (lying v (bound_tree (bound_of v) (behind id (tree_of v)) place (get_or bounds i d))) at) refl

pub values_on : (v : View) (i : ℕ) (ids : List ℕ) → i < length ids → behind_values v (drop i ids) ≡ behind_values (raised v) (drop (i + 1) ids)
values_on v i ids p = let next : i + 1 ≡ suc i = add-one i in rw (next, drop-cons ids i 0) refl

-- two lists, one over the other
pub rising-both : (v : View) (id : ℕ) (xs ys : List ℕ) (at : ℕ)
    → stretches (rising v id (xs ++ ys)) at ≡ stretches (rising v id xs) at ++ stretches (rising (behind_values v xs) id ys) (at + length (stretches (rising v id xs) at))
rising-both v id [] ys at = let z : at + 0 ≡ at = omega arith in rw z refl
rising-both v id (x ∷ xs) ys at =
    let t = behind id (laid_of v) x in
    let m = at + size t in
    let s = stretches (rising (raised v) id xs) m in
    let long : length (stretch t at ++ s) ≡ size t + length s = length-append (stretch t at) s ∙ ap (λ n. n + length s) (size_stretch t at) in
    let z : at + length (stretch t at ++ s) ≡ m + length s = omega (arith, long) in
    rw z (ap (λ l. stretch t at ++ l) (rising-both (raised v) id xs ys m) ∙ sym (append_assoc (stretch t at) s (stretches (rising (behind_values (raised v) xs) id ys) (m + length s))))

-- the same view from over more values
abbrev pub IsOver : View → View → Type 0
IsOver v w = w ≡ record v { height = w.height }

pub still_over : (v w x : View) → IsOver v w → x ≡ raised w → IsOver v x
still_over v w x over next = next ∙ ap raised over ∙ sym (ap (λ (y : View). record v { height = y.height }) (next ∙ ap raised over))

pub still_behind : (v w : View) (ids : List ℕ) → IsOver v w → IsOver v (behind_values w ids)
still_behind v w [] over = over
still_behind v w (i ∷ ids) over = still_behind v (raised w) ids (still_over v w (raised w) over refl)

pub over_is_alike : (v w : View) → IsOver v w → IsAlike v w
over_is_alike v w e = record { of = ap (λ (x : View). x.of) e; sight = ap (λ (x : View). x.sight) e; nodes = ap (λ (x : View). length x.of.now.tree.nodes) e; left = ap extra e }

-- parts of a node, in a view that is alike
pub still_between : (v w : View) (id : ℕ) (ids : List ℕ) → IsAlike v w → AllBetween id (length v.of.now.tree.nodes) ids → AllBetween id (length w.of.now.tree.nodes) ids
still_between v w id ids alike b = subst (λ (n : ℕ). AllBetween id n ids) (sym alike.nodes) b

pub still_within : (v w : View) (id p : ℕ) → IsAlike v w → (id < p) × (p < length v.of.now.tree.nodes) → (id < p) × (p < length w.of.now.tree.nodes)
still_within v w id p alike b = (b.0, subst (λ (n : ℕ). p < n) (sym alike.nodes) b.1)

pub still_some : (v w : View) (id : ℕ) (o : Option ℕ) → IsAlike v w → IfSome o (λ p. (id < p) × (p < length v.of.now.tree.nodes)) → IfSome o (λ p. (id < p) × (p < length w.of.now.tree.nodes))
still_some v w id o alike b = subst (λ (n : ℕ). IfSome o (λ p. (id < p) × (p < n))) (sym alike.nodes) b

-- ---- names

pub new_lies : (v : View) (id place mode : ℕ) (in_heap : Bool) (bounds : List Bound)
    → lying v (new_name in_heap place mode (bound_trees (bound_of v) (behind id (tree_of v)) place bounds)) ≡ new_name in_heap place mode (rising_bounds v id place bounds)
new_lies v id place mode in_heap bounds = go in_heap
  where
    ts : Trees
    ts = bound_trees (bound_of v) (behind id (tree_of v)) place bounds

    many : count ts ≡ count (rising_bounds v id place bounds)
    many = sym (count_lies (seat_of v) true ts) ∙ ap count (bounds_rise v id place bounds)

    go : (b : Bool) → lying v (new_name b place mode ts) ≡ new_name b place mode (rising_bounds v id place bounds)
    go true =
        ap (λ (x : Trees). operation place (heap mode (count ts)) collateral x) (bounds_rise v id place bounds)
        ∙ ap (λ (n : ℕ). operation place (heap mode n) collateral (rising_bounds v id place bounds)) many
    go false =
        ap (λ (x : Trees). operation place (make mode (count ts)) collateral x) (bounds_rise v id place bounds)
        ∙ ap (λ (n : ℕ). operation place (make mode n) collateral (rising_bounds v id place bounds)) many

pub assigned_lies : (v : View) (id place mode slot i : ℕ) (new : Tree)
    → assigned_tree (lying v new) place mode slot (behind id (laid_of (raised v)) i) ≡ lying v (assigned_tree new place mode slot (behind id (tree_of v) i))
assigned_lies v id place mode slot i new = ap (λ (t : Tree). assigned_tree (lying v new) place mode slot t) (sym (behind_lies (raised v) id i))

pub plain_lies : (v : View) (id place mode slot : ℕ) (ids : List ℕ) (new : Tree) → length ids ≡ 1
    → variable_of (lying v new) true place mode slot (trees_at (behind id (tree_of v)) ids) ≡ lying v (variable_of new true place mode slot (trees_at (behind id (tree_of v)) ids))
plain_lies v id place mode slot [] new one = absurd (omega arith)
plain_lies v id place mode slot (i ∷ []) new one = refl
plain_lies v id place mode slot (i ∷ (j ∷ ids)) new one = absurd (omega arith)

-- ---- operations on values of parts

pub count_lie : (v : View) (id : ℕ) (ids : List ℕ) → count (trees_at (behind id (tree_of v)) ids) ≡ count (rising v id ids)
count_lie v id ids = sym (count_lies (seat_of v) true (trees_at (behind id (tree_of v)) ids)) ∙ ap count (rises v id ids)

pub slice_lies : (v : View) (a : Annotated) (id place i : ℕ) (ids : List ℕ)
    → lying v (slice_of a (behind id (tree_of v)) place (i ∷ ids)) ≡ operation place (slice (forms_of a ids)) collateral (behind id (laid_of v) i and_tree rising (raised v) id (index_units a ids))
slice_lies v a id place i ids =
    ap (λ (t : Tree). operation place (slice (forms_of a ids)) collateral (t and_tree all_seated (seat_of (raised v)) true (trees_at (behind id (tree_of v)) (index_units a ids)))) (behind_lies v id i)
    ∙ ap (λ (ts : Trees). operation place (slice (forms_of a ids)) collateral (behind id (laid_of v) i and_tree ts)) (rises (raised v) id (index_units a ids))

pub slice_whole : (v : View) (a : Annotated) (id place at : ℕ) (ids : List ℕ) → 0 < length ids
    → stretch (behind id (laid_of v) (get_or ids 0 0)) at
    ++ (stretches (rising (raised v) id (index_units a (drop 1 ids))) (at + length (stretch (behind id (laid_of v) (get_or ids 0 0)) at)) ++ instr place (does.Slice (forms_of a (drop 1 ids))) ∷ [])
    ≡ stretch (lying v (slice_of a (behind id (tree_of v)) place ids)) at
slice_whole v a id place at [] some = absurd (omega arith)
slice_whole v a id place at (i ∷ ids) some =
    let t = behind id (laid_of v) i in
    let last = instr place (does.Slice (forms_of a ids)) ∷ [] in
    sym (append_assoc (stretch t at) (stretches (rising (raised v) id (index_units a ids)) (at + length (stretch t at))) last)
    ∙ ap (λ n. (stretch t at ++ stretches (rising (raised v) id (index_units a ids)) (at + n)) ++ last) (size_stretch t at) ∙ ap (λ (x : Tree). stretch x at) (sym (slice_lies v a id place i ids))

-- the units of the indexes from one on
pub units-next : (v : View) (a : Annotated) (id at i : ℕ) (ids : List ℕ) → i < length ids
    → stretches (rising v id (index_units a (drop i ids))) at
    ≡ stretches (rising v id (parts_at a (get_or ids i 0))) at
    ++ stretches (rising (behind_values v (parts_at a (get_or ids i 0))) id (index_units a (drop (i + 1) ids))) (at + length (stretches (rising v id (parts_at a (get_or ids i 0))) at))
units-next v a id at i ids less = rw (add-one, drop-cons ids i 0) (rising-both v id (parts_at a (get_or ids i 0)) (index_units a (drop (suc i) ids)) at)

-- ---- loops

pub control_lies : (v : View) (id : ℕ) (o : Option ℕ) (t : Tree) → lying v t ≡ t → lying v (option_map_or (behind id (tree_of v)) o t) ≡ option_map_or (behind id (laid_of v)) o t
control_lies v id None t e = e
control_lies v id (Some i) t e = behind_lies v id i

pub controls_lie : (v : View) (id place : ℕ) (from by to : Option ℕ) → all_seated (seat_of v) true (controls_of (behind id (tree_of v)) place from by to)
    ≡ option_map_or (behind id (laid_of v)) from (leaf place (constant (plain (value.Int (pos 1)))))
    and_tree (option_map_or (behind id (laid_of (raised v))) by (leaf place (constant (plain (value.Int (pos 1)))))
    and_tree (option_map_or (behind id (laid_of (raised (raised v)))) to (leaf place (skip 1)) and_tree no_trees))
controls_lie v id place from by to =
    let one = leaf place (constant (plain (value.Int (pos 1)))) in
    let w = raised v in
    let u = raised w in
    ap (λ (t : Tree). t and_tree (lying w (option_map_or (behind id (tree_of w)) by one) and_tree (lying u (option_map_or (behind id (tree_of u)) to (leaf place (skip 1))) and_tree no_trees)))
    (control_lies v id from one refl)
    ∙ ap (λ (t : Tree). option_map_or (behind id (laid_of v)) from one and_tree (t and_tree (lying u (option_map_or (behind id (tree_of u)) to (leaf place (skip 1))) and_tree no_trees)))
    (control_lies w id by one refl)
    ∙ ap (λ (t : Tree). option_map_or (behind id (laid_of v)) from one and_tree (option_map_or (behind id (laid_of w)) by one and_tree (t and_tree no_trees))) (control_lies u id to (leaf place (skip 1)) refl)

pub test_depth : (s : Seat) (counts : Bool) (test : Test) → depth_of counts (test_seated s test) ≡ depth_of counts test
test_depth s counts no_test = refl
test_depth s counts (while_in at slots t) = refl

pub enquiry_lies : (v : View) (id at slots : ℕ) (ids : List ℕ)
    → seated (further_in (frames_of slots 0) (seat_of v)) (phrases_of at (trees_at (behind id (tree_of v)) ids)) ≡ phrases_of at (trees_at (behind id (laid_of (deeper (frames_of slots 0) v))) ids)
enquiry_lies v id at slots ids =
    let w = deeper (frames_of slots 0) v in
    phrases_lie (seat_of w) at (trees_at (behind id (tree_of v)) ids) ∙ ap (λ (ts : Trees). phrases_of at ts) (level w id ids)
