-- Layers, as ranges are entered.
use Rattle.std.proofs.Common.{◌≡◌, ◌≤◌, ◌⊎◌, ℕ, zero, suc, ◌+◌, Bool, true, false, List, [], ◌∷◌, ◌++◌, length, refl, sym, ap, ◌∙◌, arith, subst, inl, inr, ⊎_elim, Some, None, slice_get, Option, length-append}
use Rattle.std.specs.Prelude.{◌||◌, if◌then◌else◌, nat_lt, slice_index_or}
use Rattle.std.proofs.lemmas.Bool.{false≢true}
use Rattle.std.proofs.lemmas.Bool.Decides.{nat_tests}
use Rattle.a68_ranges.proofs.Indexing.{declares_nothing}
use Rattle.a68_ranges.proofs.Taking.{some_one, read, below_or}
use Rattle.a68_ranges.specs.Nodes.{parts_at, kind_at}
use Rattle.a68_ranges.specs.Surroundings.{alone, part, entered}
use Rattle.a68_ranges.specs.Definitions.{declared_in, AreDeclared}
use Rattle.a68_ranges.specs.Links.{IsBelow, with_layers, innermost, is_routine_text, has_layer, layered}
use Rattle.a68_ranges.specs.Parents.{IsParentBefore}
use Rattle.a68_ranges.specs.Tables.{Nested, outermost, within, TellsAbout, AreNestsBefore, IsNestOf}
use Rattle.a68_ranges.specs.declared.nests.Layer.{Layer}
use Rattle.a68_ranges.specs.declared.nests.Parent.{Parent}
use Rattle.a68_tree.specs.Trees.{Built}

-- ---- which ranges have layers

-- a range without one declares nothing, and is no routine text
pub layerless : (tree : Built) (range : ℕ) → has_layer tree range ≡ false → (declared_in tree range ≡ []) × (is_routine_text (kind_at tree range) ≡ false)
unfolding has_layer
layerless tree range e = go (is_routine_text (kind_at tree range)) (declared_in tree range) e
  where
    go : (b : Bool) (ds : List ℕ) → (b || nat_lt 0 (length ds)) ≡ false → (ds ≡ []) × (b ≡ false)
    go true ds e = absurd (false≢true (sym e))
    go false [] e = (refl, refl)
    go false (d ∷ ds) e = absurd (grind (arith, nat_tests, e))

-- what a range declares is read from the lists, at any number
pub declared_read : (tree : Built) (declared : List (List ℕ)) (range : ℕ) → AreDeclared tree (length tree.nodes) declared → slice_index_or declared range [] ≡ declared_in tree range
declared_read tree declared range are =
    let long = are.long in
    ⊎_elim (λ h. some_one (sym (read declared range [] (omega arith)) ∙ are.each range h))
    (λ h. unread declared range (omega arith) ∙ sym (declares_nothing tree range h))
    (below_or range (length tree.nodes))
  where
    unread : (xs : List (List ℕ)) (k : ℕ) → length xs ≤ k → slice_index_or xs k [] ≡ []
    unread [] k h = refl
    unread (x ∷ xs) zero h = absurd (omega arith)
    unread (x ∷ xs) (suc k) h = unread xs k (omega arith)

pub layered_append : (tree : Built) (xs ys : List ℕ) → layered tree (xs ++ ys) ≡ layered tree xs ++ layered tree ys
layered_append tree [] ys = refl
layered_append tree (x ∷ xs) ys = go (has_layer tree x) (layered_append tree xs ys)
  where
    go : (b : Bool) → layered tree (xs ++ ys) ≡ layered tree xs ++ layered tree ys
        → (if b then x ∷ layered tree (xs ++ ys) else layered tree (xs ++ ys)) ≡ (if b then x ∷ layered tree xs else layered tree xs) ++ layered tree ys
    go true e = ap (λ zs. x ∷ zs) e
    go false e = e

-- ---- layers in a list

pub get_front : {X : Type 0} (xs ys : List X) (i : ℕ) (x : X) → slice_get xs i ≡ Some x → slice_get (xs ++ ys) i ≡ Some x
get_front [] ys i x e = absurd (cc)
get_front (y ∷ xs) ys zero x e = e
get_front (y ∷ xs) ys (suc i) x e = get_front xs ys i x e

pub get_last : {X : Type 0} (xs : List X) (x : X) → slice_get (xs ++ x ∷ []) (length xs) ≡ Some x
get_last [] x = refl
get_last (y ∷ xs) x = get_last xs x

pub get_pushed : {X : Type 0} (xs : List X) (x y : X) (i : ℕ) → slice_get (xs ++ x ∷ []) i ≡ Some y → (slice_get xs i ≡ Some y) ⊎ ((i ≡ length xs) × (x ≡ y))
get_pushed [] x y zero e = inr (refl, some_one e)
get_pushed [] x y (suc i) e = absurd (cc)
get_pushed (z ∷ xs) x y zero e = inl e
get_pushed (z ∷ xs) x y (suc i) e = ⊎_elim (λ h. inl h) (λ h. let d = h.0 in inr (omega arith, h.1)) (get_pushed xs x y i e)

nested_more : {layers : List Layer} (more : List Layer) {nest : Option ℕ} {ranges : List ℕ} → Nested layers nest ranges → Nested (layers ++ more) nest ranges
nested_more more outermost = outermost
nested_more {layers = layers} more (within i layer e n) = within i layer (get_front layers more i layer e) (nested_more more n)

-- what was there stays
pub nested_stays : (old : List Layer) (ranges : List ℕ) (outer nest : Option ℕ) (rs : List ℕ) → Nested old nest rs → Nested (with_layers old ranges outer) nest rs
nested_stays old [] outer nest rs n = n
nested_stays old (r ∷ ranges) outer nest rs n = nested_more _ (nested_stays old ranges outer nest rs n)

-- the ranges that are entered lie inside those of the outer layer
pub nested_entered : (old : List Layer) (ranges : List ℕ) (outer : Option ℕ) (outs : List ℕ) → Nested old outer outs → Nested (with_layers old ranges outer) (innermost old ranges outer) (ranges ++ outs)
nested_entered old [] outer outs n = n
nested_entered old (r ∷ ranges) outer outs n =
    let layer : Layer = record { range = r; outer = innermost old ranges outer } in
    within (length (with_layers old ranges outer)) layer (get_last (with_layers old ranges outer) layer) (nested_more (layer ∷ []) (nested_entered old ranges outer outs n))

pub below_more : (bound more : ℕ) (nest : Option ℕ) → bound ≤ more → IsBelow bound nest → IsBelow more nest
below_more bound more None h b = tt
below_more bound more (Some i) h b = omega arith

longer : (old : List Layer) (ranges : List ℕ) (outer : Option ℕ) → length old ≤ length (with_layers old ranges outer)
longer old [] outer = omega arith
longer old (r ∷ ranges) outer =
    let h = longer old ranges outer in
    let layer : Layer = record { range = r; outer = innermost old ranges outer } in
    omega (arith, length-append (with_layers old ranges outer) (layer ∷ []))

pub innermost_below : (old : List Layer) (ranges : List ℕ) (outer : Option ℕ) → IsBelow (length old) outer → IsBelow (length (with_layers old ranges outer)) (innermost old ranges outer)
innermost_below old [] outer b = b
innermost_below old (r ∷ ranges) outer b =
    let layer : Layer = record { range = r; outer = innermost old ranges outer } in
    omega (arith, length-append (with_layers old ranges outer) (layer ∷ []))

leads_out : (old : List Layer) (ranges : List ℕ) (outer : Option ℕ) → ((i : ℕ) (layer : Layer) → slice_get old i ≡ Some layer → IsBelow i layer.outer) → IsBelow (length old) outer
    → (i : ℕ) (layer : Layer) → slice_get (with_layers old ranges outer) i ≡ Some layer → IsBelow i layer.outer
leads_out old [] outer out b i layer e = out i layer e
leads_out old (r ∷ ranges) outer out b i layer e =
    let new : Layer = record { range = r; outer = innermost old ranges outer } in
    ⊎_elim (λ h. leads_out old ranges outer out b i layer h)
    (λ h. subst (λ (l : Layer). IsBelow i l.outer) h.1 (subst (λ k. IsBelow k (innermost old ranges outer)) (sym h.0) (innermost_below old ranges outer b)))
    (get_pushed (with_layers old ranges outer) new layer i e)

-- one node more, with its ranges
pub nests_more : (tree : Built) (count : ℕ) (about : List (Option ℕ)) (old new : List Layer) (ranges : List ℕ) (outer nest : Option ℕ) → AreNestsBefore tree count about old
    → (new ≡ with_layers old ranges outer) → (nest ≡ innermost old ranges outer) → IsBelow (length old) outer → TellsAbout tree (with_layers old ranges outer) count (innermost old ranges outer)
    → AreNestsBefore tree (count + 1) (about ++ nest ∷ []) new
nests_more tree count about old new ranges outer nest before layers_are nest_is b tells =
    rw (layers_are, nest_is) (record {
      long = let d = before.long in omega (arith, length-append about (innermost old ranges outer ∷ []));
      linked = record {
        out = leads_out old ranges outer before.linked.out b;
        there = λ at n e. ⊎_elim (λ h. below_more (length old) (length (with_layers old ranges outer)) n (longer old ranges outer) (before.linked.there at n h))
            (λ h. subst (λ o. IsBelow (length (with_layers old ranges outer)) o) h.1 (innermost_below old ranges outer b))
            (get_pushed about (innermost old ranges outer) n at e);
      };
      tells = λ at n e. ⊎_elim
          (λ h. let t = before.tells at n h in record { ranges = t.ranges; lies = t.lies; nested = nested_stays old ranges outer n (layered tree t.ranges) t.nested })
          (λ h. subst (λ o. TellsAbout tree (with_layers old ranges outer) at o) h.1 (subst (λ k. TellsAbout tree (with_layers old ranges outer) k (innermost old ranges outer)) (sym (h.0 ∙ before.long)) tells))
          (get_pushed about (innermost old ranges outer) n at e);
    })

-- one node more, by its parent
pub nests_step : (tree : Built) (id : ℕ) (about : List (Option ℕ)) (old new : List Layer) (parent : Option Parent) (nest : Option ℕ) → AreNestsBefore tree id about old
    → IsParentBefore tree (length tree.nodes) id parent → IsNestOf tree about old new id parent nest → AreNestsBefore tree (id + 1) (about ++ nest ∷ []) new
nests_step tree id about old new None nest before none is =
    nests_more tree id about old new [] None nest before is.layers is.nest_is tt (record { ranges = []; lies = alone (λ n k g. none n k g.0 g); nested = outermost })
nests_step tree id about old new (Some parent) nest before found is =
    let n = parent.node in
    let outer : Option ℕ = slice_index_or about n None in
    let long = before.long in
    let low = found.1 in
    let there : slice_get about n ≡ Some outer = read about n None (omega arith) in
    let t = before.tells n outer there in
    let ranges = entered tree (kind_at tree n) n (parts_at tree n) parent.place id in
    nests_more tree id about old new (layered tree ranges) outer nest before is.layers is.nest_is (before.linked.there n outer there) (record {
      ranges = ranges ++ t.ranges;
      lies = part parent.place t.lies (record { part = found.2; first = λ m j g. found.3 m j g.0 g }) refl;
      nested = rw (layered_append tree ranges t.ranges) (nested_entered old (layered tree ranges) outer (layered tree t.ranges) t.nested);
    })
