-- The definitions that count in each layer, by their names.
use Rattle.std.proofs.Common.{◌≡◌, ◌<◌, ℕ, zero, suc, ◌+◌, ◌^◌, Bool, true, false, nat_eq, List, [], ◌∷◌, ◌++◌, length, drop, refl, sym, ap, ◌∙◌, arith, subst, ⊎_elim, Some, None, slice_get, Option, length-append}
use Rattle.std.specs.Prelude.{◌&&◌, if◌then◌else◌, slice_index_or}
use Rattle.std.specs.Option.{option_and_then}
use Rattle.a68_maps.proofs.Forks.{nothing_found, nothing_is_made, stay_on}
use Rattle.a68_maps.specs.Found.{found, IsMade, IsWith, Stay}
use Rattle.a68_maps.specs.declared.maps.Fork.{Fork}
use Rattle.a68_ranges.proofs.Indexing.{other_sort}
use Rattle.a68_ranges.proofs.Layering.{get_pushed}
use Rattle.a68_ranges.proofs.Taking.{some_one, read}
use Rattle.a68_ranges.specs.Definitions.{defines, declared_in}
use Rattle.a68_ranges.specs.Links.{IsBelow}
use Rattle.a68_ranges.specs.Nodes.{kind_at, name_at}
use Rattle.a68_ranges.specs.Tables.{AreFirst, FindsOut, nothing, here, further, at_key, first_named, has_name, is_sort}
use Rattle.a68_ranges.specs.Visible.{IsTwin, Seen, seen_at, AreVisible, or_else, IsOver, root_at, AreRoots, IsRoot}
use Rattle.a68_ranges.specs.declared.nests.Layer.{Layer}
use Rattle.a68_ranges.specs.declared.sort.IndicatorKind.{IndicatorKind}
use Rattle.a68_tree.specs.Trees.{Built}

-- ---- what is found

pub seen_out : (layers : List Layer) (entries : List ((ℕ × ℕ) × ℕ)) (seen : Seen) (layer : Option ℕ) (name : ℕ) → AreVisible layers entries seen → IsBelow (length layers) layer → name < 2 ^ 32
    → FindsOut layers entries name layer (seen_at seen layer name)
seen_out layers entries seen None name are below low = nothing
seen_out layers entries seen (Some number) name are below low =
    let long = are.long in
    let root : Option ℕ = slice_index_or seen.roots number None in
    let is = read seen.roots number None (omega (arith, below, long)) in
    subst (λ f. FindsOut layers entries name (Some number) f) (sym (ap (λ o. option_and_then (λ r. found seen.maps r name) o) is)) (are.each number name root is low)

-- the same layer finds the same
twin_finds : {layers : List Layer} {entries : List ((ℕ × ℕ) × ℕ)} {name : ℕ} {nest answer : Option ℕ} (number twin : ℕ) → nest ≡ Some twin → slice_get layers twin ≡ slice_get layers number → FindsOut layers entries name nest answer
    → FindsOut layers entries name (Some number) answer
twin_finds number twin e same nothing = absurd (cc)
twin_finds {layers = layers} number twin e same (here i layer is at) = here number layer (sym same ∙ ap (slice_get layers) (sym (some_one e)) ∙ is) at
twin_finds {layers = layers} number twin e same (further i layer is at rest) = further number layer (sym same ∙ ap (slice_get layers) (sym (some_one e)) ∙ is) at rest

-- ---- one node

stay_same : (maps : List Fork) → Stay maps maps
stay_same maps = λ map is. (is, λ key. refl)

pub over_skipped : (tree : Built) (sort : IndicatorKind) (maps : List Fork) (outer : Option ℕ) (id : ℕ) → IsMade maps outer → is_sort sort (defines (kind_at tree id)) ≡ false
    → IsOver maps maps outer outer (λ name. first_named tree sort name (id ∷ []))
over_skipped tree sort maps outer id made e = record {
  stay = stay_same maps;
  is = made;
  has = λ name low. ap (λ b. or_else (if b then Some id else None) (found maps outer name)) (sym (other_sort tree sort name id e));
}

pub over_one : (tree : Built) (sort : IndicatorKind) (old new : List Fork) (outer map : Option ℕ) (id own : ℕ) → is_sort sort (defines (kind_at tree id)) ≡ true → own ≡ name_at tree id → IsWith old new outer own id map
    → IsOver old new outer map (λ name. first_named tree sort name (id ∷ []))
over_one tree sort old new outer map id own sorted named with = record {
  stay = with.stay;
  is = with.is;
  has = λ name low.
      with.has name low
      ∙ by (nat_eq own name) (found old outer name)
      ∙ ap (λ b. or_else (if b then Some id else None) (found old outer name)) (ap (λ n. nat_eq n name) named ∙ sym (ap (λ a. a && nat_eq (name_at tree id) name) sorted));
}
  where
    by : (b : Bool) (o : Option ℕ) → (if b then Some id else o) ≡ or_else (if b then Some id else None) o
    by true o = refl
    by false o = refl

-- ---- a list of nodes, the last first

drop_all : (xs : List ℕ) → drop (length xs) xs ≡ []
drop_all [] = refl
drop_all (x ∷ xs) = drop_all xs

drop_read : (xs : List ℕ) (place : ℕ) → place < length xs → drop place xs ≡ slice_index_or xs place 0 ∷ drop (suc place) xs
drop_read [] place h = absurd (omega arith)
drop_read (x ∷ xs) zero h = refl
drop_read (x ∷ xs) (suc place) h = drop_read xs place (omega arith)

pub over_none : (tree : Built) (sort : IndicatorKind) (maps : List Fork) (outer : Option ℕ) (list : List ℕ) → IsMade maps outer → IsOver maps maps outer outer (λ name. first_named tree sort name (drop (length list) list))
over_none tree sort maps outer list made = record {
  stay = stay_same maps;
  is = made;
  has = λ name low. ap (λ ds. or_else (first_named tree sort name ds) (found maps outer name)) (sym (drop_all list));
}

pub over_more : (tree : Built) (sort : IndicatorKind) (old mid new : List Fork) (outer map next : Option ℕ) (list : List ℕ) (place : ℕ) → place < length list
    → IsOver old mid outer map (λ name. first_named tree sort name (drop (suc place) list)) → IsOver mid new map next (λ name. first_named tree sort name (slice_index_or list place 0 ∷ []))
    → IsOver old new outer next (λ name. first_named tree sort name (drop place list))
over_more tree sort old mid new outer map next list place h one more = record {
  stay = stay_on old mid new one.stay more.stay;
  is = more.is;
  has = λ name low.
      more.has name low
      ∙ ap (λ o. or_else (if has_name tree sort name (slice_index_or list place 0) then Some (slice_index_or list place 0) else None) o) (one.has name low)
      ∙ by (has_name tree sort name (slice_index_or list place 0)) (first_named tree sort name (drop (suc place) list)) (found old outer name)
      ∙ ap (λ ds. or_else (first_named tree sort name ds) (found old outer name)) (sym (drop_read list place h));
}
  where
    by : (b : Bool) (o p : Option ℕ) → or_else (if b then Some (slice_index_or list place 0) else None) (or_else o p) ≡ or_else (if b then Some (slice_index_or list place 0) else o) p
    by true o p = refl
    by false o p = refl

-- ---- the map of the next layer

root_made : (tree : Built) (sort : IndicatorKind) (layers : List Layer) (maps : List Fork) (roots : List (Option ℕ)) (count number : ℕ) → AreRoots tree sort layers maps roots count → number < count
    → (slice_get roots number ≡ Some (slice_index_or roots number None)) × IsMade maps (slice_index_or roots number None)
root_made tree sort layers maps roots count number are low =
    let long = are.long in
    let is = read roots number None (omega (arith, low, long)) in
    (is, are.made number (slice_index_or roots number None) is)

pub root_twin : (tree : Built) (sort : IndicatorKind) (layers : List Layer) (maps : List Fork) (roots : List (Option ℕ)) (count twin : ℕ) (root : Option ℕ) → AreRoots tree sort layers maps roots count
    → IsTwin layers count (Some twin) → root ≡ slice_index_or roots twin None → IsRoot tree sort layers maps maps count root
root_twin tree sort layers maps roots count twin root are same root_is =
    let one = root_made tree sort layers maps roots count twin are same.0 in
    subst (λ r. IsRoot tree sort layers maps maps count r) (sym root_is) (record {
      stay = stay_same maps;
      is = one.1;
      finds = λ entries first name low. twin_finds count twin refl same.1 (are.finds twin (slice_index_or roots twin None) one.0 entries first name low);
    })

pub outer_made : (tree : Built) (sort : IndicatorKind) (layers : List Layer) (maps : List Fork) (roots : List (Option ℕ)) (count : ℕ) (outer : Option ℕ) → AreRoots tree sort layers maps roots count → IsBelow count outer
    → IsMade maps (root_at roots outer)
outer_made tree sort layers maps roots count None are below = nothing_is_made maps
outer_made tree sort layers maps roots count (Some number) are below = (root_made tree sort layers maps roots count number are below).1

outer_finds : (tree : Built) (sort : IndicatorKind) (layers : List Layer) (maps : List Fork) (roots : List (Option ℕ)) (count : ℕ) (outer : Option ℕ) (entries : List ((ℕ × ℕ) × ℕ)) (name : ℕ) → AreRoots tree sort layers maps roots count
    → IsBelow count outer → AreFirst tree sort entries → name < 2 ^ 32 → FindsOut layers entries name outer (found maps (root_at roots outer) name)
outer_finds tree sort layers maps roots count None entries name are below first low = subst (λ f. FindsOut layers entries name None f) (sym (nothing_found maps name)) nothing
outer_finds tree sort layers maps roots count (Some number) entries name are below first low =
    are.finds number (slice_index_or roots number None) (root_made tree sort layers maps roots count number are below).0 entries first name low

finds_by : (layers : List Layer) (entries : List ((ℕ × ℕ) × ℕ)) (name number : ℕ) (layer : Layer) (own rest : Option ℕ) → slice_get layers number ≡ Some layer → at_key entries layer.range name ≡ own
    → FindsOut layers entries name layer.outer rest → FindsOut layers entries name (Some number) (or_else own rest)
finds_by layers entries name number layer (Some id) rest is at out = here number layer is at
finds_by layers entries name number layer None rest is at out = further number layer is at out

pub root_more : (tree : Built) (sort : IndicatorKind) (layers : List Layer) (old new : List Fork) (roots : List (Option ℕ)) (count : ℕ) (layer : Layer) (list : List ℕ) (root : Option ℕ) → AreRoots tree sort layers old roots count
    → slice_get layers count ≡ Some layer → IsBelow count layer.outer → list ≡ declared_in tree layer.range → IsOver old new (root_at roots layer.outer) root (λ name. first_named tree sort name list)
    → IsRoot tree sort layers old new count root
root_more tree sort layers old new roots count layer list root are is below list_is over = record {
  stay = over.stay;
  is = over.is;
  finds = λ entries first name low.
      subst (λ f. FindsOut layers entries name (Some count) f) (sym (over.has name low))
      (finds_by layers entries name count layer (first_named tree sort name list) (found old (root_at roots layer.outer) name) is (first layer.range name ∙ ap (first_named tree sort name) (sym list_is))
      (outer_finds tree sort layers old roots count layer.outer entries name are below first low));
}

-- ---- the maps of all layers

pub roots_none : (tree : Built) (sort : IndicatorKind) (layers : List Layer) (maps : List Fork) → AreRoots tree sort layers maps [] 0
roots_none tree sort layers maps = record { long = refl; made = λ number root e. absurd (cc); finds = λ number root e. absurd (cc) }

pub roots_more : (tree : Built) (sort : IndicatorKind) (layers : List Layer) (old new : List Fork) (roots : List (Option ℕ)) (count : ℕ) (root : Option ℕ) → AreRoots tree sort layers old roots count
    → IsRoot tree sort layers old new count root → AreRoots tree sort layers new (roots ++ root ∷ []) (count + 1)
roots_more tree sort layers old new roots count root are one = record {
  long = let d = are.long in omega (arith, d, length-append roots (root ∷ []));
  made = λ number r e. ⊎_elim
      (λ h. (one.stay r (are.made number r h)).0)
      (λ h. subst (λ o. IsMade new o) h.1 one.is)
      (get_pushed roots root r number e);
  finds = λ number r e entries first name low. ⊎_elim
      (λ h. subst (λ f. FindsOut layers entries name (Some number) f) (sym ((one.stay r (are.made number r h)).1 name)) (are.finds number r h entries first name low))
      (λ h.
      subst (λ k. FindsOut layers entries name (Some k) (found new r name)) (sym (h.0 ∙ are.long))
      (subst (λ o. FindsOut layers entries name (Some count) (found new o name)) h.1 (one.finds entries first name low)))
      (get_pushed roots root r number e);
}

pub all_visible : (tree : Built) (sort : IndicatorKind) (layers : List Layer) (maps : List Fork) (roots : List (Option ℕ)) (count : ℕ) (entries : List ((ℕ × ℕ) × ℕ)) → AreRoots tree sort layers maps roots count → count ≡ length layers
    → AreFirst tree sort entries → AreVisible layers entries (record { maps = maps; roots = roots })
all_visible tree sort layers maps roots count entries are all first = record {
  long = are.long ∙ all;
  each = λ number name root is low. are.finds number root is entries first name low;
}

-- ---- layers that are the same

pub twins_more : (layers : List Layer) (twins : List (Option ℕ)) (number : ℕ) (twin : Option ℕ) → length twins ≡ number → ((n : ℕ) (t : Option ℕ) → slice_get twins n ≡ Some t → IsTwin layers n t) → IsTwin layers number twin
    → (n : ℕ) (t : Option ℕ) → slice_get (twins ++ twin ∷ []) n ≡ Some t → IsTwin layers n t
twins_more layers twins number twin long are one = λ n t e. ⊎_elim
    (λ h. are n t h)
    (λ h. subst (λ k. IsTwin layers k t) (sym (h.0 ∙ long)) (subst (λ o. IsTwin layers number o) h.1 one))
    (get_pushed twins twin t n e)
