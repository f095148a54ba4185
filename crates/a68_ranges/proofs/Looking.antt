-- The definition that counts at a node, as it is looked up.
use Rattle.std.proofs.Common.{◌≡◌, ◌<◌, ◌+◌, ◌^◌, ℕ, zero, suc, Bool, true, false, nat_eq, List, [], ◌∷◌, length, refl, sym, ap, ◌∙◌, arith, subst, inl, inr, ⊎_elim, Some, None, slice_get, Option, eqb-true, eq-eqb, lit<}
use Rattle.std.specs.Prelude.{◌&&◌, if◌then◌else◌, slice_index_or, map, is_some}
use Rattle.std.specs.List.{Contains}
use Rattle.std.specs.Option.{option_map_or, option_and_then}
use Rattle.std.specs.Str.{bytes_eq}
use Rattle.std.proofs.lemmas.Bool.{false≢true}
use Rattle.a68_base.specs.Tables.{find}
use Rattle.a68_ranges.proofs.Layering.{layerless}
use Rattle.a68_ranges.proofs.Taking.{some_one, read, past, below_or, is_there}
use Rattle.a68_ranges.specs.Nodes.{IsPartAt, kind_at, name_at}
use Rattle.a68_ranges.specs.Surroundings.{Lies, alone, part, IsUnder}
use Rattle.a68_ranges.specs.Links.{has_layer, layered}
use Rattle.a68_ranges.specs.Definitions.{defines, declared_in, Declares, FirstDefinition, here, further, IsWordDefinition, Undefined}
use Rattle.a68_ranges.specs.Standard.{IsTagOf, IsModeWordOf, IsPriorityOf, spelled, standard_of, standard_priority, standard_tags}
use Rattle.a68_signs.specs.Signs.{priority_of}
use Rattle.a68_ranges.specs.Tables.{Nested, outermost, within, FindsOut, at_key, first_named, has_name, is_sort, same_sort, AreFirst, AreRanges, RangeTables, priority_or}
use Rattle.a68_ranges.specs.Tables.{here as out_here, further as out_further, nothing}
use Rattle.a68_ranges.specs.declared.nests.Layer.{Layer}
use Rattle.a68_ranges.specs.declared.sort.IndicatorKind.{IndicatorKind}
use Rattle.a68_ranges.specs.declared.sort.IndicatorKind.TheVariants as sorts
use Rattle.a68_ranges.specs.declared.standard.Standard.{Standard}
use Rattle.a68_tree.specs.Trees.{Built}
use Rattle.a68_tree.specs.declared.node.Node.{Node}
use Rattle.a68_tree.specs.declared.kind.NodeKind.TheVariants as kind

-- ---- a node lies in one list of ranges

one_parent : (tree : Built) (n m j k p : ℕ) → IsUnder tree n j p → IsUnder tree m k p → (n ≡ m) × (j ≡ k)
one_parent tree n m j k p a b =
    ⊎_elim (λ x. ⊎_elim (λ y. absurd (omega arith)) (λ y. let e = y.0 in absurd (omega arith)) (b.first n j a.part))
    (λ x. ⊎_elim (λ y. let e = x.0 in absurd (omega arith)) (λ y. let e = x.0 in let u = x.1 in let v = y.1 in (omega arith, omega arith)) (b.first n j a.part))
    (a.first m k b.part)

pub lies_one : {tree : Built} {p q : ℕ} {xs ys : List ℕ} → Lies tree p xs → Lies tree q ys → p ≡ q → xs ≡ ys
lies_one (alone never) (alone none) e = refl
lies_one {tree = tree} (alone never) (part {n} k outer under is) e = absurd (never n k (subst (λ x. IsPartAt tree n k x) (sym e) under.part))
lies_one {tree = tree} (part {n} k outer under is) (alone never) e = absurd (never n k (subst (λ x. IsPartAt tree n k x) e under.part))
lies_one {tree = tree} {p = p} {q = q} (part {n = n} j a u is) (part {n = m} k b v it) e =
    let one = one_parent tree n m j k p u (subst (λ x. IsUnder tree m k x) (sym e) v) in
    let outs = lies_one a b one.0 in
    let same = one.0 in
    let places = one.1 in
    rw (is, it, one.0, one.1, e, outs) refl

-- ---- the first of a name

same_is : (a b : IndicatorKind) → same_sort a b ≡ true → a ≡ b
unfolding same_sort
same_is sorts.Tag sorts.Tag e = refl
same_is sorts.ModeWord sorts.ModeWord e = refl
same_is sorts.Priority sorts.Priority e = refl
same_is sorts.Operator sorts.Operator e = refl
same_is sorts.Field sorts.Field e = refl
same_is _ _ e = absurd (false≢true e)

pub same_refl : (a : IndicatorKind) → same_sort a a ≡ true
unfolding same_sort
same_refl sorts.Tag = refl
same_refl sorts.ModeWord = refl
same_refl sorts.Priority = refl
same_refl sorts.Operator = refl
same_refl sorts.Field = refl

sort_is : (sort : IndicatorKind) (o : Option IndicatorKind) → is_sort sort o ≡ true → o ≡ Some sort
sort_is sort None e = absurd (false≢true e)
sort_is sort (Some other) e = ap (λ s. Some s) (same_is other sort e)

both_true : (a b : Bool) → (a && b) ≡ true → (a ≡ true) × (b ≡ true)
both_true true b e = (refl, e)
both_true false b e = absurd (false≢true e)

-- what has the name with that sort
pub has : (tree : Built) (sort : IndicatorKind) (name id : ℕ) → has_name tree sort name id ≡ true → (defines (kind_at tree id) ≡ Some sort) × (name_at tree id ≡ name)
has tree sort name id e =
    let b = both_true (is_sort sort (defines (kind_at tree id))) (nat_eq (name_at tree id) name) e in
    (sort_is sort (defines (kind_at tree id)) b.0, eqb-true (name_at tree id) name b.1)

pub has_so : (tree : Built) (sort : IndicatorKind) (name id : ℕ) → defines (kind_at tree id) ≡ Some sort → name_at tree id ≡ name → has_name tree sort name id ≡ true
has_so tree sort name id s n = rw (s, same_refl sort) (eq-eqb (name_at tree id) name n)

pub named_among : (tree : Built) (sort : IndicatorKind) (name d : ℕ) (list : List ℕ) → first_named tree sort name list ≡ Some d → (k : ℕ) × (slice_get list k ≡ Some d) × (has_name tree sort name d ≡ true)
named_among tree sort name d [] e = absurd (cc)
named_among tree sort name d (x ∷ xs) e = go (has_name tree sort name x) refl e (λ h. named_among tree sort name d xs h)
  where
    go : (b : Bool) → has_name tree sort name x ≡ b → (if b then Some x else first_named tree sort name xs) ≡ Some d
        → (first_named tree sort name xs ≡ Some d → (k : ℕ) × (slice_get xs k ≡ Some d) × (has_name tree sort name d ≡ true))
        → (k : ℕ) × (slice_get (x ∷ xs) k ≡ Some d) × (has_name tree sort name d ≡ true)
    go true h e rest = (0, e, subst (λ y. has_name tree sort name y ≡ true) (some_one e) h)
    go false h e rest = let r = rest e in (suc r.0, r.1, r.2)

pub named_some : (tree : Built) (sort : IndicatorKind) (name d k : ℕ) (list : List ℕ) → slice_get list k ≡ Some d → has_name tree sort name d ≡ true → (e : ℕ) × (first_named tree sort name list ≡ Some e)
named_some tree sort name d k [] is h = absurd (cc)
named_some tree sort name d zero (x ∷ xs) is h = (x, ap (λ b. if b then Some x else first_named tree sort name xs) (subst (λ y. has_name tree sort name y ≡ true) (sym (some_one is)) h))
named_some tree sort name d (suc k) (x ∷ xs) is h = go (has_name tree sort name x) (named_some tree sort name d k xs is h)
  where
    go : (b : Bool) → (e : ℕ) × (first_named tree sort name xs ≡ Some e) → (e : ℕ) × ((if b then Some x else first_named tree sort name xs) ≡ Some e)
    go true r = (x, refl)
    go false r = r

-- ---- the definition in the innermost range

pub declares_some : (tree : Built) (sort : IndicatorKind) (name range d : ℕ) → first_named tree sort name (declared_in tree range) ≡ Some d → Declares tree range sort name d
declares_some tree sort name range d e =
    let r = named_among tree sort name d (declared_in tree range) e in
    let h = has tree sort name d r.2 in
    let low = is_there (declared_in tree range) r.0 d r.1 in
    record { among = (r.0, low, some_one (sym (read (declared_in tree range) r.0 d low) ∙ r.1)); sort_is = h.0; name_is = h.1 }

pub declares_none : (tree : Built) (sort : IndicatorKind) (name range d : ℕ) → first_named tree sort name (declared_in tree range) ≡ None → Declares tree range sort name d → ⊥
declares_none tree sort name range d e declares =
    let a = declares.among in
    let is : slice_get (declared_in tree range) a.0 ≡ Some d = read (declared_in tree range) a.0 d a.1 ∙ ap (λ x. Some x) a.2 in
    let s = named_some tree sort name d a.0 (declared_in tree range) is (has_so tree sort name d declares.sort_is declares.name_is) in
    let f : None ≡ Some s.0 = sym e ∙ s.1 in
    absurd (cc)

-- what was found in these ranges
abbrev pub Found : Built → IndicatorKind → (name : ℕ) → List ℕ → Option ℕ → Type 0
Found tree sort name ranges None = (d : ℕ) → FirstDefinition tree sort name ranges d → ⊥
Found tree sort name ranges (Some d) = FirstDefinition tree sort name ranges d

none_here : {tree : Built} {sort : IndicatorKind} {name d : ℕ} → FirstDefinition tree sort name [] d → ⊥
none_here f = elim f [ ]

further_none : (tree : Built) (sort : IndicatorKind) (name range : ℕ) (ranges : List ℕ) (found : Option ℕ) → ((d : ℕ) → Declares tree range sort name d → ⊥) → Found tree sort name ranges found → Found tree sort name (range ∷ ranges) found
further_none tree sort name range ranges None none f = λ d g. go g
  where
    go : {d : ℕ} → FirstDefinition tree sort name (range ∷ ranges) d → ⊥
    go {d = d} (here s) = none d s
    go {d = d} (further n more) = f d more
further_none tree sort name range ranges (Some d) none f = further none f

module _ (tree : Built) (sort : IndicatorKind) (name : ℕ) (layers : List Layer) (entries : List ((ℕ × ℕ) × ℕ)) (are : AreFirst tree sort entries) where
  found_in : {nest found : Option ℕ} {ranges : List ℕ} (to : Option ℕ) → nest ≡ to → FindsOut layers entries name nest found → Nested layers to ranges → Found tree sort name ranges found
  found_in to e nothing outermost = λ d f. none_here f
  found_in to e (out_here {id = id} i layer is at) (within {ranges = ranges} j other it more) =
      let same : layer ≡ other = some_one (sym is ∙ ap (slice_get layers) (some_one e) ∙ it) in
      here (declares_some tree sort name other.range id (sym (are other.range name) ∙ subst (λ (l : Layer). at_key entries l.range name ≡ Some id) same at))
  found_in to e (out_further {found = found} i layer is at rest) (within {ranges = ranges} j other it more) =
      let same : layer ≡ other = some_one (sym is ∙ ap (slice_get layers) (some_one e) ∙ it) in
      further_none tree sort name other.range ranges found
      (λ d s. declares_none tree sort name other.range d (sym (are other.range name) ∙ subst (λ (l : Layer). at_key entries l.range name ≡ None) same at) s)
      (found_in other.outer (ap (λ (l : Layer). l.outer) same) rest more)
  found_in to e f n = absurd (cc)

-- ---- the ranges that have no layers

-- they declare nothing
pub nothing_declared : (tree : Built) (range d : ℕ) → has_layer tree range ≡ false → Contains (declared_in tree range) d → ⊥
nothing_declared tree range d e among =
    let low : among.0 < 0 = subst (λ (ds : List ℕ). among.0 < length ds) (layerless tree range e).0 among.1 in
    absurd (omega arith)

module _ (tree : Built) (sort : IndicatorKind) (name : ℕ) where
  none_declared : (range : ℕ) → has_layer tree range ≡ false → (d : ℕ) → Declares tree range sort name d → ⊥
  none_declared range e d declares = nothing_declared tree range d e declares.among

  head_first : (range : ℕ) (some ranges : List ℕ) → ((d : ℕ) → FirstDefinition tree sort name some d → FirstDefinition tree sort name ranges d) → {d : ℕ} → FirstDefinition tree sort name (range ∷ some) d
      → FirstDefinition tree sort name (range ∷ ranges) d
  head_first range some ranges on (here s) = here s
  head_first range some ranges on (further {definition = d} none more) = further none (on d more)

  -- what is first of all is first of those that have layers
  first_on : (ranges : List ℕ) (d : ℕ) → FirstDefinition tree sort name (layered tree ranges) d → FirstDefinition tree sort name ranges d
  first_on [] d f = f
  first_on (range ∷ ranges) d f = go (has_layer tree range) refl (λ e g. first_on ranges e g) f
    where
      go : (b : Bool) → has_layer tree range ≡ b → ((e : ℕ) → FirstDefinition tree sort name (layered tree ranges) e → FirstDefinition tree sort name ranges e)
          → FirstDefinition tree sort name (if b then range ∷ layered tree ranges else layered tree ranges) d → FirstDefinition tree sort name (range ∷ ranges) d
      go true e on f = head_first range (layered tree ranges) ranges on f
      go false e on f = further (none_declared range e) (on d f)

  first_back : (ranges : List ℕ) (d : ℕ) → FirstDefinition tree sort name ranges d → FirstDefinition tree sort name (layered tree ranges) d
  first_back [] d f = f
  first_back (range ∷ ranges) d f = go (has_layer tree range) refl (λ e g. first_back ranges e g) f
    where
      drops : has_layer tree range ≡ false → ((e : ℕ) → FirstDefinition tree sort name ranges e → FirstDefinition tree sort name (layered tree ranges) e) → {e : ℕ}
          → FirstDefinition tree sort name (range ∷ ranges) e → FirstDefinition tree sort name (layered tree ranges) e
      drops no_layer on (here {definition = e} s) = absurd (none_declared range no_layer e s)
      drops no_layer on (further {definition = e} none more) = on e more

      go : (b : Bool) → has_layer tree range ≡ b → ((e : ℕ) → FirstDefinition tree sort name ranges e → FirstDefinition tree sort name (layered tree ranges) e)
          → FirstDefinition tree sort name (range ∷ ranges) d → FirstDefinition tree sort name (if b then range ∷ layered tree ranges else layered tree ranges) d
      go true e on f = head_first range ranges (layered tree ranges) on f
      go false e on f = drops e on f

  found_on : (ranges : List ℕ) (found : Option ℕ) → Found tree sort name (layered tree ranges) found → Found tree sort name ranges found
  found_on ranges None none = λ d f. none d (first_back ranges d f)
  found_on ranges (Some d) f = first_on ranges d f

-- what was found at a node
abbrev pub FoundAt : Built → (at : ℕ) → IndicatorKind → (name : ℕ) → Option ℕ → Type 0
FoundAt tree at sort name None = Undefined tree at sort name
FoundAt tree at sort name (Some d) = IsWordDefinition tree at sort name d

pub found_at : (tree : Built) (t : RangeTables) (at name : ℕ) (sort : IndicatorKind) (entries : List ((ℕ × ℕ) × ℕ)) (found : Option ℕ) → AreRanges tree t → at < length t.nests.about → AreFirst tree sort entries
    → FindsOut t.nests.layers entries name (slice_index_or t.nests.about at None) found → FoundAt tree at sort name found
found_at tree t at name sort entries found are there first out =
    let nest : Option ℕ = slice_index_or t.nests.about at None in
    let tells = are.nests.about at nest (read t.nests.about at None there) in
    go found (found_on tree sort name tells.ranges found (found_in tree sort name t.nests.layers entries first nest refl out tells.nested))
  where
    go : (o : Option ℕ) → Found tree sort name (are.nests.about at (slice_index_or t.nests.about at None) (read t.nests.about at None there)).ranges o → FoundAt tree at sort name o
    go None f = λ d def. f d (subst (λ rs. FirstDefinition tree sort name rs d) (lies_one def.lies (are.nests.about at (slice_index_or t.nests.about at None) (read t.nests.about at None there)).lies refl) def.first)
    go (Some d) f = record { ranges = (are.nests.about at (slice_index_or t.nests.about at None) (read t.nests.about at None there)).ranges; lies = (are.nests.about at (slice_index_or t.nests.about at None) (read t.nests.about at None there)).lies; first = f }

-- ---- the standard environ

tags_said : (spellings : List (List ℕ)) (name : ℕ) → option_and_then (λ (s : Standard). s.tag) (slice_get (map standard_of spellings) name) ≡ option_and_then (find standard_tags) (slice_get spellings name)
tags_said [] name = refl
tags_said (s ∷ more) zero = refl
tags_said (s ∷ more) (suc name) = tags_said more name

priorities_said : (spellings : List (List ℕ)) (name : ℕ) → option_and_then (λ (s : Standard). s.priority) (slice_get (map standard_of spellings) name) ≡ option_and_then priority_of (slice_get spellings name)
priorities_said [] name = refl
priorities_said (s ∷ more) zero = refl
priorities_said (s ∷ more) (suc name) = priorities_said more name

abbrev AllUnder : (bound : ℕ) → List (List ℕ × ℕ) → Type 0
AllUnder bound [] = Unit {0}
AllUnder bound (row ∷ rows) = (row.1 < bound) × AllUnder bound rows

found_under : (bound : ℕ) (rows : List (List ℕ × ℕ)) (s : List ℕ) (k : ℕ) → AllUnder bound rows → find rows s ≡ Some k → k < bound
found_under bound [] s k all e = absurd (cc)
found_under bound (row ∷ rows) s k all e = go (bytes_eq s row.0) e (λ h. found_under bound rows s k all.1 h)
  where
    go : (b : Bool) → (if b then Some row.1 else find rows s) ≡ Some k → (find rows s ≡ Some k → k < bound) → k < bound
    go true h rest = let e = some_one h in let l = all.0 in omega arith
    go false h rest = rest h

tag_under : (s : Option (List ℕ)) (k : ℕ) → option_and_then (find standard_tags) s ≡ Some k → k < 11
unfolding standard_tags
tag_under None k e = absurd (cc)
tag_under (Some s) k e = found_under 11 standard_tags s k (lit< tt, (lit< tt, (lit< tt, (lit< tt, (lit< tt, (lit< tt, (lit< tt, (lit< tt, (lit< tt, (lit< tt, (lit< tt, tt))))))))))) e

-- ---- the three look-ups

pub tag_is : (tree : Built) (t : RangeTables) (at name : ℕ) (found place answer : Option ℕ) → AreRanges tree t → at < length t.nests.about → FindsOut t.nests.layers t.tags name (slice_index_or t.nests.about at None) found
    → place ≡ option_and_then (λ (s : Standard). s.tag) (slice_get t.standard name)
    → ((id : ℕ) → found ≡ Some id → answer ≡ Some id) → (found ≡ None → place ≡ None → answer ≡ None)
    → ((k : ℕ) → found ≡ None → place ≡ Some k → t.count + k < 2 ^ 32 → answer ≡ Some (t.count + k)) → IsTagOf tree at name answer
tag_is tree t at name found place answer are there out is one none standard =
    go found place (found_at tree t at name sorts.Tag t.tags found are there are.tags out)
    (is ∙ ap (λ (ss : List Standard). option_and_then (λ (s : Standard). s.tag) (slice_get ss name)) are.standard ∙ tags_said tree.spellings name) one none standard are.count are.few
  where
    go : (f p : Option ℕ) → FoundAt tree at sorts.Tag name f → p ≡ spelled tree name standard_tags → ((id : ℕ) → f ≡ Some id → answer ≡ Some id) → (f ≡ None → p ≡ None → answer ≡ None)
        → ((k : ℕ) → f ≡ None → p ≡ Some k → t.count + k < 2 ^ 32 → answer ≡ Some (t.count + k)) → t.count ≡ length tree.nodes → length tree.nodes + 11 < 2 ^ 32 → IsTagOf tree at name answer
    go (Some id) p def said one none standard count few = rw (one id refl) (inl def)
    go None None never said one none standard count few = rw (none refl refl) (never, sym said)
    go None (Some k) never said one none standard count few =
        let under = tag_under (slice_get tree.spellings name) k (sym said) in
        rw (standard k refl refl (omega arith)) (inr (never, k, sym said, ap (λ n. n + k) count))

pub mode_word_found : (tree : Built) (t : RangeTables) (at name : ℕ) (found : Option ℕ) → AreRanges tree t → at < length t.nests.about → FindsOut t.nests.layers t.mode_words name (slice_index_or t.nests.about at None) found
    → IsModeWordOf tree at name found
mode_word_found tree t at name found are there out = go found (found_at tree t at name sorts.ModeWord t.mode_words found are there are.mode_words out)
  where
    go : (o : Option ℕ) → FoundAt tree at sorts.ModeWord name o → IsModeWordOf tree at name o
    go None f = f
    go (Some d) f = f

-- what a node defines is a node
pub defines_there : (tree : Built) (d : ℕ) (sort : IndicatorKind) → defines (kind_at tree d) ≡ Some sort → d < length tree.nodes
unfolding defines
defines_there tree d sort e =
    ⊎_elim (λ h. h)
    (λ h. let f : None ≡ Some sort = sym (ap (λ (o : Option Node). defines (option_map_or (λ (n : Node). n.kind) o kind.Skip)) (past tree.nodes d h)) ∙ e in absurd (cc))
    (below_or d (length tree.nodes))

first_there : {tree : Built} {sort : IndicatorKind} {name d : ℕ} {ranges : List ℕ} → FirstDefinition tree sort name ranges d → d < length tree.nodes
first_there {tree = tree} {sort = sort} {d = d} (here s) = defines_there tree d sort s.sort_is
first_there (further n more) = first_there more

pub priority_is : (tree : Built) (t : RangeTables) (at name : ℕ) (found standard answer : Option ℕ) → AreRanges tree t → at < length t.nests.about
    → FindsOut t.nests.layers t.priorities name (slice_index_or t.nests.about at None) found
    → standard ≡ option_and_then (λ (s : Standard). s.priority) (slice_get t.standard name) → answer ≡ priority_or found t.written standard → IsPriorityOf tree at name answer
priority_is tree t at name found standard answer are there out is gives =
    rw gives (go found standard (found_at tree t at name sorts.Priority t.priorities found are there are.priorities out)
    (is ∙ ap (λ (ss : List Standard). option_and_then (λ (s : Standard). s.priority) (slice_get ss name)) are.standard ∙ priorities_said tree.spellings name))
  where
    go : (f p : Option ℕ) → FoundAt tree at sorts.Priority name f → p ≡ standard_priority tree name → IsPriorityOf tree at name (priority_or f t.written p)
    go (Some id) p def said = rw (are.written.each id (first_there def.first)) (inl (id, def, refl))
    go None None never said = (never, sym said)
    go None (Some k) never said = inr (never, sym said)

-- ---- the walk outwards

pub found_here : (layers : List Layer) (entries : List ((ℕ × ℕ) × ℕ)) (name i : ℕ) (nest found : Option ℕ) (layer : Layer) → nest ≡ Some i → slice_get layers i ≡ Some layer → found ≡ at_key entries layer.range name
    → true ≡ is_some found → FindsOut layers entries name nest found
found_here layers entries name i nest None layer e is at t = absurd (false≢true (sym t))
found_here layers entries name i nest (Some id) layer e is at t = rw e (out_here i layer is (sym at))

pub found_further : (layers : List Layer) (entries : List ((ℕ × ℕ) × ℕ)) (name i : ℕ) (nest here found : Option ℕ) (layer : Layer) → nest ≡ Some i → slice_get layers i ≡ Some layer → here ≡ at_key entries layer.range name
    → false ≡ is_some here → FindsOut layers entries name layer.outer found → FindsOut layers entries name nest found
found_further layers entries name i nest (Some id) found layer e is at t rest = absurd (false≢true t)
found_further layers entries name i nest None found layer e is at t rest = rw e (out_further i layer is (sym at) rest)

-- the layers about a node are those of its ranges that have layers
pub about_is : (tree : Built) (t : RangeTables) (at : ℕ) (nest : Option ℕ) (ranges : List ℕ) → AreRanges tree t → at < length t.nests.about → nest ≡ slice_index_or t.nests.about at None
    → Lies tree at ranges → Nested t.nests.layers nest (layered tree ranges)
about_is tree t at nest ranges are there is lies =
    let tells = are.nests.about at nest (read t.nests.about at None there ∙ ap (λ (o : Option ℕ). Some o) (sym is)) in
    subst (λ rs. Nested t.nests.layers nest (layered tree rs)) (lies_one tells.lies lies refl) tells.nested
