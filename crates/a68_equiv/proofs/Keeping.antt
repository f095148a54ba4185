-- The tables of classes, where a node is looked up or joins.
use Rattle.std.proofs.Common.{◌≡◌, ◌<◌, ◌≤◌, ◌+◌, ◌*◌, ◌⊎◌, ◌++◌, ℕ, suc, List, [], ◌∷◌, Bool, true, false, Option, Some, None, length, get_or, take, refl, sym, ap, ◌∙◌, arith, subst, inl, inr, length-append}
use Rattle.std.specs.Prelude.{Vec, map, unwrap_or}
use Rattle.std.specs.Global.{Global}
use Rattle.std.specs.List.{All, Contains}
use Rattle.std.proofs.lemmas.List.Elements.{All-from_get_or, All-contains, Contains-get_or}
use Rattle.std.proofs.Math.ListN.{get_or-append}
use Rattle.std.proofs.lemmas.Bool.{cases_eq}
use Rattle.std.proofs.lemmas.List.{get_or_default, take_more, get_or-take}
use Rattle.a68_modes.specs.declared.shape.Shape.{Shape}
use Rattle.a68_modes.specs.Nodes.{shape_at, ShapeIsWithin, HoldsNodes}
use Rattle.a68_equiv.specs.declared.mode.Mode.{Mode}
use Rattle.a68_equiv.specs.Ways.{AreWellFormed}
use Rattle.a68_equiv.specs.Related.{as_it_stands, without_flex}
use Rattle.a68_equiv.specs.Unfolding.{unfolded, passes_on, is_union, IsModePart, Alike, Equivalent}
use Rattle.a68_partition.specs.Rows.{row_at}
use Rattle.a68_equiv.specs.Graph.{number_of, mode_of, AreBehind, IsShapeRow, IsRowOf, IsGraphOf}
use Rattle.a68_partition.specs.Rounds.{at_key, Shares, ByFirst, SoFar, IsNumbered}
use Rattle.a68_equiv.specs.ModeKeys.{IsKeyOf, IsModeKey, HasModeKey, IsNewKey}
use Rattle.a68_equiv.specs.Classes.{class_of, AreExact, AreKept, AreSame, FindsSame, Classified, IsAlready, IsOldNode}
use Rattle.a68_equiv.specs.declared.interning.NewKeys.{NewKeys}
use Rattle.a68_equiv.specs.NewNodes.{AreNewKeys, IsJoined}
use Rattle.a68_equiv.proofs.Growing.{part_below, longer, old_unfolded, new_unfolded, inside, grows, shrinks, row_in, new_row}
use Rattle.a68_equiv.proofs.Graphing.{stands_at}
use Rattle.a68_partition.proofs.Numbering.{more, complete}
use Rattle.a68_equiv.proofs.Numbers.{mode_number, number_mode, number_below, mode_below}
use Rattle.a68_partition.proofs.RowKeys.{row_key_on}
use Rattle.a68_equiv.proofs.Rowing.{from_map}
use Rattle.a68_equiv.proofs.Telling.{LikeBy, key_tells, key_made, one_mode_key, like_equivalent, alike_like}

-- the key of a mode of the graph
pub mode_has_key : (nodes : List Shape) (heads behind classes : List ℕ) (rows : List (Bool × List ℕ)) → IsGraphOf nodes heads rows → AreBehind nodes behind → (i : ℕ) (m : Mode) (t : Shape) (row : Bool × List ℕ) (key : List ℕ)
    → m ≡ mode_of i → m.id < length nodes → t ≡ shape_at nodes (get_or behind m.id 0) → row ≡ row_at rows i → IsKeyOf classes m.fixed t row key → HasModeKey nodes classes i key
mode_has_key nodes heads behind classes rows graph are i m t row key e h te re is =
    let at : row_at rows (number_of m) ≡ row = ap (λ (a : Mode). row_at rows (number_of a)) e ∙ ap (row_at rows) (number_mode i) ∙ sym re in
    let same : t ≡ unfolded nodes m.id = te ∙ ap (shape_at nodes) (are.each m.id h) in
    let here : IsModeKey nodes classes m key = record {
      row = row;
      is_row = subst (IsRowOf nodes m) at (graph.rows_are m h);
      kind = ap (λ (r : Bool × List ℕ). r.0) (sym at) ∙ graph.kinds m h;
      is_key = subst (λ (x : Shape). IsKeyOf classes m.fixed x row key) same is;
    } in
    subst (λ (a : Mode). IsModeKey nodes classes a key) e here

-- a row of a shape has numbers of modes that are there
pub shape_row_below : (nodes : List Shape) (start : List ℕ) (t : Shape) (fixed : Bool) (row : Bool × List ℕ) → IsShapeRow nodes start t fixed row → All (λ w. w < 2 * length nodes) row.1
shape_row_below nodes start t fixed row is = rw is.numbers (All-from_get_or (λ w. w < 2 * length nodes) (map number is.items) 0 (λ k lt.
    let x = from_map number is.items (get_or (map number is.items) k 0) (Contains-get_or (map number is.items) k 0 lt) in
    rw x.2 (number_below (length nodes) (record { id = x.0; fixed = passes_on fixed t }) (All-contains (λ m. m < length nodes) is.items x.0 is.below x.1))))
  where
    number : ℕ → ℕ
    number m = number_of (record { id = m; fixed = passes_on fixed t })

-- what holds of keys holds of what they number
pub so_far_on : (H K : ℕ → List ℕ → Type 0) (table : List (Vec ℕ Global × ℕ)) (next : List ℕ) (i : ℕ) → ((j : ℕ) (key : List ℕ) → j < i → H j key → K j key) → SoFar H table next i → SoFar K table next i
so_far_on H K table next i f so = record {
  built = so.built;
  known = λ j h. let w = so.known j h in (w.0, f j w.0.items h w.1, w.2);
  found = λ key n e. let w = so.found key n e in (w.0, f n key.items w.0 w.1);
  first = λ j h. let w = so.first j h in let le = w.0 in (w.0, (w.1.0, f j w.1.0 h w.1.1, f (get_or next j 0) w.1.0 (omega arith) w.1.2));
}

-- what stands in a row is a number of a mode that stands in the mode
row_part : (nodes : List Shape) (a : Mode) (row : Bool × List ℕ) (w : ℕ) → IsRowOf nodes a row → Contains row.1 w → (place : ℕ) × (p : Mode) × IsModePart nodes a place p × (w ≡ number_of p)
row_part nodes a row w is i =
    let st = stands_at row.0 row.1 i.0 i.1 in
    let k = is.only st.0 (get_or row.1 i.0 0) st.1 in
    (st.0, k.0, k.2, sym (get_or_default row.1 i.0 0 w i.1 ∙ i.2) ∙ k.3)

module _ (nodes : List Shape) (s : Shape) (holds : HoldsNodes nodes) (formed : AreWellFormed nodes) (within : ShapeIsWithin (length nodes) s) (classes : List ℕ) (is : AreExact nodes classes) where
  like_so : (a b : Mode) → a.id < suc (length nodes) → b.id < suc (length nodes) → LikeBy (nodes ++ s ∷ []) classes a b → Equivalent (nodes ++ s ∷ []) a b
  like_so = like_equivalent nodes (nodes ++ s ∷ []) (suc (length nodes)) classes is (inside nodes s holds formed within) (grows nodes s holds formed within) (shrinks nodes s holds formed within)

  so_like : (a b : Mode) → a.id < suc (length nodes) → b.id < suc (length nodes) → Alike (nodes ++ s ∷ []) (suc is.told_apart.0) a b → LikeBy (nodes ++ s ∷ []) classes a b
  so_like = alike_like nodes (nodes ++ s ∷ []) (suc (length nodes)) classes is (inside nodes s holds formed within) (grows nodes s holds formed within) (shrinks nodes s holds formed within)

  old_key : (a : Mode) (key : List ℕ) → a.id < length nodes → IsModeKey nodes classes a key → IsModeKey (nodes ++ s ∷ []) classes a key
  old_key a key h k = record {
    row = k.row;
    is_row = row_in nodes s holds formed within a k.row h k.is_row;
    kind = k.kind ∙ ap is_union (sym (old_unfolded nodes s holds formed within a.id h));
    is_key = subst (λ (t : Shape). IsKeyOf classes a.fixed t k.row key) (sym (old_unfolded nodes s holds formed within a.id h)) k.is_key;
  }

  new_key : (fixed : Bool) (key : List ℕ) → IsNewKey nodes classes s fixed key → IsModeKey (nodes ++ s ∷ []) classes (record { id = length nodes; fixed = fixed }) key
  new_key fixed key k = record {
    row = k.row;
    is_row = new_row nodes s holds formed within fixed k.row k.is_row;
    kind = k.is_row.kind ∙ ap is_union (sym (new_unfolded nodes s holds formed within));
    is_key = subst (λ (t : Shape). IsKeyOf classes fixed t k.row key) (sym (new_unfolded nodes s holds formed within)) k.is_key;
  }

  -- an old node that is equivalent has the key
  already_key : (a : ℕ) (x y : List ℕ) → a < length nodes → IsAlready nodes s a → IsModeKey nodes classes (as_it_stands a) x → IsNewKey nodes classes s false y → x ≡ y
  already_key a x y h eq p q =
      key_made (nodes ++ s ∷ []) classes (as_it_stands a) (as_it_stands (length nodes)) x y (so_like (as_it_stands a) (as_it_stands (length nodes)) (omega arith) (omega arith) (eq (suc is.told_apart.0)))
      (old_key (as_it_stands a) x h p) (new_key false y q)

  module _ (table : List (Vec ℕ Global × ℕ)) (firsts : List ℕ) (so : SoFar (λ m key. IsModeKey nodes classes (as_it_stands m) key) table firsts (length nodes)) (key : Vec ℕ Global) (has : IsNewKey nodes classes s false key.items) where
    -- the key is there
    pub old_found : (m : ℕ) → at_key table key.items ≡ Some m → IsOldNode nodes nodes s m
    old_found m e =
        let w = so.found key m e in
        let lt = w.0 in
        record {
          there = w.0;
          unchanged = refl;
          equivalent = like_so (as_it_stands m) (as_it_stands (length nodes)) (omega arith) (omega arith) (key_tells (nodes ++ s ∷ []) classes (as_it_stands m) (as_it_stands (length nodes)) key.items (old_key (as_it_stands m) key.items w.0 w.1) (new_key false key.items has));
          first = λ a h eq.
              let k = so.known a (omega arith) in
              let same = already_key a k.0.items key.items (omega arith) eq k.1 has in
              let at = ap (at_key table) same in
              let there = k.2 in
              let le = (so.first a (omega arith)).0 in
              let g : get_or firsts a 0 ≡ m = cc in
              omega arith;
        }

    -- it is not
    pub none_found : at_key table key.items ≡ None → (a : ℕ) → a < length nodes → IsAlready nodes s a → ⊥
    none_found e a h eq =
        let k = so.known a h in
        let same = already_key a k.0.items key.items h eq k.1 has in
        let at = ap (at_key table) same in
        let there = k.2 in
        cc

  -- the node joins
  module _ (keys0 keys1 keys2 nodes0 nodes1 : List (Vec ℕ Global × ℕ)) (firsts : List ℕ) (c0 c1 m : ℕ) (k0 k1 again : Vec ℕ Global)
      (classes_so : SoFar (HasModeKey nodes classes) keys0 classes (2 * length nodes)) (nodes_so : SoFar (λ m key. IsModeKey nodes classes (as_it_stands m) key) nodes0 firsts (length nodes))
      (has0 : IsNewKey nodes classes s false k0.items) (has1 : IsNewKey nodes classes s true k1.items) (has_again : IsNewKey nodes classes s false again.items)
      (num0 : IsNumbered keys0 keys1 k0.items (2 * length nodes) c0) (num1 : IsNumbered keys1 keys2 k1.items (2 * length nodes + 1) c1) (num : IsNumbered nodes0 nodes1 again.items (length nodes) m) where
    grown : List ℕ
    grown = (classes ++ c0 ∷ []) ++ c1 ∷ []

    more_modes : suc (suc (2 * length nodes)) ≡ 2 * length (nodes ++ s ∷ [])
    more_modes = let l = longer nodes s holds formed within in omega arith

    first_number : mode_of (2 * length nodes) ≡ as_it_stands (length nodes)
    first_number = subst (λ (i : ℕ). mode_of i ≡ as_it_stands (length nodes)) (omega arith) (mode_number (as_it_stands (length nodes)))

    second_number : mode_of (2 * length nodes + 1) ≡ without_flex (length nodes)
    second_number = mode_number (without_flex (length nodes))

    by_old : SoFar (HasModeKey (nodes ++ s ∷ []) classes) keys2 ((classes ++ c0 ∷ []) ++ c1 ∷ []) (2 * length nodes + 1 + 1)
    by_old =
        let start = so_far_on (HasModeKey nodes classes) (HasModeKey (nodes ++ s ∷ []) classes) keys0 classes (2 * length nodes) (λ j key h k. old_key (mode_of j) key (mode_below (length nodes) j h) k) classes_so in
        let one : HasModeKey (nodes ++ s ∷ []) classes (2 * length nodes) k0.items = rw first_number (new_key false k0.items has0) in
        let two : HasModeKey (nodes ++ s ∷ []) classes (2 * length nodes + 1) k1.items = rw second_number (new_key true k1.items has1) in
        let next = more (HasModeKey (nodes ++ s ∷ []) classes) keys0 keys1 classes (2 * length nodes) c0 k0 start one num0.here num0.others (at_key keys0 k0.items) refl num0.number in
        more (HasModeKey (nodes ++ s ∷ []) classes) keys1 keys2 (classes ++ c0 ∷ []) (2 * length nodes + 1) c1 k1 next two num1.here num1.others (at_key keys1 k1.items) refl num1.number

    one_key_each : (j : ℕ) (x y : List ℕ) → HasModeKey (nodes ++ s ∷ []) classes j x → HasModeKey (nodes ++ s ∷ []) classes j y → x ≡ y
    one_key_each j x y p q = one_mode_key (nodes ++ s ∷ []) classes (mode_of j) x y p q

    by : ByFirst (2 * length (nodes ++ s ∷ [])) (HasModeKey (nodes ++ s ∷ []) classes) ((classes ++ c0 ∷ []) ++ c1 ∷ [])
    by = complete (HasModeKey (nodes ++ s ∷ []) classes) keys2 ((classes ++ c0 ∷ []) ++ c1 ∷ []) (2 * length nodes + 1 + 1) (2 * length (nodes ++ s ∷ [])) one_key_each (let l = longer nodes s holds formed within in omega arith) by_old

    there : (a : Mode) → a.id < length (nodes ++ s ∷ []) → a.id < suc (length nodes)
    there a h = let l = longer nodes s holds formed within in omega arith

    key_of : (a : Mode) → a.id < length (nodes ++ s ∷ []) → Shares (HasModeKey (nodes ++ s ∷ []) classes) (number_of a) (class_of ((classes ++ c0 ∷ []) ++ c1 ∷ []) a)
    key_of a h = (by.first (number_of a) (number_below (length (nodes ++ s ∷ [])) a h)).1

    like_of : (a b : Mode) → a.id < length (nodes ++ s ∷ []) → b.id < length (nodes ++ s ∷ []) → class_of ((classes ++ c0 ∷ []) ++ c1 ∷ []) a ≡ class_of ((classes ++ c0 ∷ []) ++ c1 ∷ []) b → LikeBy (nodes ++ s ∷ []) classes a b
    like_of a b h g e =
        let p = key_of a h in
        let q = key_of b g in
        let same : q.0 ≡ p.0 = one_key_each (class_of ((classes ++ c0 ∷ []) ++ c1 ∷ []) a) q.0 p.0 (subst (λ (j : ℕ). HasModeKey (nodes ++ s ∷ []) classes j q.0) (sym e) q.2) p.2 in
        let ka : IsModeKey (nodes ++ s ∷ []) classes a p.0 = subst (λ (m : Mode). IsModeKey (nodes ++ s ∷ []) classes m p.0) (mode_number a) p.1 in
        let kb : IsModeKey (nodes ++ s ∷ []) classes b p.0 = subst (λ (m : Mode). IsModeKey (nodes ++ s ∷ []) classes m p.0) (mode_number b) (subst (λ (x : List ℕ). HasModeKey (nodes ++ s ∷ []) classes (number_of b) x) same q.1) in
        key_tells (nodes ++ s ∷ []) classes a b p.0 ka kb

    same_of : (a b : Mode) → a.id < length (nodes ++ s ∷ []) → b.id < length (nodes ++ s ∷ []) → LikeBy (nodes ++ s ∷ []) classes a b → class_of ((classes ++ c0 ∷ []) ++ c1 ∷ []) a ≡ class_of ((classes ++ c0 ∷ []) ++ c1 ∷ []) b
    same_of a b h g like =
        let p = key_of a h in
        let q = key_of b g in
        let ka : IsModeKey (nodes ++ s ∷ []) classes a p.0 = subst (λ (m : Mode). IsModeKey (nodes ++ s ∷ []) classes m p.0) (mode_number a) p.1 in
        let kb : IsModeKey (nodes ++ s ∷ []) classes b q.0 = subst (λ (m : Mode). IsModeKey (nodes ++ s ∷ []) classes m q.0) (mode_number b) q.1 in
        let same = key_made (nodes ++ s ∷ []) classes a b p.0 q.0 like ka kb in
        by.same (number_of a) (number_of b) (number_below (length (nodes ++ s ∷ [])) a h) (number_below (length (nodes ++ s ∷ [])) b g)
        (p.0, p.1, subst (λ (x : List ℕ). HasModeKey (nodes ++ s ∷ []) classes (number_of b) x) (sym same) q.1)

    still_exact : AreExact (nodes ++ s ∷ []) ((classes ++ c0 ∷ []) ++ c1 ∷ [])
    still_exact = record {
      long = by.long;
      exact = λ a b h g. (
        λ e. like_so a b (there a h) (there b g) (like_of a b h g e),
        λ eq. same_of a b h g (so_like a b (there a h) (there b g) (eq (suc is.told_apart.0))),
      );
      told_apart = (suc is.told_apart.0, λ a b h g al. same_of a b h g (so_like a b (there a h) (there b g) al));
    }

    -- old classes stay, so keys stay
    class_stays : (w : ℕ) → w < 2 * length nodes → get_or ((classes ++ c0 ∷ []) ++ c1 ∷ []) w 0 ≡ get_or classes w 0
    class_stays w h =
        let l = is.long in
        let m = length-append classes (c0 ∷ []) in
        get_or-append (classes ++ c0 ∷ []) (c1 ∷ []) 0 w (omega arith) ∙ get_or-append classes (c0 ∷ []) 0 w (omega arith)

    key_on : (a : Mode) (key : List ℕ) → a.id < suc (length nodes) → IsModeKey (nodes ++ s ∷ []) classes a key → IsModeKey (nodes ++ s ∷ []) ((classes ++ c0 ∷ []) ++ c1 ∷ []) a key
    key_on a key h k = record {
      row = k.row;
      is_row = k.is_row;
      kind = k.kind;
      is_key = record {
        tail = k.is_key.tail;
        is_tail = row_key_on classes ((classes ++ c0 ∷ []) ++ c1 ∷ []) 0 k.row.0 k.row.1 k.is_key.tail (λ w i.
            let p = row_part (nodes ++ s ∷ []) a k.row w k.is_row i in
            let b = number_below (length nodes) p.1 (inside nodes s holds formed within a p.1 p.0 h p.2) in
            let e = p.3 in
            class_stays w (omega arith)) k.is_key.is_tail;
        whole = k.is_key.whole;
      };
    }

    pub grown_kept : AreKept (nodes ++ s ∷ []) (record { of = (classes ++ c0 ∷ []) ++ c1 ∷ []; by_key = keys2; nodes_by_key = nodes1 })
    grown_kept = record {
      exact = still_exact;
      classes_found = subst (SoFar (HasModeKey (nodes ++ s ∷ []) ((classes ++ c0 ∷ []) ++ c1 ∷ [])) keys2 ((classes ++ c0 ∷ []) ++ c1 ∷ [])) (let l = longer nodes s holds formed within in omega arith)
          (so_far_on (HasModeKey (nodes ++ s ∷ []) classes) (HasModeKey (nodes ++ s ∷ []) ((classes ++ c0 ∷ []) ++ c1 ∷ [])) keys2 ((classes ++ c0 ∷ []) ++ c1 ∷ []) (2 * length nodes + 1 + 1)
          (λ j key h k. key_on (mode_of j) key (mode_below (suc (length nodes)) j (omega arith)) k) by_old);
      firsts = firsts ++ m ∷ [];
      nodes_found = subst (SoFar (λ m key. IsModeKey (nodes ++ s ∷ []) ((classes ++ c0 ∷ []) ++ c1 ∷ []) (as_it_stands m) key) nodes1 (firsts ++ m ∷ [])) (let l = longer nodes s holds formed within in omega arith)
          (so_far_on (λ m key. IsModeKey (nodes ++ s ∷ []) classes (as_it_stands m) key) (λ m key. IsModeKey (nodes ++ s ∷ []) ((classes ++ c0 ∷ []) ++ c1 ∷ []) (as_it_stands m) key) nodes1 (firsts ++ m ∷ []) (length nodes + 1)
          (λ j key h k. key_on (as_it_stands j) key (omega arith) k)
          (more (λ m key. IsModeKey (nodes ++ s ∷ []) classes (as_it_stands m) key) nodes0 nodes1 firsts (length nodes) m again
          (so_far_on (λ m key. IsModeKey nodes classes (as_it_stands m) key) (λ m key. IsModeKey (nodes ++ s ∷ []) classes (as_it_stands m) key) nodes0 firsts (length nodes) (λ j key h k. old_key (as_it_stands j) key h k) nodes_so)
          (new_key false again.items has_again) num.here num.others (at_key nodes0 again.items) refl num.number));
    }

-- tables in which the same is found are tables of the same numbers
same_so_far : (H : ℕ → List ℕ → Type 0) (one other : List (Vec ℕ Global × ℕ)) (next : List ℕ) (i : ℕ) → FindsSame one other → SoFar H other next i → SoFar H one next i
same_so_far H one other next i same so = record {
  built = so.built;
  known = λ j h. let w = so.known j h in (w.0, w.1, same w.0 ∙ w.2);
  found = λ key n e. so.found key n (sym (same key) ∙ e);
  first = so.first;
}

pub same_kept : (nodes : List Shape) (one other : Classified) → AreSame one other → AreKept nodes other → AreKept nodes one
same_kept nodes one other same kept = record {
  exact = rw same.of kept.exact;
  classes_found = rw same.of (same_so_far (HasModeKey nodes other.of) one.by_key other.by_key other.of (2 * length nodes) same.by_key kept.classes_found);
  firsts = kept.firsts;
  nodes_found = rw same.of (same_so_far (λ m key. IsModeKey nodes other.of (as_it_stands m) key) one.nodes_by_key other.nodes_by_key kept.firsts (length nodes) same.nodes_by_key kept.nodes_found);
}

-- tables for which room was made, as a caller sees them
pub room_same : (old : Classified) (items was_items : List ℕ) (keys was_keys nodes was_nodes : List (Vec ℕ Global × ℕ))
    → items ≡ was_items → FindsSame keys was_keys → FindsSame nodes was_nodes → record { of = was_items; by_key = was_keys; nodes_by_key = was_nodes } ≡ old
    → AreSame (record { of = items; by_key = keys; nodes_by_key = nodes }) old
room_same old items was_items keys was_keys nodes was_nodes e f g is =
    subst (λ (t : Classified). AreSame (record { of = items; by_key = keys; nodes_by_key = nodes }) t) is (record { of = e; by_key = f; nodes_by_key = g })

-- a node that joins keeps the tables
pub joined_kept : (nodes : List Shape) (s : Shape) (holds : HoldsNodes nodes) (formed : AreWellFormed nodes) (within : ShapeIsWithin (length nodes) s)
    (t : Classified) → AreKept nodes t → (keys : NewKeys) → AreNewKeys nodes t.of s keys
    → (id : ℕ) (after : List ℕ) (keys1 nodes1 : List (Vec ℕ Global × ℕ)) → id ≡ length nodes → IsJoined keys id t.of after t.by_key keys1 t.nodes_by_key nodes1
    → AreKept (nodes ++ s ∷ []) (record { of = after; by_key = keys1; nodes_by_key = nodes1 })
joined_kept nodes s holds formed within t kept keys new id after keys1 nodes1 e is =
    let joined = subst (λ (n : ℕ). IsJoined keys n t.of after t.by_key keys1 t.nodes_by_key nodes1) e is in
    let has_again = subst (λ (xs : List ℕ). IsNewKey nodes t.of s false xs) (sym new.again) new.key in
    let grown = grown_kept nodes s holds formed within t.of kept.exact t.by_key joined.between keys1 t.nodes_by_key nodes1 kept.firsts joined.class joined.without_flex joined.node keys.key keys.fixed keys.again
    kept.classes_found kept.nodes_found new.key new.fixed has_again joined.one joined.other joined.found in
    subst (λ (xs : List ℕ). AreKept (nodes ++ s ∷ []) (record { of = xs; by_key = keys1; nodes_by_key = nodes1 })) (sym joined.added) grown

-- classes that are exact, each the number of its first mode, are found at the keys of their modes
module _ (nodes : List Shape) (holds : HoldsNodes nodes) (classes : List ℕ) (is : AreExact nodes classes)
    (low : (v : ℕ) → v < 2 * length nodes → get_or classes v 0 ≤ v) (own : (v : ℕ) → v < 2 * length nodes → get_or classes (get_or classes v 0) 0 ≡ get_or classes v 0) where
  same_here : (i j : ℕ) → i < 2 * length nodes → j < 2 * length nodes → LikeBy nodes classes (mode_of i) (mode_of j) → get_or classes i 0 ≡ get_or classes j 0
  same_here i j h g like =
      let eq = like_equivalent nodes nodes (length nodes) classes is (λ a p place h part. part_below nodes holds a p place h part) (λ d a b h g al. al) (λ d a b h g al. al) (mode_of i) (mode_of j) (mode_below (length nodes) i h) (mode_below (length nodes) j g) like in
      let e = (is.exact (mode_of i) (mode_of j) (mode_below (length nodes) i h) (mode_below (length nodes) j g)).1 eq in
      subst (λ (k : ℕ). get_or classes k 0 ≡ get_or classes j 0) (number_mode i) (subst (λ (k : ℕ). get_or classes (number_of (mode_of i)) 0 ≡ get_or classes k 0) (number_mode j) e)

  like_here : (i j : ℕ) → i < 2 * length nodes → j < 2 * length nodes → get_or classes i 0 ≡ get_or classes j 0 → LikeBy nodes classes (mode_of i) (mode_of j)
  like_here i j h g e =
      let f : class_of classes (mode_of i) ≡ class_of classes (mode_of j) =
      subst (λ (k : ℕ). get_or classes k 0 ≡ get_or classes (number_of (mode_of j)) 0) (sym (number_mode i)) (subst (λ (k : ℕ). get_or classes i 0 ≡ get_or classes k 0) (sym (number_mode j)) e) in
      let eq = (is.exact (mode_of i) (mode_of j) (mode_below (length nodes) i h) (mode_below (length nodes) j g)).0 f in
      alike_like nodes nodes (length nodes) classes is (λ a p place h part. part_below nodes holds a p place h part) (λ d a b h g al. al) (λ d a b h g al. al) (mode_of i) (mode_of j) (mode_below (length nodes) i h) (mode_below (length nodes) j g) (eq (suc is.told_apart.0))

  number_is : (old : List (Vec ℕ Global × ℕ)) (i n : ℕ) (key : Vec ℕ Global) → i < 2 * length nodes → SoFar (HasModeKey nodes classes) old (take i classes) i → HasModeKey nodes classes i key.items → (o : Option ℕ) → at_key old key.items ≡ o → n ≡ unwrap_or o i → n ≡ get_or classes i 0
  number_is old i n key h so has None none e = go (cases_eq (get_or classes i 0) i)
    where
      go : (get_or classes i 0 ≡ i) ⊎ (get_or classes i 0 ≡ i → ⊥) → n ≡ get_or classes i 0
      go (inl same) = e ∙ sym same
      go (inr ne) =
          let l = low i h in
          let lt : get_or classes i 0 < i = omega arith in
          let like = like_here (get_or classes i 0) i (omega arith) h (own i h) in
          let k = so.known (get_or classes i 0) lt in
          let same = key_made nodes classes (mode_of (get_or classes i 0)) (mode_of i) k.0.items key.items like k.1 has in
          let at = ap (at_key old) same in
          let there = k.2 in
          absurd (cc)
  number_is old i n key h so has (Some f) some e =
      let w = so.found key f some in
      let lt = w.0 in
      let like = key_tells nodes classes (mode_of f) (mode_of i) key.items w.1 has in
      let same = same_here f i (omega arith) h like in
      let k = so.known f w.0 in
      let one = one_mode_key nodes classes (mode_of f) k.0.items key.items k.1 w.1 in
      let at = ap (at_key old) one in
      let there = k.2 in
      let first : get_or (take i classes) f 0 ≡ f = cc in
      e ∙ sym first ∙ get_or-take i classes f 0 w.0 ∙ same

  pub key_noted : (old new : List (Vec ℕ Global × ℕ)) (i n : ℕ) (key : Vec ℕ Global) → i < 2 * length nodes → SoFar (HasModeKey nodes classes) old (take i classes) i → HasModeKey nodes classes i key.items → IsNumbered old new key.items i n → SoFar (HasModeKey nodes classes) new (take (i + 1) classes) (i + 1)
  key_noted old new i n key h so has num =
      let e = number_is old i n key h so has (at_key old key.items) refl num.number in
      let l = is.long in
      let grown = more (HasModeKey nodes classes) old new (take i classes) i n key so has num.here num.others (at_key old key.items) refl num.number in
      subst (λ (xs : List ℕ). SoFar (HasModeKey nodes classes) new xs (i + 1)) (ap (λ (k : ℕ). take i classes ++ k ∷ []) e ∙ sym (take_more classes i 0 (omega arith))) grown
