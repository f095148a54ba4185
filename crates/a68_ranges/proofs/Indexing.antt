-- Definitions by range and name, as they are noted.
use Rattle.std.proofs.Common.{◌≡◌, ◌≤◌, ◌⊎◌, ℕ, ◌+◌, Bool, true, false, nat_eq, List, [], ◌∷◌, ◌++◌, length, take, refl, sym, ap, ◌∙◌, arith, subst, inl, inr, ⊎_elim, Some, None, slice_get, Option, eq-eqb}
use Rattle.std.proofs.lemmas.Bool.{false≢true}
use Rattle.std.specs.Prelude.{◌&&◌, nat_le, if◌then◌else◌}
use Rattle.std.proofs.lemmas.Bool.Decides.{eqb_tells, nat_tests}
use Rattle.a68_ranges.proofs.Taking.{some_one, take_next, past, below_or}
use Rattle.a68_ranges.specs.Nodes.{kind_at, name_at, place_at}
use Rattle.a68_ranges.specs.Definitions.{defines, declared_in, declared_by}
use Rattle.a68_ranges.specs.Indexed.{IsNoted, IsOneNoted, IsLateAt, IsLateIn, IsLateBefore, IsLeast, AreIndexed, earlier_of}
use Rattle.a68_ranges.specs.Tables.{at_key, first_named, has_name, is_sort, AreFirst}
use Rattle.a68_ranges.specs.declared.sort.IndicatorKind.{IndicatorKind}
use Rattle.a68_tree.specs.Trees.{Built}
use Rattle.a68_tree.specs.declared.kind.NodeKind.TheVariants as kind
use Rattle.a68_tree.specs.declared.node.Node.{Node}
use Rattle.std.specs.Option.{option_map_or}

-- ---- the first one of a name

module _ (tree : Built) (sort : IndicatorKind) where
  choice : (b : Bool) (d : ℕ) (o p : Option ℕ) → o ≡ p → (if b then Some d else o) ≡ (if b then Some d else p)
  choice b d o p e = ap (λ x. if b then Some d else x) e

  named_stays : (name e : ℕ) (xs ys : List ℕ) → first_named tree sort name xs ≡ Some e → first_named tree sort name (xs ++ ys) ≡ Some e
  named_stays name e [] ys h = absurd (cc)
  named_stays name e (x ∷ xs) ys h = go (has_name tree sort name x) (λ g. named_stays name e xs ys g) h
    where
      go : (b : Bool) → (first_named tree sort name xs ≡ Some e → first_named tree sort name (xs ++ ys) ≡ Some e)
          → (if b then Some x else first_named tree sort name xs) ≡ Some e → (if b then Some x else first_named tree sort name (xs ++ ys)) ≡ Some e
      go true rest h = h
      go false rest h = rest h

  named_new : (name d : ℕ) (xs : List ℕ) → first_named tree sort name xs ≡ None → first_named tree sort name (xs ++ d ∷ []) ≡ (if has_name tree sort name d then Some d else None)
  named_new name d [] h = refl
  named_new name d (x ∷ xs) h = go (has_name tree sort name x) (λ g. named_new name d xs g) h
    where
      go : (b : Bool) → (first_named tree sort name xs ≡ None → first_named tree sort name (xs ++ d ∷ []) ≡ (if has_name tree sort name d then Some d else None)) → (if b then Some x else first_named tree sort name xs) ≡ None → (if b then Some x else first_named tree sort name (xs ++ d ∷ [])) ≡ (if has_name tree sort name d then Some d else None)
      go true rest h = absurd (cc)
      go false rest h = rest h

  named_skips : (name d : ℕ) (xs : List ℕ) → has_name tree sort name d ≡ false → first_named tree sort name (xs ++ d ∷ []) ≡ first_named tree sort name xs
  named_skips name d [] h = ap (λ b. if b then Some d else None) h
  named_skips name d (x ∷ xs) h = choice (has_name tree sort name x) x _ _ (named_skips name d xs h)

  pub other_name : (name d : ℕ) → (name_at tree d ≡ name → ⊥) → has_name tree sort name d ≡ false
  other_name name d apart = ⊎_elim (λ h. absurd (apart h.1)) (λ h. both_false (is_sort sort (defines (kind_at tree d))) (nat_eq (name_at tree d) name) h.0) (eqb_tells (name_at tree d) name)
    where
      both_false : (a b : Bool) → b ≡ false → (a && b) ≡ false
      both_false true b e = e
      both_false false b e = refl

  pub other_sort : (name d : ℕ) → is_sort sort (defines (kind_at tree d)) ≡ false → has_name tree sort name d ≡ false
  other_sort name d e = ap (λ a. a && nat_eq (name_at tree d) name) e

  pub own_name : (d : ℕ) → is_sort sort (defines (kind_at tree d)) ≡ true → has_name tree sort (name_at tree d) d ≡ true
  own_name d e = ap (λ a. a && nat_eq (name_at tree d) (name_at tree d)) e ∙ eq-eqb (name_at tree d) (name_at tree d) refl

-- ---- the least

pub least_one : (tree : Built) (P Q R : ℕ → Type 0) (one other : Option ℕ) → ((x : ℕ) → R x → P x ⊎ Q x) → ((x : ℕ) → P x → R x) → ((x : ℕ) → Q x → R x)
    → IsLeast tree P one → IsLeast tree Q other → IsLeast tree R (earlier_of tree one other)
least_one tree P Q R None None both p q a b = λ x r. ⊎_elim (λ h. a x h) (λ h. b x h) (both x r)
least_one tree P Q R None (Some y) both p q a b = (q y b.0, λ x r. ⊎_elim (λ h. absurd (a x h)) (λ h. b.1 x h) (both x r))
least_one tree P Q R (Some x) None both p q a b = (p x a.0, λ y r. ⊎_elim (λ h. a.1 y h) (λ h. absurd (b y h)) (both y r))
least_one tree P Q R (Some x) (Some y) both p q a b = go (nat_le (place_at tree x) (place_at tree y)) refl
  where
    go : (t : Bool) → nat_le (place_at tree x) (place_at tree y) ≡ t → IsLeast tree R (if t then Some x else Some y)
    go true t =
        let le : place_at tree x ≤ place_at tree y = grind (arith, nat_tests, t) in
        (p x a.0, λ z r. ⊎_elim (λ h. a.1 z h) (λ h. let l = b.1 z h in omega arith) (both z r))
    go false t =
        let le : place_at tree y ≤ place_at tree x = grind (arith, nat_tests, t) in
        (q y b.0, λ z r. ⊎_elim (λ h. let l = a.1 z h in omega arith) (λ h. b.1 z h) (both z r))

-- ---- one node more of a range

pub record Noted (tree : Built) (sort : IndicatorKind) (range : ℕ) (list : List ℕ) (i : ℕ) (old new : List ((ℕ × ℕ) × ℕ)) (late : Option ℕ) : Type 0 where
  pub named : (name : ℕ) → at_key new range name ≡ first_named tree sort name (take (i + 1) list)
  pub others : (r name : ℕ) → (r ≡ range → ⊥) → at_key new r name ≡ at_key old r name
  pub least : IsLeast tree (IsLateAt tree sort list i) late

module _ (tree : Built) (sort : IndicatorKind) (range : ℕ) (list : List ℕ) (i d : ℕ) (old new : List ((ℕ × ℕ) × ℕ)) (is : slice_get list i ≡ Some d)
    (before : (name : ℕ) → at_key old range name ≡ first_named tree sort name (take i list)) where
  next : (name : ℕ) → first_named tree sort name (take (i + 1) list) ≡ first_named tree sort name (take i list ++ d ∷ [])
  next name = ap (first_named tree sort name) (take_next list i d is)

  same_id : (id : ℕ) → IsLateAt tree sort list i id → id ≡ d
  same_id id l = some_one (sym l.is ∙ is)

  passed : is_sort sort (defines (kind_at tree d)) ≡ false → new ≡ old → Noted tree sort range list i old new None
  passed counts stays = rw stays (record {
    named = λ name. before name ∙ sym (named_skips tree sort name d (take i list) (other_sort tree sort name d counts)) ∙ sym (next name);
    others = λ r name apart. refl;
    least = λ id l.
        let e = same_id id l in
        let t : has_name tree sort (name_at tree d) d ≡ true = subst (λ x. has_name tree sort (name_at tree x) x ≡ true) e l.names in
        absurd (false≢true (sym (other_sort tree sort (name_at tree d) d counts) ∙ t));
  })

  fresh : is_sort sort (defines (kind_at tree d)) ≡ true → IsNoted old new range (name_at tree d) d false → Noted tree sort range list i old new None
  fresh counts noted = record {
    named = λ name. ⊎_elim
        (λ h. subst (λ n. at_key new range n ≡ first_named tree sort n (take (i + 1) list)) h.1
        (noted.1 ∙ sym (next (name_at tree d) ∙ named_new tree sort (name_at tree d) d (take i list) (sym (before (name_at tree d)) ∙ noted.0)
        ∙ ap (λ b. if b then Some d else None) (own_name tree sort d counts))))
        (λ h. noted.2 range name (λ e. h.1 (sym e.1)) ∙ before name ∙ sym (named_skips tree sort name d (take i list) (other_name tree sort name d h.1)) ∙ sym (next name))
        (eqb_tells (name_at tree d) name);
    others = λ r name apart. noted.2 r name (λ e. apart e.0);
    least = λ id l.
        let e = same_id id l in
        let t : first_named tree sort (name_at tree d) (take i list) ≡ Some l.earlier = subst (λ x. first_named tree sort (name_at tree x) (take i list) ≡ Some l.earlier) e l.before in
        let f : None ≡ Some l.earlier = sym noted.0 ∙ before (name_at tree d) ∙ t in
        absurd (cc);
  }

  again : is_sort sort (defines (kind_at tree d)) ≡ true → IsNoted old new range (name_at tree d) d true → Noted tree sort range list i old new (Some d)
  again counts noted =
      let there : first_named tree sort (name_at tree d) (take i list) ≡ Some noted.1.0 = sym (before (name_at tree d)) ∙ noted.1.1 in
      rw noted.0 (record {
        named = λ name. ⊎_elim
            (λ h. subst (λ n. at_key old range n ≡ first_named tree sort n (take (i + 1) list)) h.1
            (noted.1.1 ∙ sym (next (name_at tree d) ∙ named_stays tree sort (name_at tree d) noted.1.0 (take i list) (d ∷ []) there)))
            (λ h. before name ∙ sym (named_skips tree sort name d (take i list) (other_name tree sort name d h.1)) ∙ sym (next name))
            (eqb_tells (name_at tree d) name);
        others = λ r name apart. refl;
        least = (
          record { is = is; names = own_name tree sort d counts; earlier = noted.1.0; before = there },
          λ id l. let e = same_id id l in subst (λ x. place_at tree d ≤ place_at tree x) (sym e) (omega arith),
        );
      })

  pub noted_more : (late : Option ℕ) → IsOneNoted tree old new range d (is_sort sort (defines (kind_at tree d))) late → Noted tree sort range list i old new late
  noted_more late one = go (is_sort sort (defines (kind_at tree d))) refl late one
    where
      go : (b : Bool) → is_sort sort (defines (kind_at tree d)) ≡ b → (o : Option ℕ) → IsOneNoted tree old new range d b o → Noted tree sort range list i old new o
      go false e o one = subst (Noted tree sort range list i old new) (sym one.1) (passed e one.0)
      go true e None one = fresh e one
      go true e (Some x) one = subst (λ y. Noted tree sort range list i old new (Some y)) (sym one.0) (again e one.1)

-- what is late before one place more
pub late_more : (tree : Built) (sort : IndicatorKind) (list : List ℕ) (i : ℕ) (one other : Option ℕ) → IsLeast tree (IsLateIn tree sort list i) one → IsLeast tree (IsLateAt tree sort list i) other
    → IsLeast tree (IsLateIn tree sort list (i + 1)) (earlier_of tree one other)
late_more tree sort list i one other a b =
    least_one tree (IsLateIn tree sort list i) (IsLateAt tree sort list i) (IsLateIn tree sort list (i + 1)) one other
    (λ x l. ⊎_elim (λ h. inr (subst (λ k. IsLateAt tree sort list k x) h.1 l.2)) (λ h. let p = l.1 in let n = h.1 in inl (l.0, omega arith, l.2)) (eqb_tells l.0 i))
    (λ x l. let p = l.1 in (l.0, omega arith, l.2))
    (λ x l. (i, omega arith, l)) a b

-- one range more
pub indexed_more : (tree : Built) (sort : IndicatorKind) (count : ℕ) (old new : List ((ℕ × ℕ) × ℕ)) → AreIndexed tree sort old count
    → ((name : ℕ) → at_key new count name ≡ first_named tree sort name (declared_in tree count)) → ((r name : ℕ) → (r ≡ count → ⊥) → at_key new r name ≡ at_key old r name)
    → AreIndexed tree sort new (count + 1)
indexed_more tree sort count old new before named others = (
  λ r name h. ⊎_elim (λ e. subst (λ k. at_key new k name ≡ first_named tree sort name (declared_in tree k)) (sym e.1) (named name))
      (λ e. let d = e.1 in others r name e.1 ∙ before.0 r name (omega arith)) (eqb_tells r count),
  λ r name h. others r name (λ e. absurd (omega arith)) ∙ before.1 r name (omega arith),
)

pub late_ranges : (tree : Built) (sort : IndicatorKind) (count : ℕ) (one other : Option ℕ) → IsLeast tree (IsLateBefore tree sort count) one
    → IsLeast tree (IsLateIn tree sort (declared_in tree count) (length (declared_in tree count))) other → IsLeast tree (IsLateBefore tree sort (count + 1)) (earlier_of tree one other)
late_ranges tree sort count one other a b =
    least_one tree (IsLateBefore tree sort count) (IsLateIn tree sort (declared_in tree count) (length (declared_in tree count))) (IsLateBefore tree sort (count + 1)) one other
    (λ x l. ⊎_elim (λ h. inr (subst (λ k. IsLateIn tree sort (declared_in tree k) (length (declared_in tree k)) x) h.1 l.2))
    (λ h. let p = l.1 in let n = h.1 in inl (l.0, omega arith, l.2)) (eqb_tells l.0 count))
    (λ x l. let p = l.1 in (l.0, omega arith, l.2))
    (λ x l. (count, omega arith, l)) a b

-- a number of no node declares nothing
pub declares_nothing : (tree : Built) (range : ℕ) → length tree.nodes ≤ range → declared_in tree range ≡ []
unfolding declared_in
declares_nothing tree range h =
    let e : slice_get tree.nodes range ≡ None = past tree.nodes range h in
    ap (λ (o : Option Node). declared_by tree (option_map_or (λ (n : Node). n.kind) o kind.Skip) (option_map_or (λ (n : Node). n.parts) o [])) e

-- all ranges
pub indexed_all : (tree : Built) (sort : IndicatorKind) (entries : List ((ℕ × ℕ) × ℕ)) → AreIndexed tree sort entries (length tree.nodes) → AreFirst tree sort entries
indexed_all tree sort entries all range name =
    ⊎_elim (λ h. all.0 range name h)
    (λ h. all.1 range name h ∙ ap (first_named tree sort name) (sym (declares_nothing tree range h)))
    (below_or range (length tree.nodes))
