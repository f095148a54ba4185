-- What a range declares twice.
use Rattle.std.proofs.Common.{◌≡◌, ◌<◌, ◌⊎◌, ℕ, zero, suc, List, [], ◌∷◌, length, take, refl, arith, inl, inr, ⊎_elim, Some, slice_get, Option}
use Rattle.a68_ranges.proofs.Taking.{is_there}
use Rattle.a68_ranges.proofs.Indexing.{least_one}
use Rattle.a68_ranges.proofs.Looking.{has, has_so, named_among, named_some, defines_there}
use Rattle.a68_ranges.specs.Nodes.{name_at}
use Rattle.a68_ranges.specs.Definitions.{declared_in}
use Rattle.a68_ranges.specs.Indexed.{IsLateBefore, IsLeast, earlier_of}
use Rattle.a68_ranges.specs.Twice.{IsTwice, IsSingle, single_tag, single_mode_word, single_priority, single_field, IsFirstInText}
use Rattle.a68_ranges.specs.declared.sort.IndicatorKind.{IndicatorKind}
use Rattle.a68_ranges.specs.declared.sort.IndicatorKind.TheVariants as sorts
use Rattle.a68_tree.specs.Trees.{Built}

get_take : {X : Type 0} (xs : List X) (n i : ℕ) (x : X) → slice_get (take n xs) i ≡ Some x → (i < n) × (slice_get xs i ≡ Some x)
get_take [] zero i x e = absurd (cc)
get_take [] (suc n) i x e = absurd (cc)
get_take (y ∷ ys) zero i x e = absurd (cc)
get_take (y ∷ ys) (suc n) zero x e = (omega arith, e)
get_take (y ∷ ys) (suc n) (suc i) x e = let r = get_take ys n i x e in let l = r.0 in (omega arith, r.1)

take_get : {X : Type 0} (xs : List X) (n i : ℕ) (x : X) → i < n → slice_get xs i ≡ Some x → slice_get (take n xs) i ≡ Some x
take_get [] n i x h e = absurd (cc)
take_get (y ∷ ys) zero i x h e = absurd (omega arith)
take_get (y ∷ ys) (suc n) zero x h e = e
take_get (y ∷ ys) (suc n) (suc i) x h e = take_get ys n i x (omega arith) e

-- late in a range is twice
late_twice : (tree : Built) (sort : IndicatorKind) (id : ℕ) → IsSingle sort → IsLateBefore tree sort (length tree.nodes) id → IsTwice tree id
late_twice tree sort id single late =
    let list = declared_in tree late.0 in
    let l = late.2.2 in
    let found = named_among tree sort (name_at tree id) l.earlier (take late.2.0 list) l.before in
    let at = get_take list late.2.0 found.0 l.earlier found.1 in
    let one = has tree sort (name_at tree id) l.earlier found.2 in
    let other = has tree sort (name_at tree id) id l.names in
    record {
      range = late.0;
      i = found.0;
      j = late.2.0;
      earlier = l.earlier;
      sort = sort;
      there = late.1;
      before = at.0;
      earlier_is = at.1;
      later_is = l.is;
      earlier_sort = one.0;
      later_sort = other.0;
      single = single;
      same = one.1;
    }

twice_late : (tree : Built) (id : ℕ) (t : IsTwice tree id) → IsLateBefore tree t.sort (length tree.nodes) id
twice_late tree id t =
    let list = declared_in tree t.range in
    let some = named_some tree t.sort (name_at tree id) t.earlier t.i (take t.j list) (take_get list t.j t.i t.earlier t.before t.earlier_is) (has_so tree t.sort (name_at tree id) t.earlier t.earlier_sort t.same) in
    (t.range, t.there, (t.j, is_there list t.j id t.later_is, record { is = t.later_is; names = has_so tree t.sort (name_at tree id) id t.later_sort refl; earlier = some.0; before = some.1 }))

by_sort : (tree : Built) (id : ℕ) (sort : IndicatorKind) → IsSingle sort → IsLateBefore tree sort (length tree.nodes) id
    → (IsLateBefore tree sorts.Tag (length tree.nodes) id ⊎ IsLateBefore tree sorts.ModeWord (length tree.nodes) id)
    ⊎ (IsLateBefore tree sorts.Priority (length tree.nodes) id ⊎ IsLateBefore tree sorts.Field (length tree.nodes) id)
by_sort tree id sort single_tag l = inl (inl l)
by_sort tree id sort single_mode_word l = inl (inr l)
by_sort tree id sort single_priority l = inr (inl l)
by_sort tree id sort single_field l = inr (inr l)

-- the first of all sorts
pub least_twice : (tree : Built) (tag mode_word priority field : Option ℕ)
    → IsLeast tree (IsLateBefore tree sorts.Tag (length tree.nodes)) tag → IsLeast tree (IsLateBefore tree sorts.ModeWord (length tree.nodes)) mode_word
    → IsLeast tree (IsLateBefore tree sorts.Priority (length tree.nodes)) priority → IsLeast tree (IsLateBefore tree sorts.Field (length tree.nodes)) field
    → IsLeast tree (IsTwice tree) (earlier_of tree (earlier_of tree tag mode_word) (earlier_of tree priority field))
least_twice tree tag mode_word priority field a b c d =
    let n = length tree.nodes in
    let Words : ℕ → Type 0 = λ x. IsLateBefore tree sorts.Tag n x ⊎ IsLateBefore tree sorts.ModeWord n x in
    let Others : ℕ → Type 0 = λ x. IsLateBefore tree sorts.Priority n x ⊎ IsLateBefore tree sorts.Field n x in
    least_one tree Words Others (IsTwice tree) (earlier_of tree tag mode_word) (earlier_of tree priority field)
    (λ x t. by_sort tree x t.sort t.single (twice_late tree x t))
    (λ x w. ⊎_elim (λ l. late_twice tree sorts.Tag x single_tag l) (λ l. late_twice tree sorts.ModeWord x single_mode_word l) w)
    (λ x w. ⊎_elim (λ l. late_twice tree sorts.Priority x single_priority l) (λ l. late_twice tree sorts.Field x single_field l) w)
    (least_one tree (IsLateBefore tree sorts.Tag n) (IsLateBefore tree sorts.ModeWord n) Words tag mode_word (λ x w. w) (λ x l. inl l) (λ x l. inr l) a b)
    (least_one tree (IsLateBefore tree sorts.Priority n) (IsLateBefore tree sorts.Field n) Others priority field (λ x w. w) (λ x l. inl l) (λ x l. inr l) c d)

pub first_twice : (tree : Built) (id : ℕ) → IsLeast tree (IsTwice tree) (Some id) → IsFirstInText tree (IsTwice tree) id
first_twice tree id least = record { there = defines_there tree id least.0.sort least.0.later_sort; broken = least.0; first = λ other h t. least.1 other t }
