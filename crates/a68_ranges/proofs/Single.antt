-- Where no range declares a word twice, a word has one definition at each place, and a sign one priority.
use Rattle.std.proofs.Common.{◌≡◌, ◌<◌, ◌≤◌, ◌⊎◌, inl, inr, ⊎_elim, ℕ, zero, suc, List, [], length, refl, sym, ap, ◌∙◌, arith, subst, Some, None, slice_get, Option}
use Rattle.std.specs.Option.{option_map_or}
use Rattle.std.specs.List.{Contains}
use Rattle.a68_ranges.proofs.Taking.{some_one, read, past, below_or}
use Rattle.a68_ranges.proofs.Looking.{lies_one}
use Rattle.a68_ranges.specs.Definitions.{declared_in, declared_by, Declares, FirstDefinition, here, further, IsWordDefinition}
use Rattle.a68_ranges.specs.Standard.{IsPriorityOf, written_priority}
use Rattle.a68_ranges.specs.Twice.{IsTwice, IsSingle, single_priority}
use Rattle.a68_ranges.specs.declared.sort.IndicatorKind.{IndicatorKind}
use Rattle.a68_ranges.specs.declared.sort.IndicatorKind.TheVariants as sorts
use Rattle.a68_tree.specs.Trees.{Built}
use Rattle.a68_tree.specs.declared.kind.NodeKind.TheVariants as kind
use Rattle.a68_tree.specs.declared.node.Node.{Node}

-- what is no node declares nothing
past_declares : (tree : Built) (range : ℕ) → length tree.nodes ≤ range → declared_in tree range ≡ []
unfolding declared_in
past_declares tree range out =
    ap (λ (o : Option Node). declared_by tree (option_map_or (λ (n : Node). n.kind) o kind.Skip) (option_map_or (λ (n : Node). n.parts) o [])) (past tree.nodes range out)

range_there : (tree : Built) (range i d : ℕ) → slice_get (declared_in tree range) i ≡ Some d → range < length tree.nodes
range_there tree range i d is =
    ⊎_elim (λ h. h)
    (λ h. let e : slice_get [] i ≡ Some d = subst (λ (xs : List ℕ). slice_get xs i ≡ Some d) (past_declares tree range h) is in absurd (cc))
    (below_or range (length tree.nodes))

read_of : (list : List ℕ) (d : ℕ) (among : Contains list d) → slice_get list among.0 ≡ Some d
read_of list d among = read list among.0 d among.1 ∙ ap (λ x. Some x) among.2

three : (i j : ℕ) → (i < j) ⊎ ((i ≡ j) ⊎ (j < i))
three zero zero = inr (inl refl)
three zero (suc j) = inl (omega arith)
three (suc i) zero = inr (inr (omega arith))
three (suc i) (suc j) = ⊎_elim (λ h. inl (omega arith)) (λ r. ⊎_elim (λ e. inr (inl (ap suc e))) (λ h. inr (inr (omega arith))) r) (three i j)

module _ (tree : Built) (sort : IndicatorKind) (name : ℕ) (single : IsSingle sort) (once : (id : ℕ) → IsTwice tree id → ⊥) where
  never : (range i j d e : ℕ) → i < j → slice_get (declared_in tree range) i ≡ Some d → slice_get (declared_in tree range) j ≡ Some e
      → Declares tree range sort name d → Declares tree range sort name e → ⊥
  never range i j d e lt first second a b = once e record {
    range = range;
    i = i;
    j = j;
    earlier = d;
    sort = sort;
    there = range_there tree range i d first;
    before = lt;
    earlier_is = first;
    later_is = second;
    earlier_sort = a.sort_is;
    later_sort = b.sort_is;
    single = single;
    same = a.name_is ∙ sym b.name_is;
  }

  declares_one : (range d e : ℕ) → Declares tree range sort name d → Declares tree range sort name e → d ≡ e
  declares_one range d e a b =
      let i = a.among.0 in
      let j = b.among.0 in
      let first = read_of (declared_in tree range) d a.among in
      let second = read_of (declared_in tree range) e b.among in
      ⊎_elim (λ lt. absurd (never range i j d e lt first second a b))
      (λ r. ⊎_elim (λ same. some_one (sym first ∙ ap (slice_get (declared_in tree range)) same ∙ second)) (λ lt. absurd (never range j i e d lt second first b a)) r)
      (three i j)

  first_one : {ranges others : List ℕ} {d e : ℕ} → FirstDefinition tree sort name ranges d → FirstDefinition tree sort name others e → ranges ≡ others → d ≡ e
  first_one (here {range = r} {definition = d} a) (here {range = q} {definition = e} b) same =
      let heads : r ≡ q = cc in
      declares_one r d e a (subst (λ x. Declares tree x sort name e) (sym heads) b)
  first_one (here {range = r} {definition = d} a) (further {range = q} none b) same =
      let heads : r ≡ q = cc in
      absurd (none d (subst (λ x. Declares tree x sort name d) heads a))
  first_one (further {range = r} none a) (here {range = q} {definition = e} b) same =
      let heads : r ≡ q = cc in
      absurd (none e (subst (λ x. Declares tree x sort name e) (sym heads) b))
  first_one (further {more = m} none a) (further {more = n} never b) same =
      let tails : m ≡ n = cc in
      first_one a b tails

  -- the definition of a word is one
  pub definition_one : (at d e : ℕ) → IsWordDefinition tree at sort name d → IsWordDefinition tree at sort name e → d ≡ e
  definition_one at d e a b = first_one a.first b.first (lies_one a.lies b.lies refl)

pub priority_one : (tree : Built) → ((id : ℕ) → IsTwice tree id → ⊥) → (at name : ℕ) (one other : Option ℕ) → IsPriorityOf tree at name one → IsPriorityOf tree at name other → one ≡ other
priority_one tree once at name None None p q = refl
priority_one tree once at name None (Some b) p (inl q) = absurd (p.0 q.0 q.1)
priority_one tree once at name None (Some b) p (inr q) = sym p.1 ∙ q.1
priority_one tree once at name (Some a) None (inl p) q = absurd (q.0 p.0 p.1)
priority_one tree once at name (Some a) None (inr p) q = sym p.1 ∙ q.1
priority_one tree once at name (Some a) (Some b) (inl p) (inl q) =
    let same = definition_one tree sorts.Priority name single_priority once at p.0 q.0 p.1 q.1 in
    ap (λ x. Some x) (p.2 ∙ ap (written_priority tree) same ∙ sym q.2)
priority_one tree once at name (Some a) (Some b) (inl p) (inr q) = absurd (q.0 p.0 p.1)
priority_one tree once at name (Some a) (Some b) (inr p) (inl q) = absurd (p.0 q.0 q.1)
priority_one tree once at name (Some a) (Some b) (inr p) (inr q) = sym p.1 ∙ q.1
