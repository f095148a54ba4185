-- What is found of a tree's definitions is one: the definitions of its tags, their modes, and the modes that join the others.
use Rattle.std.proofs.Common.{◌≡◌, ◌<◌, ◌≤◌, ◌+◌, inl, inr, ℕ, zero, suc, List, Bool, true, false, Option, None, Some, length, get_or, replicate, refl, sym, ap, ◌∙◌, arith, subst}
use Rattle.std.proofs.lemmas.List.{ext_get_or}
use Rattle.a68_base.specs.declared.limits.TheConstants.{MOST_MODES}
use Rattle.a68_declare.specs.Outcome.{ByNode}
use Rattle.a68_definitions.proofs.Defining.{all_longer, granted_long, mode_below, of_longer, requested_below, some_modes}
use Rattle.a68_definitions.specs.Defined.{AllBelow, AreBelow, AreDefinedFrom, IsGranted, IsRequestBelow, none_yet, one_more, requested, with_mode}
use Rattle.a68_definitions.specs.Tags.{AreTags, IsTagAt, applies_tag}
use Rattle.a68_definitions.specs.declared.requests.Request.{Request}
use Rattle.a68_definitions.specs.declared.requests.Request.TheVariants as request
use Rattle.a68_equiv.specs.declared.mode.Mode.{Mode}
use Rattle.a68_mode_table.proofs.Once.{name_keeps_node, name_sound, procedure_keeps_node, procedure_sound, shape_keeps, shapes_one}
use Rattle.a68_mode_table.specs.Growing.{AreSound, IsNode}
use Rattle.a68_modes.specs.Nodes.{shape_at}
use Rattle.a68_modes.specs.declared.shape.Shape.{Shape}
use Rattle.a68_modes.specs.declared.shape.Shape.TheVariants.{Proc, Ref}
use Rattle.a68_ranges.proofs.Single.{definition_one}
use Rattle.a68_ranges.specs.Nodes.{kind_at, name_at, parts_at}
use Rattle.a68_ranges.specs.Standard.{IsTagOf}
use Rattle.a68_ranges.specs.Twice.{IsTwice, single_tag}
use Rattle.a68_ranges.specs.declared.sort.IndicatorKind.TheVariants as sorts
use Rattle.a68_tree.specs.Trees.{Built}

-- ---- tags

some_place : {k j : ℕ} {o : Option ℕ} → o ≡ Some k → o ≡ Some j → k ≡ j
some_place {k = k} {j = j} p q = let e : Some k ≡ Some j = sym p ∙ q in cc

no_place : {P : Type 0} {k : ℕ} {o : Option ℕ} → o ≡ Some k → o ≡ None → P
no_place {k = k} p q = let e : Some k ≡ None = sym p ∙ q in absurd (cc)

module _ (tree : Built) (once : (id : ℕ) → IsTwice tree id → ⊥) where
  tag_of_one : (at name : ℕ) (a b : Option ℕ) → IsTagOf tree at name a → IsTagOf tree at name b → a ≡ b
  tag_of_one at name None None p q = refl
  tag_of_one at name None (Some e) p (inl q) = absurd (p.0 e q)
  tag_of_one at name None (Some e) p (inr q) = no_place q.2 p.1
  tag_of_one at name (Some d) None (inl p) q = absurd (q.0 d p)
  tag_of_one at name (Some d) None (inr p) q = no_place p.2 q.1
  tag_of_one at name (Some d) (Some e) (inl p) (inl q) = ap (λ x. Some x) (definition_one tree sorts.Tag name single_tag once at d e p q)
  tag_of_one at name (Some d) (Some e) (inl p) (inr q) = absurd (q.0 d p)
  tag_of_one at name (Some d) (Some e) (inr p) (inl q) = absurd (p.0 e q)
  tag_of_one at name (Some d) (Some e) (inr p) (inr q) = ap (λ x. Some x) (p.3 ∙ ap (λ k. length tree.nodes + k) (some_place p.2 q.2) ∙ sym q.3)

  tag_at_one : (n : ℕ) (applies : Bool) (a b : Option ℕ) → IsTagAt tree n applies a → IsTagAt tree n applies b → a ≡ b
  tag_at_one n true a b p q = tag_of_one n (name_at tree n) a b p q
  tag_at_one n false a b p q = p ∙ sym q

  pub tags_one : (tags others : List (Option ℕ)) → AreTags tree tags → AreTags tree others → tags ≡ others
  tags_one tags others p q =
      ext_get_or None tags others (p.long ∙ sym q.long)
      (λ n h. let there : n < length tree.nodes = subst (λ (k : ℕ). n < k) p.long h in tag_at_one n (applies_tag (kind_at tree n)) (get_or tags n None) (get_or others n None) (p.each n there) (q.each n there))

-- ---- what is granted

-- the old modes stay where they were
pub record AreLonger (nodes after : List Shape) : Type 0 where
  pub long : length nodes ≤ length after
  pub kept : (m : ℕ) → m < length nodes → shape_at after m ≡ shape_at nodes m

pub same_longer : (nodes after : List Shape) → after ≡ nodes → AreLonger nodes after
same_longer nodes after e = subst (AreLonger nodes) (sym e) (record { long = omega arith; kept = λ m h. refl })

granted_longer : (nodes after : List Shape) (r : Request) (m : ℕ) → IsGranted nodes r after m → AreLonger nodes after
granted_longer nodes after request.Nothing m g = same_longer nodes after g.0
granted_longer nodes after (request.There x) m g = same_longer nodes after g.0
granted_longer nodes after (request.Name of) m g = let k = shape_keeps nodes after (Ref of) m g in record { long = k.longer; kept = k.kept }
granted_longer nodes after (request.Routine params result) m g = let k = shape_keeps nodes after (Proc params result) m g in record { long = k.longer; kept = k.kept }

granted_one : (nodes after other : List Shape) (r : Request) (m next : ℕ) → AreSound nodes → IsGranted nodes r after m → IsGranted nodes r other next → (after ≡ other) × (m ≡ next)
granted_one nodes after other request.Nothing m next sound p q = (p.0 ∙ sym q.0, p.1 ∙ sym q.1)
granted_one nodes after other (request.There x) m next sound p q = (p.0 ∙ sym q.0, p.1 ∙ sym q.1)
granted_one nodes after other (request.Name of) m next sound p q = shapes_one nodes after other (Ref of) m next sound p q
granted_one nodes after other (request.Routine params result) m next sound p q = shapes_one nodes after other (Proc params result) m next sound p q

granted_sound : (nodes after : List Shape) (r : Request) (m : ℕ) → AreSound nodes → length after ≤ MOST_MODES → IsRequestBelow (length nodes) r → IsGranted nodes r after m → AreSound after
granted_sound nodes after request.Nothing m sound few below g = subst AreSound (sym g.0) sound
granted_sound nodes after (request.There x) m sound few below g = subst AreSound (sym g.0) sound
granted_sound nodes after (request.Name of) m sound few below g = name_sound nodes after of m sound few below g
granted_sound nodes after (request.Routine params result) m sound few below g = procedure_sound nodes after params result m sound few below.0 below.1 g

-- a node of an old mode stays one
abbrev pub KeepNodes : (nodes after : List Shape) → Type 0
KeepNodes nodes after = (mode : Mode) (node : ℕ) → mode.id < length nodes → IsNode nodes mode node → IsNode after mode node

pub same_keeps : (nodes after : List Shape) → after ≡ nodes → KeepNodes nodes after
same_keeps nodes after e mode node h is = subst (λ xs. IsNode xs mode node) (sym e) is

pub keeps_on : (one two three : List Shape) → length one ≤ length two → KeepNodes one two → KeepNodes two three → KeepNodes one three
keeps_on one two three l p q mode node h is = q mode node (omega arith) (p mode node h is)

granted_keeps : (nodes after : List Shape) (r : Request) (m : ℕ) → AreSound nodes → IsRequestBelow (length nodes) r → IsGranted nodes r after m → KeepNodes nodes after
granted_keeps nodes after request.Nothing m sound below g = same_keeps nodes after g.0
granted_keeps nodes after (request.There x) m sound below g = same_keeps nodes after g.0
granted_keeps nodes after (request.Name of) m sound below g = name_keeps_node nodes after of m sound below g
granted_keeps nodes after (request.Routine params result) m sound below g = procedure_keeps_node nodes after params result m sound below.0 below.1 g

-- ---- all nodes, from the last to the first

pub longer_on : (one two three : List Shape) → AreLonger one two → AreLonger two three → AreLonger one three
longer_on one two three p q =
    let l = p.long in
    let k = q.long in
    record { long = omega arith; kept = λ m h. q.kept m (omega arith) ∙ p.kept m h }

module _ (tree : Built) (of : ByNode) (start : List Shape) where
  pub defined_longer : {from : ℕ} {nodes : List Shape} {table : List ℕ} → AreDefinedFrom tree of start from nodes table → AreLonger start nodes
  defined_longer {nodes = nodes} (none_yet here same none) = same_longer start nodes same
  defined_longer {from = from} {nodes = nodes} (one_more m before known rest granted is) =
      longer_on start before nodes (defined_longer rest) (granted_longer before nodes (requested tree of known (kind_at tree from) (parts_at tree from)) m granted)

  within : {from : ℕ} {nodes : List Shape} {table : List ℕ} → AreDefinedFrom tree of start from nodes table → from ≤ length tree.nodes
  within (none_yet here same none) = omega arith
  within (one_more m before known rest granted is) = let h = within rest in omega arith

  -- what is known of the modes so far
  pub record AreGood (nodes : List Shape) (table : List ℕ) : Type 0 where
    pub sound : AreSound nodes
    pub of_below : AreBelow (length nodes) of
    pub below : AllBelow (length nodes) table

  all_zero : (n count : ℕ) → 0 < n → AllBelow n (replicate count 0)
  all_zero n zero some k = some
  all_zero n (suc c) some zero = some
  all_zero n (suc c) some (suc k) = all_zero n c some k

  module _ (sound : AreSound start) (of_below : AreBelow (length start) of) where
    good_begun : (nodes : List Shape) (table : List ℕ) → nodes ≡ start → table ≡ replicate (length tree.nodes) 0 → AreGood nodes table
    good_begun nodes table same none =
        let many = some_modes start sound.holds in
        let begun : AreGood start (replicate (length tree.nodes) 0) = record { sound = sound; of_below = of_below; below = all_zero (length start) (length tree.nodes) (omega arith) } in
        subst (AreGood nodes) (sym none) (subst (λ xs. AreGood xs (replicate (length tree.nodes) 0)) (sym same) begun)

    request_there : (n : ℕ) (before : List Shape) (known : List ℕ) → AreGood before known → IsRequestBelow (length before) (requested tree of known (kind_at tree n) (parts_at tree n))
    request_there n before known good =
        requested_below tree of (length before) known (kind_at tree n) (parts_at tree n) (some_modes before good.sound.holds) good.of_below good.below

    good_more : (n m : ℕ) (before nodes : List Shape) (known table : List ℕ) → AreGood before known → length nodes ≤ MOST_MODES
        → IsGranted before (requested tree of known (kind_at tree n) (parts_at tree n)) nodes m → table ≡ with_mode tree of n m known → AreGood nodes table
    good_more n m before nodes known table good few granted is =
        let there = request_there n before known good in
        let long = granted_long before (requested tree of known (kind_at tree n) (parts_at tree n)) nodes m there granted in
        let more : AreBelow (length nodes) of = of_longer (length before) (length nodes) of long.long good.of_below in
        record {
          sound = granted_sound before nodes (requested tree of known (kind_at tree n) (parts_at tree n)) m good.sound few there granted;
          of_below = more;
          below = subst (AllBelow (length nodes)) (sym is) (mode_below tree of (length nodes) n m known more (all_longer (length before) (length nodes) known long.long good.below) long.there);
        }

    pub good : {from : ℕ} {nodes : List Shape} {table : List ℕ} → AreDefinedFrom tree of start from nodes table → length nodes ≤ MOST_MODES → AreGood nodes table
    good {nodes = nodes} {table = table} (none_yet here same none) few = good_begun nodes table same none
    good {from = from} {nodes = nodes} {table = table} (one_more m before known rest granted is) few =
        let l = granted_longer before nodes (requested tree of known (kind_at tree from) (parts_at tree from)) m granted in
        let k = l.long in
        good_more from m before nodes known table (good rest (omega arith)) few granted is

    one_step : (n m next : ℕ) (before nodes others : List Shape) (known table listed : List ℕ) → AreGood before known
        → IsGranted before (requested tree of known (kind_at tree n) (parts_at tree n)) nodes m → table ≡ with_mode tree of n m known
        → IsGranted before (requested tree of known (kind_at tree n) (parts_at tree n)) others next → listed ≡ with_mode tree of n next known
        → (nodes ≡ others) × (table ≡ listed)
    one_step n m next before nodes others known table listed good p e q f =
        let same = granted_one before nodes others (requested tree of known (kind_at tree n) (parts_at tree n)) m next good.sound p q in
        (same.0, e ∙ ap (λ x. with_mode tree of n x known) same.1 ∙ sym f)

    moved_on : (n k next : ℕ) (before other nodes : List Shape) (known listed : List ℕ) → n ≡ k → before ≡ other → known ≡ listed
        → IsGranted other (requested tree of listed (kind_at tree k) (parts_at tree k)) nodes next → IsGranted before (requested tree of known (kind_at tree n) (parts_at tree n)) nodes next
    moved_on n k next before other nodes known listed e f g granted = rw (e, f, g) granted

    pub one_run : {from at : ℕ} {nodes others : List Shape} {table listed : List ℕ} → AreDefinedFrom tree of start from nodes table → AreDefinedFrom tree of start at others listed
        → from ≡ at → length nodes ≤ MOST_MODES → length others ≤ MOST_MODES → (nodes ≡ others) × (table ≡ listed)
    one_run (none_yet here same none) (none_yet there equal zeros) e few less = (same ∙ sym equal, none ∙ sym zeros)
    one_run (none_yet here same none) (one_more m before known rest granted is) e few less = let h = within rest in absurd (omega arith)
    one_run (one_more m before known rest granted is) (none_yet there equal zeros) e few less = let h = within rest in absurd (omega arith)
    one_run {from = from} {at = at} {nodes = nodes} {others = others} {table = table} {listed = listed} (one_more m before known rest granted is) (one_more next other tabled more given was) e few less =
        let l = (granted_longer before nodes (requested tree of known (kind_at tree from) (parts_at tree from)) m granted).long in
        let k = (granted_longer other others (requested tree of tabled (kind_at tree at) (parts_at tree at)) next given).long in
        let same = one_run rest more (ap suc e) (omega arith) (omega arith) in
        one_step from m next before nodes others known table listed (good rest (omega arith)) granted is
        (moved_on from at next before other others known tabled e same.0 same.1 given)
        (was ∙ ap (λ x. with_mode tree of x next tabled) (sym e) ∙ ap (λ x. with_mode tree of from next x) (sym same.1))

    pub defined_keeps : {from : ℕ} {nodes : List Shape} {table : List ℕ} → AreDefinedFrom tree of start from nodes table → length nodes ≤ MOST_MODES → KeepNodes start nodes
    defined_keeps {nodes = nodes} (none_yet here same none) few = same_keeps start nodes same
    defined_keeps {from = from} {nodes = nodes} (one_more m before known rest granted is) few =
        let k = (granted_longer before nodes (requested tree of known (kind_at tree from) (parts_at tree from)) m granted).long in
        let well = good rest (omega arith) in
        keeps_on start before nodes (defined_longer rest).long (defined_keeps rest (omega arith))
        (granted_keeps before nodes (requested tree of known (kind_at tree from) (parts_at tree from)) m well.sound (request_there from before known well) granted)
