-- A tree has one meaning, or it breaks one rule at one place.
use Rattle.std.proofs.Common.{◌≡◌, ℕ, ◌≤◌, List, length, Option, Some, None, sym, ap, subst, ◌∙◌, arith}
use Rattle.a68_base.specs.declared.limits.TheConstants.{MOST_MODES}
use Rattle.a68_base.specs.declared.refusal.Refusal.{Refusal}
use Rattle.a68_declare.specs.Outcome.{AreModesOf, ByNode, IsFirstBroken}
use Rattle.a68_definitions.specs.Defined.{AllBelow, AreBelow, AreDefined}
use Rattle.a68_definitions.specs.Tags.{AreTags}
use Rattle.a68_identify.specs.Operators.{NumbersAreThere, IsRelatedPair}
use Rattle.a68_meaning.specs.Meaning.{IsMeaning, IsMisused, IsUnbroken, declarer, node, related}
use Rattle.a68_mode_table.specs.Growing.{AreSound}
use Rattle.a68_modes.specs.declared.shape.Shape.{Shape}
use Rattle.a68_positions.specs.Positions.{ArePositions}
use Rattle.a68_positions.specs.declared.position.Position.{Position}
use Rattle.a68_ranges.specs.Indexed.{IsLeast}
use Rattle.a68_ranges.specs.Nodes.{place_at}
use Rattle.a68_ranges.specs.Twice.{IsTwice}
use Rattle.a68_refusals.specs.First.{Asked, IsFirstRefused}
use Rattle.a68_refusals.specs.Order.{rule_of}
use Rattle.a68_refusals.specs.declared.turn.Broken.{Broken}
use Rattle.a68_tree.specs.Trees.{Built}
use Rattle.a68_yields.specs.Below.{AreTablesBelow}
use Rattle.a68_yields.specs.Yields.{AreYields, Known}
use Rattle.a68_yields.specs.declared.yielding.Finding.{Finding}
use Rattle.a68_yields.specs.declared.yielding.Yielding.{Yielding}

abbrev pub DeclaresOnce : Built → Type 0
DeclaresOnce tree = (id : ℕ) → IsTwice tree id → ⊥

-- what the laws of the crates below say
pub record Laws : Type 0 where
  pub refusal : (tree : Built) → DeclaresOnce tree → (r s : Refusal) → IsFirstBroken tree r → IsFirstBroken tree s → (r.rule ≡ s.rule) × (r.place ≡ s.place)
  pub apart : (tree : Built) → DeclaresOnce tree → (modes : List Shape) (of : ByNode) (r : Refusal) → AreModesOf tree modes of → IsFirstBroken tree r → ⊥
  pub modes : (tree : Built) → DeclaresOnce tree → (one other : List Shape) (of of_other : ByNode) → AreModesOf tree one of → AreModesOf tree other of_other
      → (one ≡ other) × (of ≡ of_other)
  pub tags : (tree : Built) → DeclaresOnce tree → (tags others : List (Option ℕ)) → AreTags tree tags → AreTags tree others → tags ≡ others
  pub defined : (tree : Built) (of : ByNode) (start nodes others : List Shape) (table listed : List ℕ) → AreSound start → AreBelow (length start) of
      → length nodes ≤ MOST_MODES → length others ≤ MOST_MODES → AreDefined tree of start nodes table → AreDefined tree of start others listed
      → (nodes ≡ others) × (table ≡ listed)
  pub defined_sound : (tree : Built) (of : ByNode) (start nodes : List Shape) (table : List ℕ) → AreSound start → AreBelow (length start) of
      → length nodes ≤ MOST_MODES → AreDefined tree of start nodes table → AreSound nodes
  pub below : (tree : Built) (nodes : List Shape) (of : ByNode) → AreModesOf tree nodes of → AreBelow (length nodes) of
  pub yields_modes : (k : Known) (start nodes others : List Shape) (ys zs : List Yielding) (fs gs : List Finding) → AreSound start
      → length nodes ≤ MOST_MODES → length others ≤ MOST_MODES → AreYields k start nodes ys fs → AreYields k start others zs gs → nodes ≡ others
  pub yields : (k : Known) (start nodes others : List Shape) (ys zs : List Yielding) (fs gs : List Finding) → AreSound start
      → length nodes ≤ MOST_MODES → length others ≤ MOST_MODES → AreYields k start nodes ys fs → AreYields k start others zs gs → ys ≡ zs
  pub findings : (k : Known) (start nodes others : List Shape) (ys zs : List Yielding) (fs gs : List Finding) → AreSound start
      → length nodes ≤ MOST_MODES → length others ≤ MOST_MODES → AreYields k start nodes ys fs → AreYields k start others zs gs → fs ≡ gs
  pub yields_sound : (k : Known) (start nodes : List Shape) (ys : List Yielding) (fs : List Finding) → AreSound start → length nodes ≤ MOST_MODES
      → AreYields k start nodes ys fs → AreSound nodes
  pub yields_longer : (k : Known) (start nodes : List Shape) (ys : List Yielding) (fs : List Finding) → AreYields k start nodes ys fs
      → length start ≤ length nodes
  pub positions : (k : Known) (ys : List Yielding) (fs : List Finding) (start nodes others : List Shape) (ps qs : List Position) → AreSound start
      → NumbersAreThere k.tree start k.of → AllBelow (length start) k.defined → AreTablesBelow (length start) (length k.tree.nodes) ys fs
      → length nodes ≤ MOST_MODES → length others ≤ MOST_MODES → ArePositions k ys fs start nodes ps → ArePositions k ys fs start others qs
      → (nodes ≡ others) × (ps ≡ qs)
  pub positions_longer : (k : Known) (ys : List Yielding) (fs : List Finding) (start nodes : List Shape) (ps : List Position)
      → ArePositions k ys fs start nodes ps → length start ≤ length nodes
  pub first : (asked : Asked) (one other : Option Broken) → IsFirstRefused asked one → IsFirstRefused asked other → one ≡ other

abbrev made : Built → List (Option ℕ) → List ℕ → List Shape → List Yielding → List Finding → List Position → Asked
made tree tags defined nodes ys fs ps = record { tree = tree; tags = tags; defined = defined; nodes = nodes; ys = ys; fs = fs; ps = ps }

-- the same known of another tree that is the same
abbrev over : Built → Asked → Asked
over tree a = made tree a.tags a.defined a.nodes a.ys a.fs a.ps

moved : {A B C : Type 0} (P : A → B → C → Type 0) (a x : A) → a ≡ x → (b y : B) → b ≡ y → (c z : C) → c ≡ z → P a b c → P x y z
moved P a x d b y e c z f p = subst (λ w. P x y w) f (subst (λ w. P x w c) e (subst (λ w. P w b c) d p))

same_asked : (a b : Asked) → a.tree ≡ b.tree → a.tags ≡ b.tags → a.defined ≡ b.defined → a.nodes ≡ b.nodes → a.ys ≡ b.ys → a.fs ≡ b.fs → a.ps ≡ b.ps → a ≡ b
same_asked a b t g d n y f p =
    ap (λ x. made x a.tags a.defined a.nodes a.ys a.fs a.ps) t
    ∙ ap (λ x. made b.tree x a.defined a.nodes a.ys a.fs a.ps) g
    ∙ ap (λ x. made b.tree b.tags x a.nodes a.ys a.fs a.ps) d
    ∙ ap (λ x. made b.tree b.tags b.defined x a.ys a.fs a.ps) n
    ∙ ap (λ x. made b.tree b.tags b.defined b.nodes x a.fs a.ps) y
    ∙ ap (λ x. made b.tree b.tags b.defined b.nodes b.ys x a.ps) f
    ∙ ap (λ x. made b.tree b.tags b.defined b.nodes b.ys b.fs x) p

module _ (laws : Laws) (tree : Built) (once : DeclaresOnce tree) where
  -- two things that are known of one tree
  module _ (f g : ByNode) (a b : Asked) (p : IsMeaning f (over tree a)) (q : IsMeaning g (over tree b)) where
    modes_one : (p.declared ≡ q.declared) × (f ≡ g)
    modes_one = laws.modes tree once p.declared q.declared f g p.modes.are q.modes.are

    tags_one : a.tags ≡ b.tags
    tags_one = laws.tags tree once a.tags b.tags p.tags q.tags

    room_yielded : length p.yielded ≤ MOST_MODES
    room_yielded = let l = laws.positions_longer _ a.ys a.fs p.yielded a.nodes a.ps p.positions in let r = p.room in omega arith

    room_named : length p.named ≤ MOST_MODES
    room_named = let l = laws.yields_longer _ p.named p.yielded a.ys a.fs p.yields in let r = room_yielded in omega arith

    other_yielded : length q.yielded ≤ MOST_MODES
    other_yielded = let l = laws.positions_longer _ b.ys b.fs q.yielded b.nodes b.ps q.positions in let r = q.room in omega arith

    other_named : length q.named ≤ MOST_MODES
    other_named = let l = laws.yields_longer _ q.named q.yielded b.ys b.fs q.yields in let r = other_yielded in omega arith

    defined_one : (p.named ≡ q.named) × (a.defined ≡ b.defined)
    defined_one =
        let there = subst (λ d. AreDefined tree f d q.named b.defined) (sym modes_one.0) (subst (λ o. AreDefined tree o q.declared q.named b.defined) (sym modes_one.1) q.defined) in
        laws.defined tree f p.declared p.named q.named a.defined b.defined p.modes.sound (laws.below tree p.declared f p.modes.are) room_named other_named p.defined there

    named_sound : AreSound p.named
    named_sound = laws.defined_sound tree f p.declared p.named a.defined p.modes.sound (laws.below tree p.declared f p.modes.are) room_named p.defined

    abbrev k : Known
    k = record { tree = tree; tags = a.tags; of = f; defined = a.defined }

    abbrev WithKnown : (P : Known → Type 0) → List (Option ℕ) → ByNode → List ℕ → Type 0
    WithKnown P t o d = P (record { tree = tree; tags = t; of = o; defined = d })

    -- what is known of the one is known of the other
    as_known : (P : Known → Type 0) → P (record { tree = tree; tags = b.tags; of = g; defined = b.defined }) → P k
    as_known P h = moved (WithKnown P) b.tags a.tags (sym tags_one) g f (sym modes_one.1) b.defined a.defined (sym defined_one.1) h

    yields_there : AreYields k p.named q.yielded b.ys b.fs
    yields_there = subst (λ n. AreYields k n q.yielded b.ys b.fs) (sym defined_one.0) (as_known (λ x. AreYields x q.named q.yielded b.ys b.fs) q.yields)

    yielded_one : p.yielded ≡ q.yielded
    yielded_one = laws.yields_modes k p.named p.yielded q.yielded a.ys b.ys a.fs b.fs named_sound room_yielded other_yielded p.yields yields_there

    ys_one : a.ys ≡ b.ys
    ys_one = laws.yields k p.named p.yielded q.yielded a.ys b.ys a.fs b.fs named_sound room_yielded other_yielded p.yields yields_there

    fs_one : a.fs ≡ b.fs
    fs_one = laws.findings k p.named p.yielded q.yielded a.ys b.ys a.fs b.fs named_sound room_yielded other_yielded p.yields yields_there

    yielded_sound : AreSound p.yielded
    yielded_sound = laws.yields_sound k p.named p.yielded a.ys a.fs named_sound room_yielded p.yields

    positions_there : ArePositions k a.ys a.fs p.yielded b.nodes b.ps
    positions_there =
        moved (λ y z s. ArePositions k y z s b.nodes b.ps) b.ys a.ys (sym ys_one) b.fs a.fs (sym fs_one) q.yielded p.yielded (sym yielded_one)
        (as_known (λ x. ArePositions x b.ys b.fs q.yielded b.nodes b.ps) q.positions)

    positions_one : (a.nodes ≡ b.nodes) × (a.ps ≡ b.ps)
    positions_one = laws.positions k a.ys a.fs p.yielded a.nodes b.nodes a.ps b.ps yielded_sound p.there p.below p.tables p.room q.room p.positions positions_there

    same : over tree a ≡ over tree b
    same =
        let refl_tree : tree ≡ tree = cc in
        same_asked (over tree a) (over tree b) refl_tree tags_one defined_one.1 positions_one.0 ys_one fs_one positions_one.1

    -- and what is broken first is one
    first_one : (m n : Option Broken) → IsFirstRefused (over tree a) m → IsFirstRefused (over tree b) n → m ≡ n
    first_one m n h i = laws.first (over tree a) m n h (subst (λ x. IsFirstRefused x n) (sym same) i)

  abbrev AreOne : Refusal → Refusal → Type 0
  AreOne r s = (r.rule ≡ s.rule) × (r.place ≡ s.place)

  -- the first places in the text for which something holds are one
  one_least : (P : ℕ → Type 0) (i j : ℕ) → IsLeast tree P (Some i) → IsLeast tree P (Some j) → place_at tree i ≡ place_at tree j
  one_least P i j p q = let x = p.1 j q.0 in let y = q.1 i p.0 in omega arith

  -- what holds over the modes of a tree holds over any other modes of it
  for_modes : (P : List Shape → ByNode → Type 0) → (m n : List Shape) (f g : ByNode) → AreModesOf tree m f → AreModesOf tree n g → P n g → P m f
  for_modes P m n f g p q h =
      let e = laws.modes tree once n m g f q p in
      subst (λ x. P m x) e.1 (subst (λ x. P x g) e.0 h)

  on_tree : (of : ByNode) (a : Asked) → a.tree ≡ tree → IsMeaning of a → IsMeaning of (over tree a)
  on_tree of a e is = subst (λ t. IsMeaning of (over t a)) e is

  first_on : (a : Asked) (m : Option Broken) → a.tree ≡ tree → IsFirstRefused a m → IsFirstRefused (over tree a) m
  first_on a m e is = subst (λ t. IsFirstRefused (over t a) m) e is

  same_some : (b d : Broken) → Some b ≡ Some d → b ≡ d
  same_some b d e = cc

  related_apart : (of : ByNode) (a : Asked) → IsMeaning of (over tree a) → (m : List Shape) (f : ByNode) (i : ℕ) → AreModesOf tree m f
      → IsLeast tree (IsRelatedPair tree m f) (Some i) → ⊥
  related_apart of a is m f i are first =
      is.modes.unrelated i (for_modes (λ x y. IsRelatedPair tree x y i) is.declared m of f is.modes.are are first.0)

  pub one_misuse : (r s : Refusal) → IsMisused tree r → IsMisused tree s → AreOne r s
  one_misuse r s (declarer p) (declarer q) = laws.refusal tree once r s p q
  one_misuse r s (declarer p) (related m f i are first rule place) = absurd (laws.apart tree once m f r are p)
  one_misuse r s (declarer p) (node of a b e is first rule place) = let w = on_tree of a e is in absurd (laws.apart tree once w.declared of r w.modes.are p)
  one_misuse r s (related m f i are first rule place) (declarer q) = absurd (laws.apart tree once m f s are q)
  one_misuse r s (related m f i are first rule place) (related n g j also second rule2 place2) =
      let there = for_modes (λ x y. IsLeast tree (IsRelatedPair tree x y) (Some j)) m n f g are also second in
      (rule ∙ sym rule2, place ∙ one_least (IsRelatedPair tree m f) i j first there ∙ sym place2)
  one_misuse r s (related m f i are first rule place) (node of a b e is second rule2 place2) = absurd (related_apart of a (on_tree of a e is) m f i are first)
  one_misuse r s (node of a b e is first rule place) (declarer q) = let w = on_tree of a e is in absurd (laws.apart tree once w.declared of s w.modes.are q)
  one_misuse r s (node of a b e is first rule place) (related m f i are second rule2 place2) = absurd (related_apart of a (on_tree of a e is) m f i are second)
  one_misuse r s (node of a b e is first rule place) (node o a2 b2 e2 is2 second rule2 place2) =
      let same_first = first_one of o a a2 (on_tree of a e is) (on_tree o a2 e2 is2) (Some b) (Some b2) (first_on a (Some b) e first) (first_on a2 (Some b2) e2 second) in
      let same_broken = same_some b b2 same_first in
      (rule ∙ ap (λ (x : Broken). rule_of x.rule) same_broken ∙ sym rule2, place ∙ ap (λ (x : Broken). x.place) same_broken ∙ sym place2)

  pub not_misused : (of : ByNode) (a : Asked) (r : Refusal) → a.tree ≡ tree → IsUnbroken of a → IsMisused tree r → ⊥
  not_misused of a r e fine (declarer p) = let w = on_tree of a e fine.is in laws.apart tree once w.declared of r w.modes.are p
  not_misused of a r e fine (related m f i are first rule place) = related_apart of a (on_tree of a e fine.is) m f i are first
  not_misused of a r e fine (node o a2 b2 e2 is2 second rule2 place2) =
      let same_first = first_one of o a a2 (on_tree of a e fine.is) (on_tree o a2 e2 is2) None (Some b2) (first_on a None e fine.none) (first_on a2 (Some b2) e2 second) in
      cc

  -- what is known of the tree is one
  pub one_meaning : (of other : ByNode) (a b : Asked) → a.tree ≡ tree → b.tree ≡ tree → IsUnbroken of a → IsUnbroken other b → (of ≡ other) × (a ≡ b)
  one_meaning of other a b e f fine also =
      let p = on_tree of a e fine.is in
      let q = on_tree other b f also.is in
      ((modes_one of other a b p q).1, ap (λ t. over t a) e ∙ same of other a b p q ∙ ap (λ t. over t b) (sym f))
