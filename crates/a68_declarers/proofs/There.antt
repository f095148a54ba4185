-- Nodes that are there.
use Rattle.std.proofs.Common.{◌≡◌, ◌<◌, ◌≤◌, ◌+◌, ℕ, zero, suc, List, [], ◌∷◌, Bool, false, length, refl, sym, ap, ◌∙◌, arith, ⊎_elim, Some, None, slice_get, Option}
use Rattle.std.specs.Prelude.{slice_index_or, replicate}
use Rattle.std.specs.List.{Contains}
use Rattle.std.specs.Option.{option_map_or, option_map}
use Rattle.std.proofs.lemmas.Bool.{false≢true}
use Rattle.a68_declarers.specs.Declarers.{is_declarer, IsDeclarerAt}
use Rattle.std.proofs.lemmas.Bool.Decides.{eqb_tells}
use Rattle.std.proofs.lemmas.List.{length-replicate}
use Rattle.std.proofs.lemmas.List.Elements.{All-contains}
use Rattle.a68_ranges.proofs.Parenting.{all_below, all_behind}
use Rattle.a68_ranges.proofs.Taking.{past, below_or, read}
use Rattle.a68_ranges.specs.Definitions.{defines, FirstDefinition, here, further, IsWordDefinition}
use Rattle.a68_ranges.specs.Nodes.{kind_at, parts_at, IsPart}
use Rattle.a68_ranges.specs.declared.sort.IndicatorKind.{IndicatorKind}
use Rattle.a68_tree.specs.Trees.{Built, AllBetween}
use Rattle.a68_tree.specs.declared.kind.NodeKind.TheVariants as kind
use Rattle.a68_tree.specs.declared.node.Node.{Node}

pub kind_past : (tree : Built) (d : ℕ) → length tree.nodes ≤ d → kind_at tree d ≡ kind.Skip
kind_past tree d h = ap (λ (o : Option Node). option_map_or (λ (n : Node). n.kind) o kind.Skip) (past tree.nodes d h)

pub declarer_there : (tree : Built) (d : ℕ) → IsDeclarerAt tree d → d < length tree.nodes
declarer_there tree d is = ⊎_elim (λ h. h) (λ h. absurd (false≢true (sym (ap is_declarer (kind_past tree d h)) ∙ is))) (below_or d (length tree.nodes))

nothing : (sort : IndicatorKind) → defines kind.Skip ≡ Some sort → ⊥
unfolding defines
nothing sort e = cc

first_there : {tree : Built} {sort : IndicatorKind} {name d : ℕ} {ranges : List ℕ} → FirstDefinition tree sort name ranges d → d < length tree.nodes
first_there {tree = tree} {sort = sort} {d = d} (here is) =
    ⊎_elim (λ h. h) (λ h. absurd (nothing sort (ap defines (sym (kind_past tree d h)) ∙ is.sort_is))) (below_or d (length tree.nodes))
first_there (further none more) = first_there more

pub definition_there : (tree : Built) (at : ℕ) (sort : IndicatorKind) (name d : ℕ) → IsWordDefinition tree at sort name d → d < length tree.nodes
definition_there tree at sort name d is = first_there is.first

-- the parts of a node, as they are read
pub parts_read : (tree : Built) (node : ℕ) (parts : List ℕ) → option_map (λ (n : Node). n.parts) (slice_get tree.nodes node) ≡ Some parts → parts_at tree node ≡ parts
parts_read tree node parts e = go (slice_get tree.nodes node) e
  where
    go : (o : Option Node) → option_map (λ (n : Node). n.parts) o ≡ Some parts → option_map_or (λ (n : Node). n.parts) o [] ≡ parts
    go None e = absurd (cc)
    go (Some n) e = cc

-- what a list holds stands at a place of it
pub at_place : (xs : List ℕ) (k p : ℕ) → slice_get xs k ≡ Some p → Contains xs p
at_place [] k p e = absurd (cc)
at_place (x ∷ xs) zero p e = (0, omega arith, (let s : x ≡ p = cc in s))
at_place (x ∷ xs) (suc k) p e = let c = at_place xs k p e in (suc c.0, (let l = c.1 in omega arith), c.2)

pub placed : (xs : List ℕ) (p : ℕ) → Contains xs p → (k : ℕ) × (slice_get xs k ≡ Some p)
placed xs p c = (c.0, read xs c.0 p c.1 ∙ ap Some c.2)

-- the parts of one node more
pub follow_more : (tree : Built) (i : ℕ) (parts : List ℕ) → parts_at tree i ≡ parts → AllBetween i (length tree.nodes) parts
    → ((n p : ℕ) → n < i → IsPart tree n p → (n < p) × (p < length tree.nodes)) → (n p : ℕ) → n < i + 1 → IsPart tree n p → (n < p) × (p < length tree.nodes)
follow_more tree i parts is between before n p h part = ⊎_elim
    (λ s.
    let at : slice_get parts part.0 ≡ Some p = sym (ap (λ (xs : List ℕ). slice_get xs part.0) (ap (parts_at tree) s.1 ∙ is)) ∙ part.1.1 in
    let e = s.1 in
    let low = all_behind i (length tree.nodes) parts between part.0 p at in
    let c = at_place parts part.0 p at in
    (omega arith, All-contains (λ x. x < length tree.nodes) parts p (all_below i (length tree.nodes) parts between) c))
    (λ s. let d = s.1 in before n p (omega arith) part)
    (eqb_tells n i)

-- a list of which each element is false
pub all_false : (marks : List Bool) (n d : ℕ) → marks ≡ replicate n false → slice_index_or marks d false ≡ false
all_false marks n d e = rw e (go n d)
  where
    go : (n d : ℕ) → slice_index_or (replicate n false) d false ≡ false
    go zero d = refl
    go (suc n) zero = refl
    go (suc n) (suc d) = go n d

pub all_long : (marks : List Bool) (n m : ℕ) → marks ≡ replicate n false → n ≡ m → length marks ≡ m
all_long marks n m e f = ap length e ∙ length-replicate n false ∙ f
