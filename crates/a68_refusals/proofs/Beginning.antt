-- Where the rule is told that is broken first.
use Rattle.std.proofs.Common.{◌≡◌, ℕ, ◌≤◌, List, [], ◌∷◌, Option, Some, None, Bool, true, false, nat_lt, if◌then◌else◌, refl, subst, suc, slice_get, arith}
use Rattle.std.specs.Option.{option_map_or}
use Rattle.a68_ranges.specs.Nodes.{parts_at, place_at}
use Rattle.a68_refusals.specs.First.{Asked, Breaks, IsFirstRefused, coerced, itself, own_at, told_misfit, told_own}
use Rattle.a68_refusals.specs.Order.{told_by}
use Rattle.a68_refusals.specs.Rules.{end_at, is_jump_astray, is_operator_lacking, last_start, place_behind, place_of, sign_of}
use Rattle.a68_refusals.specs.declared.rule.NodeRule.{NodeRule}
use Rattle.a68_refusals.specs.declared.turn.Broken.{Broken}
use Rattle.a68_refusals.specs.declared.unit.Misfit.{Misfit}
use Rattle.a68_tree.specs.Trees.{Built}
use Rattle.a68_tree.specs.declared.node.Node.{Node}

begins_at : (end : ℕ) (o : Option Node) → ((n : Node) → o ≡ Some n → n.span.from ≤ end) → option_map_or (λ (n : Node). n.span.from) o 0 ≤ end
begins_at end None h = omega arith
begins_at end (Some n) h = h n refl

one_of : (end : ℕ) (b : Bool) (m n : ℕ) → m ≤ end → n ≤ end → (if b then m else n) ≤ end
one_of end true m n p q = p
one_of end false m n p q = q

module _ (tree : Built) (end : ℕ) (by : (id : ℕ) (n : Node) → slice_get tree.nodes id ≡ Some n → n.span.from ≤ end)
    (starts : (i s : ℕ) → slice_get tree.starts i ≡ Some s → s ≤ end) where
  place_by : (id : ℕ) → place_at tree id ≤ end
  place_by id = begins_at end (slice_get tree.nodes id) (λ n at. by id n at)

  start_by : (list : List ℕ) → ((i s : ℕ) → slice_get list i ≡ Some s → s ≤ end) → (byte found : ℕ) → found ≤ end → last_start list byte found ≤ end
  start_by [] all byte found le = le
  start_by (s ∷ ss) all byte found le = one_of end (nat_lt s byte) _ _ (start_by ss (λ i t at. all (suc i) t at) byte s (all 0 s refl)) le

  sign_by : (n : ℕ) (parts : List ℕ) → sign_of tree n parts ≤ end
  sign_by n (l ∷ r ∷ []) = start_by tree.starts starts (place_at tree r) 0 (omega arith)
  sign_by n [] = place_by n
  sign_by n (l ∷ []) = place_by n
  sign_by n (l ∷ r ∷ q ∷ ps) = place_by n

  behind_by : (n : ℕ) (rule : NodeRule) → place_behind tree n rule ≤ end
  behind_by n rule =
      one_of end (is_jump_astray rule) _ _
      (start_by tree.starts starts (end_at tree n) 0 (omega arith)) (place_by n)

  own_by : (n : ℕ) (rule : NodeRule) → place_of tree n rule ≤ end
  own_by n rule = one_of end (is_operator_lacking rule) _ _ (sign_by n (parts_at tree n)) (behind_by n rule)

  itself_by : (n : ℕ) (rule : Option NodeRule) (b : Broken) → told_own tree n rule ≡ Some b → b.place ≤ end
  itself_by n None b e = absurd (cc)
  itself_by n (Some rule) b e = let same : told_by tree (Some n) rule (place_of tree n rule) ≡ b = cc in subst (λ x. x.place ≤ end) same (own_by n rule)

  coerced_by : (n : ℕ) (m : Option Misfit) (b : Broken) → told_misfit tree n m ≡ Some b → b.place ≤ end
  coerced_by n None b e = absurd (cc)
  coerced_by n (Some m) b e = let same : told_by tree m.by m.rule (place_at tree n) ≡ b = cc in subst (λ x. x.place ≤ end) same (place_by n)

pub broken_by : (a : Asked) (end : ℕ) (b : Broken) → ((id : ℕ) (n : Node) → slice_get a.tree.nodes id ≡ Some n → n.span.from ≤ end)
    → ((i s : ℕ) → slice_get a.tree.starts i ≡ Some s → s ≤ end) → (n : ℕ) → Breaks a n b → b.place ≤ end
broken_by a end b by starts n (itself e) = itself_by a.tree end by starts n (own_at a n) b e
broken_by a end b by starts n (coerced m is e) = coerced_by a.tree end by starts n m b e

pub first_by : (a : Asked) (end : ℕ) (b : Broken) → ((id : ℕ) (n : Node) → slice_get a.tree.nodes id ≡ Some n → n.span.from ≤ end)
    → ((i s : ℕ) → slice_get a.tree.starts i ≡ Some s → s ≤ end) → IsFirstRefused a (Some b) → b.place ≤ end
first_by a end b by starts ((n, lt, breaks), least) = broken_by a end b by starts n breaks
