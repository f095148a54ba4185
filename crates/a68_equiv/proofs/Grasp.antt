-- What the graph of the modes is built of.
use Rattle.std.proofs.Common.{◌≡◌, ◌<◌, ℕ, zero, suc, List, length, refl, ap, arith}
use Rattle.a68_modes.specs.declared.shape.Shape.{Shape}
use Rattle.a68_modes.specs.declared.shape.Shape.TheVariants.{Same}
use Rattle.a68_modes.specs.Nodes.{shape_at, ShapeIsWithin, HoldsNodes}
use Rattle.a68_equiv.specs.Unfolding.{behind, word_or}

pub by_word : (nodes : List Shape) (k m t : ℕ) → shape_at nodes m ≡ Same t → behind nodes (suc k) m ≡ behind nodes k t
by_word nodes k m t e = ap (word_or (behind nodes k) m) e

pub stays : (nodes : List Shape) (k m : ℕ) → ((t : ℕ) → shape_at nodes m ≡ Same t → ⊥) → behind nodes k m ≡ m
stays nodes zero m h = refl
stays nodes (suc k) m h = go (shape_at nodes m) h
  where
    go : (s : Shape) → ((t : ℕ) → s ≡ Same t → ⊥) → word_or (behind nodes k) m s ≡ m
    go (Same t) h = absurd (h t refl)
    go _ h = refl

pub behind_below : (nodes : List Shape) → HoldsNodes nodes → (steps m : ℕ) → m < length nodes → behind nodes steps m < length nodes
behind_below nodes holds zero m h = h
behind_below nodes holds (suc steps) m h = go (shape_at nodes m) (holds.within m h) (behind_below nodes holds steps)
  where
    go : (s : Shape) → ShapeIsWithin (length nodes) s → ((t : ℕ) → t < length nodes → behind nodes steps t < length nodes) → word_or (behind nodes steps) m s < length nodes
    go (Same t) p ih = ih t (p 0 0 (omega arith))
    go _ p ih = h
