-- Parts that stand behind a node.
use Rattle.std.proofs.Common.{ℕ, zero, suc, ◌<◌, List, [], ◌∷◌, length, get_or, arith}
use Rattle.a68_tree.specs.Trees.{AllBetween}

pub between-each : (a b i : ℕ) (ids : List ℕ) → AllBetween a b ids → i < length ids → (a < get_or ids i 0) × (get_or ids i 0 < b)
between-each a b i [] all p = absurd (omega arith)
between-each a b zero (x ∷ ids) all p = (all.0, all.1)
between-each a b (suc i) (x ∷ ids) all p = between-each a b i ids all.2 (omega arith)

-- what stands behind a node stands behind one before it
pub between-above : (a b n : ℕ) (ids : List ℕ) → a < b → AllBetween b n ids → AllBetween a n ids
between-above a b n [] less all = tt
between-above a b n (x ∷ ids) less all = let e = all.0 in (omega arith, all.1, between-above a b n ids less all.2)
