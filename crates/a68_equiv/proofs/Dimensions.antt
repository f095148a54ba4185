-- A list of nodes with one node more keeps its dimensions.
use Rattle.std.proofs.Common.{◌≡◌, ◌<◌, ◌++◌, ℕ, List, [], ◌∷◌, length, length-append, arith, ⊎_elim, sym, subst}
use Rattle.std.proofs.Math.ListN.{get_or-append}
use Rattle.std.proofs.Math.Seq.{get_or-append_seam}
use Rattle.std.proofs.lemmas.Bool.{cases_lt, cases_eq}
use Rattle.std.proofs.lemmas.List.{get_or_past}
use Rattle.a68_modes.specs.declared.shape.Shape.{Shape}
use Rattle.a68_modes.specs.declared.shape.Shape.TheVariants.{Blank}
use Rattle.a68_modes.specs.Nodes.{shape_at}
use Rattle.a68_equiv.specs.Dimensions.{HasDimensions, HaveDimensions}

pub one_more : (nodes : List Shape) (s : Shape) → HaveDimensions nodes → HasDimensions s → HaveDimensions (nodes ++ s ∷ [])
one_more nodes s have has m = ⊎_elim old (λ h. ⊎_elim last (λ ne. behind (omega arith)) (cases_eq m (length nodes))) (cases_lt m (length nodes))
  where
    old : m < length nodes → HasDimensions (shape_at (nodes ++ s ∷ []) m)
    old h = subst HasDimensions (sym (get_or-append nodes (s ∷ []) Blank m h)) (have m)

    last : m ≡ length nodes → HasDimensions (shape_at (nodes ++ s ∷ []) m)
    last e = rw (e, get_or-append_seam nodes s [] Blank) has

    behind : length nodes < m → HasDimensions (shape_at (nodes ++ s ∷ []) m)
    behind h = rw (get_or_past (nodes ++ s ∷ []) m Blank (omega (arith, length-append nodes (s ∷ [])))) tt

-- behind the last node there is no row
pub all_there : (nodes : List Shape) → ((m : ℕ) → m < length nodes → HasDimensions (shape_at nodes m)) → HaveDimensions nodes
all_there nodes each m = ⊎_elim (each m) (λ h. rw (get_or_past nodes m Blank h) tt) (cases_lt m (length nodes))
