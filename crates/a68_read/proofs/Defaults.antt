-- Goals by what is done for them.
use Rattle.std.proofs.Common.{◌≡◌, true, refl}
use Rattle.std.proofs.lemmas.Bool.{false≢true}
use Rattle.a68_tree.specs.declared.kind.NodeKind.{NodeKind}
use Rattle.a68_symbols.specs.declared.sym.Bracket.{Bracket}
use Rattle.a68_symbols.specs.declared.sym.Token.{Token}
use Rattle.a68_unit_productions.specs.declared.goal.Goal.{Goal}
use Rattle.a68_unit_productions.specs.declared.goal.Goal.TheVariants as g
use Rattle.a68_read.specs.Weights.{is_taking}
use Rattle.a68_read.specs.Acts.{is_acting}

pub only_leave : (goal : Goal) → is_acting goal ≡ true → (goal ≡ g.Begin → ⊥) → ((j : NodeKind) → goal ≡ g.Wrap j → ⊥) → (goal ≡ g.Relate → ⊥) → (goal ≡ g.WrapLong → ⊥) → (goal ≡ g.Leap → ⊥) → ((j : NodeKind) → goal ≡ g.Close j → ⊥)
    → ((j : NodeKind) → goal ≡ g.SetAside j → ⊥) → (goal ≡ g.Share → ⊥) → (goal ≡ g.Forget → ⊥) → (goal ≡ g.Join → ⊥) → goal ≡ g.Leave
only_leave g.Begin e a b c o p d f h i j = absurd (a refl)
only_leave g.Leave e a b c o p d f h i j = refl
only_leave (g.Wrap x) e a b c o p d f h i j = absurd (b x refl)
only_leave g.Relate e a b c o p d f h i j = absurd (c refl)
only_leave g.WrapLong e a b c o p d f h i j = absurd (o refl)
only_leave g.Leap e a b c o p d f h i j = absurd (p refl)
only_leave (g.Close x) e a b c o p d f h i j = absurd (d x refl)
only_leave (g.SetAside x) e a b c o p d f h i j = absurd (f x refl)
only_leave g.Share e a b c o p d f h i j = absurd (h refl)
only_leave g.Forget e a b c o p d f h i j = absurd (i refl)
only_leave g.Join e a b c o p d f h i j = absurd (j refl)
only_leave goal e a b c o p d f h i j = absurd (false≢true e)

pub only_plain : (goal : Goal) → is_taking goal ≡ true → ((x : Bracket) → goal ≡ g.Opens x → ⊥) → ((x : Bracket) → goal ≡ g.Closes x → ⊥) → (goal ≡ g.Monadic → ⊥) → (goal ≡ g.Dyadic → ⊥)
    → ((x : Token) → goal ≡ g.Take x → ⊥) → (goal ≡ g.Operator → ⊥) → (goal ≡ g.Denotation → ⊥) → goal ≡ g.Plain
only_plain (g.Opens x) e a b c d f h i = absurd (a x refl)
only_plain (g.Closes x) e a b c d f h i = absurd (b x refl)
only_plain g.Monadic e a b c d f h i = absurd (c refl)
only_plain g.Dyadic e a b c d f h i = absurd (d refl)
only_plain (g.Take x) e a b c d f h i = absurd (f x refl)
only_plain g.Operator e a b c d f h i = absurd (h refl)
only_plain g.Denotation e a b c d f h i = absurd (i refl)
only_plain g.Plain e a b c d f h i = refl
only_plain goal e a b c d f h i = absurd (false≢true e)
