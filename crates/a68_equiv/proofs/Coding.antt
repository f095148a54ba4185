-- The codes of constructors: equal exactly where the constructors are.
use Rattle.std.proofs.Common.{◌≡◌, ℕ, List, [], ◌∷◌, Bool, false, cond, nat_eq, refl, sym, ap, ◌∙◌}
use Rattle.std.specs.Prelude.{map}
use Rattle.a68_modes.specs.declared.shape.Shape.{Shape}
use Rattle.a68_modes.specs.declared.shape.Shape.TheVariants.{Void, Int, Long, Bool as bool_shape, Char, Bits, Sema, Layout, Ref, Rows, Struct, Union, Proc, Same, Blank}
use Rattle.a68_equiv.specs.Unfolding.{constructor, flex_left, is_union}
use Rattle.a68_equiv.specs.Graph.{code_of}
use Rattle.a68_equiv.proofs.Numbers.{bit_back}

-- fields without their modes
abbrev named : List ℕ → List (ℕ × ℕ)
named [] = []
named (n ∷ ns) = (n, 0) ∷ named ns

abbrev names : List (ℕ × ℕ) → List ℕ
names fields = map (λ field. field.0) fields

abbrev bare : List (ℕ × ℕ) → List (ℕ × ℕ)
bare fields = map (λ field. (field.0, 0)) fields

abbrev zeros : List ℕ → List ℕ
zeros params = map (λ p. 0) params

-- the constructor of a code
abbrev rows_of : List ℕ → Shape
rows_of (dims ∷ flex ∷ rest) = Rows dims (nat_eq flex 1) 0
rows_of _ = Void

abbrev plain_of : ℕ → Shape
plain_of tag =
    cond (nat_eq tag 1) Int (cond (nat_eq tag 2) bool_shape (cond (nat_eq tag 3) Char (cond (nat_eq tag 4) Bits (cond (nat_eq tag 5) Sema (cond (nat_eq tag 6) Layout
    (cond (nat_eq tag 7) (Ref 0) (cond (nat_eq tag 10) (Union []) (cond (nat_eq tag 12) (Same 0) (cond (nat_eq tag 13) Blank (cond (nat_eq tag 14) Long Void))))))))))

abbrev made_of : List ℕ → Shape
made_of [] = Void
made_of (tag ∷ rest) =
    cond (nat_eq tag 8) (rows_of rest) (cond (nat_eq tag 9) (Struct (named rest)) (cond (nat_eq tag 11) (Proc rest 0) (plain_of tag)))

names_back : (fields : List (ℕ × ℕ)) → named (names fields) ≡ bare fields
names_back [] = refl
names_back (f ∷ fs) = ap (λ (rest : List (ℕ × ℕ)). (f.0, 0) ∷ rest) (names_back fs)

made : (fixed : Bool) (s : Shape) → made_of (code_of fixed s) ≡ constructor fixed s
made fixed (Rows dims flex m) = ap (λ (b : Bool). Rows dims b 0) (bit_back (flex_left fixed flex))
made fixed (Struct fields) = ap Struct (names_back fields)
made fixed Void = refl
made fixed Int = refl
made fixed bool_shape = refl
made fixed Char = refl
made fixed Bits = refl
made fixed Long = refl
made fixed Sema = refl
made fixed Layout = refl
made fixed (Ref m) = refl
made fixed (Union ms) = refl
made fixed (Same m) = refl
made fixed Blank = refl
made fixed (Proc ps m) = refl

pub from_code : (f g : Bool) (s t : Shape) → code_of f s ≡ code_of g t → constructor f s ≡ constructor g t
from_code f g s t e = sym (made f s) ∙ ap made_of e ∙ made g t

names_again : (fields : List (ℕ × ℕ)) → names (bare fields) ≡ names fields
names_again [] = refl
names_again (f ∷ fs) = ap (λ (rest : List ℕ). f.0 ∷ rest) (names_again fs)

zeros_again : (params : List ℕ) → zeros (zeros params) ≡ zeros params
zeros_again [] = refl
zeros_again (p ∷ ps) = ap (λ (rest : List ℕ). 0 ∷ rest) (zeros_again ps)

coded : (fixed : Bool) (s : Shape) → code_of false (constructor fixed s) ≡ code_of fixed s
coded fixed (Struct fields) = ap (λ (rest : List ℕ). 9 ∷ rest) (names_again fields)
coded fixed (Proc params m) = ap (λ (rest : List ℕ). 11 ∷ rest) (zeros_again params)
coded fixed Void = refl
coded fixed Int = refl
coded fixed bool_shape = refl
coded fixed Char = refl
coded fixed Bits = refl
coded fixed Long = refl
coded fixed Sema = refl
coded fixed Layout = refl
coded fixed (Ref m) = refl
coded fixed (Union ms) = refl
coded fixed (Same m) = refl
coded fixed Blank = refl
coded fixed (Rows dims flex m) = refl

pub to_code : (f g : Bool) (s t : Shape) → constructor f s ≡ constructor g t → code_of f s ≡ code_of g t
to_code f g s t e = sym (coded f s) ∙ ap (code_of false) e ∙ coded g t

pub union_made : (fixed : Bool) (s : Shape) → is_union (constructor fixed s) ≡ is_union s
union_made fixed Void = refl
union_made fixed Int = refl
union_made fixed bool_shape = refl
union_made fixed Char = refl
union_made fixed Bits = refl
union_made fixed Long = refl
union_made fixed Sema = refl
union_made fixed Layout = refl
union_made fixed (Ref m) = refl
union_made fixed (Rows dims flex m) = refl
union_made fixed (Struct fields) = refl
union_made fixed (Union ms) = refl
union_made fixed (Proc ps m) = refl
union_made fixed (Same m) = refl
union_made fixed Blank = refl
