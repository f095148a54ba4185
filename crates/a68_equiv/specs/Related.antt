-- Firmly related modes (Report, 7.1.1).
use Rattle.std.specs.Prelude.{◌≡◌, ◌⊎◌, ℕ, List, [], ◌∷◌, Option, Some, None, true, false}
use Rattle.a68_modes.specs.declared.shape.Shape.{Shape}
use Rattle.a68_modes.specs.declared.shape.Shape.TheVariants.{Ref, Union, Proc}
use Rattle.a68_modes.specs.declared.coercion.Coercion.{Coercion}
use Rattle.a68_modes.specs.declared.coercion.Coercion.TheVariants.{Deref, Deproc}
use Rattle.a68_equiv.specs.declared.mode.Mode.{Mode}
use Rattle.a68_equiv.specs.Unfolding.{unfolded, IsMember, Equivalent}

-- the mode of a node as it stands, and without its FLEX down to the next REF or PROC
abbrev pub as_it_stands : ℕ → Mode
as_it_stands m = record { id = m; fixed = false }

abbrev pub without_flex : ℕ → Mode
without_flex m = record { id = m; fixed = true }

-- the meek coercions of one mode to another: a name is dereferenced, which takes FLEX away, and a procedure without
-- parameters is called
pub data Meek (nodes : List Shape) : Mode → List Coercion → Mode → Type 0 where
  here : {m : Mode} → Meek nodes m [] m
  deref : {m n : Mode} {a : ℕ} {path : List Coercion} → unfolded nodes m.id ≡ Ref a → Meek nodes (without_flex a) path n → Meek nodes m (Deref ∷ path) n
  deproc : {m n : Mode} {a : ℕ} {path : List Coercion} → unfolded nodes m.id ≡ Proc [] a → Meek nodes (as_it_stands a) path n → Meek nodes m (Deproc ∷ path) n

-- the one mode leads meekly to one that is equivalent to the other, by some coercions or by none
abbrev pub LeadsMeekly : List Shape → Mode → Mode → Type 0
LeadsMeekly nodes m n = (k : Mode) × (path : List Coercion) × Meek nodes m path k × Equivalent nodes k n

-- the one leads meekly to the other, or the other way round
abbrev pub AreMeeklyRelated : List Shape → ℕ → ℕ → Type 0
AreMeeklyRelated nodes x y = LeadsMeekly nodes (as_it_stands x) (as_it_stands y) ⊎ LeadsMeekly nodes (as_it_stands y) (as_it_stands x)

-- x is a member of a union, or the mode itself where that is none
abbrev pub IsSelfOrMember : List Shape → ℕ → Shape → ℕ → Type 0
IsSelfOrMember nodes m (Union members) x = IsMember nodes m x
IsSelfOrMember nodes m shape x = x ≡ m

-- a member of the one is equivalent to a member of the other or leads meekly to it, or the other way round
abbrev pub AreRelated : List Shape → ℕ → ℕ → Type 0
AreRelated nodes a b =
    (x : ℕ) × (y : ℕ) × IsSelfOrMember nodes a (unfolded nodes a) x × IsSelfOrMember nodes b (unfolded nodes b) y × AreMeeklyRelated nodes x y

-- the meek coercion of a mode of this shape leads here
abbrev pub meek_step : Shape → Option Mode
meek_step (Ref a) = Some (without_flex a)
meek_step (Proc [] a) = Some (as_it_stands a)
meek_step shape = None
