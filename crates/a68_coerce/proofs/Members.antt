-- Members of unions.
use Rattle.std.proofs.Common.{◌≡◌, ℕ, List, sym}
use Rattle.std.specs.Prelude.{◌↔◌}
use Rattle.std.specs.List.{Contains}
use Rattle.a68_modes.specs.declared.shape.Shape.{Shape}
use Rattle.a68_modes.specs.declared.shape.Shape.TheVariants.{Union}
use Rattle.a68_equiv.specs.declared.mode.Mode.{Mode}
use Rattle.a68_equiv.specs.Unfolding.{unfolded, Equivalent, IsMember}
use Rattle.a68_equiv.specs.Related.{IsSelfOrMember}
use Rattle.a68_coerce.specs.Goals.{within}
use Rattle.a68_coerce.specs.Paths.{IsMemberOf, UnitesTo}
use Rattle.a68_coerce.specs.Paths.UnitesTo.{a_member, a_union}
use Rattle.a68_coerce.specs.Routes.{AreMembers}

-- what stands among the members of a union
pub listed : (nodes : List Shape) (n : Mode) (ms xs members : List ℕ) → unfolded nodes n.id ≡ Union ms → xs ≡ members → ((x : ℕ) → Contains members x ↔ IsSelfOrMember nodes n.id (unfolded nodes n.id) x) → (x : ℕ) → Contains xs x ↔ IsMember nodes n.id x
listed nodes n ms xs members is e f x = rw (is, sym e) at (f x)

module _ (nodes : List Shape) (n : Mode) (xs : List ℕ) (are : AreMembers nodes n xs) where
  pub yes : (k : Mode) → ((x : ℕ) × Contains xs x × Equivalent nodes k (within n x)) → IsMemberOf nodes n k
  yes k w = (w.0, (are.listed w.0).0 w.1, w.2)

  pub back : (k : Mode) → IsMemberOf nodes n k → (x : ℕ) × Contains xs x × Equivalent nodes k (within n x)
  back k w = (w.0, (are.listed w.0).1 w.1, w.2)

pub no_union : (nodes : List Shape) (n k : Mode) → (IsMemberOf nodes n k → ⊥) → ((some : List ℕ) → unfolded nodes k.id ≡ Union some → ⊥) → UnitesTo nodes n k → ⊥
no_union nodes n k a b (a_member is w) = a w
no_union nodes n k a b (a_union {some = s} is so w) = b s so

pub each_one : (nodes : List Shape) (n k : Mode) → (IsMemberOf nodes n k → ⊥) → UnitesTo nodes n k → (x : ℕ) → IsMember nodes k.id x → IsMemberOf nodes n (within k x)
each_one nodes n k a (a_member is w) = absurd (a w)
each_one nodes n k a (a_union is so w) = w

-- only a union is united to
pub not_united : (nodes : List Shape) (n k : Mode) → ((members : List ℕ) → unfolded nodes n.id ≡ Union members → ⊥) → UnitesTo nodes n k → ⊥
not_united nodes n k none (a_member {members = m} is w) = none m is
not_united nodes n k none (a_union {members = m} is so w) = none m is
