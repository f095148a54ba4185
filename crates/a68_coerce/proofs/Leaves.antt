-- The units that a choice may yield, from the first on.
use Rattle.std.proofs.Common.{◌≡◌, ◌∙◌, ℕ, List, Some, length, arith, refl, sym, ap, subst, ⊎_elim}
use Rattle.std.specs.Prelude.{slice_get}
use Rattle.std.proofs.lemmas.Bool.{cases_eq}
use Rattle.std.proofs.lemmas.Option.{slice_get_within}
use Rattle.a68_modes.specs.declared.shape.Shape.{Shape}
use Rattle.a68_modes.specs.declared.shape.Shape.TheVariants.{Void}
use Rattle.a68_modes.specs.declared.coercion.Coercion.{Coercion}
use Rattle.a68_modes.specs.declared.coercion.Sort.{Sort}
use Rattle.a68_modes.specs.declared.coercion.Sort.TheVariants as by
use Rattle.a68_equiv.specs.declared.mode.Mode.{Mode}
use Rattle.a68_equiv.specs.Unfolding.{unfolded}
use Rattle.a68_equiv.specs.Related.{as_it_stands, Meek}
use Rattle.a68_coerce.specs.declared.leaf.Leaf.{Leaf}
use Rattle.a68_coerce.specs.declared.leaf.Leaf.TheVariants as leaf
use Rattle.a68_coerce.specs.declared.goal.CoercionGoal.TheVariants as goal
use Rattle.a68_coerce.specs.Balanced.{LeafLeads, LeafSuits, LeafForms, OthersSuit, BalancesAt, IsBalanced, FormsAt, AllSuit, SidesAt}
use Rattle.a68_coerce.specs.Forms.{IsOfForm}
use Rattle.a68_coerce.specs.Routes.{LeadsFirst}
use Rattle.a68_coerce.specs.declared.form.ModeForm.{ModeForm}
use Rattle.a68_coerce.specs.declared.form.ModeForm.TheVariants as form
use Rattle.a68_coerce.proofs.Walking.{one_end, comparable}
use Rattle.a68_coerce.specs.Paths.{CanLead, FirmTo, IsFirstOnWay}
use Rattle.a68_coerce.specs.Paths.FirmTo.{meekly}
use Rattle.a68_coerce.specs.Paths.StrongTo.{nothing, dropping, firmly}

-- what leads by a sort leads strongly
to_void : (nodes : List Shape) (m n : Mode) → unfolded nodes n.id ≡ Void → CanLead nodes by.Strong m n
to_void nodes m n e = go (unfolded nodes m.id) refl
  where
    go : (s : Shape) → unfolded nodes m.id ≡ s → CanLead nodes by.Strong m n
    go Void is = (_, nothing e is)
    go _ is = (_, dropping e (λ v. let no = sym is ∙ v in cc))

firm_strong : (nodes : List Shape) (m n : Mode) (path : List Coercion) → FirmTo nodes m (goal.Mode n) path → CanLead nodes by.Strong m n
firm_strong nodes m n path w = go (unfolded nodes n.id) refl
  where
    go : (s : Shape) → unfolded nodes n.id ≡ s → CanLead nodes by.Strong m n
    go Void is = to_void nodes m n is
    go _ is = (path, firmly (λ v. let no = sym is ∙ v in cc) w)

any_strong : (nodes : List Shape) (s : Sort) (m n : Mode) → CanLead nodes s m n → CanLead nodes by.Strong m n
any_strong nodes by.Soft m n w = firm_strong nodes m n w.0 (meekly (w.1.0, w.1.1.0, w.1.2))
any_strong nodes by.Weak m n w = firm_strong nodes m n w.0 (meekly (w.1.0, w.1.1.0, w.1.2))
any_strong nodes by.Meek m n w = firm_strong nodes m n w.0 (meekly (w.1.0, w.1.1.0, w.1.2))
any_strong nodes by.Firm m n w = firm_strong nodes m n w.0 w.1
any_strong nodes by.Strong m n w = w

pub leads_suits : (nodes : List Shape) (s : Sort) (to : Mode) (l : Leaf) → LeafLeads nodes s to l → LeafSuits nodes to l
leads_suits nodes s to (leaf.Mode m) w = any_strong nodes s (as_it_stands m) to w
leads_suits nodes s to leaf.StrongOnly w = absurd w

-- where the first leaf that leads does not balance, none does
pub none_balances : (nodes : List Shape) (s : Sort) (to : Mode) (leaves : List Leaf) (f : ℕ) → (OthersSuit nodes to leaves f → ⊥) → (k : ℕ) → BalancesAt nodes s to leaves k → ⊥
none_balances nodes s to leaves f not k at = not (λ j other there ne. ⊎_elim
    (λ e. let same : Some at.leaf ≡ Some other = sym at.there ∙ ap (slice_get leaves) (sym e) ∙ there in
    leads_suits nodes s to other (subst (LeafLeads nodes s to) (let x : at.leaf ≡ other = cc in x) at.leads))
    (λ other_place. at.others j other there other_place)
    (cases_eq j k))

pub first_balances : (nodes : List Shape) (s : Sort) (to : Mode) (leaves : List Leaf) (f : ℕ) → LeadsFirst nodes s to leaves f → OthersSuit nodes to leaves f → IsBalanced nodes s to leaves (Some f)
first_balances nodes s to leaves f w suit = (
  record { leaf = w.leaf; there = w.there; leads = w.leads; others = suit },
  λ k lt at. w.none k at.leaf lt at.there at.leads,
)

-- the first mode of a form on a way is one
pub one_first : (nodes : List Shape) (s : Sort) (Holds : Mode → Type 0) (m k j : Mode) (p q : List Coercion) → IsFirstOnWay nodes s Holds m p k → IsFirstOnWay nodes s Holds m q j → k ≡ j
one_first nodes s Holds m k j p q v w = ⊎_elim
    (λ e. let same : p ≡ q = w.first p e.0 k e.1 v.goes v.holds in one_end v.goes.0 (subst (λ (r : List Coercion). Meek nodes m r j) (sym same) w.goes.0))
    (λ e. let same : q ≡ p = v.first q e.0 j e.1 w.goes w.holds in one_end v.goes.0 (subst (λ (r : List Coercion). Meek nodes m r j) same w.goes.0))
    (comparable v.goes.0 w.goes.0)

pub one_form : (nodes : List Shape) (s : Sort) (form : ModeForm) (to other : Mode) (l : Leaf) → LeafForms nodes s form to l → LeafForms nodes s form other l → to ≡ other
one_form nodes s form to other (leaf.Mode m) v w = one_first nodes s (IsOfForm nodes form) (as_it_stands m) to other v.0 w.0 v.1 w.1
one_form nodes s form to other leaf.StrongOnly v w = absurd v

module _ (nodes : List Shape) (s : Sort) (form : ModeForm) (leaves : List Leaf) (at : ℕ) (l : Leaf) where
  one_leaf : (other : Leaf) → slice_get leaves at ≡ Some l → slice_get leaves at ≡ Some other → other ≡ l
  one_leaf other there here = let same : Some other ≡ Some l = sym here ∙ there in cc

  pub no_form : slice_get leaves at ≡ Some l → ((k : Mode) → LeafForms nodes s form k l → ⊥) → (to : Mode) → FormsAt nodes s form to leaves at → ⊥
  no_form there none to w = none to (subst (LeafForms nodes s form to) (one_leaf w.leaf there w.there) w.leads)

  pub not_formed : (mode : Mode) → slice_get leaves at ≡ Some l → LeafForms nodes s form mode l → (OthersSuit nodes mode leaves at → ⊥) → (to : Mode) → FormsAt nodes s form to leaves at → ⊥
  not_formed mode there forms not to w =
      let same = one_form nodes s form to mode l (subst (LeafForms nodes s form to) (one_leaf w.leaf there w.there) w.leads) forms in
      not (subst (λ (m : Mode). OthersSuit nodes m leaves at) same w.others)

-- ---- the two sides of an identity relation

pub all_suit : (nodes : List Shape) (to : Mode) (leaves : List Leaf) → OthersSuit nodes to leaves (length leaves) → AllSuit nodes to leaves
all_suit nodes to leaves w k l there = w k l there (λ e. let within = slice_get_within leaves k l there in omega arith)

-- one leaf has one mode of a form
one_at : (nodes : List Shape) (s : Sort) (f : ModeForm) (leaves : List Leaf) (i : ℕ) (to other : Mode) → FormsAt nodes s f to leaves i → FormsAt nodes s f other leaves i → to ≡ other
one_at nodes s f leaves i to other v w = one_form nodes s f to other w.leaf (subst (LeafForms nodes s f to) (one_leaf nodes s f leaves i w.leaf v.leaf w.there v.there) v.leads) w.leads

pub not_sided : (nodes : List Shape) (soft strong : List Leaf) (i : ℕ) (mode : Mode) → FormsAt nodes by.Soft form.Name mode soft i → (OthersSuit nodes mode strong (length strong) → ⊥) → (to : Mode) → SidesAt nodes to soft strong i → ⊥
not_sided nodes soft strong i mode v not to w =
    let same = one_at nodes by.Soft form.Name soft i to mode w.0 v in
    not (λ k l there ne. subst (λ (m : Mode). LeafSuits nodes m l) same (w.1 k l there))
