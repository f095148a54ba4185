-- Paths over a list of nodes and over one that agrees with it on the first nodes.
use Rattle.std.proofs.Common.{◌≡◌, ◌<◌, ◌≤◌, ◌-◌, ◌++◌, ℕ, zero, suc, List, [], ◌∷◌, Bool, true, false, Option, Some, None, nat_eq, length, refl, inl, inr, sym, ap, ◌∙◌, subst, arith, ⊎_elim, if◌then◌else◌}
use Rattle.std.specs.Prelude.{map, slice_get}
use Rattle.std.proofs.lemmas.Option.{slice_get_within, get_or_from_slice_get}
use Rattle.std.proofs.lemmas.List.Elements.{All-get_or}
use Rattle.std.specs.List.{All, Contains}
use Rattle.std.proofs.lemmas.Bool.{cases_lt}
use Rattle.a68_modes.specs.declared.shape.Shape.{Shape}
use Rattle.a68_modes.specs.declared.shape.Shape.TheVariants.{Ref, Rows, Union, Proc, Same}
use Rattle.a68_modes.specs.Nodes.{ShapeIsWithin, HoldsNodes}
use Rattle.a68_modes.proofs.Holding.{fifteen}
use Rattle.a68_modes.specs.declared.coercion.Coercion.{Coercion}
use Rattle.a68_modes.specs.declared.coercion.Sort.{Sort}
use Rattle.a68_modes.specs.declared.coercion.Sort.TheVariants as by
use Rattle.a68_equiv.specs.declared.mode.Mode.{Mode}
use Rattle.a68_equiv.specs.Unfolding.{unfolded, behind, flex_left, constructor, passes_on, Alike, Equivalent, IsMember, IsInMode, leads_within}
use Rattle.a68_equiv.specs.Related.{Meek, as_it_stands, without_flex}
use Rattle.a68_equiv.specs.Related.Meek.{here, deref, deproc}
use Rattle.a68_equiv.specs.Ways.{AreWellFormed, Way, row, steps_of}
use Rattle.a68_equiv.specs.Ways.Way.{last_step, more_steps}
use Rattle.a68_equiv.proofs.Stepping.{row_of_map}
use Rattle.a68_equiv.specs.declared.steps.Inward.TheVariants.{WithinUnions}
use Rattle.a68_equiv.proofs.Grasp.{behind_below}
use Rattle.a68_equiv.proofs.Growing.{old_unfolded, grows, shrinks, member_in, member_out, way_below, longer, new_shape}
use Rattle.a68_coerce.specs.declared.goal.CoercionGoal.{CoercionGoal}
use Rattle.a68_coerce.specs.declared.goal.CoercionGoal.TheVariants as goal
use Rattle.a68_coerce.specs.Goals.{ReachesGoal, IsRow, IsRowOver, IsNameOver, IsVoidGoal, is_multiple, row_of, name_of_row_of, within}
use Rattle.a68_coerce.specs.Goals.IsRowOver.{row_mode, row_row}
use Rattle.a68_coerce.specs.Goals.IsNameOver.{name_mode}
use Rattle.a68_coerce.specs.declared.form.ModeForm.{ModeForm}
use Rattle.a68_coerce.specs.declared.form.ModeForm.TheVariants as form
use Rattle.a68_coerce.specs.declared.leaf.Leaf.{Leaf}
use Rattle.a68_coerce.specs.declared.leaf.Leaf.TheVariants as leaf
use Rattle.a68_coerce.specs.declared.leaf.Balanced.{Balanced}
use Rattle.a68_coerce.specs.Balanced.{LeafLeads, LeafSuits, LeafStandsAt, BalancesAt, IsBalanced, LeafForms, FormsAt, IsFormed, SidesAt, IsSided}
use Rattle.a68_coerce.specs.Below.{IsLeafBelow}
use Rattle.a68_coerce.specs.Forms.{is_row, is_structure, named_or, has_fields, is_of_form, IsOfForm}
use Rattle.a68_coerce.specs.Kept.{MembersHaveNoFlex, KeepPaths, KeepBalances, KeepForms, KeepSides, InterningKeeps, InterningKeepsMembers}
use Rattle.a68_equiv.specs.Classes.{IsNodeOf}
use Rattle.a68_coerce.specs.Paths.{MeekTo, Allows, Goes, GoesToEquivalent, IsMemberOf, UnitesTo, IsFirstNode, UnitedTo, FirmTo, IsBools, WidenedTo, NamedTo, StrongTo, Leads}
use Rattle.a68_coerce.specs.Paths.UnitesTo.{a_member, a_union}
use Rattle.a68_coerce.specs.Paths.FirmTo.{meekly, uniting}
use Rattle.a68_coerce.specs.Paths.StrongTo.{nothing, dropping, firmly, widening, rowing, naming}

-- ---- equivalence

pub alike_sym : (nodes : List Shape) (depth : ℕ) (a b : Mode) → Alike nodes depth a b → Alike nodes depth b a
alike_sym nodes zero a b h = tt
alike_sym nodes (suc depth) a b h = (
  sym h.0,
  (
    λ place p part. let q = h.1.1 place p part in (q.0, q.1, alike_sym nodes depth q.0 p q.2),
    λ place q part. let p = h.1.0 place q part in (p.0, p.1, alike_sym nodes depth q p.0 p.2),
  ),
)

pub alike_trans : (nodes : List Shape) (depth : ℕ) (a b c : Mode) → Alike nodes depth a b → Alike nodes depth b c → Alike nodes depth a c
alike_trans nodes zero a b c h g = tt
alike_trans nodes (suc depth) a b c h g = (
  h.0 ∙ g.0,
  (
    λ place p part. let q = h.1.0 place p part in let r = g.1.0 place q.0 q.1 in (r.0, r.1, alike_trans nodes depth p q.0 r.0 q.2 r.2),
    λ place r part. let q = g.1.1 place r part in let p = h.1.1 place q.0 q.1 in (p.0, p.1, alike_trans nodes depth p.0 q.0 r p.2 q.2),
  ),
)

alike_self : (nodes : List Shape) (depth : ℕ) (a : Mode) → Alike nodes depth a a
alike_self nodes zero a = tt
alike_self nodes (suc depth) a = (refl, (λ place p part. (p, part, alike_self nodes depth p), λ place p part. (p, part, alike_self nodes depth p)))

-- ---- two lists that agree

-- what holds of the first n nodes of the one list holds of them in the other
record Agree (nodes others : List Shape) (n : ℕ) : Type 0 where
  unfolds : (m : ℕ) → m < n → unfolded others m ≡ unfolded nodes m
  equivalent : (a b : Mode) → a.id < n → b.id < n → Equivalent nodes a b → Equivalent others a b
  member : (m x : ℕ) → m < n → IsMember nodes m x → IsMember others m x
  inside : (m : ℕ) → m < n → ShapeIsWithin n (unfolded nodes m)
  member_below : (m x : ℕ) → m < n → IsMember nodes m x → x < n

-- the modes of a goal are among the first n
abbrev AreThere : ℕ → CoercionGoal → Type 0
AreThere n (goal.Mode m) = m.id < n
AreThere n (goal.Row dims flex of) = of.id < n
AreThere n (goal.Name m) = m.id < n
AreThere n (goal.NameOfRow dims of) = of.id < n

row_there : (n dims : ℕ) (flex : Bool) (of : Mode) → of.id < n → AreThere n (row_of dims flex of)
row_there n dims flex of h = go (nat_eq dims 1)
  where
    go : (b : Bool) → AreThere n (if b then goal.Mode of else goal.Row (dims - 1) flex of)
    go true = h
    go false = h

name_there : (n dims : ℕ) (of : Mode) → of.id < n → AreThere n (name_of_row_of dims of)
name_there n dims of h = go (nat_eq dims 1)
  where
    go : (b : Bool) → AreThere n (if b then goal.Name of else goal.NameOfRow (dims - 1) of)
    go true = h
    go false = h

module _ (nodes others : List Shape) (n : ℕ) (ag : Agree nodes others n) where
  ref_there : (m a : ℕ) → m < n → unfolded nodes m ≡ Ref a → a < n
  ref_there m a h is = (rw is at (ag.inside m h)) 0 0 (omega arith)

  row_element : (m dims a : ℕ) (flex : Bool) → m < n → unfolded nodes m ≡ Rows dims flex a → a < n
  row_element m dims a flex h is = (rw is at (ag.inside m h)) 0 0 (omega arith)

  call_there : (m a : ℕ) → m < n → unfolded nodes m ≡ Proc [] a → a < n
  call_there m a h is = (rw is at (ag.inside m h)) 0 0 (omega arith)

  meek_there : {m k : Mode} {path : List Coercion} → m.id < n → Meek nodes m path k → k.id < n
  meek_there h here = h
  meek_there {m = m} h (deref {a = a} f w) = meek_there (ref_there m.id a h f) w
  meek_there {m = m} h (deproc {a = a} f w) = meek_there (call_there m.id a h f) w

  meek_on : {m k : Mode} {path : List Coercion} → m.id < n → Meek nodes m path k → Meek others m path k
  meek_on h here = here
  meek_on {m = m} h (deref {a = a} f w) = deref (ag.unfolds m.id h ∙ f) (meek_on (ref_there m.id a h f) w)
  meek_on {m = m} h (deproc {a = a} f w) = deproc (ag.unfolds m.id h ∙ f) (meek_on (call_there m.id a h f) w)

  row_on : (k of : Mode) (dims : ℕ) (flex : Bool) → k.id < n → of.id < n → IsRow nodes k dims flex of → IsRow others k dims flex of
  row_on k of dims flex h g r = record {
    flex_written = r.flex_written;
    element = r.element;
    shape = ag.unfolds k.id h ∙ r.shape;
    flex_is = r.flex_is;
    of_is = ag.equivalent (within k r.element) of (row_element k.id dims r.element r.flex_written h r.shape) g r.of_is;
  }

  reaches_on : (k : Mode) (g : CoercionGoal) → k.id < n → AreThere n g → ReachesGoal nodes k g → ReachesGoal others k g
  reaches_on k (goal.Mode m) h b r = ag.equivalent k m h b r
  reaches_on k (goal.Row dims flex of) h b r = row_on k of dims flex h b r
  reaches_on k (goal.Name m) h b r = (r.0, ag.unfolds k.id h ∙ r.1, ag.equivalent (as_it_stands r.0) m (ref_there k.id r.0 h r.1) b r.2)
  reaches_on k (goal.NameOfRow dims of) h b r = (r.0, ag.unfolds k.id h ∙ r.1, row_on (as_it_stands r.0) of dims false (ref_there k.id r.0 h r.1) b r.2)

  meek_to_on : (m : Mode) (g : CoercionGoal) (path : List Coercion) → m.id < n → AreThere n g → MeekTo nodes m g path → MeekTo others m g path
  meek_to_on m g path h b w = (w.0, meek_on h w.1, reaches_on w.0 g (meek_there h w.1) b w.2)

  member_on : (t k : Mode) → t.id < n → k.id < n → IsMemberOf nodes t k → IsMemberOf others t k
  member_on t k h g w = (w.0, ag.member t.id w.0 h w.1, ag.equivalent k (within t w.0) g (ag.member_below t.id w.0 h w.1) w.2)

  void_on : (g : CoercionGoal) → AreThere n g → IsVoidGoal nodes g → IsVoidGoal others g
  void_on (goal.Mode m) b v = ag.unfolds m.id b ∙ v
  void_on (goal.Row dims flex of) b v = v
  void_on (goal.Name m) b v = v
  void_on (goal.NameOfRow dims of) b v = v

  bools_on : 12 < n → (g : CoercionGoal) → AreThere n g → IsBools nodes g → IsBools others g
  bools_on h (goal.Mode m) b w = ag.equivalent m (as_it_stands 11) b (omega arith) w
  bools_on h (goal.Row dims flex of) b w = (w.0, w.1, ag.equivalent of (as_it_stands 2) b (omega arith) w.2)
  bools_on h (goal.Name m) b w = w
  bools_on h (goal.NameOfRow dims of) b w = w

  over_on : (g h : CoercionGoal) → AreThere n g → IsRowOver nodes g h → IsRowOver others g h
  over_on g h b (row_mode {n = m} {flex = f} e) = row_mode {flex = f} (ag.unfolds m.id b ∙ e)
  over_on g h b row_row = row_row

  over_there : (g h : CoercionGoal) → AreThere n g → IsRowOver nodes g h → AreThere n h
  over_there g h b (row_mode {n = m} {dims = d} {e = e} {flex = f} is) = row_there n d (flex_left m.fixed f) (within m e) (row_element m.id d e f b is)
  over_there g h b (row_row {dims = d} {flex = f} {of = o}) = row_there n d f o b

  named_on : (g h : CoercionGoal) → AreThere n g → IsNameOver nodes g h → IsNameOver others g h
  named_on g h b (name_mode {n = m} {a = a} e f) = name_mode (ag.unfolds m.id b ∙ e) (ag.unfolds a (ref_there m.id a b e) ∙ f)

  named_there : (g h : CoercionGoal) → AreThere n g → IsNameOver nodes g h → AreThere n h
  named_there g h b (name_mode {n = m} {a = a} {dims = d} {e = x} e f) = name_there n d (as_it_stands x) (row_element a d x false (ref_there m.id a b e) f)

-- ---- two lists that agree both ways

module _ (nodes others : List Shape) (n : ℕ) (to : Agree nodes others n) (back : Agree others nodes n) where
  unites_on : (t k : Mode) → t.id < n → k.id < n → UnitesTo nodes t k → UnitesTo others t k
  unites_on t k h g (a_member is w) = a_member (to.unfolds t.id h ∙ is) (member_on nodes others n to t k h g w)
  unites_on t k h g (a_union is so w) = a_union (to.unfolds t.id h ∙ is) (to.unfolds k.id g ∙ so)
      (λ x m. let old = back.member k.id x g m in member_on nodes others n to t (within k x) h (to.member_below k.id x g old) (w x old))

  first_on : (k : Mode) (id : ℕ) → k.id < n → id < n → n ≤ length others → IsFirstNode nodes k id → IsFirstNode others k id
  first_on k id g h long w = record {
    there = omega arith;
    equivalent = to.equivalent (as_it_stands id) k h g w.equivalent;
    first = λ a lt e. w.first a lt (back.equivalent (as_it_stands a) k (omega arith) g e);
  }

-- the first node of what is united is among the first n
abbrev AreNamed : List Shape → ℕ → Type 0
AreNamed nodes n = (t k : Mode) (id : ℕ) → t.id < n → k.id < n → UnitesTo nodes t k → IsFirstNode nodes k id → id < n

module _ (nodes others : List Shape) (n : ℕ) (to : Agree nodes others n) (back : Agree others nodes n) (named : AreNamed nodes n) (long : n ≤ length others) where
  united_on : (m t : Mode) (path : List Coercion) → m.id < n → t.id < n → UnitedTo nodes m t path → UnitedTo others m t path
  united_on m t path h g w =
      let k = meek_there nodes others n to h w.way in
      record {
        mode = w.mode;
        meekly = w.meekly;
        way = meek_on nodes others n to h w.way;
        unites = unites_on nodes others n to back t w.mode g k w.unites;
        first = λ q more j e v u. w.first q more j e (meek_on others nodes n back h v) (unites_on others nodes n back to t j g (meek_there others nodes n back h v) u);
        node = w.node;
        node_is = first_on nodes others n to back w.mode w.node k (named t w.mode w.node g k w.unites w.node_is) long w.node_is;
        whole = w.whole;
      }

  firm_on : (m : Mode) (g : CoercionGoal) (path : List Coercion) → m.id < n → AreThere n g → FirmTo nodes m g path → FirmTo others m g path
  firm_on m g path h b (meekly w) = meekly (meek_to_on nodes others n to m g path h b w)
  firm_on m g path h b (uniting {n = t} lacks w) = uniting (λ p v. lacks p (meek_to_on others nodes n back m (goal.Mode t) p h b v)) (united_on m t path h b w)

  widened_on : 12 < n → (m : Mode) (g : CoercionGoal) (path : List Coercion) → m.id < n → AreThere n g → WidenedTo nodes m g path → WidenedTo others m g path
  widened_on standard m g path h b w = (bools_on nodes others n to standard g b w.0, (w.1.0, firm_on m (goal.Mode (as_it_stands 4)) w.1.0 h (omega arith) w.1.1, w.1.2))

  naming_on : (m : Mode) (g : CoercionGoal) (path : List Coercion) → m.id < n → AreThere n g → NamedTo nodes m g path → NamedTo others m g path
  naming_on m g path h b w = (w.0, named_on nodes others n to g w.0 b w.1, (w.2.0, meek_to_on nodes others n to m w.0 w.2.0 h (named_there nodes others n to g w.0 b w.1) w.2.1, w.2.2))

module _ (nodes others : List Shape) (n : ℕ) (to : Agree nodes others n) (back : Agree others nodes n) (named : AreNamed nodes n) (named_back : AreNamed others n) (long : n ≤ length others) (long_back : n ≤ length nodes) (standard : 12 < n) where
  strong_on : (m : Mode) (g : CoercionGoal) (path : List Coercion) → m.id < n → AreThere n g → StrongTo nodes m g path → StrongTo others m g path
  strong_on m g path h b (nothing v x) = nothing (void_on nodes others n to g b v) (to.unfolds m.id h ∙ x)
  strong_on m g path h b (dropping v x) = dropping (void_on nodes others n to g b v) (λ y. x (back.unfolds m.id h ∙ y))
  strong_on m g path h b (firmly x v) = firmly (λ y. x (void_on others nodes n back g b y)) (firm_on nodes others n to back named long m g path h b v)
  strong_on m g path h b (widening x v) = widening (λ p w. x p (firm_on others nodes n back to named_back long_back m g p h b w)) (widened_on nodes others n to back named long standard m g path h b v)
  strong_on m g path h b (rowing {h = i} {q = q} x y f v e) =
      rowing {h = i} {q = q} (λ p w. x p (firm_on others nodes n back to named_back long_back m g p h b w)) (λ p w. y p (widened_on others nodes n back to named_back long_back standard m g p h b w))
      (over_on nodes others n to g i b f) (strong_on m i q h (over_there nodes others n to g i b f) v) e
  strong_on m g path h b (naming x v) = naming (λ p w. x p (firm_on others nodes n back to named_back long_back m g p h b w)) (naming_on nodes others n to back named long m g path h b v)

  goes_on : (s : Sort) (m t : Mode) (path : List Coercion) → m.id < n → t.id < n → ((k : Mode) → k.id < n → Allows nodes s path k → Allows others s path k) → GoesToEquivalent nodes s m t path → GoesToEquivalent others s m t path
  goes_on s m t path h g allows w =
      let k = meek_there nodes others n to h w.1.0 in
      (w.0, (meek_on nodes others n to h w.1.0, allows w.0 k w.1.1), to.equivalent w.0 t k g w.2)

  leads_on : (s : Sort) (m t : Mode) (path : List Coercion) → m.id < n → t.id < n → Leads nodes s m t path → Leads others s m t path
  leads_on by.Soft m t path h g w = goes_on by.Soft m t path h g (λ k lt a. a) w
  leads_on by.Weak m t path h g w = goes_on by.Weak m t path h g (λ k lt a. λ e. ap is_multiple (to.unfolds k.id lt) ∙ a e) w
  leads_on by.Meek m t path h g w = goes_on by.Meek m t path h g (λ k lt a. a) w
  leads_on by.Firm m t path h g w = firm_on nodes others n to back named long m (goal.Mode t) path h g w
  leads_on by.Strong m t path h g w = strong_on m (goal.Mode t) path h g w

-- ---- balancing

leaf_there : (n : ℕ) (leaves : List Leaf) (k : ℕ) (l : Leaf) → All (IsLeafBelow n) leaves → slice_get leaves k ≡ Some l → IsLeafBelow n l
leaf_there n leaves k l all e = subst (IsLeafBelow n) (get_or_from_slice_get leaves k l l e) (All-get_or (IsLeafBelow n) leaves k l (slice_get_within leaves k l e) all)

module _ (nodes others : List Shape) (n : ℕ) (to : Agree nodes others n) (back : Agree others nodes n) (named : AreNamed nodes n) (named_back : AreNamed others n) (long : n ≤ length others) (long_back : n ≤ length nodes) (standard : 12 < n) where
  leaf_leads_on : (s : Sort) (t : Mode) (l : Leaf) → t.id < n → IsLeafBelow n l → LeafLeads nodes s t l → LeafLeads others s t l
  leaf_leads_on s t (leaf.Mode m) g b w = (w.0, leads_on nodes others n to back named named_back long long_back standard s (as_it_stands m) t w.0 b g w.1)
  leaf_leads_on s t leaf.StrongOnly g b w = w

  leaf_suits_on : (t : Mode) (l : Leaf) → t.id < n → IsLeafBelow n l → LeafSuits nodes t l → LeafSuits others t l
  leaf_suits_on t (leaf.Mode m) g b w = leaf_leads_on by.Strong t (leaf.Mode m) g b w
  leaf_suits_on t leaf.StrongOnly g b w = w

  stands_on : (t : Mode) (leaves : List Leaf) (i : ℕ) (Leads Others : Leaf → Type 0) → t.id < n → All (IsLeafBelow n) leaves → ((l : Leaf) → IsLeafBelow n l → Leads l → Others l) → LeafStandsAt nodes Leads t leaves i → LeafStandsAt others Others t leaves i
  stands_on t leaves i Leads Others g all on w = record {
    leaf = w.leaf;
    there = w.there;
    leads = on w.leaf (leaf_there n leaves i w.leaf all w.there) w.leads;
    others = λ k other e ne. leaf_suits_on t other g (leaf_there n leaves k other all e) (w.others k other e ne);
  }

  balances_on : (s : Sort) (t : Mode) (leaves : List Leaf) (i : ℕ) → t.id < n → All (IsLeafBelow n) leaves → BalancesAt nodes s t leaves i → BalancesAt others s t leaves i
  balances_on s t leaves i g all w = stands_on t leaves i (LeafLeads nodes s t) (LeafLeads others s t) g all (λ l b v. leaf_leads_on s t l g b v) w

  -- forms
  shape_inside : (a : Shape) → ShapeIsWithin n a → ShapeIsWithin n (named_or nodes a)
  shape_inside (Ref x) w = to.inside x (w 0 0 (omega arith))
  shape_inside _ w = w

  same_named : (a : Shape) → ShapeIsWithin n a → named_or others a ≡ named_or nodes a
  same_named (Ref x) w = to.unfolds x (w 0 0 (omega arith))
  same_named _ w = refl

  same_fields : (a : Shape) → ShapeIsWithin n a → has_fields others a ≡ has_fields nodes a
  same_fields (Rows dims flex x) w = ap is_structure (to.unfolds x (w 0 0 (omega arith)))
  same_fields _ w = refl

  same_form : (f : ModeForm) (a : Shape) → ShapeIsWithin n a → is_of_form others f a ≡ is_of_form nodes f a
  same_form form.Name a w = refl
  same_form form.Row a w = ap is_row (same_named a w)
  same_form form.Structure a w = ap (has_fields others) (same_named a w) ∙ same_fields (named_or nodes a) (shape_inside a w)
  same_form form.Routine a w = refl
  same_form form.Union a w = refl

  form_on : (f : ModeForm) (k : Mode) → k.id < n → IsOfForm nodes f k → IsOfForm others f k
  form_on f k h is = ap (is_of_form others f) (to.unfolds k.id h) ∙ same_form f (unfolded nodes k.id) (to.inside k.id h) ∙ is

  allows_on : (s : Sort) (path : List Coercion) (k : Mode) → k.id < n → Allows nodes s path k → Allows others s path k
  allows_on by.Soft path k h a = a
  allows_on by.Weak path k h a = λ e. ap is_multiple (to.unfolds k.id h) ∙ a e
  allows_on by.Meek path k h a = a
  allows_on by.Firm path k h a = a
  allows_on by.Strong path k h a = a

  way_on : (s : Sort) (m k : Mode) (path : List Coercion) → m.id < n → Goes nodes s m path k → Goes others s m path k
  way_on s m k path h w = (meek_on nodes others n to h w.0, allows_on s path k (meek_there nodes others n to h w.0) w.1)

module _ (nodes others : List Shape) (n : ℕ) (to : Agree nodes others n) (back : Agree others nodes n) (named : AreNamed nodes n) (named_back : AreNamed others n) (long : n ≤ length others) (long_back : n ≤ length nodes) (standard : 12 < n) where
  leaf_forms_on : (s : Sort) (f : ModeForm) (t : Mode) (l : Leaf) → IsLeafBelow n l → LeafForms nodes s f t l → LeafForms others s f t l
  leaf_forms_on s f t (leaf.Mode m) b w = (
    w.0,
    record {
      goes = way_on nodes others n to back named named_back long long_back standard s (as_it_stands m) t w.0 b w.1.goes;
      holds = form_on nodes others n to back named named_back long long_back standard f t (meek_there nodes others n to b w.1.goes.0) w.1.holds;
      first = λ q more j e v i. w.1.first q more j e (way_on others nodes n back to named_back named long_back long standard s (as_it_stands m) j q b v)
          (form_on others nodes n back to named_back named long_back long standard f j (meek_there others nodes n back b v.0) i);
    },
  )
  leaf_forms_on s f t leaf.StrongOnly b w = w

  form_there : (s : Sort) (f : ModeForm) (t : Mode) (l : Leaf) → IsLeafBelow n l → LeafForms nodes s f t l → t.id < n
  form_there s f t (leaf.Mode m) b w = meek_there nodes others n to b w.1.goes.0
  form_there s f t leaf.StrongOnly b w = absurd w

  forms_on : (s : Sort) (f : ModeForm) (t : Mode) (leaves : List Leaf) (i : ℕ) → All (IsLeafBelow n) leaves → FormsAt nodes s f t leaves i → FormsAt others s f t leaves i
  forms_on s f t leaves i all w =
      let g = form_there s f t w.leaf (leaf_there n leaves i w.leaf all w.there) w.leads in
      stands_on nodes others n to back named named_back long long_back standard t leaves i (LeafForms nodes s f t) (LeafForms others s f t) g all (λ l b v. leaf_forms_on s f t l b v) w

module _ (nodes others : List Shape) (n : ℕ) (to : Agree nodes others n) (back : Agree others nodes n) (named : AreNamed nodes n) (named_back : AreNamed others n) (long : n ≤ length others) (long_back : n ≤ length nodes) (standard : 12 < n) where
  is_balanced_on : (s : Sort) (t : Mode) (leaves : List Leaf) (found : Option ℕ) → t.id < n → All (IsLeafBelow n) leaves → IsBalanced nodes s t leaves found → IsBalanced others s t leaves found
  is_balanced_on s t leaves (Some i) g all w = (
    balances_on nodes others n to back named named_back long long_back standard s t leaves i g all w.0,
    λ k lt v. w.1 k lt (balances_on others nodes n back to named_back named long_back long standard s t leaves k g all v),
  )
  is_balanced_on s t leaves None g all w = λ k v. w k (balances_on others nodes n back to named_back named long_back long standard s t leaves k g all v)

  is_formed_on : (s : Sort) (f : ModeForm) (leaves : List Leaf) (found : Option Balanced) → All (IsLeafBelow n) leaves → IsFormed nodes s f leaves found → IsFormed others s f leaves found
  is_formed_on s f leaves (Some b) all w = (
    forms_on nodes others n to back named named_back long long_back standard s f b.mode leaves b.leaf all w.0,
    λ k t lt v. w.1 k t lt (forms_on others nodes n back to named_back named long_back long standard s f t leaves k all v),
  )
  is_formed_on s f leaves None all w = λ k t v. w k t (forms_on others nodes n back to named_back named long_back long standard s f t leaves k all v)

  -- sides
  sides_on : (t : Mode) (soft strong : List Leaf) (i : ℕ) → All (IsLeafBelow n) soft → All (IsLeafBelow n) strong → SidesAt nodes t soft strong i → SidesAt others t soft strong i
  sides_on t soft strong i all every w =
      let g = form_there nodes others n to back named named_back long long_back standard by.Soft form.Name t w.0.leaf (leaf_there n soft i w.0.leaf all w.0.there) w.0.leads in (
        forms_on nodes others n to back named named_back long long_back standard by.Soft form.Name t soft i all w.0,
        λ k l there. leaf_suits_on nodes others n to back named named_back long long_back standard t l g (leaf_there n strong k l every there) (w.1 k l there),
      )

module _ (nodes others : List Shape) (n : ℕ) (to : Agree nodes others n) (back : Agree others nodes n) (named : AreNamed nodes n) (named_back : AreNamed others n) (long : n ≤ length others) (long_back : n ≤ length nodes) (standard : 12 < n) where
  is_sided_on : (soft strong : List Leaf) (found : Option Balanced) → All (IsLeafBelow n) soft → All (IsLeafBelow n) strong → IsSided nodes soft strong found → IsSided others soft strong found
  is_sided_on soft strong (Some b) all every w = (
    sides_on nodes others n to back named named_back long long_back standard b.mode soft strong b.leaf all every w.0,
    λ k t lt v. w.1 k t lt (sides_on others nodes n back to named_back named long_back long standard t soft strong k all every v),
  )
  is_sided_on soft strong None all every w = λ k t v. w k t (sides_on others nodes n back to named_back named long_back long standard t soft strong k all every v)

-- ---- one node more

module _ (nodes : List Shape) (s : Shape) (holds : HoldsNodes nodes) (formed : AreWellFormed nodes) (within_them : ShapeIsWithin (length nodes) s) (free : MembersHaveNoFlex nodes) where
  below : (m x : ℕ) → m < length nodes → IsMember nodes m x → x < length nodes
  below m x h is = way_below nodes holds WithinUnions m x h is.way

  forth : Agree nodes (nodes ++ s ∷ []) (length nodes)
  forth = record {
    unfolds = λ m h. old_unfolded nodes s holds formed within_them m h;
    equivalent = λ a b h g e. λ depth. grows nodes s holds formed within_them depth a b h g (e depth);
    member = λ m x h is. member_in nodes s holds formed within_them m x h is;
    inside = λ m h. holds.within (behind nodes (length nodes) m) (behind_below nodes holds (length nodes) m h);
    member_below = below;
  }

  back : Agree (nodes ++ s ∷ []) nodes (length nodes)
  back = record {
    unfolds = λ m h. sym (old_unfolded nodes s holds formed within_them m h);
    equivalent = λ a b h g e. λ depth. shrinks nodes s holds formed within_them depth a b h g (e depth);
    member = λ m x h is. member_out nodes s holds formed within_them m x h is;
    inside = λ m h. subst (ShapeIsWithin (length nodes)) (sym (old_unfolded nodes s holds formed within_them m h)) (holds.within (behind nodes (length nodes) m) (behind_below nodes holds (length nodes) m h));
    member_below = λ m x h is. below m x h (member_out nodes s holds formed within_them m x h is);
  }

  -- a member of a union has a node without regard to FLEX
  member_node : (k : Mode) (m x : ℕ) (fixed : Bool) → m < length nodes → IsMember nodes m x → Equivalent nodes k (record { id = x; fixed = fixed }) → Equivalent nodes (as_it_stands x) k
  member_node k m x false h is e = λ depth. alike_sym nodes depth k (as_it_stands x) (e depth)
  member_node k m x true h is e = λ depth. alike_sym nodes depth k (as_it_stands x) (alike_trans nodes depth k (without_flex x) (as_it_stands x) (e depth) (free m x h is depth))

  -- a union is equivalent with and without its FLEX
  union_node : (k : Mode) (id : ℕ) (some : List ℕ) (fixed : Bool) → id < length nodes → unfolded nodes id ≡ Union some → k ≡ record { id = id; fixed = fixed } → Equivalent nodes (as_it_stands id) k
  union_node k id some false h so e = subst (λ (m : Mode). Equivalent nodes (as_it_stands id) m) (sym e) (λ depth. alike_self nodes depth (as_it_stands id))
  union_node k id some true h so e = subst (λ (m : Mode). Equivalent nodes (as_it_stands id) m) (sym e) each
    where
      each : (depth : ℕ) → Alike nodes depth (as_it_stands id) (without_flex id)
      each zero = tt
      each (suc depth) = (
        ap (constructor false) so ∙ sym (ap (constructor true) so),
        (
          λ place p part. (without_flex p.id, record { at = part.at; flex = sym (ap (passes_on true) so) }, stands depth p (member_of place p.id part.at) (part.flex ∙ ap (passes_on false) so)),
          λ place q part. (as_it_stands q.id, record { at = part.at; flex = sym (ap (passes_on false) so) }, fixed_one depth q (member_of place q.id part.at) (part.flex ∙ ap (passes_on true) so)),
        ),
      )
        where
          member_of : (place x : ℕ) → IsInMode nodes id (unfolded nodes id) place x → IsMember nodes id x
          member_of place x at = (subst (λ (t : Shape). IsInMode nodes id t place x) so at).1

          same : (depth x : ℕ) → IsMember nodes id x → Alike nodes depth (as_it_stands x) (without_flex x)
          same depth x is = alike_sym nodes depth (without_flex x) (as_it_stands x) (free id x h is depth)

          stands : (depth : ℕ) (p : Mode) → IsMember nodes id p.id → p.fixed ≡ false → Alike nodes depth p (without_flex p.id)
          stands depth p is f = subst (λ (b : Bool). Alike nodes depth (record { id = p.id; fixed = b }) (without_flex p.id)) (sym f) (same depth p.id is)

          fixed_one : (depth : ℕ) (q : Mode) → IsMember nodes id q.id → q.fixed ≡ true → Alike nodes depth (as_it_stands q.id) q
          fixed_one depth q is f = subst (λ (b : Bool). Alike nodes depth (as_it_stands q.id) (record { id = q.id; fixed = b })) (sym f) (same depth q.id is)

  named : AreNamed nodes (length nodes)
  named t k id h g u w = w.there

  -- what is united has an old node
  old_node : (t k : Mode) → t.id < length nodes → k.id < length nodes → UnitesTo nodes t k → (x : ℕ) × (x < length nodes) × Equivalent nodes (as_it_stands x) k
  old_node t k h g (a_member is w) = (w.0, below t.id w.0 h w.1, member_node k t.id w.0 t.fixed h w.1 w.2)
  old_node t k h g (a_union {some = some} is so w) = (k.id, g, union_node k k.id some k.fixed g so refl)

  named_back : AreNamed (nodes ++ s ∷ []) (length nodes)
  named_back t k id h g u w =
      let x = old_node t k h g (unites_on (nodes ++ s ∷ []) nodes (length nodes) back forth t k h g u) in
      let lt = x.1 in
      ⊎_elim (λ less. less) (λ more. absurd (w.first x.0 (omega arith) (forth.equivalent (as_it_stands x.0) k x.1 g x.2))) (cases_lt id (length nodes))

  keeps_paths : KeepPaths nodes (nodes ++ s ∷ [])
  keeps_paths sort from to path h g =
      let more = longer nodes s holds formed within_them in
      let some = fifteen nodes holds in (
        leads_on nodes (nodes ++ s ∷ []) (length nodes) forth back named named_back (omega arith) (omega arith) (omega arith) sort from to path h g,
        leads_on (nodes ++ s ∷ []) nodes (length nodes) back forth named_back named (omega arith) (omega arith) (omega arith) sort from to path h g,
      )

  keeps_balances : KeepBalances nodes (nodes ++ s ∷ [])
  keeps_balances sort to leaves found g all =
      let more = longer nodes s holds formed within_them in
      let some = fifteen nodes holds in (
        is_balanced_on nodes (nodes ++ s ∷ []) (length nodes) forth back named named_back (omega arith) (omega arith) (omega arith) sort to leaves found g all,
        is_balanced_on (nodes ++ s ∷ []) nodes (length nodes) back forth named_back named (omega arith) (omega arith) (omega arith) sort to leaves found g all,
      )

  keeps_forms : KeepForms nodes (nodes ++ s ∷ [])
  keeps_forms sort form leaves found all =
      let more = longer nodes s holds formed within_them in
      let some = fifteen nodes holds in (
        is_formed_on nodes (nodes ++ s ∷ []) (length nodes) forth back named named_back (omega arith) (omega arith) (omega arith) sort form leaves found all,
        is_formed_on (nodes ++ s ∷ []) nodes (length nodes) back forth named_back named (omega arith) (omega arith) (omega arith) sort form leaves found all,
      )

  keeps_sides : KeepSides nodes (nodes ++ s ∷ [])
  keeps_sides soft strong found all every =
      let more = longer nodes s holds formed within_them in
      let some = fifteen nodes holds in (
        is_sided_on nodes (nodes ++ s ∷ []) (length nodes) forth back named named_back (omega arith) (omega arith) (omega arith) soft strong found all every,
        is_sided_on (nodes ++ s ∷ []) nodes (length nodes) back forth named_back named (omega arith) (omega arith) (omega arith) soft strong found all every,
      )

  -- no step leads from the new node to a member
  no_step : leads_within s ≡ false → (c : ℕ) → Contains (row (map (steps_of WithinUnions) (nodes ++ s ∷ [])) (length nodes)) c → ⊥
  no_step plain c i =
      let more = longer nodes s holds formed within_them in
      let is : row (map (steps_of WithinUnions) (nodes ++ s ∷ [])) (length nodes) ≡ [] =
      row_of_map (steps_of WithinUnions) (nodes ++ s ∷ []) (length nodes) (omega arith) ∙ ap (steps_of WithinUnions) (new_shape nodes s holds formed within_them) ∙ none s plain in
      let at = (subst (λ (xs : List ℕ). Contains xs c) is i).1 in omega arith
    where
      none : (t : Shape) → leads_within t ≡ false → steps_of WithinUnions t ≡ []
      none (Union ms) e = absurd (cc)
      none (Same t) e = absurd (cc)
      none _ e = refl

  no_way : leads_within s ≡ false → (x : ℕ) → Way (map (steps_of WithinUnions) (nodes ++ s ∷ [])) (length nodes) x → ⊥
  no_way plain x (last_step i) = no_step plain x i
  no_way plain x (more_steps {b = c} i w) = no_step plain c i

  one_more_members : leads_within s ≡ false → MembersHaveNoFlex (nodes ++ s ∷ [])
  one_more_members plain m x h is = ⊎_elim old (λ le. absurd (no_way plain x (subst (λ (i : ℕ). Way (map (steps_of WithinUnions) (nodes ++ s ∷ [])) i x) (last le) is.way))) (cases_lt m (length nodes))
    where
      old : m < length nodes → Equivalent (nodes ++ s ∷ []) (without_flex x) (as_it_stands x)
      old lt =
          let was = member_out nodes s holds formed within_them m x lt is in
          let there = below m x lt was in
          forth.equivalent (without_flex x) (as_it_stands x) there there (free m x lt was)

      last : length nodes ≤ m → m ≡ length nodes
      last le = let more = longer nodes s holds formed within_them in omega arith

-- ---- interning

-- what holds of the same list and of one node more holds of what interning makes
after_interning : (Kept : List Shape → Type 0) (nodes after : List Shape) (s : Shape) (id : ℕ) → Kept nodes → Kept (nodes ++ s ∷ []) → IsNodeOf nodes after s id → Kept after
after_interning Kept nodes after s id same more (inl old) = subst Kept (sym old.unchanged) same
after_interning Kept nodes after s id same more (inr new) = subst Kept (sym new.added) more

pub interning_paths : InterningKeeps KeepPaths
interning_paths nodes after s id holds formed within free w = after_interning (KeepPaths nodes) nodes after s id (λ sort from to path h g. (λ v. v, λ v. v)) (keeps_paths nodes s holds formed within free) w

pub interning_balances : InterningKeeps KeepBalances
interning_balances nodes after s id holds formed within free w = after_interning (KeepBalances nodes) nodes after s id (λ sort to leaves found g all. (λ v. v, λ v. v)) (keeps_balances nodes s holds formed within free) w

pub interning_forms : InterningKeeps KeepForms
interning_forms nodes after s id holds formed within free w = after_interning (KeepForms nodes) nodes after s id (λ sort form leaves found all. (λ v. v, λ v. v)) (keeps_forms nodes s holds formed within free) w

pub interning_sides : InterningKeeps KeepSides
interning_sides nodes after s id holds formed within free w = after_interning (KeepSides nodes) nodes after s id (λ soft strong found all every. (λ v. v, λ v. v)) (keeps_sides nodes s holds formed within free) w

pub interning_members : InterningKeepsMembers
interning_members nodes after s id holds formed within free w plain = after_interning MembersHaveNoFlex nodes after s id free (one_more_members nodes s holds formed within free plain) w
