-- The rules joined in their order.
use Rattle.std.proofs.Common.{◌≡◌, ◌∙◌, ◌<◌, ◌-◌, ◌⊎◌, ⊎_elim, ℕ, zero, suc, List, Bool, true, false, nat_eq, arith, Option, Some, None, Result, Ok, Err, length, refl, sym, ap, subst}
use Rattle.std.specs.Prelude.{IfOk, if◌then◌else◌}
use Rattle.std.proofs.lemmas.List.{get_or-take}
use Rattle.a68_modes.specs.declared.shape.Shape.{Shape}
use Rattle.a68_modes.specs.declared.shape.Shape.TheVariants.{Bits, Ref, Rows, Same, Blank}
use Rattle.a68_modes.specs.declared.coercion.Coercion.{Coercion}
use Rattle.a68_equiv.specs.declared.mode.Mode.{Mode}
use Rattle.a68_equiv.specs.Unfolding.{unfolded, flex_left}
use Rattle.a68_equiv.specs.Related.{as_it_stands}
use Rattle.a68_coerce.specs.Below.{IsGoalBelow}
use Rattle.a68_coerce.specs.declared.goal.CoercionGoal.{CoercionGoal}
use Rattle.a68_coerce.specs.declared.goal.CoercionGoal.TheVariants as goal
use Rattle.a68_coerce.specs.Goals.{IsRowOver, IsNameOver, IsVoidGoal, within, row_of, name_of_row_of}
use Rattle.a68_coerce.specs.Goals.IsRowOver.{row_mode, row_row}
use Rattle.a68_coerce.specs.Goals.IsNameOver.{name_mode}
use Rattle.a68_coerce.specs.Paths.{No, GoesToEquivalent, Leads, MeekTo, UnitedTo, FirmTo, WidenedTo, NamedTo, StrongTo, UnitesTo}
use Rattle.a68_coerce.specs.Paths.UnitesTo.{a_member, a_union}
use Rattle.a68_coerce.specs.Routes.{FindsRoute, FindsRowed, FindsUnrowed}
use Rattle.a68_coerce.specs.declared.route.Route.{Route}
use Rattle.a68_coerce.specs.declared.route.RowRoute.{RowRoute}
use Rattle.a68_modes.specs.declared.coercion.Sort.{Sort}
use Rattle.a68_modes.specs.declared.coercion.Sort.TheVariants as by
use Rattle.a68_equiv.proofs.Grasp.{stays}
use Rattle.a68_modes.specs.Nodes.{shape_at, HoldsNodes}
use Rattle.a68_coerce.specs.Paths.FirmTo.{meekly, uniting}
use Rattle.a68_coerce.specs.Paths.StrongTo.{nothing, dropping, firmly, widening, rowing, naming}

pub ok_map : {X E : Type 0} (r : Result X E) (P Q : X → Type 0) → ((x : X) → P x → Q x) → IfOk r P → IfOk r Q
ok_map (Ok x) P Q f h = f x h
ok_map (Err e) P Q f h = h

pub only_meek : (nodes : List Shape) (m : Mode) (g : CoercionGoal) → No (MeekTo nodes m g) → ((n : Mode) → g ≡ goal.Mode n → ⊥) → No (FirmTo nodes m g)
only_meek nodes m g lacks not p (meekly w) = lacks p w
only_meek nodes m g lacks not p (uniting {n = n} h w) = not n refl

pub else_united : (nodes : List Shape) (m n : Mode) (o : Option Route) → No (MeekTo nodes m (goal.Mode n)) → FindsRoute nodes m (UnitedTo nodes m n) o → FindsRoute nodes m (FirmTo nodes m (goal.Mode n)) o
else_united nodes m n (Some path) lacks w = uniting lacks w
else_united nodes m n None lacks w = λ p. neither p
  where
    neither : (p : List Coercion) → FirmTo nodes m (goal.Mode n) p → ⊥
    neither p (meekly v) = lacks p v
    neither p (uniting h v) = w p v

-- a goal is a row of one goal, and the name of a row of one
pub one_over : (nodes : List Shape) (g h k : CoercionGoal) → IsRowOver nodes g h → IsRowOver nodes g k → h ≡ k
one_over nodes g h k (row_mode e) (row_mode f) = let same = sym e ∙ f in cc
one_over nodes g h k row_row row_row = refl

pub one_name : (nodes : List Shape) (g h k : CoercionGoal) → IsNameOver nodes g h → IsNameOver nodes g k → h ≡ k
one_name nodes g h k (name_mode {a = a} {dims = x} {e = y} e f) (name_mode {a = b} {dims = v} {e = w} d c) =
    let same : Ref a ≡ Ref b = sym e ∙ d in
    let id : a ≡ b = cc in
    let rows : Rows x false y ≡ Rows v false w = sym f ∙ ap (unfolded nodes) id ∙ c in
    cc

-- no goal is both a row and a name
pub apart : (nodes : List Shape) (g h k : CoercionGoal) → IsRowOver nodes g h → IsNameOver nodes g k → ⊥
apart nodes g h k (row_mode e) (name_mode d c) = let same = sym e ∙ d in cc
apart nodes g h k row_row w = elim w [ ]

pub no_named : (nodes : List Shape) (m : Mode) (g : CoercionGoal) → (IsVoidGoal nodes g → ⊥) → No (FirmTo nodes m g) → No (WidenedTo nodes m g) → ((h : CoercionGoal) → IsRowOver nodes g h → ⊥) → No (NamedTo nodes m g) → No (StrongTo nodes m g)
no_named nodes m g nv a b e w p (nothing v x) = nv v
no_named nodes m g nv a b e w p (dropping v x) = nv v
no_named nodes m g nv a b e w p (firmly x v) = a p v
no_named nodes m g nv a b e w p (widening x v) = b p v
no_named nodes m g nv a b e w p (rowing {h = h} x y f v q) = e h f
no_named nodes m g nv a b e w p (naming x v) = w p v

-- BITS is widened, and nothing is united to it
pub bits : (nodes : List Shape) → HoldsNodes nodes → unfolded nodes 4 ≡ Bits
bits nodes holds =
    let is : shape_at nodes 4 ≡ Bits = sym (get_or-take 15 nodes 4 Blank (omega arith)) ∙ ap (λ (xs : List Shape). shape_at xs 4) holds.standard in
    ap (shape_at nodes) (stays nodes (length nodes) 4 (λ t e. let no : Bits ≡ Same t = sym is ∙ e in cc)) ∙ is

not_bits : (nodes : List Shape) (k : Mode) → unfolded nodes 4 ≡ Bits → UnitesTo nodes (as_it_stands 4) k → ⊥
not_bits nodes k is (a_member u w) = let no = sym is ∙ u in cc
not_bits nodes k is (a_union u so w) = let no = sym is ∙ u in cc

pub no_bits : (nodes : List Shape) (m : Mode) → HoldsNodes nodes → No (MeekTo nodes m (goal.Mode (as_it_stands 4))) → (p : List Coercion) → FirmTo nodes m (goal.Mode (as_it_stands 4)) p → ⊥
no_bits nodes m holds lacks p (meekly w) = lacks p w
no_bits nodes m holds lacks p (uniting h v) = not_bits nodes v.mode (bits nodes holds) v.unites

pub no_row : (nodes : List Shape) (m : Mode) (g h : CoercionGoal) → (IsVoidGoal nodes g → ⊥) → No (FirmTo nodes m g) → No (WidenedTo nodes m g) → IsRowOver nodes g h → No (StrongTo nodes m h) → No (StrongTo nodes m g)
no_row nodes m g h nv a b e w p (nothing v x) = nv v
no_row nodes m g h nv a b e w p (dropping v x) = nv v
no_row nodes m g h nv a b e w p (firmly x v) = a p v
no_row nodes m g h nv a b e w p (widening x v) = b p v
no_row nodes m g h nv a b e w p (rowing {h = k} {q = q} x y f v u) = w q (subst (λ (t : CoercionGoal). StrongTo nodes m t q) (one_over nodes g k h f e) v)
no_row nodes m g h nv a b e w p (naming x v) = apart nodes g h v.0 e v.1

pub no_name : (nodes : List Shape) (m : Mode) (g h : CoercionGoal) → IsNameOver nodes g h → No (MeekTo nodes m h) → No (NamedTo nodes m g)
no_name nodes m g h e a p w = a w.2.0 (subst (λ (t : CoercionGoal). MeekTo nodes m t w.2.0) (one_name nodes g w.0 h w.1 e) w.2.1)

pub over_mode : (nodes : List Shape) (g : CoercionGoal) (n : Mode) (dims e : ℕ) (flex : Bool) → g ≡ goal.Mode n → unfolded nodes n.id ≡ Rows dims flex e → IsRowOver nodes g (row_of dims (flex_left n.fixed flex) (within n e))
over_mode nodes g n dims e flex f is = subst (λ (x : CoercionGoal). IsRowOver nodes x (row_of dims (flex_left n.fixed flex) (within n e))) (sym f) (row_mode {flex = flex} is)

pub over_row : (nodes : List Shape) (g : CoercionGoal) (dims : ℕ) (flex : Bool) (of : Mode) → g ≡ goal.Row dims flex of → IsRowOver nodes g (row_of dims flex of)
over_row nodes g dims flex of f = subst (λ (x : CoercionGoal). IsRowOver nodes x (row_of dims flex of)) (sym f) row_row

no_mode_over : (nodes : List Shape) (n : Mode) → ((dims : ℕ) (flex : Bool) (e : ℕ) → unfolded nodes n.id ≡ Rows dims flex e → ⊥) → (h : CoercionGoal) → IsRowOver nodes (goal.Mode n) h → ⊥
no_mode_over nodes n not h (row_mode {dims = d} {e = e} {flex = f} is) = not d f e is

pub none_over : (nodes : List Shape) (g : CoercionGoal) (n : Mode) → g ≡ goal.Mode n → ((dims : ℕ) (flex : Bool) (e : ℕ) → unfolded nodes n.id ≡ Rows dims flex e → ⊥) → (h : CoercionGoal) → IsRowOver nodes g h → ⊥
none_over nodes g n f not h w = no_mode_over nodes n not h (rw f at w)

pub name_of_mode : (nodes : List Shape) (g : CoercionGoal) (n : Mode) (a dims e : ℕ) → g ≡ goal.Mode n → unfolded nodes n.id ≡ Ref a → unfolded nodes a ≡ Rows dims false e → IsNameOver nodes g (name_of_row_of dims (as_it_stands e))
name_of_mode nodes g n a dims e f is row = subst (λ (x : CoercionGoal). IsNameOver nodes x (name_of_row_of dims (as_it_stands e))) (sym f) (name_mode is row)

no_name_over : (nodes : List Shape) (n : Mode) → ((a dims e : ℕ) → unfolded nodes n.id ≡ Ref a → unfolded nodes a ≡ Rows dims false e → ⊥) → (h : CoercionGoal) → IsNameOver nodes (goal.Mode n) h → ⊥
no_name_over nodes n not h (name_mode {a = a} {dims = d} {e = e} is row) = not a d e is row

pub none_named : (nodes : List Shape) (g : CoercionGoal) (n : Mode) → g ≡ goal.Mode n → ((a dims e : ℕ) → unfolded nodes n.id ≡ Ref a → unfolded nodes a ≡ Rows dims false e → ⊥) → (h : CoercionGoal) → IsNameOver nodes g h → ⊥
none_named nodes g n f not h w = no_name_over nodes n not h (rw f at w)

-- the goal that a row is of stands among the nodes
pub row_goal_below : (n dims : ℕ) (flex : Bool) (of : Mode) → of.id < n → 0 < dims → IsGoalBelow n (row_of dims flex of)
row_goal_below n dims flex of h pos = go (nat_eq dims 1) refl
  where
    more : (d : ℕ) → 0 < d → nat_eq d 1 ≡ false → 0 < d - 1
    more zero p f = absurd (omega arith)
    more (suc zero) p f = absurd (cc)
    more (suc (suc d)) p f = omega arith

    go : (b : Bool) → nat_eq dims 1 ≡ b → IsGoalBelow n (if b then goal.Mode of else goal.Row (dims - 1) flex of)
    go true e = h
    go false e = (h, more dims pos e)

pub named_goal_below : (n dims : ℕ) (of : Mode) → of.id < n → 0 < dims → IsGoalBelow n (name_of_row_of dims of)
named_goal_below n dims of h pos = go (nat_eq dims 1) refl
  where
    more : (d : ℕ) → 0 < d → nat_eq d 1 ≡ false → 0 < d - 1
    more zero p f = absurd (omega arith)
    more (suc zero) p f = absurd (cc)
    more (suc (suc d)) p f = omega arith

    go : (b : Bool) → nat_eq dims 1 ≡ b → IsGoalBelow n (if b then goal.Name of else goal.NameOfRow (dims - 1) of)
    go true e = h
    go false e = (h, more dims pos e)

pub same_name : {a b : ℕ} → Ref a ≡ Ref b → a ≡ b
same_name e = cc

pub neither_over : (nodes : List Shape) (g : CoercionGoal) → ((n : Mode) → g ≡ goal.Mode n → ⊥) → ((dims : ℕ) (flex : Bool) (of : Mode) → g ≡ goal.Row dims flex of → ⊥) → (h : CoercionGoal) → IsRowOver nodes g h → ⊥
neither_over nodes g a b h (row_mode {n = n} is) = a n refl
neither_over nodes g a b h (row_row {dims = d} {flex = f} {of = o}) = b d f o refl

pub else_widened : (nodes : List Shape) (m : Mode) (g : CoercionGoal) (o : Option Route) → (IsVoidGoal nodes g → ⊥) → No (FirmTo nodes m g) → FindsRoute nodes m (WidenedTo nodes m g) o → FindsUnrowed nodes m g o
else_widened nodes m g (Some route) nv a w = widening a w
else_widened nodes m g None nv a w = (nv, a, w)

-- a soft, weak or meek way is a path
pub goes_leads : (nodes : List Shape) (sort : Sort) (from to : Mode) (o : Option RowRoute) → (sort ≡ by.Soft) ⊎ ((sort ≡ by.Weak) ⊎ (sort ≡ by.Meek)) → FindsRowed nodes from (GoesToEquivalent nodes sort from to) o → FindsRowed nodes from (Leads nodes sort from to) o
goes_leads nodes by.Soft from to o e w = w
goes_leads nodes by.Weak from to o e w = w
goes_leads nodes by.Meek from to o e w = w
goes_leads nodes by.Firm from to o e w = absurd (⊎_elim (λ f. cc) (λ g. ⊎_elim (λ f. cc) (λ f. cc) g) e)
goes_leads nodes by.Strong from to o e w = absurd (⊎_elim (λ f. cc) (λ g. ⊎_elim (λ f. cc) (λ f. cc) g) e)
