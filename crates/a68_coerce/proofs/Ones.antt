-- Of each sort one path leads from one mode to another.
use Rattle.std.proofs.Common.{◌≡◌, ◌<◌, ◌≤◌, ◌+◌, ◌++◌, ℕ, zero, suc, List, [], ◌∷◌, Bool, false, Some, length, refl, sym, ap, ◌∙◌, subst, arith, ⊎_elim}
use Rattle.std.proofs.lemmas.Bool.{cases_lt}
use Rattle.std.proofs.lemmas.List.{append-nil, get_or-take}
use Rattle.a68_modes.specs.declared.shape.Shape.{Shape}
use Rattle.a68_modes.specs.declared.shape.Shape.TheVariants.{Void, Ref, Rows, Proc, Same, Blank}
use Rattle.a68_modes.specs.Nodes.{shape_at, HoldsNodes}
use Rattle.a68_modes.specs.declared.coercion.Coercion.{Coercion}
use Rattle.a68_modes.specs.declared.coercion.Coercion.TheVariants.{Unite, Widen, RowUp, RowUpName}
use Rattle.a68_modes.specs.declared.coercion.Sort.{Sort}
use Rattle.a68_modes.specs.declared.coercion.Sort.TheVariants as by
use Rattle.a68_equiv.specs.declared.mode.Mode.{Mode}
use Rattle.a68_equiv.specs.Unfolding.{unfolded, constructor, passes_on, Alike, Equivalent, IsInMode, IsModePart}
use Rattle.a68_equiv.specs.Related.{Meek, as_it_stands, without_flex, meek_step}
use Rattle.a68_equiv.specs.Related.Meek.{here, deref, deproc}
use Rattle.a68_equiv.specs.Ways.{AreWellFormed}
use Rattle.a68_equiv.proofs.Chains.{steps, counted}
use Rattle.a68_equiv.proofs.Grasp.{stays}
use Rattle.a68_equiv.proofs.Meekly.{meek_next, shorter, id_of, inside}
use Rattle.a68_coerce.specs.declared.goal.CoercionGoal.{CoercionGoal}
use Rattle.a68_coerce.specs.declared.goal.CoercionGoal.TheVariants as goal
use Rattle.a68_coerce.specs.Goals.{ReachesGoal, IsVoidGoal, IsRowOver, IsNameOver}
use Rattle.a68_coerce.specs.Goals.IsRowOver.{row_mode, row_row}
use Rattle.a68_coerce.specs.Goals.IsNameOver.{name_mode}
use Rattle.a68_coerce.specs.Paths.{MeekTo, UnitedTo, IsFirstNode, FirmTo, IsBools, WidenedTo, NamedTo, StrongTo, Leads}
use Rattle.a68_coerce.specs.Paths.FirmTo.{meekly, uniting}
use Rattle.a68_coerce.specs.Paths.StrongTo.{nothing, dropping, firmly, widening, rowing, naming}
use Rattle.a68_coerce.proofs.Walking.{one_end, comparable}
use Rattle.a68_coerce.proofs.Orders.{one_over, one_name, apart}

-- ---- equivalent modes have as many meek steps

mode_is : (m : Mode) (y : ℕ) → y ≡ m.id → m.fixed ≡ false → m ≡ as_it_stands y
mode_is m y e f =
    let one : m ≡ record { id = y; fixed = m.fixed } = ap (λ (i : ℕ). let r : Mode = record { id = i; fixed = m.fixed } in r) (sym e) in
    one ∙ ap (λ (b : Bool). let r : Mode = record { id = y; fixed = b } in r) f

module _ (nodes : List Shape) where
  ref_parts : (a b : Mode) (x y : ℕ) → unfolded nodes a.id ≡ Ref x → unfolded nodes b.id ≡ Ref y → Equivalent nodes a b → Equivalent nodes (as_it_stands x) (as_it_stands y)
  ref_parts a b x y f g e = λ depth.
      let there : IsModePart nodes a 0 (as_it_stands x) = record { at = subst (λ (t : Shape). IsInMode nodes a.id t 0 x) (sym f) (omega arith, refl); flex = sym (ap (passes_on a.fixed) f) } in
      let q = (e (suc depth)).1.0 0 (as_it_stands x) there in
      let at = subst (λ (t : Shape). IsInMode nodes b.id t 0 q.0.id) g q.1.at in
      subst (λ (m : Mode). Alike nodes depth (as_it_stands x) m) (mode_is q.0 y at.1 (q.1.flex ∙ ap (passes_on b.fixed) g)) q.2

  call_parts : (a b : Mode) (x y : ℕ) → unfolded nodes a.id ≡ Proc [] x → unfolded nodes b.id ≡ Proc [] y → Equivalent nodes a b → Equivalent nodes (as_it_stands x) (as_it_stands y)
  call_parts a b x y f g e = λ depth.
      let there : IsModePart nodes a 0 (as_it_stands x) = record { at = subst (λ (t : Shape). IsInMode nodes a.id t 0 x) (sym f) (omega arith, refl); flex = sym (ap (passes_on a.fixed) f) } in
      let q = (e (suc depth)).1.0 0 (as_it_stands x) there in
      let at = subst (λ (t : Shape). IsInMode nodes b.id t 0 q.0.id) g q.1.at in
      subst (λ (m : Mode). Alike nodes depth (as_it_stands x) m) (mode_is q.0 y at.1 (q.1.flex ∙ ap (passes_on b.fixed) g)) q.2

  same_steps : (fuel : ℕ) (a b : Mode) → Equivalent nodes a b → steps (meek_next nodes) fuel a.id ≡ steps (meek_next nodes) fuel b.id
  same_steps zero a b e = refl
  same_steps (suc fuel) a b e = go (unfolded nodes a.id) (unfolded nodes b.id) refl refl (e 1).0 (same_steps fuel)
    where
      go : (s t : Shape) → unfolded nodes a.id ≡ s → unfolded nodes b.id ≡ t → constructor a.fixed s ≡ constructor b.fixed t
          → ((c d : Mode) → Equivalent nodes c d → steps (meek_next nodes) fuel c.id ≡ steps (meek_next nodes) fuel d.id) → counted (steps (meek_next nodes) fuel) (id_of (meek_step s)) ≡ counted (steps (meek_next nodes) fuel) (id_of (meek_step t))
      go (Ref x) (Ref y) f g same ih = ap suc (ih (as_it_stands x) (as_it_stands y) (ref_parts a b x y f g e))
      go (Ref x) _ f g same ih = absurd (cc)
      go (Proc [] x) (Proc [] y) f g same ih = ap suc (ih (as_it_stands x) (as_it_stands y) (call_parts a b x y f g e))
      go (Proc [] x) _ f g same ih = absurd (cc)
      go _ (Ref y) f g same ih = absurd (cc)
      go _ (Proc [] y) f g same ih = absurd (cc)
      go _ _ f g same ih = refl

  no_steps : (fuel m dims e : ℕ) (flex : Bool) → unfolded nodes m ≡ Rows dims flex e → steps (meek_next nodes) fuel m ≡ 0
  no_steps zero m dims e flex is = refl
  no_steps (suc fuel) m dims e flex is = ap (λ (s : Shape). counted (steps (meek_next nodes) fuel) (id_of (meek_step s))) is

  one_step : (fuel m a : ℕ) → unfolded nodes m ≡ Ref a → steps (meek_next nodes) (suc fuel) m ≡ suc (steps (meek_next nodes) fuel a)
  one_step fuel m a is = ap (λ (s : Shape). counted (steps (meek_next nodes) fuel) (id_of (meek_step s))) is

  -- what reaches one goal has as many steps
  same_count : (fuel : ℕ) (k j : Mode) (g : CoercionGoal) → ReachesGoal nodes k g → ReachesGoal nodes j g → steps (meek_next nodes) fuel k.id ≡ steps (meek_next nodes) fuel j.id
  same_count fuel k j (goal.Mode n) v w = same_steps fuel k n v ∙ sym (same_steps fuel j n w)
  same_count fuel k j (goal.Row dims flex of) v w = no_steps fuel k.id dims v.element v.flex_written v.shape ∙ sym (no_steps fuel j.id dims w.element w.flex_written w.shape)
  same_count zero k j (goal.Name n) v w = refl
  same_count (suc fuel) k j (goal.Name n) v w =
      one_step fuel k.id v.0 v.1 ∙ ap suc (same_steps fuel (as_it_stands v.0) n v.2 ∙ sym (same_steps fuel (as_it_stands w.0) n w.2)) ∙ sym (one_step fuel j.id w.0 w.1)
  same_count zero k j (goal.NameOfRow dims of) v w = refl
  same_count (suc fuel) k j (goal.NameOfRow dims of) v w =
      one_step fuel k.id v.0 v.1 ∙ ap suc (no_steps fuel v.0 dims v.2.element v.2.flex_written v.2.shape ∙ sym (no_steps fuel w.0 dims w.2.element w.2.flex_written w.2.shape)) ∙ sym (one_step fuel j.id w.0 w.1)

-- the rest of a way behind its beginning
rest : {nodes : List Shape} {m k n : Mode} {p : List Coercion} (r : List Coercion) → Meek nodes m p k → Meek nodes m (p ++ r) n → Meek nodes k r n
rest r here w = w
rest {nodes = nodes} {n = n} r (deref {a = a} {path = p} f v) (deref {a = b} g w) =
    let e : Ref a ≡ Ref b = sym f ∙ g in
    let same : b ≡ a = cc in
    rest r v (subst (λ (x : ℕ). Meek nodes (without_flex x) (p ++ r) n) same w)
rest {nodes = nodes} {n = n} r (deproc {a = a} {path = p} f v) (deproc {a = b} g w) =
    let e : Proc [] a ≡ Proc [] b = sym f ∙ g in
    let same : b ≡ a = cc in
    rest r v (subst (λ (x : ℕ). Meek nodes (as_it_stands x) (p ++ r) n) same w)

no_length : (r : List Coercion) → length r ≡ 0 → r ≡ []
no_length [] e = refl
no_length (c ∷ r) e = absurd (omega arith)

module _ (nodes : List Shape) (holds : HoldsNodes nodes) (formed : AreWellFormed nodes) where
  falls_by : {k j : Mode} {r : List Coercion} → k.id < length nodes → Meek nodes k r j → length r + steps (meek_next nodes) (length nodes) j.id ≤ steps (meek_next nodes) (length nodes) k.id
  falls_by h here = omega arith
  falls_by {k = k} {j = j} h (deref {a = a} {path = r} f w) =
      let next : meek_next nodes k.id ≡ Some a = ap (λ (s : Shape). id_of (meek_step s)) f in
      let less = shorter nodes holds formed k.id a h next in
      let more = falls_by (inside nodes holds k.id a h next) w in
      omega arith
  falls_by {k = k} {j = j} h (deproc {a = a} {path = r} f w) =
      let next : meek_next nodes k.id ≡ Some a = ap (λ (s : Shape). id_of (meek_step s)) f in
      let less = shorter nodes holds formed k.id a h next in
      let more = falls_by (inside nodes holds k.id a h next) w in
      omega arith

  there_on : {k j : Mode} {r : List Coercion} → k.id < length nodes → Meek nodes k r j → j.id < length nodes
  there_on h here = h
  there_on {k = k} h (deref {a = a} f w) = there_on (inside nodes holds k.id a h (ap (λ (s : Shape). id_of (meek_step s)) f)) w
  there_on {k = k} h (deproc {a = a} f w) = there_on (inside nodes holds k.id a h (ap (λ (s : Shape). id_of (meek_step s)) f)) w

  -- no way leads on from what reaches a goal to what reaches it
  no_further : (m k j : Mode) (p r : List Coercion) → m.id < length nodes → Meek nodes m p k → Meek nodes m (p ++ r) j → steps (meek_next nodes) (length nodes) k.id ≡ steps (meek_next nodes) (length nodes) j.id → r ≡ []
  no_further m k j p r h v w same = let less = falls_by (there_on h v) (rest r v w) in no_length r (omega arith)

  one_meek : (m : Mode) (g : CoercionGoal) (p q : List Coercion) → m.id < length nodes → MeekTo nodes m g p → MeekTo nodes m g q → p ≡ q
  one_meek m g p q h v w = ⊎_elim
      (λ e. let none = no_further m v.0 w.0 p e.0 h v.1 (subst (λ (x : List Coercion). Meek nodes m x w.0) e.1 w.1) (same_count nodes (length nodes) v.0 w.0 g v.2 w.2) in
      sym (e.1 ∙ ap (λ (x : List Coercion). p ++ x) none ∙ append-nil p))
      (λ e. let none = no_further m w.0 v.0 q e.0 h w.1 (subst (λ (x : List Coercion). Meek nodes m x v.0) e.1 v.1) (same_count nodes (length nodes) w.0 v.0 g w.2 v.2) in
      e.1 ∙ ap (λ (x : List Coercion). q ++ x) none ∙ append-nil q)
      (comparable v.1 w.1)

  one_node : (k : Mode) (a b : ℕ) → IsFirstNode nodes k a → IsFirstNode nodes k b → a ≡ b
  one_node k a b v w = ⊎_elim (λ lt. absurd (w.first a lt v.equivalent)) (λ le. ⊎_elim (λ lt. absurd (v.first b lt w.equivalent)) (λ ge. omega arith) (cases_lt b a)) (cases_lt a b)

  united_whole : (m n : Mode) (p q : List Coercion) (v : UnitedTo nodes m n p) (w : UnitedTo nodes m n q) → v.meekly ≡ w.meekly → p ≡ q
  united_whole m n p q v w same =
      let end : v.mode ≡ w.mode = one_end v.way (subst (λ (x : List Coercion). Meek nodes m x w.mode) (sym same) w.way) in
      let node : v.node ≡ w.node = one_node v.mode v.node w.node v.node_is (subst (λ (k : Mode). IsFirstNode nodes k w.node) (sym end) w.node_is) in
      v.whole ∙ ap (λ (x : List Coercion). x ++ Unite v.node ∷ []) same ∙ ap (λ (i : ℕ). w.meekly ++ Unite i ∷ []) node ∙ sym w.whole

  one_united : (m n : Mode) (p q : List Coercion) → UnitedTo nodes m n p → UnitedTo nodes m n q → p ≡ q
  one_united m n p q v w = ⊎_elim
      (λ e. united_whole m n p q v w (w.first v.meekly e.0 v.mode e.1 v.way v.unites))
      (λ e. united_whole m n p q v w (sym (v.first w.meekly e.0 w.mode e.1 w.way w.unites)))
      (comparable v.way w.way)

  one_firm : (m : Mode) (g : CoercionGoal) (p q : List Coercion) → m.id < length nodes → FirmTo nodes m g p → FirmTo nodes m g q → p ≡ q
  one_firm m g p q h (meekly v) (meekly w) = one_meek m g p q h v w
  one_firm m g p q h (meekly v) (uniting lacks w) = absurd (lacks p v)
  one_firm m g p q h (uniting lacks v) (meekly w) = absurd (lacks q w)
  one_firm m g p q h (uniting {n = n} lacks v) (uniting more w) = one_united m n p q v w

  one_widened : (m : Mode) (g : CoercionGoal) (p q : List Coercion) → m.id < length nodes → WidenedTo nodes m g p → WidenedTo nodes m g q → p ≡ q
  one_widened m g p q h v w = v.1.2 ∙ ap (λ (x : List Coercion). x ++ Widen ∷ []) (one_firm m (goal.Mode (as_it_stands 4)) v.1.0 w.1.0 h v.1.1 w.1.1) ∙ sym w.1.2

  one_named : (m : Mode) (g : CoercionGoal) (p q : List Coercion) → m.id < length nodes → NamedTo nodes m g p → NamedTo nodes m g q → p ≡ q
  one_named m g p q h v w =
      let same : w.0 ≡ v.0 = one_name nodes g w.0 v.0 w.1 v.1 in
      v.2.2 ∙ ap (λ (x : List Coercion). x ++ RowUpName ∷ []) (one_meek m v.0 v.2.0 w.2.0 h v.2.1 (subst (λ (t : CoercionGoal). MeekTo nodes m t w.2.0) same w.2.1)) ∙ sym w.2.2

  -- ---- no two rules meet

  bools : unfolded nodes 11 ≡ Rows 1 false 2
  bools =
      let is : shape_at nodes 11 ≡ Rows 1 false 2 = sym (get_or-take 15 nodes 11 Blank (omega arith)) ∙ ap (λ (xs : List Shape). shape_at xs 11) holds.standard in
      ap (shape_at nodes) (stays nodes (length nodes) 11 (λ t e. let no : Rows 1 false 2 ≡ Same t = sym is ∙ e in cc)) ∙ is

  bools_void : (g : CoercionGoal) → IsBools nodes g → IsVoidGoal nodes g → ⊥
  bools_void (goal.Mode n) b v = let e : Void ≡ Rows 1 false 0 = ap (constructor n.fixed) (sym v) ∙ (b 1).0 ∙ ap (constructor false) bools in cc
  bools_void (goal.Row dims flex of) b v = v
  bools_void (goal.Name n) b v = v
  bools_void (goal.NameOfRow dims of) b v = v

  bools_named : (g h : CoercionGoal) → IsBools nodes g → IsNameOver nodes g h → ⊥
  bools_named g h b (name_mode {n = n} {a = a} f e) = let e : Ref 0 ≡ Rows 1 false 0 = ap (constructor n.fixed) (sym f) ∙ (b 1).0 ∙ ap (constructor false) bools in cc

  void_row : (g h : CoercionGoal) → IsVoidGoal nodes g → IsRowOver nodes g h → ⊥
  void_row g h v (row_mode e) = let same = sym v ∙ e in cc
  void_row g h v row_row = v

  void_named : (g h : CoercionGoal) → IsVoidGoal nodes g → IsNameOver nodes g h → ⊥
  void_named g h v (name_mode f e) = let same = sym v ∙ f in cc

  one_strong : (m : Mode) (g : CoercionGoal) (p q : List Coercion) → m.id < length nodes → StrongTo nodes m g p → StrongTo nodes m g q → p ≡ q
  one_strong m g p q h (nothing v x) (nothing w y) = refl
  one_strong m g p q h (nothing v x) (dropping w y) = absurd (y x)
  one_strong m g p q h (nothing v x) (firmly y w) = absurd (y v)
  one_strong m g p q h (nothing v x) (widening y w) = absurd (bools_void g w.0 v)
  one_strong m g p q h (nothing v x) (rowing {h = i} y z f w e) = absurd (void_row g i v f)
  one_strong m g p q h (nothing v x) (naming y w) = absurd (void_named g w.0 v w.1)
  one_strong m g p q h (dropping v x) (nothing w y) = absurd (x y)
  one_strong m g p q h (dropping v x) (dropping w y) = refl
  one_strong m g p q h (dropping v x) (firmly y w) = absurd (y v)
  one_strong m g p q h (dropping v x) (widening y w) = absurd (bools_void g w.0 v)
  one_strong m g p q h (dropping v x) (rowing {h = i} y z f w e) = absurd (void_row g i v f)
  one_strong m g p q h (dropping v x) (naming y w) = absurd (void_named g w.0 v w.1)
  one_strong m g p q h (firmly x v) (nothing w y) = absurd (x w)
  one_strong m g p q h (firmly x v) (dropping w y) = absurd (x w)
  one_strong m g p q h (firmly x v) (firmly y w) = one_firm m g p q h v w
  one_strong m g p q h (firmly x v) (widening y w) = absurd (y p v)
  one_strong m g p q h (firmly x v) (rowing y z f w e) = absurd (y p v)
  one_strong m g p q h (firmly x v) (naming y w) = absurd (y p v)
  one_strong m g p q h (widening x v) (nothing w y) = absurd (bools_void g v.0 w)
  one_strong m g p q h (widening x v) (dropping w y) = absurd (bools_void g v.0 w)
  one_strong m g p q h (widening x v) (firmly y w) = absurd (x q w)
  one_strong m g p q h (widening x v) (widening y w) = one_widened m g p q h v w
  one_strong m g p q h (widening x v) (rowing y z f w e) = absurd (z p v)
  one_strong m g p q h (widening x v) (naming y w) = absurd (bools_named g w.0 v.0 w.1)
  one_strong m g p q h (rowing {h = i} x y f v e) (nothing w z) = absurd (void_row g i w f)
  one_strong m g p q h (rowing {h = i} x y f v e) (dropping w z) = absurd (void_row g i w f)
  one_strong m g p q h (rowing x y f v e) (firmly z w) = absurd (x q w)
  one_strong m g p q h (rowing x y f v e) (widening z w) = absurd (y q w)
  one_strong m g p q h (rowing {h = i} {q = a} x y f v e) (rowing {h = j} {q = b} z u k w d) =
      e ∙ ap (λ (r : List Coercion). r ++ RowUp ∷ []) (one_strong m i a b h v (subst (λ (t : CoercionGoal). StrongTo nodes m t b) (one_over nodes g j i k f) w)) ∙ sym d
  one_strong m g p q h (rowing {h = i} x y f v e) (naming z w) = absurd (apart nodes g i w.0 f w.1)
  one_strong m g p q h (naming x v) (nothing w y) = absurd (void_named g v.0 w v.1)
  one_strong m g p q h (naming x v) (dropping w y) = absurd (void_named g v.0 w v.1)
  one_strong m g p q h (naming x v) (firmly y w) = absurd (x q w)
  one_strong m g p q h (naming x v) (widening y w) = absurd (bools_named g v.0 w.0 v.1)
  one_strong m g p q h (naming x v) (rowing {h = i} y z f w e) = absurd (apart nodes g i v.0 f v.1)
  one_strong m g p q h (naming x v) (naming y w) = one_named m g p q h v w

  pub one_path : (s : Sort) (m n : Mode) (p q : List Coercion) → m.id < length nodes → Leads nodes s m n p → Leads nodes s m n q → p ≡ q
  one_path by.Soft m n p q h v w = one_meek m (goal.Mode n) p q h (v.0, v.1.0, v.2) (w.0, w.1.0, w.2)
  one_path by.Weak m n p q h v w = one_meek m (goal.Mode n) p q h (v.0, v.1.0, v.2) (w.0, w.1.0, w.2)
  one_path by.Meek m n p q h v w = one_meek m (goal.Mode n) p q h (v.0, v.1.0, v.2) (w.0, w.1.0, w.2)
  one_path by.Firm m n p q h v w = one_firm m (goal.Mode n) p q h v w
  one_path by.Strong m n p q h v w = one_strong m (goal.Mode n) p q h v w
