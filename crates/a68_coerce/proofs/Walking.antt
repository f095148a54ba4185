-- A walk over the meek way to what is hit.
use Rattle.std.proofs.Common.{◌≡◌, ◌<◌, ◌⊎◌, ℕ, List, [], ◌∷◌, ◌++◌, Some, None, length, length-append, refl, sym, ap, ◌∙◌, Bool, subst, inl, inr, ⊎_elim, arith}
use Rattle.std.proofs.lemmas.List.{append-nil, append_assoc}
use Rattle.a68_modes.specs.declared.shape.Shape.{Shape}
use Rattle.a68_modes.specs.declared.shape.Shape.TheVariants.{Void, Int, Long, Bool as bool_shape, Char, Bits, Sema, Layout, Ref, Rows, Struct, Union, Proc, Same, Blank}
use Rattle.a68_modes.specs.Nodes.{shape_at, HoldsNodes}
use Rattle.a68_modes.specs.declared.coercion.Coercion.{Coercion}
use Rattle.a68_modes.specs.declared.coercion.Coercion.TheVariants.{Deref, Deproc}
use Rattle.a68_equiv.specs.declared.mode.Mode.{Mode}
use Rattle.a68_equiv.specs.Unfolding.{unfolded}
use Rattle.a68_equiv.specs.Related.{as_it_stands, without_flex, Meek, meek_step}
use Rattle.a68_equiv.specs.Related.Meek.{here, deref, deproc}

-- a way, and one step more
pub snoc : {nodes : List Shape} {m k j : Mode} {path : List Coercion} (c : Coercion) → Meek nodes m path k → Meek nodes k (c ∷ []) j → Meek nodes m (path ++ c ∷ []) j
snoc c here v = v
snoc c (deref f w) v = deref f (snoc c w v)
snoc c (deproc f w) v = deproc f (snoc c w v)

-- the one step that there is, as a number tells it
pub stepped : {nodes : List Shape} {m k : Mode} {c : Coercion} → Meek nodes m (c ∷ []) k → meek_step (unfolded nodes m.id) ≡ Some k
stepped (deref f here) = ap meek_step f
stepped (deproc f here) = ap meek_step f

-- a way is empty, or begins with that step
pub begins : {nodes : List Shape} {m k n : Mode} {c : Coercion} {path : List Coercion} → Meek nodes m (c ∷ []) k → Meek nodes m path n
    → ((path ≡ []) × (m ≡ n)) ⊎ ((q : List Coercion) × (path ≡ c ∷ q) × Meek nodes k q n)
begins v here = inl (refl, refl)
begins {nodes = nodes} {n = n} (deref {a = a} g here) (deref {a = b} {path = q} f w) = let e : Ref a ≡ Ref b = sym g ∙ f in let same : b ≡ a = cc in inr (q, refl, subst (λ (x : ℕ). Meek nodes (without_flex x) q n) same w)
begins (deproc {a = a} g here) (deref {a = b} {path = q} f w) = let e : Proc [] a ≡ Ref b = sym g ∙ f in absurd (cc)
begins (deref {a = a} g here) (deproc {a = b} {path = q} f w) = let e : Ref a ≡ Proc [] b = sym g ∙ f in absurd (cc)
begins {nodes = nodes} {n = n} (deproc {a = a} g here) (deproc {a = b} {path = q} f w) = let e : Proc [] a ≡ Proc [] b = sym g ∙ f in let same : b ≡ a = cc in inr (q, refl, subst (λ (x : ℕ). Meek nodes (as_it_stands x) q n) same w)

-- a way from a mode that leads no further is empty
pub ends_here : (nodes : List Shape) (m n : Mode) (path : List Coercion) → meek_step (unfolded nodes m.id) ≡ None → Meek nodes m path n → (path ≡ []) × (m ≡ n)
ends_here nodes m n path e here = (refl, refl)
ends_here nodes m n path e (deref f w) = let g = ap meek_step f in absurd (cc)
ends_here nodes m n path e (deproc f w) = let g = ap meek_step f in absurd (cc)

-- so far the walk has passed nothing that is hit
pub record Walked (nodes : List Shape) (Hit : List Coercion → Mode → Type 0) (from : Mode) (path : List Coercion) (at : Mode) : Type 0 where
  pub there : at.id < length nodes
  pub reached : Meek nodes from path at
  pub only : (r : List Coercion) (k : Mode) → Meek nodes from r k → Hit r k → (q : List Coercion) × (r ≡ path ++ q) × Meek nodes at q k

pub began : (nodes : List Shape) (Hit : List Coercion → Mode → Type 0) (from : Mode) (path : List Coercion) → path ≡ [] → from.id < length nodes → Walked nodes Hit from path from
began nodes Hit from path e h = record {
  there = h;
  reached = subst (λ (p : List Coercion). Meek nodes from p from) (sym e) here;
  only = λ r k w hit. (r, rw e refl, w);
}

-- a walk that is not at what is hit goes on by the one step that there is
pub further : (nodes : List Shape) (Hit : List Coercion → Mode → Type 0) (from : Mode) (path : List Coercion) (at next : Mode) (c : Coercion)
    → Walked nodes Hit from path at → next.id < length nodes → (Hit path at → ⊥) → Meek nodes at (c ∷ []) next → Walked nodes Hit from (path ++ c ∷ []) next
further nodes Hit from path at next c w h not v = record {
  there = h;
  reached = snoc c w.reached v;
  only = λ r k m hit. go r k hit (w.only r k m hit);
}
  where
    go : (r : List Coercion) (k : Mode) → Hit r k → (q : List Coercion) × (r ≡ path ++ q) × Meek nodes at q k → (q : List Coercion) × (r ≡ (path ++ c ∷ []) ++ q) × Meek nodes next q k
    go r k hit u = ⊎_elim
        (λ e. let g : r ≡ path = u.1 ∙ ap (λ (q : List Coercion). path ++ q) e.0 ∙ append-nil path in absurd (not (rw (sym g, e.1) hit)))
        (λ e. (e.0, u.1 ∙ ap (λ (q : List Coercion). path ++ q) e.1 ∙ sym (append_assoc path (c ∷ []) e.0), e.2))
        (begins v u.2)

-- and where there is none, nothing is hit
pub nowhere : (nodes : List Shape) (Hit : List Coercion → Mode → Type 0) (from : Mode) (path : List Coercion) (at : Mode)
    → Walked nodes Hit from path at → (Hit path at → ⊥) → meek_step (unfolded nodes at.id) ≡ None → (r : List Coercion) (k : Mode) → Meek nodes from r k → Hit r k → ⊥
nowhere nodes Hit from path at w not e r k m hit =
    let u = w.only r k m hit in
    let f = ends_here nodes at k u.0 e u.2 in
    let g : r ≡ path = u.1 ∙ ap (λ (q : List Coercion). path ++ q) f.0 ∙ append-nil path in
    not (rw (sym g, f.1) hit)

pub ref_below : (nodes : List Shape) → HoldsNodes nodes → (m a : ℕ) → m < length nodes → shape_at nodes m ≡ Ref a → a < length nodes
ref_below nodes holds m a h is = (rw is at (holds.within m h)) 0 0 (omega arith)

pub row_below : (nodes : List Shape) → HoldsNodes nodes → (m dims a : ℕ) (flex : Bool) → m < length nodes → shape_at nodes m ≡ Rows dims flex a → a < length nodes
row_below nodes holds m dims a flex h is = (rw is at (holds.within m h)) 0 0 (omega arith)

-- the step from a name, and that from what is none
pub by_name : (nodes : List Shape) (m next : Mode) (a : ℕ) → unfolded nodes m.id ≡ Ref a → meek_step (unfolded nodes m.id) ≡ Some next → Meek nodes m (Deref ∷ []) next
by_name nodes m next a is e = let f = ap meek_step is in let same : without_flex a ≡ next = cc in subst (λ (x : Mode). Meek nodes m (Deref ∷ []) x) same (deref is here)

pub by_call : (nodes : List Shape) (m next : Mode) → ((a : ℕ) → unfolded nodes m.id ≡ Ref a → ⊥) → meek_step (unfolded nodes m.id) ≡ Some next → Meek nodes m (Deproc ∷ []) next
by_call nodes m next not e = go (unfolded nodes m.id) refl e
  where
    go : (s : Shape) → unfolded nodes m.id ≡ s → meek_step s ≡ Some next → Meek nodes m (Deproc ∷ []) next
    go (Ref a) f g = absurd (not a f)
    go (Proc [] a) f g = let same : as_it_stands a ≡ next = cc in subst (λ (x : Mode). Meek nodes m (Deproc ∷ []) x) same (deproc f here)
    go (Proc (p ∷ ps) a) f g = absurd (cc)
    go Void f g = absurd (cc)
    go Int f g = absurd (cc)
    go bool_shape f g = absurd (cc)
    go Char f g = absurd (cc)
    go Bits f g = absurd (cc)
    go Long f g = absurd (cc)
    go Sema f g = absurd (cc)
    go Layout f g = absurd (cc)
    go (Rows dims flex x) f g = absurd (cc)
    go (Struct fields) f g = absurd (cc)
    go (Union ms) f g = absurd (cc)
    go (Same x) f g = absurd (cc)
    go Blank f g = absurd (cc)

-- one way leads to one mode
pub one_end : {nodes : List Shape} {m k n : Mode} {path : List Coercion} → Meek nodes m path k → Meek nodes m path n → k ≡ n
one_end here here = refl
one_end {nodes = nodes} {n = n} (deref {a = a} {path = p} f v) (deref {a = b} g w) =
    let e : Ref a ≡ Ref b = sym f ∙ g in
    let same : b ≡ a = cc in
    one_end v (subst (λ (x : ℕ). Meek nodes (without_flex x) p n) same w)
one_end {nodes = nodes} {n = n} (deproc {a = a} {path = p} f v) (deproc {a = b} g w) =
    let e : Proc [] a ≡ Proc [] b = sym f ∙ g in
    let same : b ≡ a = cc in
    one_end v (subst (λ (x : ℕ). Meek nodes (as_it_stands x) p n) same w)

none_more : (r : List Coercion) → length r ≡ 0 → r ≡ []
none_more [] e = refl
none_more (c ∷ cs) e = absurd (omega arith)

pub short : (path q more r : List Coercion) → path ≡ q ++ more → q ≡ path ++ r → q ≡ path
short path q more r e f =
    let g = simp length-append at (ap length e) in
    let h = simp length-append at (ap length f) in
    let none = none_more r (omega arith) in
    f ∙ ap (λ (x : List Coercion). path ++ x) none ∙ append-nil path

-- of two ways from one mode one begins with the other
pub comparable : {nodes : List Shape} {m k n : Mode} {p q : List Coercion} → Meek nodes m p k → Meek nodes m q n → ((r : List Coercion) × (q ≡ p ++ r)) ⊎ ((r : List Coercion) × (p ≡ q ++ r))
comparable {q = q} here w = inl (q, refl)
comparable {p = p} v here = inr (p, refl)
comparable {nodes = nodes} {n = n} (deref {a = a} {path = p} f v) (deref {a = b} {path = q} g w) =
    let e : Ref a ≡ Ref b = sym f ∙ g in
    let same : b ≡ a = cc in
    ⊎_elim (λ x. inl (x.0, ap (λ (r : List Coercion). Deref ∷ r) x.1)) (λ x. inr (x.0, ap (λ (r : List Coercion). Deref ∷ r) x.1)) (comparable v (subst (λ (x : ℕ). Meek nodes (without_flex x) q n) same w))
comparable (deref {a = a} f v) (deproc {a = b} g w) = let e : Ref a ≡ Proc [] b = sym f ∙ g in absurd (cc)
comparable (deproc {a = a} f v) (deref {a = b} g w) = let e : Proc [] a ≡ Ref b = sym f ∙ g in absurd (cc)
comparable {nodes = nodes} {n = n} (deproc {a = a} {path = p} f v) (deproc {a = b} {path = q} g w) =
    let e : Proc [] a ≡ Proc [] b = sym f ∙ g in
    let same : b ≡ a = cc in
    ⊎_elim (λ x. inl (x.0, ap (λ (r : List Coercion). Deproc ∷ r) x.1)) (λ x. inr (x.0, ap (λ (r : List Coercion). Deproc ∷ r) x.1)) (comparable v (subst (λ (x : ℕ). Meek nodes (as_it_stands x) q n) same w))
