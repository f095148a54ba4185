-- The rows of the graph.
use Rattle.std.proofs.Common.{◌≡◌, ◌<◌, ℕ, List, [], Bool, true, false, length, get_or, refl, sym, ap, ◌∙◌, arith, subst}
use Rattle.std.specs.Prelude.{◌↔◌, map}
use Rattle.std.specs.List.{All, Contains}
use Rattle.std.proofs.lemmas.List.{get_or-map, length-map}
use Rattle.std.proofs.lemmas.List.Elements.{All-contains, Contains-get_or}
use Rattle.a68_modes.specs.declared.shape.Shape.{Shape}
use Rattle.a68_modes.specs.declared.shape.Shape.TheVariants.{Union, Same}
use Rattle.a68_modes.specs.Nodes.{parts_of}
use Rattle.a68_equiv.specs.declared.mode.Mode.{Mode}
use Rattle.a68_equiv.specs.declared.steps.Inward.TheVariants.{WithinUnions}
use Rattle.a68_equiv.specs.Ways.{steps_of, row, Way}
use Rattle.a68_equiv.specs.Ways.Way.{last_step, more_steps}
use Rattle.a68_equiv.specs.Unfolding.{unfolded, leads_within, passes_on, is_union, IsMember}
use Rattle.a68_partition.specs.Rows.{Stands}
use Rattle.a68_equiv.specs.Graph.{number_of, AreAt, IsRowOf}

pub at_parts : (nodes : List Shape) (m : ℕ) (s : Shape) → is_union s ≡ false → AreAt nodes m s (parts_of s)
at_parts nodes m (Union ms) e = absurd (cc)
at_parts nodes m _ e = λ place x. (λ h. h, λ h. h)

pub at_members : (nodes : List Shape) (m : ℕ) (s : Shape) (items : List ℕ) → is_union s ≡ true → ((x : ℕ) → Contains items x ↔ IsMember nodes m x) → AreAt nodes m s items
at_members nodes m (Union ms) items e f = λ place x. (λ h. (h.0, (f x).0 h.1), λ h. (h.0, (f x).1 h.1))
at_members nodes m _ items e f = absurd (cc)

module _ (f : ℕ → ℕ) where
  contains_map : (xs : List ℕ) (x : ℕ) → Contains xs x → Contains (map f xs) (f x)
  contains_map xs x i =
      let l = length-map xs f in let lt = i.1 in
      (i.0, omega arith, get_or-map f xs i.0 x (f x) i.1 ∙ ap f i.2)

  pub from_map : (xs : List ℕ) (y : ℕ) → Contains (map f xs) y → (x : ℕ) × Contains xs x × (y ≡ f x)
  from_map xs y i =
      let l = length-map xs f in let lt = i.1 in
      let lt' : i.0 < length xs = omega arith in
      (get_or xs i.0 0, Contains-get_or xs i.0 0 lt', sym i.2 ∙ get_or-map f xs i.0 0 y lt')

  pub stands_map : (u : Bool) (xs : List ℕ) (place x : ℕ) → Stands u xs place x → Stands u (map f xs) place (f x)
  stands_map true xs place x h = (h.0, contains_map xs x h.1)
  stands_map false xs place x h =
      let l = length-map xs f in let lt = h.0 in
      (omega arith, get_or-map f xs place 0 0 h.0 ∙ ap f h.1)

  pub from_stands : (u : Bool) (xs : List ℕ) (place w : ℕ) → Stands u (map f xs) place w → (x : ℕ) × Stands u xs place x × (w ≡ f x)
  from_stands true xs place w h = let k = from_map xs w h.1 in (k.0, (h.0, k.1), k.2)
  from_stands false xs place w h =
      let l = length-map xs f in let lt = h.0 in
      let lt' : place < length xs = omega arith in
      (get_or xs place 0, (lt', refl), sym h.1 ∙ get_or-map f xs place 0 0 lt')

abbrev numbered : Bool → ℕ → ℕ
numbered fixed m = number_of (record { id = m; fixed = fixed })

-- the numbers of what stands in a mode are its row
pub row_is : (nodes : List Shape) (a : Mode) (items : List ℕ) (among fixed : Bool)
    → among ≡ is_union (unfolded nodes a.id) → fixed ≡ passes_on a.fixed (unfolded nodes a.id) → AreAt nodes a.id (unfolded nodes a.id) items → All (λ m. m < length nodes) items
    → IsRowOf nodes a (among, map (λ m. number_of (record { id = m; fixed = fixed })) items)
row_is nodes a items among fixed same flex at below = record {
  all = λ place p is.
      let h = (at place p.id).1 is.at in
      let g = stands_map (numbered fixed) (is_union (unfolded nodes a.id)) items place p.id h in
      let e : numbered fixed p.id ≡ number_of p = ap (λ (b : Bool). number_of (record { id = p.id; fixed = b })) (flex ∙ sym is.flex) in
      rw same (subst (λ (w : ℕ). Stands (is_union (unfolded nodes a.id)) (map (numbered fixed) items) place w) e g);
  only = λ place w h.
      let k = from_stands (numbered fixed) (is_union (unfolded nodes a.id)) items place w (rw same at h) in
      (record { id = k.0; fixed = fixed }, inside (is_union (unfolded nodes a.id)) place k.0 k.1, record { at = (at place k.0).0 k.1; flex = flex }, k.2);
}
  where
    inside : (u : Bool) (place x : ℕ) → Stands u items place x → x < length nodes
    inside true place x h = All-contains (λ m. m < length nodes) items x below h.1
    inside false place x h = rw (← h.1) (below place 0 h.0)

-- a mode word or a union leads on, and nothing else does
pub no_steps : (s : Shape) → leads_within s ≡ false → steps_of WithinUnions s ≡ []
no_steps (Union ms) e = absurd (cc)
no_steps (Same m) e = absurd (cc)
no_steps _ e = refl

pub none_from : (graph : List (List ℕ)) (a b : ℕ) → row graph a ≡ [] → Way graph a b → ⊥
none_from graph a b e (last_step i) = none_here b (subst (λ (xs : List ℕ). Contains xs b) e i)
  where
    none_here : (x : ℕ) → Contains [] x → ⊥
    none_here x i = let h = i.1 in omega arith
none_from graph a b e (more_steps {b = c} i w) = none_here c (subst (λ (xs : List ℕ). Contains xs c) e i)
  where
    none_here : (x : ℕ) → Contains [] x → ⊥
    none_here x i = let h = i.1 in omega arith
