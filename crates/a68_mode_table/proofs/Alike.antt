-- Modes that are alike because their shapes are.
use Rattle.std.proofs.Common.{◌≡◌, ◌<◌, ℕ, zero, suc, List, [], ◌∷◌, Bool as Truth, true, false, length, get_or, refl, sym, ap, ◌∙◌, arith, subst}
use Rattle.std.specs.Prelude.{map}
use Rattle.std.proofs.lemmas.List.{ext_get_or}
use Rattle.a68_declare.proofs.Cleaning.{alike_itself}
use Rattle.a68_declare.proofs.Imaging.{at_other, other_at, passes_none, same_count, same_shape}
use Rattle.a68_declare.specs.Clean.{renumbered}
use Rattle.a68_equiv.proofs.Numbers.{same_mode}
use Rattle.a68_equiv.specs.declared.mode.Mode.{Mode}
use Rattle.a68_equiv.specs.Related.{as_it_stands, without_flex}
use Rattle.a68_equiv.specs.Unfolding.{unfolded, constructor, is_union, passes_on, IsInMode, IsModePart, Alike, Equivalent}
use Rattle.a68_modes.specs.declared.shape.Shape.{Shape}
use Rattle.a68_modes.specs.declared.shape.Shape.TheVariants.{Ref, Rows, Struct, Union, Proc}
use Rattle.a68_modes.specs.Nodes.{parts_of}

-- ---- a shape is its constructor and the modes within it

renumbered_itself : (s : Shape) → renumbered (λ m. m) s ≡ s
renumbered_itself (Struct fields) = ap Struct (go fields)
  where
    go : (fields : List (ℕ × ℕ)) → map {B = ℕ × ℕ} (λ (field : ℕ × ℕ). (field.0, field.1)) fields ≡ fields
    go [] = refl
    go (field ∷ fields) = ap (λ (xs : List (ℕ × ℕ)). field ∷ xs) (go fields)
renumbered_itself (Union ms) = ap Union (go ms)
  where
    go : (ms : List ℕ) → map {B = ℕ} (λ (m : ℕ). m) ms ≡ ms
    go [] = refl
    go (m ∷ ms) = ap (λ (xs : List ℕ). m ∷ xs) (go ms)
renumbered_itself (Proc ps m) = ap (λ (xs : List ℕ). Proc xs m) (go ps)
  where
    go : (ps : List ℕ) → map {B = ℕ} (λ (p : ℕ). p) ps ≡ ps
    go [] = refl
    go (p ∷ ps) = ap (λ (xs : List ℕ). p ∷ xs) (go ps)
renumbered_itself _ = refl

pub shape_of_parts : (s t : Shape) → is_union s ≡ false → is_union t ≡ false → constructor false s ≡ constructor false t
    → ((k : ℕ) → k < length (parts_of s) → get_or (parts_of s) k 0 ≡ get_or (parts_of t) k 0) → s ≡ t
shape_of_parts s t u v e each =
    let parts = ext_get_or 0 (parts_of s) (parts_of t) (same_count s t u v e) each in
    sym (renumbered_itself s) ∙ same_shape (λ m. m) s t u v e (ap (map {B = ℕ} (λ (m : ℕ). m)) parts) ∙ renumbered_itself t

-- ---- two modes with the same within them

pub alike_by : (nodes : List Shape) (a b : ℕ) → unfolded nodes a ≡ unfolded nodes b
    → ((place z : ℕ) → IsInMode nodes a (unfolded nodes a) place z → IsInMode nodes b (unfolded nodes b) place z)
    → ((place z : ℕ) → IsInMode nodes b (unfolded nodes b) place z → IsInMode nodes a (unfolded nodes a) place z) → Equivalent nodes (as_it_stands a) (as_it_stands b)
alike_by nodes a b e forth back zero = tt
alike_by nodes a b e forth back (suc depth) = (
  ap (constructor false) e,
  (
    λ place p part. (p, record { at = forth place p.id part.at; flex = part.flex ∙ ap (passes_on false) e }, alike_itself nodes depth p),
    λ place q part. (q, record { at = back place q.id part.at; flex = part.flex ∙ sym (ap (passes_on false) e) }, alike_itself nodes depth q),
  ),
)

-- ---- a mode, and one without its FLEX

-- the shape without FLEX
abbrev unflexed : Shape → Shape
unflexed (Rows dims flex m) = Rows dims false m
unflexed s = s

unflexed_stands : (s : Shape) → unflexed (constructor false s) ≡ constructor true s
unflexed_stands (Rows dims flex m) = refl
unflexed_stands _ = refl

unflexed_fixed : (s : Shape) → unflexed (constructor true s) ≡ constructor true s
unflexed_fixed (Rows dims flex m) = refl
unflexed_fixed _ = refl

-- where FLEX is taken away from the modes within, the constructor tells it
passes_made : (fixed : Truth) (s : Shape) → passes_on true (constructor fixed s) ≡ passes_on true s
passes_made fixed (Ref m) = refl
passes_made fixed (Proc ps m) = refl
passes_made fixed _ = refl

module _ (nodes : List Shape) (depth p o : ℕ) (al : Alike nodes (suc depth) (as_it_stands p) (without_flex o)) where
  same_flat : constructor true (unfolded nodes p) ≡ constructor false (unfolded nodes p)
  same_flat = sym (unflexed_stands (unfolded nodes p)) ∙ ap unflexed al.0 ∙ unflexed_fixed (unfolded nodes o) ∙ sym al.0

  passes_too : passes_on true (unfolded nodes p) ≡ passes_on true (unfolded nodes o)
  passes_too = sym (passes_made false (unfolded nodes p)) ∙ ap (passes_on true) al.0 ∙ passes_made true (unfolded nodes o)

  flat_part : ((a b : ℕ) → Alike nodes depth (as_it_stands a) (without_flex b) → Alike nodes depth (without_flex a) (as_it_stands a))
      → (place : ℕ) (q : Mode) → IsModePart nodes (without_flex p) place q → Alike nodes depth q (as_it_stands q.id)
  flat_part ih place q part = go q.fixed refl
    where
      go : (b : Truth) → q.fixed ≡ b → Alike nodes depth q (as_it_stands q.id)
      go false e = subst (λ m. Alike nodes depth m (as_it_stands q.id)) (sym (same_mode q (as_it_stands q.id) refl e)) (alike_itself nodes depth (as_it_stands q.id))
      go true e =
          let r = al.1.0 place (as_it_stands q.id) (record { at = part.at; flex = sym (passes_none (unfolded nodes p)) }) in
          let fixed : r.0.fixed ≡ true = r.1.flex ∙ sym passes_too ∙ sym part.flex ∙ e in
          let other = same_mode r.0 (without_flex r.0.id) refl fixed in
          let found = ih q.id r.0.id (subst (Alike nodes depth (as_it_stands q.id)) other r.2) in
          subst (λ m. Alike nodes depth m (as_it_stands q.id)) (sym (same_mode q (without_flex q.id) refl e)) found

-- a mode that is another one without its FLEX has no FLEX
pub flat : (nodes : List Shape) (depth p o : ℕ) → Alike nodes depth (as_it_stands p) (without_flex o) → Alike nodes depth (without_flex p) (as_it_stands p)
flat nodes zero p o al = tt
flat nodes (suc depth) p o al =
    let inner = flat_part nodes depth p o al (flat nodes depth) in (
      same_flat nodes depth p o al,
      (
        λ place q part. (as_it_stands q.id, record { at = part.at; flex = sym (passes_none (unfolded nodes p)) }, inner place q part),
        λ place q part.
            let plain = same_mode q (as_it_stands q.id) refl (part.flex ∙ passes_none (unfolded nodes p)) in
            let m : Mode = record { id = q.id; fixed = passes_on true (unfolded nodes p) } in
            let here : IsModePart nodes (without_flex p) place m = record { at = part.at; flex = refl } in
            (m, here, subst (Alike nodes depth m) (sym plain) (inner place m here)),
      ),
    )

-- a mode is another one without its FLEX where its shape is, and each mode within it
module _ (nodes : List Shape) (a b : ℕ) (s t : Shape) (a_is : unfolded nodes a ≡ s) (b_is : unfolded nodes b ≡ t) (u : is_union s ≡ false) (v : is_union t ≡ false)
    (same : constructor false s ≡ constructor true t) (count : length (parts_of s) ≡ length (parts_of t))
    (each : (k : ℕ) → k < length (parts_of t) → Equivalent nodes (as_it_stands (get_or (parts_of s) k 0)) (record { id = get_or (parts_of t) k 0; fixed = passes_on true t })) where
  abbrev one : ℕ → ℕ
  one k = get_or (parts_of s) k 0

  abbrev other : ℕ → Mode
  other k = record { id = get_or (parts_of t) k 0; fixed = passes_on true t }

  one_part : (k : ℕ) → k < length (parts_of s) → IsModePart nodes (as_it_stands a) k (as_it_stands (one k))
  one_part k h = record { at = subst (λ x. IsInMode nodes a x k (one k)) (sym a_is) (other_at nodes a s k (one k) u (h, refl)); flex = sym (passes_none (unfolded nodes a)) }

  other_part : (k : ℕ) → k < length (parts_of t) → IsModePart nodes (without_flex b) k (other k)
  other_part k h = record { at = subst (λ x. IsInMode nodes b x k (other k).id) (sym b_is) (other_at nodes b t k (other k).id v (h, refl)); flex = ap (passes_on true) (sym b_is) }

  only_one : (k : ℕ) (p : Mode) → IsModePart nodes (as_it_stands a) k p → (k < length (parts_of s)) × (as_it_stands (one k) ≡ p)
  only_one k p part =
      let at = at_other nodes a s k p.id u (subst (λ x. IsInMode nodes a x k p.id) a_is part.at) in
      (at.0, same_mode (as_it_stands (one k)) p at.1 (sym (part.flex ∙ passes_none (unfolded nodes a))))

  only_other : (k : ℕ) (q : Mode) → IsModePart nodes (without_flex b) k q → (k < length (parts_of t)) × (other k ≡ q)
  only_other k q part =
      let at = at_other nodes b t k q.id v (subst (λ x. IsInMode nodes b x k q.id) b_is part.at) in
      (at.0, same_mode (other k) q at.1 (sym (part.flex ∙ ap (passes_on true) b_is)))

  pub fixed_by : Equivalent nodes (as_it_stands a) (without_flex b)
  fixed_by zero = tt
  fixed_by (suc depth) = (
    ap (constructor false) a_is ∙ same ∙ sym (ap (constructor true) b_is),
    (
      λ k p part.
          let only = only_one k p part in
          let less = only.0 in
          let h : k < length (parts_of t) = omega arith in
          (other k, other_part k h, subst (λ m. Alike nodes depth m (other k)) only.1 (each k h depth)),
      λ k q part.
          let only = only_other k q part in
          let less = only.0 in
          let h : k < length (parts_of s) = omega arith in
          (as_it_stands (one k), one_part k h, subst (Alike nodes depth (as_it_stands (one k))) only.1 (each k only.0 depth)),
    ),
  )
