-- The standard modes are clean.
use Rattle.std.proofs.Common.{◌≡◌, ◌<◌, ℕ, zero, suc, List, [], ◌∷◌, true, false, length, get_or, refl, sym, ap, ◌∙◌, arith, subst}
use Rattle.std.specs.Prelude.{◌↔◌}
use Rattle.std.specs.List.{All, Contains, IsDistinct}
use Rattle.std.proofs.lemmas.List.Elements.{All-contains, All-from_recursion, Contains-get_or}
use Rattle.a68_declare.proofs.Standing.{standard_at, standard_unfolded, fifteen}
use Rattle.a68_declare.specs.Clean.{IsImage}
use Rattle.a68_declare.specs.Numbering.{number_in, AreOnce, IsShapeFrom}
use Rattle.a68_equiv.proofs.Spreading.{members_spread, plain_spread}
use Rattle.a68_equiv.specs.declared.steps.Inward.TheVariants.{WithinUnions}
use Rattle.a68_equiv.specs.Unfolding.{leads_within, IsMember}
use Rattle.a68_equiv.specs.Ways.{steps_of}
use Rattle.a68_modes.specs.declared.shape.Shape.{Shape}
use Rattle.a68_modes.specs.declared.shape.Shape.TheVariants.{Ref, Rows, Union}
use Rattle.a68_modes.specs.Nodes.{shape_at, standard_shapes, parts_of, HoldsNodes}

-- the members of a union none of whose members is a union or a mode word
pub bare_members : (nodes : List Shape) → HoldsNodes nodes → (m : ℕ) (images : List ℕ) → m < length nodes → shape_at nodes m ≡ Union images
    → ((x : ℕ) → Contains images x → leads_within (shape_at nodes x) ≡ false) → (x : ℕ) → Contains images x ↔ IsMember nodes m x
bare_members nodes holds m images h e plain x =
    let within : All (λ k. k < length nodes) images = subst (λ s. All (λ k. k < length nodes) (parts_of s)) e (holds.within m h) in
    let spread = members_spread nodes m x h in
    let start : steps_of WithinUnions (shape_at nodes m) ≡ images = ap (steps_of WithinUnions) e in
    let same = plain_spread nodes images within (λ k l. plain (get_or images k 0) (Contains-get_or images k 0 l)) x in
    (λ c. spread.1 (rw start (same.0 c)), λ i. same.1 (rw start at (spread.0 i)))

module _ (nodes : List Shape) (holds : HoldsNodes nodes) (to : List ℕ) (same : (m : ℕ) → m < 15 → get_or to m 0 ≡ m) where
  abbrev printed : List ℕ
  printed = 1 ∷ 13 ∷ 2 ∷ 3 ∷ 4 ∷ 7 ∷ 6 ∷ []

  plain : (m : ℕ) → m < 15 → leads_within (shape_at standard_shapes m) ≡ false → leads_within (shape_at nodes m) ≡ false
  plain m h e = ap leads_within (standard_at nodes holds m h) ∙ e

  all_plain : All (λ m. (m < 15) × (leads_within (shape_at nodes m) ≡ false)) printed
  all_plain = All-from_recursion (λ m. (m < 15) × (leads_within (shape_at nodes m) ≡ false)) printed ((omega arith, plain 1 (omega arith) refl), ((omega arith, plain 13 (omega arith) refl), ((omega arith, plain 2 (omega arith) refl), ((omega arith, plain 3 (omega arith) refl), ((omega arith, plain 4 (omega arith) refl), ((omega arith, plain 7 (omega arith) refl), ((omega arith, plain 6 (omega arith) refl), tt)))))))

  printed_image : (y : ℕ) → Contains printed y ↔ ((x : ℕ) × IsMember nodes 8 x × (number_in to x ≡ y))
  printed_image y = (
    λ c. let p = All-contains (λ m. (m < 15) × (leads_within (shape_at nodes m) ≡ false)) printed y all_plain c in (y, (members y).0 c, same y p.0),
    λ x.
        let c = (members x.0).1 x.1 in
        let p = All-contains (λ m. (m < 15) × (leads_within (shape_at nodes m) ≡ false)) printed x.0 all_plain c in
        subst (Contains printed) (sym (same x.0 p.0) ∙ x.2) c,
  )
    where
      members : (x : ℕ) → Contains printed x ↔ IsMember nodes 8 x
      members x =
          let t = fifteen nodes holds in
          bare_members nodes holds 8 printed (omega arith) (standard_at nodes holds 8 (omega arith))
          (λ z c. (All-contains (λ m. (m < 15) × (leads_within (shape_at nodes m) ≡ false)) printed z all_plain c).1) x

  own_image : (m : ℕ) → m < 15 → IsImage nodes (number_in to) m (shape_at standard_shapes m) (shape_at standard_shapes m)
  own_image zero h = refl
  own_image (suc zero) h = refl
  own_image (suc (suc zero)) h = refl
  own_image (suc (suc (suc zero))) h = refl
  own_image (suc (suc (suc (suc zero)))) h = refl
  own_image (suc (suc (suc (suc (suc zero))))) h = refl
  own_image (suc (suc (suc (suc (suc (suc zero)))))) h = refl
  own_image (suc (suc (suc (suc (suc (suc (suc zero))))))) h = ap (Rows 1 false) (sym (same 3 (omega arith)))
  own_image (suc (suc (suc (suc (suc (suc (suc (suc zero)))))))) h = printed_image
  own_image (suc (suc (suc (suc (suc (suc (suc (suc (suc zero))))))))) h = ap Ref (sym (same 1 (omega arith)))
  own_image (suc (suc (suc (suc (suc (suc (suc (suc (suc (suc zero)))))))))) h = ap Ref (sym (same 12 (omega arith)))
  own_image (suc (suc (suc (suc (suc (suc (suc (suc (suc (suc (suc zero))))))))))) h = ap (Rows 1 false) (sym (same 2 (omega arith)))
  own_image (suc (suc (suc (suc (suc (suc (suc (suc (suc (suc (suc (suc zero)))))))))))) h = ap (Rows 1 true) (sym (same 3 (omega arith)))
  own_image (suc (suc (suc (suc (suc (suc (suc (suc (suc (suc (suc (suc (suc zero))))))))))))) h = refl
  own_image (suc (suc (suc (suc (suc (suc (suc (suc (suc (suc (suc (suc (suc (suc zero)))))))))))))) h = ap Ref (sym (same 13 (omega arith)))
  own_image (suc (suc (suc (suc (suc (suc (suc (suc (suc (suc (suc (suc (suc (suc (suc m))))))))))))))) h = absurd (omega arith)

  once : (m : ℕ) → m < 15 → AreOnce (shape_at standard_shapes m)
  unfolding IsDistinct
  once zero h = tt
  once (suc zero) h = tt
  once (suc (suc zero)) h = tt
  once (suc (suc (suc zero))) h = tt
  once (suc (suc (suc (suc zero)))) h = tt
  once (suc (suc (suc (suc (suc zero))))) h = tt
  once (suc (suc (suc (suc (suc (suc zero)))))) h = tt
  once (suc (suc (suc (suc (suc (suc (suc zero))))))) h = tt
  once (suc (suc (suc (suc (suc (suc (suc (suc zero)))))))) h = ((refl, (refl, (refl, (refl, (refl, (refl, tt)))))), ((refl, (refl, (refl, (refl, (refl, tt))))), ((refl, (refl, (refl, (refl, tt)))), ((refl, (refl, (refl, tt))), ((refl, (refl, tt)), ((refl, tt), (tt, tt)))))))
  once (suc (suc (suc (suc (suc (suc (suc (suc (suc zero))))))))) h = tt
  once (suc (suc (suc (suc (suc (suc (suc (suc (suc (suc zero)))))))))) h = tt
  once (suc (suc (suc (suc (suc (suc (suc (suc (suc (suc (suc zero))))))))))) h = tt
  once (suc (suc (suc (suc (suc (suc (suc (suc (suc (suc (suc (suc zero)))))))))))) h = tt
  once (suc (suc (suc (suc (suc (suc (suc (suc (suc (suc (suc (suc (suc zero))))))))))))) h = tt
  once (suc (suc (suc (suc (suc (suc (suc (suc (suc (suc (suc (suc (suc (suc zero)))))))))))))) h = tt
  once (suc (suc (suc (suc (suc (suc (suc (suc (suc (suc (suc (suc (suc (suc (suc m))))))))))))))) h = absurd (omega arith)

  -- each of them is its own image
  pub standard_image : (m : ℕ) → m < 15 → IsShapeFrom nodes to m (shape_at standard_shapes m)
  standard_image m h = record {
    image = subst (λ s. IsImage nodes (number_in to) m s (shape_at standard_shapes m)) (sym (standard_unfolded nodes holds m h)) (own_image m h);
    once = once m h;
  }
