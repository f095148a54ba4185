-- What holds of the modes of declarers as they are declared.
use Rattle.std.proofs.Common.{◌≡◌, ◌<◌, ◌≤◌, ◌^◌, ◌-◌, ℕ, zero, suc, List, Bool, true, false, length, refl, sym, ap, ◌∙◌, arith, subst, ⊎_elim}
use Rattle.std.specs.Prelude.{nat_le, nat_lt, if◌then◌else◌}
use Rattle.std.proofs.lemmas.Bool.Decides.{nat_tests}
use Rattle.a68_declare.proofs.Cleaning.{blank_past}
use Rattle.a68_declare.proofs.Standing.{standard_at}
use Rattle.a68_declare.specs.Numbering.{AreFull}
use Rattle.a68_declarers.specs.declared.form.DeclarerForm.{DeclarerForm}
use Rattle.a68_declarers.specs.declared.form.DeclarerForm.TheVariants as forms
use Rattle.a68_declarers.specs.Declarers.{form_at, IsDeclarerAt}
use Rattle.a68_declarers.specs.Modes.{ModesAreDeclared, AreOrdered}
use Rattle.a68_declarers.specs.Shapes.{dims_of, IsShapeOf}
use Rattle.a68_equiv.proofs.Grasp.{stays}
use Rattle.a68_equiv.specs.Dimensions.{HasDimensions, HaveDimensions}
use Rattle.a68_equiv.specs.Unfolding.{unfolded, is_union}
use Rattle.a68_modes.specs.declared.shape.Shape.{Shape}
use Rattle.a68_modes.specs.declared.shape.Shape.TheVariants.{Blank}
use Rattle.a68_modes.specs.Nodes.{shape_at, standard_shapes, HoldsNodes}
use Rattle.a68_ranges.proofs.Taking.{below_or}
use Rattle.a68_ranges.specs.Nodes.{parts_at}
use Rattle.a68_tree.specs.Trees.{Built}

dims_are : (parts : List ℕ) → (0 < dims_of parts) × (dims_of parts < 2 ^ 32)
dims_are parts = first (nat_le (length parts) 1) refl
  where
    second : (b : Bool) → nat_lt 4294967295 (length parts) ≡ b → 1 < length parts
        → (0 < (if b then 4294967295 else length parts - 1)) × ((if b then 4294967295 else length parts - 1) < 2 ^ 32)
    second true e h = (omega arith, omega arith)
    second false e h = let l : length parts ≤ 4294967295 = grind (arith, nat_tests, e) in (omega arith, omega arith)

    first : (b : Bool) → nat_le (length parts) 1 ≡ b
        → (0 < (if b then 1 else (if nat_lt 4294967295 (length parts) then 4294967295 else length parts - 1)))
        × ((if b then 1 else (if nat_lt 4294967295 (length parts) then 4294967295 else length parts - 1)) < 2 ^ 32)
    first true e = (omega arith, omega arith)
    first false e = second (nat_lt 4294967295 (length parts)) refl (let l : 1 < length parts = grind (arith, nat_tests, e) in l)

shape_dims : (tree : Built) (number : ℕ → Bool → ℕ) (d : ℕ) (fixed : Bool) (form : DeclarerForm) (shape : Shape) → IsShapeOf tree number d fixed form shape → HasDimensions shape
shape_dims tree number d fixed (forms.Standard m n) shape is = rw is tt
shape_dims tree number d fixed forms.Name shape is = rw is tt
shape_dims tree number d fixed (forms.Row flex) shape is = rw is (dims_are (parts_at tree d))
shape_dims tree number d fixed forms.Structure shape is = rw is tt
shape_dims tree number d fixed forms.Union shape is = rw is tt
shape_dims tree number d fixed forms.Procedure shape is = rw is tt
shape_dims tree number d fixed forms.Word shape is = rw is.2 tt

shape_full : (tree : Built) (number : ℕ → Bool → ℕ) (d : ℕ) (fixed : Bool) (form : DeclarerForm) (shape : Shape) → IsShapeOf tree number d fixed form shape → shape ≡ Blank → ⊥
shape_full tree number d fixed (forms.Standard m n) shape is e = let f = sym is ∙ e in cc
shape_full tree number d fixed forms.Name shape is e = let f = sym is ∙ e in cc
shape_full tree number d fixed (forms.Row flex) shape is e = let f = sym is ∙ e in cc
shape_full tree number d fixed forms.Structure shape is e = let f = sym is ∙ e in cc
shape_full tree number d fixed forms.Union shape is e = let f = sym is ∙ e in cc
shape_full tree number d fixed forms.Procedure shape is e = let f = sym is ∙ e in cc
shape_full tree number d fixed forms.Word shape is e = let f = sym is.2 ∙ e in cc

standard_dims : (m : ℕ) → m < 15 → HasDimensions (shape_at standard_shapes m)
standard_dims zero h = tt
standard_dims (suc zero) h = tt
standard_dims (suc (suc zero)) h = tt
standard_dims (suc (suc (suc zero))) h = tt
standard_dims (suc (suc (suc (suc zero)))) h = tt
standard_dims (suc (suc (suc (suc (suc zero))))) h = tt
standard_dims (suc (suc (suc (suc (suc (suc zero)))))) h = tt
standard_dims (suc (suc (suc (suc (suc (suc (suc zero))))))) h = (omega arith, omega arith)
standard_dims (suc (suc (suc (suc (suc (suc (suc (suc zero)))))))) h = tt
standard_dims (suc (suc (suc (suc (suc (suc (suc (suc (suc zero))))))))) h = tt
standard_dims (suc (suc (suc (suc (suc (suc (suc (suc (suc (suc zero)))))))))) h = tt
standard_dims (suc (suc (suc (suc (suc (suc (suc (suc (suc (suc (suc zero))))))))))) h = (omega arith, omega arith)
standard_dims (suc (suc (suc (suc (suc (suc (suc (suc (suc (suc (suc (suc zero)))))))))))) h = (omega arith, omega arith)
standard_dims (suc (suc (suc (suc (suc (suc (suc (suc (suc (suc (suc (suc (suc zero))))))))))))) h = tt
standard_dims (suc (suc (suc (suc (suc (suc (suc (suc (suc (suc (suc (suc (suc (suc zero)))))))))))))) h = tt
standard_dims (suc (suc (suc (suc (suc (suc (suc (suc (suc (suc (suc (suc (suc (suc (suc m))))))))))))))) h = absurd (omega arith)

standard_full : (m : ℕ) → m < 15 → shape_at standard_shapes m ≡ Blank → ⊥
standard_full zero h e = cc
standard_full (suc zero) h e = cc
standard_full (suc (suc zero)) h e = cc
standard_full (suc (suc (suc zero))) h e = cc
standard_full (suc (suc (suc (suc zero)))) h e = cc
standard_full (suc (suc (suc (suc (suc zero))))) h e = cc
standard_full (suc (suc (suc (suc (suc (suc zero)))))) h e = cc
standard_full (suc (suc (suc (suc (suc (suc (suc zero))))))) h e = cc
standard_full (suc (suc (suc (suc (suc (suc (suc (suc zero)))))))) h e = cc
standard_full (suc (suc (suc (suc (suc (suc (suc (suc (suc zero))))))))) h e = cc
standard_full (suc (suc (suc (suc (suc (suc (suc (suc (suc (suc zero)))))))))) h e = cc
standard_full (suc (suc (suc (suc (suc (suc (suc (suc (suc (suc (suc zero))))))))))) h e = cc
standard_full (suc (suc (suc (suc (suc (suc (suc (suc (suc (suc (suc (suc zero)))))))))))) h e = cc
standard_full (suc (suc (suc (suc (suc (suc (suc (suc (suc (suc (suc (suc (suc zero))))))))))))) h e = cc
standard_full (suc (suc (suc (suc (suc (suc (suc (suc (suc (suc (suc (suc (suc (suc zero)))))))))))))) h e = cc
standard_full (suc (suc (suc (suc (suc (suc (suc (suc (suc (suc (suc (suc (suc (suc (suc m))))))))))))))) h e = omega arith

module _ (tree : Built) (nodes : List Shape) (number : ℕ → Bool → ℕ) (holds : HoldsNodes nodes) (declared : ModesAreDeclared tree nodes number) where
  pub raw_dims : AreOrdered tree nodes number → HaveDimensions nodes
  raw_dims ordered m = ⊎_elim
      (λ low. subst HasDimensions (sym (standard_at nodes holds m low)) (standard_dims m low))
      (λ high. ⊎_elim
      (λ less.
      let o = ordered.onto m high less in
      subst (λ k. HasDimensions (shape_at nodes k)) o.3 (shape_dims tree number o.0 o.1 (form_at tree o.0) (shape_at nodes (number o.0 o.1)) (declared.shapes o.0 o.1 o.2)))
      (λ past. subst HasDimensions (sym (blank_past nodes m past)) tt)
      (below_or m (length nodes)))
      (below_or m 15)

  pub raw_full : AreOrdered tree nodes number → AreFull nodes
  raw_full ordered m less e = ⊎_elim
      (λ low. standard_full m low (sym (standard_at nodes holds m low) ∙ e))
      (λ high.
      let o = ordered.onto m high less in
      shape_full tree number o.0 o.1 (form_at tree o.0) (shape_at nodes (number o.0 o.1)) (declared.shapes o.0 o.1 o.2) (ap (shape_at nodes) o.3 ∙ e))
      (below_or m 15)

pub united_is : (tree : Built) (nodes : List Shape) (number : ℕ → Bool → ℕ) (d : ℕ) → ModesAreDeclared tree nodes number → IsDeclarerAt tree d → form_at tree d ≡ forms.Union → is_union (unfolded nodes (number d false)) ≡ true
united_is tree nodes number d declared is form =
    let shape : IsShapeOf tree number d false forms.Union (shape_at nodes (number d false)) = subst (λ f. IsShapeOf tree number d false f (shape_at nodes (number d false))) form (declared.shapes d false is) in
    ap is_union (ap (shape_at nodes) (stays nodes (length nodes) (number d false) (λ t e. let f = sym shape ∙ e in cc)) ∙ shape)
