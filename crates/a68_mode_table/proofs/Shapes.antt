-- Among sound modes equivalent nodes have one shape, and nodes of one shape are one.
use Rattle.std.proofs.Common.{◌≡◌, ◌<◌, ◌++◌, ℕ, suc, List, [], ◌∷◌, Bool as Truth, true, false, length, get_or, refl, sym, ap, ◌∙◌, arith, subst}
use Rattle.std.specs.Prelude.{map}
use Rattle.a68_coerce.proofs.Longer.{alike_sym, alike_trans}
use Rattle.a68_declare.proofs.Imaging.{at_other, other_at, at_union, union_at, passes_none, same_count}
use Rattle.a68_declare.proofs.Words.{way_moved}
use Rattle.a68_declare.specs.Clean.{IsBare, IsNode}
use Rattle.a68_equiv.proofs.Coding.{union_made}
use Rattle.a68_equiv.proofs.Grasp.{stays}
use Rattle.a68_equiv.proofs.Growing.{old_unfolded, new_unfolded, shrinks}
use Rattle.a68_equiv.proofs.Numbers.{same_mode}
use Rattle.a68_equiv.proofs.Stepping.{row_of_map}
use Rattle.a68_equiv.specs.Classes.{IsAlready}
use Rattle.a68_equiv.specs.ModeKeys.{bare}
use Rattle.a68_equiv.specs.Related.{as_it_stands}
use Rattle.a68_equiv.specs.Unfolding.{unfolded, constructor, is_union, leads_within, IsInMode, IsModePart, Alike}
use Rattle.a68_equiv.specs.Ways.{steps_of}
use Rattle.a68_equiv.specs.declared.mode.Mode.{Mode}
use Rattle.a68_equiv.specs.declared.steps.Inward.TheVariants.{WithinUnions}
use Rattle.a68_mode_table.proofs.Alike.{alike_by, shape_of_parts}
use Rattle.a68_mode_table.specs.Growing.{AreSound}
use Rattle.a68_mode_table.specs.Simple.{IsSimple}
use Rattle.a68_modes.specs.declared.shape.Shape.{Shape}
use Rattle.a68_modes.specs.declared.shape.Shape.TheVariants.{Union, Same}
use Rattle.a68_modes.specs.Nodes.{shape_at, parts_of, ShapeIsWithin}

pub simple_other : (s : Shape) → IsSimple s → is_union s ≡ false
simple_other (Union ms) simple = absurd simple
simple_other _ simple = refl

pub simple_plain : (s : Shape) → IsSimple s → leads_within s ≡ false
simple_plain (Union ms) simple = absurd simple
simple_plain (Same m) simple = absurd simple
simple_plain _ simple = refl

pub simple_bare : (nodes : List Shape) (s : Shape) → IsSimple s → bare nodes s ≡ s
simple_bare nodes (Same m) simple = absurd simple
simple_bare nodes _ simple = refl

module _ (nodes : List Shape) (sound : AreSound nodes) where
  pub as_written : (m : ℕ) → m < length nodes → unfolded nodes m ≡ shape_at nodes m
  as_written m h = ap (shape_at nodes) (stays nodes (length nodes) m (λ t e. subst (IsBare nodes) e (sound.clean.bare m h)))

  -- nodes of one shape are one
  at_too : (a b : ℕ) → a < length nodes → b < length nodes → shape_at nodes a ≡ shape_at nodes b → (place z : ℕ) → IsInMode nodes a (unfolded nodes a) place z → IsInMode nodes b (unfolded nodes b) place z
  at_too a b ha hb e place z at = go (is_union (unfolded nodes a)) refl
    where
      both : unfolded nodes a ≡ unfolded nodes b
      both = as_written a ha ∙ e ∙ sym (as_written b hb)

      go : (u : Truth) → is_union (unfolded nodes a) ≡ u → IsInMode nodes b (unfolded nodes b) place z
      go true u =
          let i = at_union nodes a (unfolded nodes a) place z u at in
          let rows = row_of_map (steps_of WithinUnions) nodes a ha ∙ ap (steps_of WithinUnions) e ∙ sym (row_of_map (steps_of WithinUnions) nodes b hb) in
          union_at nodes b (unfolded nodes b) place z (ap is_union (sym both) ∙ u) (i.0, record { way = way_moved (map (steps_of WithinUnions) nodes) a b z rows i.1.way; last = i.1.last })
      go false u =
          other_at nodes b (unfolded nodes b) place z (ap is_union (sym both) ∙ u)
          (subst (λ s. (place < length (parts_of s)) × (get_or (parts_of s) place 0 ≡ z)) both (at_other nodes a (unfolded nodes a) place z u at))

  pub one_of_shape : (a b : ℕ) → a < length nodes → b < length nodes → shape_at nodes a ≡ shape_at nodes b → a ≡ b
  one_of_shape a b ha hb e =
      sound.clean.apart a b ha hb (alike_by nodes a b (as_written a ha ∙ e ∙ sym (as_written b hb)) (at_too a b ha hb e) (at_too b a hb ha (sym e)))

  -- a mode has one node
  pub one_node : (mode : Mode) (a b : ℕ) → IsNode nodes mode a → IsNode nodes mode b → a ≡ b
  one_node mode a b p q =
      sound.clean.apart a b p.there q.there (λ depth. alike_trans nodes depth (as_it_stands a) mode (as_it_stands b) (p.equivalent depth) (alike_sym nodes depth (as_it_stands b) mode (q.equivalent depth)))

  module _ (s : Shape) (within : ShapeIsWithin (length nodes) s) (simple : IsSimple s) where
    pub old_at : (a : ℕ) → a < length nodes → unfolded (nodes ++ s ∷ []) a ≡ shape_at nodes a
    old_at a h = old_unfolded nodes s sound.holds sound.formed within a h ∙ as_written a h

    pub new_at : unfolded (nodes ++ s ∷ []) (length nodes) ≡ s
    new_at = new_unfolded nodes s sound.holds sound.formed within ∙ simple_bare nodes s simple

    -- a node that is equivalent to a new one has its shape
    pub found : (a : ℕ) → a < length nodes → IsAlready nodes s a → shape_at nodes a ≡ s
    found a h eq = shape_of_parts (shape_at nodes a) s ua us same each
      where
        us : is_union s ≡ false
        us = simple_other s simple

        same : constructor false (shape_at nodes a) ≡ constructor false s
        same = sym (ap (constructor false) (old_at a h)) ∙ (eq 1).0 ∙ ap (constructor false) new_at

        ua : is_union (shape_at nodes a) ≡ false
        ua = sym (union_made false (shape_at nodes a)) ∙ ap is_union same ∙ union_made false s ∙ us

        each : (k : ℕ) → k < length (parts_of (shape_at nodes a)) → get_or (parts_of (shape_at nodes a)) k 0 ≡ get_or (parts_of s) k 0
        each k hk = sound.clean.apart x y hx hy (λ depth. shrinks nodes s sound.holds sound.formed within depth (as_it_stands x) (as_it_stands y) hx hy (alike depth))
          where
            x : ℕ
            x = get_or (parts_of (shape_at nodes a)) k 0

            y : ℕ
            y = get_or (parts_of s) k 0

            hx : get_or (parts_of (shape_at nodes a)) k 0 < length nodes
            hx = sound.holds.within a h k 0 hk

            ky : k < length (parts_of s)
            ky = let count = same_count (shape_at nodes a) s ua us same in omega arith

            hy : get_or (parts_of s) k 0 < length nodes
            hy = within k 0 ky

            part : IsModePart (nodes ++ s ∷ []) (as_it_stands a) k (as_it_stands (get_or (parts_of (shape_at nodes a)) k 0))
            part = record {
              at = subst (λ t. IsInMode (nodes ++ s ∷ []) a t k (get_or (parts_of (shape_at nodes a)) k 0)) (sym (old_at a h)) (other_at (nodes ++ s ∷ []) a (shape_at nodes a) k (get_or (parts_of (shape_at nodes a)) k 0) ua (hk, refl));
              flex = sym (passes_none (unfolded (nodes ++ s ∷ []) a));
            }

            alike : (depth : ℕ) → Alike (nodes ++ s ∷ []) depth (as_it_stands (get_or (parts_of (shape_at nodes a)) k 0)) (as_it_stands (get_or (parts_of s) k 0))
            alike depth =
                let q = (eq (suc depth)).1.0 k (as_it_stands (get_or (parts_of (shape_at nodes a)) k 0)) part in
                let at = at_other (nodes ++ s ∷ []) (length nodes) s k q.0.id us (subst (λ t. IsInMode (nodes ++ s ∷ []) (length nodes) t k q.0.id) new_at q.1.at) in
                let is = same_mode q.0 (as_it_stands (get_or (parts_of s) k 0)) (sym at.1) (q.1.flex ∙ passes_none (unfolded (nodes ++ s ∷ []) (length nodes))) in
                subst (Alike (nodes ++ s ∷ []) depth (as_it_stands (get_or (parts_of (shape_at nodes a)) k 0))) is q.2

    -- and a node of its shape is equivalent to it
    pub already : (a : ℕ) → a < length nodes → shape_at nodes a ≡ s → IsAlready nodes s a
    already a h e = alike_by (nodes ++ s ∷ []) a (length nodes) both forth back
      where
        us : is_union s ≡ false
        us = simple_other s simple

        a_is : unfolded (nodes ++ s ∷ []) a ≡ s
        a_is = old_at a h ∙ e

        both : unfolded (nodes ++ s ∷ []) a ≡ unfolded (nodes ++ s ∷ []) (length nodes)
        both = a_is ∙ sym new_at

        over : (m n : ℕ) → unfolded (nodes ++ s ∷ []) m ≡ s → unfolded (nodes ++ s ∷ []) n ≡ s → (place z : ℕ) → IsInMode (nodes ++ s ∷ []) m (unfolded (nodes ++ s ∷ []) m) place z → IsInMode (nodes ++ s ∷ []) n (unfolded (nodes ++ s ∷ []) n) place z
        over m n f g place z at =
            subst (λ t. IsInMode (nodes ++ s ∷ []) n t place z) (sym g)
            (other_at (nodes ++ s ∷ []) n s place z us (at_other (nodes ++ s ∷ []) m s place z us (subst (λ t. IsInMode (nodes ++ s ∷ []) m t place z) f at)))

        forth : (place z : ℕ) → IsInMode (nodes ++ s ∷ []) a (unfolded (nodes ++ s ∷ []) a) place z → IsInMode (nodes ++ s ∷ []) (length nodes) (unfolded (nodes ++ s ∷ []) (length nodes)) place z
        forth = over a (length nodes) a_is new_at

        back : (place z : ℕ) → IsInMode (nodes ++ s ∷ []) (length nodes) (unfolded (nodes ++ s ∷ []) (length nodes)) place z → IsInMode (nodes ++ s ∷ []) a (unfolded (nodes ++ s ∷ []) a) place z
        back = over (length nodes) a new_at a_is
