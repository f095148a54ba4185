-- A table, where a mode joins it or is there.
use Rattle.std.proofs.Common.{◌≡◌, ◌<◌, ◌++◌, ℕ, List, [], ◌∷◌, Bool as Truth, true, false, nat_eq, length, sym, arith, subst, inl, inr}
use Rattle.std.specs.Prelude.{if◌then◌else◌}
use Rattle.std.proofs.lemmas.Bool.Decides.{nat_tests}
use Rattle.a68_declare.specs.Clean.{AreFixed, IsNode}
use Rattle.a68_equiv.specs.Classes.{AreKept, Classified, IsNodeOf}
use Rattle.a68_equiv.specs.Dimensions.{HasDimensions}
use Rattle.a68_equiv.specs.Related.{without_flex}
use Rattle.a68_mode_table.proofs.Joining.{joined_fixed, joined_sound}
use Rattle.a68_mode_table.proofs.Shapes.{already, found}
use Rattle.a68_mode_table.specs.Growing.{AreSound, IsInterned, an_old_one, a_new_one}
use Rattle.a68_mode_table.specs.Simple.{IsSimple}
use Rattle.a68_mode_table.specs.Table.{IsTable}
use Rattle.a68_modes.specs.declared.shape.Shape.{Shape}
use Rattle.a68_modes.specs.Nodes.{shape_at, ShapeIsWithin, HoldsNodes}

module _ (nodes : List Shape) (classes : Classified) (fixed : List ℕ) (table : IsTable nodes classes fixed) (s : Shape) (within : ShapeIsWithin (length nodes) s) (simple : IsSimple s) (after : List Shape) (id : ℕ) (is : IsNodeOf nodes after s id) where
  -- the node of a shape has it
  pub interned : IsInterned nodes s after id
  interned = go is
    where
      go : IsNodeOf nodes after s id → IsInterned nodes s after id
      go (inl old) = an_old_one old.there (found nodes table.sound s within simple id old.there old.equivalent) old.unchanged
      go (inr new) = a_new_one (λ a h e. new.none a h (already nodes table.sound s within simple a h e)) new.added new.last

  -- and where it joins, the table has one mode more
  pub filed : HasDimensions s → (twin : ℕ) → IsNode (nodes ++ s ∷ []) (without_flex (length nodes)) twin → HoldsNodes after → (now : Classified) → AreKept after now
      → IsTable after now (if nat_eq id (length nodes) then fixed ++ twin ∷ [] else fixed)
  filed dims twin twin_is holds now kept = go is
    where
      go : IsNodeOf nodes after s id → IsTable after now (if nat_eq id (length nodes) then fixed ++ twin ∷ [] else fixed)
      go (inl old) =
          let lt = old.there in
          let e : nat_eq id (length nodes) ≡ false = grind (arith, nat_tests) in
          subst (λ (b : Truth). IsTable after now (if b then fixed ++ twin ∷ [] else fixed)) (sym e)
          (record { sound = subst AreSound (sym old.unchanged) table.sound; kept = kept; fixed_are = subst (λ xs. AreFixed xs fixed) (sym old.unchanged) table.fixed_are })
      go (inr new) =
          let last = new.last in
          let e : nat_eq id (length nodes) ≡ true = grind (arith, nat_tests) in
          let none : (a : ℕ) → a < length nodes → shape_at nodes a ≡ s → ⊥ = λ a h same. new.none a h (already nodes table.sound s within simple a h same) in
          let held = subst HoldsNodes new.added holds in
          subst (λ (b : Truth). IsTable after now (if b then fixed ++ twin ∷ [] else fixed)) (sym e) (record {
            sound = subst AreSound (sym new.added) (joined_sound nodes table.sound s within simple dims twin twin_is held none);
            kept = kept;
            fixed_are = subst (λ xs. AreFixed xs (fixed ++ twin ∷ [])) (sym new.added) (joined_fixed nodes table.sound s within simple dims twin twin_is held none fixed table.fixed_are);
          })
