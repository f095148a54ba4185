-- The units that a serial clause may yield, one part after another.
use Rattle.std.proofs.Common.{◌≡◌, ◌<◌, ◌+◌, ◌++◌, ◌||◌, [], ◌∷◌, List, ℕ, Bool, true, false, length, drop, refl, sym, ap, ◌∙◌, append_assoc, if◌then◌else◌}
use Rattle.std.proofs.lemmas.List.{at_drop_more}
use Rattle.std.specs.Prelude.{slice_index_or}
use Rattle.a68_tree.specs.Trees.{Built}
use Rattle.a68_yields.specs.Leaves.{endings, ends, yield_at}
use Rattle.a68_yields.specs.Yields.{any_unknown, is_unknown}
use Rattle.a68_yields.specs.declared.yielding.Yielding.{Yielding}

module _ (tree : Built) (parts : List ℕ) (i : ℕ) (low : i < length parts) where
  abbrev this : ℕ
  this = slice_index_or parts i 0

  abbrev rest : List ℕ
  rest = endings tree (drop (i + 1) parts)

  next : endings tree (drop i parts) ≡ (if ends tree (drop (i + 1) parts) then this ∷ rest else rest)
  next = at_drop_more (endings tree) parts i 0 low

  -- a part that ends it is one of them
  pub ending_taken : (items new whole : List ℕ) → ends tree (drop (i + 1) parts) ≡ true → new ≡ items ++ this ∷ [] → items ++ endings tree (drop i parts) ≡ whole → new ++ rest ≡ whole
  ending_taken items new whole e is before =
      ap (λ xs. xs ++ rest) is ∙ append_assoc items (this ∷ []) rest
      ∙ ap (λ xs. items ++ xs) (sym (next ∙ ap (λ (b : Bool). if b then this ∷ rest else rest) e)) ∙ before

  -- another one is not
  pub ending_passed : (items new whole : List ℕ) → ends tree (drop (i + 1) parts) ≡ false → new ≡ items → items ++ endings tree (drop i parts) ≡ whole → new ++ rest ≡ whole
  ending_passed items new whole e is before =
      ap (λ xs. xs ++ rest) is ∙ ap (λ xs. items ++ xs) (sym (next ∙ ap (λ (b : Bool). if b then this ∷ rest else rest) e)) ∙ before

  -- where it is none of them, or what it yields is known, the others decide
  module _ (ys : List Yielding) (whole : Bool) (before : any_unknown ys (endings tree (drop i parts)) ≡ whole) where
    pub none_ends : ends tree (drop (i + 1) parts) ≡ false → any_unknown ys rest ≡ whole
    none_ends e = sym (ap (any_unknown ys) (next ∙ ap (λ (b : Bool). if b then this ∷ rest else rest) e)) ∙ before

    pub one_known : is_unknown (yield_at ys this) ≡ false → any_unknown ys rest ≡ whole
    one_known e = sym (ap (any_unknown ys) next ∙ by (ends tree (drop (i + 1) parts))) ∙ before
      where
        by : (b : Bool) → any_unknown ys (if b then this ∷ rest else rest) ≡ any_unknown ys rest
        by true = ap (λ (x : Bool). x || any_unknown ys rest) e
        by false = refl
