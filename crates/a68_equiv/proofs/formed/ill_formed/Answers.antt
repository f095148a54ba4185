use Rattle.std.proofs.Common.{◌≡◌, ◌↔◌, ◌∙◌, ℕ, List, Bool, true, false, ◌<◌, length, get_or, sym, subst, arith, below_more}
use Rattle.std.specs.Prelude.{map, IsTrue}
use Rattle.a68_modes.specs.declared.shape.Shape.{Shape}
use Rattle.a68_equiv.specs.declared.steps.Inward.TheVariants.{BesidesNames, BesidesStructures}
use Rattle.a68_equiv.specs.Ways.{steps_of, Way, IsWellFormed}
use Rattle.std.proofs.lemmas.List.{length-map}
use Rattle.a68_equiv.proofs.formed.ill_formed.Goals as goal
use Rattle.a68_equiv.proofs.formed.ill_formed.Goals.{then-by_names-via-then-by_names, then-by_names-via-else-by_names+then-by_structures}

-- whether a mode leads back to itself in the two graphs
module _ (nodes : List Shape) (one two : List (List ℕ)) (m : ℕ) (back again : Bool) (is_one : one ≡ map (steps_of BesidesNames) nodes) (is_two : two ≡ map (steps_of BesidesStructures) nodes)
    (first : IsTrue back ↔ Way one m m) (second : IsTrue again ↔ Way two m m) where
  formed : back ≡ false → again ≡ false → IsWellFormed nodes m
  formed no_first no_second = record {
    names = λ w. let t : back ≡ true = first.1 (subst (λ (g : List (List ℕ)). Way g m m) (sym is_one) w) in cc;
    structures = λ w. let t : again ≡ true = second.1 (subst (λ (g : List (List ℕ)). Way g m m) (sym is_two) w) in cc;
  }

  by_names : back ≡ true → IsWellFormed nodes m → ⊥
  by_names t well = well.names (subst (λ (g : List (List ℕ)). Way g m m) is_one (first.0 t))

  by_structures : again ≡ true → IsWellFormed nodes m → ⊥
  by_structures t well = well.structures (subst (λ (g : List (List ℕ)). Way g m m) is_two (second.0 t))

pub returns : goal.returns
returns c = λ k h. c.loop-place.invariant k (omega arith)

pub loop-place-preserved : goal.loop-place-preserved
loop-place-preserved c =
    let roots = c.args.roots.now in
    below_more (λ k. IsWellFormed c.args.modes.now (get_or roots k 0)) c.loop-place.place c.loop-place.invariant
    (formed c.args.modes.now c.deref.result.now c.deref-in-loop-place.result.now (get_or roots c.loop-place.place 0) c.in_ok-by_names.by_names c.in_ok-by_structures.by_structures
    (c.deref.ensures.value ∙ c.in_ok-besides_names.ensures.rows) (c.deref-in-loop-place.ensures.value ∙ c.in_ok-besides_structures.ensures.rows) c.in_ok-by_names.ensures c.in_ok-by_structures.ensures c.if-by_names.false c.if-by_structures.false)

pub returns-then-by_names : goal.returns-then-by_names
returns-then-by_names c =
    let roots = c.args.roots.now in
    let root = get_or roots c.loop-place.place 0 in
    let one = c.deref.ensures.value ∙ c.in_ok-besides_names.ensures.rows in
    let two = c.deref-in-loop-place.ensures.value ∙ c.in_ok-besides_structures.ensures.rows in
    let back = by_names c.args.modes.now c.deref.result.now c.deref-in-loop-place.result.now root c.in_ok-by_names.by_names c.in_ok-by_structures.by_structures one two c.in_ok-by_names.ensures c.in_ok-by_structures.ensures in
    let again = by_structures c.args.modes.now c.deref.result.now c.deref-in-loop-place.result.now root c.in_ok-by_names.by_names c.in_ok-by_structures.by_structures one two c.in_ok-by_names.ensures c.in_ok-by_structures.ensures in (
      omega arith,
      elim c.then-by_names.branch [ then-by_names-via-then-by_names w ↦ back w.if-by_names.true | then-by_names-via-else-by_names+then-by_structures w ↦ again w.if-by_structures.true ],
      c.loop-place.invariant,
    )

pub comes_back-requires-clause-there : goal.comes_back-requires-clause-there
comes_back-requires-clause-there c =
    let lt : c.loop-place.place < length c.args.roots.now = omega arith in
    rw (c.deref.ensures.value, c.in_ok-besides_names.ensures.rows, length-map c.args.modes.now) (c.requires.roots c.loop-place.place 0 lt)

pub comes_back-requires-in-loop-place-clause-there : goal.comes_back-requires-in-loop-place-clause-there
comes_back-requires-in-loop-place-clause-there c =
    let lt : c.loop-place.place < length c.args.roots.now = omega arith in
    rw (c.deref-in-loop-place.ensures.value, c.in_ok-besides_structures.ensures.rows, length-map c.args.modes.now) (c.requires.roots c.loop-place.place 0 lt)

pub comes_back-requires-clause-closed : goal.comes_back-requires-clause-closed
comes_back-requires-clause-closed c = rw c.deref.ensures.value c.in_ok-besides_names.ensures.closed

pub comes_back-requires-in-loop-place-clause-closed : goal.comes_back-requires-in-loop-place-clause-closed
comes_back-requires-in-loop-place-clause-closed c = rw c.deref-in-loop-place.ensures.value c.in_ok-besides_structures.ensures.closed

pub overflow_cast-result : goal.overflow_cast-result
overflow_cast-result c = omega arith
