-- The elements of a row that a step takes one by one.
use Rattle.std.proofs.Common.{◌≡◌, ◌<◌, ◌≤◌, ◌+◌, ℕ, List, [], ◌∷◌, ◌++◌, length, drop, get_or, refl, ap, sym, ◌∙◌, arith}
use Rattle.std.proofs.lemmas.List.{at_drop_more}
use Rattle.a68_acts.specs.Fetching.{fetch_steps, fetch_elements, assign_steps, assign_elements}
use Rattle.a68_acts.specs.declared.step.Step.{Step}
use Rattle.a68_layout.specs.Views.{parts_in}
use Rattle.a68_layout.specs.Widths.{most_cells, cells_of, width_of}
use Rattle.a68_acts.specs.Operations.{part_in, and_field, fields_at}
use Rattle.std.specs.Prelude.{None, Some}
use Rattle.std.specs.declared.option.Option.{Option}
use Rattle.a68_modes.specs.declared.shape.Shape.{Shape}
use Rattle.a68_values.specs.Content.{Content, contents_of}

pub parts_in-contents : (vs : List Content) → parts_in (contents_of vs) ≡ vs
parts_in-contents [] = refl
parts_in-contents (v ∷ vs) = ap (λ us. v ∷ us) (parts_in-contents vs)

-- where an element has room, its cells are as many as it takes
pub whole-width : (modes : List Shape) (of width cell : ℕ) → width ≡ cells_of modes of → cell + width ≤ most_cells → width ≡ width_of modes of
unfolding cells_of
whole-width modes of width cell e room = omega (arith, e)

-- a part behind these without the field
pub no-field : (k : ℕ) (xs gone : List Content) (v : Content) → part_in k v ≡ None → fields_at k (contents_of (xs ++ v ∷ gone)) ≡ None
no-field k [] gone v e = rw e refl
no-field k (x ∷ xs) gone v e = rw (no-field k xs gone v e) (none-behind (part_in k x))
  where
    none-behind : (o : Option Content) → and_field o None ≡ None
    none-behind None = refl
    none-behind (Some w) = refl

pub one-field : (k : ℕ) (v w : Content) (gone found : List Content) → Some w ≡ part_in k v → fields_at k (contents_of gone) ≡ Some (contents_of found)
    → fields_at k (contents_of (v ∷ gone)) ≡ Some (contents_of (w ∷ found))
one-field k v w gone found e rest = rw (← e, rest) refl

-- one more cell is put in front
pub fetched-one : (modes : List Shape) (of : ℕ) (cells : List ℕ) (i d : ℕ) (steps new behind : List Step) → i < length cells
    → steps ≡ fetch_elements modes of (drop (i + 1) cells) behind → new ≡ fetch_steps modes of (get_or cells i d) steps
    → new ≡ fetch_elements modes of (drop i cells) behind
fetched-one modes of cells i d steps new behind inside made this =
    this ∙ ap (fetch_steps modes of (get_or cells i d)) made ∙ sym (at_drop_more (λ cs. fetch_elements modes of cs behind) cells i d inside)

pub assigned-one : (modes : List Shape) (of : ℕ) (cells : List ℕ) (i d : ℕ) (v : Content) (gone : List Content) (steps new behind : List Step) → i < length cells
    → steps ≡ assign_elements modes of (drop (i + 1) cells) gone behind → new ≡ assign_steps modes of (get_or cells i d) v steps
    → new ≡ assign_elements modes of (drop i cells) (v ∷ gone) behind
assigned-one modes of cells i d v gone steps new behind inside made this =
    this ∙ ap (assign_steps modes of (get_or cells i d) v) made ∙ sym (at_drop_more (λ cs. assign_elements modes of cs (v ∷ gone) behind) cells i d inside)
