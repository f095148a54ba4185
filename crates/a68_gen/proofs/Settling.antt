-- Jumps that name labels, and the places of these.
use Rattle.std.proofs.Common.{◌≡◌, ◌<◌, ℕ, ◌+◌, ◌-◌, Bool, true, false, List, [], ◌∷◌, ◌++◌, refl, sym, ◌∙◌, ap, subst, arith, None, Some, nat_lt}
use Rattle.std.proofs.lemmas.Bool.{false≢true}
use Rattle.std.proofs.lemmas.Bool.Decides.{nat_tests}
use Rattle.std.proofs.lemmas.Option.{same_Some}
use Rattle.std.specs.Option.{option_map_or}
use Rattle.std.specs.Prelude.{map, nat_eq, ◌||◌, if◌then◌else◌}
use Rattle.std.specs.declared.option.Option.{Option}
use Rattle.a68_acts.specs.Operations.{Operation, constant, skip, nil, routine, tag, make, heap, bind, deref, store, apply, same, slice, display, vacuum, compose, select, unite, row_up, row_up_name, widen, drop, print, whole}
use Rattle.a68_builder.specs.Labels.{far, number_of, place_to, settled, settled_does}
use Rattle.a68_code.specs.declared.code.Instr.{Instr}
use Rattle.a68_code.specs.declared.does.Does.{Does}
use Rattle.a68_code.specs.declared.does.Does.TheVariants as does
use Rattle.a68_elab.specs.Trees.{Steps, last_step, step, exit, has_label, is_label_in}
use Rattle.a68_emit.specs.Listing.{label_places, size, step_sizes}
use Rattle.a68_emit.specs.Stretches.{does_of, place_of}

-- where steps stand, from this place on
abbrev pub step_places : Steps → (at : ℕ) → List ℕ
step_places (last_step labels tree) at = at ∷ []
step_places (step labels tree more) at = at ∷ step_places more (at + size tree)
step_places (exit labels tree more) at = at ∷ step_places more (at + size tree + 1)

-- ---- labels with their places

-- what is found among the first of two lists
pub number_front : (xs ys : List (ℕ × ℕ)) (label to : ℕ) → number_of xs label ≡ Some to → number_of (xs ++ ys) label ≡ Some to
number_front [] ys label to e = absurd (cc)
number_front (x ∷ xs) ys label to e = go (nat_eq label x.0) e (number_front xs ys label to)
  where
    go : (b : Bool) → (if b then Some x.1 else number_of xs label) ≡ Some to → (number_of xs label ≡ Some to → number_of (xs ++ ys) label ≡ Some to)
        → (if b then Some x.1 else number_of (xs ++ ys) label) ≡ Some to
    go true e f = e
    go false e f = f e

-- and what is not
pub number_past : (xs ys : List (ℕ × ℕ)) (label : ℕ) → number_of xs label ≡ None → number_of (xs ++ ys) label ≡ number_of ys label
number_past [] ys label e = refl
number_past (x ∷ xs) ys label e = go (nat_eq label x.0) e (number_past xs ys label)
  where
    go : (b : Bool) → (if b then Some x.1 else number_of xs label) ≡ None → (number_of xs label ≡ None → number_of (xs ++ ys) label ≡ number_of ys label)
        → (if b then Some x.1 else number_of (xs ++ ys) label) ≡ number_of ys label
    go true e f = absurd (cc)
    go false e f = f e

number_there : (ls : List ℕ) (at label : ℕ) → is_label_in label ls ≡ true → number_of (map (λ l. (l, at)) ls) label ≡ Some at
number_there [] at label e = absurd (false≢true e)
number_there (l ∷ ls) at label e = go (nat_eq label l) e (number_there ls at label)
  where
    rest : Option ℕ
    rest = number_of (map (λ x. (x, at)) ls) label

    go : (b : Bool) → (b || is_label_in label ls) ≡ true → (is_label_in label ls ≡ true → rest ≡ Some at) → (if b then Some at else rest) ≡ Some at
    go true e f = refl
    go false e f = f e

number_none : (ls : List ℕ) (at label : ℕ) → is_label_in label ls ≡ false → number_of (map (λ l. (l, at)) ls) label ≡ None
number_none [] at label e = refl
number_none (l ∷ ls) at label e = go (nat_eq label l) e (number_none ls at label)
  where
    rest : Option ℕ
    rest = number_of (map (λ x. (x, at)) ls) label

    go : (b : Bool) → (b || is_label_in label ls) ≡ false → (is_label_in label ls ≡ false → rest ≡ None) → (if b then Some at else rest) ≡ None
    go true e f = absurd (false≢true (sym e))
    go false e f = f e

number_rest : (ls : List ℕ) (rest : List (ℕ × ℕ)) (at label : ℕ) (later : Option ℕ) → number_of rest label ≡ later
    → number_of (map (λ l. (l, at)) ls ++ rest) label ≡ (if is_label_in label ls then Some at else later)
number_rest ls rest at label later e = go (is_label_in label ls) refl
  where
    go : (b : Bool) → is_label_in label ls ≡ b → number_of (map (λ l. (l, at)) ls ++ rest) label ≡ (if b then Some at else later)
    go true is = number_front (map (λ l. (l, at)) ls) rest label at (number_there ls at label is)
    go false is = number_past (map (λ l. (l, at)) ls) rest label (number_none ls at label is) ∙ e

-- a label of a clause has the place of the step behind it
pub number_is : (label : ℕ) (steps : Steps) (at : ℕ) → number_of (label_places steps at) label ≡ place_of label steps (step_places steps at)
number_is label (last_step ls t) at = go (is_label_in label ls) refl
  where
    go : (b : Bool) → is_label_in label ls ≡ b → number_of (map (λ l. (l, at)) ls) label ≡ (if b then Some at else None)
    go true is = number_there ls at label is
    go false is = number_none ls at label is
number_is label (step ls t more) at = number_rest ls (label_places more (at + size t)) at label _ (number_is label more (at + size t))
number_is label (exit ls t more) at = number_rest ls (label_places more (at + size t + 1)) at label _ (number_is label more (at + size t + 1))

-- the place of a label within a clause
pub record HasPlace (label : ℕ) (steps : Steps) (places : List ℕ) : Type 0 where
  pub at : ℕ
  pub is : place_of label steps places ≡ Some at

has_place : (label at p : ℕ) (b : Bool) (steps : Steps) (later : Option ℕ) → (b || has_label label steps) ≡ true → (has_label label steps ≡ true → (q : ℕ) × (later ≡ Some q))
    → (q : ℕ) × ((if b then Some at else later) ≡ Some q)
has_place label at p true steps later e f = (at, refl)
has_place label at p false steps later e f = f e

pub place_there : (label : ℕ) (steps : Steps) (at : ℕ) → has_label label steps ≡ true → (q : ℕ) × (place_of label steps (step_places steps at) ≡ Some q)
place_there label (last_step ls t) at e = (at, ap (λ (b : Bool). if b then Some at else None) e)
place_there label (step ls t more) at e = has_place label at at (is_label_in label ls) more _ e (place_there label more (at + size t))
place_there label (exit ls t more) at e = has_place label at at (is_label_in label ls) more _ e (place_there label more (at + size t + 1))

no_place : (label at : ℕ) (b : Bool) (steps : Steps) (later : Option ℕ) → (b || has_label label steps) ≡ false → (has_label label steps ≡ false → later ≡ None) → (if b then Some at else later) ≡ None
no_place label at true steps later e f = absurd (false≢true (sym e))
no_place label at false steps later e f = f e

pub place_none : (label : ℕ) (steps : Steps) (at : ℕ) → has_label label steps ≡ false → place_of label steps (step_places steps at) ≡ None
place_none label (last_step ls t) at e = ap (λ (b : Bool). if b then Some at else None) e
place_none label (step ls t more) at e = no_place label at (is_label_in label ls) more _ e (place_none label more (at + size t))
place_none label (exit ls t more) at e = no_place label at (is_label_in label ls) more _ e (place_none label more (at + size t + 1))

-- ---- places that are no labels

abbrev pub AreNear : List (ℕ × ℕ) → Type 0
AreNear [] = Unit {0}
AreNear (x ∷ xs) = (x.1 < far) × AreNear xs

near_all : (ls : List ℕ) (at : ℕ) → at < far → AreNear (map (λ l. (l, at)) ls)
near_all [] at less = tt
near_all (l ∷ ls) at less = (less, near_all ls at less)

near_both : (xs ys : List (ℕ × ℕ)) → AreNear xs → AreNear ys → AreNear (xs ++ ys)
near_both [] ys p q = q
near_both (x ∷ xs) ys p q = (p.0, near_both xs ys p.1 q)

pub near_places : (steps : Steps) (at : ℕ) → at + step_sizes steps < far → AreNear (label_places steps at)
near_places (last_step ls t) at less = near_all ls at (omega (arith, less))
near_places (step ls t more) at less =
    near_both (map (λ l. (l, at)) ls) (label_places more (at + size t)) (near_all ls at (omega (arith, less))) (near_places more (at + size t) (omega (arith, less)))
near_places (exit ls t more) at less =
    near_both (map (λ l. (l, at)) ls) (label_places more (at + size t + 1)) (near_all ls at (omega (arith, less))) (near_places more (at + size t + 1) (omega (arith, less)))

near_found : (xs : List (ℕ × ℕ)) (label to : ℕ) → AreNear xs → number_of xs label ≡ Some to → to < far
near_found [] label to near e = absurd (cc)
near_found (x ∷ xs) label to near e = go (nat_eq label x.0) e (near_found xs label to near.1)
  where
    go : (b : Bool) → (if b then Some x.1 else number_of xs label) ≡ Some to → (number_of xs label ≡ Some to → to < far) → to < far
    go true e f = subst (λ (n : ℕ). n < far) (same_Some x.1 to e) near.0
    go false e f = f e

near_is : (to : ℕ) → to < far → nat_lt to far ≡ true
near_is to less = grind (arith, nat_tests, less)

far_is_not : (label : ℕ) → nat_lt (far + label) far ≡ false
far_is_not label = grind (arith, nat_tests)

-- a jump to a label that has a place goes there
pub goes_to : (labels : List (ℕ × ℕ)) (label to : ℕ) → number_of labels label ≡ Some to → place_to labels (far + label) ≡ to
goes_to labels label to is =
    let back : far + label - far ≡ label = omega arith in
    ap (λ (b : Bool). if b then far + label else option_map_or (λ p. p) (number_of labels (far + label - far)) (far + label)) (far_is_not label)
    ∙ ap (λ (l : ℕ). option_map_or (λ p. p) (number_of labels l) (far + label)) back ∙ ap (λ (o : Option ℕ). option_map_or (λ p. p) o (far + label)) is

-- first the labels of a clause, then those about it
settled_place : (xs ys : List (ℕ × ℕ)) (to : ℕ) → AreNear xs → place_to ys (place_to xs to) ≡ place_to (xs ++ ys) to
settled_place xs ys to near = go (nat_lt to far) refl
  where
    by : (o : Option ℕ) → number_of xs (to - far) ≡ o → nat_lt to far ≡ false → place_to ys (option_map_or (λ p. p) o to) ≡ option_map_or (λ p. p) (number_of (xs ++ ys) (to - far)) to
    by (Some p) is far_it =
        ap (λ (b : Bool). if b then p else option_map_or (λ q. q) (number_of ys (p - far)) p) (near_is p (near_found xs (to - far) p near is))
        ∙ ap (λ (o : Option ℕ). option_map_or (λ q. q) o to) (sym (number_front xs ys (to - far) p is))
    by None is far_it =
        ap (λ (b : Bool). if b then to else option_map_or (λ q. q) (number_of ys (to - far)) to) far_it
        ∙ ap (λ (o : Option ℕ). option_map_or (λ q. q) o to) (sym (number_past xs ys (to - far) is))

    go : (b : Bool) → nat_lt to far ≡ b
        → place_to ys (if b then to else option_map_or (λ p. p) (number_of xs (to - far)) to) ≡ (if b then to else option_map_or (λ p. p) (number_of (xs ++ ys) (to - far)) to)
    go true e = ap (λ (b : Bool). if b then to else option_map_or (λ p. p) (number_of ys (to - far)) to) e
    go false e = by (number_of xs (to - far)) refl e

pub settled_twice : (xs ys : List (ℕ × ℕ)) (i : Instr) → AreNear xs → settled ys (settled xs i) ≡ settled (xs ++ ys) i
settled_twice xs ys i near = ap (λ (d : Does). record { place = i.place; does = d }) (go i.does)
  where
    go : (d : Does) → settled_does ys (settled_does xs d) ≡ settled_does (xs ++ ys) d
    go (does.Goto to frames height gives) = ap (λ (n : ℕ). does.Goto n frames height gives) (settled_place xs ys to near)
    go _ = refl

-- without labels nothing changes
pub settled_none : (i : Instr) → settled [] i ≡ i
settled_none i = ap (λ (d : Does). record { place = i.place; does = d }) (go i.does)
  where
    same_both : (to : ℕ) (b : Bool) → (if b then to else to) ≡ to
    same_both to true = refl
    same_both to false = refl

    go : (d : Does) → settled_does [] d ≡ d
    go (does.Goto to frames height gives) = ap (λ (n : ℕ). does.Goto n frames height gives) (same_both to (nat_lt to far))
    go _ = refl

-- no operation is a jump
pub unsettled : (labels : List (ℕ × ℕ)) (op : Operation) (n : ℕ) → settled_does labels (does_of op n) ≡ does_of op n
unsettled labels (constant v) n = refl
unsettled labels (skip mode) n = refl
unsettled labels nil n = refl
unsettled labels (routine text distance) n = refl
unsettled labels (tag hops slot) n = refl
unsettled labels (make mode bounds) n = refl
unsettled labels (heap mode bounds) n = refl
unsettled labels (bind slot) n = refl
unsettled labels (deref mode) n = refl
unsettled labels (store mode) n = refl
unsettled labels (apply row) n = refl
unsettled labels (same negated) n = refl
unsettled labels (slice forms) n = refl
unsettled labels (display count mode) n = refl
unsettled labels (vacuum mode) n = refl
unsettled labels (compose count) n = refl
unsettled labels (select mode field) n = refl
unsettled labels (unite mode) n = refl
unsettled labels (row_up mode) n = refl
unsettled labels (row_up_name mode) n = refl
unsettled labels widen n = refl
unsettled labels drop n = refl
unsettled labels print n = refl
unsettled labels whole n = refl
