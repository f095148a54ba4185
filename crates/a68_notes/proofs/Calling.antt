-- What is found where nothing is asked, step by step.
use Rattle.std.proofs.Common.{◌≡◌, ◌<◌, ◌-◌, ◌++◌, ◌∙◌, ℕ, zero, suc, Bool, true, false, List, [], ◌∷◌, refl, sym, ap, arith, Option, Some, None}
use Rattle.std.specs.Prelude.{if◌then◌else◌}
use Rattle.std.specs.Option.{option_map_or}
use Rattle.std.proofs.lemmas.Bool.{false≢true}
use Rattle.std.proofs.lemmas.List.{append-nil, append_assoc}
use Rattle.a68_modes.specs.Nodes.{shape_at}
use Rattle.a68_modes.specs.declared.coercion.Coercion.{Coercion}
use Rattle.a68_modes.specs.declared.shape.Shape.{Shape}
use Rattle.a68_notes.specs.Voiding.{dropping, is_proc_behind, name_in, next_of, voiding}
use Rattle.a68_refusals.specs.Jumps.{takes_none}

less_one : (n : ℕ) → 0 < n → n ≡ suc (n - 1)
less_one n some = omega (arith, some)

-- one name more
pub behind_name : (nodes : List Shape) (n m to : ℕ) → 0 < n → name_in (shape_at nodes m) ≡ Some to → is_proc_behind n nodes m ≡ is_proc_behind (n - 1) nodes to
behind_name nodes n m to some e =
    ap (λ k. is_proc_behind k nodes m) (less_one n some) ∙ ap (λ o. option_map_or (is_proc_behind (n - 1) nodes) o (takes_none (shape_at nodes m))) e

-- no name more
pub behind_none : (nodes : List Shape) (n m : ℕ) → 0 < n → name_in (shape_at nodes m) ≡ None → is_proc_behind n nodes m ≡ takes_none (shape_at nodes m)
behind_none nodes n m some e =
    ap (λ k. is_proc_behind k nodes m) (less_one n some) ∙ ap (λ o. option_map_or (is_proc_behind (n - 1) nodes) o (takes_none (shape_at nodes m))) e

-- none left
pub behind_zero : (nodes : List Shape) (n m : ℕ) → n ≡ 0 → is_proc_behind n nodes m ≡ false
behind_zero nodes n m e = ap (λ k. is_proc_behind k nodes m) e

-- a procedure stands behind, so there is room for a coercion
pub some_left : (nodes : List Shape) (n m : ℕ) → is_proc_behind n nodes m ≡ true → 0 < n
some_left nodes zero m e = absurd (false≢true e)
some_left nodes (suc n) m e = omega arith

open_up : (nodes : List Shape) (n m : ℕ) (b : Bool) → b ≡ true
    → (if b then option_map_or (λ (step : Coercion × ℕ). step.0 ∷ voiding n nodes step.1) (next_of (shape_at nodes m)) [] else dropping nodes m)
    ≡ option_map_or (λ (step : Coercion × ℕ). step.0 ∷ voiding n nodes step.1) (next_of (shape_at nodes m)) []
open_up nodes n m true e = refl
open_up nodes n m false e = absurd (false≢true e)

voided_by : (nodes : List Shape) (n m : ℕ) (o : Option (Coercion × ℕ)) → is_proc_behind n nodes m ≡ true → next_of (shape_at nodes m) ≡ o
    → voiding n nodes m ≡ option_map_or (λ (step : Coercion × ℕ). step.0 ∷ voiding (n - 1) nodes step.1) o []
voided_by nodes zero m o e next = absurd (false≢true e)
voided_by nodes (suc n) m o e next =
    open_up nodes n m (is_proc_behind (suc n) nodes m) e ∙ ap (λ x. option_map_or (λ (step : Coercion × ℕ). step.0 ∷ voiding n nodes step.1) x []) next
    ∙ ap (λ k. option_map_or (λ (step : Coercion × ℕ). step.0 ∷ voiding k nodes step.1) o []) (same n)
  where
    same : (n : ℕ) → n ≡ suc n - 1
    same n = omega arith

-- one coercion more
pub voided_on : (nodes : List Shape) (n m to : ℕ) (c : Coercion) (done all : List Coercion) → is_proc_behind n nodes m ≡ true → next_of (shape_at nodes m) ≡ Some (c, to)
    → done ++ voiding n nodes m ≡ all → (done ++ c ∷ []) ++ voiding (n - 1) nodes to ≡ all
voided_on nodes n m to c done all e next is =
    append_assoc done (c ∷ []) (voiding (n - 1) nodes to) ∙ sym (ap (λ x. done ++ x) (voided_by nodes n m (Some (c, to)) e next)) ∙ is

-- none more, which does not come
pub voided_none : (nodes : List Shape) (n m : ℕ) (done all : List Coercion) → is_proc_behind n nodes m ≡ true → next_of (shape_at nodes m) ≡ None → done ++ voiding n nodes m ≡ all → done ≡ all
voided_none nodes n m done all e next is = sym (append-nil done) ∙ sym (ap (λ x. done ++ x) (voided_by nodes n m None e next)) ∙ is

-- what is left is dropped
pub voided_end : (nodes : List Shape) (n m : ℕ) (done all : List Coercion) → is_proc_behind n nodes m ≡ false → done ++ voiding n nodes m ≡ all → done ++ dropping nodes m ≡ all
voided_end nodes n m done all e is = sym (ap (λ x. done ++ x) (dropped n e)) ∙ is
  where
    by_test : (n : ℕ) (b : Bool) → b ≡ false
        → (if b then option_map_or (λ (step : Coercion × ℕ). step.0 ∷ voiding n nodes step.1) (next_of (shape_at nodes m)) [] else dropping nodes m) ≡ dropping nodes m
    by_test n true e = absurd (false≢true (sym e))
    by_test n false e = refl

    dropped : (n : ℕ) → is_proc_behind n nodes m ≡ false → voiding n nodes m ≡ dropping nodes m
    dropped zero e = refl
    dropped (suc n) e = by_test n (is_proc_behind (suc n) nodes m) e
