-- Trees that fit what is taken of them, coercions among them.
use Rattle.std.proofs.Common.{◌≡◌, ℕ, zero, suc, ◌<◌, Bool, true, false, List, [], ◌∷◌, length, refl, sym, ◌∙◌, ap, subst, arith, None, Some}
use Rattle.std.proofs.lemmas.Bool.{false≢true, lt-ltb, ltb-true, ltb-false}
use Rattle.std.proofs.lemmas.Option.{same_Some}
use Rattle.std.specs.Option.{is_some, option_and_then, option_map_or}
use Rattle.std.specs.Prelude.{IsTrue, not, nat_lt, ◌&&◌, if◌then◌else◌}
use Rattle.std.specs.declared.option.Option.{Option}
use Rattle.a68_acts.specs.Operations.{Operation, constant, routine, tag, deref, fields_of, unite, row_up, row_up_name, widen, drop, leaves}
use Rattle.a68_code.specs.Flow.{takes}
use Rattle.a68_code.specs.Operands.{is_well_made}
use Rattle.a68_code.specs.declared.does.Does.TheVariants as does
use Rattle.a68_elab.specs.Made as made
use Rattle.a68_elab.specs.Made.{all_but_last, before_out, behind_all, behind_heap, behind_proc, behind_ref, begins_with, called, coerced, field_in, fields_at, first_bounds, first_goal, form_of, forms_of, if_first, index_units, is_by, is_collateral, is_declarer, is_for, is_from, is_heap, is_one_of, is_out, is_routine_text, is_to, is_while, isnt, items_at, kind_at, last_id, last_tree, leaf, mode_of, new_name, only, only_id, out_of, parts_at, past, printers, rowed_to, spelling_of, standard_of, tag_of, text_among, text_number, texts_before, texts_in, trees_at, wholes}
use Rattle.a68_elab.specs.Programs.{misfit}
use Rattle.a68_elab.specs.Trees.{Order, serial, Tree, Trees, operation, call, meaningless, no_trees, ◌and_tree◌, count, Steps, Specs}
use Rattle.a68_gen.specs.Fits.{Fits, AllFit, SpecsFit, StepsFit}
use Rattle.a68_gen.specs.Operands.{FitsModes, FitAll, SpecsFitModes, StepsFitModes}
use Rattle.a68_elab.specs.Runs.{if_so, is_outcome, is_row, is_there, outcome, path_leaves}
use Rattle.a68_emit.specs.Stretches.{does_of}
use Rattle.a68_layout.proofs.Shaping.{no-shape}
use Rattle.a68_modes.specs.Nodes.{shape_at, is_void}
use Rattle.a68_modes.specs.declared.coercion.Coercion.{Coercion}
use Rattle.a68_modes.specs.declared.coercion.Coercion.TheVariants as coercion
use Rattle.a68_modes.specs.declared.shape.Shape.{Shape}
use Rattle.a68_values.specs.Content.{Content}

-- ---- tests

pub first : (x y : Bool) → IsTrue (x && y) → IsTrue x
first true y e = refl
first false y e = absurd (false≢true e)

pub second : (x y : Bool) → IsTrue (x && y) → IsTrue y
second true y e = e
second false y e = absurd (false≢true e)

pub both : (x y : Bool) → IsTrue x → IsTrue y → IsTrue (x && y)
both true y p q = q
both false y p q = absurd (false≢true p)

-- what an outcome says that is there where a test holds
pub so-holds : (test outcome left : Bool) → if_so test outcome ≡ Some left → IsTrue test
so-holds true outcome left e = refl
so-holds false outcome left e = absurd (cc)

pub so-is : (test outcome left : Bool) → if_so test outcome ≡ Some left → outcome ≡ left
so-is true outcome left e = same_Some outcome left e
so-is false outcome left e = absurd (cc)

-- what is there where a test holds
pub where-so : (b : Bool) (o : Option Bool) (wanted : Bool) → (if b then o else None) ≡ Some wanted → IsTrue b × (o ≡ Some wanted)
where-so true o wanted e = (refl, e)
where-so false o wanted e = absurd (cc)

-- an outcome that is wanted
pub wanted-is : (wanted : Bool) (o : Option Bool) → IsTrue (is_outcome wanted o) → o ≡ Some wanted
wanted-is true None e = absurd (false≢true e)
wanted-is false None e = absurd (false≢true e)
wanted-is true (Some true) e = refl
wanted-is true (Some false) e = absurd (false≢true e)
wanted-is false (Some true) e = absurd (false≢true e)
wanted-is false (Some false) e = refl

pub is-wanted : (wanted : Bool) (o : Option Bool) → o ≡ Some wanted → IsTrue (is_outcome wanted o)
is-wanted true (Some true) e = refl
is-wanted false (Some false) e = refl
is-wanted true (Some false) e = absurd (false≢true (same_Some false true e))
is-wanted false (Some true) e = absurd (false≢true (sym (same_Some true false e)))
is-wanted true None e = absurd (cc)
is-wanted false None e = absurd (cc)

pub then-is : {X : Type 0} (o : Option X) (f : X → Option Bool) (left : Bool) → option_and_then f o ≡ Some left → (x : X) × (o ≡ Some x) × (f x ≡ Some left)
then-is (Some x) f left e = (x, refl, e)
then-is None f left e = absurd (cc)

-- ---- modes that are there

module _ (ms : List Shape) where
  -- a mode whose shape is that of a row is there
  pub row-there : (m : ℕ) → IsTrue (is_row (shape_at ms m)) → IsTrue (nat_lt m (length ms))
  row-there m row = go (nat_lt m (length ms)) refl
    where
      go : (b : Bool) → nat_lt m (length ms) ≡ b → IsTrue (nat_lt m (length ms))
      go true is = is
      go false is = absurd (false≢true (sym (ap (λ (s : Shape). is_row s) (no-shape ms m (ltb-false m (length ms) is))) ∙ row))

  -- a mode that has fields, or is that of a name of a structure
  pub selected-there : (m k : ℕ) → IsTrue (nat_lt k (length (fields_at ms m))) → IsTrue (nat_lt m (length ms))
  selected-there m k some = go (nat_lt m (length ms)) refl
    where
      go : (b : Bool) → nat_lt m (length ms) ≡ b → IsTrue (nat_lt m (length ms))
      go true is = is
      go false is =
          let none : length (fields_at ms m) ≡ 0 =
          ap (λ (s : Shape). length (option_map_or (λ (fields : List (ℕ × ℕ)). fields) (fields_of ms s) [])) (no-shape ms m (ltb-false m (length ms) is)) in
          let less = ltb-true k (length (fields_at ms m)) some in
          absurd (omega (arith, none, less))

-- ---- trees that fit

-- the tree fits in both ways
pub record IsFit (modes : List Shape) (texts units : ℕ) (gives : Bool) (t : Tree) : Type 0 where
  pub fits : Fits modes units gives t
  pub operands : FitsModes modes texts t

pub record AreFit (modes : List Shape) (texts units : ℕ) (gives : Bool) (ts : Trees) : Type 0 where
  pub fits : AllFit modes units gives ts
  pub operands : FitAll modes texts ts

pub record SpecsAreFit (modes : List Shape) (texts units : ℕ) (gives : Bool) (specs : Specs) : Type 0 where
  pub fits : SpecsFit modes units gives specs
  pub operands : SpecsFitModes modes texts specs

pub record StepsAreFit (modes : List Shape) (texts units : ℕ) (gives : Bool) (steps : Steps) : Type 0 where
  pub fits : StepsFit modes units gives steps
  pub operands : StepsFitModes modes texts steps

module _ (ms : List Shape) (texts units : ℕ) where
  pub fit-none : (gives : Bool) (place : ℕ) (op : Operation) (order : Order) → gives ≡ leaves ms op → takes (does_of op 0) ≡ 0 → IsTrue (is_well_made ms texts 0 (does_of op 0))
      → IsFit ms texts units gives (operation place op order no_trees)
  fit-none gives place op order l t w = record { fits = (l, t, tt); operands = (w, tt) }

  pub fit-one : (gives : Bool) (place : ℕ) (op : Operation) (order : Order) (x : Tree) → gives ≡ leaves ms op → takes (does_of op 1) ≡ 1 → IsTrue (is_well_made ms texts 0 (does_of op 1))
      → IsFit ms texts units true x → IsFit ms texts units gives (operation place op order (only x))
  fit-one gives place op order x l t w a = record { fits = (l, t, (a.fits, tt)); operands = (w, (a.operands, tt)) }

  pub fit-two : (gives : Bool) (place : ℕ) (op : Operation) (order : Order) (x y : Tree) → gives ≡ leaves ms op → takes (does_of op 2) ≡ 2 → IsTrue (is_well_made ms texts 0 (does_of op 2))
      → IsFit ms texts units true x → IsFit ms texts units true y → IsFit ms texts units gives (operation place op order (x and_tree (y and_tree no_trees)))
  fit-two gives place op order x y l t w a b = record { fits = (l, t, (a.fits, (b.fits, tt))); operands = (w, (a.operands, (b.operands, tt))) }

  -- an operation on so many values
  pub fit-all : (n : ℕ) (gives : Bool) (place : ℕ) (op : Operation) (order : Order) (ts : Trees) → count ts ≡ n → gives ≡ leaves ms op → takes (does_of op n) ≡ n
      → IsTrue (is_well_made ms texts 0 (does_of op n)) → AreFit ms texts units true ts → IsFit ms texts units gives (operation place op order ts)
  fit-all n gives place op order ts e l t w a =
      record {
        fits = (l, subst (λ k. takes (does_of op k) ≡ k) (sym e) t, a.fits);
        operands = (subst (λ k. IsTrue (is_well_made ms texts 0 (does_of op k))) (sym e) w, a.operands);
      }

  -- a misfit leaves what is asked of it
  pub misfit-fits : (place : ℕ) (wanted : Bool) → IsFit ms texts units wanted (misfit place wanted)
  misfit-fits place true = record { fits = (refl, refl, ((refl, refl, tt), tt)); operands = (refl, ((refl, tt), tt)) }
  misfit-fits place false = record { fits = (refl, refl, ((refl, refl, ((refl, refl, tt), tt)), tt)); operands = (refl, ((refl, ((refl, tt), tt)), tt)) }

  -- ---- coercions

  -- a rowing to a mode that is there
  pub rowed-fits : (wanted : Bool) (o : Option ℕ) (left : ℕ → Option Bool) (go : ℕ → Tree) → option_and_then (λ m. if is_there ms m then left m else None) o ≡ Some wanted
      → ((m : ℕ) → IsTrue (is_there ms m) → left m ≡ Some wanted → IsFit ms texts units wanted (go m)) → IsFit ms texts units wanted (option_map_or go o meaningless)
  rowed-fits wanted None left go e each = absurd (cc)
  rowed-fits wanted (Some m) left go e each = let p = where-so (is_there ms m) (left m) wanted e in each m p.0 p.1

  pub coerced-fits : (place goal mode : ℕ) (left wanted : Bool) (path : List Coercion) (t : Tree) → path_leaves ms goal mode left path ≡ Some wanted → IsFit ms texts units left t
      → IsFit ms texts units wanted (coerced ms place goal mode path t)
  coerced-fits place goal mode left wanted [] t e a = subst (λ b. IsFit ms texts units b t) (same_Some left wanted e) a
  coerced-fits place goal mode true wanted (coercion.Deref ∷ path) t e a =
      let m = behind_ref (shape_at ms mode) in
      let p = where-so (is_there ms m) (path_leaves ms goal m true path) wanted e in
      coerced-fits place goal m true wanted path _ p.1 (fit-one true place (deref m) serial t refl refl p.0 a)
  coerced-fits place goal mode true wanted (coercion.Deproc ∷ path) t e a =
      let m = behind_proc (shape_at ms mode) in
      let yields = not (is_void (shape_at ms m)) in
      coerced-fits place goal m yields wanted path (call place yields (only t)) e (record { fits = (refl, (a.fits, tt)); operands = (a.operands, tt) })
  coerced-fits place goal mode true wanted (coercion.Unite from ∷ path) t e a =
      coerced-fits place goal from true wanted path _ e (fit-one true place (unite from) serial t refl refl refl a)
  coerced-fits place goal mode true wanted (coercion.Widen ∷ path) t e a =
      coerced-fits place goal 11 true wanted path _ e (fit-one true place widen serial t refl refl refl a)
  coerced-fits place goal mode true wanted (coercion.RowUp ∷ path) t e a =
      rowed-fits wanted (rowed_to ms goal path) (λ m. path_leaves ms goal m true path) (λ m. coerced ms place goal m path (operation place (row_up m) serial (only t))) e
      (λ m there l. coerced-fits place goal m true wanted path _ l (fit-one true place (row_up m) serial t refl refl there a))
  coerced-fits place goal mode true wanted (coercion.RowUpName ∷ path) t e a =
      rowed-fits wanted (rowed_to ms goal path) (λ m. path_leaves ms goal m true path) (λ m. coerced ms place goal m path (operation place (row_up_name m) serial (only t))) e
      (λ m there l. coerced-fits place goal m true wanted path _ l (fit-one true place (row_up_name m) serial t refl refl there a))
  coerced-fits place goal mode true wanted (coercion.Drop ∷ path) t e a =
      coerced-fits place goal 0 false wanted path _ e (fit-one false place drop serial t refl refl refl a)
  coerced-fits place goal mode false wanted (c ∷ path) t e a = absurd (cc)

  -- ---- rows without parts

  pub denoted-fits : (place : ℕ) (o : Option Content) → IsTrue (is_some o) → IsFit ms texts units true (made.denoted place o)
  denoted-fits place None e = absurd (false≢true e)
  denoted-fits place (Some v) e = fit-none true place (constant v) serial refl refl refl

  pub tag-fits : (place : ℕ) (standard : Option Content) (hops slot : ℕ) → IsFit ms texts units true (leaf place (tag_of standard hops slot))
  tag-fits place (Some v) hops slot = fit-none true place (constant v) serial refl refl refl
  tag-fits place None hops slot = fit-none true place (tag hops slot) serial refl refl refl

  pub new-fits : (in_heap : Bool) (place mode : ℕ) (bounds : Trees) → IsTrue (nat_lt mode (length ms)) → AreFit ms texts units true bounds → IsFit ms texts units true (new_name in_heap place mode bounds)
  new-fits true place mode bounds p a = record { fits = (refl, refl, a.fits); operands = (p, a.operands) }
  new-fits false place mode bounds p a = record { fits = (refl, refl, a.fits); operands = (p, a.operands) }

  pub routine-fits : (place text : ℕ) (need : Option ℕ) → text < texts → IsFit ms texts units true (leaf place (routine text need))
  routine-fits place text need less = fit-none true place (routine text need) serial refl refl (lt-ltb text texts less)

  -- the instruction of an identity relation is well made
  pub negated-fits : (b : Bool) → IsTrue (is_well_made ms texts 0 (does.Same (made.negated b)))
  negated-fits true = refl
  negated-fits false = refl

  pub framed-fits : (place out slots : ℕ) (gives : Bool) (t : Tree) → IsFit ms texts units gives t → IsFit ms texts units gives (made.framed place out slots gives t)
  framed-fits place out zero gives t a = a
  framed-fits place out (suc n) gives t a = record { fits = (refl, a.fits); operands = a.operands }
