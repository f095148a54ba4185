-- Routine texts, as the program has them and as they stand in its code.
use Rattle.std.proofs.Common.{◌≡◌, ◌+◌, ℕ, zero, suc, Bool, true, false, List, [], ◌∷◌, None, Some, refl, sym, ap, ◌∙◌, subst}
use Rattle.std.proofs.lemmas.Option.{same_Some, slice_get-map}
use Rattle.std.specs.Option.{option_map}
use Rattle.std.specs.Prelude.{⊤, Ok, map, slice_get}
use Rattle.std.specs.declared.option.Option.{Option}
use Rattle.a68_acts.specs.Operations.{called, called_as}
use Rattle.a68_code.specs.declared.code.Code.{Code}
use Rattle.a68_code.specs.declared.code.RoutineEntrance.{RoutineEntrance}
use Rattle.a68_code.specs.declared.does.Does.TheVariants as does
use Rattle.a68_elab.specs.Trees.{Apart, routine_text, parallel_unit, Body, bodies, ParallelUnit, Program, texts_of, units, units_of}
use Rattle.a68_emit.specs.Stretches.{outermost, Stands, StandApart, Translates}
use Rattle.a68_values.specs.Content.{Content, plain}
use Rattle.a68_values.specs.declared.plain.Plain.TheVariants as value
use Rattle.a68_values.specs.declared.plain.Routine.{Routine}

-- the body of a routine text stands at its entrance, and Return behind it
pub record IsAt (code : Code) (body : Body) (e : RoutineEntrance) : Type 0 where
  pub yields : e.yields ≡ body.yields
  pub end : ℕ
  pub stands : Stands code outermost body.yields body.tree e.at end
  pub return : slice_get code.list end ≡ Some (record { place = body.place; does = does.Return })

-- what is found of a routine text in the program and in the code
abbrev pub Found : Code → Option Body → Option RoutineEntrance → Type 0
Found code None None = ⊤
Found code (Some body) (Some e) = IsAt code body e
Found code _ _ = ⊥

abbrev pub yields_in : List RoutineEntrance → List Bool
yields_in es = map (λ (e : RoutineEntrance). e.yields) es

abbrev pub yields_of : List Body → List Bool
yields_of bodies = map (λ (body : Body). body.yields) bodies

-- a unit of a parallel clause stands at its entrance, and Close behind it
pub record UnitAt (code : Code) (unit : ParallelUnit) (entrance : ℕ) : Type 0 where
  pub end : ℕ
  pub stands : Stands code outermost false unit.tree entrance end
  pub close : slice_get code.list end ≡ Some (record { place = unit.place; does = does.Close })

-- what is found of a unit in the program and in the code
abbrev pub FoundUnit : Code → Option ParallelUnit → Option ℕ → Type 0
FoundUnit code None None = ⊤
FoundUnit code (Some unit) (Some entrance) = UnitAt code unit entrance
FoundUnit code _ _ = ⊥

pub record TextsStand (program : Program) (code : Code) : Type 0 where
  pub alike : yields_in code.texts ≡ yields_of (texts_of program)
  pub each : (text : ℕ) → Found code (slice_get (texts_of program) text) (slice_get code.texts text)
  pub units : (number : ℕ) → FoundUnit code (slice_get (units_of program) number) (slice_get code.units number)

same_yields : (code : Code) (apart : List Apart) (es : List RoutineEntrance) (us : List ℕ) (a b : ℕ) → StandApart code apart es us a b
    → yields_in es ≡ yields_of (bodies apart)
same_yields code [] [] [] a b s = refl
same_yields code [] [] (u ∷ us) a b s = absurd s
same_yields code [] (e ∷ es) us a b s = absurd s
same_yields code (routine_text body ∷ more) [] us a b s = absurd s
same_yields code (routine_text body ∷ more) (e ∷ es) us a b s =
    ap (λ (x : RoutineEntrance). x.yields ∷ yields_in es) s.2 ∙ ap (λ (l : List Bool). body.yields ∷ l) (same_yields code more es us s.1 b s.5)
same_yields code (parallel_unit unit ∷ more) es [] a b s = absurd s
same_yields code (parallel_unit unit ∷ more) es (u ∷ us) a b s = same_yields code more es us s.1 b s.5

all_found : (code : Code) (apart : List Apart) (es : List RoutineEntrance) (us : List ℕ) (a b : ℕ) → StandApart code apart es us a b → (text : ℕ)
    → Found code (slice_get (bodies apart) text) (slice_get es text)
all_found code [] [] [] a b s text = tt
all_found code [] [] (u ∷ us) a b s text = absurd s
all_found code [] (e ∷ es) us a b s text = absurd s
all_found code (routine_text body ∷ more) [] us a b s text = absurd s
all_found code (routine_text body ∷ more) (e ∷ es) us a b s zero = record {
  yields = ap (λ (x : RoutineEntrance). x.yields) s.2;
  end = s.0;
  stands = subst (λ (x : RoutineEntrance). Stands code outermost body.yields body.tree x.at s.0) (sym s.2) s.3;
  return = s.4.0;
}
all_found code (routine_text body ∷ more) (e ∷ es) us a b s (suc text) = all_found code more es us s.1 b s.5 text
all_found code (parallel_unit unit ∷ more) es [] a b s text = absurd s
all_found code (parallel_unit unit ∷ more) es (u ∷ us) a b s text = all_found code more es us s.1 b s.5 text

units_found : (code : Code) (apart : List Apart) (es : List RoutineEntrance) (us : List ℕ) (a b : ℕ) → StandApart code apart es us a b → (number : ℕ)
    → FoundUnit code (slice_get (units apart) number) (slice_get us number)
units_found code [] [] [] a b s number = tt
units_found code [] [] (u ∷ us) a b s number = absurd s
units_found code [] (e ∷ es) us a b s number = absurd s
units_found code (routine_text body ∷ more) [] us a b s number = absurd s
units_found code (routine_text body ∷ more) (e ∷ es) us a b s number = units_found code more es us s.1 b s.5 number
units_found code (parallel_unit unit ∷ more) es [] a b s number = absurd s
units_found code (parallel_unit unit ∷ more) es (u ∷ us) a b s zero =
    record { end = s.0; stands = subst (λ (x : ℕ). Stands code outermost false unit.tree x s.0) (sym s.2) s.3; close = s.4.0 }
units_found code (parallel_unit unit ∷ more) es (u ∷ us) a b s (suc number) = units_found code more es us s.1 b s.5 number

pub texts_stand : (program : Program) (code : Code) → Translates program code → TextsStand program code
texts_stand program code t = record {
  alike = same_yields code program.apart code.texts code.units (t.end + 1) t.last t.apart;
  each = all_found code program.apart code.texts code.units (t.end + 1) t.last t.apart;
  units = units_found code program.apart code.texts code.units (t.end + 1) t.last t.apart;
}

-- ---- the routine that is called

called_so : (g : Bool) (o : Option Bool) (r q : Routine) → called_as g o r ≡ Ok q → (r ≡ q) × (o ≡ Some g)
called_so g None r q e = absurd (cc)
called_so true (Some true) r q e = (cc, refl)
called_so true (Some false) r q e = absurd (cc)
called_so false (Some true) r q e = absurd (cc)
called_so false (Some false) r q e = (cc, refl)

-- its body leaves a value just where the call gives one
called_fits : (texts : List Bool) (g : Bool) (v : Content) (q : Routine) → called texts g v ≡ Ok q → slice_get texts q.text ≡ Some g
unfolding called
called_fits texts g (plain value.Unset) q e = absurd (cc)
called_fits texts g (plain (value.Routine r)) q e =
    let x = called_so g (slice_get texts r.text) r q e in ap (λ (z : Routine). slice_get texts z.text) (sym x.0) ∙ x.1
called_fits texts g v q e = absurd (cc)

pub called_entrance : (program : Program) (code : Code) → TextsStand program code → (g : Bool) (v : Content) (q : Routine) → called (yields_of (texts_of program)) g v ≡ Ok q
    → (e : RoutineEntrance) → slice_get code.texts q.text ≡ Some e → e.yields ≡ g
called_entrance program code t g v q is e there =
    same_Some e.yields g
    (sym (slice_get-map (λ (x : RoutineEntrance). x.yields) code.texts q.text ∙ ap (option_map (λ (x : RoutineEntrance). x.yields)) there)
    ∙ ap (λ (l : List Bool). slice_get l q.text) t.alike ∙ called_fits (yields_of (texts_of program)) g v q is)
