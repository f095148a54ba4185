-- Translated code is valid.
use Rattle.std.proofs.Common.{◌≡◌, ◌<◌, ◌⊎◌, ◌+◌, ℕ, zero, suc, arith, Bool, true, false, IsTrue, List, [], ◌∷◌, length, Some, slice_get, refl, sym, ap, ◌∙◌, subst, inl, inr, ⊎_elim}
use Rattle.std.proofs.lemmas.Bool.{false≢true}
use Rattle.std.proofs.lemmas.List.Elements.{Contains-append_cases}
use Rattle.std.proofs.lemmas.Option.{same_Some}
use Rattle.std.specs.Bool.{beq}
use Rattle.std.specs.Prelude.{⊤, if◌then◌else◌}
use Rattle.std.specs.List.{Contains}
use Rattle.std.specs.Option.{option_map}
use Rattle.std.specs.declared.option.Option.{Option}
use Rattle.a68_code.proofs.Reading.{does_at_within}
use Rattle.a68_code.proofs.Ways.{way_of_jump, way_to}
use Rattle.a68_code.specs.Flow.{does_at, takes, entrances, entrances_in, entrance_if, Reaches, MayMeet}
use Rattle.a68_code.specs.Flow as flow
use Rattle.a68_code.specs.Flow.Reaches.{begins, goes_on, lands}
use Rattle.a68_code.specs.Operands.{is_well_made}
use Rattle.a68_code.specs.Order.{IsInOrder}
use Rattle.a68_code.specs.Valid.{IsValid}
use Rattle.a68_code.specs.Walk.{ways}
use Rattle.a68_code.specs.declared.code.Code.{Code}
use Rattle.a68_code.specs.declared.code.Instr.{Instr}
use Rattle.a68_code.specs.declared.code.RoutineEntrance.{RoutineEntrance}
use Rattle.a68_code.specs.declared.does.Does.{Does}
use Rattle.a68_code.specs.declared.does.Does.TheVariants as does
use Rattle.a68_code.specs.declared.owner.Owner.{Owner}
use Rattle.a68_code.specs.declared.owner.Owner.TheVariants as owner
use Rattle.a68_elab.specs.Trees.{Tree, Apart, routine_text, parallel_unit, Program}
use Rattle.a68_emit.proofs.Entering.{IsUnit}
use Rattle.a68_gen.proofs.Flowing.{Flows, flows, rests_first, bit_is, no_fork, none, no_way, only}
use Rattle.a68_gen.proofs.Heights.{At, HeightsOf, Piece, bit, both, nothing, nothing_more, one, piece, starts}
use Rattle.a68_gen.specs.Operands.{FitsModes, ApartFitsModes}
use Rattle.a68_emit.specs.Stretches.{Has, outermost, Stands, StandApart, Translates}

-- ---- what stands apart

-- the height at each place of a tree that stands over no values, and of the end behind it
abbrev Within : (code : Code) (gives : Bool) (tree : Tree) (a m : ℕ) → Stands code outermost gives tree a m → ℕ → ℕ → Type 0
Within code gives tree a m s k h = HeightsOf code outermost gives tree a m s 0 k h ⊎ At m (0 + bit gives) k h

-- the height at each place of what stands apart
abbrev AllApart : (code : Code) (xs : List Apart) (es : List RoutineEntrance) (us : List ℕ) (a b : ℕ) → StandApart code xs es us a b → ℕ → ℕ → Type 0
AllApart code [] [] [] a b s k h = ⊥
AllApart code (routine_text body ∷ more) (e ∷ es) us a b s k h = Within code body.yields body.tree a s.0 s.3 k h ⊎ AllApart code more es us s.1 b s.5 k h
AllApart code (parallel_unit unit ∷ more) es (u ∷ us) a b s k h = Within code false unit.tree a s.0 s.3 k h ⊎ AllApart code more es us s.1 b s.5 k h
AllApart code _ _ _ a b s k h = ⊥

-- those of an owner: of the routine texts whose bodies leave a value, or leave none, and of units
abbrev SomeApart : (whose : Owner) (code : Code) (xs : List Apart) (es : List RoutineEntrance) (us : List ℕ) (a b : ℕ) → StandApart code xs es us a b → ℕ → ℕ → Type 0
SomeApart whose code [] [] [] a b s k h = ⊥
SomeApart whose code (routine_text body ∷ more) (e ∷ es) us a b s k h =
    ((owner.Texts body.yields ≡ whose) × Within code body.yields body.tree a s.0 s.3 k h) ⊎ SomeApart whose code more es us s.1 b s.5 k h
SomeApart whose code (parallel_unit unit ∷ more) es (u ∷ us) a b s k h = ((owner.Units ≡ whose) × Within code false unit.tree a s.0 s.3 k h) ⊎ SomeApart whose code more es us s.1 b s.5 k h
SomeApart whose code _ _ _ a b s k h = ⊥

within_piece : (code : Code) (gives : Bool) (tree : Tree) (a m n : ℕ) (s : Stands code outermost gives tree a m) → m + 1 ≡ n → Piece a n (Within code gives tree a m s)
within_piece code gives tree a m n s e = both _ _ _ _ _ (piece code outermost gives tree a m s 0) (one m n (0 + bit gives) e)

apart_piece : (code : Code) (xs : List Apart) (es : List RoutineEntrance) (us : List ℕ) (a b : ℕ) (s : StandApart code xs es us a b) → Piece a b (AllApart code xs es us a b s)
apart_piece code [] [] [] a b s = nothing a b s
apart_piece code [] [] (u ∷ us) a b s = absurd s
apart_piece code [] (e ∷ es) us a b s = absurd s
apart_piece code (routine_text body ∷ more) [] us a b s = absurd s
apart_piece code (routine_text body ∷ more) (e ∷ es) us a b s =
    both _ _ _ _ _ (within_piece code body.yields body.tree a s.0 s.1 s.3 s.4.1) (apart_piece code more es us s.1 b s.5)
apart_piece code (parallel_unit unit ∷ more) es [] a b s = absurd s
apart_piece code (parallel_unit unit ∷ more) es (u ∷ us) a b s =
    both _ _ _ _ _ (within_piece code false unit.tree a s.0 s.1 s.3 s.4.1) (apart_piece code more es us s.1 b s.5)

of_all : (whose : Owner) (code : Code) (xs : List Apart) (es : List RoutineEntrance) (us : List ℕ) (a b : ℕ) (s : StandApart code xs es us a b) (k h : ℕ)
    → SomeApart whose code xs es us a b s k h → AllApart code xs es us a b s k h
of_all whose code [] [] [] a b s k h x = absurd x
of_all whose code [] [] (u ∷ us) a b s k h x = absurd s
of_all whose code [] (e ∷ es) us a b s k h x = absurd s
of_all whose code (routine_text body ∷ more) [] us a b s k h x = absurd s
of_all whose code (routine_text body ∷ more) (e ∷ es) us a b s k h (inl x) = inl x.1
of_all whose code (routine_text body ∷ more) (e ∷ es) us a b s k h (inr x) = inr (of_all whose code more es us s.1 b s.5 k h x)
of_all whose code (parallel_unit unit ∷ more) es [] a b s k h x = absurd s
of_all whose code (parallel_unit unit ∷ more) es (u ∷ us) a b s k h (inl x) = inl x.1
of_all whose code (parallel_unit unit ∷ more) es (u ∷ us) a b s k h (inr x) = inr (of_all whose code more es us s.1 b s.5 k h x)

-- the owners of what stands apart
abbrev IsApart : Owner → Type 0
IsApart owner.Program = ⊥
IsApart whose = ⊤

of_some : (code : Code) (xs : List Apart) (es : List RoutineEntrance) (us : List ℕ) (a b : ℕ) (s : StandApart code xs es us a b) (k h : ℕ)
    → AllApart code xs es us a b s k h → (whose : Owner) × IsApart whose × SomeApart whose code xs es us a b s k h
of_some code [] [] [] a b s k h x = absurd x
of_some code [] [] (u ∷ us) a b s k h x = absurd s
of_some code [] (e ∷ es) us a b s k h x = absurd s
of_some code (routine_text body ∷ more) [] us a b s k h x = absurd s
of_some code (routine_text body ∷ more) (e ∷ es) us a b s k h (inl x) = (owner.Texts body.yields, tt, inl (refl, x))
of_some code (routine_text body ∷ more) (e ∷ es) us a b s k h (inr x) = let y = of_some code more es us s.1 b s.5 k h x in (y.0, y.1, inr y.2)
of_some code (parallel_unit unit ∷ more) es [] a b s k h x = absurd s
of_some code (parallel_unit unit ∷ more) es (u ∷ us) a b s k h (inl x) = (owner.Units, tt, inl (refl, x))
of_some code (parallel_unit unit ∷ more) es (u ∷ us) a b s k h (inr x) = let y = of_some code more es us s.1 b s.5 k h x in (y.0, y.1, inr y.2)

-- a tree is reached over no values, whether it is empty or not
within_begins : (code : Code) (gives : Bool) (tree : Tree) (a m : ℕ) (s : Stands code outermost gives tree a m) → Within code gives tree a m s a 0
within_begins code gives tree a m s = ⊎_elim (λ y. inl y) (λ e. inr (e.0, nothing_more 0 gives e.1)) (starts code outermost gives tree a m s 0)

beq-true : (x y : Bool) → beq x y ≡ true → x ≡ y
beq-true true true e = refl
beq-true false false e = refl
beq-true true false e = absurd (false≢true e)
beq-true false true e = absurd (false≢true e)

-- what an entrance is that is among those of a kind
at_entrance : (yields : Bool) (e : RoutineEntrance) (b : Bool) (to : ℕ) → beq e.yields yields ≡ b → Contains (if b then e.at ∷ [] else []) to → (e.yields ≡ yields) × (to ≡ e.at)
at_entrance yields e true to is i = (beq-true e.yields yields is, only e.at to i)
at_entrance yields e false to is i = absurd (none to i)

-- the ways of routine texts begin where these do
text_begins : (yields : Bool) (code : Code) (xs : List Apart) (es : List RoutineEntrance) (us : List ℕ) (a b : ℕ) (s : StandApart code xs es us a b) (to : ℕ)
    → Contains (entrances_in yields es) to → SomeApart (owner.Texts yields) code xs es us a b s to 0
text_begins yields code [] [] [] a b s to i = absurd (none to i)
text_begins yields code [] [] (u ∷ us) a b s to i = absurd s
text_begins yields code [] (e ∷ es) us a b s to i = absurd s
text_begins yields code (routine_text body ∷ more) [] us a b s to i = absurd s
text_begins yields code (routine_text body ∷ more) (e ∷ es) us a b s to i =
    ⊎_elim (λ j. inl (here j)) (λ j. inr (text_begins yields code more es us s.1 b s.5 to j)) (Contains-append_cases (entrance_if yields e) (entrances_in yields es) to i)
  where
    here : Contains (entrance_if yields e) to → (owner.Texts body.yields ≡ owner.Texts yields) × Within code body.yields body.tree a s.0 s.3 to 0
    here j =
        let is = at_entrance yields e (beq e.yields yields) to refl j in
        let at : to ≡ a = is.1 ∙ ap (λ (x : RoutineEntrance). x.at) s.2 in (
          ap (λ (y : Bool). owner.Texts y) (sym (ap (λ (x : RoutineEntrance). x.yields) s.2) ∙ is.0),
          subst (λ (x : ℕ). Within code body.yields body.tree a s.0 s.3 x 0) (sym at) (within_begins code body.yields body.tree a s.0 s.3),
        )
text_begins yields code (parallel_unit unit ∷ more) es [] a b s to i = absurd s
text_begins yields code (parallel_unit unit ∷ more) es (u ∷ us) a b s to i = inr (text_begins yields code more es us s.1 b s.5 to i)

-- and those of units where these do
unit_begins : (code : Code) (xs : List Apart) (es : List RoutineEntrance) (us : List ℕ) (a b : ℕ) (s : StandApart code xs es us a b) (n to : ℕ)
    → slice_get us n ≡ Some to → SomeApart owner.Units code xs es us a b s to 0
unit_begins code [] [] [] a b s n to e = absurd (cc)
unit_begins code [] [] (u ∷ us) a b s n to e = absurd s
unit_begins code [] (x ∷ es) us a b s n to e = absurd s
unit_begins code (routine_text body ∷ more) [] us a b s n to e = absurd s
unit_begins code (routine_text body ∷ more) (x ∷ es) us a b s n to e = inr (unit_begins code more es us s.1 b s.5 n to e)
unit_begins code (parallel_unit unit ∷ more) es [] a b s n to e = absurd s
unit_begins code (parallel_unit unit ∷ more) es (u ∷ us) a b s zero to e =
    let at : to ≡ a = sym (same_Some u to e) ∙ s.2 in
    inl (refl, subst (λ (x : ℕ). Within code false unit.tree a s.0 s.3 x 0) (sym at) (within_begins code false unit.tree a s.0 s.3))
unit_begins code (parallel_unit unit ∷ more) es (u ∷ us) a b s (suc n) to e = inr (unit_begins code more es us s.1 b s.5 n to e)

module _ (whose : Owner) (code : Code) (W : ℕ → ℕ → Type 0) (is_inside : (k h : ℕ) → W k h → k < length code.list) (unit_inside : (to : ℕ) → IsUnit code.units to → to < length code.list) where
  -- the ways through a tree go on within it, and end behind it
  within_flows : (gives : Bool) (tree : Tree) (a m : ℕ) (s : Stands code outermost gives tree a m) → FitsModes code.modes (length code.texts) tree → ((k h : ℕ) → Within code gives tree a m s k h → W k h)
      → Flows code whose W m (0 + bit gives) → (k h : ℕ) → Within code gives tree a m s k h → Flows code whose W k h
  within_flows gives tree a m s fit into ends k h (inl x) =
      flows code whose W is_inside unit_inside outermost gives tree a m s 0 (rests_first code whose W is_inside unit_inside) fit (λ k h y. into k h (inl y)) (into m (0 + bit gives) (inr (refl, refl))) k h x
  within_flows gives tree a m s fit into ends k h (inr x) = subst (λ (y : ℕ). Flows code whose W y h) (sym x.0) (subst (Flows code whose W m) (sym x.1) ends)

  -- Return, over what a body leaves
  return_flows : (yields : Bool) (m n p : ℕ) → owner.Texts yields ≡ whose → Has code p does.Return m n → Flows code whose W m (0 + bit yields)
  return_flows yields m n p mine is = record {
    does = does.Return;
    is = ap (λ (o : Option Instr). option_map (λ instr. instr.does) o) is.0;
    below = bit yields;
    finds = omega arith;
    leads = λ to h i. absurd (no_way (to, h) i);
    meets = subst (λ (o : Owner). MayMeet o does.Return (0 + bit yields)) mine left;
    made = refl;
    ordered = tt;
    forks = no_fork code does.Return refl;
  }
    where
      left : 0 + bit yields ≡ flow.one_if yields
      left = (let z : 0 + bit yields ≡ bit yields = omega arith in z) ∙ bit_is yields

  -- Close, over nothing
  close_flows : (m n p : ℕ) → owner.Units ≡ whose → Has code p does.Close m n → Flows code whose W m (0 + bit false)
  close_flows m n p mine is = record {
    does = does.Close;
    is = ap (λ (o : Option Instr). option_map (λ instr. instr.does) o) is.0;
    below = 0;
    finds = refl;
    leads = λ to h i. absurd (no_way (to, h) i);
    meets = subst (λ (o : Owner). MayMeet o does.Close (0 + bit false)) mine refl;
    made = refl;
    ordered = tt;
    forks = no_fork code does.Close refl;
  }

  -- the ways of what stands apart
  apart_flows : (xs : List Apart) (es : List RoutineEntrance) (us : List ℕ) (a b : ℕ) (s : StandApart code xs es us a b) → ApartFitsModes code.modes (length code.texts) xs
      → ((k h : ℕ) → SomeApart whose code xs es us a b s k h → W k h) → (k h : ℕ) → SomeApart whose code xs es us a b s k h → Flows code whose W k h
  apart_flows [] [] [] a b s fit into k h x = absurd x
  apart_flows [] [] (u ∷ us) a b s fit into k h x = absurd s
  apart_flows [] (e ∷ es) us a b s fit into k h x = absurd s
  apart_flows (routine_text body ∷ more) [] us a b s fit into k h x = absurd s
  apart_flows (routine_text body ∷ more) (e ∷ es) us a b s fit into k h (inl x) =
      within_flows body.yields body.tree a s.0 s.3 fit.0 (λ k h y. into k h (inl (x.0, y))) (return_flows body.yields s.0 s.1 body.place x.0 s.4) k h x.1
  apart_flows (routine_text body ∷ more) (e ∷ es) us a b s fit into k h (inr x) = apart_flows more es us s.1 b s.5 fit.1 (λ k h y. into k h (inr y)) k h x
  apart_flows (parallel_unit unit ∷ more) es [] a b s fit into k h x = absurd s
  apart_flows (parallel_unit unit ∷ more) es (u ∷ us) a b s fit into k h (inl x) =
      within_flows false unit.tree a s.0 s.3 fit.0 (λ k h y. into k h (inl (x.0, y))) (close_flows s.0 s.1 unit.place x.0 s.4) k h x.1
  apart_flows (parallel_unit unit ∷ more) es (u ∷ us) a b s fit into k h (inr x) = apart_flows more es us s.1 b s.5 fit.1 (λ k h y. into k h (inr y)) k h x

-- ---- codes

-- an entrance that some instruction forks
forked_somewhere : (list : List Instr) (to : ℕ) → Contains (flow.entrances_of_units list) to → (k : ℕ) × (d : Does) × (does_at list k ≡ Some d) × Contains (flow.forked_by d) to
forked_somewhere [] to i = absurd (none to i)
forked_somewhere (x ∷ list) to i =
    ⊎_elim (λ j. (0, x.does, refl, j)) (λ j. let y = forked_somewhere list to j in (suc y.0, y.1, y.2, y.3)) (Contains-append_cases (flow.forked_by x.does) (flow.entrances_of_units list) to i)

module _ (program : Program) (code : Code) (tr : Translates program code) (fit : FitsModes code.modes (length code.texts) program.tree)
    (apart_fit : ApartFitsModes code.modes (length code.texts) program.apart) where
  abbrev InProgram : ℕ → ℕ → Type 0
  InProgram k h = HeightsOf code outermost false program.tree 0 tr.end tr.stands 0 k h ⊎ At tr.end 0 k h

  -- the height of each place
  abbrev W : ℕ → ℕ → Type 0
  W k h = InProgram k h ⊎ AllApart code program.apart code.texts code.units (tr.end + 1) tr.last tr.apart k h

  -- those of what stands apart, by its owner
  abbrev OwnApart : Owner → ℕ → ℕ → Type 0
  OwnApart whose k h = SomeApart whose code program.apart code.texts code.units (tr.end + 1) tr.last tr.apart k h

  -- those of an owner
  abbrev Own : Owner → ℕ → ℕ → Type 0
  Own owner.Program k h = InProgram k h
  Own (owner.Texts yields) k h = OwnApart (owner.Texts yields) k h
  Own owner.Units k h = OwnApart owner.Units k h

  whole : Piece 0 tr.last W
  whole =
      both 0 (tr.end + 1) tr.last _ _ (both 0 tr.end (tr.end + 1) _ _ (piece code outermost false program.tree 0 tr.end tr.stands 0) (one tr.end (tr.end + 1) 0 refl))
      (apart_piece code program.apart code.texts code.units (tr.end + 1) tr.last tr.apart)

  own : (whose : Owner) (k h : ℕ) → Own whose k h → W k h
  own owner.Program k h x = inl x
  own (owner.Texts yields) k h x = inr (of_all (owner.Texts yields) code program.apart code.texts code.units (tr.end + 1) tr.last tr.apart k h x)
  own owner.Units k h x = inr (of_all owner.Units code program.apart code.texts code.units (tr.end + 1) tr.last tr.apart k h x)

  apart_own : (whose : Owner) (k h : ℕ) → IsApart whose → OwnApart whose k h → Own whose k h
  apart_own owner.Program k h is x = absurd is
  apart_own (owner.Texts yields) k h is x = x
  apart_own owner.Units k h is x = x

  owned : (k h : ℕ) → W k h → (whose : Owner) × Own whose k h
  owned k h (inl x) = (owner.Program, x)
  owned k h (inr x) = let y = of_some code program.apart code.texts code.units (tr.end + 1) tr.last tr.apart k h x in (y.0, apart_own y.0 k h y.1 y.2)

  is_inside : (whose : Owner) (k h : ℕ) → Own whose k h → k < length code.list
  is_inside whose k h w = let x = (whole.inside k h (own whose k h w)).1 in let y = tr.no_more in omega arith

  -- units begin within the code
  begun_unit : (to : ℕ) → IsUnit code.units to → Own owner.Units to 0
  begun_unit to is = unit_begins code program.apart code.texts code.units (tr.end + 1) tr.last tr.apart is.0 to is.1

  unit_inside : (to : ℕ) → IsUnit code.units to → to < length code.list
  unit_inside to is = is_inside owner.Units to 0 (begun_unit to is)

  all_flow : (whose : Owner) (k h : ℕ) → Own whose k h → Flows code whose (Own whose) k h
  all_flow owner.Program k h (inl x) =
      flows code owner.Program (Own owner.Program) (is_inside owner.Program) unit_inside outermost false program.tree 0 tr.end tr.stands 0
      (rests_first code owner.Program (Own owner.Program) (is_inside owner.Program) unit_inside) fit (λ k h y. inl y) (inr (refl, refl)) k h x
  all_flow owner.Program k h (inr x) =
      subst (λ (y : ℕ). Flows code owner.Program (Own owner.Program) y h) (sym x.0) (subst (Flows code owner.Program (Own owner.Program) tr.end) (sym x.1) last)
    where
      last : Flows code owner.Program (Own owner.Program) tr.end 0
      last = record {
        does = does.End;
        is = ap (λ (o : Option Instr). option_map (λ instr. instr.does) o) tr.ends.0;
        below = 0;
        finds = refl;
        leads = λ to h i. absurd (no_way (to, h) i);
        meets = tt;
        made = refl;
        ordered = tt;
        forks = no_fork code does.End refl;
      }
  all_flow (owner.Texts yields) k h x =
      apart_flows (owner.Texts yields) code (Own (owner.Texts yields)) (is_inside (owner.Texts yields)) unit_inside program.apart code.texts code.units (tr.end + 1) tr.last tr.apart apart_fit
      (λ k h y. y) k h x
  all_flow owner.Units k h x =
      apart_flows owner.Units code (Own owner.Units) (is_inside owner.Units) unit_inside program.apart code.texts code.units (tr.end + 1) tr.last tr.apart apart_fit (λ k h y. y) k h x

  -- what is known of the instruction at a place
  record Known (k : ℕ) (d : Does) : Type 0 where
    made : IsTrue (is_well_made code.modes (length code.texts) (length code.list) d)
    ordered : IsInOrder code.list k d
    forks : (to : ℕ) → Contains (flow.forked_by d) to → IsUnit code.units to

  known : (k : ℕ) (d : Does) → does_at code.list k ≡ Some d → Known k d
  known k d is =
      let lt = does_at_within code.list k d is in
      let c = whole.covers k (omega arith) (let y = tr.no_more in omega arith) in
      let o = owned k c.0 c.1 in
      let f = all_flow o.0 k c.0 o.1 in
      let same : f.does ≡ d = same_Some f.does d (sym f.is ∙ is) in
      record {
        made = subst (λ (x : Does). IsTrue (is_well_made code.modes (length code.texts) (length code.list) x)) same f.made;
        ordered = subst (λ (x : Does). IsInOrder code.list k x) same f.ordered;
        forks = subst (λ (x : Does). (to : ℕ) → Contains (flow.forked_by x) to → IsUnit code.units to) same f.forks;
      }

  -- the ways of an owner begin at its own places
  begun_at : (whose : Owner) (k : ℕ) → Contains (entrances code whose) k → Own whose k 0
  begun_at owner.Program k i =
      subst (λ (x : ℕ). InProgram x 0) (sym (only 0 k i)) (⊎_elim (λ y. inl y) (λ e. inr (e.0, refl)) (starts code outermost false program.tree 0 tr.end tr.stands 0))
  begun_at (owner.Texts yields) k i = text_begins yields code program.apart code.texts code.units (tr.end + 1) tr.last tr.apart k i
  begun_at owner.Units k i = let f = forked_somewhere code.list k i in begun_unit k ((known f.0 f.1 f.2).forks k f.3)

  -- a way comes to each place with its height
  reached : (whose : Owner) (k h : ℕ) → Reaches code whose k h → Own whose k h
  reached whose k h (begins i) = begun_at whose k i
  reached whose k h (goes_on {at = at} {to = to} {does = d} below r is i) = on (all_flow whose at (below + takes d) (reached whose at (below + takes d) r))
    where
      on : Flows code whose (Own whose) at (below + takes d) → Own whose to (below + flow.leaves_to code.modes d to)
      on f =
          let same : f.does ≡ d = same_Some f.does d (sym f.is ∙ is) in
          let under : f.below ≡ below = let x = f.finds in let y = ap takes same in omega arith in
          subst (λ (x : Does). Own whose to (below + flow.leaves_to code.modes x to)) same
          (subst (λ (x : ℕ). Own whose to (x + flow.leaves_to code.modes f.does to)) under
          (f.leads to (f.below + flow.leaves_to code.modes f.does to) (way_to code.modes at f.does f.below to (subst (λ (x : Does). Contains (flow.landings at x) to) (sym same) i))))
  reached whose k h (lands {at = at} {to = to} {frames = frames} {height = height} {gives = gives} below r is) = on (all_flow whose at (below + height) (reached whose at (below + height) r))
    where
      on : Flows code whose (Own whose) at (below + height) → Own whose to height
      on f =
          let same : f.does ≡ does.Goto to frames height gives = same_Some f.does (does.Goto to frames height gives) (sym f.is ∙ is) in
          f.leads to height (subst (λ (x : Does). Contains {X = ℕ × ℕ} (ways code.modes at x f.below) (to, height)) (sym same) (way_of_jump code.modes at to frames height gives f.below))

  pub valid : IsValid code
  valid = record {
    begins = λ e. let x = ap length e in let y = tr.no_more in let z = whole.forth in let u = (whole.inside tr.end 0 (inl (inr (refl, refl)))).1 in absurd (omega arith);
    well_made = λ k d is. (known k d is).made;
    in_order = λ k d is. (known k d is).ordered;
    within = λ whose k h r. is_inside whose k h (reached whose k h r);
    supplied = λ whose k h d r is.
        let f = all_flow whose k h (reached whose k h r) in let e = ap takes (same_Some f.does d (sym f.is ∙ is)) in let x = f.finds in omega arith;
    ends = λ whose k h d r is.
        let f = all_flow whose k h (reached whose k h r) in subst (λ (x : Does). MayMeet whose x h) (same_Some f.does d (sym f.is ∙ is)) f.meets;
    agreed = λ whose whom k h h' r r'. whole.unique k h h' (own whose k h (reached whose k h r)) (own whom k h' (reached whom k h' r'));
  }
