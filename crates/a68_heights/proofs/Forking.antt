-- Units of parallel clauses.
use Rattle.std.proofs.Common.{◌≡◌, ℕ, zero, suc, List, [], ◌∷◌, Some, Contains, refl, sym, subst}
use Rattle.std.proofs.lemmas.List.Elements.{All-contains_itself, All-weaker, Contains-append_left, Contains-append_right}
use Rattle.std.proofs.lemmas.Option.{same_Some}
use Rattle.a68_code.specs.Flow.{Reaches, does_at, entrances, entrances_of_units, forked_by}
use Rattle.a68_code.specs.declared.code.Code.{Code}
use Rattle.a68_code.specs.declared.code.Instr.{Instr}
use Rattle.a68_code.specs.declared.does.Does.{Does}
use Rattle.a68_code.specs.declared.does.Does.TheVariants as does
use Rattle.a68_code.specs.declared.owner.Owner.{Owner}
use Rattle.a68_code.specs.declared.owner.Owner.TheVariants as owner
use Rattle.a68_heights.proofs.Leading.{behind, stays}
use Rattle.a68_heights.specs.Heights.{Below, Fits}
use Rattle.a68_stack.specs.Values.{height}
use Rattle.a68_instructions.specs.Machine.{State, controls}

-- where an instruction begins units is among the entrances of all units
units_there : (list : List Instr) (k : ℕ) (d : Does) → does_at list k ≡ Some d → (at : ℕ) → Contains (forked_by d) at → Contains (entrances_of_units list) at
units_there [] k d is at i = absurd (cc)
units_there (x ∷ list) zero d is at i =
    Contains-append_left (forked_by x.does) (entrances_of_units list) at (subst (λ (e : Does). Contains (forked_by e) at) (sym (same_Some x.does d is)) i)
units_there (x ∷ list) (suc k) d is at i = Contains-append_right (forked_by x.does) (entrances_of_units list) at (units_there list k d is at i)

-- a Fork goes on once its units have closed, which begin where ways of units begin
pub forks-fits : (code : Code) (whose : Owner) (st : State) (places : List ℕ) → does_at code.list st.at ≡ Some (does.Fork places) → Reaches code whose st.at (height st.stack.items)
    → Below code whose st.stack.items → Fits code (controls code.modes code.texts (does.Fork places) st)
forks-fits code whose st places is r l = (
  stays code whose st.at (does.Fork places) is (suc st.at) st.stack.items r l (behind st.at []) refl refl,
  All-weaker (Contains places) (λ (at : ℕ). Contains (entrances code owner.Units) at) (λ at i. units_there code.list st.at (does.Fork places) is at i) places (All-contains_itself places),
)
