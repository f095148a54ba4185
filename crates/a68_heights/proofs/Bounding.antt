-- How many items a strand has that fits a code.
use Rattle.std.proofs.Common.{◌<◌, ◌≤◌, ◌+◌, ◌*◌, ℕ, arith, List, [], ◌∷◌, length, subst, sym, mul_comm, suc-mul}
use Rattle.a68_code.specs.Flow.{Reaches, one_if}
use Rattle.a68_code.specs.Flow.Reaches.{begins}
use Rattle.a68_code.specs.Valid.{IsValid}
use Rattle.a68_code.specs.declared.code.Code.{Code}
use Rattle.a68_code.specs.declared.owner.Owner.{Owner}
use Rattle.a68_code.specs.declared.owner.Owner.TheVariants as owner
use Rattle.a68_heights.proofs.Leading.{first}
use Rattle.a68_heights.proofs.Rising.{few_values}
use Rattle.a68_heights.specs.Heights.{Awaits, Below, Calls, Enters, Fits, FitsBy, MayGoOn, MayStand}
use Rattle.a68_instructions.specs.Machine.{State}
use Rattle.a68_instructions.specs.declared.ask.Stance.{Stance}
use Rattle.a68_instructions.specs.declared.ask.Stance.TheVariants.{Idle, Asking, Failed, Waits, Closed}
use Rattle.a68_instructions.specs.declared.ask.Waiting.{Waiting}
use Rattle.a68_instructions.specs.declared.ask.Waiting.TheVariants as waiting
use Rattle.a68_stack.specs.Values.{callers, height}
use Rattle.a68_stack.specs.declared.stack.Item.{Item}
use Rattle.a68_stack.specs.declared.stack.Item.TheVariants as item

-- an activation of the code has fewer items than this wherever its ways lead
abbrev pub IsMore : Code → (most : ℕ) → Type 0
IsMore code most = (whose : Owner) (at height : ℕ) → Reaches code whose at height → height < most

module _ (code : Code) (most : ℕ) (suffices : IsMore code most) where
  some : 0 < most
  some = suffices owner.Program 0 0 (begins (first 0 []))

  -- the innermost activation has few items, and stands over the calls of an owner
  abbrev IsSmall : List Item → Type 0
  IsSmall items = (whose : Owner) × (height items < most) × Below code whose items

  stands-small : (at : ℕ) (items : List Item) → MayStand code at items → IsSmall items
  stands-small at items (whose, r, l) = (whose, suffices whose at (height items) r, l)

  goes_on-small : (to left : ℕ) (items : List Item) → MayGoOn code to left items → IsSmall items
  goes_on-small to left items (whose, r, l) = let few = suffices whose to (height items + left) r in (whose, omega (arith, few), l)

  calls-small : (to text : ℕ) (items : List Item) → Calls code to text items → IsSmall items
  calls-small to text items (e, there, g) = goes_on-small to (one_if e.yields) items g

  enters-small : (text : ℕ) (items : List Item) → Enters code text items → IsSmall items
  enters-small text items (e, there, none, l) = let begun = some in (owner.Texts e.yields, omega (arith, none, begun), l)

  awaits-small : (at : ℕ) (wait : Waiting) (items : List Item) → Awaits code at wait items → IsSmall items
  awaits-small at (waiting.Operation next) items a = goes_on-small _ _ items a
  awaits-small at waiting.Frame items a = stands-small _ items a
  awaits-small at waiting.Turn items a = stands-small _ items a
  awaits-small at (waiting.Jump to) items a = stands-small _ items a
  awaits-small at (waiting.Called r ps) items a = calls-small _ _ items a
  awaits-small at (waiting.Entered text ps) items a = calls-small _ _ items a
  awaits-small at (waiting.Bound text ps) items a = enters-small _ items a
  awaits-small at (waiting.Fork count) items a = stands-small _ items a
  awaits-small at waiting.Close items a = stands-small _ items a
  awaits-small at (waiting.Units one count) items a = stands-small _ items a

  by_stance : (at : ℕ) (m : Stance) (items : List Item) → FitsBy code at m items → IsSmall items
  by_stance at Idle items f = stands-small _ items f
  by_stance at (Asking w wait) items f = awaits-small at wait items f.0
  by_stance at (Failed why) items f = subst (λ (l : List Item). IsSmall l) (sym f) (owner.Program, some, tt)
  by_stance at (Waits one count) items f = stands-small _ items f
  by_stance at Closed items f = stands-small _ items f

  small : (st : State) → Fits code st → IsSmall st.stack.items
  small st f = by_stance st.at st.stance st.stack.items f

  pub few_inside : (st : State) → Fits code st → height st.stack.items < most
  few_inside st f = (small st f).1

  -- each caller stands over fewer items than that
  total : (whose : Owner) (items : List Item) → Below code whose items → length items ≤ height items + callers items * most
  total whose [] l = omega arith
  total whose (item.Value v ∷ items) l = let rest = total whose items l in omega (arith, rest)
  total whose (item.Counter c ∷ items) l = let rest = total whose items l in omega (arith, rest)
  total owner.Program (item.Caller c ∷ items) l = absurd l
  total owner.Units (item.Caller c ∷ items) l = absurd l
  total (owner.Texts yields) (item.Caller c ∷ items) (whom, r, l) =
      let rest = total whom items l in
      let few = suffices whom c.to (height items + one_if yields) r in
      let product = suc-mul (callers items) most in
      omega (arith, rest, few, product)

  pub few_in_all : (st : State) → Fits code st → length st.stack.items < most * (1 + callers st.stack.items)
  few_in_all st f =
      let s = small st f in
      let few = s.1 in
      let all = total s.0 st.stack.items s.2 in
      let product = suc-mul (callers st.stack.items) most in
      let turned = mul_comm most (1 + callers st.stack.items) in
      omega (arith, few, all, product, turned)

-- as many as the code has instructions suffice
pub list_suffices : (code : Code) → IsValid code → IsMore code (length code.list)
list_suffices code valid whose at h r = few_values code whose valid at h r

pub innermost : (code : Code) → IsValid code → (st : State) → Fits code st → height st.stack.items < length code.list
innermost code valid st f = few_inside code (length code.list) (list_suffices code valid) st f

pub whole : (code : Code) → IsValid code → (st : State) → Fits code st → length st.stack.items < length code.list * (1 + callers st.stack.items)
whole code valid st f = few_in_all code (length code.list) (list_suffices code valid) st f
