-- Loops.
use Rattle.std.proofs.Common.{◌≡◌, ◌+◌, ℕ, suc, arith, Bool, true, false, List, [], ◌∷◌, Some, None, Ok, Err, refl}
use Rattle.std.specs.Prelude.{if◌then◌else◌}
use Rattle.std.specs.Option.{option_map_or}
use Rattle.std.specs.declared.option.Option.{Option}
use Rattle.std.specs.declared.result.Result.{Result}
use Rattle.a68_acts.specs.Operations.{counter_of, has_turn, advanced}
use Rattle.a68_acts.specs.declared.operation.Counter.{Counter}
use Rattle.a68_code.specs.Flow.{Reaches, does_at}
use Rattle.a68_code.specs.declared.code.Code.{Code}
use Rattle.a68_code.specs.declared.does.Does.TheVariants as does
use Rattle.a68_code.specs.declared.owner.Owner.{Owner}
use Rattle.a68_heights.proofs.Leading.{behind, second, stands}
use Rattle.a68_heights.specs.Heights.{Below, Fits}
use Rattle.a68_instructions.specs.Machine.{State, advances, counts, forgets, goes_on, goes_to, indexes, steps, with_counter}
use Rattle.a68_stack.specs.Values.{height, top_counter}
use Rattle.a68_stack.specs.declared.stack.Item.{Item}
use Rattle.a68_stack.specs.declared.stack.Item.TheVariants as item
use Rattle.a68_values.specs.Content.{plain}
use Rattle.a68_values.specs.declared.act.FaultKind.{FaultKind}
use Rattle.a68_values.specs.declared.plain.Plain.TheVariants as value

module _ (code : Code) (whose : Owner) (st : State) where
  pub counts-fits : does_at code.list st.at ≡ Some does.Counter → (items : List Item) → Reaches code whose st.at (height items) → Below code whose items → Fits code (counts st items)
  counts-fits is (item.Value t ∷ item.Value b ∷ item.Value a ∷ items) r l = by_result (counter_of a b t)
    where
      by_result : (res : Result Counter FaultKind) → Fits code (with_counter st items res)
      by_result (Ok c) =
          stands code whose st.at does.Counter is (suc (suc (suc (height items)))) (suc st.at) (height items) (item.Counter c ∷ items) r l (behind st.at []) (omega arith) (omega arith)
      by_result (Err why) = refl
  counts-fits is _ r l = refl

  -- a counter on top is one item at least
  pub some_counter : (items : List Item) (c : Counter) → top_counter items ≡ Some c → (n : ℕ) × (height items ≡ suc n)
  some_counter [] c e = absurd (cc)
  some_counter (item.Value v ∷ items) c e = absurd (cc)
  some_counter (item.Caller d ∷ items) c e = absurd (cc)
  some_counter (item.Counter d ∷ items) c e = (height items, refl)

  pub steps-fits : (to : ℕ) → does_at code.list st.at ≡ Some (does.Step to) → Reaches code whose st.at (height st.stack.items) → Below code whose st.stack.items
      → Fits code (steps st to (top_counter st.stack.items))
  steps-fits to is r l = by_counter (top_counter st.stack.items) refl
    where
      by_counter : (o : Option Counter) → top_counter st.stack.items ≡ o → Fits code (steps st to o)
      by_counter None e = refl
      by_counter (Some c) e = by_test (has_turn c)
        where
          by_test : (b : Bool) → Fits code (if b then goes_on st st.stack.items else goes_to st to st.stack.items)
          by_test true =
              let n = some_counter st.stack.items c e in
              stands code whose st.at (does.Step to) is (height st.stack.items) (suc st.at) n.0 st.stack.items r l (behind st.at (to ∷ [])) (omega (arith, n.1)) (omega (arith, n.1))
          by_test false =
              let n = some_counter st.stack.items c e in
              stands code whose st.at (does.Step to) is (height st.stack.items) to n.0 st.stack.items r l (second (st.at + 1) to []) (omega (arith, n.1)) (omega (arith, n.1))

  pub indexes-fits : does_at code.list st.at ≡ Some does.Index → Reaches code whose st.at (height st.stack.items) → Below code whose st.stack.items
      → Fits code (indexes st (top_counter st.stack.items))
  indexes-fits is r l = by_counter (top_counter st.stack.items) refl
    where
      by_counter : (o : Option Counter) → top_counter st.stack.items ≡ o → Fits code (indexes st o)
      by_counter None e = refl
      by_counter (Some c) e =
          let n = some_counter st.stack.items c e in
          stands code whose st.at does.Index is (height st.stack.items) (suc st.at) n.0 (item.Value (plain (value.Int c.at)) ∷ st.stack.items) r l (behind st.at []) (omega (arith, n.1)) (omega (arith, n.1))

  pub advances-fits : (to : ℕ) → does_at code.list st.at ≡ Some (does.Advance to) → (items : List Item) → Reaches code whose st.at (height items) → Below code whose items
      → Fits code (advances st to items)
  advances-fits to is (item.Counter c ∷ items) r l = by_next (advanced c)
    where
      by_next : (o : Option Counter) → Fits code (option_map_or (λ (next : Counter). goes_to st to (item.Counter next ∷ items)) o (goes_on st (item.Counter c ∷ items)))
      by_next None =
          stands code whose st.at (does.Advance to) is (suc (height items)) (suc st.at) (height items) (item.Counter c ∷ items) r l (behind st.at (to ∷ [])) (omega arith) (omega arith)
      by_next (Some d) =
          stands code whose st.at (does.Advance to) is (suc (height items)) to (height items) (item.Counter d ∷ items) r l (second (st.at + 1) to []) (omega arith) (omega arith)
  advances-fits to is _ r l = refl

  pub forgets-fits : does_at code.list st.at ≡ Some does.Forget → (items : List Item) → Reaches code whose st.at (height items) → Below code whose items → Fits code (forgets st items)
  forgets-fits is (item.Counter c ∷ items) r l =
      stands code whose st.at does.Forget is (suc (height items)) (suc st.at) (height items) items r l (behind st.at []) (omega arith) (omega arith)
  forgets-fits is _ r l = refl
