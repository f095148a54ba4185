-- Which acts have to wait.
use Rattle.std.proofs.Common.{◌≡◌, ℕ, ℤ, ◌+◌, Bool, true, false, refl, subst, length}
use Rattle.std.specs.Option.{option_map_or}
use Rattle.std.specs.Prelude.{None, Some, pos, ◌+ℤ◌, ◌-ℤ◌, slice_get, nat_lt, int_lt, if◌then◌else◌}
use Rattle.std.specs.declared.option.Option.{Option}
use Rattle.a68_acts.specs.Does.{Outcome, did, waits, bound, looked, is_closed, count_in, with_count, raised, lowered, does}
use Rattle.a68_acts.specs.Store.{Store, Frame, counted, slot_weight, most_counted, most_printed, most_strands}
use Rattle.a68_acts.specs.declared.want.Reply.TheVariants as reply
use Rattle.a68_acts.specs.declared.want.Want.{Want}
use Rattle.a68_acts.specs.declared.want.Want.TheVariants as want
use Rattle.a68_ops.specs.Yields.{is_int}
use Rattle.a68_values.specs.Content.{Content}
use Rattle.a68_values.specs.declared.act.Act.TheVariants as act

-- the act lowers a semaphore whose count is below 1
abbrev pub LowersNone : Want → Store → Type 0
LowersNone (want.Down c) s = (i : ℤ) × (count_in s c ≡ Some i) × (int_lt i (pos 1) ≡ true)
LowersNone _ s = ⊥

-- the store does the act or refuses it, unless this holds
abbrev Answers : Type 0 → Outcome → Type 0
Answers P waits = P
Answers P _ = Unit {0}

if-answers : (P : Type 0) (b : Bool) (x y : Outcome) → Answers P x → Answers P y → Answers P (if b then x else y)
if-answers P true x y p q = p
if-answers P false x y p q = q

option-answers : {T : Type 0} (P : Type 0) (f : T → Outcome) (o : Option T) (x : Outcome) → ((t : T) → o ≡ Some t → Answers P (f t)) → Answers P x → Answers P (option_map_or f o x)
option-answers P f None x p q = q
option-answers P f (Some t) x p q = p t refl

bound-answers : (P : Type 0) (s : Store) (f i : ℕ) (frame : Frame) (v : Content) (o : Option (Option Content)) → Answers P (bound s f i frame v o)
bound-answers P s f i frame v None = tt
bound-answers P s f i frame v (Some old) = if-answers P (nat_lt (most_counted + slot_weight old) (counted s + slot_weight (Some v))) _ _ tt tt

looked-answers : (P : Type 0) (s : Store) (f i : ℕ) (o : Option (Option Content)) → Answers P (looked s f i o)
looked-answers P s f i None = tt
looked-answers P s f i (Some None) = tt
looked-answers P s f i (Some (Some v)) = tt

raised-answers : (P : Type 0) (s : Store) (c : ℕ) (i : ℤ) → Answers P (raised s c i)
raised-answers P s c i = if-answers P (is_int (i +ℤ pos 1)) _ _ tt tt

lowered-answers : (s : Store) (c : ℕ) (i : ℤ) → count_in s c ≡ Some i → Answers (LowersNone (want.Down c) s) (lowered s c i)
lowered-answers s c i e = by_test (int_lt i (pos 1)) refl
  where
    by_test : (b : Bool) → int_lt i (pos 1) ≡ b → Answers (LowersNone (want.Down c) s) (if b then waits else did (act.Down c) reply.Go (with_count s c (i -ℤ pos 1)))
    by_test true t = (i, e, t)
    by_test false t = tt

does-answers : (w : Want) (s : Store) → Answers (LowersNone w s) (does w s)
unfolding does
does-answers (want.Enter outer scope slots) s =
    option-answers _ _ (slice_get s.frames outer) _ (λ frame e. if-answers _ (nat_lt most_counted (counted s + slots)) _ _ tt tt) tt
does-answers (want.Bind f i v) s = option-answers _ _ (slice_get s.frames f) _ (λ frame e. bound-answers _ s f i frame v (slice_get frame.slots i)) tt
does-answers (want.Look f i) s = option-answers _ _ (slice_get s.frames f) _ (λ frame e. looked-answers _ s f i (slice_get frame.slots i)) tt
does-answers (want.Make plan) s = if-answers _ (is_closed plan) _ _ (if-answers _ (nat_lt most_counted (counted s + length plan.cells)) _ _ tt tt) tt
does-answers (want.Fetch c) s = option-answers _ _ (slice_get s.cells c) _ (λ held e. tt) tt
does-answers (want.Assign c held) s = option-answers _ _ (slice_get s.cells c) _ (λ old e. tt) tt
does-answers (want.Up c) s = option-answers _ (raised s c) (count_in s c) _ (λ i e. raised-answers _ s c i) tt
does-answers (want.Down c) s = option-answers _ (lowered s c) (count_in s c) _ (λ i e. lowered-answers s c i e) tt
does-answers (want.Print text) s = if-answers _ (nat_lt most_printed (length s.text + length text)) _ _ tt tt
does-answers (want.Fork entrances) s = if-answers _ (nat_lt most_strands (s.strands + length entrances)) _ _ tt tt
does-answers _ s = tt

-- no act has to wait but a Down of a semaphore whose count is below 1
pub waits_where : (w : Want) (s : Store) → does w s ≡ waits → LowersNone w s
waits_where w s e = subst (Answers (LowersNone w s)) e (does-answers w s)
