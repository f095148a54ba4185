-- No act but a Fork makes strands.
use Rattle.std.proofs.Common.{◌≡◌, ◌+◌, ap, subst, true≢false, ℕ, Bool, true, false, List, refl}
use Rattle.std.specs.Option.{option_map_or}
use Rattle.std.specs.Prelude.{None, Some, pos, length, int_lt, ◌+ℤ◌, nat_lt, slice_get, if◌then◌else◌}
use Rattle.std.specs.declared.option.Option.{Option}
use Rattle.a68_acts.specs.Does.{Outcome, did, refuses, bound, looked, is_closed, count_in, raised, lowered, forked, does}
use Rattle.a68_acts.specs.Store.{Store, Frame, counted, slot_weight, most_counted, most_printed, most_strands}
use Rattle.a68_acts.specs.declared.want.Reply.{Reply}
use Rattle.a68_acts.specs.declared.want.Reply.TheVariants as reply
use Rattle.a68_acts.specs.declared.want.Want.{Want}
use Rattle.a68_acts.specs.declared.want.Want.TheVariants as want
use Rattle.a68_heights.proofs.ForksOfSteps.{is_fork}
use Rattle.a68_ops.specs.Yields.{is_int}
use Rattle.a68_values.specs.Content.{Content}
use Rattle.a68_values.specs.declared.act.Act.{Act}
use Rattle.a68_values.specs.declared.act.Act.TheVariants as act
use Rattle.a68_values.specs.declared.act.FaultKind.TheVariants as fault

-- ---- the store

-- an outcome that leaves so many strands
abbrev Keeps : ℕ → Outcome → Type 0
Keeps n (did a r s) = s.strands ≡ n
Keeps n _ = Unit {0}

if-keeps : (n : ℕ) (b : Bool) (x y : Outcome) → Keeps n x → Keeps n y → Keeps n (if b then x else y)
if-keeps n true x y p q = p
if-keeps n false x y p q = q

or-keeps : {A : Type 0} (n : ℕ) (f : A → Outcome) (o : Option A) (d : Outcome) → ((x : A) → Keeps n (f x)) → Keeps n d → Keeps n (option_map_or f o d)
or-keeps n f None d p q = q
or-keeps n f (Some x) d p q = p x

bound-keeps : (s : Store) (f i : ℕ) (frame : Frame) (v : Content) (o : Option (Option Content)) → Keeps s.strands (bound s f i frame v o)
bound-keeps s f i frame v None = tt
bound-keeps s f i frame v (Some old) = if-keeps s.strands (nat_lt (most_counted + slot_weight old) (counted s + slot_weight (Some v))) _ _ tt refl

looked-keeps : (s : Store) (f i : ℕ) (o : Option (Option Content)) → Keeps s.strands (looked s f i o)
looked-keeps s f i None = tt
looked-keeps s f i (Some None) = tt
looked-keeps s f i (Some (Some v)) = refl

does-keeps : (w : Want) (s : Store) → is_fork w ≡ false → Keeps s.strands (does w s)
unfolding does
does-keeps (want.Enter outer scope slots) s e = or-keeps s.strands _ (slice_get s.frames outer) _ (λ frame. if-keeps s.strands (nat_lt most_counted (counted s + slots)) _ _ tt refl) tt
does-keeps (want.Bind f i v) s e = or-keeps s.strands _ (slice_get s.frames f) _ (λ frame. bound-keeps s f i frame v (slice_get frame.slots i)) tt
does-keeps (want.Look f i) s e = or-keeps s.strands _ (slice_get s.frames f) _ (λ frame. looked-keeps s f i (slice_get frame.slots i)) tt
does-keeps (want.Make plan) s e = if-keeps s.strands (is_closed plan) _ _ (if-keeps s.strands (nat_lt most_counted (counted s + length plan.cells)) _ _ tt refl) tt
does-keeps (want.Fetch c) s e = or-keeps s.strands _ (slice_get s.cells c) _ (λ h. refl) tt
does-keeps (want.Assign c h) s e = or-keeps s.strands _ (slice_get s.cells c) _ (λ old. refl) tt
does-keeps (want.Print text) s e = if-keeps s.strands (nat_lt most_printed (length s.text + length text)) _ _ tt refl
does-keeps want.Turn s e = refl
does-keeps (want.Up c) s e = or-keeps s.strands (raised s c) (count_in s c) _ (λ i. if-keeps s.strands (is_int (i +ℤ pos 1)) _ _ refl tt) tt
does-keeps (want.Down c) s e = or-keeps s.strands (lowered s c) (count_in s c) _ (λ i. if-keeps s.strands (int_lt i (pos 1)) _ _ tt refl) tt
does-keeps (want.Fork entrances) s e = absurd (true≢false e)
does-keeps want.Close s e = refl

-- an act but a Fork makes no strand
pub strands_kept : (w : Want) (s s2 : Store) (a : Act) (r : Reply) → is_fork w ≡ false → does w s ≡ did a r s2 → s2.strands ≡ s.strands
strands_kept w s s2 a r e d = subst (Keeps s.strands) d (does-keeps w s e)

-- what is told of a Fork
abbrev Forks : Store → ℕ → Outcome → Type 0
Forks s n (did a r s2) = (r ≡ reply.Base s.strands) × (s2.strands ≡ s.strands + n)
Forks s n _ = Unit {0}

forked-forks : (s : Store) (n : ℕ) → Forks s n (forked s n)
forked-forks s n = by_test (nat_lt most_strands (s.strands + n))
  where
    by_test : (b : Bool) → Forks s n (if b then refuses fault.Strands else did (act.Fork s.strands n) (reply.Base s.strands) (record s { strands = s.strands + n }))
    by_test true = tt
    by_test false = (refl, refl)

-- the strand is told the number of the first unit
pub fork_tells : (entrances : List ℕ) (s s2 : Store) (a : Act) (r : Reply) → does (want.Fork entrances) s ≡ did a r s2
    → (r ≡ reply.Base s.strands) × (s2.strands ≡ s.strands + length entrances)
unfolding does
fork_tells entrances s s2 a r d = subst (Forks s (length entrances)) d (forked-forks s (length entrances))

-- a Fork looks at the number of the units alone
pub same_forks : (numbers entrances : List ℕ) → length numbers ≡ length entrances → (s : Store) → does (want.Fork numbers) s ≡ does (want.Fork entrances) s
unfolding does
same_forks numbers entrances e s = ap (forked s) e

-- of a Close there is no more to tell
pub close_tells : (s s2 : Store) (a : Act) (r : Reply) → does want.Close s ≡ did a r s2 → r ≡ reply.Go
unfolding does
close_tells s s2 a r d = cc
