-- What an act makes of the scopes of frames.
use Rattle.std.proofs.Common.{◌≡◌, ℕ, zero, suc, ◌+◌, ℤ, ◌<◌, ◌≤◌, Bool, true, false, List, [], ◌∷◌, ◌++◌, length, refl, ap, inl, inr, arith, length-append}
use Rattle.std.specs.Prelude.{⊤, None, Some, pos, ◌+ℤ◌, ◌-ℤ◌, slice_get, slice_set, nat_eq, nat_lt, int_lt, replicate, if◌then◌else◌}
use Rattle.std.specs.Option.{option_map_or}
use Rattle.std.proofs.Math.ListN.{length-set}
use Rattle.std.specs.declared.option.Option.{Option}
use Rattle.a68_acts.specs.Does.{Outcome, did, refuses, waits, does, entered, bound, looked, made, within_count, cells_from, is_closed, count_in, with_count, raised, lowered}
use Rattle.a68_acts.specs.Store.{Store, Frame, chain_step, chain_within, chain_of, counted, slot_weight, most_counted, most_printed, most_strands}
use Rattle.a68_acts.specs.declared.want.Reply.{Reply}
use Rattle.a68_acts.specs.declared.want.Reply.TheVariants as reply
use Rattle.a68_acts.specs.declared.want.Want.{Want}
use Rattle.a68_acts.specs.declared.want.Want.TheVariants as want
use Rattle.a68_layout.specs.declared.types.Plan.{Plan}
use Rattle.a68_ops.specs.Yields.{is_int}
use Rattle.a68_store.proofs.FramesLemmas.{get-append_cases, get-set_cases}
use Rattle.a68_values.specs.Content.{Content}
use Rattle.a68_values.specs.declared.act.Act.TheVariants as act
use Rattle.a68_values.specs.declared.act.FaultKind.TheVariants as fault
use Rattle.a68_values.specs.declared.chain.Environ.{Environ}
use Rattle.a68_values.specs.declared.held.Held.{Held}
use Rattle.a68_world.specs.Scopes.{ChainBelow, FramesBelow, WantBelow, ReplyBelow}

-- there are so many frames or one more, and all scopes, those of the reply too, are below their number
pub record RoomAfter (frames : ℕ) (told : Reply) (after : Store) : Type 0 where
  pub least : frames ≤ length after.frames
  pub most : length after.frames ≤ frames + 1
  pub below : FramesBelow (length after.frames) after.frames
  pub reply : ReplyBelow (length after.frames) told

abbrev pub RoomBehind : ℕ → Outcome → Type 0
RoomBehind n (did done told after) = RoomAfter n told after
RoomBehind n (refuses why) = ⊤
RoomBehind n waits = ⊤

-- ---- chains

step-below : (n f : ℕ) (o : Option Frame) (outwards : ℕ → List Environ) → ((frame : Frame) → o ≡ Some frame → frame.scope < n)
    → ((g : ℕ) → ChainBelow n (outwards g)) → ChainBelow n (chain_step f o outwards)
step-below n f None outwards p q = tt
step-below n f (Some frame) outwards p q = (p frame refl, rest (nat_eq f 0))
  where
    rest : (b : Bool) → ChainBelow n (if b then [] else outwards frame.outer)
    rest true = tt
    rest false = q frame.outer

within-below : (n m : ℕ) (frames : List Frame) → FramesBelow n frames → (f : ℕ) → ChainBelow n (chain_within m frames f)
within-below n zero frames p f = tt
within-below n (suc m) frames p f = step-below n f (slice_get frames f) (chain_within m frames) (p f) (within-below n m frames p)

chain-below : (n : ℕ) (frames : List Frame) (f : ℕ) → FramesBelow n frames → ChainBelow n (chain_of frames f)
unfolding chain_of
chain-below n frames f p = within-below n (suc f) frames p f

-- ---- acts

same-room : (s : Store) (told : Reply) (t : Store) → FramesBelow (length s.frames) s.frames → t.frames ≡ s.frames → ReplyBelow (length t.frames) told
    → RoomAfter (length s.frames) told t
same-room s told t p e r = record {
  least = omega (arith, ap (λ l. length l) e);
  most = omega (arith, ap (λ l. length l) e);
  below = rw e p;
  reply = r;
}

counted-room : (n k : ℕ) (o : Outcome) → RoomBehind n o → RoomBehind n (within_count k o)
counted-room n k o p = test (nat_lt most_counted k)
  where
    test : (b : Bool) → RoomBehind n (if b then refuses fault.Cells else o)
    test true = tt
    test false = p

enter-frames : (frames : List Frame) (new : Frame) → FramesBelow (length frames) frames → new.scope ≤ length frames
    → FramesBelow (length (frames ++ new ∷ [])) (frames ++ new ∷ [])
enter-frames frames new p q f frame e =
    let long = length-append frames (new ∷ []) in
    elim (get-append_cases frames new f frame e) [
      | inl w ↦ let same : frame.scope ≡ new.scope = ap (λ (x : Frame). x.scope) w.1 in omega (arith, long, same, q)
      | inr w ↦ omega (arith, long, p f frame w)
    ]

enter-room : (s : Store) (outer scope slots : ℕ) → FramesBelow (length s.frames) s.frames → scope ≤ length s.frames → RoomBehind (length s.frames) (entered outer scope slots s)
enter-room s outer scope slots p q =
    let new : Frame = record { outer = outer; scope = scope; slots = replicate slots None } in
    let frames : List Frame = s.frames ++ new ∷ [] in
    let below : FramesBelow (length frames) frames = enter-frames s.frames new p q in
    let long : length frames ≡ length s.frames + 1 = length-append s.frames (new ∷ []) in
    counted-room (length s.frames) (counted s + slots) (did (act.Enter (length s.frames)) (reply.Frame (chain_of frames (length s.frames))) (record s { frames = frames })) (record {
      least = omega (arith, long);
      most = omega (arith, long);
      below = below;
      reply = chain-below (length frames) frames (length s.frames) below;
    })

bind-frames : (frames : List Frame) (f i : ℕ) (frame : Frame) (v : Content) → FramesBelow (length frames) frames → slice_get frames f ≡ Some frame
    → let after = slice_set frames f (record frame { slots = slice_set frame.slots i (Some v) }) in FramesBelow (length after) after
bind-frames frames f i frame v p is g other e =
    let long = length-set frames f (record frame { slots = slice_set frame.slots i (Some v) }) in
    elim (get-set_cases frames f g _ other e) [
      | inl w ↦ let same : other.scope ≡ frame.scope = ap (λ (x : Frame). x.scope) w.1 in omega (arith, long, same, p f frame is)
      | inr w ↦ omega (arith, long, p g other w)
    ]

bind-room : (s : Store) (f i : ℕ) (frame : Frame) (v : Content) (old : Option (Option Content)) → FramesBelow (length s.frames) s.frames → slice_get s.frames f ≡ Some frame
    → RoomBehind (length s.frames) (bound s f i frame v old)
bind-room s f i frame v None p is = tt
bind-room s f i frame v (Some old) p is = test (nat_lt (most_counted + slot_weight old) (counted s + slot_weight (Some v)))
  where
    after : Store
    after = record s { frames = slice_set s.frames f (record frame { slots = slice_set frame.slots i (Some v) }) }

    test : (b : Bool) → RoomBehind (length s.frames) (if b then refuses fault.Cells else did (act.Bind f i) reply.Go (record s { frames = slice_set s.frames f (record frame { slots = slice_set frame.slots i (Some v) }) }))
    test true = tt
    test false =
        let long = length-set s.frames f (record frame { slots = slice_set frame.slots i (Some v) }) in
        record { least = omega (arith, long); most = omega (arith, long); below = bind-frames s.frames f i frame v p is; reply = tt }

look-room : (s : Store) (f i : ℕ) (slot : Option (Option Content)) → FramesBelow (length s.frames) s.frames → RoomBehind (length s.frames) (looked s f i slot)
look-room s f i None p = tt
look-room s f i (Some None) p = tt
look-room s f i (Some (Some v)) p = same-room s (reply.Value v) s p refl tt

enter-in : (s : Store) (outer scope slots : ℕ) (o : Option Frame) → FramesBelow (length s.frames) s.frames → scope ≤ length s.frames
    → RoomBehind (length s.frames) (option_map_or (λ frame. entered outer scope slots s) o (refuses fault.Kind))
enter-in s outer scope slots None p q = tt
enter-in s outer scope slots (Some frame) p q = enter-room s outer scope slots p q

bind-in : (s : Store) (f i : ℕ) (v : Content) (o : Option Frame) → FramesBelow (length s.frames) s.frames → slice_get s.frames f ≡ o
    → RoomBehind (length s.frames) (option_map_or (λ (frame : Frame). bound s f i frame v (slice_get frame.slots i)) o (refuses fault.Kind))
bind-in s f i v None p is = tt
bind-in s f i v (Some frame) p is = bind-room s f i frame v (slice_get frame.slots i) p is

look-in : (s : Store) (f i : ℕ) (o : Option Frame) → FramesBelow (length s.frames) s.frames
    → RoomBehind (length s.frames) (option_map_or (λ (frame : Frame). looked s f i (slice_get frame.slots i)) o (refuses fault.Kind))
look-in s f i None p = tt
look-in s f i (Some frame) p = look-room s f i (slice_get frame.slots i) p

make-in : (s : Store) (plan : Plan) (b : Bool) → FramesBelow (length s.frames) s.frames → RoomBehind (length s.frames) (if b then made s plan else refuses fault.Kind)
make-in s plan false p = tt
make-in s plan true p =
    let cells = s.cells ++ cells_from (length s.cells) plan in
    counted-room (length s.frames) (counted s + length plan.cells) (did (act.Make (length s.cells) (length plan.cells)) (reply.Base (length s.cells)) (record s { cells = cells }))
    (same-room s (reply.Base (length s.cells)) (record s { cells = cells }) p refl tt)

fetch-in : (s : Store) (c : ℕ) (o : Option Held) → FramesBelow (length s.frames) s.frames
    → RoomBehind (length s.frames) (option_map_or (λ held. did (act.Fetch c) (reply.Held held) s) o (refuses fault.Kind))
fetch-in s c None p = tt
fetch-in s c (Some held) p = same-room s (reply.Held held) s p refl tt

assign-in : (s : Store) (c : ℕ) (held : Held) (o : Option Held) → FramesBelow (length s.frames) s.frames
    → RoomBehind (length s.frames) (option_map_or (λ (old : Held). did (act.Assign c) reply.Go (record s { cells = slice_set s.cells c held })) o (refuses fault.Kind))
assign-in s c held None p = tt
assign-in s c held (Some old) p = same-room s reply.Go (record s { cells = slice_set s.cells c held }) p refl tt

raise-in : (s : Store) (c : ℕ) (o : Option ℤ) → FramesBelow (length s.frames) s.frames → RoomBehind (length s.frames) (option_map_or (raised s c) o (refuses fault.Kind))
raise-in s c None p = tt
raise-in s c (Some i) p = test (is_int (i +ℤ pos 1))
  where
    test : (b : Bool) → RoomBehind (length s.frames) (if b then did (act.Up c) reply.Go (with_count s c (i +ℤ pos 1)) else refuses fault.Overflow)
    test true = same-room s reply.Go (with_count s c (i +ℤ pos 1)) p refl tt
    test false = tt

lower-in : (s : Store) (c : ℕ) (o : Option ℤ) → FramesBelow (length s.frames) s.frames → RoomBehind (length s.frames) (option_map_or (lowered s c) o (refuses fault.Kind))
lower-in s c None p = tt
lower-in s c (Some i) p = test (int_lt i (pos 1))
  where
    test : (b : Bool) → RoomBehind (length s.frames) (if b then waits else did (act.Down c) reply.Go (with_count s c (i -ℤ pos 1)))
    test true = tt
    test false = same-room s reply.Go (with_count s c (i -ℤ pos 1)) p refl tt

print-in : (s : Store) (text : List ℕ) (b : Bool) → FramesBelow (length s.frames) s.frames
    → RoomBehind (length s.frames) (if b then refuses fault.Text else did (act.Print (length s.text) (length s.text + length text)) reply.Go (record s { text = s.text ++ text }))
print-in s text true p = tt
print-in s text false p = same-room s reply.Go (record s { text = s.text ++ text }) p refl tt

fork-in : (s : Store) (n : ℕ) (b : Bool) → FramesBelow (length s.frames) s.frames
    → RoomBehind (length s.frames) (if b then refuses fault.Strands else did (act.Fork s.strands n) (reply.Base s.strands) (record s { strands = s.strands + n }))
fork-in s n true p = tt
fork-in s n false p = same-room s (reply.Base s.strands) (record s { strands = s.strands + n }) p refl tt

-- an act leaves room where it asks for no scope that is too great
pub does-room : (w : Want) (s : Store) → FramesBelow (length s.frames) s.frames → WantBelow (length s.frames) w → RoomBehind (length s.frames) (does w s)
unfolding does
does-room (want.Enter outer scope slots) s p q = enter-in s outer scope slots (slice_get s.frames outer) p q
does-room (want.Bind f i v) s p q = bind-in s f i v (slice_get s.frames f) p refl
does-room (want.Look f i) s p q = look-in s f i (slice_get s.frames f) p
does-room (want.Make plan) s p q = make-in s plan (is_closed plan) p
does-room (want.Fetch c) s p q = fetch-in s c (slice_get s.cells c) p
does-room (want.Assign c held) s p q = assign-in s c held (slice_get s.cells c) p
does-room (want.Print text) s p q = print-in s text (nat_lt most_printed (length s.text + length text)) p
does-room want.Turn s p q = same-room s reply.Go s p refl tt
does-room (want.Up c) s p q = raise-in s c (count_in s c) p
does-room (want.Down c) s p q = lower-in s c (count_in s c) p
does-room (want.Fork entrances) s p q = fork-in s (length entrances) (nat_lt most_strands (s.strands + length entrances)) p
does-room want.Close s p q = same-room s reply.Go s p refl tt
