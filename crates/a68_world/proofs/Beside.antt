-- What a strand does that is alone, it does beside strands that have closed.
use Rattle.std.proofs.Common.{◌≡◌, ◌∙◌, append-nil, ℕ, zero, suc, ◌+◌, ◌≤◌, Bool, true, false, List, [], ◌∷◌, ◌++◌, length, length-append, map, refl, ap, sym, subst, arith, true≢false}
use Rattle.std.proofs.Math.ListN.{length-set}
use Rattle.std.specs.Option.{option_map_or}
use Rattle.std.specs.Prelude.{◌&&◌, None, Some, slice_get, slice_set, if◌then◌else◌}
use Rattle.std.specs.declared.option.Option.{Option}
use Rattle.a68_acts.specs.Store.{Store}
use Rattle.a68_alone.specs.Alone.{sole}
use Rattle.a68_code.specs.declared.code.Code.{Code}
use Rattle.a68_exec.proofs.Settled.{settle_still}
use Rattle.a68_exec.specs.Runs.{World, Machine, IfNext, acted, after, begun, has_closed, is_passive, all_closed, woken, woken_in}
use Rattle.a68_instructions.specs.Machine.{State, next_state, replied, settle, silently}
use Rattle.a68_instructions.specs.declared.ask.Stance.{Stance}
use Rattle.a68_instructions.specs.declared.ask.Stance.TheVariants.{Idle, Asking, Failed, Waits, Closed}
use Rattle.a68_strand.proofs.Waking.{woken_still}
use Rattle.a68_values.specs.declared.act.Act.{Act}
use Rattle.a68_values.specs.declared.act.Entry.{Entry}
use Rattle.a68_world.specs.Alone.{AllOwn}
use Rattle.a68_world.proofs.Ended.{closed_stance}
use Rattle.a68_world.proofs.Closing.{closed_rests}
use Rattle.a68_world.proofs.Places.{is_within, length_map}
use Rattle.a68_world.proofs.Showing.{next_act}
use Rattle.a68_world.proofs.Steady.{acted_is}

-- each of them has closed
abbrev pub AllClosed : List State → Type 0
AllClosed others = (k : ℕ) (o : State) → slice_get others k ≡ Some o → has_closed o.stance ≡ true

-- the world of a strand and others
abbrev pub besides : Store → State → List State → World
besides store st others = record { store = store; strands = st ∷ others }

abbrev world-of : Store → List State → World
world-of store strands = record { store = store; strands = strands }

-- ---- there are no fewer strands behind an act

pub grows_one : (code : Code) (w : World) (n : ℕ) (act : Act) (behind : World) → acted code w n ≡ Some (act, behind) → length w.strands ≤ length behind.strands
grows_one code w n act behind next =
    let a = acted_is code w n act behind next in
    let all : List State = slice_set w.strands n (settle code (replied code a.st a.reply)) ++ begun code a.st a.want in
    let long : length behind.strands ≡ length all = ap (λ (x : World). length x.strands) a.is ∙ length_map (woken code all) all in
    let parts : length all ≡ length (slice_set w.strands n (settle code (replied code a.st a.reply))) + length (begun code a.st a.want) =
    length-append (slice_set w.strands n (settle code (replied code a.st a.reply))) (begun code a.st a.want) in
    omega (arith, long, parts, length-set w.strands n (settle code (replied code a.st a.reply)))

grows-next : (code : Code) (w : World) (n : ℕ) (o : Option (Act × World)) (act : Act) (es : List Entry) (end : World) → acted code w n ≡ o
    → ((b : World) → Machine code b es end → length b.strands ≤ length end.strands) → IfNext o act (λ b. Machine code b es end) → length w.strands ≤ length end.strands
grows-next code w n None act es end is again runs = absurd runs
grows-next code w n (Some next) act es end is again runs = omega (arith, grows_one code w n next.0 next.1 is, again next.1 runs.1)

pub grows : (code : Code) (w : World) (es : List Entry) (end : World) → Machine code w es end → length w.strands ≤ length end.strands
grows code w [] end runs = omega (arith, ap (λ (x : World). length x.strands) runs)
grows code w (e ∷ es) end runs = grows-next code w e.strand (acted code w e.strand) e.act es end refl (λ b r. grows code b es end r) runs

-- ---- one act

none-of : {A : Type 0} (xs : List A) → length xs ≤ 0 → xs ≡ []
none-of [] h = refl
none-of (x ∷ xs) h = absurd (omega (arith, h))

first-of : (strands : List State) (n : ℕ) (st : State) → length strands ≤ 1 → slice_get strands n ≡ Some st → n ≡ 0
first-of strands n st few there = omega (arith, few, is_within strands n st there)

own-next : (code : Code) (w : World) (n : ℕ) (o : Option (Act × World)) (act : Act) (es : List Entry) (end : World) → acted code w n ≡ o → length w.strands ≤ 1
    → ((b : World) → Machine code b es end → AllOwn es) → IfNext o act (λ b. Machine code b es end) → (n ≡ 0) × AllOwn es
own-next code w n None act es end is few again runs = absurd runs
own-next code w n (Some next) act es end is few again runs = let a = acted_is code w n next.0 next.1 is in (first-of w.strands n a.st few a.there, again next.1 runs.1)

-- where there is one strand each entry is of it
pub own_entries : (code : Code) (w : World) (es : List Entry) (end : World) → Machine code w es end → length end.strands ≤ 1 → AllOwn es
own_entries code w [] end runs few = tt
own_entries code w (e ∷ es) end runs few =
    let low : length w.strands ≤ 1 = omega (arith, grows code w (e ∷ es) end runs, few) in
    own-next code w e.strand (acted code w e.strand) e.act es end refl low (λ b r. own_entries code b es end r few) runs

module _ (code : Code) (others : List State) (closed : AllClosed others) where
  -- those that have closed stay
  still : (all : List State) (xs : List State) → ((k : ℕ) (o : State) → slice_get xs k ≡ Some o → has_closed o.stance ≡ true) → map (woken code all) xs ≡ xs
  still all [] h = refl
  still all (x ∷ xs) h =
      let is : x.stance ≡ Closed = closed_stance x.stance (h 0 x refl) in
      let here_ : woken code all x ≡ x = woken_still code all x (closed_rests code x (h 0 x refl)) (λ f c w. absurd (cc (is, w))) in
      ap (λ (y : State). y ∷ map (woken code all) xs) here_ ∙ ap (λ (l : List State). x ∷ l) (still all xs (λ k o e. h (suc k) o e))

  none-closed : (next : State) (f c : ℕ) → has_closed next.stance ≡ false → all_closed (next ∷ []) f (suc c) ≡ false
  none-closed next zero c open_ = ap (λ b. b && all_closed (next ∷ []) 1 c) open_
  none-closed next (suc f) c open_ = refl

  -- a strand that goes on where it is alone goes on so beside the others
  woken-beside : (next : State) → is_passive (woken code (next ∷ []) next).stance ≡ false → woken code (next ∷ others) next ≡ woken code (next ∷ []) next
  woken-beside next live = by next.stance refl
    where
      alike : (m : Stance) → next.stance ≡ m → settle code (woken_in (next ∷ others) next m) ≡ settle code (woken_in (next ∷ []) next m) → woken code (next ∷ others) next ≡ woken code (next ∷ []) next
      alike m e same = ap (λ (x : Stance). settle code (woken_in (next ∷ others) next x)) e ∙ same ∙ sym (ap (λ (x : Stance). settle code (woken_in (next ∷ []) next x)) e)

      stays : (f c : ℕ) → next.stance ≡ Waits f (suc c) → woken code (next ∷ []) next ≡ next
      stays f c e =
          let rests : next_state code next ≡ None = ap (λ (m : Stance). silently code m next) e in
          ap (λ (m : Stance). settle code (woken_in (next ∷ []) next m)) e
          ∙ ap (λ (b : Bool). settle code (if b then record next { at = suc next.at; stance = Idle } else next)) (none-closed next f c (ap has_closed e)) ∙ settle_still code next rests

      by : (m : Stance) → next.stance ≡ m → woken code (next ∷ others) next ≡ woken code (next ∷ []) next
      by Idle e = alike Idle e refl
      by (Asking w wait) e = alike (Asking w wait) e refl
      by (Failed why) e = alike (Failed why) e refl
      by Closed e = alike Closed e refl
      by (Waits f zero) e = alike (Waits f zero) e refl
      by (Waits f (suc c)) e = absurd (true≢false (sym (ap is_passive e) ∙ sym (ap (λ (x : State). is_passive x.stance) (stays f c e)) ∙ live))

  -- the act of a strand that is alone, as it is beside the others
  record ActsSo (store : Store) (st : State) (act : Act) (behind : World) : Type 0 where
    pub after_store : Store
    pub to : State
    pub sole_is : behind ≡ sole after_store to
    pub beside_is : is_passive to.stance ≡ false → acted code (besides store st others) 0 ≡ Some (act, besides after_store to others)

  one-act : (store : Store) (st : State) (act : Act) (behind : World) → acted code (sole store st) 0 ≡ Some (act, behind) → length behind.strands ≤ 1 → ActsSo store st act behind
  one-act store st act behind e few =
      let a = acted_is code (sole store st) 0 act behind e in
      let next : State = settle code (replied code a.st a.reply) in
      let new : List State = begun code a.st a.want in
      let none : new ≡ [] = none-of new (omega (arith, few, ap (λ (x : World). length x.strands) a.is, length_map (woken code (next ∷ new)) (next ∷ new))) in
      let to : State = woken code (next ∷ []) next in
      record {
        after_store = a.store;
        to = to;
        sole_is = a.is ∙ ap (λ (l : List State). world-of a.store (map (woken code (next ∷ l)) (next ∷ l))) none;
        beside_is = λ live.
            let at : slice_get (st ∷ others) 0 ≡ Some a.st = a.there in
            let all : (next ∷ others) ++ new ≡ next ∷ others = ap (λ (l : List State). (next ∷ others) ++ l) none ∙ append-nil (next ∷ others) in
            let woke : map (woken code (next ∷ others)) (next ∷ others) ≡ to ∷ others =
            ap (λ (y : State). y ∷ map (woken code (next ∷ others)) others) (woken-beside next live) ∙ ap (λ (l : List State). to ∷ l) (still (next ∷ others) others closed) in
            next_act code (besides store st others) 0 a.st a.want a.wait at a.asks ∙ ap (after code (besides store st others) 0 a.st a.want) a.does_it
            ∙ ap (λ (l : List State). Some (act, world-of a.store (map (woken code l) l))) all ∙ ap (λ (l : List State). Some (act, world-of a.store l)) woke;
      }

  -- ---- one after the other

  its-number : (store : Store) (st : State) (n : ℕ) (act : Act) (behind : World) → acted code (sole store st) n ≡ Some (act, behind) → n ≡ 0
  its-number store st n act behind e = let a = acted_is code (sole store st) n act behind e in first-of (st ∷ []) n a.st (omega arith) a.there

  abbrev first-passive : World → Bool
  first-passive w = option_map_or (λ (x : State). is_passive x.stance) (slice_get w.strands 0) false

  asks-first : (store : Store) (st : State) (n : ℕ) (o : Option (Act × World)) (act : Act) (P : World → Type 0) → acted code (sole store st) n ≡ o → IfNext o act P → is_passive st.stance ≡ false
  asks-first store st n None act P e runs = absurd runs
  asks-first store st n (Some next) act P e runs =
      let zero-is : n ≡ 0 = its-number store st n next.0 next.1 e in
      let a = acted_is code (sole store st) 0 next.0 next.1 (ap (acted code (sole store st)) (sym zero-is) ∙ e) in
      ap (λ o. option_map_or (λ (x : State). is_passive x.stance) o false) a.there ∙ ap is_passive a.asks

  live-first : (es : List Entry) (store : Store) (st : State) (end : Store) (to : State) → Machine code (sole store st) es (sole end to) → is_passive to.stance ≡ false → is_passive st.stance ≡ false
  live-first [] store st end to runs live = ap first-passive runs ∙ live
  live-first (e ∷ es) store st end to runs live = asks-first store st e.strand (acted code (sole store st) e.strand) e.act (λ b. Machine code b es (sole end to)) refl runs

  beside-next : (store : Store) (st : State) (n : ℕ) (o : Option (Act × World)) (act : Act) (es : List Entry) (end : Store) (to : State) → acted code (sole store st) n ≡ o
      → ((s : Store) (x : State) → Machine code (sole s x) es (sole end to) → Machine code (besides s x others) es (besides end to others)) → is_passive to.stance ≡ false
      → IfNext o act (λ b. Machine code b es (sole end to)) → IfNext (acted code (besides store st others) n) act (λ b. Machine code b es (besides end to others))
  beside-next store st n None act es end to is again live runs = absurd runs
  beside-next store st n (Some next) act es end to is again live runs =
      let zero-is : n ≡ 0 = its-number store st n next.0 next.1 is in
      let first : acted code (sole store st) 0 ≡ Some (next.0, next.1) = ap (acted code (sole store st)) (sym zero-is) ∙ is in
      let one = one-act store st next.0 next.1 first (grows code next.1 es (sole end to) runs.1) in
      let rest : Machine code (sole one.after_store one.to) es (sole end to) = subst (λ (w : World). Machine code w es (sole end to)) one.sole_is runs.1 in
      let acts : acted code (besides store st others) n ≡ Some (next.0, besides one.after_store one.to others) =
      ap (acted code (besides store st others)) zero-is ∙ one.beside_is (live-first es one.after_store one.to end to rest live) in
      let both : IfNext (Some (next.0, besides one.after_store one.to others)) act (λ b. Machine code b es (besides end to others)) = (runs.0, again one.after_store one.to rest) in
      subst (λ (o : Option (Act × World)). IfNext o act (λ b. Machine code b es (besides end to others))) (sym acts) both

  pub beside : (es : List Entry) (store : Store) (st : State) (end : Store) (to : State) → Machine code (sole store st) es (sole end to) → is_passive to.stance ≡ false
      → Machine code (besides store st others) es (besides end to others)
  beside [] store st end to runs live = ap (λ (w : World). world-of w.store (w.strands ++ others)) runs
  beside (e ∷ es) store st end to runs live =
      beside-next store st e.strand (acted code (sole store st) e.strand) e.act es end to refl (λ s x r. beside es s x end to r live) live runs
