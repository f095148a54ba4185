-- A strand runs its silent instructions, and the term follows.
use Rattle.std.proofs.Common.{◌≡◌, ◌<◌, ◌≤◌, ◌⊎◌, ◌+◌, ◌*◌, ℕ, zero, suc, arith, Bool, true, false, List, [], length, None, Some, refl, sym, ap, ◌∙◌, subst, inl, inr}
use Rattle.std.proofs.Math.Nat.{mul-suc}
use Rattle.std.proofs.lemmas.Option.{same_Some}
use Rattle.std.specs.Option.{option_map, option_map_or}
use Rattle.std.specs.Prelude.{if◌then◌else◌}
use Rattle.std.specs.declared.option.Option.{Option}
use Rattle.a68_acts.specs.Operations.{has_turn}
use Rattle.a68_acts.specs.declared.operation.Counter.{Counter}
use Rattle.a68_code.specs.Flow.{does_at}
use Rattle.a68_code.specs.declared.code.Code.{Code}
use Rattle.a68_code.specs.declared.does.Does.{Does}
use Rattle.a68_code.specs.declared.does.Does.TheVariants as does
use Rattle.a68_elab.specs.Rows.{goes, acts, meets}
use Rattle.a68_elab.specs.Terms.{Term, yielded}
use Rattle.a68_elab.specs.Trees.{Program}
use Rattle.a68_sim.proofs.Asking.{seen_in, seen, Forth}
use Rattle.a68_sim.proofs.Finishing.{Finish, program_end, unit_end, EndsAt, Works, Closes, never_waits, closes, works, closed, work_progress, no_step}
use Rattle.a68_sim.proofs.Quiet.{Quiet, still, quiet_on, IsOpen, Follows, Progress, moves, finishes, leaps, Moves}
use Rattle.a68_sim.proofs.Routines.{TextsStand}
use Rattle.a68_exec.proofs.Settled as rest
use Rattle.a68_instructions.specs.Machine.{settle, State, Stack, at_end, does_one, silently, settle_in, steps, goes_on, goes_to, told_by, place_at}
use Rattle.a68_stack.specs.Values.{callers, top_counter}
use Rattle.a68_instructions.specs.declared.ask.Stance.{Stance}
use Rattle.a68_instructions.specs.declared.ask.Stance.TheVariants.{Idle, Asking, Failed, Waits, Closed}
use Rattle.a68_values.specs.Content.{Content}
use Rattle.a68_values.specs.declared.chain.Environ.{Environ}

abbrev pub state : ℕ → Stack → List Environ → Stance → State
state at stack ch stance = record { at = at; stack = stack; chain = ch; stance = stance }

-- so many silent steps are enough, where the list is so long and so many calls are open
abbrev pub rooms : (long calls : ℕ) → ℕ
rooms long calls = long * (1 + calls)

-- a call that is open has as many steps as the list is long
one_room : (long calls : ℕ) → rooms long (suc calls) ≡ rooms long calls + long
one_room long calls = let e : 1 + suc calls ≡ suc (1 + calls) = omega arith in ap (λ n. long * n) e ∙ mul-suc long (1 + calls)

at_least : (long calls : ℕ) → long ≤ rooms long calls
at_least long zero = let e : 1 + zero ≡ suc zero = omega arith in let x = ap (λ n. long * n) e ∙ mul-suc long zero in omega (arith, x)
at_least long (suc calls) = omega (arith, one_room long calls)

module _ (code : Code) where
  abbrev L : ℕ
  L = length code.list

  -- n steps are enough from a place, where so many calls are open: it lies so far from the end of the list; or it is the
  -- Step to which the end of a loop has gone back, and the loop is left so far from the end; or it is a Turn
  pub record AtStep (n calls at : ℕ) : Type 0 where
    pub behind : ℕ
    pub step : does_at code.list at ≡ Some (does.Step behind)
    pub turn : does_at code.list (suc at) ≡ Some does.Turn
    pub inside : behind < length code.list
    pub enough : rooms L calls < n + behind

  abbrev pub EnoughOf : ℕ → ℕ → ℕ → Type 0
  EnoughOf n calls at = (rooms L calls ≤ n + at) ⊎ (AtStep n calls at ⊎ ((does_at code.list at ≡ Some does.Turn) × (0 < n)))

  abbrev pub Enough : ℕ → State → Type 0
  Enough n st = EnoughOf n (callers st.stack.items) st.at

  some_left : (calls at : ℕ) → EnoughOf 0 calls at → at < L → ⊥
  some_left calls at (inl far) inside = let a = at_least L calls in absurd (omega arith)
  some_left calls at (inr (inl s)) inside = let a = s.inside in let b = s.enough in let c = at_least L calls in absurd (omega arith)
  some_left calls at (inr (inr t)) inside = let b = t.1 in absurd (omega arith)

  -- the next step at an instruction
  abbrev stepped : State → Option Does → Option State
  stepped st o = if at_end o then None else Some (does_one code o st)

  by_calls : (n calls others at : ℕ) → others ≡ calls → EnoughOf n calls at → EnoughOf n others at
  by_calls n calls others at e x = subst (λ (y : ℕ). EnoughOf n y at) (sym e) x

  -- a silent step leaves enough
  enough_left : (n at : ℕ) (stack : Stack) (ch : List Environ) (next : State) → at < L → Enough (suc n) (state at stack ch Idle)
      → silently code Idle (state at stack ch Idle) ≡ Some next → next.stance ≡ Idle → Forth code (state at stack ch Idle) (goes next) → Enough n next
  enough_left n at stack ch next inside (inl far) e idles (inl (same, inl on)) = by_calls n (callers stack.items) (callers next.stack.items) next.at same (inl (omega arith))
  enough_left n at stack ch next inside (inl far) e idles (inl (same, inr back)) =
      let a = back.leaves in
      by_calls n (callers stack.items) (callers next.stack.items) next.at same
      (inr (inl (record { behind = back.behind; step = back.step; turn = back.turn; inside = back.inside; enough = omega arith })))
  enough_left n at stack ch next inside (inl far) e idles (inr out) =
      let x : rooms L (suc (callers next.stack.items)) ≤ suc n + at = subst (λ (y : ℕ). rooms L y ≤ suc n + at) out far in
      let y = one_room L (callers next.stack.items) in
      inl (omega arith)
  enough_left n at stack ch next inside (inr (inr t)) e idles forth =
      let x = sym (ap (stepped (state at stack ch Idle)) t.0) ∙ e in
      let y = same_Some _ next x in
      let z = ap (λ (s : State). s.stance) y ∙ idles in
      absurd (cc)
  enough_left n at stack ch next inside (inr (inl s)) e idles forth = by_counter (top_counter stack.items) (sym (ap (stepped st) s.step) ∙ e)
    where
      st : State
      st = state at stack ch Idle

      by_test : (c : Counter) (x : Bool) → Some (if x then goes_on st stack.items else goes_to st s.behind stack.items) ≡ Some next → Enough n next
      by_test c true q =
          let y = same_Some _ next q in
          let a = s.inside in let b = s.enough in let m = at_least L (callers stack.items) in
          subst (λ (z : State). Enough n z) y (inr (inr (s.turn, omega arith)))
      by_test c false q =
          let y = same_Some _ next q in
          let b = s.enough in
          subst (λ (z : State). Enough n z) y (inl (omega arith))

      by_counter : (o : Option Counter) → Some (steps st s.behind o) ≡ Some next → Enough n next
      by_counter None q = let z = ap (λ (s : State). s.stance) (same_Some _ next q) ∙ idles in absurd (cc)
      by_counter (Some c) q = by_test c (has_turn c) q

-- a program alone comes to its end without an act: its term yields silently
abbrev pub Yields : Program → Finish → Term → Type 0
Yields program (program_end b home) t = (v : Content) × Quiet program t (yielded v)
Yields program (unit_end p k ch) t = ⊥

-- where a strand has settled, the term has followed it
abbrev pub SettledIn : Program → Code → Finish → Stance → Term → State → Type 0
SettledIn program code how Idle t st = Yields program how t
SettledIn program code how (Asking w wait) t st = Follows program code (Works code how) t (acts (place_at code.list st.at) w (told_by code st wait))
SettledIn program code how (Failed why) t st = (t' : Term) × Quiet program t t' × IsOpen program t' (meets why (place_at code.list st.at))
SettledIn program code how (Waits first count) t st = ⊥
SettledIn program code how Closed t st = Closes how t

abbrev pub Settled : Program → Code → Finish → Term → State → Type 0
Settled program code how t st = SettledIn program code how st.stance t st

-- possibly after silent steps the term arrives where the strand has settled
abbrev pub Arrives : Program → Code → Finish → Term → State → Type 0
Arrives program code how t st = (t' : Term) × Quiet program t t' × Settled program code how t' st

-- a strand whose work is done has settled
done_settled : (program : Program) (code : Code) (how : Finish) (v : Content) (st : State) → Works code how (yielded v) st → Settled program code how (yielded v) st
done_settled program code (program_end b home) v st s = subst (Settled program code (program_end b home) (yielded v)) (sym s) (v, still)
done_settled program code (unit_end p k ch) v st (works u is s) = absurd (cc)
done_settled program code (unit_end p k ch) v st (closed w is c) = subst (λ (x : Stance). SettledIn program code (unit_end p k ch) x (yielded v) st) (sym c) (v, refl)

module _ (program : Program) (code : Code) (same : code.modes ≡ program.modes) (texts : TextsStand program code) (how : Finish) (end : EndsAt code how) where
  abbrev K : Term → State → Type 0
  K = Works code how

  abbrev Here : Term → State → Type 0
  Here t st = Arrives program code how t st

  -- a step on which the strand asks, fails or goes on
  by_next : (n : ℕ) (t : Term) (at : ℕ) (stack : Stack) (ch : List Environ) (stance : Stance)
      → Follows program code K t (seen code (state at stack ch stance))
      → ((t' : Term) → stance ≡ Idle → K t' (state at stack ch stance) → Here t' (settle_in n code (state at stack ch stance)))
      → Here t (settle_in n code (state at stack ch stance))
  by_next n t at stack ch Idle f more = let x = more f.0 refl f.2 in (x.0, quiet_on f.1 x.1, x.2)
  by_next n t at stack ch (Asking w wait) f more = subst (Here t) (sym (rest.still n code (state at stack ch (Asking w wait)) refl)) (t, still, f)
  by_next n t at stack ch (Failed why) f more = subst (Here t) (sym (rest.still n code (state at stack ch (Failed why)) refl)) (t, still, f)
  by_next n t at stack ch (Waits first count) f more = absurd (never_waits code how f.0 (state at stack ch (Waits first count)) first count f.2 refl)
  by_next n t at stack ch Closed f more =
      subst (Here t) (sym (rest.still n code (state at stack ch Closed) refl)) (f.0, f.1, closes code how f.0 (state at stack ch Closed) f.2 refl)

  by_stance : (n : ℕ) (t : Term) (at : ℕ) (stack : Stack) (ch : List Environ) (stance : Stance)
      → Enough code n (state at stack ch stance) → Moves program code K t (state at stack ch stance)
      → ((k : ℕ) (t' : Term) (next : State) → n ≡ suc k → K t' next → Enough code k next → Here t' (settle_in k code next))
      → Here t (settle_in n code (state at stack ch stance))
  by_stance n t at stack ch (Asking w wait) enough m more =
      subst (Here t) (sym (rest.still n code (state at stack ch (Asking w wait)) refl))
      (t, still, subst (Follows program code K t) (sym (same_Some _ m.what m.asks)) m.follows)
  by_stance n t at stack ch (Failed why) enough m more =
      subst (Here t) (sym (rest.still n code (state at stack ch (Failed why)) refl)) (t, still, subst (Follows program code K t) (sym (same_Some _ m.what m.asks)) m.follows)
  by_stance n t at stack ch (Waits first count) enough m more = let e = m.asks in absurd (cc)
  by_stance n t at stack ch Closed enough m more = let e = m.asks in absurd (cc)
  by_stance n t at stack ch Idle enough m more = by_step n enough (silently code Idle st) refl m.asks more
    where
      st : State
      st = state at stack ch Idle

      by_step : (n : ℕ) → Enough code n st → (o : Option State) → silently code Idle st ≡ o → option_map (seen code) o ≡ Some m.what
          → ((k : ℕ) (t' : Term) (next : State) → n ≡ suc k → K t' next → Enough code k next → Here t' (settle_in k code next))
          → Here t (settle_in n code st)
      by_step n enough None e a more = absurd (cc)
      by_step zero enough (Some next) e a more = absurd (some_left code (callers stack.items) at enough m.inside)
      by_step (suc k) enough (Some next) e a more =
          let w : seen code next ≡ m.what = same_Some _ m.what a in
          subst (λ (o : Option State). Here t (option_map_or (settle_in k code) o st)) (sym e)
          (by_next k t next.at next.stack next.chain next.stance (subst (Follows program code K t) (sym w) m.follows)
          (λ t' idles kt. more k t' next refl kt
          (enough_left code k at stack ch next m.inside enough e idles (subst (Forth code st) (sym w ∙ ap (λ (md : Stance). seen_in code md next) idles) m.forth))))

  by_progress : (n : ℕ) (t : Term) (st : State) → Enough code n st → Progress program code [] K t st
      → ((k : ℕ) (t' : Term) (next : State) → n ≡ suc k → K t' next → Enough code k next → Here t' (settle_in k code next))
      → Here t (settle_in n code st)
  by_progress n t st enough (moves m) more = by_stance n t st.at st.stack st.chain st.stance enough m more
  by_progress n t st enough (finishes v q k) more =
      subst (Here t) (sym (rest.still n code st (no_step code how v st end k))) (yielded v, q, done_settled program code how v st k)
  by_progress n t st enough (leaps x) more = let e = x.found in absurd (cc)

  -- a strand settles, and the term follows it
  settle_follows : (n : ℕ) (t : Term) (st : State) → K t st → Enough code n st → Here t (settle_in n code st)
  settle_follows zero t st k enough =
      by_progress zero t st enough (work_progress program code same texts how t st end k) (λ j t' next e kt left. absurd (omega (arith, e)))
  settle_follows (suc n) t st k enough =
      by_progress (suc n) t st enough (work_progress program code same texts how t st end k)
      (λ j t' next e kt left. let same_n : n ≡ j = omega (arith, e) in
      subst (λ (x : ℕ). Enough code x next → Here t' (settle_in x code next)) same_n (settle_follows n t' next kt) left)

  pub settles : (t : Term) (st : State) → Works code how t st → Arrives program code how t (settle code st)
  unfolding settle
  settles t st k = settle_follows (rooms (length code.list) (callers st.stack.items)) t st k (inl (omega arith))
