-- A code has one run in which the strands take turns.
use Rattle.std.proofs.Common.{◌≡◌, ◌≢◌, ◌≤◌, ◌+◌, ◌++◌, inl, ℕ, List, [], ◌∷◌, length, None, Some, refl, sym, ◌∙◌, ap, subst, arith, slice_get}
use Rattle.std.proofs.lemmas.Option.{same_Some}
use Rattle.std.specs.declared.option.Option.{Option}
use Rattle.a68_acts.specs.Keeping.{outer_slots}
use Rattle.a68_code.specs.declared.code.Code.{Code}
use Rattle.a68_strand.specs.Cyclic.{TakeTurns, IsTurnOf, EndsInTurn, last_of, Cyclic}
use Rattle.a68_strand.specs.Ends.{fault_of, CanActNow, RunEndsWith, HasEnded, done, fault, all_halted, spent}
use Rattle.a68_instructions.specs.Machine.{State, place_at}
use Rattle.a68_strand.specs.RunOf.{RunOf}
use Rattle.a68_exec.specs.Runs.{World, Machine, IfNext, opening, acted}
use Rattle.a68_values.specs.Content.{Content}
use Rattle.a68_values.specs.declared.act.Act.{Act}
use Rattle.a68_values.specs.declared.act.Entry.{Entry}
use Rattle.a68_values.specs.declared.act.FaultKind.{FaultKind}
use Rattle.a68_values.specs.declared.held.Held.{Held}
use Rattle.a68_values.specs.declared.kept.End.{End}
use Rattle.a68_values.specs.declared.kept.End.TheVariants as ends
use Rattle.a68_values.specs.declared.kept.Kept.{Kept}
use Rattle.a68_world.proofs.Ended.{ended_still}
use Rattle.a68_world.proofs.Steady.{steady_goes, steady_opening}
use Rattle.a68_workers.proofs.Turning.{machine_more, no_fault, one_turn_of}

-- what comes next comes of something that can be done
can_next : (o : Option (Act × World)) (a : Act) (P : World → Type 0) → IfNext o a P → o ≢ None
can_next None a P p = absurd p
can_next (Some m) a P p = λ e. absurd (cc)

-- where the first strand has come to its end, no strand can act
pub still : (code : Code) (es : List Entry) (w : World) → Machine code (opening code) es w → HasEnded w 0 → (n : ℕ) → CanActNow code w n → ⊥
still code es w runs ended n can = ended_still code w (steady_goes code 0 (opening code) w es (steady_opening code) runs).kin ended n (inl can)

module _ (code : Code) (fuel : ℕ) where
  -- where the run has an end, the strand whose turn it is does no act
  no_more : (count : ℕ) (before : Option ℕ) (v : World) (past all : List Entry) (end : End) (n : ℕ) → Machine code (opening code) past v → RunEndsWith code fuel all v end → EndsInTurn code v before end
      → length all ≡ count → count + 1 ≤ fuel → IsTurnOf code v before n → CanActNow code v n → ⊥
  no_more count before v past all ends.Done n runs (done h) t long room turn can = still code past v runs h n can
  no_more count before v past all (ends.Fault k p s) n runs (fault un f there at) t long room turn can =
      let same : s ≡ n = one_turn_of code v before s n t turn in
      let both : Some k ≡ None = sym f ∙ ap (fault_of v) same ∙ no_fault code v n can in absurd (cc)
  no_more count before v past all ends.AllHalted n runs (all_halted un none free) t long room turn can = none n can
  no_more count before v past all ends.Spent n runs (spent s un full act) t long room turn can = absurd (omega (arith, full, long, room))

  -- a run that stands at one world has one end
  one_end : (before : Option ℕ) (v : World) (all others : List Entry) (a b : End) → RunEndsWith code fuel all v a → EndsInTurn code v before a → RunEndsWith code fuel others v b → EndsInTurn code v before b → a ≡ b
  one_end before v all others ends.Done ends.Done (done h) t (done i) u = refl
  one_end before v all others ends.Done (ends.Fault k p s) (done h) t (fault un f there at) u = absurd (un h)
  one_end before v all others ends.Done ends.AllHalted (done h) t (all_halted un none free) u = absurd (un h)
  one_end before v all others ends.Done ends.Spent (done h) t (spent s un full act) u = absurd (un h)
  one_end before v all others (ends.Fault k p s) ends.Done (fault un f there at) t (done h) u = absurd (un h)
  one_end before v all others (ends.Fault k p s) (ends.Fault l q r) (fault {st = st} un f there at) t (fault {st = x} un2 g there2 at2) u =
      let same : s ≡ r = one_turn_of code v before s r t u in
      let kinds : k ≡ l = same_Some k l (sym f ∙ ap (fault_of v) same ∙ g) in
      let states : st ≡ x = same_Some st x (sym there ∙ ap (slice_get v.strands) same ∙ there2) in
      let places : p ≡ q = at ∙ ap (λ (y : State). place_at code.list y.at) states ∙ sym at2 in
      ap {A = FaultKind} {B = End} (λ y. ends.Fault y p s) kinds ∙ ap {A = ℕ} {B = End} (λ y. ends.Fault l y s) places ∙ ap {A = ℕ} {B = End} (λ y. ends.Fault l q y) same
  one_end before v all others (ends.Fault k p s) ends.AllHalted (fault un f there at) t (all_halted un2 none free) u =
      let both : Some k ≡ None = sym f ∙ free s in absurd (cc)
  one_end before v all others (ends.Fault k p s) ends.Spent (fault un f there at) t (spent r un2 full act) u =
      let both : Some k ≡ None = sym f ∙ u s t in absurd (cc)
  one_end before v all others ends.AllHalted ends.Done (all_halted un none free) t (done h) u = absurd (un h)
  one_end before v all others ends.AllHalted (ends.Fault l q r) (all_halted un none free) t (fault un2 g there at) u =
      let both : Some l ≡ None = sym g ∙ free r in absurd (cc)
  one_end before v all others ends.AllHalted ends.AllHalted (all_halted un none free) t (all_halted un2 none2 free2) u = refl
  one_end before v all others ends.AllHalted ends.Spent (all_halted un none free) t (spent r un2 full act) u = absurd (none r act)
  one_end before v all others ends.Spent ends.Done (spent s un full act) t (done h) u = absurd (un h)
  one_end before v all others ends.Spent (ends.Fault l q r) (spent s un full act) t (fault un2 g there at) u =
      let both : Some l ≡ None = sym g ∙ t r u in absurd (cc)
  one_end before v all others ends.Spent ends.AllHalted (spent s un full act) t (all_halted un2 none free) u = absurd (none s act)
  one_end before v all others ends.Spent ends.Spent (spent s un full act) t (spent r un2 full2 act2) u = refl

  -- what is left of a run behind so many entries, from a world on
  record Rest (count : ℕ) (before : Option ℕ) (v : World) (es : List Entry) (end : End) : Type 0 where
    pub all : List Entry
    pub long : length all ≡ count + length es
    pub world : World
    pub runs : Machine code v es world
    pub turns : TakeTurns code v before es
    pub within : length all ≤ fuel
    pub ends_so : RunEndsWith code fuel all world end
    pub in_turn : EndsInTurn code world (last_of before es) end

  record Same (es fs : List Entry) (a b : End) (x y : World) : Type 0 where
    pub entries : es ≡ fs
    pub ends_alike : a ≡ b
    pub worlds : x ≡ y

  module _ (a b : End) where
    ended_there : (count : ℕ) (before : Option ℕ) (v : World) (end : End) (r : Rest count before v [] end) → RunEndsWith code fuel r.all v end × EndsInTurn code v before end
    ended_there count before v end r =
        (subst (λ (w : World). RunEndsWith code fuel r.all w end) (sym r.runs) r.ends_so, subst (λ (w : World). EndsInTurn code w before end) (sym r.runs) r.in_turn)

    -- one of them has ended, and the other one goes on
    goes_not : (count : ℕ) (before : Option ℕ) (v : World) (past : List Entry) (e : Entry) (es : List Entry) (x y : End) → Machine code (opening code) past v
        → Rest count before v [] x → Rest count before v (e ∷ es) y → ⊥
    goes_not count before v past e es x y reached r q =
        let at = ended_there count before v x r in
        no_more count before v past r.all x e.strand reached at.0 at.1 (let l = r.long in omega arith) (let l = q.long in let w = q.within in omega arith) q.turns.0
        (can_next (acted code v e.strand) e.act (λ u. Machine code u es q.world) q.runs)

    rest_same : (es fs : List Entry) (count : ℕ) (before : Option ℕ) (v : World) (past : List Entry) → Machine code (opening code) past v → (r : Rest count before v es a) (q : Rest count before v fs b)
        → Same es fs a b r.world q.world
    rest_same [] [] count before v past reached r q =
        let at = ended_there count before v a r in
        let and = ended_there count before v b q in
        record { entries = refl; ends_alike = one_end before v r.all q.all a b at.0 at.1 and.0 and.1; worlds = sym r.runs ∙ q.runs }
    rest_same [] (f ∷ fs) count before v past reached r q = absurd (goes_not count before v past f fs a b reached r q)
    rest_same (e ∷ es) [] count before v past reached r q = absurd (goes_not count before v past e es b a reached q r)
    rest_same (e ∷ es) (f ∷ fs) count before v past reached r q =
        go (λ u behind m x y. rest_same es fs (count + 1) (Some e.strand) u behind m x y) (acted code v e.strand) refl r.runs r.turns.1
        (subst (λ (s : ℕ). IfNext (acted code v s) f.act (λ u. Machine code u fs q.world)) (sym strands) q.runs)
        (subst (λ (s : ℕ). IfNext (acted code v s) f.act (λ u. TakeTurns code u (Some s) fs)) (sym strands) q.turns.1)
      where
        strands : e.strand ≡ f.strand
        strands = one_turn_of code v before e.strand f.strand r.turns.0 q.turns.0

        go : ((u : World) (behind : List Entry) → Machine code (opening code) behind u → (x : Rest (count + 1) (Some e.strand) u es a) (y : Rest (count + 1) (Some e.strand) u fs b) → Same es fs a b x.world y.world)
            → (o : Option (Act × World)) → acted code v e.strand ≡ o → IfNext o e.act (λ u. Machine code u es r.world) → IfNext o e.act (λ u. TakeTurns code u (Some e.strand) es)
            → IfNext o f.act (λ u. Machine code u fs q.world) → IfNext o f.act (λ u. TakeTurns code u (Some e.strand) fs) → Same (e ∷ es) (f ∷ fs) a b r.world q.world
        go again None is m t n u = absurd m
        go again (Some next) is m t n u =
            let acts : e.act ≡ f.act = sym m.0 ∙ n.0 in
            let did : acted code v e.strand ≡ Some (e.act, next.1) = is ∙ ap (λ (x : Act). Some (x, next.1)) m.0 in
            let rest : Same es fs a b r.world q.world = again next.1 (past ++ e ∷ []) (machine_more code (opening code) v next.1 past e reached did)
            (record { all = r.all; long = (let l = r.long in omega arith); world = r.world; runs = m.1; turns = t.1; within = r.within; ends_so = r.ends_so; in_turn = r.in_turn })
            (record {
              all = q.all;
              long = (let l = q.long in omega arith);
              world = q.world;
              runs = n.1;
              turns = u.1;
              within = q.within;
              ends_so = q.ends_so;
              in_turn = subst (λ (s : ℕ). EndsInTurn code q.world (last_of (Some s) fs) b) (sym strands) q.in_turn;
            }) in
            record {
              entries =
                  ap (λ (s : ℕ). record { strand = s; act = e.act } ∷ es) strands ∙ ap (λ (x : Act). record { strand = f.strand; act = x } ∷ es) acts
                  ∙ ap (λ (l : List Entry). f ∷ l) rest.entries;
              ends_alike = rest.ends_alike;
              worlds = rest.worlds;
            }

  abbrev whole : (kept : Kept) (r : RunOf code fuel kept) → Cyclic code kept → Rest 0 None (opening code) kept.journal.entries kept.end
  whole kept r c = record {
    all = kept.journal.entries;
    long = omega arith;
    world = r.world;
    runs = r.runs;
    turns = c.turns;
    within = r.within;
    ends_so = r.ends;
    in_turn = c.ends r.world r.runs;
  }

  pub one_run : (a b : Kept) → RunOf code fuel a → Cyclic code a → RunOf code fuel b → Cyclic code b → a ≡ b
  one_run a b r c q d =
      let s = rest_same a.end b.end a.journal.entries b.journal.entries 0 None (opening code) [] refl (whole a r c) (whole b q d) in
      let texts : a.journal.text ≡ b.journal.text = r.keeps.text ∙ ap (λ (w : World). w.store.text) s.worlds ∙ sym q.keeps.text in
      let cells : a.cells ≡ b.cells = r.keeps.cells ∙ ap (λ (w : World). w.store.cells) s.worlds ∙ sym q.keeps.cells in
      let outer : a.outer ≡ b.outer = r.keeps.outer ∙ ap (λ (w : World). outer_slots w.store) s.worlds ∙ sym q.keeps.outer in
      ap {A = List Entry} {B = Kept} (λ x. record { journal = record { entries = x; text = a.journal.text }; cells = a.cells; outer = a.outer; end = a.end }) s.entries
      ∙ ap {A = List ℕ} {B = Kept} (λ x. record { journal = record { entries = b.journal.entries; text = x }; cells = a.cells; outer = a.outer; end = a.end }) texts
      ∙ ap {A = List Held} {B = Kept} (λ x. record { journal = b.journal; cells = x; outer = a.outer; end = a.end }) cells
      ∙ ap {A = List (Option Content)} {B = Kept} (λ x. record { journal = b.journal; cells = b.cells; outer = x; end = a.end }) outer
      ∙ ap {A = End} {B = Kept} (λ x. record { journal = b.journal; cells = b.cells; outer = b.outer; end = x }) s.ends_alike
