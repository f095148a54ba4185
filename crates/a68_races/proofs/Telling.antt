-- What one entry does to the clocks keeps what they tell.
use Rattle.std.proofs.Common.{◌≡◌, ◌<◌, ◌≤◌, ◌+◌, ◌⊎◌, inl, inr, ◌↔◌, ℕ, zero, suc, max, Bool, true, false, List, None, Some, Option, nat_eq, nat_lt, if◌then◌else◌, refl, ap, sym, ◌∙◌, subst, arith}
use Rattle.std.proofs.lemmas.Bool.Decides.{nat_tests}
use Rattle.std.specs.Prelude.{slice_get, slice_index}
use Rattle.a68_races.proofs.Order.{same_or_not, same_or_less, before_by, ends_by, stays, told_more, by_sort, of_either, same_times, clock_of}
use Rattle.a68_races.specs.Before.{Numbers, Closes, Raises, Lowers, Forked, Tells, own, made, closed, RaisesAt, DirectlyBefore, told, raised, Before}
use Rattle.a68_races.specs.Cells.{AreNoted, IsLatest, lasts_at, time_if, time_of}
use Rattle.a68_races.specs.Clocks.{clock_at, IsLater, IsSet, AreTold}
use Rattle.a68_races.specs.declared.cells.Last.{Last}
use Rattle.a68_races.specs.Races.{Accesses, Writes, Race}
use Rattle.a68_races.specs.Telling.{IsMark, MarksUnits, IsToldOf, ParentsTold, BaseOf, CellsBy, IsRaceBy, RaceBy, ParentsOf, RaisedOf, Steps}
use Rattle.a68_races.specs.Watches.{Clocked, ClockOf, DoesTo, LastTimes, HasForked, Watches, IsRaceAt}
use Rattle.a68_races.specs.declared.race.Pair.{Pair}
use Rattle.a68_races.specs.declared.watch.Watch.{Watch}
use Rattle.a68_values.specs.declared.act.Act.{Act}
use Rattle.a68_values.specs.declared.act.Act.TheVariants as act
use Rattle.a68_values.specs.declared.act.Entry.{Entry}

is_marked : (m : ℕ) → nat_lt 0 m ≡ true → 0 < m
is_marked m t = grind (arith, nat_tests, t)

is_unmarked : (m : ℕ) → nat_lt 0 m ≡ false → 0 < m → ⊥
is_unmarked m t h = grind (arith, nat_tests, t, h)

is_same : (a b : ℕ) → nat_eq a b ≡ true → a ≡ b
is_same a b t = grind (arith, nat_tests, t)

is_other : (a b : ℕ) → nat_eq a b ≡ false → a ≡ b → ⊥
is_other a b t h = grind (arith, nat_tests, t, h)

either_above : (a b : ℕ) → 0 < max a b → (0 < a) ⊎ (0 < b)
either_above a b h = grind arith

module _ (entries : List Entry) (n : ℕ) (e : Entry) (is : slice_get entries n ≡ Some e) where
  the_entry : (x : Entry) → slice_get entries n ≡ Some x → x ≡ e
  the_entry x at = let both : Some x ≡ Some e = sym at ∙ is in cc both

  -- ---- whom the entry tells

  tells_of : (s : ℕ) → Tells entries n s → (e.strand ≡ s) ⊎ (Numbers e.act s ⊎ (Closes e.act × HasForked entries n s e.strand))
  tells_of s (own x at same) = inl (subst (λ (y : Entry). y.strand ≡ s) (the_entry x at) same)
  tells_of s (made x at num) = inr (inl (subst (λ (y : Entry). Numbers y.act s) (the_entry x at) num))
  tells_of s (closed x k at cl low f) =
      inr (inr (subst (λ (y : Entry). Closes y.act) (the_entry x at) cl, record { at = k; low = low; forked = subst (λ (y : Entry). Forked entries k s y.strand) (the_entry x at) f }))

  of_tells : (s : ℕ) → (e.strand ≡ s) ⊎ (Numbers e.act s ⊎ (Closes e.act × HasForked entries n s e.strand)) → Tells entries n s
  of_tells s (inl same) = own e is same
  of_tells s (inr (inl num)) = made e is num
  of_tells s (inr (inr c)) = closed e c.1.at is c.0 c.1.low c.1.forked

  told_to : (w : Watch) (marks : List ℕ) → Watches entries n w → IsToldOf w.parents e marks → (s : ℕ) → Tells entries n s ↔ (0 < slice_index marks s)
  told_to w marks h m s = (
    (λ t. (m s).0 (elim (tells_of s t) [
      | inl same ↦ inl same
      | inr (inl num) ↦ inr (inl num)
      | inr (inr c) ↦ inr (inr (c.0, (h.parents e.strand s).0 c.1))
    ])),
    (λ t. of_tells s (elim ((m s).1 t) [
      | inl same ↦ inl same
      | inr (inl num) ↦ inr (inl num)
      | inr (inr c) ↦ inr (inr (c.0, (h.parents e.strand s).1 c.1))
    ])),
  )

  -- ---- what is directly before the entry

  direct_of : (k : ℕ) → DirectlyBefore entries k n → Tells entries k e.strand ⊎ ((c : ℕ) × Lowers e.act c × RaisesAt entries k c)
  direct_of k (told x low at t) = inl (subst (λ (y : Entry). Tells entries k y.strand) (the_entry x at) t)
  direct_of k (raised x c low at l r) = inr (c, subst (λ (y : Entry). Lowers y.act c) (the_entry x at) l, r)

  base_told : (w : Watch) → Watches entries n w → (a : Act) → e.act ≡ a → (base : List ℕ) → BaseOf w.strands w.raised e.strand a base → Clocked entries (λ k. DirectlyBefore entries k n) n base
  base_told w h (act.Down c) same base later =
      by_sort entries (λ k. Tells entries k e.strand ⊎ RaisesAt entries k c) (λ k. DirectlyBefore entries k n) n base
      (λ k low s. elim s [ inl t ↦ told e low is t | inr r ↦ raised e c low is (subst (λ (x : Act). Lowers x c) (sym same) refl) r ])
      (λ k low d. elim (direct_of k d) [
        | inl t ↦ inl t
        | inr l ↦ (let one : c ≡ l.0 = subst (λ (x : Act). Lowers x l.0) same l.1 in inr (subst (λ (x : ℕ). RaisesAt entries k x) (sym one) l.2))
      ])
      (of_either entries (λ k. Tells entries k e.strand) (λ k. RaisesAt entries k c) n (clock_at w.strands e.strand) (clock_at w.raised c) base (h.strands e.strand) (h.raised c) later)
  base_told w h a same base b =
      by_sort entries (λ k. Tells entries k e.strand) (λ k. DirectlyBefore entries k n) n base
      (λ k low t. told e low is t)
      (λ k low d. elim (direct_of k d) [ inl t ↦ t | inr l ↦ absurd (subst (λ (x : Act). Lowers x l.0) same l.1) ])
      (subst (λ (x : List ℕ). Clocked entries (λ k. Tells entries k e.strand) n x) (sym b) (h.strands e.strand))

  -- ---- tables of clocks, of entries of one sort for each key

  told_at : (Sort : ℕ → ℕ → Type 0) (test : ℕ → Bool) (old new : List (List ℕ)) (now : List ℕ) → ((s : ℕ) → test s ≡ true → Sort s n) → ((s : ℕ) → test s ≡ false → Sort s n → ⊥)
      → ((s : ℕ) → Clocked entries (Sort s) n (clock_at old s)) → ClockOf entries n now → AreTold test old now new → (s : ℕ) (b : Bool) → test s ≡ b → Clocked entries (Sort s) (suc n) (clock_at new s)
  told_at Sort test old new now sure not_so c o a s true t =
      told_more entries (Sort s) n (clock_at old s) now (clock_at new s) (sure s t) (c s) o
      (λ k. a s k ∙ ap (λ (b : Bool). if b then max (slice_index (clock_at old s) k) (slice_index now k) else slice_index (clock_at old s) k) t)
  told_at Sort test old new now sure not_so c o a s false t =
      same_times entries (Sort s) (suc n) (clock_at old s) (clock_at new s)
      (λ k. a s k ∙ ap (λ (b : Bool). if b then max (slice_index (clock_at old s) k) (slice_index now k) else slice_index (clock_at old s) k) t)
      (stays entries (Sort s) n (clock_at old s) (not_so s t) (c s))

  strands_on : (w v : Watch) (marks now : List ℕ) → Watches entries n w → IsToldOf w.parents e marks → ClockOf entries n now → AreTold (λ s. nat_lt 0 (slice_index marks s)) w.strands now v.strands
      → (s : ℕ) → Clocked entries (λ k. Tells entries k s) (suc n) (clock_at v.strands s)
  strands_on w v marks now h m o a s =
      told_at (λ r k. Tells entries k r) (λ r. nat_lt 0 (slice_index marks r)) w.strands v.strands now
      (λ r t. (told_to w marks h m r).1 (is_marked (slice_index marks r) t))
      (λ r t d. is_unmarked (slice_index marks r) t ((told_to w marks h m r).0 d))
      h.strands o a s (nat_lt 0 (slice_index marks s)) refl

  raises_it : (cell : ℕ) → RaisesAt entries n cell → Raises e.act cell
  raises_it cell r = subst (λ (y : Entry). Raises y.act cell) (the_entry r.entry r.is) r.raises

  raised_on : (a : Act) → e.act ≡ a → (old new : List (List ℕ)) (now : List ℕ) → ((cell : ℕ) → Clocked entries (λ k. RaisesAt entries k cell) n (clock_at old cell)) → ClockOf entries n now
      → RaisedOf a old now new → (cell : ℕ) → Clocked entries (λ k. RaisesAt entries k cell) (suc n) (clock_at new cell)
  raised_on (act.Up c) same old new now h o a cell =
      told_at (λ r k. RaisesAt entries k r) (λ r. nat_eq r c) old new now
      (λ r t. record { entry = e; is = is; raises = subst (λ (x : Act). Raises x r) (sym same) (sym (is_same r c t)) })
      (λ r t d. let one : c ≡ r = subst (λ (x : Act). Raises x r) same (raises_it r d) in is_other r c t (sym one))
      h o a cell (nat_eq cell c) refl
  raised_on b same old new now h o a cell =
      stays entries (λ k. RaisesAt entries k cell) n (clock_at new cell) (λ d. subst (λ (x : Act). Raises x cell) same (raises_it cell d))
      (subst (λ (x : List (List ℕ)). Clocked entries (λ k. RaisesAt entries k cell) n (clock_at x cell)) (sym a) (h cell))

  -- ---- who has forked whom

  forks_it : (parent child : ℕ) → Forked entries n parent child → (e.strand ≡ parent) × Numbers e.act child
  forks_it parent child f = (
    subst (λ (y : Entry). y.strand ≡ parent) (the_entry f.entry f.is) f.own,
    subst (λ (y : Entry). Numbers y.act child) (the_entry f.entry f.is) f.numbers,
  )

  forked_back : (parent child : ℕ) → HasForked entries (suc n) parent child → HasForked entries n parent child ⊎ Forked entries n parent child
  forked_back parent child f = elim (same_or_less f.at n f.low) [
    | inl same ↦ inr (subst (λ (k : ℕ). Forked entries k parent child) same f.forked)
    | inr less ↦ inl (record { at = f.at; low = less; forked = f.forked })
  ]

  forked_on : (parent child : ℕ) → HasForked entries n parent child → HasForked entries (suc n) parent child
  forked_on parent child f = record { at = f.at; low = omega (arith, f.low); forked = f.forked }

  parents_at : (old new : List (List ℕ)) (units mark : List ℕ) → ((child parent : ℕ) → HasForked entries n parent child ↔ (0 < slice_index (clock_at old child) parent)) → MarksUnits e.act units
      → IsMark e.strand 1 mark → AreTold (λ s. nat_lt 0 (slice_index units s)) old mark new → (child parent : ℕ) (b : Bool) → nat_lt 0 (slice_index units child) ≡ b
      → HasForked entries (suc n) parent child ↔ (0 < slice_index (clock_at new child) parent)
  parents_at old new units mark h u m a child parent true t =
      let put : slice_index (clock_at new child) parent ≡ max (slice_index (clock_at old child) parent) (slice_index mark parent) =
      a child parent ∙ ap (λ (b : Bool). if b then max (slice_index (clock_at old child) parent) (slice_index mark parent) else slice_index (clock_at old child) parent) t in (
        (λ f. elim (forked_back parent child f) [
          | inl g ↦ omega (arith, put, (h child parent).0 g)
          | inr g ↦ (let time = m.0 in let here : slice_index mark parent ≡ slice_index mark e.strand = ap (λ (k : ℕ). slice_index mark k) (sym (forks_it parent child g).0) in omega (arith, put, time, here))
        ]),
        (λ low. elim (either_above (slice_index (clock_at old child) parent) (slice_index mark parent) (subst (λ (x : ℕ). 0 < x) put low)) [
          | inl had ↦ forked_on parent child ((h child parent).1 had)
          | inr now ↦ (elim (same_or_not parent e.strand) [
            | inl same ↦ record { at = n; low = omega arith; forked = record { entry = e; is = is; own = sym same; numbers = (u child).1 (is_marked (slice_index units child) t) } }
            | inr other ↦ (let none : slice_index mark parent ≡ 0 = m.1 parent other in absurd (omega (arith, now, none)))
          ])
        ]),
      )
  parents_at old new units mark h u m a child parent false t =
      let put : slice_index (clock_at new child) parent ≡ slice_index (clock_at old child) parent =
      a child parent ∙ ap (λ (b : Bool). if b then max (slice_index (clock_at old child) parent) (slice_index mark parent) else slice_index (clock_at old child) parent) t in (
        (λ f. elim (forked_back parent child f) [
          | inl g ↦ omega (arith, put, (h child parent).0 g)
          | inr g ↦ absurd (is_unmarked (slice_index units child) t ((u child).0 (forks_it parent child g).1))
        ]),
        (λ low. forked_on parent child ((h child parent).1 (omega (arith, put, low)))),
      )

  parents_on : (old new : List (List ℕ)) → ((child parent : ℕ) → HasForked entries n parent child ↔ (0 < slice_index (clock_at old child) parent)) → ParentsOf e old new
      → (child parent : ℕ) → HasForked entries (suc n) parent child ↔ (0 < slice_index (clock_at new child) parent)
  parents_on old new h p child parent = parents_at old new p.0 p.2 h p.1 p.3 p.4 child parent (nat_lt 0 (slice_index p.0 child)) refl

  -- ---- the last times of cells

  times_before : (Does : Act → ℕ → Type 0) (cell : ℕ) (times : ℕ → ℕ) → LastTimes entries Does cell n times → (s m : ℕ) → times s ≡ m → m ≤ n
  times_before Does cell times h s zero t = omega arith
  times_before Does cell times h s (suc k) t = let low = (h.there s k t).0 in omega (arith, low)

  does_it : (Does : Act → ℕ → Type 0) (cell s : ℕ) → DoesTo entries Does cell s n → (e.strand ≡ s) × Does e.act cell
  does_it Does cell s d = (
    subst (λ (y : Entry). y.strand ≡ s) (the_entry d.entry d.is) d.own,
    subst (λ (y : Entry). Does y.act cell) (the_entry d.entry d.is) d.does,
  )

  times_kept : (Does : Act → ℕ → Type 0) (cell : ℕ) (old new : ℕ → ℕ) → (Does e.act cell → ⊥) → ((s : ℕ) → new s ≡ old s) → LastTimes entries Does cell n old → LastTimes entries Does cell (suc n) new
  times_kept Does cell old new none same h = record {
    last = λ s k low d. elim (same_or_less k n low) [
      | inl here ↦ absurd (none (does_it Does cell s (subst (λ (j : ℕ). DoesTo entries Does cell s j) here d)).1)
      | inr less ↦ (let l = h.last s k less d in omega (arith, l, same s))
    ];
    there = λ s k t. let o = h.there s k (sym (same s) ∙ t) in (omega (arith, o.0), o.1);
  }

  -- this time is put at the strand of the entry, and 0 at the others
  abbrev put_time : ℕ → ℕ → ℕ
  put_time time s = if nat_eq e.strand s then time else 0

  put_here : (time s : ℕ) → s ≡ e.strand → put_time time s ≡ time
  put_here time s same = ap (λ (b : Bool). if b then time else 0) (here e.strand s same)
    where
      here : (a b : ℕ) → b ≡ a → nat_eq a b ≡ true
      here a b is_same = grind (arith, nat_tests, is_same)

  put_other : (time s : ℕ) → (s ≡ e.strand → ⊥) → put_time time s ≡ 0
  put_other time s other = ap (λ (b : Bool). if b then time else 0) (there e.strand s other)
    where
      there : (a b : ℕ) → (b ≡ a → ⊥) → nat_eq a b ≡ false
      there a b ne = grind (arith, nat_tests, ne)

  times_put : (Does : Act → ℕ → Type 0) (cell : ℕ) (old new : ℕ → ℕ) → Does e.act cell → ((s : ℕ) → new s ≡ max (old s) (put_time (n + 1) s)) → LastTimes entries Does cell n old → LastTimes entries Does cell (suc n) new
  times_put Does cell old new does later h = record {
    last = λ s k low d. elim (same_or_less k n low) [
      | inl here ↦ (let mine = (does_it Does cell s (subst (λ (j : ℕ). DoesTo entries Does cell s j) here d)).0 in
          omega (arith, put_here (n + 1) s (sym mine), later s, here))
      | inr less ↦ (let l = h.last s k less d in omega (arith, l, later s))
    ];
    there = λ s k t. elim (same_or_not s e.strand) [
      | inl same ↦ (let old_low = times_before Does cell old h s (old s) refl in
          let here : k ≡ n = omega (arith, t, later s, put_here (n + 1) s same, old_low) in
          (omega (arith, here), record { entry = e; is = subst (λ (j : ℕ). slice_get entries j ≡ Some e) (sym here) is; own = sym same; does = does }))
      | inr other ↦ (let o = h.there s k (omega (arith, t, later s, put_other (n + 1) s other)) in (omega (arith, o.0), o.1))
    ];
  }

  times_noted : (Does : Act → ℕ → Type 0) (writes : Bool) (c : ℕ) (noted : Last) → ((cell : ℕ) → Does e.act cell ↔ (c ≡ cell)) → ((s : ℕ) → time_if writes noted s ≡ put_time (n + 1) s)
      → (old new : List (List Last)) → AreNoted old c noted new → ((cell : ℕ) → LastTimes entries Does cell n (time_of writes (lasts_at old cell))) → (cell : ℕ) (b : Bool) → nat_eq cell c ≡ b
      → LastTimes entries Does cell (suc n) (time_of writes (lasts_at new cell))
  times_noted Does writes c noted does put old new a h cell true t =
      times_put Does cell (time_of writes (lasts_at old cell)) (time_of writes (lasts_at new cell)) ((does cell).1 (sym (is_same cell c t)))
      (λ s. a writes cell s ∙ ap (λ (b : Bool). if b then max (time_of writes (lasts_at old cell) s) (time_if writes noted s) else time_of writes (lasts_at old cell) s) t ∙ ap (λ (x : ℕ). max (time_of writes (lasts_at old cell) s) x) (put s)) (h cell)
  times_noted Does writes c noted does put old new a h cell false t =
      times_kept Does cell (time_of writes (lasts_at old cell)) (time_of writes (lasts_at new cell)) (λ d. is_other cell c t (sym ((does cell).0 d)))
      (λ s. a writes cell s ∙ ap (λ (b : Bool). if b then max (time_of writes (lasts_at old cell) s) (time_if writes noted s) else time_of writes (lasts_at old cell) s) t) (h cell)

  -- a strand that has only read has no time of writing
  times_unwritten : (c : ℕ) (old new : List (List Last)) → ((cell : ℕ) → Writes e.act cell → ⊥) → AreNoted old c (record { strand = e.strand; accessed = n + 1; written = 0 }) new
      → ((cell : ℕ) → LastTimes entries Writes cell n (time_of true (lasts_at old cell))) → (cell : ℕ) (b : Bool) → nat_eq cell c ≡ b → LastTimes entries Writes cell (suc n) (time_of true (lasts_at new cell))
  times_unwritten c old new none a h cell b t =
      times_kept Writes cell (time_of true (lasts_at old cell)) (time_of true (lasts_at new cell)) (none cell)
      (λ s. a true cell s ∙ same (nat_eq cell c) (nat_eq e.strand s) (time_of true (lasts_at old cell) s)) (h cell)
    where
      no_more : (x : ℕ) → max x 0 ≡ x
      no_more x = omega arith

      same : (here mine : Bool) (x : ℕ) → (if here then max x (if mine then 0 else 0) else x) ≡ x
      same true true x = no_more x
      same true false x = no_more x
      same false mine x = refl

  as_act : (Does : Act → ℕ → Type 0) (a : Act) → e.act ≡ a → (c : ℕ) → ((cell : ℕ) → Does a cell ↔ (c ≡ cell)) → (cell : ℕ) → Does e.act cell ↔ (c ≡ cell)
  as_act Does a same c d cell = ((λ x. (d cell).0 (subst (λ (y : Act). Does y cell) same x)), (λ x. subst (λ (y : Act). Does y cell) (sym same) ((d cell).1 x)))

  times_left : (Does : Act → ℕ → Type 0) (writes : Bool) → ((cell : ℕ) → Does e.act cell → ⊥) → (old new : List (List Last)) → new ≡ old → ((cell : ℕ) → LastTimes entries Does cell n (time_of writes (lasts_at old cell)))
      → (cell : ℕ) → LastTimes entries Does cell (suc n) (time_of writes (lasts_at new cell))
  times_left Does writes none old new same h cell =
      times_kept Does cell (time_of writes (lasts_at old cell)) (time_of writes (lasts_at new cell)) (none cell) (λ s. ap (λ (x : List (List Last)). time_of writes (lasts_at x cell) s) same) (h cell)

  accessed_on : (a : Act) → e.act ≡ a → (old new : List (List Last)) → ((cell : ℕ) → LastTimes entries Accesses cell n (time_of false (lasts_at old cell))) → CellsBy a e.strand (n + 1) old new
      → (cell : ℕ) → LastTimes entries Accesses cell (suc n) (time_of false (lasts_at new cell))
  accessed_on (act.Fetch c) same old new h p cell =
      times_noted Accesses false c (record { strand = e.strand; accessed = n + 1; written = 0 }) (as_act Accesses (act.Fetch c) same c (λ x. ((λ y. y), (λ y. y)))) (λ s. refl) old new p h cell (nat_eq cell c) refl
  accessed_on (act.Assign c) same old new h p cell =
      times_noted Accesses false c (record { strand = e.strand; accessed = n + 1; written = n + 1 }) (as_act Accesses (act.Assign c) same c (λ x. ((λ y. y), (λ y. y)))) (λ s. refl) old new p h cell (nat_eq cell c) refl
  accessed_on b same old new h p cell = times_left Accesses false (λ x d. subst (λ (y : Act). Accesses y x) same d) old new p h cell

  written_on : (a : Act) → e.act ≡ a → (old new : List (List Last)) → ((cell : ℕ) → LastTimes entries Writes cell n (time_of true (lasts_at old cell))) → CellsBy a e.strand (n + 1) old new
      → (cell : ℕ) → LastTimes entries Writes cell (suc n) (time_of true (lasts_at new cell))
  written_on (act.Fetch c) same old new h p cell = times_unwritten c old new (λ x d. subst (λ (y : Act). Writes y x) same d) p h cell (nat_eq cell c) refl
  written_on (act.Assign c) same old new h p cell =
      times_noted Writes true c (record { strand = e.strand; accessed = n + 1; written = n + 1 }) (as_act Writes (act.Assign c) same c (λ x. ((λ y. y), (λ y. y)))) (λ s. refl) old new p h cell (nat_eq cell c) refl
  written_on b same old new h p cell = times_left Writes true (λ x d. subst (λ (y : Act). Writes y x) same d) old new p h cell

  -- ---- races

  -- what is before the entry, by its base
  is_before : (base : List ℕ) → Clocked entries (λ k. DirectlyBefore entries k n) n base → (i : ℕ) (x : Entry) → i < n → slice_get entries i ≡ Some x → Before entries i n ↔ (i < slice_index base x.strand)
  is_before base c i x low at = (
    (λ b. let w = ends_by entries i n b in (c.tells i x low at).0 (record { by = w.by; low = direct_low w.by w.last; sort = w.last; upto = w.upto })),
    (λ h. let r = (c.tells i x low at).1 h in before_by entries i n r.by r.upto r.sort),
  )
    where
      direct_low : (k : ℕ) → DirectlyBefore entries k n → k < n
      direct_low k (told x low at t) = low
      direct_low k (raised x c low at l r) = low

  -- the acts of others that this entry meets at its cell
  record Meets (Does : Act → ℕ → Type 0) (c : ℕ) : Type 0 where
    pub mine : Accesses e.act c
    pub from : (x : Entry) (cell : ℕ) → Accesses x.act cell → Accesses e.act cell → Writes x.act cell ⊎ Writes e.act cell → Does x.act c
    pub back : (x : Entry) → Does x.act c → Accesses x.act c × (Writes x.act c ⊎ Writes e.act c)

  race_low : (Does : Act → ℕ → Type 0) (c : ℕ) (times : ℕ → ℕ) (base : List ℕ) (latest : ℕ) → Meets Does c → LastTimes entries Does c n times → Clocked entries (λ k. DirectlyBefore entries k n) n base
      → IsLatest times base e.strand latest → (cell i : ℕ) → Race entries cell i n → i < latest
  race_low Does c times base latest m h b l cell i r =
      let other : r.other ≡ e = the_entry r.other r.other_is in
      let does : Does r.one.act c = m.from r.one cell r.reads (subst (λ (y : Entry). Accesses y.act cell) other r.meets) (subst (λ (y : Entry). Writes r.one.act cell ⊎ Writes y.act cell) other r.writes) in
      let at : i < times r.one.strand = h.last r.one.strand i r.low (record { entry = r.one; is = r.one_is; own = refl; does = does }) in
      let apart : slice_index base r.one.strand ≤ i = not_below i (slice_index base r.one.strand) (λ k. r.apart ((is_before base b i r.one r.low r.one_is).1 k)) in
      let most : times r.one.strand ≤ latest = l.most r.one.strand (λ s. r.strands (s ∙ ap (λ (y : Entry). y.strand) (sym other))) (omega (arith, at, apart)) in
      omega (arith, at, most)
    where
      not_below : (i m : ℕ) → (i < m → ⊥) → m ≤ i
      not_below i m f = grind (arith, f)

  race_by : (Does : Act → ℕ → Type 0) (c : ℕ) (times : ℕ → ℕ) (base : List ℕ) (latest : ℕ) → Meets Does c → LastTimes entries Does c n times → Clocked entries (λ k. DirectlyBefore entries k n) n base
      → IsLatest times base e.strand latest → (race : Option Pair) → IsRaceBy c latest n race → IsRaceAt entries n race
  race_by Does c times base latest m h b l None none = λ cell i r. let low = race_low Does c times base latest m h b l cell i r in omega (arith, low, none)
  race_by Does c times base latest m h b l (Some pair) p = elim l.is [
    | inl zero_is ↦ absurd (omega (arith, zero_is, p.1))
    | inr t ↦ (
        let last = t.3 ∙ p.1 in
        let d = h.there t.0 pair.first last in
        let does = m.back d.1.entry d.1.does in
        let same : c ≡ pair.cell = sym p.0 in (
          p.2,
          record {
            race = record {
              low = d.0;
              one = d.1.entry;
              other = e;
              one_is = d.1.is;
              other_is = is;
              strands = λ s. t.1 (sym d.1.own ∙ s);
              reads = subst (λ (x : ℕ). Accesses d.1.entry.act x) same does.0;
              meets = subst (λ (x : ℕ). Accesses e.act x) same m.mine;
              writes = subst (λ (x : ℕ). Writes d.1.entry.act x ⊎ Writes e.act x) same does.1;
              apart = λ before. let low = (is_before base b pair.first d.1.entry d.0 d.1.is).0 before in
                  let strand : slice_index base d.1.entry.strand ≡ slice_index base t.0 = ap (λ (x : ℕ). slice_index base x) d.1.own in
                  let unknown = t.2 in
                  omega (arith, low, strand, unknown, last);
            };
            last = λ cell k r. let low = race_low Does c times base latest m h b l cell k r in omega (arith, low, p.1);
          },
        ))
  ]

  fetch_meets : (c : ℕ) → e.act ≡ act.Fetch c → Meets Writes c
  fetch_meets c same = record {
    mine = subst (λ (x : Act). Accesses x c) (sym same) refl;
    from = λ x cell reads meets writes. let one : c ≡ cell = subst (λ (y : Act). Accesses y cell) same meets in
        elim writes [
          | inl w ↦ subst (λ (k : ℕ). Writes x.act k) (sym one) w
          | inr w ↦ absurd (subst (λ (y : Act). Writes y cell) same w)
        ];
    back = λ x w. (written_is_accessed x.act c w, inl w);
  }
    where
      written_is_accessed : (a : Act) (k : ℕ) → Writes a k → Accesses a k
      written_is_accessed (act.Assign d) k w = w
      written_is_accessed a k w = absurd w

  assign_meets : (c : ℕ) → e.act ≡ act.Assign c → Meets Accesses c
  assign_meets c same = record {
    mine = subst (λ (x : Act). Accesses x c) (sym same) refl;
    from = λ x cell reads meets writes. let one : c ≡ cell = subst (λ (y : Act). Accesses y cell) same meets in subst (λ (k : ℕ). Accesses x.act k) (sym one) reads;
    back = λ x d. (d, inr (subst (λ (y : Act). Writes y c) (sym same) refl));
  }

  race_on : (w : Watch) → Watches entries n w → (base : List ℕ) → Clocked entries (λ k. DirectlyBefore entries k n) n base → (a : Act) → e.act ≡ a → (race : Option Pair) → RaceBy w.cells a e.strand n base race → IsRaceAt entries n race
  race_on w h base b (act.Fetch c) same race p = race_by Writes c (time_of true (lasts_at w.cells c)) base p.0 (fetch_meets c same) (h.written c) b p.1 race p.2
  race_on w h base b (act.Assign c) same race p = race_by Accesses c (time_of false (lasts_at w.cells c)) base p.0 (assign_meets c same) (h.accessed c) b p.1 race p.2
  race_on w h base b a same race p =
      subst (λ (o : Option Pair). IsRaceAt entries n o) (sym p)
      (λ cell i r. subst (λ (y : Act). Accesses y cell) same (subst (λ (y : Entry). Accesses y.act cell) (the_entry r.other r.other_is) r.meets))

  -- an entry is taken in
  pub steps_on : (w v : Watch) (race : Option Pair) → Watches entries n w → Steps w e n race v → Watches entries (suc n) v × IsRaceAt entries n race
  steps_on w v race h s =
      let b = base_told w h e.act refl s.base s.is_base in
      let o = clock_of entries n e s.base s.now is b s.is_now in (
        record {
          strands = strands_on w v s.notes.told s.now h s.notes.is_told o s.notes.strands;
          parents = parents_on w.parents v.parents h.parents s.notes.parents;
          raised = raised_on e.act refl w.raised v.raised s.now h.raised o s.notes.raised;
          accessed = accessed_on e.act refl w.cells v.cells h.accessed s.notes.cells;
          written = written_on e.act refl w.cells v.cells h.written s.notes.cells;
        },
        race_on w h s.base b e.act refl race s.is_race,
      )

-- ---- who is told, by the steps of the code

tells_parents : (e : Entry) (a : Act) → e.act ≡ a → (parents : List (List ℕ)) (units mid marks : List ℕ) → MarksUnits e.act units → IsSet units e.strand 1 mid → ParentsTold parents e.strand a mid marks → IsToldOf parents e marks
tells_parents e act.Close same parents units mid marks u m later = λ s. (
  (λ t. elim t [
    | inl mine ↦ (let time = m.0 in let here : slice_index mid s ≡ slice_index mid e.strand = ap (λ (k : ℕ). slice_index mid k) (sym mine) in omega (arith, later s, time, here))
    | inr (inl num) ↦ absurd (subst (λ (x : Act). Numbers x s) same num)
    | inr (inr c) ↦ omega (arith, later s, c.1)
  ]),
  (λ low. elim (either_above (slice_index mid s) (slice_index (clock_at parents e.strand) s) (subst (λ (x : ℕ). 0 < x) (later s) low)) [
    | inl had ↦ (elim (same_or_not s e.strand) [
      | inl mine ↦ inl (sym mine)
      | inr other ↦ (let stay = m.1 s other in inr (inl ((u s).1 (omega (arith, stay, had)))))
    ])
    | inr by ↦ inr (inr (subst (λ (x : Act). Closes x) (sym same) tt, by))
  ]),
)
tells_parents e a same parents units mid marks u m stays_so = λ s. (
  (λ t. elim t [
    | inl mine ↦ (let time = m.0 in let here : slice_index mid s ≡ slice_index mid e.strand = ap (λ (k : ℕ). slice_index mid k) (sym mine) in
        let last : slice_index marks s ≡ slice_index mid s = ap (λ (x : List ℕ). slice_index x s) stays_so in omega (arith, time, here, last))
    | inr (inl num) ↦ (let marked = (u s).0 num in let last : slice_index marks s ≡ slice_index mid s = ap (λ (x : List ℕ). slice_index x s) stays_so in
        elim (same_or_not s e.strand) [
          | inl mine ↦ (let time = m.0 in let here : slice_index mid s ≡ slice_index mid e.strand = ap (λ (k : ℕ). slice_index mid k) mine in omega (arith, time, here, last))
          | inr other ↦ (let stay = m.1 s other in omega (arith, marked, stay, last))
        ])
    | inr (inr c) ↦ absurd (subst (λ (x : Act). Closes x) same c.0)
  ]),
  (λ low. let last : slice_index marks s ≡ slice_index mid s = ap (λ (x : List ℕ). slice_index x s) stays_so in
      elim (same_or_not s e.strand) [
        | inl mine ↦ inl (sym mine)
        | inr other ↦ (let stay = m.1 s other in inr (inl ((u s).1 (omega (arith, stay, low, last)))))
      ]),
)

pub is_told : (e : Entry) (parents : List (List ℕ)) (units mid marks : List ℕ) → MarksUnits e.act units → IsSet units e.strand 1 mid → ParentsTold parents e.strand e.act mid marks → IsToldOf parents e marks
is_told e parents units mid marks u m p = tells_parents e e.act refl parents units mid marks u m p
