-- What comes of a code and picks is one.
use Rattle.std.proofs.Common.{◌≡◌, ◌≢◌, ◌∙◌, ◌⊎◌, inl, inr, ℕ, zero, suc, ◌<◌, ◌≤◌, ◌++◌, List, [], ◌∷◌, length, refl, ap, sym, subst, arith, append-nil, length-append, get_or, drop, take}
use Rattle.std.proofs.lemmas.Bool.{cases_lt}
use Rattle.std.proofs.lemmas.Option.{same_Some}
use Rattle.std.specs.Prelude.{None, Some, slice_get}
use Rattle.std.specs.declared.option.Option.{Option}
use Rattle.a68_acts.specs.Does.{refused}
use Rattle.a68_acts.specs.Keeping.{outer_slots}
use Rattle.a68_base.specs.declared.limits.TheConstants.{MOST_FUEL}
use Rattle.a68_code.specs.declared.code.Code.{Code}
use Rattle.a68_exec.specs.Runs.{World, Machine, IfNext, opening, acted}
use Rattle.a68_instructions.specs.Machine.{State, place_at}
use Rattle.a68_instructions.specs.declared.ask.Stance.TheVariants.{Asking}
use Rattle.a68_replay.specs.Replays.{HasNoTurn, IsShort, IsStuck, LeadTo, LeadToFault, Replays, behind_fault, comes_back, unready}
use Rattle.a68_replay.specs.Schedules.{last_pick, picks_of, strands_of}
use Rattle.a68_replay.specs.declared.picks.TheConstants.{MOST_PICKS}
use Rattle.a68_replay.specs.declared.turning.Replayed.{Replayed}
use Rattle.a68_replay.specs.declared.turning.Replayed.TheVariants as comes
use Rattle.a68_strand.specs.Cyclic.{HasTurn}
use Rattle.a68_strand.specs.Ends.{CanActNow, HasEnded, RunEndsWith, done, fault, all_halted, spent, fault_of}
use Rattle.a68_strand.specs.RunOf.{RunOf}
use Rattle.a68_values.specs.Content.{Content}
use Rattle.a68_values.specs.declared.act.Act.{Act}
use Rattle.a68_values.specs.declared.act.Entry.{Entry}
use Rattle.a68_values.specs.declared.act.FaultKind.{FaultKind}
use Rattle.a68_values.specs.declared.held.Held.{Held}
use Rattle.a68_values.specs.declared.kept.End.{End}
use Rattle.a68_values.specs.declared.kept.End.TheVariants as ends
use Rattle.a68_values.specs.declared.kept.Kept.{Kept}
use Rattle.a68_world.proofs.Places.{length_map}
use Rattle.a68_world.proofs.Replays.{machine_split}
use Rattle.a68_world.proofs.Showing.{next_fault}
use Rattle.a68_world.proofs.Steady.{acted_is}

-- ---- one world behind picks

same_head : (x y : ℕ) (xs ys : List ℕ) → x ∷ xs ≡ y ∷ ys → x ≡ y
same_head x y xs ys e = ap (λ (l : List ℕ). get_or l 0 0) e

same_tail : (x y : ℕ) (xs ys : List ℕ) → x ∷ xs ≡ y ∷ ys → xs ≡ ys
same_tail x y xs ys e = ap (λ (l : List ℕ). drop 1 l) e

-- two entries of one strand are one, and so is what follows
next_same : (code : Code) (x y : World) (e f : Entry) (es fs : List Entry) (o : Option (Act × World)) → e.strand ≡ f.strand → ((u : World) → Machine code u es x → Machine code u fs y → (es ≡ fs) × (x ≡ y))
    → IfNext o e.act (λ u. Machine code u es x) → IfNext o f.act (λ u. Machine code u fs y) → (e ∷ es ≡ f ∷ fs) × (x ≡ y)
next_same code x y e f es fs None strands again m n = absurd m
next_same code x y e f es fs (Some next) strands again m n =
    let rest = again next.1 m.1 n.1 in
    let acts : e.act ≡ f.act = sym m.0 ∙ n.0 in (
      ap (λ (s : ℕ). record { strand = s; act = e.act } ∷ es) strands ∙ ap (λ (a : Act). record { strand = f.strand; act = a } ∷ es) acts ∙ ap (λ (l : List Entry). f ∷ l) rest.0,
      rest.1,
    )

one_lead : (code : Code) (w x y : World) (es fs : List Entry) → strands_of es ≡ strands_of fs → Machine code w es x → Machine code w fs y → (es ≡ fs) × (x ≡ y)
one_lead code w x y [] [] s p q = (refl, sym p ∙ q)
one_lead code w x y [] (f ∷ fs) s p q = absurd (cc)
one_lead code w x y (e ∷ es) [] s p q = absurd (cc)
one_lead code w x y (e ∷ es) (f ∷ fs) s p q =
    let same = same_head e.strand f.strand (strands_of es) (strands_of fs) s in
    next_same code x y e f es fs (acted code w e.strand) same (λ u m n. one_lead code u x y es fs (same_tail e.strand f.strand (strands_of es) (strands_of fs) s) m n) p
    (subst (λ (k : ℕ). IfNext (acted code w k) f.act (λ u. Machine code u fs y)) (sym same) q)

one_world : (code : Code) (picks : List ℕ) (u v : World) → LeadTo code picks u → LeadTo code picks v → u ≡ v
one_world code picks u v l m = (one_lead code (opening code) u v l.entries m.entries (l.strands ∙ sym m.strands) l.runs m.runs).1

-- ---- the strand that is picked next can act

can_next : (o : Option (Act × World)) (a : Act) (P : World → Type 0) → IfNext o a P → o ≢ None
can_next None a P p = absurd p
can_next (Some m) a P p = λ e. absurd (cc)

record Parted (es : List Entry) (front : List ℕ) (pick : ℕ) : Type 0 where
  pub before : List Entry
  pub entry : Entry
  pub behind : List Entry
  pub all : es ≡ before ++ entry ∷ behind
  pub strands : strands_of before ≡ front
  pub strand : entry.strand ≡ pick

parted_by : (es : List Entry) (front : List ℕ) (pick : ℕ) (rest : List ℕ) → strands_of es ≡ front ++ pick ∷ rest → Parted es front pick
parted_by [] [] pick rest s = absurd (cc)
parted_by [] (q ∷ front) pick rest s = absurd (cc)
parted_by (e ∷ es) [] pick rest s = record { before = []; entry = e; behind = es; all = refl; strands = refl; strand = same_head e.strand pick (strands_of es) rest s }
parted_by (e ∷ es) (q ∷ front) pick rest s =
    let more = parted_by es front pick rest (same_tail e.strand q (strands_of es) (front ++ pick ∷ rest) s) in
    let same = same_head e.strand q (strands_of es) (front ++ pick ∷ rest) s in
    record {
      before = e ∷ more.before;
      entry = more.entry;
      behind = more.behind;
      all = ap (λ (l : List Entry). e ∷ l) more.all;
      strands = ap (λ (l : List ℕ). e.strand ∷ l) more.strands ∙ ap (λ (x : ℕ). x ∷ front) same;
      strand = more.strand;
    }

record CanBePicked (code : Code) (front : List ℕ) (pick : ℕ) : Type 0 where
  pub world : World
  pub lead : LeadTo code front world
  pub can : CanActNow code world pick

can_be_picked : (code : Code) (front : List ℕ) (pick : ℕ) (rest : List ℕ) (w : World) → LeadTo code (front ++ pick ∷ rest) w → CanBePicked code front pick
can_be_picked code front pick rest w l =
    let p = parted_by l.entries front pick rest l.strands in
    let e = p.entry in
    let m = machine_split code (opening code) p.before (e ∷ p.behind) w (subst (λ (es : List Entry). Machine code (opening code) es w) p.all l.runs) in
    record {
      world = m.0;
      lead = record { entries = p.before; runs = m.1; strands = p.strands };
      can = subst (λ (k : ℕ). CanActNow code m.0 k) p.strand (can_next (acted code m.0 e.strand) e.act (λ u. Machine code u p.behind w) m.2);
    }

-- a strand that can act stands before no fault
no_fault : (code : Code) (w : World) (n : ℕ) → CanActNow code w n → fault_of w n ≡ None
no_fault code w n can = by (acted code w n) refl
  where
    by : (o : Option (Act × World)) → acted code w n ≡ o → fault_of w n ≡ None
    by None e = absurd (can e)
    by (Some p) e = let a = acted_is code w n p.0 p.1 e in next_fault w n a.st (Asking a.want a.wait) a.there a.asks ∙ ap refused a.does_it

-- ---- picks lead on in one way

-- they are entries of a run, or the last one is the strand of its fault
no_both : (code : Code) (picks : List ℕ) (w : World) → LeadTo code picks w → LeadToFault code picks → ⊥
no_both code picks w l f =
    let c = can_be_picked code f.before f.strand [] w (subst (λ (p : List ℕ). LeadTo code p w) f.all l) in
    let same = one_world code f.before c.world f.world c.lead f.lead in
    let both : Some f.kind ≡ None = sym f.fault ∙ no_fault code f.world f.strand (subst (λ (u : World). CanActNow code u f.strand) same c.can) in
    absurd (cc)

-- a strand that can act behind some picks has a turn
has_turn : (code : Code) (front : List ℕ) (pick : ℕ) → CanBePicked code front pick → HasNoTurn code front pick → ⊥
has_turn code front pick c (unready {world = w} l never) = never (inl (subst (λ (u : World). CanActNow code u pick) (one_world code front c.world w c.lead l) c.can))
has_turn code front pick c (behind_fault f) = no_both code front c.world c.lead f

-- so has one that stands before a fault
stands_before : (code : Code) (front : List ℕ) (w : World) (pick : ℕ) (why : FaultKind) → LeadTo code front w → fault_of w pick ≡ Some why → HasNoTurn code front pick → ⊥
stands_before code front w pick why lead f (unready {world = u} l never) =
    never (inr (λ none. let both : Some why ≡ None = sym f ∙ ap (λ (x : World). fault_of x pick) (one_world code front w u lead l) ∙ none in absurd (cc)))
stands_before code front w pick why lead f (behind_fault g) = no_both code front w lead g

-- ---- lists

empty_not : (front : List ℕ) (p : ℕ) (rest : List ℕ) → front ++ p ∷ rest ≡ [] → ⊥
empty_not [] p rest e = absurd (cc)
empty_not (x ∷ front) p rest e = absurd (cc)

-- an element of a list is the last one, or stands before it
last_or_before : (front rest before : List ℕ) (p s : ℕ) → front ++ p ∷ rest ≡ before ++ s ∷ [] → ((front ≡ before) × (p ≡ s)) ⊎ ((more : List ℕ) × (before ≡ front ++ p ∷ more))
last_or_before [] rest [] p s e = inl (refl, same_head p s rest [] e)
last_or_before [] rest (b ∷ before) p s e = inr (before, ap (λ (x : ℕ). x ∷ before) (sym (same_head p b rest (before ++ s ∷ []) e)))
last_or_before (f ∷ front) rest [] p s e = absurd (empty_not front p rest (same_tail f s (front ++ p ∷ rest) [] e))
last_or_before (f ∷ front) rest (b ∷ before) p s e =
    let same = same_head f b (front ++ p ∷ rest) (before ++ s ∷ []) e in
    elim (last_or_before front rest before p s (same_tail f b (front ++ p ∷ rest) (before ++ s ∷ []) e)) [
      | inl h ↦ inl (ap (λ (l : List ℕ). f ∷ l) h.0 ∙ ap (λ (x : ℕ). x ∷ before) same, h.1)
      | inr h ↦ inr (h.0, ap (λ (l : List ℕ). b ∷ l) h.1 ∙ ap (λ (x : ℕ). x ∷ (front ++ p ∷ h.0)) (sym same))
    ]

picked_there : (picks : List ℕ) (place pick : ℕ) → slice_get picks place ≡ Some pick → (rest : List ℕ) × (picks ≡ take place picks ++ pick ∷ rest)
picked_there [] place pick e = absurd (cc)
picked_there (p ∷ picks) zero pick e = let same : p ≡ pick = cc in (picks, ap (λ (x : ℕ). x ∷ picks) same)
picked_there (p ∷ picks) (suc place) pick e = let more = picked_there picks place pick e in (more.0, ap (λ (l : List ℕ). p ∷ l) more.1)

get_taken : (picks : List ℕ) (i j : ℕ) → i < j → slice_get (take j picks) i ≡ slice_get picks i
get_taken [] i zero low = refl
get_taken [] i (suc j) low = refl
get_taken (p ∷ picks) i zero low = absurd (omega (arith, low))
get_taken (p ∷ picks) zero (suc j) low = refl
get_taken (p ∷ picks) (suc i) (suc j) low = get_taken picks i j (omega (arith, low))

take_taken : (picks : List ℕ) (i j : ℕ) → i < j → take i (take j picks) ≡ take i picks
take_taken [] i zero low = refl
take_taken [] i (suc j) low = refl
take_taken (p ∷ picks) i zero low = absurd (omega (arith, low))
take_taken (p ∷ picks) zero (suc j) low = refl
take_taken (p ∷ picks) (suc i) (suc j) low = ap (λ (l : List ℕ). p ∷ l) (take_taken picks i j (omega (arith, low)))

-- ---- no pick is stuck where all lead on

abbrev Leads : Code → List ℕ → Type 0
Leads code picks = ((w : World) × LeadTo code picks w) ⊎ LeadToFault code picks

none_stuck : (code : Code) (picks : List ℕ) (place : ℕ) → Leads code picks → IsStuck code picks place → ⊥
none_stuck code picks place lead s = by lead
  where
    rest : List ℕ
    rest = (picked_there picks place s.pick s.there).0

    all : picks ≡ take place picks ++ s.pick ∷ (picked_there picks place s.pick s.there).0
    all = (picked_there picks place s.pick s.there).1

    past : (more : List ℕ) (w : World) → LeadTo code (take place picks ++ s.pick ∷ more) w → ⊥
    past more w l = has_turn code (take place picks) s.pick (can_be_picked code (take place picks) s.pick more w l) s.none

    by : Leads code picks → ⊥
    by (inl l) = past (picked_there picks place s.pick s.there).0 l.0 (subst (λ (p : List ℕ). LeadTo code p l.0) all l.1)
    by (inr f) = elim (last_or_before (take place picks) (picked_there picks place s.pick s.there).0 f.before s.pick f.strand (sym all ∙ f.all)) [
      | inl h ↦ stands_before code (take place picks) f.world s.pick f.kind (subst (λ (p : List ℕ). LeadTo code p f.world) (sym h.0) f.lead) (ap (fault_of f.world) h.1 ∙ f.fault) s.none
      | inr h ↦ past h.0 f.world (subst (λ (p : List ℕ). LeadTo code p f.world) h.1 f.lead)
    ]

leads_there : (code : Code) (front : List ℕ) (pick : ℕ) → HasNoTurn code front pick → Leads code front
leads_there code front pick (unready {world = w} l never) = inl (w, l)
leads_there code front pick (behind_fault f) = inr f

stuck_first : (code : Code) (picks : List ℕ) (i j : ℕ) → i < j → IsStuck code picks i → IsStuck code picks j → ⊥
stuck_first code picks i j low s t = none_stuck code (take j picks) i (leads_there code (take j picks) t.pick t.none) (record {
  pick = s.pick;
  there = get_taken picks i j low ∙ s.there;
  none = subst (λ (l : List ℕ). HasNoTurn code l s.pick) (sym (take_taken picks i j low)) s.none;
})

one_stuck : (code : Code) (picks : List ℕ) (i j : ℕ) → IsStuck code picks i → IsStuck code picks j → i ≡ j
one_stuck code picks i j s t = by (cases_lt i j) (cases_lt j i)
  where
    by : (i < j) ⊎ (j ≤ i) → (j < i) ⊎ (i ≤ j) → i ≡ j
    by (inl p) q = absurd (stuck_first code picks i j p s t)
    by (inr p) (inl q) = absurd (stuck_first code picks j i q t s)
    by (inr p) (inr q) = omega (arith, p, q)

-- ---- runs that have ended

last_is : (e : End) → (last_pick e ≡ []) ⊎ ((s : ℕ) × (last_pick e ≡ s ∷ []))
last_is ends.Done = inl refl
last_is (ends.Fault why place strand) = inr (strand, refl)
last_is ends.AllHalted = inl refl
last_is ends.Spent = inl refl

record Faulted (w : World) (s : ℕ) : Type 0 where
  pub unended : HasEnded w 0 → ⊥
  pub kind : FaultKind
  pub fault : fault_of w s ≡ Some kind

faulted : (code : Code) (fuel : ℕ) (es : List Entry) (w : World) (e : End) (s : ℕ) → RunEndsWith code fuel es w e → last_pick e ≡ s ∷ [] → Faulted w s
faulted code fuel es w ends.Done s (done h) l = absurd (cc)
faulted code fuel es w (ends.Fault why place strand) s (fault un f there at) l = record { unended = un; kind = why; fault = ap (fault_of w) (sym (same_head strand s [] [] l)) ∙ f }
faulted code fuel es w ends.AllHalted s (all_halted un none free) l = absurd (cc)
faulted code fuel es w ends.Spent s (spent n un full act) l = absurd (cc)

module _ (code : Code) (fuel : ℕ) (kept : Kept) (r : RunOf code fuel kept) where
  unfaulted_lead : last_pick kept.end ≡ [] → LeadTo code (picks_of kept) r.world
  unfaulted_lead l = record {
    entries = kept.journal.entries;
    runs = r.runs;
    strands = sym (ap (λ (m : List ℕ). strands_of kept.journal.entries ++ m) l ∙ append-nil (strands_of kept.journal.entries));
  }

  faulted_lead : (s : ℕ) → last_pick kept.end ≡ s ∷ [] → LeadToFault code (picks_of kept)
  faulted_lead s l =
      let f = faulted code fuel kept.journal.entries r.world kept.end s r.ends l in
      record {
        before = strands_of kept.journal.entries;
        strand = s;
        all = ap (λ (m : List ℕ). strands_of kept.journal.entries ++ m) l;
        world = r.world;
        lead = record { entries = kept.journal.entries; runs = r.runs; strands = refl };
        unended = f.unended;
        kind = f.kind;
        fault = f.fault;
      }

  run_leads : Leads code (picks_of kept)
  run_leads = elim (last_is kept.end) [ inl l ↦ inl (r.world, unfaulted_lead l) | inr l ↦ inr (faulted_lead l.0 l.1) ]

  -- a run that has ended does not go on
  ended_not : (picks : List ℕ) (w : World) (e : End) → LeadTo code picks w → r.world ≡ w → (HasEnded w 0 → ⊥) → (n : ℕ) → HasTurn code w n → last_pick e ≡ [] → length kept.journal.entries < fuel
      → RunEndsWith code fuel kept.journal.entries r.world e → ⊥
  ended_not picks w ends.Done l same un n turn none few (done h) = un (subst (λ (u : World). HasEnded u 0) same h)
  ended_not picks w (ends.Fault why place strand) l same un n turn none few (fault v f there at) = absurd (cc)
  ended_not picks w ends.AllHalted l same un n turn none few (all_halted v never free) =
      elim (subst (λ (u : World). HasTurn code u n) (sym same) turn) [ inl can ↦ never n can | inr f ↦ f (free n) ]
  ended_not picks w ends.Spent l same un n turn none few (spent m v full act) = absurd (omega (arith, full, few))

  not_short : length (picks_of kept) < fuel → IsShort code (picks_of kept) → ⊥
  not_short few s = elim (last_is kept.end) [
    | inl l ↦ ended_not (picks_of kept) s.world kept.end s.lead (one_world code (picks_of kept) r.world s.world (unfaulted_lead l) s.lead) s.unended s.strand s.turn l
        (omega (arith, few, length-append (strands_of kept.journal.entries) (last_pick kept.end), length_map (λ (e : Entry). e.strand) kept.journal.entries)) r.ends
    | inr l ↦ no_both code (picks_of kept) s.world s.lead (faulted_lead l.0 l.1)
  ]

-- ---- one run has the picks

last_alike : (x y : ℕ) (xs ys : List ℕ) → xs ++ x ∷ [] ≡ ys ++ y ∷ [] → (xs ≡ ys) × (x ≡ y)
last_alike x y xs ys e = elim (last_or_before xs [] ys x y e) [
  | inl h ↦ h
  | inr h ↦ absurd (omega (arith, ap (λ (l : List ℕ). length l) e, ap (λ (l : List ℕ). length l) h.1, length-append xs (x ∷ []), length-append ys (y ∷ []), length-append xs (x ∷ h.0)))
]

-- a run that stands at one world has one end, where the last picks are alike
module _ (code : Code) (fuel : ℕ) (w : World) (es fs : List Entry) where
  one_end : (x y : End) → last_pick x ≡ last_pick y → RunEndsWith code fuel es w x → RunEndsWith code fuel fs w y → x ≡ y
  one_end ends.Done ends.Done l (done h) (done i) = refl
  one_end ends.Done (ends.Fault k p s) l (done h) (fault un f there at) = absurd (cc)
  one_end ends.Done ends.AllHalted l (done h) (all_halted un none free) = absurd (un h)
  one_end ends.Done ends.Spent l (done h) (spent s un full act) = absurd (un h)
  one_end (ends.Fault k p s) ends.Done l (fault un f there at) (done h) = absurd (cc)
  one_end (ends.Fault k p s) (ends.Fault m q r) l (fault {st = st} un f there at) (fault {st = x} un2 g there2 at2) =
      let same : s ≡ r = same_head s r [] [] l in
      let kinds : k ≡ m = same_Some k m (sym f ∙ ap (fault_of w) same ∙ g) in
      let states : st ≡ x = same_Some st x (sym there ∙ ap (slice_get w.strands) same ∙ there2) in
      let places : p ≡ q = at ∙ ap (λ (y : State). place_at code.list y.at) states ∙ sym at2 in
      ap {A = FaultKind} {B = End} (λ y. ends.Fault y p s) kinds ∙ ap {A = ℕ} {B = End} (λ y. ends.Fault m y s) places ∙ ap {A = ℕ} {B = End} (λ y. ends.Fault m q y) same
  one_end (ends.Fault k p s) ends.AllHalted l (fault un f there at) (all_halted un2 none free) = absurd (cc)
  one_end (ends.Fault k p s) ends.Spent l (fault un f there at) (spent r un2 full act) = absurd (cc)
  one_end ends.AllHalted ends.Done l (all_halted un none free) (done h) = absurd (un h)
  one_end ends.AllHalted (ends.Fault k p s) l (all_halted un none free) (fault un2 f there at) = absurd (cc)
  one_end ends.AllHalted ends.AllHalted l (all_halted un none free) (all_halted un2 none2 free2) = refl
  one_end ends.AllHalted ends.Spent l (all_halted un none free) (spent r un2 full act) = absurd (none r act)
  one_end ends.Spent ends.Done l (spent s un full act) (done h) = absurd (un h)
  one_end ends.Spent (ends.Fault k p r) l (spent s un full act) (fault un2 f there at) = absurd (cc)
  one_end ends.Spent ends.AllHalted l (spent s un full act) (all_halted un2 none free) = absurd (none s act)
  one_end ends.Spent ends.Spent l (spent s un full act) (spent r un2 full2 act2) = refl

module _ (code : Code) (fuel : ℕ) (a b : Kept) (r : RunOf code fuel a) (q : RunOf code fuel b) (picks : picks_of a ≡ picks_of b) where
  abbrev Alike : Type 0
  Alike = (strands_of a.journal.entries ≡ strands_of b.journal.entries) × (last_pick a.end ≡ last_pick b.end)

  alike_by : ((last_pick a.end ≡ []) ⊎ ((s : ℕ) × (last_pick a.end ≡ s ∷ []))) → ((last_pick b.end ≡ []) ⊎ ((s : ℕ) × (last_pick b.end ≡ s ∷ []))) → Alike
  alike_by (inl e) (inl f) = (
    sym (ap (λ (m : List ℕ). strands_of a.journal.entries ++ m) e ∙ append-nil (strands_of a.journal.entries)) ∙ picks
        ∙ ap (λ (m : List ℕ). strands_of b.journal.entries ++ m) f ∙ append-nil (strands_of b.journal.entries),
    e ∙ sym f,
  )
  alike_by (inl e) (inr f) =
      absurd (no_both code (picks_of b) r.world (subst (λ (l : List ℕ). LeadTo code l r.world) picks (unfaulted_lead code fuel a r e)) (faulted_lead code fuel b q f.0 f.1))
  alike_by (inr e) (inl f) =
      absurd (no_both code (picks_of a) q.world (subst (λ (l : List ℕ). LeadTo code l q.world) (sym picks) (unfaulted_lead code fuel b q f)) (faulted_lead code fuel a r e.0 e.1))
  alike_by (inr e) (inr f) =
      let both = last_alike e.0 f.0 (strands_of a.journal.entries) (strands_of b.journal.entries)
      (sym (ap (λ (m : List ℕ). strands_of a.journal.entries ++ m) e.1) ∙ picks ∙ ap (λ (m : List ℕ). strands_of b.journal.entries ++ m) f.1) in
      (both.0, e.1 ∙ ap (λ (x : ℕ). x ∷ []) both.1 ∙ sym f.1)

  pub one_run : a ≡ b
  one_run =
      let alike = alike_by (last_is a.end) (last_is b.end) in
      let lead = one_lead code (opening code) r.world q.world a.journal.entries b.journal.entries alike.0 r.runs q.runs in
      let worlds : r.world ≡ q.world = lead.1 in
      let ends_alike : a.end ≡ b.end =
      one_end code fuel q.world a.journal.entries b.journal.entries a.end b.end alike.1 (subst (λ (w : World). RunEndsWith code fuel a.journal.entries w a.end) worlds r.ends) q.ends in
      let texts : a.journal.text ≡ b.journal.text = r.keeps.text ∙ ap (λ (w : World). w.store.text) worlds ∙ sym q.keeps.text in
      let cells : a.cells ≡ b.cells = r.keeps.cells ∙ ap (λ (w : World). w.store.cells) worlds ∙ sym q.keeps.cells in
      let outer : a.outer ≡ b.outer = r.keeps.outer ∙ ap (λ (w : World). outer_slots w.store) worlds ∙ sym q.keeps.outer in
      ap {A = List Entry} {B = Kept} (λ x. record { journal = record { entries = x; text = a.journal.text }; cells = a.cells; outer = a.outer; end = a.end }) lead.0
      ∙ ap {A = List ℕ} {B = Kept} (λ x. record { journal = record { entries = b.journal.entries; text = x }; cells = a.cells; outer = a.outer; end = a.end }) texts
      ∙ ap {A = List Held} {B = Kept} (λ x. record { journal = b.journal; cells = x; outer = a.outer; end = a.end }) cells
      ∙ ap {A = List (Option Content)} {B = Kept} (λ x. record { journal = b.journal; cells = b.cells; outer = x; end = a.end }) outer
      ∙ ap {A = End} {B = Kept} (λ x. record { journal = b.journal; cells = b.cells; outer = b.outer; end = x }) ends_alike

-- ---- what comes of a code and picks

module _ (code : Code) (picks : List ℕ) (few : length picks ≤ MOST_PICKS) where
  ran_not_stuck : (kept : Kept) (place : ℕ) → RunOf code MOST_FUEL kept → picks_of kept ≡ picks → IsStuck code picks place → ⊥
  ran_not_stuck kept place r is s = none_stuck code picks place (subst (λ (l : List ℕ). Leads code l) is (run_leads code MOST_FUEL kept r)) s

  ran_not_short : (kept : Kept) → RunOf code MOST_FUEL kept → picks_of kept ≡ picks → IsShort code picks → ⊥
  ran_not_short kept r is s =
      not_short code MOST_FUEL kept r (let long : length (picks_of kept) ≡ length picks = ap (λ (l : List ℕ). length l) is in omega (arith, long, few)) (subst (λ (l : List ℕ). IsShort code l) (sym is) s)

  short_not_stuck : (place : ℕ) → IsShort code picks → IsStuck code picks place → ⊥
  short_not_stuck place s t = none_stuck code picks place (inl (s.world, s.lead)) t

  one_outcome : (a b : Replayed) → Replays code picks a → Replays code picks b → a ≡ b
  one_outcome (comes.Ran c k) (comes.Ran d m) p q =
      ap {A = Code} {B = Replayed} (λ x. comes.Ran x k) (p.0 ∙ sym q.0) ∙ ap {A = Kept} {B = Replayed} (λ x. comes.Ran d x) (one_run code MOST_FUEL k m p.1 q.1 (p.2 ∙ sym q.2))
  one_outcome (comes.Ran c k) (comes.Stuck d j) p q = absurd (ran_not_stuck k j p.1 p.2 q.1)
  one_outcome (comes.Ran c k) (comes.Short d n) p q = absurd (ran_not_short k p.1 p.2 q.2)
  one_outcome (comes.Stuck c i) (comes.Ran d m) p q = absurd (ran_not_stuck m i q.1 q.2 p.1)
  one_outcome (comes.Stuck c i) (comes.Stuck d j) p q =
      ap {A = Code} {B = Replayed} (λ x. comes.Stuck x i) (p.0 ∙ sym q.0) ∙ ap {A = ℕ} {B = Replayed} (λ x. comes.Stuck d x) (one_stuck code picks i j p.1 q.1)
  one_outcome (comes.Stuck c i) (comes.Short d n) p q = absurd (short_not_stuck i q.2 p.1)
  one_outcome (comes.Short c n) (comes.Ran d m) p q = absurd (ran_not_short m q.1 q.2 p.2)
  one_outcome (comes.Short c n) (comes.Stuck d j) p q = absurd (short_not_stuck j p.2 q.1)
  one_outcome (comes.Short c n) (comes.Short d m) p q =
      ap {A = Code} {B = Replayed} (λ x. comes.Short x n) (p.0 ∙ sym q.0) ∙ ap {A = ℕ} {B = Replayed} (λ x. comes.Short d x) (p.1 ∙ sym q.1)

pub replays_one : (code : Code) (picks : List ℕ) (a b : Replayed) → length picks ≤ MOST_PICKS → Replays code picks a → Replays code picks b → a ≡ b
replays_one code picks a b few p q = one_outcome code picks few a b p q

-- ---- a run that was traced

module _ (code : Code) (fuel : ℕ) (low : fuel ≤ MOST_FUEL) where
  back_by : (kept : Kept) (e : End) → kept.end ≡ e → (r : RunOf code fuel kept) → RunEndsWith code fuel kept.journal.entries r.world e → Replays code (picks_of kept) (comes_back code kept e)
  back_by kept ends.Done is r (done h) = (refl, record { world = r.world; runs = r.runs; keeps = r.keeps; within = (let w = r.within in omega (arith, w, low)); ends = rw is (done h) }, refl)
  back_by kept (ends.Fault k p s) is r (fault {st = st} un f there at) =
      (refl, record { world = r.world; runs = r.runs; keeps = r.keeps; within = (let w = r.within in omega (arith, w, low)); ends = rw is (fault {st = st} un f there at) }, refl)
  back_by kept ends.AllHalted is r (all_halted un none free) =
      (refl, record { world = r.world; runs = r.runs; keeps = r.keeps; within = (let w = r.within in omega (arith, w, low)); ends = rw is (all_halted un none free) }, refl)
  back_by kept ends.Spent is r (spent s un full act) =
      (refl, refl, record { world = r.world; lead = unfaulted_lead code fuel kept r (ap last_pick is); unended = un; strand = s; turn = inl act })

  comes_so : (kept : Kept) → RunOf code fuel kept → Replays code (picks_of kept) (comes_back code kept kept.end)
  comes_so kept r = back_by kept kept.end refl r r.ends

pub traced_back : (code : Code) (fuel : ℕ) (kept : Kept) → fuel ≤ MOST_FUEL → RunOf code fuel kept → Replays code (picks_of kept) (comes_back code kept kept.end)
traced_back code fuel kept low r = comes_so code fuel low kept r
