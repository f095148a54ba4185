-- Strands that take turns.
use Rattle.std.proofs.Common.{◌≡◌, ◌≢◌, ◌<◌, ◌≤◌, ◌+◌, ◌-◌, ◌++◌, ◌⊎◌, inl, inr, ℕ, zero, suc, false, List, [], ◌∷◌, length, None, Some, refl, sym, ◌∙◌, ap, subst, arith, length-append, append_assoc, append-nil, get_or, slice_get, drop, take}
use Rattle.std.proofs.lemmas.Bool.{cases_lt}
use Rattle.std.proofs.lemmas.List.{get_or_push}
use Rattle.std.proofs.lemmas.Option.{slice_get-get_or, same_Some}
use Rattle.std.specs.Bool.{⊤}
use Rattle.std.specs.Option.{option_and_then, option_map_or}
use Rattle.std.specs.declared.option.Option.{Option}
use Rattle.a68_acts.specs.Does.{Outcome, did, refuses, waits, does, refused}
use Rattle.a68_acts.specs.declared.want.Want.{Want}
use Rattle.a68_code.specs.declared.code.Code.{Code}
use Rattle.a68_strand.specs.Cyclic.{HasTurn, Sooner, IsFirstBehind, TakeTurns, IsTurnOf, EndsInTurn, last_of, Cyclic}
use Rattle.a68_strand.specs.Ends.{fault_of, fault_in, CanActNow}
use Rattle.a68_instructions.specs.Machine.{State}
use Rattle.a68_exec.specs.Runs.{World, Machine, IfNext, opening, acted, acts_in, after}
use Rattle.a68_instructions.specs.declared.ask.Stance.{Stance}
use Rattle.a68_instructions.specs.declared.ask.Stance.TheVariants.{Idle, Asking, Failed, Waits, Closed}
use Rattle.a68_values.specs.declared.act.Act.{Act}
use Rattle.a68_values.specs.declared.act.Entry.{Entry}
use Rattle.a68_values.specs.declared.kept.End.{End}
use Rattle.a68_values.specs.declared.kept.End.TheVariants as ends
use Rattle.a68_values.specs.declared.kept.Kept.{Kept}
use Rattle.a68_workers.specs.Runs.{GoesFrom, IsAtRest, TookTurns}
use Rattle.a68_world.specs.Run.{Run, EndsWithoutTurn, RunBegins, IsNumber, IsSoundRun, world}
use Rattle.a68_world.specs.Turns.{Acts, SetsEnd, EndsAt, EndsHere, HadEnded, IsReady, IsAble, last_strand, FinishesRun}
use Rattle.a68_world.specs.Worlds.{behind, goes, world_of}
use Rattle.a68_world.specs.declared.status.StrandState.{StrandState}
use Rattle.a68_world.specs.declared.status.StrandState.TheVariants as status

-- ---- a journal with one entry more

goes_more : (code : Code) (w : World) (es : List Entry) (e : Entry) → goes code w (es ++ e ∷ []) ≡ behind (goes code w es) (acted code (goes code w es) e.strand)
goes_more code w [] e = refl
goes_more code w (d ∷ es) e = goes_more code (behind w (acted code w d.strand)) es e

next_then : (o : Option (Act × World)) (a : Act) (P Q : World → Type 0) → ((v : World) → P v → Q v) → IfNext o a P → IfNext o a Q
next_then None a P Q f p = p
next_then (Some m) a P Q f p = (p.0, f m.1 p.1)

one_entry : (code : Code) (v u : World) (e : Entry) → acted code v e.strand ≡ Some (e.act, u) → Machine code v (e ∷ []) u
one_entry code v u e next = subst (λ o. IfNext o e.act (λ behind. behind ≡ u)) (sym next) (refl, refl)

pub machine_more : (code : Code) (w v u : World) (es : List Entry) (e : Entry) → Machine code w es v → acted code v e.strand ≡ Some (e.act, u) → Machine code w (es ++ e ∷ []) u
machine_more code w v u [] e runs next = subst (λ x. Machine code x (e ∷ []) u) (sym runs) (one_entry code v u e next)
machine_more code w v u (d ∷ es) e runs next =
    next_then (acted code w d.strand) d.act (λ b. Machine code b es v) (λ b. Machine code b (es ++ e ∷ []) u) (λ b r. machine_more code b v u es e r next) runs

next_both : (o : Option (Act × World)) (a : Act) (P Q R : World → Type 0) → ((v : World) → P v → Q v → R v) → IfNext o a P → IfNext o a Q → IfNext o a R
next_both None a P Q R f p q = p
next_both (Some m) a P Q R f p q = (p.0, f m.1 p.1 q.1)

one_turn : (code : Code) (v u : World) (before : Option ℕ) (e : Entry) → IsTurnOf code v before e.strand → acted code v e.strand ≡ Some (e.act, u) → TakeTurns code v before (e ∷ [])
one_turn code v u before e turn next = (turn, subst (λ o. IfNext o e.act (λ behind. ⊤)) (sym next) (refl, tt))

turns_more : (code : Code) (w v u : World) (before : Option ℕ) (es : List Entry) (e : Entry) → TakeTurns code w before es → Machine code w es v
    → IsTurnOf code v (last_of before es) e.strand → acted code v e.strand ≡ Some (e.act, u) → TakeTurns code w before (es ++ e ∷ [])
turns_more code w v u before [] e turns runs turn next = subst (λ x. TakeTurns code x before (e ∷ [])) (sym runs) (one_turn code v u before e turn next)
turns_more code w v u before (d ∷ es) e turns runs turn next = (
  turns.0,
  next_both (acted code w d.strand) d.act (λ b. TakeTurns code b (Some d.strand) es) (λ b. Machine code b es v) (λ b. TakeTurns code b (Some d.strand) (es ++ e ∷ []))
      (λ b t r. turns_more code b v u (Some d.strand) es e t r turn next) turns.1 runs,
)

pub last_behind : (before : Option ℕ) (xs ys : List Entry) → last_of before (xs ++ ys) ≡ last_of (last_of before xs) ys
last_behind before [] ys = refl
last_behind before (x ∷ xs) ys = last_behind (Some x.strand) xs ys

-- ---- the strand of the last entry

last_strand_more : (es : List Entry) (e : Entry) → last_strand (es ++ e ∷ []) ≡ e.strand
last_strand_more es e =
    let long : length (es ++ e ∷ []) ≡ length es + 1 = length-append es (e ∷ []) in
    let found : slice_get (es ++ e ∷ []) (length (es ++ e ∷ []) - 1) ≡ Some (get_or (es ++ e ∷ []) (length (es ++ e ∷ []) - 1) e) =
    slice_get-get_or (es ++ e ∷ []) (length (es ++ e ∷ []) - 1) e (omega (arith, long)) in
    let is : get_or (es ++ e ∷ []) (length (es ++ e ∷ []) - 1) e ≡ e = get_or_push es e e (length (es ++ e ∷ []) - 1) (omega (arith, long)) in
    ap (λ o. option_map_or (λ (x : Entry). x.strand) o 0) (found ∙ ap (λ x. Some x) is)

-- a list that is not empty has a last entry
pub data HasLast : List Entry → Type 0 where
  no_entry : HasLast []
  ends_by : (es : List Entry) (e : Entry) → HasLast (es ++ e ∷ [])

one_more : (d : Entry) (es : List Entry) → HasLast es → HasLast (d ∷ es)
one_more d _ no_entry = ends_by [] d
one_more d _ (ends_by es e) = ends_by (d ∷ es) e

has_last : (es : List Entry) → HasLast es
has_last [] = no_entry
has_last (d ∷ es) = one_more d es (has_last es)

-- ---- a strand that has a turn is there

pub turn_is_there : (code : Code) (w : World) (n : ℕ) → HasTurn code w n → slice_get w.strands n ≡ None → ⊥
turn_is_there code w n (inl can) gone = can (ap (λ o. option_and_then (λ (st : State). acts_in st.stance code w n st) o) gone)
turn_is_there code w n (inr fault) gone = fault (ap (λ o. option_and_then (λ (st : State). fault_in st.stance w.store) o) gone)

none_past : {X : Type 0} (xs : List X) (n : ℕ) → length xs ≤ n → slice_get xs n ≡ None
none_past [] n p = refl
none_past (x ∷ xs) zero p = absurd (omega arith)
none_past (x ∷ xs) (suc n) p = none_past xs n (omega arith)

some_below : {X : Type 0} (xs : List X) (n : ℕ) → n < length xs → (x : X) × (slice_get xs n ≡ Some x)
some_below [] n p = absurd (omega arith)
some_below (x ∷ xs) zero p = (x, refl)
some_below (x ∷ xs) (suc n) p = some_below xs n (omega arith)

pub within : {X : Type 0} (xs : List X) (n : ℕ) → (slice_get xs n ≡ None → ⊥) → n < length xs
within xs n there = by (cases_lt n (length xs)) where
  by : (n < length xs) ⊎ (length xs ≤ n) → n < length xs
  by (inl p) = p
  by (inr p) = absurd (there (none_past xs n p))

-- in a run that goes on, and of which no strand is lent, each strand that has a turn stands in the world
module _ (run : Run) (known : IsSoundRun run) (rest : IsAtRest run) (kept : run.lost ≡ false) where
  home_in : (k : ℕ) (s : StrandState) → run.end ≡ None → slice_get run.status k ≡ Some s → IsNumber run k status.Home
  home_in k status.Home unended e = e
  home_in k status.Lent unended e = absurd (rest k e)
  home_in k status.Spent unended e = let lost = known.spent k e unended in absurd (cc)

  ready : (k : ℕ) → run.end ≡ None → HasTurn run.code (world run) k → IsReady run k
  ready k unended turn =
      let inside = within (world run).strands k (turn_is_there run.code (world run) k turn) in
      let found = some_below run.status k (omega (arith, known.all, inside)) in
      record { home = home_in k found.0 unended found.1; turn = turn }

  able_first : (behind m : ℕ) → IsFirstBehind (IsAble run) behind m → IsFirstBehind (HasTurn run.code (world run)) behind m
  able_first behind m f = record {
    such = f.such.ready.turn;
    first = λ other turn sooner. f.first other (record { unended = f.such.unended; ready = ready other f.such.unended turn }) sooner;
  }

-- at the beginning there is strand 0 alone
only_first : (code : Code) (n : ℕ) → HasTurn code (opening code) n → n ≡ 0
only_first code zero turn = refl
only_first code (suc n) turn = absurd (turn_is_there code (opening code) (suc n) turn refl)

by_last : (run : Run) (es : List Entry) → run.entries ≡ es → HasLast es → IsSoundRun run → IsAtRest run → run.lost ≡ false → (n : ℕ) → IsFirstBehind (IsAble run) (last_strand es) n
    → IsTurnOf run.code (world run) (last_of None es) n
by_last run _ same no_entry known rest kept n f =
    only_first run.code n (subst (λ (x : List Entry). HasTurn run.code (world_of run.code x) n) same f.such.ready.turn)
by_last run _ same (ends_by es e) known rest kept n f =
    subst (λ b. IsTurnOf run.code (world run) b n) (sym (last_behind None es (e ∷ [])))
    (subst (λ b. IsFirstBehind (HasTurn run.code (world run)) b n) (last_strand_more es e) (able_first run known rest kept (last_strand (es ++ e ∷ [])) n f))

-- the first strand that can be turned is the one whose turn it is
pub first_has_turn : (run : Run) (n : ℕ) → IsSoundRun run → IsAtRest run → run.lost ≡ false → IsFirstBehind (IsAble run) (last_strand run.entries) n → IsTurnOf run.code (world run) (last_of None run.entries) n
first_has_turn run n known rest kept f = by_last run run.entries refl (has_last run.entries) known rest kept n f

-- ---- turns

-- nothing is done yet
pub took_none : (old : Run) → TookTurns old old
took_none old = record {
  more = [];
  entries = sym (append-nil old.entries);
  runs = refl;
  turns = tt;
  ends = λ none e some. absurd (cc);
  still = λ e some. refl;
}

-- an end that needs no turn comes in turn
pub silent_end : (code : Code) (w : World) (before : Option ℕ) (e : End) → EndsWithoutTurn code w (Some e) → EndsInTurn code w before e
silent_end code w before ends.Done p = tt
silent_end code w before ends.AllHalted p = tt
silent_end code w before (ends.Fault why place strand) p = absurd p
silent_end code w before ends.Spent p = absurd p

home_by : (new : Run) (e : End) → SetsEnd new → new.end ≡ Some e → (k : ℕ) (there : StrandState) → IsNumber new k there → there ≡ status.Home
home_by new e h is k status.Home at = refl
home_by new e h is k status.Lent at = let none = h.parted k status.Lent at (λ s. cc) in absurd (cc)
home_by new e h is k status.Spent at = let none = h.parted k status.Spent at (λ s. cc) in absurd (cc)

end_without : (new : Run) (before : Option ℕ) (e : End) → SetsEnd new → new.end ≡ Some e → EndsInTurn new.code (world new) before e
end_without new before e h is = silent_end new.code (world new) before e (subst (λ o. EndsWithoutTurn new.code (world new) o) is (h.whole (home_by new e h is)))

-- an act in turn
pub took_more : (old now new : Run) (n : ℕ) → GoesFrom old now → TookTurns old now → IsSoundRun now → IsAtRest now → IsFirstBehind (IsAble now) (last_strand now.entries) n → Acts now n new → TookTurns old new
took_more old now new n from took known rest first a =
    let e : Entry = record { strand = n; act = a.act } in
    let turn = first_has_turn now n known rest a.goes_on.kept first in
    let before : last_of None now.entries ≡ last_of (last_of None old.entries) took.more = ap (λ es. last_of None es) took.entries ∙ last_behind None old.entries took.more in
    let turn_of : IsTurnOf old.code (world now) (last_of (last_of None old.entries) took.more) n = subst (λ b. IsTurnOf old.code (world now) b n) before (subst (λ c. IsTurnOf c (world now) (last_of None now.entries) n) from.code turn) in
    let next : acted old.code (world now) n ≡ Some (a.act, a.behind) = subst (λ c. acted c (world now) n ≡ Some (a.act, a.behind)) from.code a.next in
    let code : new.code ≡ old.code = a.same.0 ∙ from.code in
    let entries : new.entries ≡ old.entries ++ (took.more ++ e ∷ []) = a.entries ∙ ap (λ es. es ++ e ∷ []) took.entries ∙ append_assoc old.entries took.more (e ∷ []) in
    let behind_is : world new ≡ a.behind =
    ap (λ c. world_of c new.entries) a.same.0 ∙ ap (λ es. world_of now.code es) a.entries ∙ goes_more now.code (opening now.code) now.entries e
    ∙ ap (λ o. behind (world now) o) a.next in
    record {
      more = took.more ++ e ∷ [];
      entries = entries;
      runs = subst (λ w. Machine old.code (world old) (took.more ++ e ∷ []) w) (sym behind_is) (machine_more old.code (world old) (world now) a.behind took.more e took.runs next);
      turns = turns_more old.code (world old) (world now) a.behind (last_of None old.entries) took.more e took.turns took.runs turn_of next;
      ends = λ none x is. subst (λ c. EndsInTurn c (world new) (last_of None new.entries) x) code (end_without new (last_of None new.entries) x a.ends is);
      still = λ x is. let same = took.still x is in let none = a.goes_on.unended in absurd (some_none old now x is same none);
    }
  where
    some_none : (old now : Run) (x : End) → old.end ≡ Some x → now ≡ old → now.end ≡ None → ⊥
    some_none old now x is same none = let e : old.end ≡ None = subst (λ (r : Run). r.end ≡ None) same none in absurd (cc)

-- ---- one strand has its turn

before_or_not : (n m : ℕ) → (n < m) ⊎ (n ≡ m) ⊎ (m < n)
before_or_not n m = by (cases_lt n m) (cases_lt m n) where
  by : (n < m) ⊎ (m ≤ n) → (m < n) ⊎ (n ≤ m) → (n < m) ⊎ (n ≡ m) ⊎ (m < n)
  by (inl p) q = inl p
  by (inr p) (inl q) = inr (inr q)
  by (inr p) (inr q) = inr (inl (omega arith))

sooner_by : (behind n m : ℕ) → n < m → Sooner behind n m ⊎ Sooner behind m n
sooner_by behind n m p = by (cases_lt behind n) (cases_lt behind m) where
  by : (behind < n) ⊎ (n ≤ behind) → (behind < m) ⊎ (m ≤ behind) → Sooner behind n m ⊎ Sooner behind m n
  by (inl q) r = inl (inl (q, inl p))
  by (inr q) (inl r) = inr (inl (r, inr q))
  by (inr q) (inr r) = inl (inr (p, r))

one_first : (Such : ℕ → Type 0) (behind n m : ℕ) → IsFirstBehind Such behind n → IsFirstBehind Such behind m → n ≡ m
one_first Such behind n m p q = by (before_or_not n m) where
  no : Sooner behind n m ⊎ Sooner behind m n → n ≡ m
  no (inl s) = absurd (q.first n p.such s)
  no (inr s) = absurd (p.first m q.such s)

  swapped : Sooner behind m n ⊎ Sooner behind n m → n ≡ m
  swapped (inl s) = absurd (p.first m q.such s)
  swapped (inr s) = absurd (q.first n p.such s)

  by : (n < m) ⊎ (n ≡ m) ⊎ (m < n) → n ≡ m
  by (inl r) = no (sooner_by behind n m r)
  by (inr (inl e)) = e
  by (inr (inr r)) = swapped (sooner_by behind m n r)

pub one_turn_of : (code : Code) (w : World) (before : Option ℕ) (n m : ℕ) → IsTurnOf code w before n → IsTurnOf code w before m → n ≡ m
one_turn_of code w None n m p q = p ∙ sym q
one_turn_of code w (Some b) n m p q = one_first (HasTurn code w) b n m p q

-- ---- a strand that can act stands before no fault

fault_free_outcome : (code : Code) (w : World) (n : ℕ) (st : State) (want : Want) (o : Outcome) → after code w n st want o ≢ None → refused o ≡ None
fault_free_outcome code w n st want (did act reply store) can = refl
fault_free_outcome code w n st want (refuses why) can = absurd (can refl)
fault_free_outcome code w n st want waits can = absurd (can refl)

fault_free_in : (code : Code) (w : World) (n : ℕ) (st : State) (m : Stance) → acts_in m code w n st ≢ None → fault_in m w.store ≡ None
fault_free_in code w n st Idle can = refl
fault_free_in code w n st (Asking want waiting) can = fault_free_outcome code w n st want (does want w.store) can
fault_free_in code w n st (Failed why) can = absurd (can refl)
fault_free_in code w n st (Waits first count) can = refl
fault_free_in code w n st Closed can = refl

fault_free_found : (code : Code) (w : World) (n : ℕ) (o : Option State)
    → option_and_then (λ (st : State). acts_in st.stance code w n st) o ≢ None → option_and_then (λ (st : State). fault_in st.stance w.store) o ≡ None
fault_free_found code w n None can = refl
fault_free_found code w n (Some st) can = fault_free_in code w n st st.stance can

pub no_fault : (code : Code) (w : World) (n : ℕ) → CanActNow code w n → fault_of w n ≡ None
no_fault code w n can = fault_free_found code w n (slice_get w.strands n) can

-- ---- the end of a run

-- an end to which the run comes at a turn comes in turn
turn_end : (run : Run) (n : ℕ) (before : Option ℕ) (e : End) → IsTurnOf run.code (world run) before n → EndsAt run n e → EndsInTurn run.code (world run) before e
turn_end run n before ends.Done turn p = tt
turn_end run n before ends.AllHalted turn p = tt
turn_end run n before (ends.Fault why place strand) turn p = subst (λ k. IsTurnOf run.code (world run) before k) (sym p.0) turn
turn_end run n before ends.Spent turn p =
    λ k other. subst (λ x. fault_of (world run) x ≡ None) (one_turn_of run.code (world run) before n k turn other) (no_fault run.code (world run) n p.1)

ends_here : (old now new : Run) (n : ℕ) (e : End) → GoesFrom old now → TookTurns old now → IsSoundRun now → IsAtRest now → IsFirstBehind (IsAble now) (last_strand now.entries) n → EndsHere now n e new → TookTurns old new
ends_here old now new n e from took known rest first h =
    let turn = first_has_turn now n known rest h.goes_on.kept first in
    let in_turn = turn_end now n (last_of None now.entries) e turn h.ends in
    subst (λ r. TookTurns old r) (sym h.after) (record {
      more = took.more;
      entries = took.entries;
      runs = took.runs;
      turns = took.turns;
      ends = λ none x is. subst (λ c. EndsInTurn c (world now) (last_of None now.entries) x) from.code (subst (λ y. EndsInTurn now.code (world now) (last_of None now.entries) y) (same_Some e x is) in_turn);
      still = λ x is. absurd (ended_no x is (took.still x is) h.goes_on.unended);
    })
  where
    ended_no : (x : End) → old.end ≡ Some x → now ≡ old → now.end ≡ None → ⊥
    ended_no x is same none = let e : old.end ≡ None = subst (λ (r : Run). r.end ≡ None) same none in absurd (cc)

pub took_ended : (old now new : Run) (n : ℕ) (e : End) → GoesFrom old now → TookTurns old now → IsSoundRun now → IsAtRest now → IsFirstBehind (IsAble now) (last_strand now.entries) n
    → HadEnded now e new ⊎ EndsHere now n e new → TookTurns old new
took_ended old now new n e from took known rest first (inl h) = subst (λ r. TookTurns old r) (sym h.after) took
took_ended old now new n e from took known rest first (inr h) = ends_here old now new n e from took known rest first h

-- ---- a journal that goes on

pub goes_none : (old : Run) → GoesFrom old old
goes_none old = record { code = refl; fuel = refl; begins = take_all old.entries }
  where
    take_all : (xs : List Entry) → take (length xs) xs ≡ xs
    take_all [] = refl
    take_all (x ∷ xs) = ap (λ l. x ∷ l) (take_all xs)

-- what a journal begins with it begins with when it is longer
begins_longer : (first es more : List Entry) → take (length first) es ≡ first → take (length first) (es ++ more) ≡ first
begins_longer [] es more b = refl
begins_longer (x ∷ first) [] more b = absurd (cc)
begins_longer (x ∷ first) (e ∷ es) more b =
    let head : e ≡ x = ap (λ l. get_or l 0 x) b in
    let tail : take (length first) es ≡ first = ap (λ l. drop 1 l) b in
    ap (λ y. y ∷ take (length first) (es ++ more)) head ∙ ap (λ l. x ∷ l) (begins_longer first es more tail)

pub goes_longer : (old now new : Run) (more : List Entry) → GoesFrom old now → new.code ≡ now.code → new.fuel ≡ now.fuel → new.entries ≡ now.entries ++ more → GoesFrom old new
goes_longer old now new more g code fuel entries = record {
  code = code ∙ g.code;
  fuel = fuel ∙ g.fuel;
  begins = ap (λ es. take (length old.entries) es) entries ∙ begins_longer old.entries now.entries more g.begins;
}

-- ---- a whole run

same_world : (o : Option (Act × World)) (a : Act) (P Q : World → Type 0) (x y : World) → ((v : World) → P v → Q v → x ≡ y) → IfNext o a P → IfNext o a Q → x ≡ y
same_world None a P Q x y f p q = absurd p
same_world (Some m) a P Q x y f p q = f m.1 p.1 q.1

one_world : (code : Code) (w x y : World) (es : List Entry) → Machine code w es x → Machine code w es y → x ≡ y
one_world code w x y [] p q = sym p ∙ q
one_world code w x y (e ∷ es) p q = same_world (acted code w e.strand) e.act (λ b. Machine code b es x) (λ b. Machine code b es y) x y (λ v r s. one_world code v x y es r s) p q

-- a run that has taken turns from its beginning on, with this journal and this end
module _ (code : Code) (fuel : ℕ) (end : Option End) (new : Run) where
  abbrev first : Run
  first = record { code = code; fuel = fuel; entries = []; status = status.Home ∷ []; lost = false; end = end }

  set_before : (e x : End) → EndsWithoutTurn code (opening code) end → TookTurns first new → end ≡ Some e → new.end ≡ Some x → EndsInTurn code (world new) (last_of None new.entries) x
  set_before e x without took was is =
      let same : new ≡ first = took.still e was in
      let ends_so : Some e ≡ Some x = sym was ∙ ap (λ (r : Run). r.end) (sym same) ∙ is in
      let there : world new ≡ opening code = ap (λ (r : Run). world r) same in
      subst (λ w. EndsInTurn code w (last_of None new.entries) x) (sym there)
      (silent_end code (opening code) (last_of None new.entries) x (subst (λ o. EndsWithoutTurn code (opening code) o) (was ∙ ends_so) without))

  by_end : (x : End) → (o : Option End) → end ≡ o → EndsWithoutTurn code (opening code) end → TookTurns first new → new.end ≡ Some x → EndsInTurn code (world new) (last_of None new.entries) x
  by_end x None was without took is = took.ends was x is
  by_end x (Some e) was without took is = set_before e x without took was is

  has_cycled : EndsWithoutTurn code (opening code) end → TookTurns first new → (kept : Kept) → kept.journal.entries ≡ new.entries → new.end ≡ Some kept.end → Cyclic code kept
  has_cycled without took kept entries is = record {
    turns = subst (λ es. TakeTurns code (opening code) None es) (sym (entries ∙ took.entries)) took.turns;
    ends = λ w runs.
        let same : w ≡ world new = one_world code (opening code) w (world new) took.more (subst (λ es. Machine code (opening code) es w) (entries ∙ took.entries) runs) took.runs in
        subst (λ x. EndsInTurn code x (last_of None kept.journal.entries) kept.end) (sym same)
        (subst (λ es. EndsInTurn code (world new) (last_of None es) kept.end) (sym entries) (by_end kept.end end refl without took is));
  }

pub cycled : (code : Code) (fuel : ℕ) (old new : Run) (handed : Code) (kept : Kept) → RunBegins code fuel old → TookTurns old new → FinishesRun new handed kept → Cyclic code kept
cycled code fuel old new handed kept begins took f =
    has_cycled code fuel old.end new begins.ends (subst (λ (r : Run). TookTurns r new) begins.is took) kept f.entries f.end
