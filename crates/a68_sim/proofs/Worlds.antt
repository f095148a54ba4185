-- One entry of a journal: the world goes on, and the elaboration with it.
use Rattle.std.proofs.Common.{◌≡◌, ◌≢◌, ℕ, zero, suc, ◌+◌, ◌<◌, ◌≤◌, arith, Bool, true, false, List, [], ◌∷◌, ◌++◌, length, map, None, Some, refl, sym, ap, ◌∙◌, subst, ⊎_elim}
use Rattle.std.specs.Option.{option_and_then}
use Rattle.std.specs.Prelude.{slice_get, slice_set}
use Rattle.std.specs.declared.option.Option.{Option}
use Rattle.std.proofs.lemmas.Bool.{cases_eq, cases_lt}
use Rattle.std.proofs.lemmas.List.{length-map}
use Rattle.std.proofs.lemmas.Option.{same_Some}
use Rattle.a68_acts.specs.Does.{Outcome, did, refuses, waits, does}
use Rattle.a68_acts.specs.Operations.{resumed}
use Rattle.a68_acts.specs.Store.{Store}
use Rattle.a68_acts.specs.declared.operation.Doing.{Doing}
use Rattle.a68_acts.specs.declared.operation.Doing.TheVariants as doing
use Rattle.a68_acts.specs.declared.want.Reply.{Reply}
use Rattle.a68_acts.specs.declared.want.Reply.TheVariants as reply
use Rattle.a68_acts.specs.declared.want.Want.{Want}
use Rattle.a68_acts.specs.declared.want.Want.TheVariants as want
use Rattle.a68_code.specs.declared.code.Code.{Code}
use Rattle.a68_elab.specs.Elaborations.{Elaborates, by_act}
use Rattle.a68_elab.specs.Positions.{Opens}
use Rattle.a68_elab.specs.Terms.{Term, part, yielded, joining}
use Rattle.a68_elab.specs.Trees.{Program}
use Rattle.a68_sim.proofs.Beginning.{Begun, StandFrom, begin, times_from}
use Rattle.a68_sim.proofs.Family.{how_many, QuietIn, in_on, in_hole, own_hole, quiet_at, in_elaborates, all_joining, Kin, single, parent, number, times, Lives, Joined, present}
use Rattle.a68_sim.proofs.Finishing.{Finish, EndsAt, Works}
use Rattle.a68_heights.proofs.ForksOfSteps.{is_fork}
use Rattle.a68_sim.proofs.Forks.{strands_kept, fork_tells}
use Rattle.a68_sim.proofs.Lists.{same, same_self, same_other, same_most, get_set_same, get_set_other, length_set, length_both, get_front, get_back, get_either, get_less, get_map, was_there}
use Rattle.a68_sim.proofs.Locating.{Spot, locate}
use Rattle.a68_sim.proofs.Quiet.{ActsNext, Kept, simply, joins, Joins, opens_at, waiting_at}
use Rattle.a68_sim.proofs.Rousing.{Woke, wake}
use Rattle.a68_sim.proofs.Routines.{TextsStand}
use Rattle.a68_sim.proofs.Settling.{SettledIn, Arrives, settles}
use Rattle.a68_exec.proofs.Settled.{settle_rests, settle_still}
use Rattle.a68_strand.proofs.Waking.{IsCalm, calm_after, begun_goes, woken_still}
use Rattle.a68_instructions.specs.Machine.{State, beginning, settle, next_state, follows, leaves_at, told_by, replied, replied_in, place_at}
use Rattle.a68_exec.specs.Runs.{World, begun, woken, strands_after, acts_in, acted, after, IfNext}
use Rattle.a68_instructions.specs.declared.ask.Stance.{Stance}
use Rattle.a68_instructions.specs.declared.ask.Stance.TheVariants.{Idle, Asking, Failed, Waits, Closed}
use Rattle.a68_instructions.specs.declared.ask.Waiting.{Waiting}
use Rattle.a68_instructions.specs.declared.ask.Waiting.TheVariants as waiting
use Rattle.a68_stack.specs.declared.stack.Item.{Item}
use Rattle.a68_values.specs.Content.{void}
use Rattle.a68_values.specs.declared.act.Act.{Act}
use Rattle.a68_values.specs.declared.act.Entry.{Entry}
use Rattle.a68_values.specs.declared.chain.Environ.{Environ}

-- ---- the machine's next act

-- the strand asks for an act, which is done
pub record Acts (code : Code) (w : World) (n : ℕ) (act : Act) (w' : World) : Type 0 where
  pub st : State
  pub there : slice_get w.strands n ≡ Some st
  pub want : Want
  pub wait : Waiting
  pub stance : st.stance ≡ Asking want wait
  pub told : Reply
  pub store : Store
  pub done : does want w.store ≡ did act told store
  pub world : w' ≡ record { store = store; strands = strands_after code w.strands n (settle code (replied code st told)) (begun code st want) }

abbrev Next : Code → World → ℕ → Act → (World → Type 0) → Type 0
Next code w n act P = (w' : World) × P w' × Acts code w n act w'

by_outcome : (code : Code) (w : World) (n : ℕ) (act : Act) (P : World → Type 0) (st : State) → slice_get w.strands n ≡ Some st → (want : Want) (wait : Waiting)
    → st.stance ≡ Asking want wait → (o : Outcome) → does want w.store ≡ o → IfNext (after code w n st want o) act P → Next code w n act P
by_outcome code w n act P st there want wait e (refuses why) d m = absurd m
by_outcome code w n act P st there want wait e waits d m = absurd m
by_outcome code w n act P st there want wait e (did found r store) d m = (
  record { store = store; strands = strands_after code w.strands n (settle code (replied code st r)) (begun code st want) },
  m.1,
  record {
    st = st;
    there = there;
    want = want;
    wait = wait;
    stance = e;
    told = r;
    store = store;
    done = d ∙ ap (λ (a : Act). did a r store) m.0;
    world = refl;
  },
)

by_stance : (code : Code) (w : World) (n : ℕ) (act : Act) (P : World → Type 0) (st : State) → slice_get w.strands n ≡ Some st → (s : Stance) → st.stance ≡ s
    → IfNext (acts_in s code w n st) act P → Next code w n act P
by_stance code w n act P st there Idle e m = absurd m
by_stance code w n act P st there (Asking want wait) e m = by_outcome code w n act P st there want wait e (does want w.store) refl m
by_stance code w n act P st there (Failed why) e m = absurd m
by_stance code w n act P st there (Waits first count) e m = absurd m
by_stance code w n act P st there Closed e m = absurd m

by_strand : (code : Code) (w : World) (n : ℕ) (act : Act) (P : World → Type 0) (o : Option State) → slice_get w.strands n ≡ o
    → IfNext (option_and_then (λ (st : State). acts_in st.stance code w n st) o) act P → Next code w n act P
by_strand code w n act P None e m = absurd m
by_strand code w n act P (Some st) e m = by_stance code w n act P st e st.stance refl m

pub next_acts : (code : Code) (w : World) (n : ℕ) (act : Act) (P : World → Type 0) → IfNext (acted code w n) act P → Next code w n act P
next_acts code w n act P m = by_strand code w n act P (slice_get w.strands n) refl m

follows_chain : (st : State) (g : Bool) (items : List Item) (d : Doing) → (follows st g items d).chain ≡ st.chain
follows_chain st true items (doing.Yields v) = refl
follows_chain st false items (doing.Yields v) = refl
follows_chain st true items (doing.Asks w next) = refl
follows_chain st false items (doing.Asks w next) = refl
follows_chain st true items (doing.Meets why) = refl
follows_chain st false items (doing.Meets why) = refl

-- a strand that is told a number stays in its chain of frames
base_chain : (code : Code) (st : State) (wait : Waiting) (n : ℕ) → (told_by code st wait (reply.Base n)).chain ≡ st.chain
base_chain code st (waiting.Operation next) n = follows_chain st (leaves_at code st.at) st.stack.items (resumed code.modes next (reply.Base n))
base_chain code st waiting.Frame n = refl
base_chain code st waiting.Turn n = refl
base_chain code st (waiting.Jump to) n = refl
base_chain code st (waiting.Called r ps) n = refl
base_chain code st (waiting.Entered text ps) n = refl
base_chain code st (waiting.Bound text ps) n = refl
base_chain code st (waiting.Fork count) n = refl
base_chain code st waiting.Close n = refl
base_chain code st (waiting.Units first count) n = refl

-- an act that is no Fork makes no strands
none_begun : (code : Code) (st : State) (w : Want) → is_fork w ≡ false → begun code st w ≡ []
none_begun code st (want.Fork entrances) e = absurd (cc)
none_begun code st _ e = refl

-- ---- new numbers

-- a number is there once, and only where it is among them
from_before : (s first n : ℕ) → s < first → times_from s first n ≡ 0
from_before s first zero less = refl
from_before s first (suc n) less =
    let a = same_other s first (λ e. absurd (omega (arith, e))) in let b = from_before s (suc first) n (omega arith) in omega arith

from_most : (s first n : ℕ) → times_from s first n ≤ 1
from_most s first zero = omega arith
from_most s first (suc n) =
    ⊎_elim
    (λ e. let a = from_before s (suc first) n (omega arith) in let b = same_most s first in omega arith)
    (λ ne. let a = same_other s first ne in let b = from_most s (suc first) n in omega arith)
    (cases_eq s first)

from_there : (first j n : ℕ) → j < n → 0 < times_from (first + j) first n
from_there first j zero less = absurd (omega arith)
from_there first zero (suc n) less =
    let e : same first first ≡ 1 = same_self first in
    let q : first + 0 ≡ first = omega arith in
    let r : same (first + 0) first ≡ same first first = ap (λ x. same x first) q in
    omega arith
from_there first (suc j) (suc n) less =
    let r = from_there (suc first) j n (omega arith) in
    let q : suc first + j ≡ first + suc j = omega arith in
    let e : times_from (suc first + j) (suc first) n ≡ times_from (first + suc j) (suc first) n = ap (λ x. times_from x (suc first) n) q in
    omega arith

-- strands by their places stand from a place on
stand_from : (program : Program) (code : Code) (same_modes : code.modes ≡ program.modes) (texts : TextsStand program code) (sts : List State) (first : ℕ) (es : List ℕ) (ch : List Environ)
    → ((i e : ℕ) → slice_get es i ≡ Some e → slice_get sts (first + i) ≡ Some (settle code (beginning e ch))) → StandFrom program code same_modes texts sts first es ch
stand_from program code same_modes texts sts first [] ch at = tt
stand_from program code same_modes texts sts first (e ∷ es) ch at = (
  let q : first ≡ first + 0 = omega arith in ap (slice_get sts) q ∙ at 0 e refl,
  stand_from program code same_modes texts sts (suc first) es ch (λ i x is. let q : suc first + i ≡ first + suc i = omega arith in ap (slice_get sts) q ∙ at (suc i) x is),
)

module _ (program : Program) (code : Code) (same_modes : code.modes ≡ program.modes) (texts : TextsStand program code) (how : Finish) (end : EndsAt code how) where
  -- the elaboration is as far as the world: each strand stands as its part of the term does, and the strands that are in no
  -- part have closed
  pub record Joint (t : Term) (w : World) : Type 0 where
    pub kin : Kin
    pub root : number kin ≡ 0
    pub lives : Lives program code w.strands kin how t
    pub once : (s : ℕ) → times s kin ≤ 1
    pub gone : (s : ℕ) (st : State) → slice_get w.strands s ≡ Some st → times s kin ≡ 0 → st.stance ≡ Closed
    pub counted : w.store.strands ≡ length w.strands
    pub calm : IsCalm code w.strands

  -- the same, before those whose units have closed go on
  pub record Ready (t : Term) (sts : List State) (store : Store) : Type 0 where
    pub kin : Kin
    pub root : number kin ≡ 0
    pub lives : Lives program code sts kin how t
    pub once : (s : ℕ) → times s kin ≤ 1
    pub gone : (s : ℕ) (st : State) → slice_get sts s ≡ Some st → times s kin ≡ 0 → st.stance ≡ Closed
    pub counted : store.strands ≡ length sts
    pub rests : (s : ℕ) (st : State) → slice_get sts s ≡ Some st → next_state code st ≡ None

  -- those whose units have closed have gone on
  pub record Wakes (t : Term) (sts : List State) (store : Store) : Type 0 where
    pub term : Term
    pub quiet : QuietIn program 0 t term
    pub joint : Joint term (record { store = store; strands = map (woken code sts) sts })

  pub wake_world : (t : Term) (sts : List State) (store : Store) → Ready t sts store → Wakes t sts store
  wake_world t sts store r =
      let u : Woke program code same_modes texts sts r.rests r.kin how t = wake program code same_modes texts sts r.rests r.kin how t end r.lives in
      record {
        term = u.term;
        quiet = subst (λ (x : ℕ). QuietIn program x t u.term) r.root u.quiet;
        joint = record {
          kin = u.kin';
          root = u.root ∙ r.root;
          lives = u.lives;
          once = λ s. let a = u.less s in let b = r.once s in omega arith;
          gone = λ s st e z.
              let y = was_there (woken code sts) sts s st e in
              closed_stays y.0 s y.1 st y.2
              (⊎_elim (λ none. r.gone s y.0 y.1 none) (λ some. u.lost s y.0 (omega arith) z y.1) (cases_eq (times s r.kin) 0));
          counted = r.counted ∙ sym (length-map sts (woken code sts));
          calm = calm_after code sts (λ s st e. r.rests s st e);
        };
      }
    where
      closed_stays : (y : State) (s : ℕ) → slice_get sts s ≡ Some y → (st : State) → woken code sts y ≡ st → y.stance ≡ Closed → st.stance ≡ Closed
      closed_stays y s there st e c =
          ap (λ (x : State). x.stance) (sym e ∙ woken_still code sts y (r.rests s y there) (λ first count w. let q : Closed ≡ Waits first count = sym c ∙ w in absurd (cc))) ∙ c

  -- the elaboration has done what the entry tells
  pub record Steps (t : Term) (w : World) (n : ℕ) (act : Act) (w' : World) : Type 0 where
    pub term : Term
    pub leads : (es : List Entry) (t2 : Term) (s2 : Store) → Elaborates program term w'.store es t2 s2
        → Elaborates program t w.store (record { strand = n; act = act } ∷ es) t2 s2
    pub joint : Joint term w'

  -- ---- behind an act

  module _ (t : Term) (w : World) (n : ℕ) (act : Act) (w' : World) (j : Joint t w) (a : Acts code w n act w') where
    -- the strand behind its act, the strands that the act makes, and all of them
    abbrev next : State
    next = settle code (replied code a.st a.told)

    abbrev new : List State
    new = begun code a.st a.want

    abbrev sts1 : List State
    sts1 = slice_set w.strands n next ++ new

    -- the strand that acts neither waits nor has closed: it has its place in the term
    goes : (first count : ℕ) → a.st.stance ≢ Waits first count
    goes first count e = let q : Asking a.want a.wait ≡ Waits first count = sym a.stance ∙ e in absurd (cc)

    alive : 0 < times n j.kin
    alive =
        ⊎_elim
        (λ none. let q : Asking a.want a.wait ≡ Closed = sym a.stance ∙ j.gone n a.st a.there none in absurd (cc))
        (λ some. omega arith)
        (cases_eq (times n j.kin) 0)

    spot : Spot program code w.strands n a.st j.kin how t
    spot = locate program code w.strands n a.st a.there goes j.kin how t end j.lives alive j.once

    -- the act of the term
    f : ActsNext program code (Works code spot.finish) spot.term (place_at code.list a.st.at) a.want (told_by code a.st a.wait)
    f = subst (λ (x : Stance). SettledIn program code spot.finish x spot.term a.st) a.stance spot.settled

    told_so : told_by code a.st a.wait a.told ≡ replied code a.st a.told
    told_so = sym (ap (λ (x : Stance). replied_in x code a.st a.told) a.stance)

    kept : Kept program code (Works code spot.finish) w.store a.want f.open_at.put (f.next a.told) (replied code a.st a.told)
    kept =
        subst (Kept program code (Works code spot.finish) w.store a.want f.open_at.put (f.next a.told)) told_so
        (f.keeps w.store a.store act a.told a.done)

    abbrev put : Term → Term
    put u = spot.put (f.open_at.put u)

    -- the elaboration does the act, and goes on
    hole_open : (u : Term) → Opens f.open_at.spot u n 0 (spot.put f.now) (put u)
    hole_open u =
        subst (λ (x : ℕ). Opens f.open_at.spot u n x (spot.put f.now) (put u)) j.root
        (spot.hole.opens n f.open_at.spot u f.now (f.open_at.put u) (opens_at f.open_at n u))

    leads_to : (t2 : Term) → QuietIn program 0 (put (f.next a.told)) t2 → (es : List Entry) (t3 : Term) (s3 : Store) → Elaborates program t2 a.store es t3 s3
        → Elaborates program t w.store (record { strand = n; act = act } ∷ es) t3 s3
    leads_to t2 q es t3 s3 e =
        subst (λ (x : Term). Elaborates program x w.store (record { strand = n; act = act } ∷ es) t3 s3) (sym spot.whole)
        (in_elaborates (subst (λ (x : ℕ). QuietIn program x (spot.put spot.term) (spot.put f.now)) j.root (in_hole spot.put spot.hole (quiet_at f.quiet n)))
        (by_act (hole_open (f.next a.told)) f.open_at.is (f.alike w.store ∙ a.done) (in_elaborates q e)))

    -- the strands behind the act, by their numbers
    others : (s : ℕ) (y : State) → s ≢ n → 0 < times s j.kin → slice_get w.strands s ≡ Some y → slice_get sts1 s ≡ Some y
    others s y ne less e = get_front (slice_set w.strands n next) new s y (get_set_other w.strands n s next ne ∙ e)

    at_n : slice_get sts1 n ≡ Some next
    at_n = get_front (slice_set w.strands n next) new n next (get_set_same w.strands n a.st next a.there)

    rests : (s : ℕ) (st : State) → slice_get sts1 s ≡ Some st → next_state code st ≡ None
    rests s st e =
        ⊎_elim
        (λ front. ⊎_elim
        (λ q. subst (λ (x : State). next_state code x ≡ None) (same_Some next st (sym (ap (slice_get (slice_set w.strands n next)) q ∙ get_set_same w.strands n a.st next a.there) ∙ front))
        (settle_rests code (replied code a.st a.told)))
        (λ ne. j.calm.rests s st (sym (get_set_other w.strands n s next ne) ∙ front))
        (cases_eq s n))
        (λ back. (begun_goes code a.st a.want back.0 st back.2).0)
        (get_either (slice_set w.strands n next) new s st e)

    -- a strand that is not there is in no part
    unborn : (s : ℕ) → length w.strands ≤ s → times s j.kin ≡ 0
    unborn s far =
        ⊎_elim
        (λ none. none)
        (λ some. let p = present program code w.strands j.kin how t j.lives s (omega arith) in let q = get_less w.strands s p.0 p.1 in absurd (omega arith))
        (cases_eq (times s j.kin) 0)

    -- one that is among the new ones is none of those before
    not_before : (s : ℕ) → 0 < times_from s (length w.strands) (length new) → length w.strands ≤ s
    not_before s some =
        ⊎_elim
        (λ less. let z = from_before s (length w.strands) (length new) less in absurd (omega arith))
        (λ far. far)
        (cases_lt s (length w.strands))

    -- a family in which the new strands stand beside those that stood in it
    module _ (kin : Kin) (counts : (s : ℕ) → times s kin ≡ times s j.kin + times_from s (length w.strands) (length new)) where
      once_more : (s : ℕ) → times s kin ≤ 1
      once_more s =
          let c = counts s in
          let o = j.once s in
          let m = from_most s (length w.strands) (length new) in
          ⊎_elim
          (λ none. omega arith)
          (λ some. let z = unborn s (not_before s (omega arith)) in omega arith)
          (cases_eq (times_from s (length w.strands) (length new)) 0)

      -- a strand that stood before, and is in no part
      gone_before : (s : ℕ) (st : State) → times s kin ≡ 0 → slice_get (slice_set w.strands n next) s ≡ Some st → st.stance ≡ Closed
      gone_before s st z front =
          let c = counts s in
          ⊎_elim
          (λ q. let live = alive in let r : times s j.kin ≡ times n j.kin = ap (λ (x : ℕ). times x j.kin) q in absurd (omega arith))
          (λ ne. j.gone s st (sym (get_set_other w.strands n s next ne) ∙ front) (omega arith))
          (cases_eq s n)

      -- a new one is in a part
      none_gone : (s k : ℕ) (st : State) → times s kin ≡ 0 → s ≡ length (slice_set w.strands n next) + k → slice_get new k ≡ Some st → ⊥
      none_gone s k st z at back =
          let c = counts s in
          let l = length_set w.strands n next in
          let there = from_there (length w.strands) k (length new) (get_less new k st back) in
          let q : s ≡ length w.strands + k = omega arith in
          let r : times_from s (length w.strands) (length new) ≡ times_from (length w.strands + k) (length w.strands) (length new) =
          ap (λ (x : ℕ). times_from x (length w.strands) (length new)) q in
          absurd (omega arith)

      ready : (t2 : Term) → number kin ≡ 0 → Lives program code sts1 kin how t2 → a.store.strands ≡ w.store.strands + length new → Ready t2 sts1 a.store
      ready t2 root lives counted = record {
        kin = kin;
        root = root;
        lives = lives;
        once = once_more;
        gone = λ s st e z.
            ⊎_elim
            (λ front. gone_before s st z front)
            (λ back. absurd (none_gone s back.0 st z back.1 back.2))
            (get_either (slice_set w.strands n next) new s st e);
        counted =
            let l = length_set w.strands n next in
            let b = length_both (slice_set w.strands n next) new in
            let c = j.counted in omega arith;
        rests = rests;
      }

    -- the strand goes on alone
    module _ (plain : is_fork a.want ≡ false) (k : Works code spot.finish (f.open_at.put (f.next a.told)) (replied code a.st a.told)) where
      later : Arrives program code spot.finish (f.open_at.put (f.next a.told)) next
      later = settles program code same_modes texts spot.finish spot.ends (f.open_at.put (f.next a.told)) (replied code a.st a.told) k

      none_new : length new ≡ 0
      none_new = ap length (none_begun code a.st a.want plain)

      counts_alone : (s : ℕ) → times s (spot.swap (single n)) ≡ times s j.kin + times_from s (length w.strands) (length new)
      counts_alone s =
          let c = spot.counts s (single n) in
          let z : times_from s (length w.strands) (length new) ≡ 0 = ap (times_from s (length w.strands)) none_new in
          omega arith

      goes_alone : (t2 : Term) × QuietIn program 0 (put (f.next a.told)) t2 × Ready t2 sts1 a.store
      goes_alone = (
        spot.put later.0,
        subst (λ (x : ℕ). QuietIn program x (put (f.next a.told)) (spot.put later.0)) j.root (in_hole spot.put spot.hole (quiet_at later.1 n)),
        ready (spot.swap (single n)) counts_alone (spot.put later.0) (spot.root (single n) refl ∙ j.root)
            (spot.back sts1 (single n) later.0 refl others (next, at_n, later.2))
            (let e = strands_kept a.want w.store a.store act a.told plain a.done in let z = none_new in omega arith),
      )

    -- it waits for its units
    module _ (i : Joins program code (Works code spot.finish) w.store a.want f.open_at.put (f.next a.told) (replied code a.st a.told)) where
      -- the number of the first one, and where a unit begins
      abbrev first : ℕ
      first = w.store.strands

      abbrev begins : ℕ → State
      begins at = settle code (beginning at i.chain)

      waits_at : next ≡ waiting_at i.at i.items i.chain first (length i.entrances)
      waits_at = settle_still code (replied code a.st a.told) (ap (next_state code) i.state) ∙ i.state

      -- the strand is told that number, and the store counts the units
      tells : (a.told ≡ reply.Base first) × (a.store.strands ≡ w.store.strands + length i.entrances)
      tells = fork_tells i.entrances w.store a.store act a.told (ap (λ (x : Want). does x w.store) (sym i.forks) ∙ a.done)

      same_chain : a.st.chain ≡ i.chain
      same_chain =
          sym (base_chain code a.st a.wait first) ∙ ap (λ (r : Reply). (told_by code a.st a.wait r).chain) (sym tells.0)
          ∙ ap (λ (x : State). x.chain) (told_so ∙ i.state)

      -- the new strands are the units, each before its first act
      news : new ≡ map begins i.entrances
      news = ap (begun code a.st) i.forks ∙ ap (λ (c : List Environ). map (λ (at : ℕ). settle code (beginning at c)) i.entrances) same_chain

      many : length new ≡ length i.entrances
      many = ap length news ∙ length-map i.entrances begins

      there_from : (k e : ℕ) → slice_get i.entrances k ≡ Some e → slice_get sts1 (first + k) ≡ Some (begins e)
      there_from k e there =
          let l = length_set w.strands n next in
          let c = j.counted in
          let q : first + k ≡ length (slice_set w.strands n next) + k = omega arith in
          ap (slice_get sts1) q ∙ get_back (slice_set w.strands n next) new k ∙ ap (λ (l : List State). slice_get l k) news
          ∙ get_map begins i.entrances k e there

      units : Begun program code same_modes texts sts1 first i.numbers i.entrances i.chain
      units =
          begin program code same_modes texts sts1 first i.numbers i.entrances i.chain i.begin
          (stand_from program code same_modes texts sts1 first i.entrances i.chain there_from)

      abbrev now : Term
      now = f.open_at.put (part joining i.chain units.terms)

      joined : Joined code sts1 n first (how_many units.kins) spot.finish i.chain now units.terms
      joined = record {
        st = next;
        there = at_n;
        waits = ap (λ (x : State). x.stance) waits_at ∙ ap (Waits first) (sym units.long);
        put = f.open_at.put;
        hole = f.open_at.hole;
        adds = f.open_at.adds;
        whole = refl;
        goes_on = subst (λ (x : State). Works code spot.finish (f.open_at.put (yielded void)) (record x { at = suc x.at; stance = Idle })) (sym waits_at) i.goes_on;
      }

      quiet : QuietIn program n (f.open_at.put (f.next a.told)) now
      quiet =
          subst (λ (x : Term). QuietIn program n (f.open_at.put x) now) (sym i.units)
          (in_hole f.open_at.put (own_hole f.open_at.put f.open_at.hole n) (all_joining i.chain (units.quiet n)))

      abbrev kin1 : Kin
      kin1 = spot.swap (parent n units.kins)

      counts : (s : ℕ) → times s kin1 ≡ times s j.kin + times_from s (length w.strands) (length new)
      counts s =
          let c = spot.counts s (parent n units.kins) in
          let d = units.counts s in
          let e : times_from s first (length i.entrances) ≡ times_from s (length w.strands) (length new) =
          ap (λ (x : ℕ). times_from s x (length i.entrances)) j.counted ∙ ap (times_from s (length w.strands)) (sym many) in
          omega arith

      forks : (t2 : Term) × QuietIn program 0 (put (f.next a.told)) t2 × Ready t2 sts1 a.store
      forks = (
        spot.put now,
        subst (λ (x : ℕ). QuietIn program x (put (f.next a.told)) (spot.put now)) j.root (in_hole spot.put spot.hole quiet),
        ready kin1 counts (spot.put now) (spot.root (parent n units.kins) refl ∙ j.root)
            (spot.back sts1 (parent n units.kins) now refl others (first, i.chain, units.terms, joined, units.lives))
            (let e = tells.1 in let m = many in omega arith),
      )

    -- those that waited for units which have now closed go on too
    act_steps : (t2 : Term) × QuietIn program 0 (put (f.next a.told)) t2 × Ready t2 sts1 a.store → Steps t w n act w'
    act_steps r =
        let x = wake_world r.0 sts1 a.store r.2 in
        subst (Steps t w n act) (sym a.world) (record { term = x.term; leads = λ es t3 s3 e. leads_to x.term (in_on r.1 x.quiet) es t3 s3 e; joint = x.joint })

    by_kept : Kept program code (Works code spot.finish) w.store a.want f.open_at.put (f.next a.told) (replied code a.st a.told) → Steps t w n act w'
    by_kept (simply plain k) = act_steps (goes_alone plain k)
    by_kept (joins i) = act_steps (forks i)

    pub steps : Steps t w n act w'
    steps = by_kept kept
