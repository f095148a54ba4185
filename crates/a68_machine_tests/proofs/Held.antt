-- A strand that is lent stays the replay of its own entries while others are turned.
use Rattle.std.proofs.Common.{◌≡◌, ◌∙◌, ◌⊎◌, inl, inr, ℕ, List, [], ◌∷◌, ◌++◌, refl, sym, ap, subst, IsTrue}
use Rattle.std.specs.Prelude.{Option, None, Some, Ok, Err, OnOk, slice_get}
use Rattle.std.specs.declared.result.Result.{Result}
use Rattle.a68_acts.specs.declared.want.Reply.{Reply}
use Rattle.a68_code.specs.declared.code.Code.{Code}
use Rattle.a68_instructions.specs.Machine.{replied}
use Rattle.a68_strand.specs.Strands.{HasSettled, awaits, standing, LeavesRoom}
use Rattle.a68_strand.specs.declared.strand.Strand.{Strand}
use Rattle.a68_values.specs.declared.act.Act.{Act}
use Rattle.a68_values.specs.declared.act.Entry.{Entry}
use Rattle.a68_values.specs.declared.kept.End.{End}
use Rattle.a68_world.specs.Leases.{ActOf, ErrOf, IsHeld, IsReplay, LendOf, Replies}
use Rattle.a68_world.specs.Run.{Run, IsNumber, IsSoundRun}
use Rattle.a68_world.specs.Turns.{Acts, EndsHere, FindsNoMemory, HadEnded, IsLeftUndone, IsSpentBy, TurnOf}
use Rattle.a68_world.specs.Worlds.{IsJournal}
use Rattle.a68_world.specs.declared.status.StrandState.{StrandState}
use Rattle.a68_world.specs.declared.status.StrandState.TheVariants.{Home, Lent}
use Rattle.a68_world.specs.declared.turned.Turned.{Turned}
use Rattle.a68_world.specs.declared.turned.Turned.TheVariants as turned
use Rattle.a68_world.proofs.Places.{set_same}
use Rattle.a68_world.proofs.Replays.{replay_on, replay_told}

-- ---- it is taken out

pub lent_is_held : (old new : Run) (k : ℕ) (found : Option Strand) (strand : Strand) → found ≡ Some strand → LendOf old k found new → IsHeld new strand
lent_is_held old new k None strand is l = absurd (cc)
lent_is_held old new k (Some s) strand is l =
    let same : s ≡ strand = cc in
    subst (IsHeld new) same (record {
      lent = ap (λ (r : Run). slice_get r.status s.number) l.after ∙ ap (slice_get _) l.number ∙ set_same old.status k Home Lent l.ready.home;
      replay =
          subst (λ (c : Code). IsReplay c new.entries s) (sym (ap (λ (r : Run). r.code) l.after))
          (subst (λ (es : List Entry). IsReplay old.code es s) (sym (ap (λ (r : Run). r.entries) l.after)) l.replay);
    })

-- ---- another strand is turned

-- the run has the same entries, and the strands are where they were
still : (old new : Run) (strand : Strand) → new.code ≡ old.code → new.entries ≡ old.entries → new.status ≡ old.status → IsHeld old strand → IsHeld new strand
still old new strand code entries status held = record {
  lent = ap (λ (l : List StrandState). slice_get l strand.number) status ∙ held.lent;
  replay = subst (λ (c : Code). IsReplay c new.entries strand) (sym code) (subst (λ (es : List Entry). IsReplay old.code es strand) (sym entries) held.replay);
}

same : (old new : Run) (strand : Strand) → new ≡ old → IsHeld old strand → IsHeld new strand
same old new strand is held = still old new strand (ap (λ (r : Run). r.code) is) (ap (λ (r : Run). r.entries) is) (ap (λ (r : Run). r.status) is) held

-- one that stands in the world is another
apart : (run : Run) (n : ℕ) (strand : Strand) → IsNumber run n Home → IsHeld run strand → n ≡ strand.number → ⊥
apart run n strand home held is =
    let both : Some Home ≡ Some Lent = sym home ∙ ap (slice_get run.status) is ∙ held.lent in absurd (cc)

-- there is one entry more, which is of another strand
behind : (old new : Run) (n : ℕ) (act : Act) (strand : Strand) → IsSoundRun new → new.code ≡ old.code → new.entries ≡ old.entries ++ record { strand = n; act = act } ∷ [] → (n ≡ strand.number → ⊥)
    → IsNumber new strand.number Lent → IsHeld old strand → IsHeld new strand
behind old new n act strand sound code entries ne lent held = record {
  lent = lent;
  replay =
      subst (λ (es : List Entry). IsReplay new.code es strand) (sym entries)
      (replay_on new.code old.entries (record { strand = n; act = act } ∷ []) strand (subst (λ (es : List Entry). IsJournal new.code es) entries sound.runs) (ne, tt)
      (subst (λ (c : Code). IsReplay c old.entries strand) (sym code) held.replay));
}

over-held : (old new : Run) (n : ℕ) (e : End) (strand : Strand) → HadEnded old e new ⊎ EndsHere old n e new → IsHeld old strand → IsHeld new strand
over-held old new n e strand (inl h) held = same old new strand h.after held
over-held old new n e strand (inr h) held = still old new strand (ap (λ (r : Run). r.code) h.after) (ap (λ (r : Run). r.entries) h.after) (ap (λ (r : Run). r.status) h.after) held

acts-held : (old new : Run) (n : ℕ) (strand : Strand) → IsSoundRun new → Acts old n new → IsHeld old strand → IsHeld new strand
acts-held old new n strand sound a held =
    let ne = apart old n strand a.ready.home held in
    let lent : IsNumber new strand.number Lent = elim (a.seated.stays strand.number Lent held.lent (λ e. ne (sym e))) [ inl p ↦ p | inr p ↦ absurd (cc (p.0)) ] in
    behind old new n a.act strand sound a.same.0 a.entries ne lent held

memory-held : (old new : Run) (n : ℕ) (strand : Strand) → IsSoundRun new → FindsNoMemory old n new → IsLeftUndone old n new ⊎ IsSpentBy old n new → IsHeld old strand → IsHeld new strand
memory-held old new n strand sound f (inl left) held = still old new strand f.same.0 (ap (λ (r : Run). r.entries) left.after) (ap (λ (r : Run). r.status) left.after) held
memory-held old new n strand sound f (inr s) held =
    let ne = apart old n strand s.due.ready.home held in
    behind old new n s.act strand sound f.same.0 s.entries ne (s.stays strand.number Lent held.lent (λ e. ne (sym e))) held

pub turn_held : (old new : Run) (n : ℕ) (t : Turned) (strand : Strand) → IsSoundRun new → TurnOf old n t new → IsHeld old strand → IsHeld new strand
turn_held old new n turned.Acted strand sound a held = acts-held old new n strand sound a held
turn_held old new n (turned.Over e) strand sound h held = over-held old new n e strand h held
turn_held old new n turned.NotReady strand sound h held = same old new strand h.after held
turn_held old new n turned.NoMemory strand sound f held = memory-held old new n strand sound f f.after held

-- ---- it acts

pub replies_await : (old : Run) (strand : Strand) (told : Reply) → Replies old strand told → IsTrue (awaits strand.about.ask)
replies_await old strand told r = rw r.asks refl

on-ok : {T E : Type 0} (r : Result T E) (x : T) (P : Type 0) → r ≡ Ok x → OnOk r P → P
on-ok (Ok y) x P e p = p
on-ok (Err y) x P e p = absurd (cc)

-- told the reply, it is held again
pub told_held : {T E : Type 0} (old new : Run) (strand t : Strand) (told : Reply) (code : Code) (r : Result T E) (x : T) → code ≡ new.code → r ≡ Ok x → IsSoundRun old → IsHeld old strand
    → ActOf old strand (Ok told) new → OnOk r (HasSettled code (replied code (standing strand) told) t) → t.number ≡ strand.number → OnOk r (LeavesRoom code strand t) → IsHeld new t
told_held old new strand t told code r x is ok sound held a settled number keeps =
    let same : code ≡ old.code = is ∙ a.0.same.0 in
    let settles : HasSettled old.code (replied old.code (standing strand) told) t =
    subst (λ (c : Code). HasSettled c (replied c (standing strand) told) t) same (on-ok r x (HasSettled code (replied code (standing strand) told) t) ok settled) in
    let stays : LeavesRoom old.code strand t = subst (λ (c : Code). LeavesRoom c strand t) same (on-ok r x (LeavesRoom code strand t) ok keeps) in
    record { lent = ap (slice_get new.status) number ∙ a.2; replay = replay_told old new strand t told sound held a.0 a.1 settles number stays }

-- without an act it is held as it was
pub err_held : (old new : Run) (strand : Strand) (why : Turned) → ErrOf old strand why new → IsHeld old strand → IsHeld new strand
err_held old new strand turned.Acted e held = absurd e
err_held old new strand (turned.Over x) (inl h) held = same old new strand h.after held
err_held old new strand (turned.Over x) (inr h) held = still old new strand (ap (λ (r : Run). r.code) h.after) (ap (λ (r : Run). r.entries) h.after) (ap (λ (r : Run). r.status) h.after) held
err_held old new strand turned.NotReady e held = same old new strand e.after held
err_held old new strand turned.NoMemory e held = still old new strand (ap (λ (r : Run). r.code) e.1.after) (ap (λ (r : Run). r.entries) e.1.after) (ap (λ (r : Run). r.status) e.1.after) held
