-- Journals that go on.
use Rattle.std.proofs.Common.{◌≡◌, ◌≢◌, ◌⊎◌, inl, inr, ℕ, List, [], ◌∷◌, length, None, Some, drop, take, get_or, refl, sym, ◌∙◌, ap, subst}
use Rattle.a68_values.specs.declared.act.Entry.{Entry}
use Rattle.a68_values.specs.declared.kept.End.{End}
use Rattle.a68_workers.specs.Runs.{GoesFrom}
use Rattle.a68_workers.proofs.Turning.{goes_none, goes_longer}
use Rattle.a68_acts.specs.declared.want.Reply.{Reply}
use Rattle.a68_strand.specs.declared.strand.Strand.{Strand}
use Rattle.std.proofs.Common.{Bool, true}
use Rattle.std.specs.Prelude.{Ok, Err, slice_set}
use Rattle.std.specs.declared.option.Option.{Option}
use Rattle.std.specs.declared.result.Result.{Result}
use Rattle.a68_world.specs.Leases.{ActOf, BackOf, ErrOf, LendOf}
use Rattle.a68_world.specs.Run.{Run}
use Rattle.a68_world.specs.declared.status.StrandState.TheVariants.{Lent}
use Rattle.a68_world.specs.Turns.{IsOf, EndsHere, HadEnded, FindsNoMemory, IsLeftUndone, IsSpentBy, TurnOf}
use Rattle.a68_world.specs.declared.turned.Turned.{Turned}
use Rattle.a68_world.specs.declared.turned.Turned.TheVariants as turned

by_spent : (old new : Run) (n : ℕ) → FindsNoMemory old n new → IsLeftUndone old n new ⊎ IsSpentBy old n new → GoesFrom old new
by_spent old new n f (inl left) = subst (λ r. GoesFrom old r) (sym left.after) (let g = goes_none old in record { code = g.code; fuel = g.fuel; begins = g.begins })
by_spent old new n f (inr s) = goes_longer old old new (record { strand = n; act = s.act } ∷ []) (goes_none old) f.same.0 f.same.1 s.entries

-- whatever a turn comes to, the run goes on from what it was
pub turn_goes : (old new : Run) (n : ℕ) (t : Turned) → TurnOf old n t new → GoesFrom old new
turn_goes old new n turned.Acted a = goes_longer old old new (record { strand = n; act = a.act } ∷ []) (goes_none old) a.same.0 a.same.1 a.entries
turn_goes old new n (turned.Over e) (inl h) = subst (λ r. GoesFrom old r) (sym h.after) (goes_none old)
turn_goes old new n (turned.Over e) (inr h) = subst (λ r. GoesFrom old r) (sym h.after) (let g = goes_none old in record { code = g.code; fuel = g.fuel; begins = g.begins })
turn_goes old new n turned.NotReady h = subst (λ r. GoesFrom old r) (sym h.after) (goes_none old)
turn_goes old new n turned.NoMemory f = by_spent old new n f f.after

-- a run that is over has an end
pub over_ended : (old new : Run) (n : ℕ) (e : End) → HadEnded old e new ⊎ EndsHere old n e new → new.end ≢ None
over_ended old new n e (inl h) none = let was : old.end ≡ None = ap (λ (r : Run). r.end) (sym h.after) ∙ none in absurd (cc)
over_ended old new n e (inr h) none = let is : new.end ≡ Some e = ap (λ (r : Run). r.end) h.after in absurd (cc)

-- a journal that begins with one that begins with a third begins with that
pub begins_through : (first es fs : List Entry) → take (length first) es ≡ first → take (length es) fs ≡ es → take (length first) fs ≡ first
begins_through [] es fs b c = refl
begins_through (x ∷ first) [] fs b c = absurd (cc)
begins_through (x ∷ first) (e ∷ es) [] b c = absurd (cc)
begins_through (x ∷ first) (e ∷ es) (f ∷ fs) b c =
    let head : e ≡ x = ap (λ l. get_or l 0 x) b in
    let next : f ≡ e = ap (λ l. get_or l 0 e) c in
    let tail : take (length first) es ≡ first = ap (λ l. drop 1 l) b in
    let rest : take (length es) fs ≡ es = ap (λ l. drop 1 l) c in
    ap (λ y. y ∷ take (length first) fs) (next ∙ head) ∙ ap (λ l. x ∷ l) (begins_through first es fs tail rest)

pub goes_through : (first old new : Run) → GoesFrom first old → GoesFrom old new → GoesFrom first new
goes_through first old new p q = record {
  code = q.code ∙ p.code;
  fuel = q.fuel ∙ p.fuel;
  begins = begins_through first.entries old.entries new.entries p.begins q.begins;
}

-- ---- strands that are lent

-- a journal of as many entries
pub goes_still : (old new : Run) → IsOf old new → new.entries ≡ old.entries → GoesFrom old new
goes_still old new same entries = record { code = same.0; fuel = same.1; begins = ap (take (length old.entries)) entries ∙ (goes_none old).begins }

pub lend_goes : (old new : Run) (k : ℕ) (found : Option Strand) → LendOf old k found new → GoesFrom old new
lend_goes old new k None l = subst (λ r. GoesFrom old r) (sym l.after) (goes_none old)
lend_goes old new k (Some strand) l = subst (λ r. GoesFrom old r) (sym l.after) (goes_still old (record old { status = slice_set old.status k Lent }) (refl, refl) refl)

err-goes : (old new : Run) (strand : Strand) (why : Turned) → ErrOf old strand why new → GoesFrom old new
err-goes old new strand turned.Acted e = absurd e
err-goes old new strand (turned.Over x) (inl h) = subst (λ r. GoesFrom old r) (sym h.after) (goes_none old)
err-goes old new strand (turned.Over x) (inr h) = subst (λ r. GoesFrom old r) (sym h.after) (goes_still old (record old { end = Some x }) (refl, refl) refl)
err-goes old new strand turned.NotReady e = subst (λ r. GoesFrom old r) (sym e.after) (goes_none old)
err-goes old new strand turned.NoMemory e = subst (λ r. GoesFrom old r) (sym e.1.after) (goes_still old (record old { lost = true }) (refl, refl) refl)

pub act_goes : (old new : Run) (strand : Strand) (done : Result Reply Turned) → ActOf old strand done new → GoesFrom old new
act_goes old new strand (Ok told) a = goes_longer old old new (record { strand = strand.number; act = a.0.act } ∷ []) (goes_none old) a.0.same.0 a.0.same.1 a.0.entries
act_goes old new strand (Err why) e = err-goes old new strand why e

pub back_goes : (old new : Run) (strand : Strand) (spent : Bool) → BackOf old strand spent new → GoesFrom old new
back_goes old new strand spent b = goes_still old new b.same b.entries
