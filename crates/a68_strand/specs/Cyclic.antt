-- Runs in which the strands take turns.
use Rattle.std.specs.Prelude.{◌≡◌, ◌≢◌, ◌<◌, ◌≤◌, ◌⊎◌, ⊤, ℕ, List, [], ◌∷◌, None, Some}
use Rattle.std.specs.declared.option.Option.{Option}
use Rattle.a68_code.specs.declared.code.Code.{Code}
use Rattle.a68_strand.specs.Ends.{fault_of, CanActNow}
use Rattle.a68_exec.specs.Runs.{World, Machine, IfNext, opening, acted}
use Rattle.a68_values.specs.declared.act.Entry.{Entry}
use Rattle.a68_values.specs.declared.kept.End.{End}
use Rattle.a68_values.specs.declared.kept.End.TheVariants as ends
use Rattle.a68_values.specs.declared.kept.Kept.{Kept}

-- a strand that can act, or stands before a fault: at its turn there is something to do
abbrev pub HasTurn : Code → World → ℕ → Type 0
HasTurn code w n = CanActNow code w n ⊎ (fault_of w n ≢ None)

-- one strand is sooner than another in the order that begins behind a third, goes on by numbers and then from 0 up to
-- that third one
abbrev pub Sooner : (behind one other : ℕ) → Type 0
Sooner behind one other = ((behind < one) × ((one < other) ⊎ (other ≤ behind))) ⊎ ((one < other) × (other ≤ behind))

-- the first of such strands in that order
pub record IsFirstBehind (Such : ℕ → Type 0) (behind n : ℕ) : Type 0 where
  pub such : Such n
  pub first : (other : ℕ) → Such other → Sooner behind other n → ⊥

-- whose turn it is, where this strand did the entry before: that of the first that has a turn behind it, and at the
-- beginning that of strand 0
abbrev pub IsTurnOf : Code → World → Option ℕ → ℕ → Type 0
IsTurnOf code w None n = n ≡ 0
IsTurnOf code w (Some before) n = IsFirstBehind (HasTurn code w) before n

-- each entry is of the strand whose turn it is
abbrev pub TakeTurns : Code → World → Option ℕ → List Entry → Type 0
TakeTurns code w before [] = ⊤
TakeTurns code w before (e ∷ es) = IsTurnOf code w before e.strand × IfNext (acted code w e.strand) e.act (λ behind. TakeTurns code behind (Some e.strand) es)

-- the strand of the last entry, or this one where there is none
abbrev pub last_of : Option ℕ → List Entry → Option ℕ
last_of before [] = before
last_of before (e ∷ es) = last_of (Some e.strand) es

-- a fault is met by the strand whose turn it is, and fuel is spent only where that strand stands before no fault
abbrev pub EndsInTurn : Code → World → Option ℕ → End → Type 0
EndsInTurn code w before (ends.Fault _ _ strand) = IsTurnOf code w before strand
EndsInTurn code w before ends.Spent = (n : ℕ) → IsTurnOf code w before n → fault_of w n ≡ None
EndsInTurn code w before _ = ⊤

pub record Cyclic (code : Code) (kept : Kept) : Type 0 where
  pub turns : TakeTurns code (opening code) None kept.journal.entries
  pub ends : (w : World) → Machine code (opening code) kept.journal.entries w → EndsInTurn code w (last_of None kept.journal.entries) kept.end
