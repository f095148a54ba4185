-- Inner: the headline does not rest on this file.
-- Runs that have gone on.
use Rattle.std.specs.Prelude.{◌≡◌, ◌++◌, ℕ, Bool, true, false, List, [], ◌∷◌, length, take, None, Some}
use Rattle.a68_strand.specs.Cyclic.{TakeTurns, EndsInTurn, last_of}
use Rattle.a68_exec.specs.Runs.{Machine}
use Rattle.a68_values.specs.declared.act.Entry.{Entry}
use Rattle.a68_values.specs.declared.kept.End.{End}
use Rattle.a68_world.specs.Run.{Run, IsNumber, world}
use Rattle.a68_world.specs.declared.status.StrandState.{StrandState}
use Rattle.a68_world.specs.declared.status.StrandState.TheVariants.{Lent}

-- it is a run of the same code and fuel, and its journal begins with that of the other
pub record GoesFrom (old new : Run) : Type 0 where
  pub code : new.code ≡ old.code
  pub fuel : new.fuel ≡ old.fuel
  pub begins : take (length old.entries) new.entries ≡ old.entries

-- The strands have taken turns since: each further entry is of the strand whose turn it was. An end that was not set before
-- comes in turn, and behind one that was set nothing is done.
pub record TookTurns (old new : Run) : Type 0 where
  pub more : List Entry
  pub entries : new.entries ≡ old.entries ++ more
  pub runs : Machine old.code (world old) more (world new)
  pub turns : TakeTurns old.code (world old) (last_of None old.entries) more
  pub ends : old.end ≡ None → (e : End) → new.end ≡ Some e → EndsInTurn old.code (world new) (last_of None new.entries) e
  pub still : (e : End) → old.end ≡ Some e → new ≡ old

-- no strand is lent
abbrev pub IsAtRest : Run → Type 0
IsAtRest run = (k : ℕ) → IsNumber run k Lent → ⊥

-- the same, as a test
abbrev pub none_lent : List StrandState → Bool
none_lent [] = true
none_lent (Lent ∷ more) = false
none_lent (_ ∷ more) = none_lent more
