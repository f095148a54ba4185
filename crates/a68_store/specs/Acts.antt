-- Inner: the headline does not rest on this file.
-- What a call of the store says of the act that it does.
use Rattle.std.specs.Prelude.{◌≡◌, Bool, true, false, Ok, Err}
use Rattle.std.specs.declared.result.Result.{Result}
use Rattle.a68_acts.specs.Does.{Outcome, did, refuses, waits}
use Rattle.a68_acts.specs.Store.{Store}
use Rattle.a68_acts.specs.declared.want.Reply.{Reply}
use Rattle.a68_store.specs.declared.stop.StoreStop.{StoreStop}
use Rattle.a68_store.specs.declared.stop.StoreStop.TheVariants.{Fault, Waits, NoMemory}
use Rattle.a68_values.specs.declared.act.Act.{Act}

-- whether an act has to wait
abbrev pub has_to_wait : Outcome → Bool
has_to_wait waits = true
has_to_wait outcome = false

-- The call did the act: an Ok is the act done, with what the strand is told, a fault is the one that the act meets, one
-- that waits has to, and an error leaves the store as it was.
abbrev pub DoesAct : {T : Type 0} → Result T StoreStop → (T → Act) → (T → Reply) → Outcome → Store → Store → Type 0
DoesAct (Ok x) act told outcome old new = outcome ≡ did (act x) (told x) new
DoesAct (Err (Fault kind)) act told outcome old new = (outcome ≡ refuses kind) × (new ≡ old)
DoesAct (Err Waits) act told outcome old new = (outcome ≡ waits) × (new ≡ old)
DoesAct (Err NoMemory) act told outcome old new = new ≡ old
