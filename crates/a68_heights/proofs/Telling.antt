-- Replies, and the beginning.
use Rattle.std.proofs.Common.{ℕ, suc, List, [], ◌∷◌, Contains, reverse, refl}
use Rattle.a68_acts.specs.Operations.{resumed}
use Rattle.a68_acts.specs.declared.want.Reply.{Reply}
use Rattle.a68_acts.specs.declared.want.Reply.TheVariants as reply
use Rattle.a68_code.specs.Flow.{entrances}
use Rattle.a68_code.specs.Flow.Reaches.{begins}
use Rattle.a68_code.specs.declared.code.Code.{Code}
use Rattle.a68_code.specs.declared.owner.Owner.{Owner}
use Rattle.a68_heights.proofs.Calling.{binds-fits, enters_body-fits, into_routine-fits}
use Rattle.a68_heights.proofs.Forks.{resumed_forkless}
use Rattle.a68_heights.proofs.Operating.{follows-fits}
use Rattle.a68_heights.specs.Heights.{Awaits, Fits, FitsBy, MayStand}
use Rattle.a68_instructions.specs.Machine.{State, beginning, into_frame, leaves_at, replied, replied_in, told_by}
use Rattle.a68_instructions.specs.declared.ask.Stance.{Stance}
use Rattle.a68_instructions.specs.declared.ask.Stance.TheVariants.{Idle, Asking, Failed, Waits, Closed}
use Rattle.a68_instructions.specs.declared.ask.Waiting.{Waiting}
use Rattle.a68_instructions.specs.declared.ask.Waiting.TheVariants as waiting
use Rattle.a68_values.specs.declared.chain.Environ.{Environ}

-- a strand at an entrance has nothing on its stack
pub beginning-fits : (code : Code) (whose : Owner) (at : ℕ) (chain : List Environ) → Contains (entrances code whose) at → Fits code (beginning at chain)
beginning-fits code whose at chain i = (whose, begins i, tt)

module _ (code : Code) (st : State) where
  into_frame-fits : MayStand code (suc st.at) st.stack.items → (told : List Environ) → Fits code (into_frame st told)
  into_frame-fits s [] = refl
  into_frame-fits s (e ∷ about) = s

  told_by-fits : (wait : Waiting) (r : Reply) → Awaits code st.at wait st.stack.items → Fits code (told_by code st wait r)
  told_by-fits (waiting.Operation next) r a = follows-fits code st (leaves_at code st.at) st.stack.items (resumed code.modes next r) (resumed_forkless code.modes next r) refl a
  told_by-fits waiting.Frame (reply.Frame told) a = into_frame-fits a told
  told_by-fits waiting.Turn reply.Go a = a
  told_by-fits (waiting.Jump to) reply.Go a = a
  told_by-fits (waiting.Called r ps) reply.Go a = enters_body-fits code st r ps a st.chain
  told_by-fits (waiting.Entered text ps) (reply.Frame told) a = into_routine-fits code st text ps a told
  told_by-fits (waiting.Bound text ps) reply.Go a = binds-fits code st text ps.slot a (reverse ps.left) st.chain
  told_by-fits (waiting.Fork count) (reply.Base one) a = a
  told_by-fits waiting.Close reply.Go a = a
  told_by-fits (waiting.Units one count) reply.Go a = a
  told_by-fits _ _ a = refl

  by_stance : (m : Stance) → (r : Reply) → FitsBy code st.at m st.stack.items → Fits code st → Fits code (replied_in m code st r)
  by_stance Idle r b f = f
  by_stance (Asking w wait) r b f = told_by-fits wait r b.0
  by_stance (Failed why) r b f = f
  by_stance (Waits one count) r b f = told_by-fits (waiting.Units one count) r b
  by_stance Closed r b f = f

  pub replied-fits : (r : Reply) → Fits code st → Fits code (replied code st r)
  replied-fits r f = by_stance st.stance r f f
