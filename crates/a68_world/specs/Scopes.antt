-- Inner: the headline does not rest on this file.
-- Scopes that are small enough for one more frame.
use Rattle.std.specs.Prelude.{◌≡◌, ◌<◌, ◌≤◌, ⊤, ℕ, List, [], ◌∷◌, Some, length, slice_get}
use Rattle.a68_acts.specs.Store.{Frame}
use Rattle.a68_acts.specs.declared.operation.Doing.{Doing}
use Rattle.a68_acts.specs.declared.operation.Doing.TheVariants.{Asks}
use Rattle.a68_acts.specs.declared.want.Reply.{Reply}
use Rattle.a68_acts.specs.declared.want.Reply.TheVariants as reply
use Rattle.a68_acts.specs.declared.want.Want.{Want}
use Rattle.a68_acts.specs.declared.want.Want.TheVariants as want
use Rattle.a68_stack.specs.declared.stack.Item.{Item}
use Rattle.a68_stack.specs.declared.stack.Item.TheVariants as item
use Rattle.a68_instructions.specs.Machine.{State}
use Rattle.a68_instructions.specs.declared.ask.Waiting.{Waiting}
use Rattle.a68_instructions.specs.declared.ask.Waiting.TheVariants as waiting
use Rattle.a68_instructions.specs.declared.ask.Stance.{Stance}
use Rattle.a68_instructions.specs.declared.ask.Stance.TheVariants.{Asking}
use Rattle.a68_values.specs.declared.chain.Environ.{Environ}

-- the scopes of a chain are below a number
abbrev pub ChainBelow : ℕ → List Environ → Type 0
ChainBelow n [] = ⊤
ChainBelow n (e ∷ es) = (e.scope < n) × ChainBelow n es

-- the scopes of all frames are below a number
abbrev pub FramesBelow : ℕ → List Frame → Type 0
FramesBelow n frames = (f : ℕ) (frame : Frame) → slice_get frames f ≡ Some frame → frame.scope < n

-- a frame that is asked for has no greater scope
abbrev pub WantBelow : ℕ → Want → Type 0
WantBelow n (want.Enter outer scope slots) = scope ≤ n
WantBelow n _ = ⊤

-- An act for which an operation asks. No operation asks for strands.
abbrev pub AskedBelow : ℕ → Want → Type 0
AskedBelow n (want.Enter outer scope slots) = scope ≤ n
AskedBelow n (want.Fork entrances) = ⊥
AskedBelow n _ = ⊤

-- the strand does not wait for units behind the reply
abbrev pub WaitsNot : Waiting → Type 0
WaitsNot (waiting.Fork count) = ⊥
WaitsNot _ = ⊤

-- The same, with what the strand does with the reply. One that asks for strands waits for as many, and no other waits for units.
abbrev pub AskBelow : ℕ → Want → Waiting → Type 0
AskBelow n (want.Enter outer scope slots) wait = (scope ≤ n) × WaitsNot wait
AskBelow n (want.Fork entrances) wait = wait ≡ waiting.Fork (length entrances)
AskBelow n _ wait = WaitsNot wait

abbrev pub DoingBelow : ℕ → Doing → Type 0
DoingBelow n (Asks w next) = AskedBelow n w
DoingBelow n _ = ⊤

abbrev pub StanceBelow : ℕ → Stance → Type 0
StanceBelow n (Asking w wait) = AskBelow n w wait
StanceBelow n _ = ⊤

abbrev pub ReplyBelow : ℕ → Reply → Type 0
ReplyBelow n (reply.Frame chain) = ChainBelow n chain
ReplyBelow n _ = ⊤

-- so are those of the chains to which the open calls go back
abbrev pub ItemsBelow : ℕ → List Item → Type 0
ItemsBelow n [] = ⊤
ItemsBelow n (item.Value v ∷ items) = ItemsBelow n items
ItemsBelow n (item.Counter c ∷ items) = ItemsBelow n items
ItemsBelow n (item.Caller c ∷ items) = ChainBelow n c.chain × ItemsBelow n items

-- the strand stands in frames of such scopes, goes back to none of others, and asks for none of a greater one
pub record StateBelow (n : ℕ) (st : State) : Type 0 where
  pub chain : ChainBelow n st.chain
  pub items : ItemsBelow n st.stack.items
  pub stance : StanceBelow n st.stance
