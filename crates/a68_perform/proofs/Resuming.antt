-- Operations that go on without steps of their own.
use Rattle.std.proofs.Common.{◌≡◌, false, List, refl}
use Rattle.a68_acts.specs.Operations.{has_steps, resumed, resumed_by, resumed_with}
use Rattle.a68_perform.specs.Told.{is_row_reply}
use Rattle.a68_acts.specs.declared.operation.Next.{Next}
use Rattle.a68_acts.specs.declared.operation.Next.TheVariants as next
use Rattle.a68_acts.specs.declared.want.Reply.{Reply}
use Rattle.a68_acts.specs.declared.want.Reply.TheVariants as reply
use Rattle.a68_modes.specs.declared.shape.Shape.{Shape}
use Rattle.a68_values.specs.declared.held.Descriptor.{Descriptor}
use Rattle.a68_values.specs.declared.held.Held.TheVariants as held

pub told-row : (modes : List Shape) (n : Next) (d : Descriptor) → has_steps n ≡ false → resumed_by modes n d ≡ resumed modes n (reply.Held (held.Rows d))
unfolding resumed
told-row modes (next.Steps steps left) d e = absurd (cc)
told-row modes _ d e = refl

pub told-other : (modes : List Shape) (n : Next) (r : Reply) → has_steps n ≡ false → is_row_reply r ≡ false → resumed_with n r ≡ resumed modes n r
unfolding resumed
told-other modes (next.Steps steps left) r e none = absurd (cc)
told-other modes n (reply.Held (held.Rows d)) e none = absurd (cc)
told-other modes _ _ e none = refl
