-- Inner: the headline does not rest on this file.
-- Replies that tell a row in the store.
use Rattle.std.specs.Prelude.{Bool, true, false}
use Rattle.a68_acts.specs.declared.want.Reply.{Reply}
use Rattle.a68_acts.specs.declared.want.Reply.TheVariants as reply
use Rattle.a68_values.specs.declared.held.Held.TheVariants as held

abbrev pub is_row_reply : Reply → Bool
is_row_reply (reply.Held (held.Rows d)) = true
is_row_reply _ = false
