-- A worker's seat may go to another thread, and workers may share the table.
use denote.Param.Send.{IsSend, IsSync, sendable}
use denote.RattleType.{RattleType}
use Rattle.std.proofs.Crossing.{crosses}
use Rattle.atomic_table.proofs.shared.Seat.TheSendSync as seat
use Rattle.atomic_table.proofs.shared.Shared.TheSendSync as table
use Rattle.atomic_table.specs.contracts.shared.Shared as shared
use Rattle.atomic_table.specs.declared.shared.TableRule as rule
use Rattle.std.specs.contracts.option.Option as option
use Rattle.a68_workers.specs.contracts.held.HeldWorld as held
use Rattle.a68_lease.specs.contracts.crew.Carrier as carrier
use Rattle.a68_workers.specs.declared.held.GivenRun as given
use Rattle.a68_workers.proofs.Sending.{held_send}

module _ (J : RattleType) (g : given.Ghosts J.Denot) (j : IsSend J) where
  pub carrier_send : IsSend (carrier.the_row J g)
  carrier_send = let h = held_send J g j in search (sendable, crosses, seat.the_send) depth 30

  slot_send : IsSend (option.the_row (held.the_row J g))
  slot_send = let h = held_send J g j in search (sendable, crosses) depth 20

  pub desk_sync : (V K P : RattleType) (t : rule.Ghosts P.Denot (option.the_row (held.the_row J g)).Denot V.Denot K.Denot)
      → IsSync (shared.the_row (option.the_row (held.the_row J g)) V K P t)
  desk_sync V K P t = table.the_sync (option.the_row (held.the_row J g)) V K P t slot_send
