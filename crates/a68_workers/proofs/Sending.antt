-- A world that is held may go to another thread, and so workers may share it under a lock.
use denote.Param.Send.{IsSend, IsSync, sendable}
use denote.RattleType.{RattleType}
use Rattle.std.proofs.Crossing.{crosses}
use Rattle.std.specs.contracts.sync.Mutex as mutex
use Rattle.a68_workers.specs.contracts.held.HeldWorld as held
use Rattle.a68_workers.specs.contracts.resting.RestingWorld as resting
use Rattle.a68_workers.specs.declared.held.GivenRun as given
use Rattle.a68_world.proofs.Sends.{world_field_send}

module _ (J : RattleType) (g : given.Ghosts J.Denot) (j : IsSend J) where
  pub held_send : IsSend (held.the_row J g)
  held_send = search (sendable, crosses, world_field_send) depth 20

  held_field_send : IsSend (held.the_field J g).row
  held_field_send = search (sendable, crosses, world_field_send) depth 20

  resting_send : IsSend (resting.the_row J g)
  resting_send = let h = held_field_send in search (sendable, crosses) depth 20

  pub lock_sync : IsSync (mutex.the_row (resting.the_row J g))
  lock_sync = let h = resting_send in search crosses
