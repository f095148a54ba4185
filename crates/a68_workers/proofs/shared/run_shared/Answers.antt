use denote.Param.{param}
use denote.Param.Send.{sendable}
use Rattle.std.proofs.Crossing as crossing
use Rattle.a68_workers.proofs.Sending.{lock_sync}
use Rattle.a68_workers.proofs.shared.run_shared.Goals as goal

-- what the closure of a worker takes
pub map_indices-requires-sync-F : goal.map_indices-requires-sync-F
map_indices-requires-sync-F g c κs within =
    let lock = lock_sync (param 0 g.row.J) g.J.GivenRun c.type_bounds.send-J in
    let rt = c.type_bounds.sync-R in
    let gate = c.type_bounds.sync-G in
    search (sendable, crossing.sync) depth 20
