use denote.Param.Send.{sendable}
use Rattle.a68_world.proofs.Sends.{world_field_send}
use Rattle.a68_machine_tests.proofs.world.goes_to_another_thread.Goals as goal

pub sent-world-requires-send-T : goal.sent-world-requires-send-T
sent-world-requires-send-T g c κs = search (sendable, world_field_send) depth 6
