-- Inner: the headline does not rest on this file.
-- The run as the code keeps it.
use Rattle.std.specs.Prelude.{◌≡◌, ◌≤◌, map}
use Rattle.a68_exec.specs.Rooms.{room_at}
use Rattle.a68_heights.specs.Room.{Suffices}
use Rattle.a68_joined.specs.Joined.{AreJoined}
use Rattle.a68_world.specs.Kin.{AreKin}
use Rattle.a68_world.specs.Passed.{HavePassed}
use Rattle.a68_world.specs.Resting.{HaveRest}
use Rattle.a68_world.specs.Run.{Run, IsSoundRun, world}
use Rattle.a68_world.specs.Seats.{AreSeated, status_of}
use Rattle.a68_world.specs.declared.world.World.TheInside.{Inside}

abbrev pub run_of : Inside → Run
run_of s = record { code = s.code; fuel = s.fuel; entries = s.journal.items; status = map status_of s.seats.items; lost = s.lost; end = s.end }

pub record IsSound (s : Inside) : Type 0 where
  pub run : IsSoundRun (run_of s)
  -- there is room for as many entries as there is fuel
  pub room : s.fuel ≤ s.journal.room
  pub store : s.store ≡ (world (run_of s)).store
  -- each strand that is not spent stands as the machine has it
  pub seats : AreSeated s.code (world (run_of s)).strands s.seats.items
  pub passed : HavePassed s.passed (world (run_of s)).strands
  pub rests : HaveRest s.rests (world (run_of s)).strands s.store
  pub kin : AreKin s.kin.items (world (run_of s)).strands
  pub joined : AreJoined s.code s.joined.items.items
  pub enough : Suffices s.code (room_at s.rooms)
