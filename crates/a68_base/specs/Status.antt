-- Inner: the headline does not rest on this file.
-- The numbers of the statuses.
use Rattle.std.specs.Prelude.{ℕ}
use Rattle.a68_base.specs.declared.status.Status.{Status}
use Rattle.a68_base.specs.declared.status.Status.TheVariants.{Done, Refused, Usage, Fault, AllHalted, Spent, ReadFault, WriteFault, NoMemory}

-- the number that a process ends with
abbrev pub number_of : Status → ℕ
number_of Done = 0
number_of Refused = 1
number_of Usage = 2
number_of Fault = 3
number_of AllHalted = 4
number_of Spent = 5
number_of ReadFault = 6
number_of WriteFault = 7
number_of NoMemory = 8
