use Rattle.a68_sim.proofs.Faulting.{fault_lies}
use Rattle.a68_sim.proofs.faults_lie_in_programs.Goals as goal

pub returns : goal.returns
returns c = fault_lies
