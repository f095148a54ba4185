use Rattle.a68_report.proofs.lines.end_line.Goals as goal

pub returns-in-Fault : goal.returns-in-Fault
returns-in-Fault c = rw c.in-Fault.is c.fault_line_of.ensures
