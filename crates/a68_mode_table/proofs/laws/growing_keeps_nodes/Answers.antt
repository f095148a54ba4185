use Rattle.a68_mode_table.proofs.Numbers.{numbers_keep_node}
use Rattle.a68_mode_table.proofs.Once.{name_keeps_node, procedure_keeps_node, row_keeps_node}
use Rattle.a68_mode_table.proofs.laws.growing_keeps_nodes.Goals as goal

pub returns : goal.returns
returns c = record {
  names = name_keeps_node;
  procedures = procedure_keeps_node;
  rows = λ old new dims flex of id sound few some small h p. row_keeps_node old new dims flex of id sound few some small h p;
  numbers = numbers_keep_node;
}
