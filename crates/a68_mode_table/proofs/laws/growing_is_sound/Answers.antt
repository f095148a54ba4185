use Rattle.a68_mode_table.proofs.Numbers.{numbers_sound}
use Rattle.a68_mode_table.proofs.Once.{name_sound, procedure_sound, row_sound}
use Rattle.a68_mode_table.proofs.laws.growing_is_sound.Goals as goal

pub returns : goal.returns
returns c = record {
  names = name_sound;
  procedures = procedure_sound;
  rows = λ old new dims flex of id sound few some small h p. row_sound old new dims flex of id sound few some small h p;
  numbers = numbers_sound;
}
