-- Inner: the headline does not rest on this file.
-- The texts that a function is handed.
use Rattle.std.specs.Option.{option_map}
use Rattle.a68_command.specs.Words.{Given}
use Rattle.a68_command.specs.declared.words.Texts.{Texts}

abbrev pub given_of : Texts → Given
given_of t = record {
  operand = t.operand.now;
  second = option_map (λ text. text.now) t.second;
  workers = option_map (λ text. text.now) t.workers;
  fuel = option_map (λ text. text.now) t.fuel;
  input = option_map (λ text. text.now) t.input;
  names = t.names;
}
