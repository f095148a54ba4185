use Rattle.std.proofs.Common.{◌≡◌, ◌<◌, ◌^◌, drop}
use Rattle.a68_denote.specs.Numbers.{are_digits, value_of}
use Rattle.a68_denote.proofs.Digits.{value_from}
use Rattle.a68_denote.proofs.numbers.number.Given as goal

abbrev pub invariant-loop-byte : goal.invariant-loop-byte
invariant-loop-byte l = record {
  fits : l.value < 2 ^ 128;
  value : value_from l.radix l.value (drop l.byte-index l.text) ≡ value_of l.radix l.text;
  digits : are_digits l.radix (drop l.byte-index l.text) ≡ are_digits l.radix l.text;
}
