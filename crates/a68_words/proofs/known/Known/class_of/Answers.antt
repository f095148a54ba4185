use Rattle.std.proofs.Common.{refl}
use Rattle.a68_words.proofs.known.Known.class_of.Goals as goal

pub returns-in-Standard : goal.returns-in-Standard
returns-in-Standard c = rw c.in-Standard.is refl
