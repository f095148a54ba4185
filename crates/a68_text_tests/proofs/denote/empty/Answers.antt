use Rattle.std.proofs.Common.{[], refl}
use Rattle.a68_denote.specs.Strings.{nothing}
use Rattle.a68_text_tests.proofs.denote.empty.Goals as goal

pub string_of-requires : goal.string_of-requires
string_of-requires c _ = ([], record { items = []; spelled = refl; stand_for = nothing })
