use Rattle.a68_symbols.proofs.Cutting.{one_list, refusal_is}
use Rattle.a68_symbols.proofs.One.{one_named}
use Rattle.a68_symbols.proofs.cut.symbols_are_one.Goals as goal

pub returns-clause-list : goal.returns-clause-list
returns-clause-list c = λ text pieces others h i. one_list h.1 i.1

pub returns-clause-refusal : goal.returns-clause-refusal
returns-clause-refusal c = λ text rule other place at r. (refusal_is text rule place r).only other at

pub returns-clause-apart : goal.returns-clause-apart
returns-clause-apart c = λ text rule place pieces r. (refusal_is text rule place r).none pieces

pub returns-clause-named : goal.returns-clause-named
returns-clause-named c = one_named
