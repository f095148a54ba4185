use Rattle.a68_words.proofs.One.{one_list, one_refusal, apart}
use Rattle.a68_words.proofs.classify.classes_are_one.Goals as goal

pub returns : goal.returns
returns c = record { list = one_list; refusal = one_refusal; apart = apart }
