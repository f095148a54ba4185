use Rattle.a68_coerce.proofs.Ones.{one_path}
use Rattle.a68_coerce.proofs.laws.paths_are_one.Goals as goal

pub returns : goal.returns
returns c = λ nodes holds formed sort from to p q h v w. one_path nodes holds formed sort from to p q h v w
