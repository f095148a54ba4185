use Rattle.std.proofs.Common.{refl, inl, inr}
use Rattle.a68_lookahead.proofs.look.word.Goals as goal

pub returns-in-Ref : goal.returns-in-Ref
returns-in-Ref c = elim c.in-Ref.is [ inl e ↦ rw e refl | inr e ↦ rw e refl ]
