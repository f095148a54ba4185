use Rattle.std.proofs.Common.{refl, inl, inr}
use Rattle.a68_symbols.proofs.judge.judge.Goals as goal

pub returns-in-OpenComment : goal.returns-in-OpenComment
returns-in-OpenComment c = elim c.in-OpenComment.is [ inl e ↦ rw e refl | inr e ↦ rw e refl ]
