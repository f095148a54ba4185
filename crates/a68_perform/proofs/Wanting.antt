-- Operations that want memory.
use Rattle.std.proofs.Common.{◌≡◌, false, refl, IsTrue}
use Rattle.std.proofs.lemmas.Bool.{false≢true}
use Rattle.std.specs.Prelude.{Ok, Err, IfOk, IfErr}
use Rattle.a68_acts.specs.declared.operation.Next.{Next}
use Rattle.a68_acts.specs.declared.operation.Next.TheVariants as next
use Rattle.a68_acts.specs.declared.want.Reply.TheVariants as reply
use Rattle.a68_ops.specs.Yields.{Yield}
use Rattle.a68_perform.specs.Plainly.{resumes_plainly, yields_plain}
use Rattle.a68_values.specs.Content.{is_row, layout, plain, row, structure, united, void}
use Rattle.a68_values.specs.declared.held.Descriptor.{Descriptor}
use Rattle.a68_values.specs.declared.held.Held.TheVariants as held

-- an operator wants memory for a row alone
pub row_yielded : (told : Yield) → IfErr told (λ _. ⊥) × IfOk told (λ v. IsTrue (is_row v)) → yields_plain told ≡ false
row_yielded (Err _) (none, is) = absurd none
row_yielded (Ok void) (none, is) = absurd (false≢true is)
row_yielded (Ok (plain p)) (none, is) = absurd (false≢true is)
row_yielded (Ok (layout l)) (none, is) = refl
row_yielded (Ok (structure parts)) (none, is) = refl
row_yielded (Ok (row bounds parts)) (none, is) = refl
row_yielded (Ok (united mode inner)) (none, is) = refl

-- no operation goes on plainly that is told a row
pub row_is_told : (n : Next) (d : Descriptor) → resumes_plainly n (reply.Held (held.Rows d)) ≡ false
row_is_told next.Value d = refl
row_is_told next.Held d = refl
row_is_told next.Void d = refl
row_is_told (next.Name n) d = refl
row_is_told (next.Update r n k) d = refl
row_is_told next.Count d = refl
row_is_told (next.Sema cell) d = refl
row_is_told _ d = refl
