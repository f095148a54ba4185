use Rattle.std.proofs.Common.{◌≡◌, refl}
use Rattle.a68_equiv.proofs.Pushing.{each_more, long_more}
use Rattle.a68_equiv.proofs.formed.numbers.Goals as goal

pub loop-id-preserved : goal.loop-id-preserved
loop-id-preserved c =
    let so = c.loop-id.invariant in
    rw c.in_ok-push.ensures.items (record {
      long = long_more c.loop-id.ids.items c.loop-id.id c.loop-id.id so.long;
      each = each_more (λ k v. v ≡ k) c.loop-id.ids.items c.loop-id.id c.loop-id.id so.long so.each refl;
    })
