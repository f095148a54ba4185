use Rattle.std.proofs.Common.{◌≡◌, ◌<◌, length}
use Rattle.a68_equiv.specs.Unfolding.{behind}
use Rattle.a68_equiv.proofs.Pushing.{each_more, long_more}
use Rattle.a68_equiv.proofs.graph.behind_words.Goals as goal

pub loop-id-preserved : goal.loop-id-preserved
loop-id-preserved c =
    let nodes = c.args.modes.now in
    let so = c.loop-id.invariant in
    rw c.in_ok-push.ensures.items (record {
      long = long_more c.loop-id.heads.items c.loop-id.id c.behind.result so.long;
      each = each_more (λ k v. v ≡ behind nodes (length nodes) k) c.loop-id.heads.items c.loop-id.id c.behind.result so.long so.each c.behind.ensures.node;
      there = each_more (λ k v. v < length nodes) c.loop-id.heads.items c.loop-id.id c.behind.result so.long so.there c.behind.ensures.there;
    })
