use Rattle.std.proofs.Common.{arith}
use Rattle.a68_nodes.specs.Views.{views}
use Rattle.a68_parse.proofs.Sound.{tree_sound, listed, draft_count}
use Rattle.a68_parse.proofs.whole.tree.Goals as goal

pub new-requires : goal.new-requires
new-requires c =
    let n = draft_count c.args.drafts.items in
    tree_sound _ (views c.args.drafts.items) c.requires.drafted _ c.in_ok-nodes.ensures (omega (arith, n, c.requires.few)) c.requires.some _ c.in_ok-spellings.ensures.names

pub returns-clause-listed : goal.returns-clause-listed
returns-clause-listed c = λ d. rw c.new.ensures (listed _ (views c.args.drafts.items) d _ c.in_ok-nodes.ensures)
