use Rattle.std.proofs.Common.{refl}
use Rattle.a68_outside.proofs.FilesLemmas.{begun-push, texts_of-push}
use Rattle.a68_outside.proofs.memory.MemoryShelf.put.Goals as goal

pub invariant_of-self-2 : goal.invariant_of-self-2
invariant_of-self-2 c =
    let begun = begun-push _ _ _ _ c.in_ok-push.ensures.items c.self.invariant.2 in
    (c.self.invariant.0, rw begun.0 c.self.invariant.1, begun.1)

pub returns-clause-ok : goal.returns-clause-ok
returns-clause-ok c =
    let begun = begun-push _ _ _ _ c.in_ok-push.ensures.items c.self.invariant.2 in
    let texts = texts_of-push _ _ _ _ _ c.in_ok-push.ensures.items c.in_ok-name.ensures.ok c.in_ok-bytes.ensures.items in
    rw (← c.self.view_is, begun.0, texts) refl
