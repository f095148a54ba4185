use Rattle.std.proofs.Common.{◌∙◌, ap}
use Rattle.a68_outside.specs.Files.{bytes_at}
use Rattle.a68_outside.proofs.FilesLemmas.{read-gives}
use Rattle.a68_outside.proofs.memory.MemoryShelfShelf.read.Goals as goal

pub returns-clause-bytes : goal.returns-clause-bytes
returns-clause-bytes c =
    rw (← c.self.view_is) (read-gives _ _ _ _ _ _ _ _ c.in-Some.is
    (c.text_at-bytes.ensures ∙ ap (λ fs. bytes_at fs c.in-Some.place) c.deref-2.ensures.value)
    c.copy_front-count.ensures.copied
    c.copy_front-count.ensures.count c.self.invariant.0)
