use Rattle.std.proofs.Common.{length, ◌∙◌}
use Rattle.a68_nodes.specs.Views.{all_opened, first_of}
use Rattle.a68_nodes.proofs.Singles.{one_counted, more_counted, one_is, more_is}
use Rattle.a68_nodes.proofs.drafting.Drafting.is_single.Goals as goal

pub returns-clause-one : goal.returns-clause-one
returns-clause-one c = λ whole rest ls f p b.
    let i = c.self.inside in
    let e = one_counted whole rest ls f _ p (rw (← c.self.view_is) at b) in
    let g = rw (c.deref.ensures.value, c.deref-2.ensures.value) at (c.is_one.ensures i.asides.items) in
    g ∙ one_is (length i.pieces.items) (first_of (all_opened i.asides.items i.frames.items)) e

pub returns-clause-several : goal.returns-clause-several
returns-clause-several c = λ whole rest ls f p b.
    let i = c.self.inside in
    let e = more_counted whole rest ls f _ p (rw (← c.self.view_is) at b) in
    let g = rw (c.deref.ensures.value, c.deref-2.ensures.value) at (c.is_one.ensures i.asides.items) in
    g ∙ more_is (length i.pieces.items) (first_of (all_opened i.asides.items i.frames.items)) e
