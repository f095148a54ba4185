use Rattle.std.proofs.Common.{◌≡◌, ◌∙◌, ◌++◌, ◌∷◌, [], List, length, ap, arith}
use Rattle.a68_values.proofs.Logging.{written_wide}
use Rattle.a68_values.specs.Logs.{Logged, entries_of}
use Rattle.a68_values.specs.declared.act.Entry.{Entry}
use Rattle.a68_values.proofs.log.Log.note_wide.Goals as goal

pub returns-clause-items : goal.returns-clause-items
returns-clause-items c =
    let at : c.len-at.result ≡ length c.self.inside.apart.items = omega (arith, c.len-at.ensures) in
    let before : entries_of c.self.inside.apart.items c.self.inside.briefs.items ≡ c.args.self.now.items = ap (λ (l : Logged). l.items) c.self.view_is in
    rw (c.push_reserved.ensures.items, c.push_reserved-2.ensures.items)
    (written_wide c.self.inside.apart.items _ c.self.inside.briefs.items _ c.args.entry.strand _ c.args.entry.act c.self.invariant.0 at c.parted-kind.ensures ∙ ap (λ (es : List Entry). es ++ c.args.entry ∷ []) before)
