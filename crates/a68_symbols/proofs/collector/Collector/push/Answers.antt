use Rattle.std.proofs.Common.{◌++◌, ◌∷◌, [], arith, refl, ap, ◌∙◌}
use Rattle.a68_symbols.proofs.Naming.{put, sound_more, kinds_more}
use Rattle.a68_symbols.proofs.collector.Collector.push.Goals as goal

pub invariant_of-self-in_err-push : goal.invariant_of-self-in_err-push
invariant_of-self-in_err-push c = absurd (omega (arith, c.in_err-push.ensures.full, c.in_ok-reserve.ensures.ok, c.in_ok-reserve.ensures.len))

pub returns : goal.returns
returns c =
    let i = c.in_ok-index.ensures in
    let s = i.stored in
    let spelled = c.in_ok-bytes.ensures in
    let table = put _ _ _ _ i.keys i.index s.0 s.1 s.2 in
    rw (← c.self.view_is) (record {
      name = c.in_ok-index.index;
      symbols = c.in_ok-push.ensures.items ∙ ap (λ l. l ++ record { kind = c.args.kind; span = c.args.span; name = c.in_ok-index.index } ∷ []) c.in_ok-reserve.ensures.items;
      spellings = rw (← spelled) table;
    })

pub invariant_of-self-2 : goal.invariant_of-self-2
invariant_of-self-2 c =
    let i = c.in_ok-index.ensures in
    let grown = c.in_ok-push.ensures.items ∙ ap (λ l. l ++ record { kind = c.args.kind; span = c.args.span; name = c.in_ok-index.index } ∷ []) c.in_ok-reserve.ensures.items in
    let s = i.stored in
    let table = put _ _ _ _ i.keys i.index s.0 s.1 s.2 in
    let kinds = kinds_more _ _ _ _ _ _ refl c.self.invariant.kinds grown table in
    sound_more _ _ _ _ _ c.in_ok-index.field-0-1 c.self.invariant (rw (← c.self.view_is) at c.requires) grown i.len i.within kinds
