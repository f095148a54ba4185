use Rattle.std.proofs.Common.{◌∙◌, ◌≡◌, sym, length, rules}
use Rattle.a68_ops.proofs.Chars.{text_in_row}
use Rattle.a68_ops.proofs.texts.items_of.Goals as goal

pub returns-in-Row : goal.returns-in-Row
returns-in-Row c =
    let one : length c.in-Row.bounds ≡ 1 = search (rules, c.as_slice.ensures) in
    text_in_row c.args.value.now c.in-Row.bounds c.in-Row.parts c.as_slice-then-as_slice-eq1.result.now c.as_slice-in-Row.result.now (rw c.in-Row.is at c.value.view_is) one
    c.as_slice-then-as_slice-eq1.ensures c.as_slice-in-Row.ensures (sym c.are_chars.ensures ∙ c.if-are_chars.true)
