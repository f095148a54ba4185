use Rattle.std.proofs.Common.{sym, arith}
use Rattle.a68_symbols.proofs.Measures.{layout_longest, tag_longest, number_longest, mark_longest, no_form}
use Rattle.a68_symbols.proofs.stretch.longest.Goals as goal

pub returns-then-is_layout : goal.returns-then-is_layout
returns-then-is_layout c = layout_longest _ c.requires (sym c.if-is_layout.ensures)

pub returns-then-is_small : goal.returns-then-is_small
returns-then-is_small c = tag_longest _ _ (sym c.if-is_small.ensures) c.tag_len.ensures

pub returns-then-is_digit : goal.returns-then-is_digit
returns-then-is_digit c = number_longest _ _ (sym c.if-is_digit.ensures) c.tag_len-then-is_digit.ensures

pub returns-in-0 : goal.returns-in-0
returns-in-0 c = no_form _ (sym c.if-is_layout.ensures) c.if-first-eq35.false (sym c.if-is_capital.ensures) (sym c.if-is_small.ensures) (sym c.if-is_digit.ensures)
    c.if-first-eq34.false (rw c.in-0.is at c.mark_len.ensures)

pub returns-in_default : goal.returns-in_default
returns-in_default c = mark_longest _ _ (omega arith) c.mark_len.ensures
