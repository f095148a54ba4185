use Rattle.std.proofs.Common.{sym}
use Rattle.a68_symbols.proofs.Measures.{whole_word, word_longest, no_opener, no_end, comment_longest}
use Rattle.a68_symbols.proofs.stretch.from_capital.Goals as goal

pub returns-then-not-is_opener : goal.returns-then-not-is_opener
returns-then-not-is_opener c =
    let w = whole_word _ _ c.requires.some c.requires.begins c.run_end-width.ensures in
    word_longest _ _ w (no_opener _ _ w (sym c.if-not-is_opener.ensures))

pub returns-in-Some : goal.returns-in-Some
returns-in-Some c =
    let w = whole_word _ _ c.requires.some c.requires.begins c.run_end-width.ensures in
    comment_longest _ _ _ w (sym c.if-not-is_opener.ensures) c.in-Some.ensures

pub returns-in-None : goal.returns-in-None
returns-in-None c =
    let w = whole_word _ _ c.requires.some c.requires.begins c.run_end-width.ensures in
    word_longest _ _ w (no_end _ _ w c.in-None.ensures)
