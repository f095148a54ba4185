use Rattle.std.proofs.Common.{◌≡◌, map, drop}
use Rattle.a68_base.specs.Tables as tables
use Rattle.a68_base.proofs.table.is_listed.Given as goal

abbrev pub invariant-loop-word : goal.invariant-loop-word
invariant-loop-word l =
    tables.is_listed (map (λ word. word.now) (drop l.word-index l.words)) l.spelling
    ≡ tables.is_listed (map (λ word. word.now) l.words) l.spelling
