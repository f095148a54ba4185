-- Mode words without a definition, and too many declarers (Report, 4.8; the limit is own).
use Rattle.std.specs.Prelude.{◌≡◌, ◌≤◌, ◌<◌, ◌+◌, ◌&&◌, true, ℕ, zero, suc, length, nat_lt}
use Rattle.a68_declarers.specs.Declarers.{form_at, is_declarer, is_word, IsDeclarerAt}
use Rattle.a68_declarers.specs.Numbers.{one_if}
use Rattle.a68_ranges.specs.Definitions.{Undefined}
use Rattle.a68_ranges.specs.Nodes.{kind_at, name_at, place_at}
use Rattle.a68_ranges.specs.declared.sort.IndicatorKind.TheVariants as sorts
use Rattle.a68_tree.specs.Trees.{Built}

-- a mode word that no surrounding range defines
pub record IsUndefinedWord (tree : Built) (d : ℕ) : Type 0 where
  pub declarer : IsDeclarerAt tree d
  pub word : is_word (form_at tree d) ≡ true
  pub undefined : Undefined tree d sorts.ModeWord (name_at tree d)

-- how many of the first so many nodes are declarers that begin before a byte
abbrev pub declarers_before : Built → (byte count : ℕ) → ℕ
declarers_before tree byte zero = 0
declarers_before tree byte (suc n) = declarers_before tree byte n + one_if (is_declarer (kind_at tree n) && nat_lt (place_at tree n) byte)

-- the declarer behind the first 4,096 in order of their first byte begins here
pub record IsTooMany (tree : Built) (byte : ℕ) : Type 0 where
  pub before : declarers_before tree byte (length tree.nodes) ≤ 4096
  pub here : 4096 < declarers_before tree (byte + 1) (length tree.nodes)
