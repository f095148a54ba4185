-- Words that one range declares twice, and field tags that one structure has twice (Report, 4.8.1, 7.1.1 and 7.2.1).
use Rattle.std.specs.Prelude.{◌≡◌, ◌<◌, ◌≤◌, ℕ, length, slice_get, Some}
use Rattle.a68_base.specs.declared.refusal.Refusal.{Refusal}
use Rattle.a68_base.specs.declared.refusal.Rule.TheVariants.{N3}
use Rattle.a68_base.specs.declared.refusal.Stop.{Stop}
use Rattle.a68_base.specs.declared.refusal.Stop.TheVariants.{Refused, NoMemory}
use Rattle.a68_ranges.specs.Nodes.{kind_at, name_at, place_at}
use Rattle.a68_ranges.specs.Definitions.{declared_in, defines}
use Rattle.a68_ranges.specs.declared.sort.IndicatorKind.{IndicatorKind}
use Rattle.a68_ranges.specs.declared.sort.IndicatorKind.TheVariants as sorts
use Rattle.a68_tree.specs.Trees.{Built}

-- a tag, a mode word, a priority or a field tag; operators may have many definitions
pub data IsSingle : IndicatorKind → Type 0 where
  single_tag : IsSingle sorts.Tag
  single_mode_word : IsSingle sorts.ModeWord
  single_priority : IsSingle sorts.Priority
  single_field : IsSingle sorts.Field

-- the range, or the declarer of a structure, declares the same word before
pub record IsTwice (tree : Built) (later : ℕ) : Type 0 where
  pub range : ℕ
  pub i : ℕ
  pub j : ℕ
  pub earlier : ℕ
  pub sort : IndicatorKind
  pub there : range < length tree.nodes
  pub before : i < j
  pub earlier_is : slice_get (declared_in tree range) i ≡ Some earlier
  pub later_is : slice_get (declared_in tree range) j ≡ Some later
  pub earlier_sort : defines (kind_at tree earlier) ≡ Some sort
  pub later_sort : defines (kind_at tree later) ≡ Some sort
  pub single : IsSingle sort
  pub same : name_at tree earlier ≡ name_at tree later

-- the first in order of text for which that holds
pub record IsFirstInText (tree : Built) (Broken : ℕ → Type 0) (id : ℕ) : Type 0 where
  pub there : id < length tree.nodes
  pub broken : Broken id
  pub first : (other : ℕ) → other < length tree.nodes → Broken other → place_at tree id ≤ place_at tree other

-- the rule that a tree breaks, and where
pub record RefusesTwice (tree : Built) (refusal : Refusal) : Type 0 where
  pub id : ℕ
  pub rule_is : refusal.rule ≡ N3
  pub place_is : refusal.place ≡ place_at tree id
  pub first : IsFirstInText tree (IsTwice tree) id

-- what a stop says
abbrev pub StopsBy : (Refusal → Type 0) → Stop → Type 0
StopsBy P NoMemory = Unit {0}
StopsBy P (Refused refusal) = P refusal
