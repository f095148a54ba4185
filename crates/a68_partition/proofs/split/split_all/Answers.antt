use Rattle.std.proofs.Common.{◌<◌, ℕ, List, arith, length, subst}
use Rattle.std.proofs.lemmas.List.Elements.{All-from_get_or}
use Rattle.a68_partition.specs.Rounds.{SplitsBy}
use Rattle.a68_partition.proofs.Splitting.{splits}
use Rattle.a68_partition.proofs.split.split_all.Goals as goal

pub splits-init : goal.splits-init
splits-init c = rw c.in_ok-classes.ensures.items record {
  long = c.requires.first.long;
  below = All-from_get_or (λ k. k < length c.args.rows.now) c.args.first.now 0 (λ k h. let e = c.requires.first.long in let l = c.requires.first.low k (omega arith) in omega arith);
  coarse = c.requires.first.coarse;
}

pub splits-preserved : goal.splits-preserved
splits-preserved c =
    let rows = c.args.rows.now in
    let is = subst (λ (xs : List ℕ). SplitsBy c.has_short_unions-unions.result rows xs c.in-Some.by c.in_ok-classes-2.classes.items) c.deref.ensures.value c.in_ok-classes-2.ensures.split in
    record {
      long = is.long;
      below = c.in_ok-classes-2.ensures.below;
      coarse = splits c.has_short_unions-unions.result c.args.heads.now rows c.splits.classes.items c.in-Some.by c.in_ok-classes-2.classes.items c.requires.wired c.splits.invariant.coarse is;
    }

pub split-requires-clause-long : goal.split-requires-clause-long
split-requires-clause-long c = rw c.deref.ensures.value c.splits.invariant.long

pub split-requires-clause-below : goal.split-requires-clause-below
split-requires-clause-below c = rw c.deref.ensures.value c.splits.invariant.below

pub returns : goal.returns
returns c = record { long = c.splits.invariant.long; coarse = c.splits.invariant.coarse }

pub returns-in_default : goal.returns-in_default
returns-in_default c = record { long = c.splits.invariant.long; coarse = c.splits.invariant.coarse }
