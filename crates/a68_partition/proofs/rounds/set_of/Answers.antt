use Rattle.std.proofs.lemmas.List.Filters.{dedup_is}
use Rattle.std.proofs.lemmas.List.Kept.{Contains-dedup_nat, Contains-from_dedup}
use Rattle.std.proofs.lemmas.List.Sorted.{Contains-permutation, IsPermutation-sym}
use Rattle.std.proofs.lemmas.Map.Keys.{IsStrictlyIncreasing-dedup}
use Rattle.std.proofs.Common.{subst, sym, List, ℕ}
use Rattle.std.specs.List.{Contains}
use Rattle.a68_partition.proofs.RowKeys.{set_has, set_only}
use Rattle.a68_partition.proofs.rounds.set_of.Goals as goal

pub returns : goal.returns
returns c =
    let is = dedup_is _ _ _ c.dedup.ensures.filtered in
    let moved = c.sort_unstable.ensures.permutation in
    record {
      rises = rw is (IsStrictlyIncreasing-dedup _ c.sort_unstable.ensures.sorted);
      has = set_has c.args.classes.now c.args.items.now c.dedup.new.self.items (λ y i. rw is (Contains-dedup_nat _ _ (Contains-permutation _ _ _ moved (subst (λ (xs : List ℕ). Contains xs y) (sym c.in_ok-set.ensures) i))));
      only = λ x h. set_only c.args.classes.now c.args.items.now x (subst (λ (xs : List ℕ). Contains xs x) c.in_ok-set.ensures (Contains-permutation _ _ x (IsPermutation-sym _ _ moved) (Contains-from_dedup _ _ x (rw is at h))));
    }
