use Rattle.std.proofs.Common.{◌≡◌, ◌∙◌, sym, ℕ, List, Bool, length, refl, subst}
use Rattle.a68_partition.specs.Rounds.{ByFirst, IsCoarse, IsStart}
use Rattle.a68_partition.proofs.Splitting.{PairKey, starts}
use Rattle.a68_partition.proofs.split.start.Goals as goal

starts_as : (heads : List ℕ) (rows : List (Bool × List ℕ)) (classes c next n : List ℕ) → c ≡ classes → n ≡ next → length heads ≡ length rows → IsCoarse heads rows classes → ByFirst (length heads) (PairKey heads c) next → IsStart heads rows n
starts_as heads rows classes c next n e f long coarse by =
    let g = subst (λ (xs : List ℕ). ByFirst (length heads) (PairKey heads xs) next) e by in
    let is = starts heads rows classes next long coarse g in
    rw f is

pub returns-then-rows-gt-SMALL : goal.returns-then-rows-gt-SMALL
returns-then-rows-gt-SMALL c = starts_as c.args.heads.now c.args.rows.now c.in_ok-ended.ended.items c.deref.result.now c.in_ok-first.first.items c.in_ok-first.first.items c.deref.ensures.value refl c.requires.wired.long c.in_ok-ended.ensures.coarse c.in_ok-first.ensures

pub returns-then-not-contains : goal.returns-then-not-contains
returns-then-not-contains c = starts_as c.args.heads.now c.args.rows.now c.in_ok-ended.ended.items c.deref.result.now c.in_ok-first.first.items c.in_ok-first.first.items c.deref.ensures.value refl c.requires.wired.long c.in_ok-ended.ensures.coarse c.in_ok-first.ensures

pub split_all-requires-clause-first : goal.split_all-requires-clause-first
split_all-requires-clause-first c = starts_as c.args.heads.now c.args.rows.now c.in_ok-ended.ended.items c.deref.result.now c.in_ok-first.first.items c.deref-5.result.now c.deref.ensures.value c.deref-5.ensures.value c.requires.wired.long c.in_ok-ended.ensures.coarse c.in_ok-first.ensures

pub returns : goal.returns
returns c = starts_as c.args.heads.now c.args.rows.now c.in_ok-split.split.items c.deref-6.result.now c.in_ok-classes.classes.items c.in_ok-classes.classes.items c.deref-6.ensures.value refl c.requires.wired.long c.in_ok-split.ensures.coarse c.in_ok-classes.ensures

pub joined-requires-clause-long : goal.joined-requires-clause-long
joined-requires-clause-long c = rw c.deref.ensures.value (c.in_ok-ended.ensures.long ∙ sym c.requires.wired.long)

pub joined-requires-2-clause-long : goal.joined-requires-2-clause-long
joined-requires-2-clause-long c = rw c.deref-6.ensures.value (c.in_ok-split.ensures.long ∙ sym c.requires.wired.long)
