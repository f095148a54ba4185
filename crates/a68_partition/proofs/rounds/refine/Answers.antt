use Rattle.std.proofs.Common.{suc, subst, ℕ, List, length, sym, ◌∙◌}
use Rattle.std.proofs.lemmas.Slice.Eq.{bytes_eq-Decides}
use Rattle.a68_partition.specs.Rounds.{ByFirst, HasRowKey}
use Rattle.a68_partition.proofs.Stable.{settled, finer, made, ends}
use Rattle.a68_partition.proofs.rounds.refine.Goals as goal

pub loop-classes-init : goal.loop-classes-init
loop-classes-init c = record {
  long = c.in_ok-classes.ensures.long;
  low = c.in_ok-classes.ensures.low;
  made = c.in_ok-classes.ensures.made;
  coarse = c.in_ok-classes.ensures.coarse;
}

pub returns-then-eq : goal.returns-then-eq
returns-then-eq c =
    let rows = c.args.rows.now in
    let classes = c.loop-classes.classes.items in
    let next = c.in_ok-next.next.items in
    let by = subst (λ (x : List ℕ). ByFirst (length rows) (HasRowKey rows x) next) c.deref.ensures.value c.in_ok-next.ensures in
    settled c.args.heads.now rows c.requires.wired classes next by c.loop-classes.invariant.made ((bytes_eq-Decides _ _).0 (sym c.eq.ensures ∙ c.if-eq.true)) c.loop-classes.invariant.coarse.0 c.loop-classes.invariant.coarse.1 c.loop-classes.invariant.long c.loop-classes.invariant.low

pub loop-classes-smaller : goal.loop-classes-smaller
loop-classes-smaller c =
    let rows = c.args.rows.now in
    let classes = c.loop-classes.classes.items in
    let next = c.in_ok-next.next.items in
    let by = subst (λ (x : List ℕ). ByFirst (length rows) (HasRowKey rows x) next) c.deref.ensures.value c.in_ok-next.ensures in
    ends c.args.heads.now rows c.requires.wired classes next by c.loop-classes.invariant.long c.loop-classes.invariant.low (λ e. let t = (bytes_eq-Decides next classes).1 e in let f = c.if-eq.false in let g = c.eq.ensures in cc)

pub loop-classes-preserved : goal.loop-classes-preserved
loop-classes-preserved c =
    let rows = c.args.rows.now in
    let classes = c.loop-classes.classes.items in
    let next = c.in_ok-next.next.items in
    let by = subst (λ (x : List ℕ). ByFirst (length rows) (HasRowKey rows x) next) c.deref.ensures.value c.in_ok-next.ensures in
    record {
      long = by.long;
      low = λ k h. (by.first k h).0;
      made = made c.args.heads.now rows c.requires.wired classes next by c.loop-classes.invariant.made;
      coarse = (suc c.loop-classes.invariant.coarse.0, finer c.args.heads.now rows c.requires.wired classes next by c.loop-classes.invariant.coarse.0 c.loop-classes.invariant.coarse.1);
    }
