use Rattle.std.proofs.Common.{◌≡◌, ◌<◌, ◌∙◌, refl, sym, arith, length, get_or, subst, Bool, false, [], ℕ, List}
use Rattle.std.proofs.lemmas.List.{get_or_default}
use Rattle.a68_partition.specs.Rows.{row_at}
use Rattle.a68_partition.specs.Rounds.{at_key, IsRowKey, HasRowKey, SoFar}
use Rattle.a68_partition.proofs.Numbering.{more}
use Rattle.a68_partition.proofs.rounds.number_rows.Goals as goal

pub returns : goal.returns
returns c =
    let all : c.loop-i.i ≡ length c.args.rows.now = omega arith in
    subst (SoFar (HasRowKey c.args.rows.now c.args.classes.now) c.loop-i.table.entries c.loop-i.next.items) all c.loop-i.invariant

pub row_key-requires : goal.row_key-requires
row_key-requires c =
    let lt : c.loop-i.i < length c.args.rows.now = omega arith in
    let is : row_at c.args.rows.now c.loop-i.i ≡ c.index-rows-i.result = get_or_default c.args.rows.now c.loop-i.i (false, []) c.index-rows-i.result lt ∙ sym c.index-rows-i.is in
    rw (← is, c.requires.long) (c.requires.closed c.loop-i.i lt)

pub loop-i-preserved : goal.loop-i-preserved
loop-i-preserved c =
    let rows = c.args.rows.now in
    let classes = c.args.classes.now in
    let i = c.loop-i.i in
    let key = c.in_ok-key.key in
    let lt : i < length rows = omega arith in
    let is : c.index-rows-i.result ≡ row_at rows i = c.index-rows-i.is ∙ get_or_default rows i c.index-rows-i.result (false, []) lt in
    let has = subst (λ (r : Bool × List ℕ). IsRowKey classes (get_or classes i 0) r.0 r.1 key.items) is c.in_ok-key.ensures in
    rw c.in_ok-push.ensures.items (more (HasRowKey rows classes) c.loop-i.table.entries c.numbered.new.table.entries c.loop-i.next.items i c.in_ok-first.first key c.loop-i.invariant has c.in_ok-first.ensures.here c.in_ok-first.ensures.others (at_key c.loop-i.table.entries key.items) refl c.in_ok-first.ensures.number)
