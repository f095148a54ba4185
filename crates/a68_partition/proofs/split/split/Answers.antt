use Rattle.std.proofs.Common.{◌≡◌, ◌<◌, ◌∙◌, ℕ, List, [], Bool, false, arith, length, get_or, sym, subst}
use Rattle.std.proofs.lemmas.List.{get_or_default}
use Rattle.a68_partition.specs.Rows.{row_at}
use Rattle.a68_partition.specs.Rounds.{SameTouch}
use Rattle.a68_partition.proofs.Splitting.{begun, stayed, left, split_whole, all_below}
use Rattle.a68_partition.proofs.split.split.Goals as goal

read_row : (rows : List (Bool × List ℕ)) (v : ℕ) (row : Bool × List ℕ) → v < length rows → row ≡ get_or rows v row → row ≡ row_at rows v
read_row rows v row lt e = e ∙ get_or_default rows v row (false, []) lt

touch_at : (unions : Bool) (rows : List (Bool × List ℕ)) (classes : List ℕ) (by v c : ℕ) (one other : Bool × List ℕ) → one ≡ row_at rows v → other ≡ row_at rows c → SameTouch unions classes by one other → SameTouch unions classes by (row_at rows v) (row_at rows c)
touch_at unions rows classes by v c one other e f t = subst (λ (r : Bool × List ℕ). SameTouch unions classes by r (row_at rows c)) e (subst (λ (r : Bool × List ℕ). SameTouch unions classes by one r) f t)

touch_of : (unions : Bool) (rows : List (Bool × List ℕ)) (classes : List ℕ) (by v c : ℕ) (one other : Bool × List ℕ) → one ≡ row_at rows v → other ≡ row_at rows c → SameTouch unions classes by (row_at rows v) (row_at rows c) → SameTouch unions classes by one other
touch_of unions rows classes by v c one other e f t = subst (λ (r : Bool × List ℕ). SameTouch unions classes by r other) (sym e) (subst (λ (r : Bool × List ℕ). SameTouch unions classes by (row_at rows v) r) (sym f) t)

pub loop-v-init : goal.loop-v-init
loop-v-init c = begun c.args.unions c.args.rows.now c.args.classes.now c.args.by c.in_ok-moved.moved.items c.in_ok-next.next.items (c.in_ok-moved.ensures.items_if_clones_equal (λ y e. cc)) c.in_ok-next.ensures.items

pub touched_alike-requires-clause-one : goal.touched_alike-requires-clause-one
touched_alike-requires-clause-one c =
    let lt : c.loop-v.v < length c.args.rows.now = omega arith in
    let is = read_row c.args.rows.now c.loop-v.v c.index-rows-v.result lt c.index-rows-v.is in
    rw (is, c.requires.long) (c.requires.closed c.loop-v.v lt)

pub touched_alike-requires-clause-other : goal.touched_alike-requires-clause-other
touched_alike-requires-clause-other c =
    let l = c.requires.long in
    let lt : c.loop-v.v < length c.args.classes.now = omega arith in
    let below : get_or c.args.classes.now c.loop-v.v 0 < length c.args.rows.now = c.requires.below c.loop-v.v 0 lt in
    let is = read_row c.args.rows.now (get_or c.args.classes.now c.loop-v.v 0) c.index-rows-class.result below c.index-rows-class.is in
    rw (is, c.requires.long) (c.requires.closed (get_or c.args.classes.now c.loop-v.v 0) below)

pub loop-v-preserved-then-touched_alike : goal.loop-v-preserved-then-touched_alike
loop-v-preserved-then-touched_alike c =
    let l = c.requires.long in
    let here : c.loop-v.v < length c.args.rows.now = omega arith in
    let lt : c.loop-v.v < length c.args.classes.now = omega arith in
    let class = get_or c.args.classes.now c.loop-v.v 0 in
    let below : class < length c.args.rows.now = c.requires.below c.loop-v.v 0 lt in
    let one = read_row c.args.rows.now c.loop-v.v c.index-rows-v.result here c.index-rows-v.is in
    let other = read_row c.args.rows.now class c.index-rows-class.result below c.index-rows-class.is in
    rw c.in_ok-push.ensures.items (stayed c.args.unions c.args.rows.now c.args.classes.now c.args.by c.loop-v.moved.items c.loop-v.next.items c.loop-v.v c.loop-v.invariant below
    (touch_at c.args.unions c.args.rows.now c.args.classes.now c.args.by c.loop-v.v class c.index-rows-v.result c.index-rows-class.result one other (c.touched_alike.ensures.0 c.if-touched_alike.true)))

pub loop-v-preserved : goal.loop-v-preserved
loop-v-preserved c =
    let l = c.requires.long in
    let here : c.loop-v.v < length c.args.rows.now = omega arith in
    let lt : c.loop-v.v < length c.args.classes.now = omega arith in
    let class = get_or c.args.classes.now c.loop-v.v 0 in
    let below : class < length c.args.rows.now = c.requires.below c.loop-v.v 0 lt in
    let one = read_row c.args.rows.now c.loop-v.v c.index-rows-v.result here c.index-rows-v.is in
    let other = read_row c.args.rows.now class c.index-rows-class.result below c.index-rows-class.is in
    rw c.in_ok-push-4.ensures.items (left c.args.unions c.args.rows.now c.args.classes.now c.args.by c.loop-v.moved.items c.loop-v.next.items c.loop-v.v c.loop-v.invariant c.target_of-target.new.moved.items c.target_of-target.result here below c.target_of-target.ensures.target
    (λ t. let s = c.touched_alike.ensures.1 (touch_of c.args.unions c.args.rows.now c.args.classes.now c.args.by c.loop-v.v class c.index-rows-v.result c.index-rows-class.result one other t) in let f = c.if-touched_alike.false in cc))

pub returns-clause-split : goal.returns-clause-split
returns-clause-split c = split_whole c.args.unions c.args.rows.now c.args.classes.now c.args.by c.loop-v.moved.items c.loop-v.next.items c.loop-v.v (omega arith) c.loop-v.invariant

pub returns-clause-below : goal.returns-clause-below
returns-clause-below c = all_below c.args.unions c.args.rows.now c.args.classes.now c.args.by c.loop-v.moved.items c.loop-v.next.items c.loop-v.v c.loop-v.invariant

pub bounds-rows-class : goal.bounds-rows-class
bounds-rows-class c =
    let l = c.requires.long in
    let lt : c.loop-v.v < length c.args.classes.now = omega arith in
    c.requires.below c.loop-v.v 0 lt

pub target_of-target-requires-clause-there : goal.target_of-target-requires-clause-there
target_of-target-requires-clause-there c =
    let l = c.requires.long in
    let lt : c.loop-v.v < length c.args.classes.now = omega arith in
    rw c.loop-v.invariant.wide (c.requires.below c.loop-v.v 0 lt)
