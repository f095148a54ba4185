use Rattle.std.proofs.Common.{◌≡◌, ◌<◌, ◌∙◌, ℕ, List, Bool, false, [], length, get_or, ap, arith, subst, below_more}
use Rattle.std.proofs.lemmas.List.{get_or_default}
use Rattle.a68_partition.specs.Rows.{row_at}
use Rattle.std.specs.List.{Contains}
use Rattle.a68_partition.specs.Finite.{LeadsOn}
use Rattle.a68_partition.proofs.finite.lead_on.Goals as goal

pub are_settled-requires : goal.are_settled-requires
are_settled-requires c =
    let rows = c.args.rows.now in
    let lt : c.loop-v.v < length rows = omega arith in
    let row : c.index-rows-v.result ≡ row_at rows c.loop-v.v = c.index-rows-v.is ∙ get_or_default rows c.loop-v.v c.index-rows-v.result (false, []) lt in
    let items : c.deref.result.now ≡ (row_at rows c.loop-v.v).1 = c.deref.ensures.value ∙ ap (λ (r : Bool × List ℕ). r.1) (c.row.view_is ∙ row) in
    rw (items, c.requires.long) (c.requires.closed c.loop-v.v lt)

pub loop-v-preserved-then-classes-v : goal.loop-v-preserved-then-classes-v
loop-v-preserved-then-classes-v c = below_more (LeadsOn c.args.rows.now c.args.classes.now) c.loop-v.v c.loop-v.invariant (λ e. absurd (c.if-classes-v.true e))

pub loop-v-preserved : goal.loop-v-preserved
loop-v-preserved c =
    let rows = c.args.rows.now in
    let lt : c.loop-v.v < length rows = omega arith in
    let row : c.index-rows-v.result ≡ row_at rows c.loop-v.v = c.index-rows-v.is ∙ get_or_default rows c.loop-v.v c.index-rows-v.result (false, []) lt in
    let items : c.deref.result.now ≡ (row_at rows c.loop-v.v).1 = c.deref.ensures.value ∙ ap (λ (r : Bool × List ℕ). r.1) (c.row.view_is ∙ row) in
    below_more (LeadsOn rows c.args.classes.now) c.loop-v.v c.loop-v.invariant
    (λ _. subst (λ (xs : List ℕ). (w : ℕ) × Contains xs w × (get_or c.args.classes.now w 0 ≡ 4294967295)) items (c.are_settled.ensures.one c.if-are_settled.false))

pub returns : goal.returns
returns c = λ _ v h. c.loop-v.invariant v (omega arith)
