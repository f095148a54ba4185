use Rattle.std.proofs.Common.{◌≡◌, ◌<◌, ◌∙◌, ℕ, List, Bool, false, [], length, get_or, sym, ap, arith, subst}
use Rattle.std.specs.List.{Contains}
use Rattle.std.proofs.lemmas.List.{get_or_default}
use Rattle.std.proofs.lemmas.List.Elements.{All-contains}
use Rattle.a68_partition.specs.Finite.{IsSettled}
use Rattle.a68_partition.specs.Rows.{row_at}
use Rattle.a68_partition.specs.Rounds.{IsRowKey}
use Rattle.a68_partition.proofs.Ending.{settled_on}
use Rattle.a68_partition.proofs.finite.settle_one.Goals as goal

pub returns : goal.returns
returns c =
    let heads = c.args.heads.now in
    let rows = c.args.rows.now in
    let classes = c.args.classes.now.items in
    let at = c.args.at in
    let key = c.in_ok-key.key in
    let long = c.requires.ended.long in
    let lt : at < length rows = omega arith in
    let row : c.index-rows-at.result ≡ row_at rows at = c.index-rows-at.is ∙ get_or_default rows at c.index-rows-at.result (false, []) lt in
    let without : get_or classes at 0 ≡ 4294967295 = sym (c.index.ensures ∙ get_or_default classes at c.index.result.now 0 (omega arith)) ∙ c.if-index.false in
    let items : c.deref-2.result.now ≡ (row_at rows at).1 = c.deref-2.ensures.value ∙ ap (λ (r : Bool × List ℕ). r.1) (c.row.view_is ∙ row) in
    let all = c.are_settled.ensures.all c.if-not-are_settled.false in
    let parts = subst (λ (xs : List ℕ). (w : ℕ) → Contains xs w → IsSettled classes w) items (subst (λ (cs : List ℕ). (w : ℕ) → Contains c.deref-2.result.now w → IsSettled cs w) c.deref.ensures.value all) in
    let one = subst (λ (cs : List ℕ). IsRowKey cs (get_or heads at 0) c.index-rows-at.result.0 c.index-rows-at.result.1 key.items) c.deref-3.ensures.value c.in_ok-key.ensures in
    let has = subst (λ (r : Bool × List ℕ). IsRowKey classes (get_or heads at 0) r.0 r.1 key.items) row one in
    settled_on heads rows c.args.table.now.entries c.numbered.new.table.entries classes at c.in_ok-class.class key c.requires.ended lt c.requires.few without (λ w i. All-contains (λ k. k < length rows) (row_at rows at).1 w (c.requires.wired.closed at lt) i) parts has
    (record { number = c.in_ok-class.ensures.number; here = c.in_ok-class.ensures.here; others = c.in_ok-class.ensures.others })

pub are_settled-requires : goal.are_settled-requires
are_settled-requires c =
    let rows = c.args.rows.now in
    let at = c.args.at in
    let lt : at < length rows = omega arith in
    let row : c.index-rows-at.result ≡ row_at rows at = c.index-rows-at.is ∙ get_or_default rows at c.index-rows-at.result (false, []) lt in
    let items : c.deref-2.result.now ≡ (row_at rows at).1 = c.deref-2.ensures.value ∙ ap (λ (r : Bool × List ℕ). r.1) (c.row.view_is ∙ row) in
    rw (items, c.deref.ensures.value, c.requires.ended.long) (c.requires.wired.closed at lt)

pub row_key-requires : goal.row_key-requires
row_key-requires c =
    let rows = c.args.rows.now in
    let at = c.args.at in
    let lt : at < length rows = omega arith in
    let row : c.index-rows-at.result ≡ row_at rows at = c.index-rows-at.is ∙ get_or_default rows at c.index-rows-at.result (false, []) lt in
    rw (row, c.deref-3.ensures.value, c.requires.ended.long) (c.requires.wired.closed at lt)
