use Rattle.std.proofs.Common.{◌≡◌, ◌∙◌, Bool, true, List, ℕ, sym, ap, arith}
use Rattle.std.proofs.lemmas.Bool.{false≢true}
use Rattle.a68_partition.proofs.split.touches.Goals as goal

pub returns-then-not-unions : goal.returns-then-not-unions
returns-then-not-unions c =
    let among : c.args.row.now.0 ≡ true = sym (ap (λ (row : Bool × List ℕ). row.0) c.row.view_is) ∙ c.if-row.true in
    rw (among, c.if-not-unions.true) (λ t. absurd (false≢true t), λ w. absurd w.0)

pub returns-then-place-gt0 : goal.returns-then-place-gt0
returns-then-place-gt0 c =
    let among : c.args.row.now.0 ≡ true = sym (ap (λ (row : Bool × List ℕ). row.0) c.row.view_is) ∙ c.if-row.true in
    rw among (λ t. absurd (false≢true t), λ w. let first = w.1.1.0 in absurd (omega arith))

pub returns-then-row : goal.returns-then-row
returns-then-row c =
    let among : c.args.row.now.0 ≡ true = sym (ap (λ (row : Bool × List ℕ). row.0) c.row.view_is) ∙ c.if-row.true in
    let items : c.deref.result.now ≡ c.args.row.now.1 = c.deref.ensures.value ∙ ap (λ (row : Bool × List ℕ). row.1) c.row.view_is in
    let has = rw items at c.has.ensures in
    rw (among, c.if-not-unions.false) (λ t. let h = has.0 t in (tt, (h.0, (omega arith, h.1), h.2)), λ w. has.1 (w.1.0, w.1.1.1, w.1.2))
