use Rattle.std.proofs.Common.{◌≡◌, ◌∙◌, ◌∷◌, Bool, true, false, refl, List, ℕ, sym, ap, subst}
use Rattle.a68_partition.specs.Rounds.{IsSetOf}
use Rattle.a68_partition.proofs.rounds.row_key.Goals as goal

pub returns-then-row : goal.returns-then-row
returns-then-row c =
    let among : c.args.row.now.0 ≡ true = sym (ap (λ (row : Bool × List ℕ). row.0) c.row.view_is) ∙ c.if-row.true in
    let items : c.deref.result.now ≡ c.args.row.now.1 = c.deref.ensures.value ∙ ap (λ (row : Bool × List ℕ). row.1) c.row.view_is in
    let set = c.in_ok-set.set.items in
    rw among (set, c.in_ok-key.ensures ∙ ap (λ xs. c.args.first ∷ xs) c.deref-then-row.ensures.value, subst (λ xs. IsSetOf c.args.classes.now xs set) items c.in_ok-set.ensures)

pub returns : goal.returns
returns c =
    let among : c.args.row.now.0 ≡ false = sym (ap (λ (row : Bool × List ℕ). row.0) c.row.view_is) ∙ c.if-row.false in
    let items : c.deref-2.result.now ≡ c.args.row.now.1 = c.deref-2.ensures.value ∙ ap (λ (row : Bool × List ℕ). row.1) c.row.view_is in
    rw (among, c.in_ok-key-2.ensures, c.deref-3.ensures.value, c.in_ok-list.ensures, items) refl
