use Rattle.std.proofs.Common.{◌≡◌, ◌∙◌, ◌+◌, ℕ, sym, ap, subst, drop, arith, rules, Some}
use Rattle.std.specs.declared.option.Option.{Option}
use Rattle.a68_op_ident.specs.Formulas.{signs}
use Rattle.a68_op_ident.specs.Inner.{Same}
use Rattle.a68_op_ident.specs.declared.formula.FormulaPart.TheVariants as token
use Rattle.std.proofs.lemmas.Option.{slice_get-get_or}
use Rattle.a68_op_ident.proofs.Placing.{one_operand, halves, rest, put_under, put_over, ranked_at, same_under, same_over}
use Rattle.a68_op_ident.proofs.place.+place.Goals as goal

pub place-requires : goal.place-requires
place-requires t c =
    let is = c.root-root.ensures in
    let there = slice_get-get_or c.args.tokens.now c.root-root.result _ is.below ∙ ap Some c.in-Monad.is in
    let r = rest c.args.tokens.now c.root-root.result c.in-Monad.sign is there c.requires.order c.requires.ranked in
    let count = r.count in
    rw c.behind.ensures.are (search rules, (r.order, (r.ranked, (omega arith, c.requires.few))))

pub place-requires-in-Dyad : goal.place-requires-in-Dyad
place-requires-in-Dyad t c =
    let is = c.root-root.ensures in
    let there = slice_get-get_or c.args.tokens.now c.root-root.result _ is.below ∙ ap Some c.in-Dyad.is in
    let h = halves c.args.tokens.now c.root-root.result c.in-Dyad.sign c.in-Dyad.field-1 there c.requires.order c.requires.ranked in
    let count = h.count in
    rw c.before-in-Dyad.ensures.are (search rules, (h.left_order, (h.left_ranked, (omega arith, c.requires.few))))

pub place-requires-in-Dyad-2 : goal.place-requires-in-Dyad-2
place-requires-in-Dyad-2 t c =
    let is = c.root-root.ensures in
    let there = slice_get-get_or c.args.tokens.now c.root-root.result _ is.below ∙ ap Some c.in-Dyad.is in
    let h = halves c.args.tokens.now c.root-root.result c.in-Dyad.sign c.in-Dyad.field-1 there c.requires.order c.requires.ranked in
    let count = h.count in
    let next = rw c.before-in-Dyad.ensures.are at c.in_ok-left-in-Dyad.ensures.next in
    let long = c.in_ok-left-in-Dyad.ensures.same.long in
    rw c.behind-in-Dyad.ensures.are (search rules, (h.right_order, (h.right_ranked, (omega arith, omega (arith, c.requires.few)))))

pub returns-in-Operand-clause-placed : goal.returns-in-Operand-clause-placed
returns-in-Operand-clause-placed t c =
    let is = c.root-root.ensures in
    let there = slice_get-get_or c.args.tokens.now c.root-root.result _ is.below ∙ ap Some c.in-Operand.is in
    (one_operand c.args.tokens.now c.args.nodes.now.items c.root-root.result c.args.id c.in-Operand.operand is there c.requires.order c.requires.ranked).0

pub returns-in-Operand-clause-next : goal.returns-in-Operand-clause-next
returns-in-Operand-clause-next t c =
    let is = c.root-root.ensures in
    let there = slice_get-get_or c.args.tokens.now c.root-root.result _ is.below ∙ ap Some c.in-Operand.is in
    let none = (one_operand c.args.tokens.now c.args.nodes.now.items c.root-root.result c.args.id c.in-Operand.operand is there c.requires.order c.requires.ranked).1 in
    omega arith

pub returns-in_ok-top-in-Monad-clause-placed : goal.returns-in_ok-top-in-Monad-clause-placed
returns-in_ok-top-in-Monad-clause-placed t c =
    let is = c.root-root.ensures in
    let there = slice_get-get_or c.args.tokens.now c.root-root.result _ is.below ∙ ap Some c.in-Monad.is in
    let below = rw c.behind.ensures.are at c.in_ok-under-in-Monad.ensures.placed in
    let long = c.in_ok-under-in-Monad.ensures.same.long in
    rw (c.in_ok-top-in-Monad.ensures.nodes, c.in_ok-top-in-Monad.ensures.top)
    (put_under c.args.tokens.now c.place.new.nodes.items c.root-root.result c.args.id c.in_ok-under-in-Monad.under.next c.in-Monad.sign c.in_ok-under-in-Monad.under.top is there below (omega (arith, c.requires.room)))

pub returns-in_ok-top-in-Monad-clause-next : goal.returns-in_ok-top-in-Monad-clause-next
returns-in_ok-top-in-Monad-clause-next t c =
    let is = c.root-root.ensures in
    let there = slice_get-get_or c.args.tokens.now c.root-root.result _ is.below ∙ ap Some c.in-Monad.is in
    let r = rest c.args.tokens.now c.root-root.result c.in-Monad.sign is there c.requires.order c.requires.ranked in
    let count = r.count in
    let next = rw c.behind.ensures.are at c.in_ok-under-in-Monad.ensures.next in
    omega arith

pub returns-in_ok-top-in-Monad-clause-same : goal.returns-in_ok-top-in-Monad-clause-same
returns-in_ok-top-in-Monad-clause-same t c =
    let is = c.root-root.ensures in
    let there = slice_get-get_or c.args.tokens.now c.root-root.result _ is.below ∙ ap Some c.in-Monad.is in
    let r = rest c.args.tokens.now c.root-root.result c.in-Monad.sign is there c.requires.order c.requires.ranked in
    let count = r.count in
    let same = rw c.behind.ensures.are at c.in_ok-under-in-Monad.ensures.same in
    let ends : c.args.id + 1 + signs (drop (c.root-root.result + 1) c.args.tokens.now) ≡ c.args.id + signs c.args.tokens.now = omega arith in
    rw c.in_ok-top-in-Monad.ensures.nodes
    (same_under c.args.nodes.now.items c.place.new.nodes.items c.args.id (c.args.id + signs c.args.tokens.now) _
    (subst (λ (z : ℕ). Same c.args.nodes.now.items c.place.new.nodes.items (c.args.id + 1) z) ends same) (omega arith))

pub returns-in_ok-top-in-Dyad-clause-placed : goal.returns-in_ok-top-in-Dyad-clause-placed
returns-in_ok-top-in-Dyad-clause-placed t c =
    let is = c.root-root.ensures in
    let there = slice_get-get_or c.args.tokens.now c.root-root.result _ is.below ∙ ap Some c.in-Dyad.is in
    let p = ranked_at c.args.tokens.now c.root-root.result c.in-Dyad.sign c.in-Dyad.field-1 c.requires.ranked there in
    let left = rw c.before-in-Dyad.ensures.are at c.in_ok-left-in-Dyad.ensures.placed in
    let right = rw c.behind-in-Dyad.ensures.are at c.in_ok-right-in-Dyad.ensures.placed in
    let same = c.in_ok-right-in-Dyad.ensures.same in
    let end = c.in_ok-right-in-Dyad.ensures.next in
    let long = c.in_ok-left-in-Dyad.ensures.same.long in
    let longer = same.long in
    rw (c.in_ok-top-in-Dyad.ensures.nodes, c.in_ok-top-in-Dyad.ensures.top)
    (put_over c.args.tokens.now c.place-in-Dyad.new.nodes.items c.place-in-Dyad-2.new.nodes.items c.root-root.result c.args.id c.in_ok-left-in-Dyad.left.next c.in_ok-right-in-Dyad.right.next p.0
    c.in-Dyad.sign c.in_ok-left-in-Dyad.left.top c.in_ok-right-in-Dyad.right.top is (there ∙ ap (λ (o : Option ℕ). Some (token.Dyad c.in-Dyad.sign o)) p.1) left right
    (subst (λ (z : ℕ). Same c.place-in-Dyad.new.nodes.items c.place-in-Dyad-2.new.nodes.items c.in_ok-left-in-Dyad.left.next z) (sym end) same) (omega (arith, c.requires.room)))

pub returns-in_ok-top-in-Dyad-clause-next : goal.returns-in_ok-top-in-Dyad-clause-next
returns-in_ok-top-in-Dyad-clause-next t c =
    let is = c.root-root.ensures in
    let there = slice_get-get_or c.args.tokens.now c.root-root.result _ is.below ∙ ap Some c.in-Dyad.is in
    let h = halves c.args.tokens.now c.root-root.result c.in-Dyad.sign c.in-Dyad.field-1 there c.requires.order c.requires.ranked in
    let count = h.count in
    let middle = rw c.before-in-Dyad.ensures.are at c.in_ok-left-in-Dyad.ensures.next in
    let next = rw c.behind-in-Dyad.ensures.are at c.in_ok-right-in-Dyad.ensures.next in
    omega arith

pub returns-in_ok-top-in-Dyad-clause-same : goal.returns-in_ok-top-in-Dyad-clause-same
returns-in_ok-top-in-Dyad-clause-same t c =
    let is = c.root-root.ensures in
    let there = slice_get-get_or c.args.tokens.now c.root-root.result _ is.below ∙ ap Some c.in-Dyad.is in
    let h = halves c.args.tokens.now c.root-root.result c.in-Dyad.sign c.in-Dyad.field-1 there c.requires.order c.requires.ranked in
    let count = h.count in
    let middle = rw c.before-in-Dyad.ensures.are at c.in_ok-left-in-Dyad.ensures.next in
    let one = rw c.before-in-Dyad.ensures.are at c.in_ok-left-in-Dyad.ensures.same in
    let two = rw c.behind-in-Dyad.ensures.are at c.in_ok-right-in-Dyad.ensures.same in
    let ends : c.in_ok-left-in-Dyad.left.next + signs (drop (c.root-root.result + 1) c.args.tokens.now) ≡ c.args.id + signs c.args.tokens.now = omega arith in
    rw c.in_ok-top-in-Dyad.ensures.nodes
    (same_over c.args.nodes.now.items c.place-in-Dyad.new.nodes.items c.place-in-Dyad-2.new.nodes.items c.args.id c.in_ok-left-in-Dyad.left.next (c.args.id + signs c.args.tokens.now) _
    (subst (λ (z : ℕ). Same c.args.nodes.now.items c.place-in-Dyad.new.nodes.items (c.args.id + 1) z) (sym middle) one)
    (subst (λ (z : ℕ). Same c.place-in-Dyad.new.nodes.items c.place-in-Dyad-2.new.nodes.items c.in_ok-left-in-Dyad.left.next z) ends two) (omega arith) (omega arith))
