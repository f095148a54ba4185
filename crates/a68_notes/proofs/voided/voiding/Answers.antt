use Rattle.std.proofs.Common.{◌≡◌, ◌++◌, ◌∙◌, [], ◌∷◌, true, false, Some, sym, ap, ℕ}
use Rattle.a68_notes.proofs.Calling.{voided_end, voided_on}
use Rattle.a68_notes.specs.Voiding.{is_proc_behind, next_of, voiding}
use Rattle.a68_modes.specs.Nodes.{shape_at}
use Rattle.a68_notes.proofs.voided.voiding.Goals as goal

pub loop-coercion-preserved : goal.loop-coercion-preserved
loop-coercion-preserved c =
    let behind : is_proc_behind c.loop-coercion.left c.args.modes.now c.loop-coercion.at ≡ true = sym c.is_proc_behind.ensures ∙ c.loop-coercion-test.true in
    let next : next_of (shape_at c.args.modes.now c.loop-coercion.at) ≡ Some (c.in-Some.coercion, c.in-Some.to) = sym c.next_of.ensures ∙ c.in-Some.is in
    let on = voided_on c.args.modes.now c.loop-coercion.left c.loop-coercion.at c.in-Some.to c.in-Some.coercion c.loop-coercion.items.items _ behind next c.loop-coercion.invariant in
    ap (λ l. l ++ voiding c.saturating_sub-left.result c.args.modes.now c.in-Some.to) c.in_ok-push.ensures.items
    ∙ ap (λ (k : ℕ). (c.loop-coercion.items.items ++ c.in-Some.coercion ∷ []) ++ voiding k c.args.modes.now c.in-Some.to) c.saturating_sub-left.ensures ∙ on

pub returns : goal.returns
returns c =
    let behind : is_proc_behind c.loop-coercion.left c.args.modes.now c.loop-coercion.at ≡ false = sym c.is_proc_behind.ensures ∙ c.loop-coercion-test.false in
    c.in_ok-put_drop.ensures ∙ voided_end c.args.modes.now c.loop-coercion.left c.loop-coercion.at c.loop-coercion.items.items _ behind c.loop-coercion.invariant
