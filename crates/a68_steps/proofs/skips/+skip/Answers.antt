use Rattle.std.proofs.Common.{◌≡◌, ◌++◌, ◌∷◌, ◌-◌, [], refl, arith, ap, sym, ◌∙◌}
use Rattle.a68_modes.specs.Nodes.{shape_at}
use Rattle.a68_modes.specs.declared.shape.Shape.TheVariants.{Struct}
use Rattle.a68_steps.proofs.Skipping.{skipped-past, skipped-other, skipped-structure}
use Rattle.a68_values.specs.Content.{contents_of, structure}
use Rattle.a68_steps.proofs.skips.+skip.Goals as goal

pub add_skip-returns-then-mode-len : goal.add_skip-returns-then-mode-len
add_skip-returns-then-mode-len t c =
    c.in_ok-add_unset-2.ensures ∙ ap (λ v. c.args.items.now.items ++ v ∷ []) (skipped-past c.args.depth c.args.modes.now c.args.mode (omega (arith, c.len.ensures.length, c.if-mode-len.true)))

pub add_skip-returns-in_ok-add_structure-in-Struct : goal.add_skip-returns-in_ok-add_structure-in-Struct
add_skip-returns-in_ok-add_structure-in-Struct t c =
    let same : c.deref.result.now ≡ c.in-Struct.fields = c.deref.ensures.value ∙ c.fields.view_is in
    let e : Struct c.deref.result.now ≡ shape_at c.args.modes.now c.args.mode = ap (λ fs. Struct fs) same ∙ sym c.in-Struct.is ∙ c.shape.ensures.shape in
    let n = c.args.depth in
    c.in_ok-add_structure-in-Struct.ensures
    ∙ ap (λ vs. c.args.items.now.items ++ structure (contents_of vs) ∷ []) c.in_ok-skip_fields-in-Struct.ensures
    ∙ ap (λ v. c.args.items.now.items ++ v ∷ []) (skipped-structure n (n - 1) c.args.modes.now c.args.mode c.deref.result.now c.if-depth-eq0.false refl e)

pub add_skip-returns-in_ok-add_unset-in_default : goal.add_skip-returns-in_ok-add_unset-in_default
add_skip-returns-in_ok-add_unset-in_default t c =
    c.in_ok-add_unset-in_default.ensures
    ∙ ap (λ v. c.args.items.now.items ++ v ∷ [])
    (skipped-other c.args.depth c.args.modes.now c.args.mode c.shape.result.now c.shape.ensures.shape c.in_default.not-Struct c.in_default.not-Rows c.in_default.not-Same)
