use Rattle.std.proofs.Common.{◌≡◌, ℕ, List, Ok, Err, Result, ap, sym, ◌∙◌, refl}
use Rattle.a68_acts.specs.Rowing.{truths}
use Rattle.a68_ops.specs.Printed.{item_text, places}
use Rattle.a68_rows.proofs.Placing.{bits-text, no-fault}
use Rattle.a68_values.specs.Content.{Content}
use Rattle.a68_values.specs.declared.act.FaultKind.{FaultKind}
use Rattle.a68_rows.proofs.displays.widened_bits.Goals as goal

pub returns-in-Ok : goal.returns-in-Ok
returns-in-Ok c =
    let told : ◌≡◌ {A = Result (List ℕ) FaultKind} (Ok (places c.args.bits)) (Ok c.in-Ok.letters) =
    sym (bits-text c.args.bits) ∙ ap item_text (sym c.of.ensures) ∙ c.in-Ok.ensures in
    let same : places c.args.bits ≡ c.in-Ok.letters = cc in
    let parts : c.in_ok-parts-in-Ok.parts ≡ truths (places c.args.bits) =
    c.in_ok-parts-in-Ok.ensures ∙ c.in_ok-truths-in-Ok.ensures ∙ ap truths (c.deref.ensures.value ∙ c.letters.view_is ∙ sym same) in
    rw (c.in_ok-bounds-in-Ok.ensures, parts) refl

pub returns-in-Err-Fault : goal.returns-in-Err-Fault
returns-in-Err-Fault c =
    absurd (let none = no-fault c.args.bits c.of.result c.in-Err-Fault.field-0 c.of.ensures c.in-Err-Fault.ensures in let some = c.in-Err-Fault.field-0-is in cc)
