-- The places of bits as a text.
use Rattle.std.proofs.Common.{◌≡◌, ℕ, List, true, Ok, Err, Result, refl, ap, sym, ◌∙◌}
use Rattle.a68_ops.specs.Printed.{item_text, places}
use Rattle.a68_ops.specs.Yields.{IsAsTold}
use Rattle.a68_ops.specs.declared.stop.OpStop.{OpStop}
use Rattle.a68_ops.specs.declared.stop.OpStop.TheVariants.{Fault, NoMemory}
use Rattle.a68_values.specs.Content.{Content, plain}
use Rattle.a68_values.specs.declared.act.FaultKind.{FaultKind}
use Rattle.a68_values.specs.declared.plain.Plain.TheVariants.{Bits}

pub bits-text : (b : ℕ) → item_text (plain (Bits b)) ≡ Ok (places b)
unfolding item_text
bits-text b = refl

-- they meet no fault
pub no-fault : (b : ℕ) (v : Content) (stop : OpStop) → v ≡ plain (Bits b) → IsAsTold {A = List ℕ} (λ text. true) (Err stop) (item_text v) → stop ≡ NoMemory
no-fault b v NoMemory e told = refl
no-fault b v (Fault kind) e told = absurd (let f : ◌≡◌ {A = Result (List ℕ) FaultKind} (Ok (places b)) (Err kind) = sym (bits-text b) ∙ ap item_text (sym e) ∙ told in cc)
