use Rattle.std.proofs.Common.{◌≡◌, length, ap, arith}
use Rattle.a68_code.proofs.Reading.{does_at_read, not_fitting}
use Rattle.a68_code.proofs.code.Code.fits.Goals as goal

pub returns-else-is_well_made : goal.returns-else-is_well_made
returns-else-is_well_made c =
    let list = ap (λ code. code.list) c.self.view_is in
    let modes = ap (λ code. code.modes) c.self.view_is in
    let texts = ap (λ code. code.texts) c.self.view_is in
    let count : c.len.result ≡ length c.args.self.now.list = omega (arith, ap length list) in
    let numbered : c.len-texts.result ≡ length c.args.self.now.texts = omega (arith, ap length texts) in
    not_fitting c.args.self.now c.args.at c.index.result.now.does c.is_well_made.result (does_at_read _ _ c.args.at c.index.result.now list c.requires c.index.ensures)
    (rw (← modes, ← count, ← numbered) c.is_well_made.ensures) c.if-is_well_made.false
