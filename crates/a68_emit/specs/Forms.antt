-- Inner: the headline does not rest on this file.
-- What modes are, as far as a collateral clause asks.
use Rattle.a68_emit.specs.declared.single.CollateralForm.{CollateralForm}
use Rattle.a68_emit.specs.declared.single.CollateralForm.TheVariants as form
use Rattle.a68_modes.specs.declared.shape.Shape.{Shape}
use Rattle.a68_modes.specs.declared.shape.Shape.TheVariants as shape

abbrev pub form_of : Shape → CollateralForm
form_of shape.Void = form.Void
form_of (shape.Struct fields) = form.Structure
form_of (shape.Rows dims flex of) = form.Row
form_of _ = form.Other
