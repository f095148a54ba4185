-- Inner: the headline does not rest on this file.
-- Which codes the machine runs (own).
use Rattle.std.specs.Prelude.{◌≡◌, ◌≢◌, ◌<◌, ◌≤◌, ℕ, [], length, IsTrue, Some}
use Rattle.a68_code.specs.Flow.{does_at, takes, Reaches, MayMeet}
use Rattle.a68_code.specs.Operands.{is_well_made}
use Rattle.a68_code.specs.Order.{IsInOrder}
use Rattle.a68_code.specs.declared.code.Code.{Code}
use Rattle.a68_code.specs.declared.does.Does.{Does}
use Rattle.a68_code.specs.declared.owner.Owner.{Owner}

pub record IsValid (code : Code) : Type 0 where
  -- there is a first instruction
  pub begins : code.list ≢ []
  -- each instruction has operands that it may have
  pub well_made : (at : ℕ) (does : Does) → does_at code.list at ≡ Some does → IsTrue (is_well_made code.modes (length code.texts) (length code.list) does)
  -- what goes elsewhere goes forward, but for the end of a loop and jumps to labels
  pub in_order : (at : ℕ) (does : Does) → does_at code.list at ≡ Some does → IsInOrder code.list at does
  -- no way passes the end of the list
  pub within : (whose : Owner) (at height : ℕ) → Reaches code whose at height → at < length code.list
  -- each instruction that is reached finds as many values as it takes
  pub supplied : (whose : Owner) (at height : ℕ) (does : Does) → Reaches code whose at height → does_at code.list at ≡ Some does → takes does ≤ height
  -- no way meets an end that is another owner's
  pub ends : (whose : Owner) (at height : ℕ) (does : Does) → Reaches code whose at height → does_at code.list at ≡ Some does → MayMeet whose does height
  -- two ways to one place come with one height
  pub agreed : (whose whom : Owner) (at one other : ℕ) → Reaches code whose at one → Reaches code whom at other → one ≡ other
