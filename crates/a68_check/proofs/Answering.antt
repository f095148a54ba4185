-- Answers that say more, or less.
use Rattle.std.specs.Prelude.{◌≡◌, Ok, Err, IfOk, IfErr, MatchResult}
use Rattle.std.proofs.Common.{subst}
use Rattle.a68_base.specs.declared.refusal.Refusal.{Refusal}
use Rattle.a68_base.specs.declared.refusal.Stop.{Stop}
use Rattle.a68_base.specs.declared.refusal.Stop.TheVariants.{Refused, NoMemory}
use Rattle.a68_ranges.specs.Twice.{StopsBy}
use Rattle.std.specs.declared.result.Result.{Result}

pub if-ok : {A B : Type 0} {P Q : A → Type 0} (r : Result A B) → ((a : A) → P a → Q a) → IfOk r P → IfOk r Q
if-ok (Ok a) f p = f a p
if-ok (Err b) f p = tt

pub if-err : {A B : Type 0} {P Q : B → Type 0} (r : Result A B) → ((b : B) → P b → Q b) → IfErr r P → IfErr r Q
if-err (Ok a) f p = tt
if-err (Err b) f p = f b p

-- what is known of a result that is Ok, and of one that is Err
pub when-ok : {A B : Type 0} (P : A → Type 0) (Q : B → Type 0) (r : Result A B) (a : A) → r ≡ Ok a → MatchResult r P Q → P a
when-ok P Q r a e m = subst (λ s. MatchResult s P Q) e m

pub when-err : {A B : Type 0} (P : A → Type 0) (Q : B → Type 0) (r : Result A B) (b : B) → r ≡ Err b → MatchResult r P Q → Q b
when-err P Q r b e m = subst (λ s. MatchResult s P Q) e m

-- a stop that says more
pub stops : (P Q : Refusal → Type 0) (s : Stop) → ((r : Refusal) → P r → Q r) → StopsBy P s → StopsBy Q s
stops P Q NoMemory f p = tt
stops P Q (Refused r) f p = f r p

pub stopped : {A : Type 0} (P Q : Refusal → Type 0) (r : Result A Stop) → ((f : Refusal) → P f → Q f) → IfErr r (λ why. StopsBy P why) → IfErr r (λ why. StopsBy Q why)
stopped P Q (Ok a) f p = tt
stopped P Q (Err s) f p = stops P Q s f p
