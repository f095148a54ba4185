use Rattle.a68_gen.proofs.Listed.{listed, one_code, not_short, texts_listed, units_listed}
use Rattle.a68_gen.proofs.Places.{refused_by}
use Rattle.a68_gen.proofs.Refusing.{no-code, one-refusal, refused-within}
use Rattle.a68_gen.proofs.translate.translations_are_listings.Goals as goal

pub returns-clause-list : goal.returns-clause-list
returns-clause-list c = listed

pub returns-clause-texts : goal.returns-clause-texts
returns-clause-texts c = texts_listed

pub returns-clause-units : goal.returns-clause-units
returns-clause-units c = units_listed

pub returns-clause-code : goal.returns-clause-code
returns-clause-code c = one_code

pub returns-clause-limit : goal.returns-clause-limit
returns-clause-limit c = not_short

pub returns-clause-place : goal.returns-clause-place
returns-clause-place c = refused_by

pub returns-clause-one : goal.returns-clause-one
returns-clause-one c = one-refusal

pub returns-clause-apart : goal.returns-clause-apart
returns-clause-apart c = no-code

pub returns-clause-within : goal.returns-clause-within
returns-clause-within c = refused-within
