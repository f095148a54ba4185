-- Inner: the headline does not rest on this file.
-- What a shelf and a sink in memory hold, as their callers see it.
use Rattle.std.specs.Prelude.{ℕ, Bool, nat_eq, List, [], ◌∷◌, None, Some, is_ok, if◌then◌else◌}
use Rattle.std.specs.List.{list_any}
use Rattle.std.specs.Str.{bytes_eq}
use Rattle.std.specs.declared.option.Option.{Option}
use Rattle.std.specs.declared.result.Result.{Result}
use Rattle.a68_outside.specs.Cause.{risen}

-- A shelf: its texts behind their names, the bytes left of the text begun, the most bytes that one call gives, the
-- numbers of the calls that fail, counted from 1, and how many calls and faults there were.
pub record Shelved : Type 0 where
  pub texts : List (List ℕ × List ℕ)
  pub left : List ℕ
  pub step : ℕ
  pub fails : List ℕ
  pub calls : ℕ
  pub faults : ℕ

-- A sink: the bytes that it took, how many it has room for in all, the most bytes that one call takes, and the rest
-- as in a shelf.
pub record Sunken : Type 0 where
  pub bytes : List ℕ
  pub room : ℕ
  pub step : ℕ
  pub fails : List ℕ
  pub calls : ℕ
  pub faults : ℕ

-- the first where there is one, else the second
abbrev pub or_else : Option (List ℕ) → Option (List ℕ) → Option (List ℕ)
or_else (Some x) y = Some x
or_else None y = y

-- the bytes under a name: of several texts of one name the last counts
abbrev pub text_under : List (List ℕ × List ℕ) → List ℕ → Option (List ℕ)
text_under [] name = None
text_under (text ∷ texts) name = or_else (text_under texts name) (if bytes_eq text.0 name then Some text.1 else None)

-- Is the next call one of those that fail, where there were so many calls?
abbrev pub is_failing : List ℕ → ℕ → Bool
is_failing fails calls = list_any (λ number. nat_eq number (risen calls)) fails

-- how many faults there were after a call
abbrev pub faults_after : {T E : Type 0} → Result T E → ℕ → ℕ
faults_after result faults = if is_ok result then faults else risen faults
