-- Counts of faults, and what they say of a call.
use Rattle.std.specs.Prelude.{◌≡◌, ℕ, ◌+◌, ◌-◌, ◌^◌, ◌≤◌, min, OnOk, OnErr}
use Rattle.std.specs.declared.result.Result.{Result}

-- a count of u64 that is one higher, where the type's last value stays as it is
abbrev pub risen : ℕ → ℕ
risen count = min (count + 1) (2 ^ 64 - 1)

-- A count has risen: it is greater than before, or stands at the type's last value.
abbrev pub Rose : ℕ → ℕ → Type 0
Rose before now = risen before ≤ now

-- A call over one object fails only where its count rose, and a call that succeeds leaves the count.
pub record HasCause {T E : Type 0} (before now : ℕ) (result : Result T E) : Type 0 where
  pub later : before ≤ now
  pub ok : OnOk result (now ≡ before)
  pub failed : OnErr result (Rose before now)
