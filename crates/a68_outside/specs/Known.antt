-- The bytes that a sink received and a shelf has left, where they are told: None tells nothing.
use Rattle.std.specs.Prelude.{◌≡◌, ℕ, ◌<◌, ◌≤◌, List, length, take, MatchResult}
use Rattle.std.specs.Io.KnownBytes.{append_known, prepend_known, IsAtEnd}
use Rattle.std.specs.declared.result.Result.{Result}
use Rattle.std.specs.declared.option.Option.{Option}

-- a write moved a front of the piece at Ok n, and nothing at Err
abbrev pub TakesFront : {E : Type 0} → Option (List ℕ) → Option (List ℕ) → Result ℕ E → List ℕ → Type 0
TakesFront old new r piece = MatchResult r (λ n. new ≡ append_known old (take n piece)) (λ _. new ≡ old)

-- a read moved the first n of the bytes left into the buffer, 0 only where nothing is left or there is no room, and nothing at Err
abbrev pub GivesFront : {E : Type 0} → Option (List ℕ) → Option (List ℕ) → Result ℕ E → List ℕ → Type 0
GivesFront old new r buf = MatchResult r
    (λ n. (old ≡ prepend_known (take n buf) new) × (n ≡ 0 → 0 < length buf → IsAtEnd old))
    (λ _. new ≡ old)

-- the sink received a front of the text, and nothing else
abbrev pub ReceivesFront : Option (List ℕ) → Option (List ℕ) → List ℕ → Type 0
ReceivesFront old new text = (n : ℕ) × (n ≤ length text) × (new ≡ append_known old (take n text))
