-- What string and character denotations stand for.
use Rattle.std.specs.Prelude.{◌≡◌, ◌≢◌, ℕ, List, [], ◌∷◌, ◌++◌}

-- The items between the quotes, and the bytes that they stand for: each byte for itself, but the end of a line and a
-- quote; and two quotes for one.
pub data StandFor : List ℕ → List ℕ → Type 0 where
  nothing : StandFor [] []
  byte : {b : ℕ} {items bytes : List ℕ} → b ≢ 10 → b ≢ 34 → StandFor items bytes → StandFor (b ∷ items) (b ∷ bytes)
  quote : {items bytes : List ℕ} → StandFor items bytes → StandFor (34 ∷ 34 ∷ items) (34 ∷ bytes)

-- a quote, items, a quote; and the bytes that the items stand for
pub record Denotes (text bytes : List ℕ) : Type 0 where
  pub items : List ℕ
  pub spelled : text ≡ 34 ∷ items ++ 34 ∷ []
  pub stand_for : StandFor items bytes

-- the text is a string or character denotation
abbrev pub IsQuoted : List ℕ → Type 0
IsQuoted text = (bytes : List ℕ) × Denotes text bytes
