-- Kinds of bytes.
use Rattle.std.specs.Prelude.{ℕ, Bool, not, ◌||◌, ◌&&◌, nat_eq, nat_le, List, filter}

-- a blank, a tab, a line feed or a carriage return
abbrev pub is_layout : ℕ → Bool
is_layout b = nat_eq b 32 || nat_eq b 9 || nat_eq b 10 || nat_eq b 13

abbrev pub is_digit : ℕ → Bool
is_digit b = nat_le 48 b && nat_le b 57

abbrev pub is_capital : ℕ → Bool
is_capital b = nat_le 65 b && nat_le b 90

abbrev pub is_small : ℕ → Bool
is_small b = nat_le 97 b && nat_le b 122

-- what a word goes on with
abbrev pub in_word : ℕ → Bool
in_word b = is_capital b || is_digit b

-- what a tag or a number goes on with, and what it ends with
abbrev pub in_tag : ℕ → Bool
in_tag b = is_small b || is_digit b || is_layout b

abbrev pub ends_tag : ℕ → Bool
ends_tag b = is_small b || is_digit b

-- the bytes that are no layout
abbrev pub without_layout : List ℕ → List ℕ
without_layout bytes = filter (λ b. not (is_layout b)) bytes
