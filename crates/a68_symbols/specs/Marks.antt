-- Marks: brackets, separators and signs.
use Rattle.std.specs.Prelude.{ℕ, Bool, false, ◌||◌, ◌&&◌, codes, nat_eq, List, [], ◌∷◌}
use Rattle.std.specs.List.{list_any}

-- the byte is one of these
abbrev pub is_one_of : List ℕ → ℕ → Bool
is_one_of bytes b = list_any (λ byte. nat_eq byte b) bytes

-- brackets and separators
abbrev pub is_lone : ℕ → Bool
is_lone b = is_one_of (codes ":|()[],;@") b

-- the marks that are called monads (Report, 9.4.2.1)
abbrev pub is_monad : ℕ → Bool
is_monad b = is_one_of (codes "+-&%^!?") b

-- and those that are called nomads
abbrev pub is_nomad : ℕ → Bool
is_nomad b = is_one_of (codes "<>/=*") b

-- an operator begins with a monad mark or a nomad mark
abbrev pub begins_operator : ℕ → Bool
begins_operator b = is_monad b || is_nomad b

-- := or =:
abbrev pub ends_operator : ℕ → ℕ → Bool
ends_operator a b = nat_eq a 58 && nat_eq b 61 || nat_eq a 61 && nat_eq b 58

-- |: or :=
abbrev pub is_pair : ℕ → ℕ → Bool
is_pair a b = nat_eq a 124 && nat_eq b 58 || nat_eq a 58 && nat_eq b 61

-- Brackets and separators; |: := :=: :/=: ; and operators: a monad mark or a nomad mark, then at most one nomad mark,
-- then nothing, := or =:.
abbrev pub is_mark : List ℕ → Bool
is_mark [] = false
is_mark (a ∷ []) = is_lone a || begins_operator a
is_mark (a ∷ b ∷ []) = is_pair a b || begins_operator a && is_nomad b
is_mark (a ∷ b ∷ c ∷ []) = nat_eq a 58 && nat_eq b 61 && nat_eq c 58 || begins_operator a && ends_operator b c
is_mark (a ∷ b ∷ c ∷ d ∷ []) =
    nat_eq a 58 && nat_eq b 47 && nat_eq c 61 && nat_eq d 58 || begins_operator a && is_nomad b && ends_operator c d
is_mark (a ∷ b ∷ c ∷ d ∷ e ∷ more) = false
