-- The words of a line (own): numbers are decimal, and one blank stands between two words.
use Rattle.std.specs.Prelude.{ℕ, List, [], ◌∷◌, ◌++◌, length, decimal}

-- a word that stands behind another one
abbrev pub behind : List ℕ → List ℕ
behind word = 32 ∷ word

abbrev pub number : ℕ → List ℕ
number n = behind (decimal n)

abbrev pub numbers : List ℕ → List ℕ
numbers [] = []
numbers (n ∷ ns) = number n ++ numbers ns

-- a list: its length, and then its items
abbrev pub listed : List ℕ → List ℕ
listed items = number (length items) ++ numbers items
