-- Values as contracts see them: trees of contents.
use Rattle.std.specs.Prelude.{ℕ, ℤ, ◌+◌, ◌≤◌, max, Bool, true, false, List, [], ◌∷◌, None, Some}
use Rattle.std.specs.declared.option.Option.{Option}
use Rattle.std.proofs.Common.{arith}
use denote.Param.Weighed.{most}
use Rattle.a68_values.specs.declared.plain.Plain.{Plain}
use Rattle.a68_values.specs.declared.plain.Plain.TheVariants.{Name, Routine}
use Rattle.a68_values.specs.declared.plain.Layout.{Layout}

-- what a value is made of; Contents is a list of contents
mutual
  pub data Content : Type 0 where
    void : Content
    plain : (p : Plain) → Content
    layout : (l : Layout) → Content
    structure : (parts : Contents) → Content
    row : (bounds : List (ℤ × ℤ)) (parts : Contents) → Content
    united : (mode : ℕ) (inner : Content) → Content

  pub data Contents : Type 0 where
    no_parts : Contents
    ◌and_part◌ : Content → Contents → Contents

-- the value that is not made of others, where it is one
abbrev pub as_plain : Content → Option Plain
as_plain (plain p) = Some p
as_plain _ = None

abbrev pub is_structure : Content → Bool
is_structure (structure parts) = true
is_structure _ = false

abbrev pub is_row : Content → Bool
is_row (row bounds parts) = true
is_row _ = false

abbrev pub is_united : Content → Bool
is_united (united mode inner) = true
is_united _ = false

infixr 50 ◌and_part◌
abbrev pub contents_of : List Content → Contents
contents_of [] = no_parts
contents_of (part ∷ parts) = part and_part contents_of parts

-- the scope of a value that is not made of others
abbrev pub plain_scope : Plain → ℕ
plain_scope (Name name) = name.scope
plain_scope (Routine routine) = routine.scope
plain_scope _ = 0

-- the scope of a value: the newest of its parts' scopes
abbrev mutual
  pub scope_of : Content → ℕ
  scope_of void = 0
  scope_of (plain p) = plain_scope p
  scope_of (layout l) = 0
  scope_of (structure parts) = newest_of parts
  scope_of (row bounds parts) = newest_of parts
  scope_of (united mode inner) = scope_of inner

  pub newest_of : Contents → ℕ
  newest_of no_parts = 0
  newest_of (part and_part parts) = max (scope_of part) (newest_of parts)

abbrev pub newest_scope : List Content → ℕ
newest_scope parts = newest_of (contents_of parts)

-- a number that is greater than that of each part
abbrev mutual
  pub size_of : Content → ℕ
  size_of void = 1
  size_of (plain p) = 1
  size_of (layout l) = 1
  size_of (structure parts) = 1 + sizes_of parts
  size_of (row bounds parts) = 2 + sizes_of parts
  size_of (united mode inner) = 1 + size_of inner

  pub sizes_of : Contents → ℕ
  sizes_of no_parts = 0
  sizes_of (part and_part parts) = 1 + size_of part + sizes_of parts

abbrev pub size_of_all : List Content → ℕ
size_of_all parts = sizes_of (contents_of parts)

pub most_le-size_of_all : (parts : List Content) → most (λ part. size_of part + 1) parts ≤ size_of_all parts
most_le-size_of_all [] = omega arith
most_le-size_of_all (part ∷ parts) = omega (arith, most_le-size_of_all parts)
