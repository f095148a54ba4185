-- The parts at some places of a row.
use Rattle.std.proofs.Common.{◌≡◌, ℕ, ◌+◌, ◌<◌, ◌≤◌, List, [], ◌∷◌, ◌++◌, length, drop, get_or, slice_get, Option, Some, None, refl, ap, sym}
use Rattle.std.proofs.lemmas.List.{append_assoc, drop_more}
use Rattle.std.proofs.lemmas.Option.{slice_get_past, slice_get_read}
use Rattle.a68_layout.specs.Views.{with_part, parts_at}
use Rattle.a68_values.specs.Content.{Content}

-- the parts so far, and those that follow
abbrev pub with_front : List Content → Option (List Content) → Option (List Content)
with_front front (Some rest) = Some (front ++ rest)
with_front front None = None

pub no_part : (parts : List Content) (places : List ℕ) (i : ℕ) (front : List Content) → i < length places → length parts ≤ get_or places i 0
    → with_front front (parts_at parts (drop i places)) ≡ parts_at parts places → parts_at parts places ≡ None
no_part parts places i front lt past e =
    let none : slice_get parts (get_or places i 0) ≡ None = slice_get_past parts (get_or places i 0) past in
    let more = drop_more places i 0 lt in
    sym (rw (more, none) at e)

after : (front : List Content) (part : Content) (rest : Option (List Content)) → with_front (front ++ part ∷ []) rest ≡ with_front front (with_part (Some part) rest)
after front part (Some rest) = ap (λ xs. Some xs) (append_assoc front (part ∷ []) rest)
after front part None = refl

pub one_part : (parts : List Content) (places : List ℕ) (i : ℕ) (front new : List Content) (part : Content) → i < length places → get_or places i 0 < length parts
    → part ≡ get_or parts (get_or places i 0) part → new ≡ front ++ part ∷ [] → with_front front (parts_at parts (drop i places)) ≡ parts_at parts places
    → with_front new (parts_at parts (drop (i + 1) places)) ≡ parts_at parts places
one_part parts places i front new part lt there read e f =
    let some : slice_get parts (get_or places i 0) ≡ Some part = slice_get_read parts (length parts) (get_or places i 0) part refl there read in
    rw (e, after front part (parts_at parts (drop (i + 1) places))) (rw (drop_more places i 0 lt, some) at f)
