-- What is given by names, as rows of matches.
use Rattle.std.proofs.Common.{◌≡◌, ◌∙◌, ◌||◌, ◌&&◌, ℕ, Bool, cond, true, false, true≢false, ap, sym, refl, List, [], ◌∷◌, ◌++◌, map}
use Rattle.std.specs.Prelude.{None, Some, find, slice_get}
use Rattle.std.specs.Option.{option_map, option_and_then}
use Rattle.std.specs.Str.{bytes_eq}
use Rattle.std.specs.declared.option.Option.{Option}
use Rattle.clap.specs.Walk.{Row, Text, at_row, first_of, has_row, more_values, with_values, without}
use Rattle.clap.specs.declared.builder.value_parser.Reading.TheVariants as reading
use Rattle.clap.specs.declared.parser.matches.ValueSource.TheVariants.{CommandLine}
use Rattle.a68_command.specs.Options.{is_given, text_of}

abbrev pub as_row : List ℕ × List ℕ → Row
as_row g = record { id = g.0; values = g.1 ∷ []; count = None; source = Some CommandLine; reading = reading.AsWritten }

abbrev pub as_rows : List (List ℕ × List ℕ) → List Row
as_rows given = map as_row given

-- ---- truth values

pub or_false : (a : Bool) → (a || false) ≡ a
or_false true = refl
or_false false = refl

pub and_false : (a : Bool) → (a && false) ≡ false
and_false true = refl
and_false false = refl

pub or_assoc : (a b c : Bool) → ((a || b) || c) ≡ (a || (b || c))
or_assoc true b c = refl
or_assoc false b c = refl

pub either : {X : Type 0} (b : Bool) (x : X) → cond b x x ≡ x
either true x = refl
either false x = refl

-- ---- rows

pub has_given : (name : Text) (given : List (List ℕ × List ℕ)) → has_row name (as_rows given) ≡ is_given name given
has_given name [] = refl
has_given name (g ∷ gs) = ap (λ b. bytes_eq g.0 name || b) (has_given name gs)

pub given_more : (k name text : Text) (given : List (List ℕ × List ℕ)) → is_given k (given ++ (name, text) ∷ []) ≡ (is_given k given || bytes_eq name k)
given_more k name text [] = or_false (bytes_eq name k)
given_more k name text (g ∷ gs) = ap (λ b. bytes_eq g.0 k || b) (given_more k name text gs) ∙ sym (or_assoc (bytes_eq g.0 k) (is_given k gs) (bytes_eq name k))

pub rows_more : (given : List (List ℕ × List ℕ)) (g : List ℕ × List ℕ) → as_rows (given ++ g ∷ []) ≡ as_rows given ++ as_row g ∷ []
rows_more [] g = refl
rows_more (x ∷ xs) g = ap (λ rs. as_row x ∷ rs) (rows_more xs g)

-- a use of an argument that has no row adds one behind the others
pub fresh : (id : Text) (change : Row → List Row) (row : Row) (rows : List Row) → has_row id rows ≡ false
    → at_row id change (row ∷ []) rows ≡ rows ++ row ∷ []
fresh id change row [] none = refl
fresh id change row (r ∷ rows) none = go (bytes_eq r.id id) none (fresh id change row rows)
  where
    go : (same : Bool) → (same || has_row id rows) ≡ false → (has_row id rows ≡ false → at_row id change (row ∷ []) rows ≡ rows ++ row ∷ [])
        → cond same (change r ++ rows) (r ∷ at_row id change (row ∷ []) rows) ≡ r ∷ rows ++ row ∷ []
    go true e more = absurd (true≢false e)
    go false e more = ap (λ l. r ∷ l) (more e)

-- there is no row to take away
pub absent : (id : Text) (rows : List Row) → has_row id rows ≡ false → without id rows ≡ rows
absent id [] none = refl
absent id (r ∷ rows) none = go (bytes_eq r.id id) none (absent id rows)
  where
    go : (same : Bool) → (same || has_row id rows) ≡ false → (has_row id rows ≡ false → without id rows ≡ rows)
        → cond same ([] ++ rows) (r ∷ without id rows) ≡ r ∷ rows
    go true e more = absurd (true≢false e)
    go false e more = ap (λ l. r ∷ l) (more e)

-- a text that is given by a new name is one row more
pub used_new : (name text : Text) (given : List (List ℕ × List ℕ)) → is_given name given ≡ false
    → with_values name reading.AsWritten CommandLine (text ∷ []) (without name (as_rows given)) ≡ as_rows (given ++ (name, text) ∷ [])
used_new name text given new =
    let none : has_row name (as_rows given) ≡ false = has_given name given ∙ new in
    ap (with_values name reading.AsWritten CommandLine (text ∷ [])) (absent name (as_rows given) none)
    ∙ fresh name (more_values CommandLine (text ∷ [])) (as_row (name, text)) (as_rows given) none ∙ sym (rows_more given (name, text))

-- the first row of a name
pub found_row : (name : Text) (given : List (List ℕ × List ℕ)) → find (λ r. bytes_eq r.id name) (as_rows given) ≡ option_map as_row (find (λ g. bytes_eq g.0 name) given)
found_row name [] = refl
found_row name (g ∷ gs) = go (bytes_eq g.0 name) (found_row name gs)
  where
    go : (b : Bool) → find (λ r. bytes_eq r.id name) (as_rows gs) ≡ option_map as_row (find (λ x. bytes_eq x.0 name) gs)
        → cond b (Some (as_row g)) (find (λ r. bytes_eq r.id name) (as_rows gs)) ≡ option_map as_row (cond b (Some g) (find (λ x. bytes_eq x.0 name) gs))
    go true e = refl
    go false e = e

-- its text is what is given
pub first_is_text : (name : Text) (given : List (List ℕ × List ℕ)) → first_of name (as_rows given) ≡ text_of given name
first_is_text name given = ap (option_and_then (λ r. slice_get r.values 0)) (found_row name given) ∙ go (find (λ g. bytes_eq g.0 name) given)
  where
    go : (o : Option (List ℕ × List ℕ)) → option_and_then (λ r. slice_get r.values 0) (option_map as_row o) ≡ option_map (λ g. g.1) o
    go None = refl
    go (Some g) = refl

-- what is not given has no text
pub no_text : (name : Text) (given : List (List ℕ × List ℕ)) → is_given name given ≡ false → find (λ g. bytes_eq g.0 name) given ≡ None
no_text name [] none = refl
no_text name (g ∷ gs) none = go (bytes_eq g.0 name) none (no_text name gs)
  where
    go : (b : Bool) → (b || is_given name gs) ≡ false → (is_given name gs ≡ false → find (λ x. bytes_eq x.0 name) gs ≡ None)
        → cond b (Some g) (find (λ x. bytes_eq x.0 name) gs) ≡ None
    go true e more = absurd (true≢false e)
    go false e more = more e

-- what is given has one
pub some_text : (name : Text) (given : List (List ℕ × List ℕ)) → is_given name given ≡ true → (g : List ℕ × List ℕ) × (find (λ x. bytes_eq x.0 name) given ≡ Some g)
some_text name [] some = absurd (true≢false (sym some))
some_text name (g ∷ gs) some = go (bytes_eq g.0 name) some (some_text name gs)
  where
    go : (b : Bool) → (b || is_given name gs) ≡ true → (is_given name gs ≡ true → (x : List ℕ × List ℕ) × (find (λ y. bytes_eq y.0 name) gs ≡ Some x))
        → (x : List ℕ × List ℕ) × (cond b (Some g) (find (λ y. bytes_eq y.0 name) gs) ≡ Some x)
    go true e more = (g, refl)
    go false e more = more e

-- one row more changes no search for another name
pub found_before : (name : Text) (rows : List Row) (row : Row) → bytes_eq row.id name ≡ false → find (λ r. bytes_eq r.id name) (rows ++ row ∷ []) ≡ find (λ r. bytes_eq r.id name) rows
found_before name [] row no_match = ap (λ b. cond b (Some row) None) no_match
found_before name (r ∷ rows) row no_match = ap (λ o. cond (bytes_eq r.id name) (Some r) o) (found_before name rows row no_match)

-- and is found where no other one is
pub found_behind : (name : Text) (rows : List Row) (row : Row) → has_row name rows ≡ false → bytes_eq row.id name ≡ true → find (λ r. bytes_eq r.id name) (rows ++ row ∷ []) ≡ Some row
found_behind name [] row none match = ap (λ b. cond b (Some row) None) match
found_behind name (r ∷ rows) row none match = go (bytes_eq r.id name) none (λ rest. found_behind name rows row rest match)
  where
    go : (b : Bool) → (b || has_row name rows) ≡ false → (has_row name rows ≡ false → find (λ x. bytes_eq x.id name) (rows ++ row ∷ []) ≡ Some row)
        → cond b (Some r) (find (λ x. bytes_eq x.id name) (rows ++ row ∷ [])) ≡ Some row
    go true e more = absurd (true≢false e)
    go false e more = more e
