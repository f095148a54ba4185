-- The form of a word, as `clap` sees it.
use Rattle.std.proofs.Common.{◌≡◌, ◌∙◌, ◌==◌, ℕ, Bool, cond, true, false, ap, sym, subst, refl, arith, List, [], ◌∷◌, length}
use Rattle.std.specs.Prelude.{None, Some, encode_utf8_all, slice_get}
use Rattle.std.specs.declared.option.Option.{Option}
use Rattle.std.specs.Char.{encode_utf8}
use Rattle.std.specs.Str.{IsUtf8, bytes_eq, chars}
use Rattle.std.proofs.lemmas.Bool.Decides.{nat_tests}
use Rattle.std.proofs.lemmas.Str.{encodes-chars}
use Rattle.clap.specs.Faults.{bundle_fault, bundle_step_fault, flags_fault}
use Rattle.clap.specs.Lexer.{long_of, short_of}
use Rattle.clap.specs.Walk.{Row, Rule, Text, arg_by_short}
use Rattle.clap.specs.declared.error.kind.ErrorKind.TheVariants as kind
use Rattle.a68_command.specs.Options.{Form, Dashes, Named, Plain, Unknown, form_of, form_behind_dash, form_behind_dashes}

pub data Lexes (word : List ℕ) : Form → Type 0 where
  dashes : bytes_eq word (45 ∷ 45 ∷ []) ≡ true → Lexes word Dashes
  named : (name : List ℕ) (value : Option (List ℕ)) → bytes_eq word (45 ∷ 45 ∷ []) ≡ false → long_of word ≡ Some (name, value) → Lexes word (Named name value)
  plain_word : bytes_eq word (45 ∷ 45 ∷ []) ≡ false → long_of word ≡ None → short_of word ≡ None → Lexes word Plain
  strange : (x : ℕ) (xs : List ℕ) → word ≡ 45 ∷ x ∷ xs → bytes_eq word (45 ∷ 45 ∷ []) ≡ false → long_of word ≡ None → short_of word ≡ Some (x ∷ xs) → Lexes word Unknown

same_byte : (b : ℕ) → (b == 45) ≡ true → 45 ≡ b
same_byte b e = grind (arith, nat_tests)

behind_dashes : (bs : List ℕ) → Lexes (45 ∷ 45 ∷ bs) (form_behind_dashes bs)
behind_dashes [] = dashes refl
behind_dashes (b ∷ bs) = named _ _ refl refl

behind_dash : (bs : List ℕ) → Lexes (45 ∷ bs) (form_behind_dash bs)
behind_dash [] = plain_word refl refl refl
behind_dash (b ∷ bs) = go (b == 45) refl
  where
    go : (t : Bool) → (b == 45) ≡ t → Lexes (45 ∷ b ∷ bs) (cond t (form_behind_dashes bs) Unknown)
    go true e = subst (λ c. Lexes (45 ∷ c ∷ bs) (form_behind_dashes bs)) (same_byte b e) (behind_dashes bs)
    go false e = strange b bs refl (rw e refl) (rw e refl) (rw e refl)

pub lexes : (word : List ℕ) → Lexes word (form_of word)
lexes [] = plain_word refl refl refl
lexes (b ∷ bs) = go (b == 45) refl
  where
    go : (t : Bool) → (b == 45) ≡ t → Lexes (b ∷ bs) (cond t (form_behind_dash bs) Plain)
    go true e = subst (λ c. Lexes (c ∷ bs) (form_behind_dash bs)) (same_byte b e) (behind_dash bs)
    go false e = plain_word (rw e refl) (rw e refl) (rw e refl)

-- what stands behind the hyphen of a text has a first character
pub spells_one : (x : ℕ) (xs : List ℕ) → IsUtf8 (45 ∷ x ∷ xs) → (c : ℕ) × (slice_get (chars (x ∷ xs)) 0 ≡ Some c)
unfolding chars encode_utf8
spells_one x xs u = go (chars (x ∷ xs)) refl
  where
    go : (cs : List ℕ) → chars (x ∷ xs) ≡ cs → (c : ℕ) × (slice_get (chars (x ∷ xs)) 0 ≡ Some c)
    go (c ∷ cs) e = (c, ap (λ l. slice_get l 0) e)
    go [] e = absurd (omega (arith, ap length (short e)))
      where
        short : chars (x ∷ xs) ≡ [] → 45 ∷ [] ≡ 45 ∷ x ∷ xs
        short none = ap (λ l. encode_utf8_all (45 ∷ l)) (sym none) ∙ encodes-chars (45 ∷ x ∷ xs) u

-- so `-x` and every other word with one hyphen in front is refused, where no argument has a short name
pub refused_bundle : (c : List Rule) → ((k : ℕ) → arg_by_short c k ≡ None) → (x : ℕ) (xs : List ℕ) (rows : List Row) (pending : Option (Text × List Text)) → IsUtf8 (45 ∷ x ∷ xs)
    → bundle_fault c false (x ∷ xs) (record { rows = rows; pending = pending; skip = 0 }) ≡ kind.UnknownArgument ∷ []
unfolding flags_fault
refused_bundle c none x xs rows pending u =
    let one = spells_one x xs u in
    ap (λ o. bundle_step_fault c false o (x ∷ xs) 0 (record { rows = rows; pending = pending; skip = 0 }) (flags_fault c false (length xs))) one.1
    ∙ step one.0
  where
    step : (k : ℕ) → bundle_step_fault c false (Some k) (x ∷ xs) 0 (record { rows = rows; pending = pending; skip = 0 }) (flags_fault c false (length xs)) ≡ kind.UnknownArgument ∷ []
    step k = ap (λ o. Rattle.clap.specs.Faults.short_fault c false o (Rattle.std.specs.Prelude.drop (length (encode_utf8 k)) (x ∷ xs)) (record { rows = rows; pending = pending; skip = 0 }) (flags_fault c false (length xs) (Rattle.std.specs.Prelude.drop (length (encode_utf8 k)) (x ∷ xs)) 0)) (none k)
