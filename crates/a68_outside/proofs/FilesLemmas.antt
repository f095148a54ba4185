-- The texts of a shelf in memory: a list that grows, and the text at a place.
use Rattle.std.proofs.Common.{◌≡◌, ℕ, zero, suc, ◌+◌, ◌-◌, ◌<◌, List, [], ◌∷◌, ◌++◌, length, get_or, take, drop, ap, length-append, sym, ◌∙◌, refl, arith, true, false, string_bytes, if◌then◌else◌, min}
use Rattle.std.specs.Prelude.{None, Some}
use Rattle.std.specs.declared.option.Option.{Option}
use Rattle.std.specs.Str.{bytes_eq}
use Rattle.a68_outside.specs.declared.memory.NamedText.{NamedText}
use Rattle.std.proofs.lemmas.List.{take_more, take-append-drop, drop-drop}
use Rattle.std.proofs.lemmas.Bool.{ltb-true, lt-ltb}
use Rattle.a68_base.proofs.Slices.{slice_from}
use Rattle.a68_outside.specs.Memory.{or_else, text_under}
use Rattle.a68_outside.specs.Files.{named, texts_of, bytes_at, begun_bytes, is_there}

or_else-assoc : (x y z : Option (List ℕ)) → or_else (or_else x y) z ≡ or_else x (or_else y z)
or_else-assoc None y z = refl
or_else-assoc (Some x) y z = refl

or_else-none : (x : Option (List ℕ)) → or_else x None ≡ x
or_else-none None = refl
or_else-none (Some x) = refl

-- the bytes under a name, of the texts that the shelf keeps
abbrev pub under : List NamedText → List ℕ → Option (List ℕ)
under fs name = text_under (texts_of fs) name

abbrev pub own : NamedText → List ℕ → Option (List ℕ)
own f name = if bytes_eq (string_bytes f.name) name then Some f.bytes.items else None

-- one more text: it counts first
pub under-push : (fs : List NamedText) (f : NamedText) (name : List ℕ) → under (fs ++ f ∷ []) name ≡ or_else (own f name) (under fs name)
under-push [] f name = sym (or_else-none (own f name))
under-push (g ∷ fs) f name =
    ap (λ o. or_else o (own g name)) (under-push fs f name) ∙ or_else-assoc (own f name) (under fs name) (own g name)

pub bytes_at-read : (fs : List NamedText) (i : ℕ) (f : NamedText) → i < length fs → f ≡ get_or fs i f → bytes_at fs i ≡ f.bytes.items
bytes_at-read [] i f h e = absurd (omega arith)
bytes_at-read (g ∷ fs) zero f h e = ap (λ (n : NamedText). n.bytes.items) (sym e)
bytes_at-read (g ∷ fs) (suc i) f h e = bytes_at-read fs i f (omega arith) e

pub bytes_at-push : (fs : List NamedText) (f : NamedText) (i : ℕ) → i < length fs → bytes_at (fs ++ f ∷ []) i ≡ bytes_at fs i
bytes_at-push [] f i h = absurd (omega arith)
bytes_at-push (g ∷ fs) f zero h = refl
bytes_at-push (g ∷ fs) f (suc i) h = bytes_at-push fs f i (omega arith)

-- what was begun is as it was where one more text is laid
pub begun-push : (fs new : List NamedText) (f : NamedText) (b : Option ℕ) → new ≡ fs ++ f ∷ [] → is_there fs b ≡ true
    → (begun_bytes new b ≡ begun_bytes fs b) × (is_there new b ≡ true)
begun-push fs new f None e there = (refl, refl)
begun-push fs new f (Some i) e there =
    let lt : i < length fs = ltb-true _ _ there in
    let more : i < length (fs ++ f ∷ []) = omega (arith, length-append fs (f ∷ []), lt) in
    (ap (λ l. bytes_at l i) e ∙ bytes_at-push fs f i lt, rw e (lt-ltb _ _ more))

-- one more text, as callers see it
pub texts_of-push : (fs new : List NamedText) (f : NamedText) (name bytes : List ℕ) → new ≡ fs ++ f ∷ []
    → string_bytes f.name ≡ name → f.bytes.items ≡ bytes → texts_of new ≡ texts_of fs ++ (name, bytes) ∷ []
texts_of-push fs new f name bytes e n b = ap (λ l. texts_of l) e ∙ one-more fs
  where
    one-more : (l : List NamedText) → texts_of (l ++ f ∷ []) ≡ texts_of l ++ (name, bytes) ∷ []
    one-more [] = rw (n, b) refl
    one-more (g ∷ l) = ap (λ l. named g ∷ l) (one-more l)

-- the text at i is the last so far, if it has the name
pub under-more : (fs : List NamedText) (i : ℕ) (f : NamedText) (name : List ℕ) → i < length fs → f ≡ get_or fs i f
    → under (take (i + 1) fs) name ≡ or_else (own f name) (under (take i fs) name)
under-more fs i f name h e =
    ap (λ l. under l name) (take_more fs i f h ∙ ap (λ g. take i fs ++ g ∷ []) (sym e)) ∙ under-push (take i fs) f name

pub under-found : (fs : List NamedText) (i : ℕ) (f : NamedText) (name : List ℕ) → i < length fs → f ≡ get_or fs i f
    → bytes_eq (string_bytes f.name) name ≡ true → under (take (i + 1) fs) name ≡ Some (bytes_at fs i)
under-found fs i f name h e is =
    under-more fs i f name h e ∙ ap (λ b. or_else (if b then Some f.bytes.items else None) (under (take i fs) name)) is
    ∙ ap (λ l. Some l) (sym (bytes_at-read fs i f h e))

pub under-passed : (fs : List NamedText) (i : ℕ) (f : NamedText) (name : List ℕ) → i < length fs → f ≡ get_or fs i f
    → bytes_eq (string_bytes f.name) name ≡ false → under (take (i + 1) fs) name ≡ under (take i fs) name
under-passed fs i f name h e is =
    under-more fs i f name h e ∙ ap (λ b. or_else (if b then Some f.bytes.items else None) (under (take i fs) name)) is

-- a read from a place of a text
pub left-read : (text buf : List ℕ) (at n : ℕ) → take n buf ≡ take n (take (length text - at) (drop at text))
    → drop at text ≡ take n buf ++ drop (at + n) text
left-read text buf at n copied =
    sym (take-append-drop n (drop at text))
    ∙ ap (λ l. l ++ drop n (drop at text)) (ap (λ l. take n l) (sym (slice_from at text)) ∙ sym copied)
    ∙ ap (λ l. take n buf ++ l) (drop-drop n at text)

-- what is left at a place is nothing where no byte of it fits in some room
pub none-left : (n room step : ℕ) (left : List ℕ) → n ≡ min (min (length left) room) step → 0 < step → n ≡ 0 → 0 < room → left ≡ []
none-left n room step [] count steps none some = refl
none-left n room step (b ∷ left) count steps none some = absurd (omega arith)

pub read-gives : (fs : List NamedText) (begun : Option ℕ) (place at n step : ℕ) (text buf : List ℕ) → begun ≡ Some place → text ≡ bytes_at fs place
    → take n buf ≡ take n (take (length text - at) (drop at text))
    → n ≡ min (min (length (take (length text - at) (drop at text))) (length buf)) step → 0 < step
    → (Some (drop at (begun_bytes fs begun)) ≡ Some (take n buf ++ drop (at + n) (begun_bytes fs begun)))
    × (n ≡ 0 → 0 < length buf → drop at (begun_bytes fs begun) ≡ [])
read-gives fs begun place at n step text buf b t copied count steps =
    let here : begun_bytes fs begun ≡ text = ap (λ o. begun_bytes fs o) b ∙ sym t in
    rw here (
      ap (λ l. Some l) (left-read text buf at n copied),
      λ none room. sym (slice_from at text) ∙ none-left n (length buf) step _ count steps none room,
    )

pub ruleset file_steps = (bytes_at-read, bytes_at-push)
