-- Rows that join the modes.
use Rattle.std.proofs.Common.{◌≡◌, ◌<◌, ◌+◌, ◌∙◌, ℕ, zero, suc, Bool, true, false, List, [], ◌∷◌, ◌++◌, length, get_or, take, drop, refl, sym, ap, subst, arith, append_assoc, length-append, drop-cons, Option, Some, None}
use Rattle.std.specs.Prelude.{◌||◌, ◌&&◌, cond, nat_eq, if◌then◌else◌}
use Rattle.std.specs.List.{list_any}
use Rattle.std.specs.Option.{option_map_or}
use Rattle.std.proofs.Math.ListN.{get_or-append}
use Rattle.std.proofs.Math.Seq.{drop-length}
use Rattle.std.proofs.lemmas.List.{append-nil, take_more}
use Rattle.std.proofs.lemmas.List.Folds.{list_any-append}
use Rattle.a68_modes.specs.Nodes.{shape_at, ShapeIsWithin}
use Rattle.a68_modes.specs.declared.shape.Shape.{Shape}
use Rattle.a68_modes.specs.declared.shape.Shape.TheVariants.{Rows, Blank}
use Rattle.a68_notes.specs.KnownRows.{has_key, AreRowsKnown}
use Rattle.a68_notes.specs.Rows.{fewer_of, fixed_row, is_row, with_fewer, with_fewer_each, with_row, with_rows, with_rows_to}

-- ---- what is known

or_false : (b : Bool) → b ≡ (b || false)
or_false true = refl
or_false false = refl

cond_or : (b before : Bool) → cond b true before ≡ (before || b)
cond_or true true = refl
cond_or true false = refl
cond_or false true = refl
cond_or false false = refl

-- a row is noted
pub noted_row : (old new : List (ℕ × ℕ)) (n m : ℕ) (s : Shape) → fixed_row s ≡ Some (n, m)
    → ((key : ℕ × ℕ) → has_key new key.0 key.1 ≡ cond (nat_eq n key.0 && nat_eq m key.1) true (has_key old key.0 key.1))
    → (dims of : ℕ) → has_key new dims of ≡ (has_key old dims of || is_row dims of s)
noted_row old new n m s e updates dims of =
    updates (dims, of) ∙ cond_or (nat_eq n dims && nat_eq m of) (has_key old dims of)
    ∙ ap (λ (o : Option (ℕ × ℕ)). has_key old dims of || option_map_or (λ row. nat_eq row.0 dims && nat_eq row.1 of) o false) (sym e)

-- no row is noted
pub noted_none : (keys : List (ℕ × ℕ)) (s : Shape) → fixed_row s ≡ None → (dims of : ℕ) → has_key keys dims of ≡ (has_key keys dims of || is_row dims of s)
noted_none keys s e dims of =
    or_false (has_key keys dims of) ∙ ap (λ (o : Option (ℕ × ℕ)). has_key keys dims of || option_map_or (λ row. nat_eq row.0 dims && nat_eq row.1 of) o false) (sym e)

pub none_known : (keys : List (ℕ × ℕ)) → keys ≡ [] → AreRowsKnown [] keys
none_known keys e = subst (AreRowsKnown []) (sym e) (λ dims of. refl)

-- one mode more is known
pub known_more : (modes : List Shape) (old new : List (ℕ × ℕ)) (s : Shape) → AreRowsKnown modes old
    → ((dims of : ℕ) → has_key new dims of ≡ (has_key old dims of || is_row dims of s)) → AreRowsKnown (modes ++ s ∷ []) new
known_more modes old new s are is dims of =
    is dims of ∙ ap (λ b. b || is_row dims of s) (are dims of) ∙ ap (λ b. list_any (is_row dims of) modes || b) (or_false (is_row dims of s))
    ∙ sym (list_any-append (is_row dims of) modes (s ∷ []))

pub known_next : (modes : List Shape) (i : ℕ) (old new : List (ℕ × ℕ)) (s : Shape) → i < length modes → s ≡ shape_at modes i → AreRowsKnown (take i modes) old
    → ((dims of : ℕ) → has_key new dims of ≡ (has_key old dims of || is_row dims of s)) → AreRowsKnown (take (i + 1) modes) new
known_next modes i old new s lt e are is =
    subst (λ xs. AreRowsKnown xs new) (sym (take_more modes i Blank lt ∙ ap (λ x. take i modes ++ x ∷ []) (sym e))) (known_more (take i modes) old new s are is)

-- ---- one row

-- the modes stay, with some more behind them
abbrev pub Extends : (old new : List Shape) → Type 0
Extends old new = (more : List Shape) × (new ≡ old ++ more)

pub extends_none : (modes : List Shape) → Extends modes modes
extends_none modes = ([], sym (append-nil modes))

pub extends_on : (one two three : List Shape) → Extends one two → Extends two three → Extends one three
extends_on one two three p q = (p.0 ++ q.0, q.1 ∙ ap (λ xs. xs ++ q.0) p.1 ∙ append_assoc one p.0 q.0)

extends_row : (modes : List Shape) (dims of : ℕ) → Extends modes (with_row modes dims of)
extends_row modes dims of = go (list_any (is_row dims of) modes)
  where
    go : (b : Bool) → Extends modes (if b then modes else modes ++ Rows dims false of ∷ [])
    go true = extends_none modes
    go false = (Rows dims false of ∷ [], refl)

extends_to : (modes : List Shape) (most of : ℕ) → Extends modes (with_rows_to modes most of)
extends_to modes zero of = extends_none modes
extends_to modes (suc n) of = extends_on modes (with_rows_to modes n of) (with_row (with_rows_to modes n of) (n + 1) of) (extends_to modes n of) (extends_row (with_rows_to modes n of) (n + 1) of)

extends_fewer : (modes : List Shape) (shape : Shape) → Extends modes (with_fewer modes shape)
extends_fewer modes shape = go (fewer_of shape)
  where
    go : (o : Option (ℕ × ℕ)) → Extends modes (option_map_or (λ row. with_rows_to modes row.0 row.1) o modes)
    go None = extends_none modes
    go (Some row) = extends_to modes row.0 row.1

-- ---- rows of one mode

pub record AreAddedTo (start : List Shape) (of at : ℕ) (modes : List Shape) (keys : List (ℕ × ℕ)) : Type 0 where
  pub below : of < length modes
  pub known : AreRowsKnown modes keys
  pub added : modes ≡ with_rows_to start at of

longer : (one two : List Shape) (n : ℕ) → n < length one → Extends one two → n < length two
longer one two n lt e = let long = ap (λ (xs : List Shape). length xs) e.1 in omega (arith, length-append one e.0)

pub one_more : (start : List Shape) (of at : ℕ) (modes new : List Shape) (old keys : List (ℕ × ℕ)) → AreAddedTo start of at modes old → AreRowsKnown new keys → new ≡ with_row modes (at + 1) of
    → AreAddedTo start of (at + 1) new keys
one_more start of at modes new old keys are known is = record {
  below = longer modes new of are.below (subst (Extends modes) (sym is) (extends_row modes (at + 1) of));
  known = known;
  added = is ∙ ap (λ xs. with_row xs (at + 1) of) are.added ∙ sym (next at);
}
  where
    next : (n : ℕ) → with_rows_to start (n + 1) of ≡ with_row (with_rows_to start n of) (n + 1) of
    next n = let e : n + 1 ≡ suc n = omega arith in ap (λ k. with_rows_to start k of) e

-- the elements of a row are of a mode that is there
pub element_within : (count : ℕ) (s : Shape) (most of : ℕ) → ShapeIsWithin count s → fewer_of s ≡ Some (most, of) → of < count
element_within count (Rows n flex m) most of within e = let same : m ≡ of = ap (λ (o : Option (ℕ × ℕ)). option_map_or (λ row. row.1) o 0) e in subst (λ k. k < count) same (within 0 0 (omega arith))
element_within count _ most of within e = absurd (cc)

pub fewer_some : (modes : List Shape) (s : Shape) (most of : ℕ) → fewer_of s ≡ Some (most, of) → with_rows_to modes most of ≡ with_fewer modes s
fewer_some modes s most of e = rw e refl

-- ---- rows of all modes

pub record AreAddedUpTo (start : List Shape) (at : ℕ) (modes : List Shape) (keys : List (ℕ × ℕ)) : Type 0 where
  pub known : AreRowsKnown modes keys
  pub kept : Extends start modes
  pub rest : with_fewer_each modes (drop at start) ≡ with_rows start

pub none_added : (start : List Shape) (keys : List (ℕ × ℕ)) → AreRowsKnown start keys → AreAddedUpTo start 0 start keys
unfolding with_rows
none_added start keys known = record { known = known; kept = extends_none start; rest = refl }

shape_kept : (start modes : List Shape) (at : ℕ) → at < length start → Extends start modes → shape_at modes at ≡ get_or start at Blank
shape_kept start modes at lt e = ap (λ xs. get_or xs at Blank) e.1 ∙ get_or-append start e.0 Blank at lt

pub mode_more : (start : List Shape) (at : ℕ) (modes new : List Shape) (old keys : List (ℕ × ℕ)) → at < length start → AreAddedUpTo start at modes old → AreRowsKnown new keys
    → new ≡ with_fewer modes (shape_at modes at) → AreAddedUpTo start (at + 1) new keys
mode_more start at modes new old keys lt are known is = record {
  known = known;
  kept = extends_on start modes new are.kept (subst (Extends modes) (sym is) (extends_fewer modes (shape_at modes at)));
  rest =
      let next : at + 1 ≡ suc at = omega arith in
      ap (λ k. with_fewer_each new (drop k start)) next
      ∙ ap (λ xs. with_fewer_each xs (drop (suc at) start)) (is ∙ ap (with_fewer modes) (shape_kept start modes at lt are.kept))
      ∙ ap (with_fewer_each modes) (sym (drop-cons start at Blank lt)) ∙ are.rest;
}

pub all_added : (start : List Shape) (at : ℕ) (modes : List Shape) (keys : List (ℕ × ℕ)) → at ≡ length start → AreAddedUpTo start at modes keys → modes ≡ with_rows start
all_added start at modes keys all are = ap (with_fewer_each modes) (sym (ap (λ k. drop k start) all ∙ drop-length start)) ∙ are.rest
