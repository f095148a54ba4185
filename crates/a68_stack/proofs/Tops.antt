-- What stands on top of a stack, whose items stand with the topmost one last.
use Rattle.std.proofs.Common.{◌≡◌, ℕ, ℤ, ◌+◌, ◌-◌, ◌∙◌, Bool, true, false, List, [], ◌∷◌, ◌++◌, length, take, get_or, set, ap, sym, refl, arith}
use Rattle.std.specs.Prelude.{None, Some, reverse, MatchBool, MatchOption}
use Rattle.std.specs.Option.{is_some}
use Rattle.std.specs.declared.option.Option.{Option}
use Rattle.std.proofs.lemmas.Bool.{false≢true}
use Rattle.std.proofs.Math.Seq.{set-append_seam, take-append-add, take-length}
use Rattle.std.proofs.lemmas.List.{length-reverse, length-set, get_or-reverse, reverse-append, reverse-reverse, take_more, take_more_set}
use Rattle.a68_acts.specs.declared.operation.Counter.{Counter}
use Rattle.a68_stack.specs.Inside.{counter_in}
use Rattle.a68_stack.specs.Stacked.{Stacked}
use Rattle.a68_stack.specs.Values.{callers, plain_in, top_counter, top_plain, top_two}
use Rattle.a68_stack.specs.declared.stack.Item.{Item}
use Rattle.a68_stack.specs.declared.stack.Item.TheVariants as item
use Rattle.a68_values.specs.Content.{plain}
use Rattle.a68_values.specs.declared.plain.Plain.{Plain}

-- a stack with these items
abbrev pub stacked : ℕ → List Item → Stacked
stacked room items = record { items = items; room = room }

-- the topmost item before and after it is replaced
on_top : (old : List Item) (n : ℕ) (before after : Item) → length old ≡ n + 1 → before ≡ get_or old n before
    → (rest : List Item) × (reverse old ≡ before ∷ rest) × (reverse (set old n after) ≡ after ∷ rest)
on_top old n before after all is =
    let cut : (new : List Item) → length new ≡ length old → take (n + 1) new ≡ new = λ new e. ap (λ k. take k new) (sym all ∙ sym e) ∙ take-length new in
    let was : old ≡ take n old ++ before ∷ [] = sym (cut old refl) ∙ take_more old n before (omega (arith, all)) ∙ ap (λ i. take n old ++ i ∷ []) (sym is) in
    let now : set old n after ≡ take n old ++ after ∷ [] = sym (cut (set old n after) (length-set old n after)) ∙ take_more_set old n after (omega (arith, all)) in (
      reverse (take n old),
      ap (λ (l : List Item). reverse l) was ∙ reverse-append (take n old) (before ∷ []),
      ap (λ (l : List Item). reverse l) now ∙ reverse-append (take n old) (after ∷ []),
    )

-- Whether a plain value took the place of the one on top.
abbrev pub PlainIsSet : Bool → Plain → (old new : Stacked) → Type 0
PlainIsSet is_set held old new =
    MatchBool is_set ((p : Plain) × (rest : List Item) × (old.items ≡ item.Value (plain p) ∷ rest) × (new ≡ record old { items = item.Value (plain held) ∷ rest })) ((top_plain old.items ≡ None) × (new ≡ old))

pub plain_is_set : (items : List Item) (n : ℕ) (is_set : Bool) (held : Plain) (before after : Item) → length items ≡ n + 1 → before ≡ get_or items n before
    → MatchBool is_set ((p : Plain) × (before ≡ item.Value (plain p)) × (after ≡ item.Value (plain held))) ((plain_in before ≡ None) × (after ≡ before))
    → (room : ℕ) → PlainIsSet is_set held (stacked room (reverse items)) (stacked room (reverse (set items n after)))
plain_is_set items n true held before after all is (p, was, now) room =
    let top = on_top items n before after all is in
    (p, top.0, top.1 ∙ ap (λ (i : Item). i ∷ top.0) was, ap (stacked room) (top.2 ∙ ap (λ (i : Item). i ∷ top.0) now))
plain_is_set items n false held before after all is (none, same) room =
    let top = on_top items n before after all is in
    (ap (λ l. top_plain l) top.1 ∙ none, ap (stacked room) (top.2 ∙ ap (λ (i : Item). i ∷ top.0) same ∙ sym top.1))

pub plain_set_callers : (is_set : Bool) (held : Plain) (old new : Stacked) → PlainIsSet is_set held old new → callers new.items ≡ callers old.items
plain_set_callers true held old new (p, rest, was, now) = ap (λ (l : Stacked). callers l.items) now ∙ sym (ap (λ l. callers l) was)
plain_set_callers false held old new (none, same) = ap (λ (l : Stacked). callers l.items) same

-- Whether a number took the place of that of the counter on top.
abbrev pub NumberIsSet : Bool → ℤ → (old new : Stacked) → Type 0
NumberIsSet is_set number old new =
    MatchBool is_set ((c : Counter) × (rest : List Item) × (old.items ≡ item.Counter c ∷ rest) × (new ≡ record old { items = item.Counter (record c { at = number }) ∷ rest })) ((top_counter old.items ≡ None) × (new ≡ old))

no_counter : (i : Item) (rest : List Item) → counter_in i ≡ None → top_counter (i ∷ rest) ≡ None
no_counter (item.Value v) rest e = refl
no_counter (item.Counter c) rest e = e
no_counter (item.Caller c) rest e = refl

pub number_is_set : (items : List Item) (n : ℕ) (is_set : Bool) (number : ℤ) (before after : Item) → length items ≡ n + 1 → before ≡ get_or items n before
    → MatchBool is_set ((c : Counter) × (before ≡ item.Counter c) × (after ≡ item.Counter (record c { at = number }))) ((counter_in before ≡ None) × (after ≡ before))
    → (room : ℕ) → NumberIsSet is_set number (stacked room (reverse items)) (stacked room (reverse (set items n after)))
number_is_set items n true number before after all is (c, was, now) room =
    let top = on_top items n before after all is in
    (c, top.0, top.1 ∙ ap (λ (i : Item). i ∷ top.0) was, ap (stacked room) (top.2 ∙ ap (λ (i : Item). i ∷ top.0) now))
number_is_set items n false number before after all is (none, same) room =
    let top = on_top items n before after all is in
    (ap (λ l. top_counter l) top.1 ∙ no_counter before top.0 none, ap (stacked room) (top.2 ∙ ap (λ (i : Item). i ∷ top.0) same ∙ sym top.1))

pub number_set_callers : (is_set : Bool) (number : ℤ) (old new : Stacked) → NumberIsSet is_set number old new → callers new.items ≡ callers old.items
number_set_callers true number old new (c, rest, was, now) = ap (λ (l : Stacked). callers l.items) now ∙ sym (ap (λ l. callers l) was)
number_set_callers false number old new (none, same) = ap (λ (l : Stacked). callers l.items) same

-- the two plain values that were looked for and found
pub found_two : (found : Option (Plain × Plain)) (items : List Item) → is_some found ≡ true
    → MatchOption found (top_two items ≡ None) (λ two. (rest : List Item) × (items ≡ item.Value (plain two.1) ∷ item.Value (plain two.0) ∷ rest))
    → (l : Plain) × (r : Plain) × (rest : List Item) × (items ≡ item.Value (plain r) ∷ item.Value (plain l) ∷ rest)
found_two None items some is = absurd (false≢true some)
found_two (Some two) items some (rest, is) = (two.0, two.1, rest, is)

-- the topmost item goes, and another takes the place of the one below it
pub put_below : (items rest : List Item) (n : ℕ) (l r i : Item) → reverse items ≡ r ∷ l ∷ rest → length items ≡ n + 2
    → reverse (take (length items - 1) (set items n i)) ≡ i ∷ rest
put_below items rest n l r i is all =
    let below : List Item = reverse rest in
    let whole : items ≡ below ++ l ∷ r ∷ [] = sym (reverse-reverse items) ∙ ap (λ (xs : List Item). reverse xs) is ∙ reverse-append (r ∷ l ∷ []) rest in
    let size : length below ≡ n = omega (arith, all, length-reverse items, length-reverse rest, ap (λ (xs : List Item). length xs) is) in
    let put : set items n i ≡ below ++ i ∷ r ∷ [] =
    ap (λ (xs : List Item). set xs n i) whole ∙ ap (λ k. set (below ++ l ∷ r ∷ []) k i) (sym size) ∙ set-append_seam below l (r ∷ []) i in
    let cut : length items - 1 ≡ length below + 1 = omega (arith, all, size) in
    let new : take (length items - 1) (set items n i) ≡ below ++ i ∷ [] =
    ap (λ (xs : List Item). take (length items - 1) xs) put ∙ ap (λ k. take k (below ++ i ∷ r ∷ [])) cut ∙ take-append-add below (i ∷ r ∷ []) 1 in
    ap (λ (xs : List Item). reverse xs) new ∙ reverse-append below (i ∷ []) ∙ ap (λ (xs : List Item). i ∷ xs) (reverse-reverse rest)

-- the topmost item takes the place of the one below it
pub top_kept : (items rest : List Item) (n : ℕ) (l r i : Item) → reverse items ≡ r ∷ l ∷ rest → length items ≡ n + 2
    → reverse (take (length items - 1) (set items n (get_or items (length items - 1) i))) ≡ r ∷ rest
top_kept items rest n l r i is all =
    let at_top : length items - 1 ≡ length items - 1 - 0 = omega arith in
    let top : get_or items (length items - 1) i ≡ r =
    ap (λ k. get_or items k i) at_top ∙ sym (get_or-reverse items 0 i (omega (arith, all))) ∙ ap (λ (xs : List Item). get_or xs 0 i) is in
    ap (λ (t : Item). reverse (take (length items - 1) (set items n t))) top ∙ put_below items rest n l r r is all
