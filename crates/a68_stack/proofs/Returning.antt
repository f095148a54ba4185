-- A plain value on top of a caller, which is taken out.
use Rattle.std.proofs.Common.{◌≡◌, ℕ, ◌+◌, ◌-◌, ◌∙◌, Bool, true, false, List, [], ◌∷◌, length, get_or, ap, sym, refl, arith}
use Rattle.std.proofs.lemmas.Bool.{false≢true}
use Rattle.std.proofs.lemmas.List.{get_or-reverse}
use Rattle.std.specs.Prelude.{None, Some, reverse, nat_le, MatchOption}
use Rattle.std.specs.Option.{option_map_or}
use Rattle.std.specs.declared.option.Option.{Option}
use Rattle.a68_stack.specs.Below.{caller_scope, may_yield}
use Rattle.a68_stack.specs.Callers.{Caller}
use Rattle.a68_stack.specs.Stacked.{Stacked}
use Rattle.a68_stack.specs.Values.{is_caller, plain_in}
use Rattle.a68_stack.specs.declared.stack.Item.{Item}
use Rattle.a68_stack.specs.declared.stack.Item.TheVariants as item
use Rattle.a68_values.specs.Content.{Content, as_plain, plain, void, layout, structure, row, united, plain_scope}
use Rattle.a68_values.specs.declared.plain.Plain.{Plain}

is_plain : (v : Content) (p : Plain) → as_plain v ≡ Some p → v ≡ plain p
is_plain (plain q) p e = let same : q ≡ p = cc in ap (λ x. plain x) same
is_plain void p e = let bad : ◌≡◌ {A = Option Plain} None (Some p) = e in absurd (cc)
is_plain (layout l) p e = let bad : ◌≡◌ {A = Option Plain} None (Some p) = e in absurd (cc)
is_plain (structure parts) p e = let bad : ◌≡◌ {A = Option Plain} None (Some p) = e in absurd (cc)
is_plain (row bounds parts) p e = let bad : ◌≡◌ {A = Option Plain} None (Some p) = e in absurd (cc)
is_plain (united mode inner) p e = let bad : ◌≡◌ {A = Option Plain} None (Some p) = e in absurd (cc)

pub plain_is : (i : Item) (p : Plain) → plain_in i ≡ Some p → i ≡ item.Value (plain p)
plain_is (item.Value v) p e = ap (λ x. item.Value x) (is_plain v p e)
plain_is (item.Counter c) p e = let bad : ◌≡◌ {A = Option Plain} None (Some p) = e in absurd (cc)
plain_is (item.Caller c) p e = let bad : ◌≡◌ {A = Option Plain} None (Some p) = e in absurd (cc)

held_in : (o : Option Plain) (f : Plain → Bool) → option_map_or f o false ≡ true → (p : Plain) × (o ≡ Some p)
held_in None f e = absurd (false≢true e)
held_in (Some p) f e = (p, refl)

scope_in : (o : Option ℕ) (f : ℕ → Bool) → option_map_or f o false ≡ true → (n : ℕ) × (o ≡ Some n)
scope_in None f e = absurd (false≢true e)
scope_in (Some n) f e = (n, refl)

caller_is : (i : Item) (n : ℕ) → caller_scope i ≡ Some n → (c : Caller) × (i ≡ item.Caller c)
caller_is (item.Value v) n e = let bad : ◌≡◌ {A = Option ℕ} None (Some n) = e in absurd (cc)
caller_is (item.Counter c) n e = let bad : ◌≡◌ {A = Option ℕ} None (Some n) = e in absurd (cc)
caller_is (item.Caller c) n e = (c, refl)

both_are : (i j a b : Item) (rest : List Item) → i ≡ a → j ≡ b → i ∷ j ∷ rest ≡ a ∷ b ∷ rest
both_are i j a b rest x y = rw (x, y) refl

-- what stands on top
pub yields : (items : List Item) → may_yield items ≡ true → (p : Plain) × (c : Caller) × (rest : List Item) × (items ≡ item.Value (plain p) ∷ item.Caller c ∷ rest)
yields [] e = absurd (false≢true e)
yields (i ∷ []) e = absurd (false≢true e)
yields (i ∷ j ∷ rest) e =
    let held = held_in (plain_in i) _ e in
    let older = ap (λ o. option_map_or (λ p. option_map_or (λ n. nat_le (plain_scope p) n) (caller_scope j) false) o false) (sym held.1) ∙ e in
    let scope = scope_in (caller_scope j) _ older in
    let caller = caller_is j scope.0 scope.1 in
    (held.0, caller.0, rest, both_are i j (item.Value (plain held.0)) (item.Caller caller.0) rest (plain_is i held.0 held.1) caller.1)

-- the item below the topmost one
pub below_top : (items rest : List Item) (n : ℕ) (t l d : Item) → reverse items ≡ t ∷ l ∷ rest → length items ≡ n + 2 → get_or items n d ≡ l
below_top items rest n t l d is all =
    let at : n ≡ length items - 1 - 1 = omega (arith, all) in
    ap (λ k. get_or items k d) at ∙ sym (get_or-reverse items 1 d (omega (arith, all))) ∙ ap (λ (xs : List Item). get_or xs 1 d) is

-- the caller taken out, and the stack without it
pub yielded : (taken : Option Caller) (Same : Type 0) (stood now : Stacked) (rest : List Item) (kept : Item) (p : Plain) (c : Caller) → MatchOption taken (is_caller kept ≡ false) (λ x. kept ≡ item.Caller x)
    → kept ≡ item.Caller c → stood.items ≡ item.Value (plain p) ∷ item.Caller c ∷ rest → now ≡ record stood { items = item.Value (plain p) ∷ rest }
    → MatchOption taken Same (λ x. (held : Plain) × (below : List Item) × (stood.items ≡ item.Value (plain held) ∷ item.Caller x ∷ below) × (now ≡ record stood { items = item.Value (plain held) ∷ below }))
yielded None Same stood now rest kept p c none is was new = absurd (false≢true (sym none ∙ ap is_caller is))
yielded (Some x) Same stood now rest kept p c same is was new = (p, rest, was ∙ ap (λ i. item.Value (plain p) ∷ i ∷ rest) (sym is ∙ same), new)
