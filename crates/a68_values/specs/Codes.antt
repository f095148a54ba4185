-- How the logic tells values apart: a code for each, which is one to one.
use Rattle.std.specs.Prelude.{◌≡◌, ℕ, ℤ, pos, List, Bool, true, false, cond, ◌==◌, refl}
use Rattle.std.proofs.Common.{ap, arith}
use Rattle.std.specs.Coded.{Coded, code_by, coded×, coded_ℕ, coded_ℤ, coded_bool, coded_list}
use base.Stored.{Gv, gnil, gnum, gcons}
use Rattle.a68_values.specs.declared.plain.Plain.{Plain}
use Rattle.a68_values.specs.declared.plain.Plain.TheVariants.{Unset, Int, Long, Bool as Truth, Char, Bits, Nil, Name, Routine, Sema}
use Rattle.a68_values.specs.declared.plain.Layout.{Layout}
use Rattle.a68_values.specs.declared.plain.Layout.TheVariants.{Newline, Space}
use Rattle.a68_values.specs.Content.{Content, Contents, void, plain, layout, structure, row, united, no_parts, ◌and_part◌}

-- a kind, and the numbers that a value of the kind is made of
abbrev plain_parts : Plain → ℕ × (ℤ × (ℕ × (ℕ × ℕ)))
plain_parts Unset = (0, (pos 0, (0, (0, 0))))
plain_parts (Int i) = (1, (i, (0, (0, 0))))
plain_parts (Truth true) = (2, (pos 0, (0, (0, 0))))
plain_parts (Truth false) = (3, (pos 0, (0, (0, 0))))
plain_parts (Char c) = (4, (pos 0, (c, (0, 0))))
plain_parts (Bits b) = (5, (pos 0, (b, (0, 0))))
plain_parts Nil = (6, (pos 0, (0, (0, 0))))
plain_parts (Name n) = (7, (pos 0, (n.cell, (n.scope, 0))))
plain_parts (Routine r) = (8, (pos 0, (r.text, (r.frame, r.scope))))
plain_parts (Sema s) = (9, (pos 0, (s, (0, 0))))
plain_parts (Long l) = (10, (l.high, (l.low, (0, 0))))

abbrev plain_from : ℕ × (ℤ × (ℕ × (ℕ × ℕ))) → Plain
plain_from (kind, (i, (m, (n, o)))) =
    cond (kind == 0) Unset (cond (kind == 1) (Int i) (cond (kind == 2) (Truth true) (cond (kind == 3) (Truth false) (cond (kind == 4) (Char m)
    (cond (kind == 5) (Bits m) (cond (kind == 6) Nil (cond (kind == 7) (Name (record { cell = m; scope = n }))
    (cond (kind == 8) (Routine (record { text = m; frame = n; scope = o }))
    (cond (kind == 9) (Sema m) (Long (record { high = i; low = m })))))))))))

pub plain_from-plain_parts : (p : Plain) → plain_from (plain_parts p) ≡ p
plain_from-plain_parts Unset = refl
plain_from-plain_parts (Int i) = refl
plain_from-plain_parts (Truth true) = refl
plain_from-plain_parts (Truth false) = refl
plain_from-plain_parts (Char c) = refl
plain_from-plain_parts (Bits b) = refl
plain_from-plain_parts Nil = refl
plain_from-plain_parts (Name n) = refl
plain_from-plain_parts (Routine r) = refl
plain_from-plain_parts (Sema s) = refl
plain_from-plain_parts (Long l) = refl

abbrev pub plain_code : Coded Plain
plain_code =
    code_by (ℕ × (ℤ × (ℕ × (ℕ × ℕ)))) (coded× coded_ℕ (coded× coded_ℤ (coded× coded_ℕ (coded× coded_ℕ coded_ℕ)))) plain_parts plain_from plain_from-plain_parts

abbrev is_space : Layout → Bool
is_space Newline = false
is_space Space = true

abbrev layout_from : Bool → Layout
layout_from false = Newline
layout_from true = Space

pub layout_from-is_space : (l : Layout) → layout_from (is_space l) ≡ l
layout_from-is_space Newline = refl
layout_from-is_space Space = refl

abbrev pub layout_code : Coded Layout
layout_code = code_by Bool coded_bool is_space layout_from layout_from-is_space

abbrev pub bounds_code : Coded (List (ℤ × ℤ))
bounds_code = coded_list (coded× coded_ℤ coded_ℤ)

abbrev mutual
  stored : Content → Gv
  stored void = gcons (gnum 0) gnil
  stored (plain p) = gcons (gnum 1) (plain_code.code p)
  stored (layout l) = gcons (gnum 2) (layout_code.code l)
  stored (structure parts) = gcons (gnum 3) (all_stored parts)
  stored (row bounds parts) = gcons (gnum 4) (gcons (bounds_code.code bounds) (all_stored parts))
  stored (united mode inner) = gcons (gnum 5) (gcons (gnum mode) (stored inner))

  all_stored : Contents → Gv
  all_stored no_parts = gnil
  all_stored (part and_part parts) = gcons (stored part) (all_stored parts)

abbrev number : Gv → ℕ
number gnil = 0
number (gnum n) = n
number (gcons a b) = 0

abbrev front : Gv → Gv
front gnil = gnil
front (gnum n) = gnil
front (gcons a b) = a

abbrev rest : Gv → Gv
rest gnil = gnil
rest (gnum n) = gnil
rest (gcons a b) = b

mutual
  stored_once : (x y : Content) → stored x ≡ stored y → x ≡ y
  stored_once void void e = refl
  stored_once (plain p) (plain q) e = ap (λ v. plain v) (plain_code.inj p q (ap rest e))
  stored_once (layout l) (layout k) e = ap (λ v. layout v) (layout_code.inj l k (ap rest e))
  stored_once (structure ps) (structure qs) e = ap (λ v. structure v) (all_stored_once ps qs (ap rest e))
  stored_once (row bs ps) (row cs qs) e =
      let same : bs ≡ cs = bounds_code.inj bs cs (ap (λ g. front (rest g)) e) in
      let parts : ps ≡ qs = all_stored_once ps qs (ap (λ g. rest (rest g)) e) in
      cc
  stored_once (united m v) (united n w) e =
      let same : m ≡ n = ap (λ g. number (front (rest g))) e in
      let inner : v ≡ w = stored_once v w (ap (λ g. rest (rest g)) e) in
      cc
  stored_once x y e = absurd (let kinds : number (front (stored x)) ≡ number (front (stored y)) = ap (λ g. number (front g)) e in omega arith)

  all_stored_once : (xs ys : Contents) → all_stored xs ≡ all_stored ys → xs ≡ ys
  all_stored_once no_parts no_parts e = refl
  all_stored_once (x and_part xs) (y and_part ys) e =
      let one : x ≡ y = stored_once x y (ap front e) in
      let others : xs ≡ ys = all_stored_once xs ys (ap rest e) in
      cc
  all_stored_once no_parts (y and_part ys) e = cc
  all_stored_once (x and_part xs) no_parts e = cc

pub content_code : Coded Content
content_code = record { code = stored; inj = stored_once }
