-- The lines of the definitions of phrases, one phrase more.
use Rattle.std.proofs.Common.{◌≡◌, ℕ, suc, ◌+◌, ◌<◌, ◌∙◌, ap, sym, List, [], ◌∷◌, ◌++◌, append_assoc, add-one, drop, drop-cons, get_or, length, refl}
use Rattle.a68_annot.specs.declared.annotated.Annotated.{Annotated}
use Rattle.a68_ranges.specs.Definitions.{if_joined, unjoined}
use Rattle.a68_ranges.specs.Nodes.{kind_at}
use Rattle.a68_report.specs.Variables.{definition_line, definition_lines}
use Rattle.a68_values.specs.declared.kept.Kept.{Kept}

module _ (program : Annotated) (kept : Kept) where
  -- the lines of lists that stand one behind the other
  lines_behind : (ids others : List ℕ) → definition_lines program kept (ids ++ others) ≡ definition_lines program kept ids ++ definition_lines program kept others
  lines_behind [] others = refl
  lines_behind (id ∷ ids) others =
      let line : List ℕ = definition_line program kept id in
      ap (λ (l : List ℕ). line ++ l) (lines_behind ids others) ∙ sym (append_assoc line (definition_lines program kept ids) (definition_lines program kept others))

  abbrev phrase : ℕ → List ℕ
  phrase p = definition_lines program kept (if_joined program.tree p (kind_at program.tree p))

  abbrev rest : List ℕ → List ℕ
  rest phrases = definition_lines program kept (unjoined program.tree phrases)

  pub one_more : (phrases : List ℕ) (i p : ℕ) (now new whole : List ℕ) → i < length phrases → new ≡ now ++ phrase (get_or phrases i p)
      → now ++ rest (drop i phrases) ≡ whole → new ++ rest (drop (i + 1) phrases) ≡ whole
  one_more phrases i p now new whole within told before =
      let q : ℕ = get_or phrases i p in
      let after : List ℕ = drop (suc i) phrases in
      let front : rest (drop i phrases) ≡ phrase q ++ rest after = ap rest (drop-cons phrases i p within) ∙ lines_behind (if_joined program.tree q (kind_at program.tree q)) (unjoined program.tree after) in
      rw add-one (ap (λ (l : List ℕ). l ++ rest after) told ∙ append_assoc now (phrase q) (rest after) ∙ ap (λ (l : List ℕ). now ++ l) (sym front) ∙ before)
