use Rattle.std.proofs.Common.{◌≡◌, ◌+◌, ◌⊎◌, inl, inr, sym, arith}
use Rattle.std.proofs.lemmas.Bool.{cases_lt}
use Rattle.std.proofs.lemmas.Slice.Eq.{bytes_eq-Decides}
use Rattle.a68_symbols.proofs.Again.{true≢false, found_again, not_yet, border_behind}
use Rattle.a68_symbols.proofs.comments.first_again.Goals as goal

pub returns-then-eq : goal.returns-then-eq
returns-then-eq c =
    let i = c.loop-at.invariant in
    found_again _ _ _ _ c.requires i.low c.loop-at-test.true i.border c.run_end-end.ensures i.none ((bytes_eq-Decides _ _).0 (sym c.if-eq.ensures))

pub loop-at-preserved : goal.loop-at-preserved
loop-at-preserved c =
    let i = c.loop-at.invariant in
    let r = c.run_end-end.ensures in
    let is : (c.max-at.result ≡ c.run_end-end.result) ⊎ (c.max-at.result ≡ c.loop-at.at + 1) =
    elim (cases_lt c.loop-at.at c.run_end-end.result) [ inl lt ↦ inl (omega (arith, c.max-at.ensures)) | inr le ↦ inr (omega (arith, c.max-at.ensures)) ] in
    record {
      low = omega (arith, i.low, c.max-at.ensures);
      high = omega (arith, r.within, c.loop-at-test.true, c.max-at.ensures);
      border = border_behind _ _ _ _ c.requires i.low c.loop-at-test.true i.border r c.max-at.result (omega (arith, c.max-at.ensures)) is;
      none = not_yet _ _ _ _ c.requires i.low c.loop-at-test.true i.border r i.none (λ e. true≢false _ ((bytes_eq-Decides _ _).1 e) (sym c.if-eq.ensures)) c.max-at.result is;
    }
