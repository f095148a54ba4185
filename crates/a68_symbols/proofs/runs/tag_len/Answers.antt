use Rattle.std.proofs.Common.{◌≡◌, ◌+◌, ◌-◌, arith, inl, inr, sym, ◌∙◌}
use Rattle.std.proofs.lemmas.Bool.{cases_lt}
use Rattle.a68_symbols.proofs.runs.tag_len.Goals as goal

pub loop-n-preserved : goal.loop-n-preserved
loop-n-preserved c =
    let i = c.loop-n.invariant in
    record {
      low = i.low;
      mid = omega (arith, i.mid);
      high = omega (arith, c.loop-n-test.true);
      run = λ k a b. elim (cases_lt k c.loop-n.n) [ inl lt ↦ i.run k a lt | inr le ↦ let e : k ≡ c.loop-n.n = omega arith in rw e (sym c.is_in_tag.ensures ∙ c.if-is_in_tag.true) ];
      last = i.last;
      none = λ k a b. elim (cases_lt k c.loop-n.n) [ inl lt ↦ i.none k a lt | inr le ↦ let e : k ≡ c.loop-n.n + 1 - 1 = omega arith in rw e (sym c.ends_tag.ensures ∙ c.if-ends_tag.false) ];
    }
