use Rattle.std.proofs.Common.{◌*◌, ◌+◌, ◌^◌, length, sym, ◌∙◌, arith, inl, inr}
use Rattle.std.proofs.lemmas.Bool.{cases_lt, eqb-false}
use Rattle.a68_denote.proofs.Digits.{too_great, value_goes_on, digits_go_on, found}
use Rattle.a68_denote.proofs.numbers.number.Goals as goal

pub returns-in_err-value : goal.returns-in_err-value
returns-in_err-value c =
    let i = c.loop-byte.invariant in
    let digit = c.digit-digit.ensures.value in
    elim (cases_lt (c.loop-byte.value * c.args.radix + c.digit-digit.result) (2 ^ 128)) [
      | inl lt ↦ absurd (c.in_err-value.ensures lt)
      | inr le ↦ c.from_residual.ensures ∙ sym (too_great (2 ^ 128) _ _ _ _ c.requires.0 c.loop-byte-test.true i.value (rw digit at le))
    ]

pub loop-byte-preserved : goal.loop-byte-preserved
loop-byte-preserved c =
    let i = c.loop-byte.invariant in
    let digit = c.digit-digit.ensures.value in
    let fits = c.in_ok-value.ensures.0 in
    let value = c.in_ok-value.ensures.1 in
    record {
      fits = rw value fits;
      value = rw (value, digit) (value_goes_on _ _ _ _ c.loop-byte-test.true i.value);
      digits = digits_go_on _ _ _ c.loop-byte-test.true (rw digit at c.if-digit-radix.false) i.digits;
    }

pub returns : goal.returns
returns c =
    let i = c.loop-byte.invariant in
    let some = eqb-false (length c.args.text.now) 0 (sym c.if-is_empty.ensures) in
    found (2 ^ 128) _ _ _ _ (omega (arith, some)) c.loop-byte-test.false i.fits i.value i.digits
