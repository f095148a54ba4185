use Rattle.std.proofs.Common.{◌≡◌, ◌+◌, ◌-◌, ◌≤◌, length, drop, ap, ◌∙◌, arith}
use Rattle.a68_layout.specs.Widths.{width_within, width_of_fields}
use Rattle.a68_steps.proofs.Parts.{room-before, some-past, whole-past, fetched-past, some-other, whole-other, fetched-other}
use Rattle.a68_steps.proofs.fetching.+fetch.Goals as goal

pub fetch_fields-fetch_in-requires : goal.fetch_fields-fetch_in-requires
fetch_fields-fetch_in-requires t c =
    let next : c.loop-left.left - 1 + 1 ≡ c.loop-left.left = omega arith in
    let f = width_within c.args.depth c.args.modes.now in (
      omega arith,
      room-before f c.args.fields.now (c.loop-left.left - 1) (0, 0) (omega (arith, c.loop-left.invariant.fits)) c.loop-left.cell c.args.end
          (ap (λ k. c.loop-left.cell + width_of_fields f (drop k c.args.fields.now)) next ∙ c.loop-left.invariant.whole) c.requires,
    )

pub fetch_in-overflow_sub-result-then-mode-len : goal.fetch_in-overflow_sub-result-then-mode-len
fetch_in-overflow_sub-result-then-mode-len t c =
    some-past c.args.depth c.args.modes.now c.args.mode c.args.end (omega (arith, c.len.ensures.length, c.if-mode-len.true)) c.requires

pub fetch_in-returns-then-mode-len : goal.fetch_in-returns-then-mode-len
fetch_in-returns-then-mode-len t c =
    let past : length c.args.modes.now ≤ c.args.mode = omega (arith, c.len.ensures.length, c.if-mode-len.true) in (
      whole-past c.args.depth c.args.modes.now c.args.mode c.args.end past c.requires,
      c.in_ok-put_stray-2.ensures ∙ fetched-past c.args.depth c.args.modes.now c.args.mode (c.args.end - 1) c.args.steps.now past,
    )

pub fetch_in-overflow_sub-end : goal.fetch_in-overflow_sub-end
fetch_in-overflow_sub-end t c =
    some-other c.args.depth c.args.modes.now c.args.mode c.args.end c.shape.result.now c.shape.ensures.shape c.in_default.not-Struct c.in_default.not-Same c.requires

pub fetch_in-overflow_sub-result-in_default : goal.fetch_in-overflow_sub-result-in_default
fetch_in-overflow_sub-result-in_default t c =
    some-other c.args.depth c.args.modes.now c.args.mode c.args.end c.shape.result.now c.shape.ensures.shape c.in_default.not-Struct c.in_default.not-Same c.requires

pub fetch_in-returns-in_ok-put_fetch-in_default : goal.fetch_in-returns-in_ok-put_fetch-in_default
fetch_in-returns-in_ok-put_fetch-in_default t c = (
  whole-other c.args.depth c.args.modes.now c.args.mode c.args.end c.shape.result.now c.shape.ensures.shape c.in_default.not-Struct c.in_default.not-Same c.requires,
  c.in_ok-put_fetch-in_default.ensures
      ∙ fetched-other c.args.depth c.args.modes.now c.args.mode (c.args.end - 1) c.shape.result.now c.args.steps.now c.if-depth-eq0.false c.shape.ensures.shape
      c.in_default.not-Struct c.in_default.not-Same,
)
