use Rattle.std.proofs.Common.{◌≡◌, ◌≤◌, ◌<◌, ◌+◌, ◌-◌, ◌∙◌, ap, sym, subst, length, Some, None, arith, true, false}
use Rattle.std.specs.Prelude.{slice_index_or}
use Rattle.a68_frames.proofs.Needing.{lowered_none}
use Rattle.a68_frames.proofs.Outlooking.{lower_text, no_text, outer_under, outward_at, skips_at, text_at, text_under, too_few}
use Rattle.a68_frames.specs.Outlooks.{CrossesText, view_at}
use Rattle.a68_frames.specs.declared.outlook.View.{View}
use Rattle.a68_ranges.proofs.Layering.{below_more}
use Rattle.a68_ranges.proofs.Taking.{is_there, some_one}
use Rattle.a68_ranges.specs.declared.nests.Layer.{Layer}
use Rattle.a68_frames.proofs.needs.lower.Goals as goal

pub returns-then-left-passed : goal.returns-then-left-passed
returns-then-left-passed c =
    let frames = c.args.chains.now.frames in
    let seen = c.args.outlook.now in
    let from = c.texts.from in
    let number = c.in-Some.number in
    let text_is : (view_at seen.views from).text ≡ Some number = ap (λ (v : View). v.text) (sym c.view.ensures) ∙ c.in-Some.is in
    let n = (view_at seen.views from).depth in
    let m = (view_at seen.views (Some number)).depth in
    let passed : c.saturating_sub-passed.result ≡ n - m =
    c.saturating_sub-passed.ensures ∙ ap (λ (v : View). v.depth - c.view-in-Some-2.result.depth) c.view-in-Some.ensures ∙ ap (λ (v : View). n - v.depth) c.view-in-Some-2.ensures in
    let few : c.texts.left ≤ n - m = omega (arith, passed, c.if-left-passed.true) in
    c.texts.invariant.rest c.texts.needs
    (lowered_none (CrossesText frames seen.texts from c.texts.left) c.texts.needs
    (λ range left x. too_few frames seen.texts from number n m c.texts.left (skips_at frames seen.texts seen.views from number c.requires.views c.texts.invariant.there text_is) few range left x))

pub frame-frame-requires : goal.frame-frame-requires
frame-frame-requires c =
    let frames = c.args.chains.now.frames in
    let seen = c.args.outlook.now in
    let from = c.texts.from in
    let text_is : (view_at seen.views from).text ≡ Some c.in-Some.number = ap (λ (v : View). v.text) (sym c.view.ensures) ∙ c.in-Some.is in
    let at = text_at (outward_at frames seen.texts seen.views from c.requires.views c.texts.invariant.there).text c.in-Some.number text_is in
    is_there frames c.in-Some.number at.0 at.1

pub texts-preserved : goal.texts-preserved
texts-preserved c =
    let frames = c.args.chains.now.frames in
    let seen = c.args.outlook.now in
    let from = c.texts.from in
    let number = c.in-Some.number in
    let frame = c.frame-frame.result in
    let text_is : (view_at seen.views from).text ≡ Some number = ap (λ (v : View). v.text) (sym c.view.ensures) ∙ c.in-Some.is in
    let at = text_at (outward_at frames seen.texts seen.views from c.requires.views c.texts.invariant.there).text number text_is in
    let low : number < length frames = is_there frames number at.0 at.1 in
    let same : at.0 ≡ frame = some_one (sym at.1 ∙ c.frame-frame.ensures.is) in
    let told : slice_index_or seen.texts frame.range false ≡ true = subst (λ (l : Layer). slice_index_or seen.texts l.range false ≡ true) same at.2 in
    let n = (view_at seen.views from).depth in
    let m = (view_at seen.views (Some number)).depth in
    let passed : c.saturating_sub-passed.result ≡ n - m =
    c.saturating_sub-passed.ensures ∙ ap (λ (v : View). v.depth - c.view-in-Some-2.result.depth) c.view-in-Some.ensures ∙ ap (λ (v : View). n - v.depth) c.view-in-Some-2.ensures in
    let left = c.texts.left - (c.saturating_sub-passed.result + 1) in
    let e : c.texts.left ≡ n - m + (left + 1) = omega (arith, passed, c.if-left-passed.false) in
    record {
      there = below_more number (length frames) frame.outer (omega (arith, low)) c.frame-frame.ensures.outer;
      rest = λ final are. c.texts.invariant.rest final
          (lower_text frames seen.texts from number n m c.texts.left left frame (skips_at frames seen.texts seen.views from number c.requires.views c.texts.invariant.there text_is) c.frame-frame.ensures.is told e
          c.texts.needs c.lower_one.new.needs final c.lower_one.ensures are);
    }

pub texts-smaller : goal.texts-smaller
texts-smaller c =
    let frames = c.args.chains.now.frames in
    let seen = c.args.outlook.now in
    let from = c.texts.from in
    let text_is : (view_at seen.views from).text ≡ Some c.in-Some.number = ap (λ (v : View). v.text) (sym c.view.ensures) ∙ c.in-Some.is in
    outer_under c.in-Some.number from c.frame-frame.result.outer (text_under frames seen.texts seen.views from c.in-Some.number c.requires.views c.texts.invariant.there text_is) c.frame-frame.ensures.outer

pub returns : goal.returns
returns c =
    let frames = c.args.chains.now.frames in
    let seen = c.args.outlook.now in
    let from = c.texts.from in
    let none : (view_at seen.views from).text ≡ None = ap (λ (v : View). v.text) (sym c.view.ensures) ∙ c.in_default.is in
    c.texts.invariant.rest c.texts.needs
    (lowered_none (CrossesText frames seen.texts from c.texts.left) c.texts.needs
    (λ range left x. no_text frames seen.texts (outward_at frames seen.texts seen.views from c.requires.views c.texts.invariant.there).text none c.texts.left range left x))
