use Rattle.std.proofs.Common.{◌≡◌, ◌∙◌, ◌-◌, ap, sym, subst, Some, arith, ℕ}
use Rattle.std.specs.Option.{option_map}
use Rattle.a68_frames.proofs.Outlooking.{held_none, held_some, held_there, outward_at, holder_at}
use Rattle.a68_frames.specs.Outlooks.{view_at}
use Rattle.a68_frames.specs.Tables.{FindsSlot}
use Rattle.a68_frames.specs.declared.outlook.View.{View}
use Rattle.a68_ranges.specs.Tables.{at_key}
use Rattle.a68_tree.specs.declared.node.FrameStep.{FrameStep}
use Rattle.a68_frames.proofs.ways.find.Goals as goal

pub returns-in_default : goal.returns-in_default
returns-in_default c =
    let frames = c.args.chains.now.frames in
    let seen = c.args.outlook.now in
    let views = c.requires.views in
    held_none (holder_at frames c.args.places.now.entries seen.maps seen.views c.args.start c.args.definition views.holders views.outward.long c.requires.start (omega (arith, c.ranges.definition.fits)))
    (sym c.holder.ensures ∙ c.in_default.is)

pub frame-requires : goal.frame-requires
frame-requires c =
    let frames = c.args.chains.now.frames in
    let seen = c.args.outlook.now in
    let views = c.requires.views in
    held_there (holder_at frames c.args.places.now.entries seen.maps seen.views c.args.start c.args.definition views.holders views.outward.long c.requires.start (omega (arith, c.ranges.definition.fits)))
    c.in-Some.holder (sym c.holder.ensures ∙ c.in-Some.is)

pub returns : goal.returns
returns c =
    let frames = c.args.chains.now.frames in
    let entries = c.args.places.now.entries in
    let d = c.args.definition in
    let start = c.args.start in
    let seen = c.args.outlook.now in
    let views = c.requires.views in
    let number = c.in-Some.holder in
    let holder = holder_at frames entries seen.maps seen.views start d views.holders views.outward.long c.requires.start (omega (arith, c.ranges.definition.fits)) in
    let is = sym c.holder.ensures ∙ c.in-Some.is in
    let n = (view_at seen.views start).depth in
    let m = (view_at seen.views (Some number)).depth in
    let found = held_some holder number is n m (outward_at frames seen.texts seen.views start views.outward c.requires.start).deep
    (outward_at frames seen.texts seen.views (Some number) views.outward (held_there holder number is)).deep c.frame.result c.frame.ensures.is in
    let hops : c.saturating_sub-hops.result ≡ n - m =
    c.saturating_sub-hops.ensures ∙ ap (λ (v : View). v.depth - c.view-2.result.depth) c.view.ensures ∙ ap (λ (v : View). n - v.depth) c.view-2.ensures in
    let step : c.step_of.result ≡ option_map (λ s. record { hops = n - m; slot = s }) (at_key entries c.frame.result.range d) =
    c.step_of.ensures
    ∙ ap (λ h. option_map {T = ℕ} {U = FrameStep} (λ s. record { hops = h; slot = s }) c.slot_at-slot.result) hops
    ∙ ap (λ o. option_map {T = ℕ} {U = FrameStep} (λ s. record { hops = n - m; slot = s }) o) c.slot_at-slot.ensures in
    subst (FindsSlot frames entries d start) (sym step) found.1
