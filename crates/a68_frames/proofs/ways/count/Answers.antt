use Rattle.std.proofs.Common.{◌∙◌, ap, refl}
use Rattle.a68_frames.proofs.Outlooking.{framed_deep, outward_at}
use Rattle.a68_frames.specs.Outlooks.{view_at}
use Rattle.a68_frames.specs.declared.outlook.View.{View}
use Rattle.a68_frames.proofs.ways.count.Goals as goal

pub returns : goal.returns
returns c = λ tree ranges framed.
    let seen = c.args.outlook.now in
    ap (λ (v : View). v.depth) c.view.ensures
    ∙ framed_deep framed c.args.start (view_at seen.views c.args.start).depth (outward_at c.args.chains.now.frames seen.texts seen.views c.args.start c.requires.views c.requires.start).deep refl
