use Rattle.std.proofs.Common.{◌≡◌, ◌∙◌, ap, sym, subst, length, None, arith}
use Rattle.std.specs.Prelude.{slice_index_or}
use Rattle.a68_ranges.proofs.Seeing.{seen_out}
use Rattle.a68_ranges.specs.Links.{IsBelow}
use Rattle.a68_ranges.specs.Tables.{FindsOut}
use Rattle.a68_ranges.specs.Visible.{seen_at}
use Rattle.a68_ranges.proofs.nests.Nests.find.Goals as goal

pub returns : goal.returns
returns c = λ entries are.
    let layers = c.args.self.now.layers in
    let start = slice_index_or c.args.self.now.about c.args.at None in
    let found : c.find.result ≡ seen_at c.args.visible.now start c.args.name = c.find.ensures ∙ ap (λ o. seen_at c.args.visible.now o c.args.name) c.about.ensures.is in
    subst (FindsOut layers entries c.args.name start) (sym found)
    (seen_out layers entries c.args.visible.now start c.args.name are (subst (IsBelow (length layers)) c.about.ensures.is c.about.ensures.there) (omega (arith, c.ranges.name.fits)))
