use Rattle.std.proofs.Common.{◌/◌, ap, ◌∙◌, sym, subst, get_or, MatchBool}
use Rattle.a68_marks.specs.Marked.{MarksAsWere, MarksToo}
use Rattle.a68_marks.proofs.Bits.{full_put, full_too}
use Rattle.a68_marks.proofs.marks.Marks.mark.Goals as goal

pub invariant_of-self-then-is_full : goal.invariant_of-self-then-is_full
invariant_of-self-then-is_full c =
    let s = c.self.inside in
    let words = c.put.new.words.items in
    let n = c.args.n in
    let too = subst (λ b. MatchBool b (MarksToo s.words.items n words) (MarksAsWere s.words.items words)) c.if-not-put.false c.put.ensures in
    let word = sym (ap (λ l. get_or l (n / 64) 0) c.deref.ensures.value) ∙ c.is_full.ensures c.if-is_full.true in
    full_put words s.full.items c.put-noted.new.words.items (n / 64) c.put-noted.result c.put-noted.ensures word (full_too s.words.items words s.full.items n too c.self.invariant)
