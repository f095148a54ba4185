use Rattle.std.proofs.Common.{◌≡◌, ◌∙◌, ap, sym, None, Some, string_bytes}
use Rattle.std.specs.Str.{bytes_eq}
use Rattle.a68_outside.specs.declared.memory.NamedText.{NamedText}
use Rattle.a68_outside.proofs.FilesLemmas.{under-found, under-passed}
use Rattle.a68_outside.proofs.memory.place_of.Goals as goal
use Rattle.a68_outside.proofs.memory.place_of.Goals.{then-eq, else-eq}

pub loop-i-preserved : goal.loop-i-preserved
loop-i-preserved c =
    let same : string_bytes c.index-files-i.result.name ≡ c.as_str.result.now =
    ap (λ (n : NamedText). string_bytes n.name) c.index-files-i.is ∙ sym c.as_str.ensures.value in
    let test : bytes_eq (string_bytes c.index-files-i.result.name) c.args.name.now ≡ c.eq.result =
    ap (λ t. bytes_eq t c.args.name.now) same ∙ sym c.eq.ensures in
    elim c.if-eq.branch [
      | then-eq w ↦ record {
        none = λ no. let bad : Some c.loop-i.i ≡ None = sym w.found-is ∙ no in cc;
        some = rw w.found-is
            (c.loop-i-test.true, under-found _ _ _ _ c.loop-i-test.true c.index-files-i.is (test ∙ w.if-eq.true));
      }
      | else-eq w ↦
          let passed = under-passed _ _ _ _ c.loop-i-test.true c.index-files-i.is (test ∙ w.if-eq.false) in
          record {
            none = λ no. passed ∙ c.loop-i.invariant.none (sym w.found-is ∙ no);
            some = rw (w.found-is, passed) c.loop-i.invariant.some;
          }
    ]
