use Rattle.std.proofs.Common.{◌≡◌, ℕ, length, subst, arith}
use Rattle.a68_words.proofs.Classing.{AreFirstClasses, classes_more, classes_all}
use Rattle.a68_words.proofs.classify.classes.Goals as goal

pub loop-i-preserved : goal.loop-i-preserved
loop-i-preserved c =
    classes_more c.args.symbols.now.symbols c.args.definitions.now c.loop-i.i c.known-known.result c.class_in.result c.at.result
    c.loop-i.classes.items c.push.new.self.items c.loop-i.invariant c.requires.fine c.known-known.ensures c.at.ensures.symbol c.class_in.ensures c.in_ok-push.ensures.items

pub returns : goal.returns
returns c =
    let end : c.loop-i.i ≡ length c.args.symbols.now.symbols = omega arith in
    classes_all c.args.symbols.now c.args.definitions.now c.loop-i.classes.items c.requires.outline
    (subst (λ (n : ℕ). AreFirstClasses c.args.symbols.now.symbols c.args.definitions.now n c.loop-i.classes.items) end c.loop-i.invariant)
