use Rattle.std.proofs.Common.{◌+◌, ◌∙◌, List, ap, sym, subst, arith}
use Rattle.a68_lookahead.specs.Ahead.{behind}
use Rattle.a68_lookahead.specs.declared.look.Look.{Look}
use Rattle.a68_symbols.specs.declared.sym.Sym.{Sym}
use Rattle.a68_lookahead.proofs.Looking.{goes, found, missed, Within, step_within}
use Rattle.a68_lookahead.proofs.look.behind.Goals as goal

pub loop-sym-preserved : goal.loop-sym-preserved
loop-sym-preserved c =
    let sought = c.args.sought in
    let n = c.loop-sym.depth in
    let d = c.loop-sym.due in
    let s = c.in-Some.sym.now in
    let rest = c.in-Some.ensures.cases.0 in
    let is = sym c.step.ensures ∙ c.in-Goes.is in
    let within = subst (λ (l : Look). Within (n + 1) l) is (step_within sought n d s) in
    let long = c.in-Some.ensures.cases.1 in
    record {
      room = omega (arith, within, long, c.loop-sym.invariant.room);
      same = sym (goes sought n d s c.in-Some.after.now c.in-Goes.within c.in-Goes.next is) ∙ ap (λ (l : List Sym). behind sought n d l) (sym rest) ∙ c.loop-sym.invariant.same;
    }

pub returns-in-Found : goal.returns-in-Found
returns-in-Found c =
    let sought = c.args.sought in
    let is = sym c.step.ensures ∙ c.in-Found.is in
    sym (found sought c.loop-sym.depth c.loop-sym.due c.in-Some.sym.now c.in-Some.after.now is)
    ∙ ap (λ (l : List Sym). behind sought c.loop-sym.depth c.loop-sym.due l) (sym c.in-Some.ensures.cases.0) ∙ c.loop-sym.invariant.same

pub returns-in-Missed : goal.returns-in-Missed
returns-in-Missed c =
    let sought = c.args.sought in
    let is = sym c.step.ensures ∙ c.in-Missed.is in
    sym (missed sought c.loop-sym.depth c.loop-sym.due c.in-Some.sym.now c.in-Some.after.now is)
    ∙ ap (λ (l : List Sym). behind sought c.loop-sym.depth c.loop-sym.due l) (sym c.in-Some.ensures.cases.0) ∙ c.loop-sym.invariant.same
