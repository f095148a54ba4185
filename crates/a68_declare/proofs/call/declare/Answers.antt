use Rattle.std.proofs.Common.{List, ℕ, subst, ap, false, true}
use Rattle.a68_declare.specs.Numbering.{number_in}
use Rattle.a68_declare.specs.Outcome.{AreByNode}
use Rattle.a68_declarers.specs.Numbers.{number_at, of_two}
use Rattle.a68_declare.proofs.call.declare.Goals as goal

pub judged-requires-clause-raw : goal.judged-requires-clause-raw
judged-requires-clause-raw c = record {
  defined = c.in_ok-check_words.ensures.defined;
  few = c.in_ok-check_words.ensures.few;
  declared = c.in_ok-raw.ensures.declared;
  numbered = λ d fixed. ap (of_two fixed) (c.in_ok-numbers.ensures.each d);
  holds = c.len-there.ensures.nodes;
  onto = c.in_ok-raw.ensures.ordered.onto;
}

pub returns-clause-modes : goal.returns-clause-modes
returns-clause-modes c = record {
  raw = c.in_ok-raw.raw;
  number = number_at c.in_ok-numbers.numbers;
  to = number_in c.in_ok-cleaned.cleaned.to.items;
  raw_are = record {
    defined = c.in_ok-check_words.ensures.defined;
    few = c.in_ok-check_words.ensures.few;
    declared = c.in_ok-raw.ensures.declared;
    numbered = λ d fixed. ap (of_two fixed) (c.in_ok-numbers.ensures.each d);
    holds = c.len-there.ensures.nodes;
    onto = c.in_ok-raw.ensures.ordered.onto;
  };
  fine = c.in_ok-cleaned.ensures.judged;
  cleans = c.in_ok-cleaned.ensures.cleans;
  at = subst (λ (to : List ℕ). AreByNode c.args.tree.now (λ d. number_in to (number_at c.in_ok-numbers.numbers d false)) c.in_ok-of.of.as_they_stand) c.deref.ensures.value c.in_ok-of.ensures.as_they_stand;
  fixed = subst (λ (to : List ℕ). AreByNode c.args.tree.now (λ d. number_in to (number_at c.in_ok-numbers.numbers d true)) c.in_ok-of.of.without_flex) c.deref.ensures.value c.in_ok-of.ensures.without_flex;
}
