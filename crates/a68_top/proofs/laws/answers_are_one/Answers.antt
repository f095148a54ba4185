use Rattle.std.proofs.Common.{◌≤◌, ℕ, List, length, subst}
use Rattle.a68_symbols.specs.Limits.{most_bytes}
use Rattle.a68_top.proofs.Compiled.{Codes, not_refused, one_made}
use Rattle.a68_top.proofs.One.{Laws, one_listing, one_refusal, same_program}
use Rattle.a68_top.proofs.Within.{Bounds, place_within}
use Rattle.a68_top.proofs.laws.answers_are_one.Goals as goal

laws : goal.After-listings_keep_the_symbols → Laws
laws c = record {
  named = c.symbols_are_one.ensures.named;
  classes = c.classes_are_one.ensures.list;
  unclassed = c.classes_are_one.ensures.refusal;
  apart = c.classes_are_one.ensures.apart;
  broken = c.annotations_are_one.ensures.refusal;
  unbroken = c.annotations_are_one.ensures.apart;
  programs = c.annotations_are_one.ensures.programs;
  ungenerated = c.translations_are_listings.ensures.one;
}

codes : goal.After-listings_keep_the_symbols → Codes
codes c = record {
  code = c.translations_are_listings.ensures.code;
  apart = c.translations_are_listings.ensures.apart;
}

bounds : goal.After-listings_keep_the_symbols → Bounds
bounds c = record {
  broken = c.symbols_are_bounded.ensures.refused;
  symbols = c.symbols_are_bounded.ensures.within;
  nodes = c.trees_lie_in_texts.ensures;
  refused = c.annotations_begin_by.ensures.refused;
  annotated = c.annotations_begin_by.ensures.nodes;
  ungenerated = c.translations_are_listings.ensures.within;
}

pub returns : goal.returns
returns c = record {
  refusals = one_refusal (laws c);
  within = place_within (bounds c);
  apart = not_refused (laws c) (codes c);
  programs = same_program (laws c);
  compiled = one_made (laws c) (codes c);
  runs = λ text made fuel a b m. c.one_worker_has_one_run.ensures made.code fuel a b;
  run = λ made fuel. c.one_worker_has_a_run.ensures made.code fuel;
  listings = one_listing (laws c);
  laid_out = λ text out is short.
      c.listings_keep_the_symbols.ensures text is.is.found is.is.symbols is.is.named is.is.classes is.tree.nodes is.is.classed.words.whole is.is.derived
      (subst (λ (l : List ℕ). length l ≤ most_bytes) is.laid_out short);
  races = c.races_are_one.ensures.shown;
  beyond = c.races_are_one.ensures.beyond;
  raced = c.races_are_one.ensures.apart;
  schedules = c.schedules_read_back.ensures.one;
  bad = c.schedules_read_back.ensures.bad;
  readable = c.schedules_read_back.ensures.apart;
  written = c.schedules_read_back.ensures.back;
  picked = c.schedules_have_one_run.ensures.run;
  replays = c.schedules_have_one_run.ensures.outcome;
  traced = c.traced_runs_come_back.ensures;
  among = c.races_are_one.ensures.within;
}
