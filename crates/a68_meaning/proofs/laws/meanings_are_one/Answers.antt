use Rattle.std.proofs.Common.{refl, sym}
use Rattle.a68_meaning.proofs.Alone.{Laws, not_misused, one_meaning, one_misuse}
use Rattle.a68_meaning.proofs.laws.meanings_are_one.Goals as goal

laws : goal.After-first_broken_is_one → Laws
laws c = record {
  refusal = c.declarations_are_one.ensures.refusal;
  apart = c.declarations_are_one.ensures.apart;
  modes = c.declarations_are_one.ensures.modes;
  tags = c.definitions_are_one.ensures.tags;
  defined = c.definitions_are_one.ensures.modes;
  defined_sound = c.definitions_are_sound.ensures.sound;
  below = c.modes_of_declarers_are_below.ensures;
  yields_modes = c.yields_are_one.ensures.modes;
  yields = c.yields_are_one.ensures.yields;
  findings = c.yields_are_one.ensures.findings;
  yields_sound = c.yields_are_sound.ensures.sound;
  yields_longer = c.yields_are_sound.ensures.longer;
  positions = c.positions_are_one.ensures;
  positions_longer = c.positions_keep_shapes.ensures.longer;
  first = c.first_broken_is_one.ensures;
}

pub returns : goal.returns
returns c = record {
  refusal = λ tree once. one_misuse (laws c) tree once;
  one = λ of other a b once e p q. one_meaning (laws c) a.tree once of other a b refl (sym e) p q;
  apart = λ of a r once. not_misused (laws c) a.tree once of a r refl;
}
