use Rattle.a68_notes.proofs.Ones.{Laws, one_notes}
use Rattle.a68_notes.proofs.laws.notes_are_one.Goals as goal

laws : goal.After-positions_keep_shapes → Laws
laws c = record {
  paths = c.paths_are_one.ensures;
  ways = c.ways_are_one.ensures;
  below = c.modes_of_declarers_are_below.ensures;
  defined_sound = c.definitions_are_sound.ensures.sound;
  yields_sound = c.yields_are_sound.ensures.sound;
  yields_longer = c.yields_are_sound.ensures.longer;
  positions_sound = c.positions_are_sound.ensures.sound;
  positions_longer = c.positions_keep_shapes.ensures.longer;
}

pub returns : goal.returns
returns c = λ of a x y once is p q. one_notes (laws c) of a once is x y p q
