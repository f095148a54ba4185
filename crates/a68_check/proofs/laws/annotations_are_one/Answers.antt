use Rattle.a68_check.proofs.One.{Laws, one_refusal, not_refused, one_program}
use Rattle.a68_check.proofs.laws.annotations_are_one.Goals as goal

laws : goal.After-notes_are_one → Laws
laws c = record {
  shapes = c.shapes_are_one.ensures.one;
  never = c.shapes_are_one.ensures.apart;
  misuse = c.meanings_are_one.ensures.refusal;
  unbroken = c.meanings_are_one.ensures.apart;
  meaning = c.meanings_are_one.ensures.one;
  notes = c.notes_are_one.ensures;
}

pub returns : goal.returns
returns c = record {
  refusal = one_refusal (laws c);
  apart = not_refused (laws c);
  programs = one_program (laws c);
}
