use Rattle.a68_world.proofs.resting.leave_by.Goals as goal

pub returns-in-None : goal.returns-in-None
returns-in-None c = record {
  roused = c.rouse.ensures.roused;
  fewer = c.rouse.ensures.fewer;
  held = λ k cell ne h. c.rouse.ensures.held k cell h;
  open_ = c.rouse.ensures.open_;
}
