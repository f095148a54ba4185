use Rattle.std.proofs.Common.{◌∙◌, sym, subst, true≢false}
use Rattle.a68_rests.specs.Resting.{IsListed}
use Rattle.a68_world.proofs.resting.rouse_behind.Goals as goal

pub returns-then-closed_at : goal.returns-then-closed_at
returns-then-closed_at c = record {
  roused = λ closed. subst (λ k. IsListed c.rouse.new.self k → ⊥) c.forker_of.ensures c.rouse.ensures.roused;
  fewer = c.rouse.ensures.fewer;
  held = c.rouse.ensures.held;
  open_ = c.rouse.ensures.open_;
}

pub returns-else-closed_at : goal.returns-else-closed_at
returns-else-closed_at c = record {
  roused = λ closed. absurd (true≢false (sym closed ∙ sym c.closed_at.ensures ∙ c.if-closed_at.false));
  fewer = λ k e. e;
  held = λ k cell h. h;
  open_ = λ cell h. h;
}
