use Rattle.std.proofs.Common.{◌≡◌, ◌∙◌, ℕ, true, refl, sym, Ok}
use Rattle.a68_acts.specs.Members.{member_of}
use Rattle.a68_modes.specs.declared.shape.Shape.{Shape}
use Rattle.a68_values.specs.Content.{Content, is_united, plain, united}
use Rattle.a68_values.specs.declared.plain.Plain.TheVariants as value
use Rattle.a68_exec.proofs.members.member.Goals as goal

-- a value that has a member is united
has_member : (union : Shape) (v : Content) (k : ℕ) → member_of union v ≡ Ok k → is_united v ≡ true
unfolding member_of
has_member union (united m v) k e = refl
has_member union (plain value.Unset) k e = absurd (cc)
has_member union v k e = absurd (cc)

pub to_member-requires : goal.to_member-requires
to_member-requires c = has_member _ c.in-Some.value c.in-Ok.number (sym c.member_of.ensures ∙ c.in-Ok.is)
