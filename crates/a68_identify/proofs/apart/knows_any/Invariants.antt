use Rattle.std.proofs.Common.{◌≡◌, ◌<◌, ℕ, false, get_or, nat_eq}
use Rattle.std.specs.List.{list_any}
use Rattle.a68_equiv.specs.Classes.{class_of}
use Rattle.a68_equiv.specs.Related.{as_it_stands}
use Rattle.a68_identify.proofs.apart.knows_any.Given as goal

abbrev pub invariant-loop-member : goal.invariant-loop-member
invariant-loop-member l = (k : ℕ) → k < l.member-index → list_any (nat_eq (class_of l.classes.of (as_it_stands (get_or l.members k 0)))) l.met.classes.keys ≡ false
