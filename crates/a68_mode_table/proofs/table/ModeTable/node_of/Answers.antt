use Rattle.std.proofs.Common.{◌≡◌, subst, refl, rules}
use Rattle.a68_declare.proofs.Cleaning.{alike_itself}
use Rattle.a68_equiv.proofs.Numbers.{same_mode}
use Rattle.a68_equiv.specs.Related.{as_it_stands}
use Rattle.a68_equiv.specs.Unfolding.{Equivalent}
use Rattle.a68_mode_table.proofs.table.ModeTable.node_of.Goals as goal

pub returns-else-mode : goal.returns-else-mode
returns-else-mode c =
    let same : as_it_stands c.args.mode.id ≡ c.args.mode = same_mode _ _ refl (Prim.search rules) in
    record {
      there = c.requires;
      equivalent = subst (λ m. Equivalent c.args.self.now (as_it_stands c.args.mode.id) m) same (λ n. alike_itself c.args.self.now n (as_it_stands c.args.mode.id));
    }
