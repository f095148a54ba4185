use Rattle.std.proofs.Common.{◌≡◌, ℕ, Ok, Err, subst, inl}
use Rattle.a68_modes.specs.declared.modes.ModeStop.{ModeStop}
use Rattle.a68_equiv.specs.Classes.{IsOldNode}
use Rattle.a68_equiv.specs.NewNodes.{AreNewKeys, IsNodeFound}
use Rattle.a68_equiv.specs.declared.interning.Found.{Found}
use Rattle.a68_equiv.proofs.interning.intern.Goals as goal

no_error : (id : ℕ) (stop : ModeStop) → Ok id ≡ Err stop → ⊥
no_error id stop e = cc

pub add-requires-clause-keys : goal.add-requires-clause-keys
add-requires-clause-keys c = subst (λ (found : Found). IsNodeFound c.args.modes.now c.args.classes.now.of c.args.shape found) c.in-Ok-New.field-0-is c.in-Ok-New.ensures.found

pub returns-in-Ok-Old-clause-node : goal.returns-in-Ok-Old-clause-node
returns-in-Ok-Old-clause-node c = inl (subst (λ (found : Found). IsNodeFound c.args.modes.now c.args.classes.now.of c.args.shape found) c.in-Ok-Old.field-0-is c.in-Ok-Old.ensures.found)

pub returns-in-Ok-Old-clause-full : goal.returns-in-Ok-Old-clause-full
returns-in-Ok-Old-clause-full c =
    let old : IsOldNode c.args.modes.now c.args.modes.now c.args.shape c.in-Ok-Old.id = subst (λ (found : Found). IsNodeFound c.args.modes.now c.args.classes.now.of c.args.shape found) c.in-Ok-Old.field-0-is c.in-Ok-Old.ensures.found in
    λ ne. (λ e. absurd (no_error _ _ e), λ w. absurd (w.1 c.in-Ok-Old.id old.there old.equivalent))

pub returns-in-Ok-New-clause-full : goal.returns-in-Ok-New-clause-full
returns-in-Ok-New-clause-full c =
    let keys : AreNewKeys c.args.modes.now c.args.classes.now.of c.args.shape c.in-Ok-New.keys = subst (λ (found : Found). IsNodeFound c.args.modes.now c.args.classes.now.of c.args.shape found) c.in-Ok-New.field-0-is c.in-Ok-New.ensures.found in
    λ ne. (λ e. ((c.add.ensures.full ne).0 e, keys.none), λ w. (c.add.ensures.full ne).1 w.0)
