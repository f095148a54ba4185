use Rattle.std.proofs.Common.{◌≡◌, ◌∙◌, true, sym, ap, refl, subst, arith}
use Rattle.std.specs.Prelude.{slice_get, slice_set, Some}
use Rattle.std.proofs.lemmas.Option.{slice_get-get_or}
use Rattle.a68_world.specs.Kin.{DueBy, awaited_at}
use Rattle.a68_world.specs.Waking.{WakesBy}
use Rattle.a68_world.proofs.Releasing.{awaited_awaits, awaited_within}
use Rattle.a68_world.proofs.waking.wake_by.Goals as goal

pub returns-then-not-due_by : goal.returns-then-not-due_by
returns-then-not-due_by c = λ strands sit long rest are.
    let code = c.args.code.now in
    let seats = c.args.seats.now.items in
    let d = subst (λ l. DueBy c.args.kin.now.items c.due_by.new.kin.items l c.args.n c.due_by.result) c.deref.ensures.value c.due_by.ensures.due code strands sit long rest are in
    (subst (λ b. WakesBy b code c.args.n seats seats true) (sym c.if-not-due_by.true ∙ d.0) (refl, refl), d.1)

pub index_mut-requires : goal.index_mut-requires
index_mut-requires c =
    let a = c.due_by.ensures.awaits c.if-not-due_by.false in
    omega (arith, awaited_within c.args.seats.now.items c.args.n a.0 a.1 (ap (λ l. awaited_at l c.args.n) (sym c.deref.ensures.value) ∙ a.2), c.args.seats.now.ok.0)

pub go_on-requires-clause-awaits : goal.go_on-requires-clause-awaits
go_on-requires-clause-awaits c =
    let a = c.due_by.ensures.awaits c.if-not-due_by.false in
    let seats = c.args.seats.now.items in
    let awaits = ap (λ l. awaited_at l c.args.n) (sym c.deref.ensures.value) ∙ a.2 in
    let x = c.index_mut.result.now in
    let there : slice_get seats c.args.n ≡ Some x = slice_get-get_or seats c.args.n x (awaited_within seats c.args.n a.0 a.1 awaits) ∙ ap (λ y. Some y) (sym c.index_mut.ensures.value) in
    awaited_awaits seats c.args.n a.0 a.1 x awaits there

pub returns : goal.returns
returns c = λ strands sit long rest are.
    let code = c.args.code.now in
    let seats = c.args.seats.now.items in
    let d = subst (λ l. DueBy c.args.kin.now.items c.due_by.new.kin.items l c.args.n c.due_by.result) c.deref.ensures.value c.due_by.ensures.due code strands sit long rest are in
    let a = c.due_by.ensures.awaits c.if-not-due_by.false in
    let awaits = ap (λ l. awaited_at l c.args.n) (sym c.deref.ensures.value) ∙ a.2 in
    let x = c.index_mut.result.now in
    let there : slice_get seats c.args.n ≡ Some x = slice_get-get_or seats c.args.n x (awaited_within seats c.args.n a.0 a.1 awaits) ∙ ap (λ y. Some y) (sym c.index_mut.ensures.value) in
    (subst (λ b. WakesBy b code c.args.n seats (slice_set seats c.args.n c.go_on.new.seat) c.go_on.result) (sym c.if-not-due_by.false ∙ d.0) (x, c.go_on.new.seat, there, c.go_on.ensures, refl), d.1)
