use Rattle.std.proofs.Common.{◌≡◌, ◌∙◌, true, false, refl, sym, ap, subst, arith}
use Rattle.std.specs.Prelude.{Some, slice_get, slice_set, if◌then◌else◌}
use Rattle.std.specs.Vec.{with_item}
use Rattle.a68_strand.specs.Strands.{is_spent}
use Rattle.a68_world.specs.Inside.{run_of}
use Rattle.a68_world.specs.Leases.{IsReplay}
use Rattle.a68_world.specs.Run.{IsNumber, Run}
use Rattle.a68_world.specs.declared.seat.Seat.TheVariants as seat
use Rattle.a68_world.specs.declared.status.StrandState.TheVariants as status
use Rattle.a68_world.proofs.Returning.{back_on, back_over, back_spent, few_given, is_there_some, rests_given}
use Rattle.a68_world.proofs.Doing.{seat_there}
use Rattle.a68_world.proofs.Outcomes.{seat_lent}
use Rattle.a68_world.proofs.Places.{is_within}
use Rattle.a68_world.proofs.Standing.{none_from}
use Rattle.a68_world.proofs.world.World.back.Goals as goal

pub index_mut-requires : goal.index_mut-requires
index_mut-requires c =
    let s = c.self.inside in
    let strand = c.args.strand in
    let lent : IsNumber (run_of s) strand.number status.Lent = subst (λ (r : Run). IsNumber r strand.number status.Lent) (sym c.self.view_is) c.requires.lent in
    let t = seat_lent s.seats.items strand.number lent in
    omega (arith, is_within s.seats.items strand.number (seat.Away false t.0) t.1, c.number-number.ensures)

pub index_mut-requires-2 : goal.index_mut-requires-2
index_mut-requires-2 c =
    let s = c.self.inside in
    let strand = c.args.strand in
    let lent : IsNumber (run_of s) strand.number status.Lent = subst (λ (r : Run). IsNumber r strand.number status.Lent) (sym c.self.view_is) c.requires.lent in
    let t = seat_lent s.seats.items strand.number lent in
    omega (arith, is_within s.seats.items strand.number (seat.Away false t.0) t.1, c.number-number.ensures)

pub invariant_of-self : goal.invariant_of-self
invariant_of-self c =
    let s = c.self.inside in
    let strand = c.args.strand in
    let n = c.number-number.result in
    let lent : IsNumber (run_of s) strand.number status.Lent = subst (λ (r : Run). IsNumber r strand.number status.Lent) (sym c.self.view_is) c.requires.lent in
    let t = seat_lent s.seats.items strand.number lent in
    let x = c.index_mut.result.now in
    let there : slice_get s.seats.items n ≡ Some x = seat_there s.seats.items s.seats.items n x refl (omega (arith, is_within s.seats.items strand.number (seat.Away false t.0) t.1, c.number-number.ensures)) c.index_mut.ensures.value in
    (back_spent s strand n x c.lose.new.seat (with_item s.seats n c.lose.new.seat) c.lost_by_spent-self-inside.result c.spent.result c.self.invariant c.number-number.ensures lent there c.lose.ensures refl
    (c.lost_by_spent-self-inside.ensures ∙ ap (λ b. if b then s.lost else true) c.is_some.ensures) c.if-spent.true).0

pub returns-then-spent : goal.returns-then-spent
returns-then-spent c =
    let s = c.self.inside in
    let strand = c.args.strand in
    let n = c.number-number.result in
    let lent : IsNumber (run_of s) strand.number status.Lent = subst (λ (r : Run). IsNumber r strand.number status.Lent) (sym c.self.view_is) c.requires.lent in
    let t = seat_lent s.seats.items strand.number lent in
    let x = c.index_mut.result.now in
    let there : slice_get s.seats.items n ≡ Some x = seat_there s.seats.items s.seats.items n x refl (omega (arith, is_within s.seats.items strand.number (seat.Away false t.0) t.1, c.number-number.ensures)) c.index_mut.ensures.value in
    rw (← c.self.view_is, ← c.spent.ensures) (back_spent s strand n x c.lose.new.seat (with_item s.seats n c.lose.new.seat) c.lost_by_spent-self-inside.result c.spent.result c.self.invariant c.number-number.ensures lent there c.lose.ensures refl
    (c.lost_by_spent-self-inside.ensures ∙ ap (λ b. if b then s.lost else true) c.is_some.ensures) c.if-spent.true).1

pub invariant_of-self-then-is_some : goal.invariant_of-self-then-is_some
invariant_of-self-then-is_some c =
    let s = c.self.inside in
    let strand = c.args.strand in
    let n = c.number-number.result in
    let lent : IsNumber (run_of s) strand.number status.Lent = subst (λ (r : Run). IsNumber r strand.number status.Lent) (sym c.self.view_is) c.requires.lent in
    let t = seat_lent s.seats.items strand.number lent in
    let x = c.index_mut-2.result.now in
    let there : slice_get s.seats.items n ≡ Some x = seat_there s.seats.items s.seats.items n x refl (omega (arith, is_within s.seats.items strand.number (seat.Away false t.0) t.1, c.number-number.ensures)) c.index_mut-2.ensures.value in
    let unspent : is_spent strand.about.ask ≡ false = sym c.spent.ensures ∙ c.if-spent.false in
    let replay : IsReplay s.code s.journal.items strand = subst (λ (r : Run). IsReplay r.code r.entries strand) (sym c.self.view_is) (c.requires.replay unspent) in
    let e = is_there_some s.end c.is_some-2.result c.is_some-2.ensures c.if-is_some.true in
    (back_over s strand n x (slice_set s.seats.items n c.put_back.new.seat) c.wake_at-found.new.seats c.wake_at-found.result c.self.invariant c.number-number.ensures lent there replay (ap (slice_set s.seats.items n) c.put_back.ensures)
    c.wake_at-found.ensures e.0 (is_spent strand.about.ask) e.1 unspent).0

pub returns-then-is_some : goal.returns-then-is_some
returns-then-is_some c =
    let s = c.self.inside in
    let strand = c.args.strand in
    let n = c.number-number.result in
    let lent : IsNumber (run_of s) strand.number status.Lent = subst (λ (r : Run). IsNumber r strand.number status.Lent) (sym c.self.view_is) c.requires.lent in
    let t = seat_lent s.seats.items strand.number lent in
    let x = c.index_mut-2.result.now in
    let there : slice_get s.seats.items n ≡ Some x = seat_there s.seats.items s.seats.items n x refl (omega (arith, is_within s.seats.items strand.number (seat.Away false t.0) t.1, c.number-number.ensures)) c.index_mut-2.ensures.value in
    let unspent : is_spent strand.about.ask ≡ false = sym c.spent.ensures ∙ c.if-spent.false in
    let replay : IsReplay s.code s.journal.items strand = subst (λ (r : Run). IsReplay r.code r.entries strand) (sym c.self.view_is) (c.requires.replay unspent) in
    let e = is_there_some s.end c.is_some-2.result c.is_some-2.ensures c.if-is_some.true in
    rw (← c.self.view_is) (back_over s strand n x (slice_set s.seats.items n c.put_back.new.seat) c.wake_at-found.new.seats c.wake_at-found.result c.self.invariant c.number-number.ensures lent there replay (ap (slice_set s.seats.items n) c.put_back.ensures)
    c.wake_at-found.ensures e.0 (is_spent strand.about.ask) e.1 unspent).1

pub end_behind-end-requires : goal.end_behind-end-requires
end_behind-end-requires c =
    let s = c.self.inside in
    let strand = c.args.strand in
    let n = c.number-number.result in
    let lent : IsNumber (run_of s) strand.number status.Lent = subst (λ (r : Run). IsNumber r strand.number status.Lent) (sym c.self.view_is) c.requires.lent in
    let t = seat_lent s.seats.items strand.number lent in
    let x = c.index_mut-2.result.now in
    let there : slice_get s.seats.items n ≡ Some x = seat_there s.seats.items s.seats.items n x refl (omega (arith, is_within s.seats.items strand.number (seat.Away false t.0) t.1, c.number-number.ensures)) c.index_mut-2.ensures.value in
    let unspent : is_spent strand.about.ask ≡ false = sym c.spent.ensures ∙ c.if-spent.false in
    let replay : IsReplay s.code s.journal.items strand = subst (λ (r : Run). IsReplay r.code r.entries strand) (sym c.self.view_is) (c.requires.replay unspent) in
    record {
      few = rw c.deref.ensures.value (few_given s strand n x (slice_set s.seats.items n c.put_back.new.seat) c.wake_at-found.new.seats c.wake_at-found.result c.self.invariant c.number-number.ensures lent there replay
          (ap (slice_set s.seats.items n) c.put_back.ensures) c.wake_at-found.ensures);
      rests = rw c.deref.ensures.value (rests_given s strand n x (slice_set s.seats.items n c.put_back.new.seat) c.wake_at-found.new.seats c.wake_at-found.result c.self.invariant c.number-number.ensures lent there replay
          (ap (slice_set s.seats.items n) c.put_back.ensures) c.wake_at-found.ensures);
    }

pub invariant_of-self-2 : goal.invariant_of-self-2
invariant_of-self-2 c =
    let s = c.self.inside in
    let strand = c.args.strand in
    let n = c.number-number.result in
    let lent : IsNumber (run_of s) strand.number status.Lent = subst (λ (r : Run). IsNumber r strand.number status.Lent) (sym c.self.view_is) c.requires.lent in
    let t = seat_lent s.seats.items strand.number lent in
    let x = c.index_mut-2.result.now in
    let there : slice_get s.seats.items n ≡ Some x = seat_there s.seats.items s.seats.items n x refl (omega (arith, is_within s.seats.items strand.number (seat.Away false t.0) t.1, c.number-number.ensures)) c.index_mut-2.ensures.value in
    let unspent : is_spent strand.about.ask ≡ false = sym c.spent.ensures ∙ c.if-spent.false in
    let replay : IsReplay s.code s.journal.items strand = subst (λ (r : Run). IsReplay r.code r.entries strand) (sym c.self.view_is) (c.requires.replay unspent) in
    let none = none_from s.end c.is_some-2.result c.is_some-2.ensures c.if-is_some.false in
    (back_on s strand n x (slice_set s.seats.items n c.put_back.new.seat) c.wake_at-found.new.seats c.wake_at-found.result c.self.invariant c.number-number.ensures lent there replay (ap (slice_set s.seats.items n) c.put_back.ensures)
    c.wake_at-found.ensures c.deref.result.now c.end_behind-end.result c.lost_behind-self-inside.result (is_spent strand.about.ask) none c.deref.ensures.value c.end_behind-end.ensures
    (c.lost_behind-self-inside.ensures ∙ ap (λ b. if b then false else if c.wake_at-found.result then s.lost else true) c.is_some-3.ensures) unspent).0

pub returns : goal.returns
returns c =
    let s = c.self.inside in
    let strand = c.args.strand in
    let n = c.number-number.result in
    let lent : IsNumber (run_of s) strand.number status.Lent = subst (λ (r : Run). IsNumber r strand.number status.Lent) (sym c.self.view_is) c.requires.lent in
    let t = seat_lent s.seats.items strand.number lent in
    let x = c.index_mut-2.result.now in
    let there : slice_get s.seats.items n ≡ Some x = seat_there s.seats.items s.seats.items n x refl (omega (arith, is_within s.seats.items strand.number (seat.Away false t.0) t.1, c.number-number.ensures)) c.index_mut-2.ensures.value in
    let unspent : is_spent strand.about.ask ≡ false = sym c.spent.ensures ∙ c.if-spent.false in
    let replay : IsReplay s.code s.journal.items strand = subst (λ (r : Run). IsReplay r.code r.entries strand) (sym c.self.view_is) (c.requires.replay unspent) in
    let none = none_from s.end c.is_some-2.result c.is_some-2.ensures c.if-is_some.false in
    rw (← c.self.view_is) (back_on s strand n x (slice_set s.seats.items n c.put_back.new.seat) c.wake_at-found.new.seats c.wake_at-found.result c.self.invariant c.number-number.ensures lent there replay (ap (slice_set s.seats.items n) c.put_back.ensures)
    c.wake_at-found.ensures c.deref.result.now c.end_behind-end.result c.lost_behind-self-inside.result (is_spent strand.about.ask) none c.deref.ensures.value c.end_behind-end.ensures
    (c.lost_behind-self-inside.ensures ∙ ap (λ b. if b then false else if c.wake_at-found.result then s.lost else true) c.is_some-3.ensures) unspent).1
