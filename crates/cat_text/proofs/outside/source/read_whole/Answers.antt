use Rattle.std.proofs.Common.{[], arith, refl}
use Rattle.std.proofs.KnownBytes.{Consumes-nil}
use Rattle.cat_text.proofs.OutsideLemmas.{Consumes-moved, length-moved, steady-on, ConsumesAtMost-more, Consumes-whole, Consumes-nothing_left, Consumes-longer}
use Rattle.cat_text.proofs.outside.source.read_whole.Goals as goal

pub loop-text-init : goal.loop-text-init
loop-text-init g c = (rw c.new-text.ensures.items (Consumes-nil _), omega arith, omega (arith, c.new-text.ensures.len), c.in-Ok.ensures.len, λ calm. (calm, refl))

pub returns-in_err-taken-clause-takes : goal.returns-in_err-taken-clause-takes
returns-in_err-taken-clause-takes g c =
    ConsumesAtMost-more _ _ _ _ _ _ c.loop-text.invariant.0 c.in_err-taken.ensures.err (omega (arith, c.loop-text.text.ok))

pub returns-then-taken-eq0-clause-whole : goal.returns-then-taken-eq0-clause-whole
returns-then-taken-eq0-clause-whole g c =
    Consumes-whole _ _ _ (Consumes-moved _ _ _ _ _ _ c.loop-text.invariant.0 c.in_ok-taken.ensures.moves)
    (c.in_ok-taken.ensures.ends c.if-taken-eq0.true (omega arith) (omega (arith, c.read_piece.auto.piece, c.deref_mut.ensures.len)))

pub returns-then-taken-eq0-clause-nothing_left : goal.returns-then-taken-eq0-clause-nothing_left
returns-then-taken-eq0-clause-nothing_left g c =
    Consumes-nothing_left _ _ _ (Consumes-moved _ _ _ _ _ _ c.loop-text.invariant.0 c.in_ok-taken.ensures.moves)
    (c.in_ok-taken.ensures.ends c.if-taken-eq0.true (omega arith) (omega (arith, c.read_piece.auto.piece, c.deref_mut.ensures.len)))

pub returns-then-taken-eq0-clause-takes : goal.returns-then-taken-eq0-clause-takes
returns-then-taken-eq0-clause-takes g c =
    let moved = c.in_ok-taken.ensures.moves in (
      c.read_piece.new.text.items,
      Consumes-moved _ _ _ _ _ _ c.loop-text.invariant.0 moved,
      omega (arith, length-moved _ _ _ _ _ moved, c.if-taken-eq0.true, c.loop-text.text.ok),
    )

pub loop-text-preserved : goal.loop-text-preserved
loop-text-preserved g c =
    let moved = c.in_ok-taken.ensures.moves in (
      Consumes-moved _ _ _ _ _ _ c.loop-text.invariant.0 moved,
      omega (arith, c.in_ok-taken.ensures.never_falls, c.loop-text.invariant.1),
      omega (arith, length-moved _ _ _ _ _ moved, c.in_ok-taken.ensures.within, c.loop-text.text.ok, c.read_piece.new.text.ok),
      c.loop-text.invariant.3,
      steady-on _ _ _ _ _ _ c.loop-text.invariant.4 c.in_ok-taken.ensures.stays_steady,
    )

pub returns-clause-too_long : goal.returns-clause-too_long
returns-clause-too_long g c = λ _. Consumes-longer _ _ _ _ c.loop-text.invariant.0 (omega (arith, c.loop-text.text.ok))

pub returns-in_err-taken-clause-stays_steady : goal.returns-in_err-taken-clause-stays_steady
returns-in_err-taken-clause-stays_steady g c = steady-on _ _ _ _ _ _ c.loop-text.invariant.4 c.in_err-taken.ensures.stays_steady

pub returns-then-taken-eq0-clause-stays_steady : goal.returns-then-taken-eq0-clause-stays_steady
returns-then-taken-eq0-clause-stays_steady g c = steady-on _ _ _ _ _ _ c.loop-text.invariant.4 c.in_ok-taken.ensures.stays_steady

pub returns-clause-never_falls : goal.returns-clause-never_falls
returns-clause-never_falls g c = c.loop-text.invariant.1

pub returns-clause-stays_steady : goal.returns-clause-stays_steady
returns-clause-stays_steady g c = c.loop-text.invariant.4

pub returns-clause-takes : goal.returns-clause-takes
returns-clause-takes g c = (c.loop-text.text.items, c.loop-text.invariant.0, omega (arith, c.loop-text.invariant.2))

pub returns-in_err-taken-clause-never_falls : goal.returns-in_err-taken-clause-never_falls
returns-in_err-taken-clause-never_falls g c = omega (arith, c.in_err-taken.ensures.never_falls, c.loop-text.invariant.1)

pub returns-then-taken-eq0-clause-never_falls : goal.returns-then-taken-eq0-clause-never_falls
returns-then-taken-eq0-clause-never_falls g c = omega (arith, c.in_ok-taken.ensures.never_falls, c.loop-text.invariant.1)

pub returns-then-taken-eq0-clause-short_enough : goal.returns-then-taken-eq0-clause-short_enough
returns-then-taken-eq0-clause-short_enough g c =
    let moved = c.in_ok-taken.ensures.moves in omega (arith, length-moved _ _ _ _ _ moved, c.if-taken-eq0.true, c.len.ensures, c.loop-text-test.true)

pub loop-text-smaller : goal.loop-text-smaller
loop-text-smaller g c =
    let moved = c.in_ok-taken.ensures.moves in omega (arith, length-moved _ _ _ _ _ moved, c.if-taken-eq0.false, c.len.ensures, c.loop-text-test.true)

pub returns-in_default-clause-takes : goal.returns-in_default-clause-takes
returns-in_default-clause-takes g c = ([], Consumes-nil _, omega arith)
