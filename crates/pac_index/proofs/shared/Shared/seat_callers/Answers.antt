use Rattle.std.proofs.Common.{◌≡◌, ℕ, ◌<◌, ◌≤◌, ◌+◌, List, [], drop, suc, sym, ap, ◌∙◌, subst, arith, refl}
use Rattle.std.specs.Prelude.{None}
use Rattle.pm_words.specs.Locations.{Clock}
use Rattle.pm_words.proofs.Apart.{addresses_within}
use Rattle.index_core.specs.Indexes.{parties_of}
use Rattle.pac_index.specs.declared.rule.Member.{Member}
use Rattle.pac_index.specs.declared.caller.Caller.{Caller}
use Rattle.pac_index.specs.Kept.{first_view, first_of, rest_of}
use Rattle.pac_index.specs.Callers.{HasCallers, AreNew}
use Rattle.pac_index.proofs.Seats.{divides}
use Rattle.pac_index.proofs.Handing.{handed, left_first, next_seat, fewer_seats}
use Rattle.epochs.specs.declared.rule.PinMember.{PinMember}
use Rattle.pac_index.proofs.shared.Shared.seat_callers.Goals as goal

pub split_seat-seat-requires : goal.split_seat-seat-requires
split_seat-seat-requires c =
    let s = c.args.self.now in
    let some_words : 0 < s.table.shared.table_id.words = let w = addresses_within s.about.layout Clock tt in let n = s.words in omega arith in
    (c.loop-number.invariant.0, some_words, divides s.table.shared.key c.loop-number.all.id c.loop-number.all.me.0)

pub loop-number-preserved : goal.loop-number-preserved
loop-number-preserved c =
    let s = c.args.self.now in
    let i = c.loop-number.number in
    let inv = c.loop-number.invariant in
    let count = c.callers-count.ensures in
    let less : i < parties_of s.about.layout = omega (arith, c.loop-number-test.true, count) in
    let split = c.split_seat-seat.ensures in
    let pins = c.remove-pins.result in
    let d : Caller = record { seat = c.split_seat-seat.result; pins = pins; number = i; index = 0; left = None; cut = None; kept = c.new-kept.result; rooms = c.new-rooms.result } in
    let next = next_seat c.args.seats.items i c.loop-number.seats.items pins inv.4 (let count' = c.requires.seats.0.count in let parties = s.parties in omega arith) c.remove-pins.ensures.value in
    let hands = handed s i c.loop-number.callers.items d less inv.2 inv.3 (split.3 ∙ inv.0) (split.4 ∙ ap (λ (v : List Member). (first_of v, [])) (ap (λ q. q.0) inv.1)) refl refl refl refl c.new-kept.ensures.items (c.requires.seats.0.each i pins next) (ap (λ (m : PinMember). m.pin) (c.requires.seats.1 i pins next)) (c.requires.seats.0.numbers i pins next) in (
      split.0 ∙ inv.0,
      split.2 ∙ (λ k. (rest_of (inv.1 k).0, (inv.1 k).1)) ∙ ap (λ (v : List Member). (v, [])) (left_first s i less ∙ ap (λ (n : ℕ). drop n (first_view s.about)) (let e : suc i ≡ i + 1 = omega arith in e)),
      subst (HasCallers s (i + 1)) (sym c.push_reserved.ensures.items) hands.0,
      subst AreNew (sym c.push_reserved.ensures.items) hands.1,
      c.remove-pins.ensures.items ∙ fewer_seats c.args.seats.items i c.loop-number.seats.items inv.4,
      c.push_reserved.ensures.len ∙ ap (λ (n : ℕ). n + 1) inv.5,
      subst (λ (n : ℕ). parties_of s.about.layout ≤ n) (sym c.push_reserved.ensures.capacity) inv.6,
    )
