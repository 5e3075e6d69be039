-- What callers know of room.
use Rattle.std.proofs.Common.{◌≡◌, ℕ, zero, suc, ◌+◌, ◌≤◌, true, List, [], ◌∷◌, ◌++◌, refl, sym, subst, arith}
use Rattle.std.specs.Prelude.{All}
use Rattle.std.specs.FinMap.{len}
use Rattle.std.proofs.lemmas.List.Elements.{All-push}
use mathlib.Core.Option.{some, some-injective, some-ne-none}
use lib.ListN.{get_elem?}
use Rattle.cat_history.specs.Maps.{Map}
use Rattle.cat_history.specs.declared.op.Write.{Write}
use Rattle.cat_history.specs.declared.record.Record.{Record}
use Rattle.cat_history.specs.declared.record.Reply.TheVariants.{Full}
use Rattle.shapes.specs.ShapeRounds.{puts_added, FullIsPaid}
use Rattle.caller_rounds.specs.CallerRounds.{Begins, by_caller, HadManyNames, KnowsRoom, RoomFollows, CallerRoom, records_of_all, added_of_all, FullRoundsArePaid}
use Rattle.caller_rounds.proofs.Parting.{all-flat}
use Rattle.caller_rounds.proofs.Calling.{begins-le, after-begins}
use Rattle.caller_rounds.proofs.Rising.{names_rise}

pub added-append : (xs ys : List Record) → puts_added (xs ++ ys) ≡ puts_added xs + puts_added ys
added-append [] ys = omega arith
added-append (x ∷ xs) ys = let rest = added-append xs ys in omega arith

many-stay : (slots : ℕ) (base : Map) (old new : List Write) → Begins old new → HadManyNames slots base old → HadManyNames slots base new
many-stay slots base old new more many = (many.0, let longer = begins-le old new more in let less = many.1 in omega arith, subst (λ (m : Map). slots ≤ len m) (after-begins base old new many.0 more many.1) many.2)

pub room_follows : RoomFollows
room_follows slots base old new noted notes added adds records r knows more keeps one full = record {
  told = let so = knows.told in let all = added-append records (r ∷ []) in omega arith;
  full = All-push (λ (q : Record). q.reply ≡ Full → (notes ≡ true) × HadManyNames slots base new) records r
      (λ k q less is. let had = knows.full k q less is in (keeps had.0, many-stay slots base old new more had.1)) full;
}

added-all : (slots : ℕ) (base : Map) (rooms : List CallerRoom) → ((i : ℕ) (room : CallerRoom) → get_elem? rooms i ≡ some room → KnowsRoom slots base room.seen room.noted room.added room.records)
    → added_of_all rooms ≤ puts_added (by_caller (records_of_all rooms))
added-all slots base [] knows = omega arith
added-all slots base (room ∷ rooms) knows =
    let here = (knows 0 room refl).told in
    let rest = added-all slots base rooms (λ i other at. knows (suc i) other at) in
    let both = added-append room.records (by_caller (records_of_all rooms)) in
    omega arith

room-at : (rooms : List CallerRoom) (i : ℕ) (records : List Record) → get_elem? (records_of_all rooms) i ≡ some records → (room : CallerRoom) × (get_elem? rooms i ≡ some room) × (room.records ≡ records)
room-at [] i records at = absurd (some-ne-none records (sym at))
room-at (room ∷ rooms) zero records at = (room, refl, some-injective room.records records at)
room-at (room ∷ rooms) (suc i) records at = room-at rooms i records at

pub full_rounds_are_paid : FullRoundsArePaid
full_rounds_are_paid slots nodes weighs base calls limit history rooms each round =
    let total = added-all slots base rooms each.knows in (
      total,
      all-flat (FullIsPaid slots nodes (weighs + puts_added (by_caller (records_of_all rooms))) (len base + puts_added (by_caller (records_of_all rooms)))) (records_of_all rooms)
          (λ i records at.
          let room = room-at rooms i records at in
          subst (All (FullIsPaid slots nodes (weighs + puts_added (by_caller (records_of_all rooms))) (len base + puts_added (by_caller (records_of_all rooms))))) room.2
          (λ k q less is.
          let had = (each.knows i room.0 room.1).full k q less is in
          let nodes_paid = each.paid i room.0 room.1 had.0 in
          let many = many-stay slots base room.0.seen history (each.begins i room.0 room.1) had.1 in
          let rises = names_rise base calls limit (by_caller (records_of_all rooms)) history many.0 round many.1 in
          let above = many.2 in
          (omega arith, omega arith))),
    )
