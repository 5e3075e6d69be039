use Rattle.std.proofs.Common.{◌<◌, List, [], ◌∷◌, ◌++◌, length, sym, ap, ◌∙◌, arith}
use Rattle.std.proofs.lemmas.List.{append_assoc}
use Rattle.pm_words.specs.Locations.{Clock}
use Rattle.pm_words.proofs.Apart.{addresses_within}
use Rattle.pac_index.specs.declared.caller.Caller.{Caller}
use Rattle.pac_index.specs.Callers.{IsCallerOf}
use Rattle.pac_index.proofs.Seats.{enters, meets}
use Rattle.pac_index.proofs.Gathered.{last_there}
use Rattle.pac_index.proofs.shared.Shared.gathered.Goals as goal

pub load_new_seat-all-requires : goal.load_new_seat-all-requires
load_new_seat-all-requires c =
    let s = c.args.self.now in
    let some_words : 0 < s.table.shared.table_id.words = let w = addresses_within s.about.layout Clock tt in let n = s.words in omega arith in
    (some_words, enters s.table.shared.key s.table.shared.table_id.slots 0)

pub join_seat-requires : goal.join_seat-requires
join_seat-requires c =
    let s = c.args.self.now in
    let some_words : 0 < s.table.shared.table_id.words = let w = addresses_within s.about.layout Clock tt in let n = s.words in omega arith in
    let inv = c.loop-caller.invariant in
    let seat = c.in-Some.caller.seat in
    let one : IsCallerOf s c.in-Some.caller = c.requires (length c.pop.new.self.items) c.in-Some.caller (last_there c.pop.new.self.items c.in-Some.caller inv.0 c.loop-caller.callers.items c.args.callers.items c.in-Some.ensures.items inv.1) in
    (one.table, inv.2, ap (λ q. q.1) inv.3, some_words, meets s.table.shared.key seat.id seat.me.0 c.loop-caller.all.id c.loop-caller.all.me.0)

pub loop-caller-preserved : goal.loop-caller-preserved
loop-caller-preserved c =
    let s = c.args.self.now in
    let inv = c.loop-caller.invariant in
    let seat = c.in-Some.caller.seat in
    let one : IsCallerOf s c.in-Some.caller = c.requires (length c.pop.new.self.items) c.in-Some.caller (last_there c.pop.new.self.items c.in-Some.caller inv.0 c.loop-caller.callers.items c.args.callers.items c.in-Some.ensures.items inv.1) in
    let joined = c.join_seat.ensures in (
      c.in-Some.caller ∷ inv.0,
      sym (append_assoc c.pop.new.self.items (c.in-Some.caller ∷ []) inv.0) ∙ ap (λ (l : List Caller). l ++ inv.0) (sym c.in-Some.ensures.items) ∙ inv.1,
      joined.0 ∙ one.table,
      joined.2 ∙ (λ k. ((one.lone k).0 ++ (inv.3 k).0, (one.lone k).1)),
    )
