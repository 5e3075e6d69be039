use Rattle.std.proofs.Common.{◌≡◌, ◌≤◌, drop}
use Rattle.std.specs.Prelude.{[], vec_len, vec_capacity}
use Rattle.index_core.specs.Indexes.{parties_of}
use Rattle.pac_index.specs.Kept.{first_view}
use Rattle.pac_index.specs.Callers.{HasCallers, AreNew}
use Rattle.pac_index.proofs.shared.Shared.seat_callers.Given as goal

abbrev pub invariant-loop-number : goal.invariant-loop-number
invariant-loop-number l = (l.all.table_id ≡ l.fn.self.table.shared.table_id) × (l.all.me ≡ (drop l.number (first_view l.fn.self.about), [])) × HasCallers l.fn.self l.number l.callers.items × AreNew l.callers.items × (l.seats.items ≡ drop l.number l.fn.seats.items)
    × (vec_len l.callers ≡ l.number) × (parties_of l.fn.self.about.layout ≤ vec_capacity l.callers)
