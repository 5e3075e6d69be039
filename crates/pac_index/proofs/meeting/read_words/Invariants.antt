use Rattle.std.proofs.Common.{◌≡◌, ◌≤◌, take}
use Rattle.std.specs.Prelude.{vec_len, vec_capacity}
use Rattle.std.specs.Mem.Slots.{slots_items}
use Rattle.pac_index.proofs.meeting.read_words.Given as goal

abbrev pub invariant-loop-address : goal.invariant-loop-address
invariant-loop-address l = (l.words.items ≡ take l.address (slots_items l.fn.closed.words)) × (vec_len l.words ≡ l.address) × (l.fn.count ≤ vec_capacity l.words)
