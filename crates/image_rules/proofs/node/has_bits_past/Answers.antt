use Rattle.std.proofs.Common.{◌^◌}
use Rattle.std.proofs.lemmas.Nat.{pow_pos}
use Rattle.image_rules.proofs.NodeLemmas.{past_slots}
use Rattle.image_rules.proofs.node.has_bits_past.Goals as goal

pub returns-then-slots-lt-MAX_SLOTS : goal.returns-then-slots-lt-MAX_SLOTS
returns-then-slots-lt-MAX_SLOTS c = past_slots c.args.bitmap (2 ^ c.args.slots) (pow_pos c.args.slots)
