use Rattle.std.proofs.Common.{refl}
use Rattle.index_core.proofs.Busy.{still_is_idle}
use Rattle.index_core.proofs.index.Core.begin_turn.Goals as goal

pub unreachable-requires : goal.unreachable-requires
unreachable-requires c =
    absurd (still_is_idle c.args.self.now c.args.party c.requires.still (c.in_default.ensures.in_flight.0 refl))
