use Rattle.std.proofs.Common.{arith}
use Rattle.index_core.proofs.Owing.{owed_within, room_made}
use Rattle.index_core.proofs.index.Core.reserve.Goals as goal

pub returns-clause-ok : goal.returns-clause-ok
returns-clause-ok c =
    let within = owed_within c.self.inside.states.items in
    room_made c.reserve.result c.saturating_add.result c.args.writes c.len-owed.result c.reserve.new.self.len c.reserve.new.self.cap _ c.reserve.ensures.ok c.saturating_add.ensures (omega (arith, within, c.len-owed.ensures, c.self.inside.states.ok.0)) c.reserve.new.self.small
