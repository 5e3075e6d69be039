-- The updater's turns, one after another.
use Rattle.std.proofs.Common.{ℕ}
use Rattle.pac_index.specs.declared.caller.Caller.{Caller}
use Rattle.pac_index.specs.declared.rule.Member.{Member}
use Rattle.pac_index.specs.declared.tried.TriedTurn.{TriedTurn}
use Rattle.pac_index.specs.Callers.{seen_by}
use Rattle.pac_index.specs.Ends.{HasOnlyRead}
use Rattle.pac_index.specs.Outcomes.{TurnTryComesTo}
use Rattle.pac_index.proofs.Repeating.{back_trans, tried_reads}

pub turns-on : (parties : ℕ) (t : TriedTurn) (u : Member) (before after : Caller) → HasOnlyRead u (seen_by before) → TurnTryComesTo parties before t after → HasOnlyRead u (seen_by after)
turns-on parties t u before after back is = back_trans u (seen_by before) (seen_by after) back (tried_reads parties before after t is)
