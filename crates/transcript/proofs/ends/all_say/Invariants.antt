use Rattle.std.proofs.Common.{◌≡◌, All, take}
use Rattle.std.specs.FinMap.{entries}
use Rattle.cat_history.specs.CrashRounds.{ReplySays}
use Rattle.cat_history.specs.Maps.{Map}
use Rattle.cat_history.specs.declared.record.Record.{Record}
use Rattle.transcript.proofs.ends.all_say.Given as goal

-- the replies so far say what the map shows
abbrev pub invariant-loop-record : goal.invariant-loop-record
invariant-loop-record l = (m : Map) → l.names.entries ≡ entries m → All (λ (r : Record). ReplySays m r.op r.reply) (take l.record-index l.told)
