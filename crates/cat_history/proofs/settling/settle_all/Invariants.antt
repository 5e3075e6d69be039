use Rattle.std.proofs.Common.{◌≡◌, ℕ, ◌<◌, ◌≤◌, length, get_or}
use Rattle.cat_history.specs.Maps.{map_of}
use Rattle.cat_history.specs.CrashRounds.{settled}
use Rattle.cat_history.specs.declared.record.Record.{Record}
use Rattle.cat_history.proofs.settling.settle_all.Given as goal

abbrev pub invariant-loop-record : goal.invariant-loop-record
invariant-loop-record l = record {
  long : length l.records ≡ length l.fn.records;
  settled : (k : ℕ) → k < l.record-index → (d e : Record) → get_or l.records k d ≡ settled (map_of l.pairs) (get_or l.fn.records k e);
  later : (k : ℕ) → l.record-index ≤ k → (d : Record) → get_or l.records k d ≡ get_or l.fn.records k d;
}
