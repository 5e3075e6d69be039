use Rattle.std.proofs.Common.{◌≡◌, ◌≤◌, ◌<◌, ℕ, All, length, get_or, take}
use Rattle.std.specs.FinMap.{entries}
use Rattle.cat_history.specs.Maps.{map_of}
use Rattle.cat_history.specs.Writes.{after}
use Rattle.transcript.specs.Looks.{IsRight}
use Rattle.transcript.specs.declared.looks.Look.{Look}
use Rattle.transcript.proofs.looks.are_right.Given as goal

-- the looks so far are right, and none that is left lies before the writes that are made
abbrev pub invariant-loop-look : goal.invariant-loop-look
invariant-loop-look l = record {
  tree : l.names.entries ≡ entries (after (map_of l.base) l.writes l.done);
  within : l.done ≤ length l.writes;
  earlier : (k : ℕ) (d : Look) → l.look-index ≤ k → k < length l.looks → l.done ≤ (get_or l.looks k d).place;
  right : All (IsRight (after (map_of l.base) l.writes)) (take l.look-index l.looks);
}
