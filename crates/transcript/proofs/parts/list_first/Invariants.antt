use Rattle.std.proofs.Common.{◌≡◌, ◌≤◌, ◌<◌, ℕ, All, length, map, get_or, take}
use Rattle.std.specs.FinMap.{entries}
use Rattle.cat_history.specs.Maps.{map_of}
use Rattle.cat_history.specs.Writes.{after}
use Rattle.transcript.specs.Chains.{ListsFirst, seen}
use Rattle.transcript.specs.declared.parts.PartLook.{PartLook}
use Rattle.transcript.proofs.parts.list_first.Given as goal

-- the looks so far list what the maps have, and none that is left lies before the writes that are made
abbrev pub invariant-loop-look : goal.invariant-loop-look
invariant-loop-look l = record {
  tree : l.names.entries ≡ entries (after (map_of l.base) l.writes l.done);
  within : l.done ≤ length l.writes;
  earlier : (k : ℕ) (d : PartLook) → l.look-index ≤ k → k < length l.looks → l.done ≤ (get_or l.looks k d).part.now.place;
  first : All (ListsFirst (after (map_of l.base) l.writes)) (map seen (take l.look-index l.looks));
}
