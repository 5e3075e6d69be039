-- A turn of the updater that is stepped with nothing else in flight ends as a whole one does.
use Rattle.std.proofs.Common.{ℕ, ◌≤◌, ◌<◌, ◌^◌, refl}
use Rattle.index_core.specs.Indexes.{Index, IsIndex}
use Rattle.index_core.specs.Lone.{IsQuiet}
use Rattle.index_core.specs.SteppedTurns.{TurnsSince, SteppedTurnIsWhole}
use Rattle.index_core.specs.SteppedTurns.TurnsSince.{begins, goes_on}
use Rattle.index_core.proofs.LoneTurning.{LoneTurn, lone_turn_begins, lone_turn_goes, lone_turn_ends}
use Rattle.index_core.proofs.Retrying.{turned_short}

module _ (old : Index) (party stamp release : ℕ) (is : IsIndex old) (quiet : IsQuiet old) (some : 1 ≤ stamp) (small : stamp < 2 ^ 64) where
  -- it stands where a lone turn stands
  stands-since : (s : Index) → TurnsSince old party stamp release s → LoneTurn old s party stamp release
  stands-since s (begins starts index) = lone_turn_begins old s party stamp release is quiet some small starts index
  stands-since s (goes_on {s = before} since step index) =
      (lone_turn_goes old before s party stamp release (stands-since before since) _ step index refl).0

pub stepped_turn_is_whole : SteppedTurnIsWhole
stepped_turn_is_whole old s new party stamp release told is quiet some small since step index =
    let ended = lone_turn_ends old s new party stamp release (stands-since old party stamp release is quiet some small s since) _ step index told refl in
    record {
      answer = ended.0;
      is = ended.1;
      turns = ended.2;
      short = turned_short old new stamp release ended.0 ended.2 index ended.3;
      quiet = ended.3;
    }
