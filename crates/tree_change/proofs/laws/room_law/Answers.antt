use Rattle.tree_change.proofs.PlacesExact.{rooms_end, rooms_are_exact, find_room_stays, find_room_is_exact}
use Rattle.tree_change.proofs.AddsBegin.{add_begins, quiet_begins}
use Rattle.tree_change.proofs.laws.room_law.Goals as goal

pub returns : goal.returns
returns c = record {
  ends = rooms_end;
  exact = rooms_are_exact;
  stays = find_room_stays;
  finds = find_room_is_exact;
  adds = add_begins;
  quiet = quiet_begins;
}
