use Rattle.index_law.proofs.GoneCounts.{step_counts_gone}
use Rattle.index_law.proofs.Holding.{no_free_weighs}
use Rattle.index_law.proofs.LoneCuts.{step_splits, step_keeps_put, step_keeps_del, switch_is_put, no_switch_is_put, switch_is_delete, no_switch_is_delete, put_ends, put_ends_full, del_ends}
use Rattle.index_law.proofs.MergedOnce.{step_merges_once}
use Rattle.index_law.proofs.Meeting.{meets_crowded, holds_alone}
use Rattle.index_law.proofs.Sizes.{no_free_is_no_room, no_free_is_each, free_is_room}
use Rattle.index_law.proofs.laws.lone_law.Goals as goal

pub returns : goal.returns
returns c = record {
  splits = step_splits;
  put = switch_is_put;
  put_alone = no_switch_is_put;
  put_stands = step_keeps_put;
  put_ends = put_ends;
  put_full = put_ends_full;
  del = switch_is_delete;
  del_alone = no_switch_is_delete;
  once = step_merges_once;
  del_stands = step_keeps_del;
  del_ends = del_ends;
  crowded = meets_crowded;
  alone = holds_alone;
  gone = step_counts_gone;
  no_room = no_free_is_no_room;
  each = no_free_is_each;
  full_weighs = no_free_weighs;
  room = free_is_room;
}
