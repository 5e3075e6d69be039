use Rattle.lone_call_law.proofs.Rooms.{added_had_room, refused_was_full, split_was_full, cut_has_room, one_split_only, full_is_first}
use Rattle.lone_call_law.proofs.laws.rooms.Goals as goal

pub returns-clause-added : goal.returns-clause-added
returns-clause-added c = added_had_room

pub returns-clause-refused : goal.returns-clause-refused
returns-clause-refused c = refused_was_full

pub returns-clause-split : goal.returns-clause-split
returns-clause-split c = split_was_full

pub returns-clause-cut : goal.returns-clause-cut
returns-clause-cut c = cut_has_room

pub returns-clause-one : goal.returns-clause-one
returns-clause-one c = one_split_only

pub returns-clause-first : goal.returns-clause-first
returns-clause-first c = full_is_first
