use Rattle.lone_call_law.proofs.Shapes as lemma
use Rattle.lone_call_law.proofs.Splitting.{splits_come_there}
use Rattle.lone_call_law.proofs.Standing.{shape_tries}
use Rattle.lone_call_law.proofs.laws.lone_shapes.Goals as goal

pub returns-clause-room : goal.returns-clause-room
returns-clause-room c = lemma.room_is_no_split

pub returns-clause-cut : goal.returns-clause-cut
returns-clause-cut c = lemma.cut_is_split

pub returns-clause-full : goal.returns-clause-full
returns-clause-full c = lemma.full_is_no_room

pub returns-clause-no_room : goal.returns-clause-no_room
returns-clause-no_room c = lemma.no_room_is_full

pub returns-clause-tried : goal.returns-clause-tried
returns-clause-tried c = λ w name rest. shape_tries w name rest.list

pub returns-clause-splits : goal.returns-clause-splits
returns-clause-splits c = splits_come_there
