use Rattle.node_ops.proofs.Endings.{turns_keep_place, last_counts_nothing, placed_is_in_time}
use Rattle.node_ops.proofs.Endings.{done_is_counted, spent_is_late, refused_is_uncounted, no_free_is_of_puts}
use Rattle.node_ops.proofs.Landings.{turns_land}
use Rattle.node_ops.proofs.DelHeeding.{dels_heed}
use Rattle.node_ops.proofs.laws.answer_law.Goals as goal

pub returns-clause-kept : goal.returns-clause-kept
returns-clause-kept c = turns_keep_place

pub returns-clause-last : goal.returns-clause-last
returns-clause-last c = last_counts_nothing

pub returns-clause-in_time : goal.returns-clause-in_time
returns-clause-in_time c = placed_is_in_time

pub returns-clause-done : goal.returns-clause-done
returns-clause-done c = done_is_counted

pub returns-clause-lands : goal.returns-clause-lands
returns-clause-lands c = turns_land

pub returns-clause-spent : goal.returns-clause-spent
returns-clause-spent c = spent_is_late

pub returns-clause-uncounted : goal.returns-clause-uncounted
returns-clause-uncounted c = refused_is_uncounted

pub returns-clause-no_free : goal.returns-clause-no_free
returns-clause-no_free c = no_free_is_of_puts

pub returns-clause-heeds : goal.returns-clause-heeds
returns-clause-heeds c = dels_heed
