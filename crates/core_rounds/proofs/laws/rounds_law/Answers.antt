use Rattle.core_rounds.proofs.Played.{each_is_reported, more_pays, only_round_is_legal, played_are_paid, rounds_go_on}
use Rattle.core_rounds.proofs.laws.rounds_law.Goals as goal

pub returns : goal.returns
returns c = record { go_on = rounds_go_on; more = more_pays; paid = played_are_paid; reported = each_is_reported; only = only_round_is_legal }
