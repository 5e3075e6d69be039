use Rattle.std.proofs.Common.{List, ap, ◌∙◌, arith}
use Rattle.cat_history.specs.CrashRounds.{all_settled}
use Rattle.cat_history.specs.Maps.{map_of}
use Rattle.cat_key.specs.declared.Pair.{Pair}
use Rattle.crowd_rounds.proofs.CrashedCrowds.{told-crash}
use Rattle.crowd_rounds.proofs.crowd.recovered.Goals as goal

pub returns : goal.returns
returns c =
    told-crash c.args.image c.in_ok-core.core c.args.records c.settle.new.records c.args.writes c.names_in-names.result c.in_ok-core.ensures
    (c.settle.ensures ∙ ap (λ (pairs : List Pair). all_settled (map_of pairs) c.args.records) c.base.ensures) c.names_in-names.ensures (search arith)
