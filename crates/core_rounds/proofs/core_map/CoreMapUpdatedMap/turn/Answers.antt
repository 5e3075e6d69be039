use Rattle.core_rounds.proofs.CoreMaps.{same_counted, same_of, stays_run, turned_same, turned_stays, uses_of}
use Rattle.core_rounds.proofs.Using.{same-then}
use Rattle.core_rounds.proofs.core_map.CoreMapUpdatedMap.turn.Goals as goal

pub invariant_of-self : goal.invariant_of-self
invariant_of-self g c =
    let turns = c.turn_alone.ensures.turns in
    let stays = turned_stays c.shorten.new.core c.turn_alone.new.self c.turn_alone.result turns c.shorten.ensures.quiet c.turn_alone.ensures.index c.turn_alone.ensures.quiet in (
      same_counted c.self.inside.core c.turn_alone.new.self c.self.inside.names c.self.invariant.0 stays
          (same-then _ _ _ c.shorten.ensures.same (turned_same c.shorten.new.core c.turn_alone.new.self c.turn_alone.result turns)),
      stays_run c.self.inside.core c.turn_alone.new.self c.self.invariant.1 stays,
    )

pub returns-clause-settled : goal.returns-clause-settled
returns-clause-settled g c = c.turn_alone.ensures.turns.lone.empty

pub returns-clause-same : goal.returns-clause-same
returns-clause-same g c =
    same_of c.self.inside.core _ c.turn_alone.new.self c.self.view_is
    (same-then _ _ _ c.shorten.ensures.same (turned_same c.shorten.new.core c.turn_alone.new.self c.turn_alone.result c.turn_alone.ensures.turns))

pub returns-clause-uses : goal.returns-clause-uses
returns-clause-uses g c =
    uses_of c.self.inside.core _ c.turn_alone.new.self c.self.view_is
    (turned_stays c.shorten.new.core c.turn_alone.new.self c.turn_alone.result c.turn_alone.ensures.turns c.shorten.ensures.quiet c.turn_alone.ensures.index c.turn_alone.ensures.quiet)
