use Rattle.std.proofs.Common.{arith}
use Rattle.index_core.specs.declared.party.PartyState.{PartyState}
use Rattle.index_core.proofs.PartyPlaces.{busy_tests, busy_within}
use Rattle.index_core.proofs.index.Core.flies.Goals as goal

pub index-requires : goal.index-requires
index-requires c = omega (arith, busy_within c.self.inside c.args.self.now c.args.party c.self.view_is c.requires, c.self.inside.states.ok.0)

pub returns : goal.returns
returns c = busy_tests (λ (d : PartyState). d.machine) c.self.inside c.args.self.now c.args.party c.self.view_is c.requires c.index.result.now c.index.ensures _ c.flies.ensures
