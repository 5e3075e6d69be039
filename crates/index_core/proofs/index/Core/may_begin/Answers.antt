use Rattle.std.proofs.Common.{◌≡◌, true, refl, subst}
use Rattle.index_core.specs.PartyStates.{is_busy}
use Rattle.index_core.specs.Indexes.{IsBusy, IsIndex}
use Rattle.index_core.proofs.Busy.{busy_told, busy_tells}
use Rattle.index_core.proofs.PartyPlaces.{caller_within, test_tells}
use Rattle.index_core.proofs.Stepping.{respare}
use Rattle.index_core.proofs.index.Core.may_begin.Goals.{After-is_busy}
use Rattle.index_core.proofs.index.Core.may_begin.Goals as goal

-- what it has read of the party
told : (c : After-is_busy) → (c.is_busy.result ≡ true → IsBusy c.args.self.now c.args.party) × (IsBusy c.args.self.now c.args.party → c.is_busy.result ≡ true)
told c =
    let s = c.args.self.now in
    let i = c.args.party in
    test_tells c.self.inside s i c.self.view_is c.index.result.now (caller_within c.self.inside s i c.self.view_is c.self.invariant.0 c.requires) c.index.ensures
    c.is_busy.result is_busy (IsBusy s i) c.is_busy.ensures (busy_told s i) (busy_tells s i)

pub returns-then-is_busy-clause-in_flight : goal.returns-then-is_busy-clause-in_flight
returns-then-is_busy-clause-in_flight c =
    (λ _. (told (goal.at.returns-then-is_busy-clause-in_flight c).After-is_busy).0 c.if-is_busy.true, λ _. refl)

pub returns-clause-in_flight : goal.returns-clause-in_flight
returns-clause-in_flight c = (
  λ (no : _). absurd (cc),
  λ (busy : IsBusy c.args.self.now c.args.party).
      let yes = (told (goal.at.returns-clause-in_flight c).After-is_busy).1 busy in
      let is = c.if-is_busy.false in
      absurd (cc),
)

pub returns-then-is_busy-clause-index : goal.returns-then-is_busy-clause-index
returns-then-is_busy-clause-index c = subst IsIndex c.self.view_is (respare _ _ c.self.invariant.0)

pub returns-clause-index : goal.returns-clause-index
returns-clause-index c = subst IsIndex c.self.view_is (respare _ _ c.self.invariant.0)
