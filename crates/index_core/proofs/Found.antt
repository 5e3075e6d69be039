-- What the code of a step reads of its party: its state, and what that has in flight.
use Rattle.std.proofs.Common.{◌≡◌, ℕ, List, get_or, sym, ap, ◌∙◌}
use Rattle.std.specs.Prelude.{Option, Some}
use mathlib.Core.Option.{some}
use lib.ListN.{get_elem?}
use Rattle.index_core.specs.declared.party.PartyState.{PartyState}
use Rattle.index_core.specs.Indexes.{HasInFlight, Index}
use Rattle.index_core.proofs.Lists.{read_is, some_same}

-- The state r that it reads is the party's, e, and what it reads in that is the party's, m.
pub record Found {A : Type 0} (s : Index) (i : ℕ) (e r : PartyState) (m read : A) : Type 0 where
  pub there : get_elem? s.states i ≡ some e
  pub state : r ≡ e
  pub same : read ≡ m

pub finds : {A : Type 0} → (held : PartyState → Option A) (s old : Index) (i : ℕ) (f : HasInFlight held old i) (r : PartyState) (read : A)
    → s.states ≡ old.states → r ≡ get_or s.states i r → held r ≡ Some read → Found s i f.state r f.machine read
finds held s old i f r read states found has =
    let there = ap (λ (l : List PartyState). get_elem? l i) states ∙ f.there in
    let state = read_is s.states i f.state r there found in
    record { there = there; state = state; same = some_same (sym has ∙ ap held state ∙ f.flies) }
