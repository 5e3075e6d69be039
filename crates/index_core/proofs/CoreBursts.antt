-- What the code of a burst has in hand, as facts on the index that it works on.
use Rattle.std.proofs.Common.{◌≡◌, ℕ, ◌<◌, length, get_or, refl, ap, sym, ◌∙◌, subst}
use Rattle.std.specs.Prelude.{Option, Some, IfSome, IsSome, IsSomeAnd}
use mathlib.Core.Option.{some}
use lib.ListN.{get_elem?}
use Rattle.pm_words.specs.Images.{Row}
use Rattle.machine_runs.specs.Runs.{AddsNothing}
use Rattle.call_stages.specs.declared.once.Once.{Once}
use Rattle.call_stages.specs.declared.once.Placed.{Placed}
use Rattle.node_ops.specs.declared.running.Running.{Running}
use Rattle.node_ops.specs.CallStages.{reply_of}
use Rattle.node_ops.specs.RunningSteps.{running_asks, IsRunning}
use Rattle.index_core.specs.declared.index.Core.TheInside.{Inside}
use Rattle.index_core.specs.declared.party.PartyState.{PartyState}
use Rattle.index_core.specs.Bursts.{BurstsSo, MayBurst}
use Rattle.index_core.specs.Cores.{IsCore, index_of, index_with}
use Rattle.index_core.specs.Indexes.{Index, IsIndex, IsInFlight}
use Rattle.index_core.specs.PartyStates.{state_after}
use Rattle.index_core.proofs.Bursting.{Left, burst_leaves, may_go}
use Rattle.index_core.proofs.Lists.{read_is, within}
use Rattle.index_core.proofs.Reading.{Reads, reads}
use Rattle.index_core.proofs.Stepping.{respare}

module _ (inside : Inside) (old : Index) (i : ℕ) (flies : IsInFlight old i) (view : index_of inside ≡ old) where
  -- the state is read at the party's place
  abbrev IsRead : PartyState → Type 0
  IsRead state = state ≡ get_or inside.states.items i state

  pub own_there : get_elem? (index_of inside).states i ≡ some flies.state
  own_there = ap (λ (v : Index). get_elem? v.states i) view ∙ flies.there

  pub core_within : i < length inside.states.items
  core_within = within inside.states.items i flies.state own_there

  state_read : (r : PartyState) → IsRead r → r ≡ flies.state
  state_read r found = read_is inside.states.items i flies.state r own_there found

  machine_of_read : (r : PartyState) → IsRead r → r.machine ≡ Some flies.machine
  machine_of_read r found = ap (λ (d : PartyState). d.machine) (state_read r found) ∙ flies.flies

  pub core_flies : (r : PartyState) → IsRead r → IsSome r.machine
  core_flies r found = subst IsSome (sym (machine_of_read r found)) refl

  module _ (core : IsCore inside) where
    pub core_index : IsIndex (index_of inside)
    core_index = respare (index_with inside 0) _ core.0

    core_reads : (r : PartyState) (machine : Running) → IsRead r → r.machine ≡ Some machine
        → Reads (index_of inside) i flies.state r flies.machine machine
    core_reads r machine found has =
        reads (index_of inside) old i flies r machine (ap (λ (v : Index). v.states) view) core_index found has

    pub core_runs : (r : PartyState) (machine : Running) → IsRead r → r.machine ≡ Some machine → IsRunning machine
    core_runs r machine found has =
        let at = core_reads r machine found has in subst IsRunning (sym at.found.same) at.facts.fits

    -- a burst may begin, where the machine adds to no word
    pub core_may : (r now : PartyState) (machine : Running) → IsRead r → r.machine ≡ Some machine
        → AddsNothing (running_asks machine) → IsRead now → IsSomeAnd now.machine (MayBurst inside.memory)
    core_may r now machine found has adds again =
        let at = core_reads r machine found has in
        let nothing = subst (λ (m : Running). AddsNothing (running_asks m)) at.found.same adds in
        let may = may_go (index_of inside) i flies.state flies.machine core_index own_there flies.flies in
        subst (λ (o : Option Running). IsSomeAnd o (MayBurst inside.memory)) (sym (machine_of_read now again))
        (may, nothing)

    -- it is a burst of the party's machine, which has made this of the party, and of the row
    abbrev IsBurst : PartyState → PartyState → Row → Option (Once Placed) → ℕ → ℕ → Running → Type 0
    IsBurst was now row result begun ended machine =
        BurstsSo inside.memory row machine begun ended (λ end. (now ≡ state_after was end) × (result ≡ reply_of end))

    -- and what it has made of the index
    pub core_left : (r now : PartyState) (row : Row) (result : Option (Once Placed)) (begun ended : ℕ) → IsRead r
        → IfSome r.machine (IsBurst r now row result begun ended)
        → Left (index_of inside) i flies.state flies.machine core_index own_there flies.flies row now result begun ended
    core_left r now row result begun ended found so =
        burst_leaves (index_of inside) i flies.state flies.machine core_index own_there flies.flies
        (subst (λ (o : Option Running). IfSome o (IsBurst flies.state now row result begun ended)) flies.flies
        (subst (λ (d : PartyState). IfSome d.machine (IsBurst d now row result begun ended)) (state_read r found) so))
